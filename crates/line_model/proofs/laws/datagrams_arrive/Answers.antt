use Rattle.line_model.proofs.laws.datagrams_arrive.Goals as goal
use Rattle.line_model.proofs.Networks.{younger_pass, none_older, none_third, none_later}

pub returns-clause-young : goal.returns-clause-young
returns-clause-young c = younger_pass

pub returns-clause-old : goal.returns-clause-old
returns-clause-old c = none_older

pub returns-clause-twice : goal.returns-clause-twice
returns-clause-twice c = none_third

pub returns-clause-late : goal.returns-clause-late
returns-clause-late c = none_later
