use Rattle.line_model.proofs.runs.datagrams_are_lost_and_repeated.Goals as goal
use Rattle.line_model.proofs.Disturbed.{lost_legal, lost_follows, twice_legal, twice_follows, acts_once, no_third}

pub returns-clause-lost : goal.returns-clause-lost
returns-clause-lost c = lost_legal

pub returns-clause-never : goal.returns-clause-never
returns-clause-never c = lost_follows

pub returns-clause-twice : goal.returns-clause-twice
returns-clause-twice c = twice_legal

pub returns-clause-repeated : goal.returns-clause-repeated
returns-clause-repeated c = twice_follows

pub returns-clause-once : goal.returns-clause-once
returns-clause-once c = acts_once

pub returns-clause-thrice : goal.returns-clause-thrice
returns-clause-thrice c = no_third
