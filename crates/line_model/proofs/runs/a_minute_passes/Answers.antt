use Rattle.line_model.proofs.runs.a_minute_passes.Goals as goal
use Rattle.line_model.proofs.Waits.{passes, beats}

pub returns-clause-follows : goal.returns-clause-follows
returns-clause-follows c = passes

pub returns-clause-sends : goal.returns-clause-sends
returns-clause-sends c = beats
