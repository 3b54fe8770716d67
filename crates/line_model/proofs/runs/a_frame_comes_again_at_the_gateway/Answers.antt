use Rattle.line_model.proofs.runs.a_frame_comes_again_at_the_gateway.Goals as goal
use Rattle.line_model.proofs.Disturbed.{again_legal, again_waits, first_on_its_way}

pub returns-clause-legal : goal.returns-clause-legal
returns-clause-legal c = again_legal

pub returns-clause-waits : goal.returns-clause-waits
returns-clause-waits c = again_waits

pub returns-clause-before : goal.returns-clause-before
returns-clause-before c = first_on_its_way
