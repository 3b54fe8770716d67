use Rattle.line_model.proofs.runs.a_session_reads_the_descriptor.Goals as goal
use Rattle.line_model.proofs.Sessions.{legal, follows, disciplined, refused}

pub returns-clause-legal : goal.returns-clause-legal
returns-clause-legal c = legal

pub returns-clause-follows : goal.returns-clause-follows
returns-clause-follows c = follows

pub returns-clause-disciplined : goal.returns-clause-disciplined
returns-clause-disciplined c = disciplined

pub returns-clause-refused : goal.returns-clause-refused
returns-clause-refused c = refused
