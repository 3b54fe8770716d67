use Rattle.line_model.proofs.runs.a_job_fails_by_three_signs.Goals as goal
use Rattle.line_model.proofs.Disturbed.{unheard_legal, unheard_follows, unheard_told, gives_up}

pub returns-clause-legal : goal.returns-clause-legal
returns-clause-legal c = unheard_legal

pub returns-clause-follows : goal.returns-clause-follows
returns-clause-follows c = unheard_follows

pub returns-clause-told : goal.returns-clause-told
returns-clause-told c = unheard_told

pub returns-clause-spent : goal.returns-clause-spent
returns-clause-spent c = gives_up
