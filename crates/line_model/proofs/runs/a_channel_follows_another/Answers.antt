use Rattle.line_model.proofs.runs.a_channel_follows_another.Goals as goal
use Rattle.line_model.proofs.Disturbed.{second_legal, second_renews}

pub returns-clause-legal : goal.returns-clause-legal
returns-clause-legal c = second_legal

pub returns-clause-renews : goal.returns-clause-renews
returns-clause-renews c = second_renews
