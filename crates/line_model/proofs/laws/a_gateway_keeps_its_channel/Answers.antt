use Rattle.line_model.proofs.laws.a_gateway_keeps_its_channel.Goals as goal
use Rattle.line_model.proofs.Channels.{same, one, waits, closes, drops, unknown}

pub returns-clause-same : goal.returns-clause-same
returns-clause-same c = same

pub returns-clause-one : goal.returns-clause-one
returns-clause-one c = one

pub returns-clause-waits : goal.returns-clause-waits
returns-clause-waits c = waits

pub returns-clause-closes : goal.returns-clause-closes
returns-clause-closes c = closes

pub returns-clause-drops : goal.returns-clause-drops
returns-clause-drops c = drops

pub returns-clause-unknown : goal.returns-clause-unknown
returns-clause-unknown c = unknown
