use Rattle.std.proofs.Common.{◌∙◌, ap}
use Rattle.std.specs.Prelude.{is_some}
use Rattle.script_index.specs.Places.{value_at}
use Rattle.script_index.proofs.Says.{lose_from}
use Rattle.script_index.proofs.index.ScriptIndex.loses_from.Goals as goal

pub returns : goal.returns
returns c = λ script stands. c.is_said.ensures script stands ∙ ap (λ place. is_some (value_at place script)) c.new.ensures ∙ lose_from c.args.device.raw c.args.n script
