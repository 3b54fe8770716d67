use Rattle.std.proofs.Common.{◌∙◌, ap}
use Rattle.std.specs.Prelude.{is_some}
use Rattle.script_index.specs.Places.{value_at}
use Rattle.script_index.proofs.Says.{drop}
use Rattle.script_index.proofs.index.ScriptIndex.drops.Goals as goal

pub returns : goal.returns
returns c = λ script stands. c.is_said.ensures script stands ∙ ap (λ place. is_some (value_at place script)) c.new.ensures ∙ drop c.args.n script
