use Rattle.std.proofs.Common.{◌∙◌, ap}
use Rattle.std.specs.Prelude.{is_some}
use Rattle.script_index.specs.Places.{value_at}
use Rattle.script_index.proofs.Says.{repeat_down}
use Rattle.script_index.proofs.index.ScriptIndex.repeats_down.Goals as goal

pub returns : goal.returns
returns c = λ script stands. c.is_said.ensures script stands ∙ ap (λ place. is_some (value_at place script)) c.new.ensures ∙ repeat_down c.args.n script
