use Rattle.std.proofs.Common.{◌≡◌, true, subst}
use Rattle.knx_model.specs.declared.project.What.{What}
use Rattle.knx_model.specs.Statements.{is_spellable}
use Rattle.project_text.proofs.migration.put_kept.Goals as goal

pub again-requires : goal.again-requires
again-requires c = subst (λ (w : What). is_spellable c.requires.0 w ≡ true) c.in-Title.is c.requires.1
