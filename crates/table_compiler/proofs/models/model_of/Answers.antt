use Rattle.table_compiler.proofs.Compiled.{inline_sound}
use Rattle.table_compiler.proofs.models.model_of.Goals as goal

pub returns-in-None-clause-sound : goal.returns-in-None-clause-sound
returns-in-None-clause-sound c = rw c.requires inline_sound
