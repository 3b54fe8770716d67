use Rattle.table_compiler.proofs.Compiled.{inline_sound}
use Rattle.table_compiler.proofs.models.model_named.Goals as goal

pub returns-then-eq-clause-sound : goal.returns-then-eq-clause-sound
returns-then-eq-clause-sound c = rw c.requires inline_sound

pub returns-in-None-clause-sound : goal.returns-in-None-clause-sound
returns-in-None-clause-sound c = rw c.requires inline_sound
