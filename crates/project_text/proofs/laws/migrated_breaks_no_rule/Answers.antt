use Rattle.project_text.proofs.MigratedSound.{migrated_sound}
use Rattle.project_text.proofs.laws.migrated_breaks_no_rule.Goals as goal

pub returns : goal.returns
returns c = migrated_sound
