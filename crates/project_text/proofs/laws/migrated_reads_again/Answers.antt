use Rattle.knx_model.specs.Statements.{are_spelled, version_of}
use Rattle.std.proofs.lemmas.Bool.{and_parts}
use Rattle.project_text.proofs.MigratedAgain.{migrated_spellable, migrated_numbered, migrated_read}
use Rattle.project_text.proofs.laws.migrated_reads_again.Goals as goal

pub returns-clause-spelled : goal.returns-clause-spelled
returns-clause-spelled c = λ statements e. migrated_spellable (version_of statements) statements (and_parts (are_spelled (version_of statements) statements) _ e).0

pub returns-clause-numbered : goal.returns-clause-numbered
returns-clause-numbered c = migrated_numbered

pub returns-clause-read : goal.returns-clause-read
returns-clause-read c = λ statements e short. migrated_read (version_of statements) statements (and_parts (are_spelled (version_of statements) statements) _ e).0 short
