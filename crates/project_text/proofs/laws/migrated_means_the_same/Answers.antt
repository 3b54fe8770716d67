use Rattle.knx_model.specs.Statements.{are_spelled, version_of}
use Rattle.std.proofs.lemmas.Bool.{and_parts}
use Rattle.project_text.proofs.SameMeaning.{same_meaning}
use Rattle.project_text.proofs.laws.migrated_means_the_same.Goals as goal

pub returns : goal.returns
returns c = λ statements catalogue device e. same_meaning (version_of statements) catalogue device statements (and_parts (are_spelled (version_of statements) statements) _ e).0
