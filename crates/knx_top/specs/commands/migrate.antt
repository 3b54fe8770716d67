-- `migrate P`: the project as one of version 2.
use Rattle.std.specs.Prelude.{ℕ, ◌≤◌, List, length, None, Ok, ◌≡◌}
use Rattle.knx_model.specs.declared.address.IndAddr.{IndAddr}
use Rattle.knx_model.specs.Meaning.{Installation, meaning}
use Rattle.knx_model.specs.Rules.{first_broken}
use Rattle.knx_model.specs.Statements.{reading}
use Rattle.project_text.specs.Migrated.{migrated}
use Rattle.project_text.specs.Printing.{printed}

-- the project with its migrated statements
abbrev pub migrated_in : Installation → Installation
migrated_in i = record { statements = migrated i.statements; catalogue = i.catalogue }

-- `migrate`: the text of the migrated project. It means for each device what the project means, breaks no rule, stays as it is when migrated once more,
-- and its text reads as it, where it isn't too long
pub record IsMigratedText (i : Installation) (text : List ℕ) : Type 0 where
  pub is : text ≡ printed (migrated i.statements)
  pub same : (device : IndAddr) → meaning (migrated_in i) device ≡ meaning i device
  pub sound : first_broken i.catalogue (migrated i.statements) ≡ None
  pub twice : migrated (migrated i.statements) ≡ migrated i.statements
  pub again : length text ≤ 4194304 → reading text ≡ Ok (migrated i.statements)
