-- The groups of a `link` line, as they are kept.
use Rattle.std.specs.Prelude.{List, [], ◌∷◌, Option, Some, None}
use Rattle.knx_model.specs.declared.address.GroupAddr.{GroupAddr}

-- the several groups, or the single one where none are kept
abbrev pub groups_kept : GroupAddr → Option (List GroupAddr) → List GroupAddr
groups_kept single None = single ∷ []
groups_kept single (Some several) = several
