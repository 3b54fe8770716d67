-- What the places of a statement's words want, behind its first word, in a text of a version.
use Rattle.std.specs.Prelude.{◌≡◌, ℕ, ◌<◌, codes, List, [], ◌∷◌, replicate}
use Rattle.knx_model.specs.declared.project.TextVersion.{TextVersion}
use Rattle.knx_model.specs.declared.project.TextVersion.TheVariants.{Two}
use Rattle.knx_model.specs.Places.{Place, a_group_by, a_device, an_object, a_size, a_number, a_name, some_flags}
use Rattle.knx_model.specs.Statements.{most_groups}

pub data Wants (version : TextVersion) : List ℕ → List Place → Type 0 where
  OfVersion : Wants version (codes "version") (a_number ∷ [])
  OfTitle : Wants version (codes "project") (a_name ∷ [])
  OfGroup : Wants version (codes "ga") (a_group_by version ∷ a_name ∷ [])
  OfDevice : Wants version (codes "device") (a_device ∷ a_name ∷ [])
  OfObject : Wants version (codes "object") (a_device ∷ an_object ∷ a_size ∷ some_flags ∷ [])
  -- of one group, and of k more
  OfLink : (k : ℕ) → k < most_groups version → Wants version (codes "link") (a_device ∷ an_object ∷ a_group_by version ∷ replicate k (a_group_by version))
  OfSend : version ≡ Two → Wants version (codes "send") (a_device ∷ an_object ∷ a_group_by Two ∷ [])
  OfFlags : Wants version (codes "flags") (a_device ∷ an_object ∷ some_flags ∷ [])
  OfParameter : Wants version (codes "param") (a_device ∷ a_name ∷ a_number ∷ [])
