-- Which words spell which statement in a text of a version. The first word tells the kind, and each further word is spelled as its
-- place asks.
use Rattle.std.specs.Prelude.{◌≡◌, ℕ, ◌<◌, ◌≤◌, Bool, true, ◌==◌, slice_get, codes, List, [], ◌∷◌, length, map, Some}
use Rattle.std.specs.Str.Lines.{lines}
use Rattle.knx_model.specs.declared.address.GroupAddr.{GroupAddr}
use Rattle.knx_model.specs.declared.address.IndAddr.{IndAddr}
use Rattle.knx_model.specs.declared.project.TextVersion.{TextVersion}
use Rattle.knx_model.specs.declared.project.TextVersion.TheVariants.{Two}
use Rattle.knx_model.specs.declared.project.What.{What}
use Rattle.knx_model.specs.declared.project.What.TheVariants.{Version, Title, Group, Device, Object, Link, Send, Flags, Param}
use Rattle.knx_model.specs.Words.{words, without_comment}
use Rattle.knx_model.specs.Numbers.{number_value}
use Rattle.knx_model.specs.Addresses.{group_by, ind_value}
use Rattle.knx_model.specs.Flags.{flags_value}
use Rattle.knx_model.specs.Sizes.{size_value}
use Rattle.knx_model.specs.Statements.{object_value, name_value, most_groups}

-- each word spells the group at its place
abbrev pub SpellGroups : TextVersion → List (List ℕ) → List GroupAddr → Type 0
SpellGroups version words groups = map (group_by version) words ≡ map Some groups

-- the words of a line spell the statement; whether the line is the first one with words
pub data SpellsStatement (version : TextVersion) (is_first : Bool) : List (List ℕ) → What → Type 0 where
  -- version 2
  VersionLine : (number : List ℕ) → is_first ≡ true → number_value number ≡ Some 2 → SpellsStatement version is_first (codes "version" ∷ number ∷ []) Version
  -- project NAME
  TitleLine : (name : List ℕ) → name_value name ≡ Some name → SpellsStatement version is_first (codes "project" ∷ name ∷ []) (Title name)
  -- ga GA NAME
  GroupLine : (address name : List ℕ) (g : GroupAddr) → group_by version address ≡ Some g → name_value name ≡ Some name
      → SpellsStatement version is_first (codes "ga" ∷ address ∷ name ∷ []) (Group g name)
  -- device IA MODEL
  DeviceLine : (address model : List ℕ) (d : IndAddr) → ind_value address ≡ Some d → name_value model ≡ Some model
      → SpellsStatement version is_first (codes "device" ∷ address ∷ model ∷ []) (Device d model)
  -- object IA N SIZE FLAGS
  ObjectLine : (address number size flags : List ℕ) (d : IndAddr) (n code octet : ℕ) → ind_value address ≡ Some d → object_value number ≡ Some n
      → size_value size ≡ Some code → flags_value flags ≡ Some octet → SpellsStatement version is_first (codes "object" ∷ address ∷ number ∷ size ∷ flags ∷ []) (Object d n code octet)
  -- link IA N GA, with as many groups as the version lets it have
  LinkLine : (address number : List ℕ) (words : List (List ℕ)) (d : IndAddr) (n : ℕ) (groups : List GroupAddr) → ind_value address ≡ Some d → object_value number ≡ Some n
      → SpellGroups version words groups → 0 < length groups → length groups ≤ most_groups version
      → SpellsStatement version is_first (codes "link" ∷ address ∷ number ∷ words) (Link d n groups)
  -- send IA N GA, from version 2 on
  SendLine : (address number group : List ℕ) (d : IndAddr) (n : ℕ) (g : GroupAddr) → version ≡ Two → ind_value address ≡ Some d → object_value number ≡ Some n
      → group_by Two group ≡ Some g → SpellsStatement version is_first (codes "send" ∷ address ∷ number ∷ group ∷ []) (Send d n g)
  -- flags IA N FLAGS
  FlagsLine : (address number flags : List ℕ) (d : IndAddr) (n octet : ℕ) → ind_value address ≡ Some d → object_value number ≡ Some n
      → flags_value flags ≡ Some octet → SpellsStatement version is_first (codes "flags" ∷ address ∷ number ∷ flags ∷ []) (Flags d n octet)
  -- param IA NAME VALUE
  ParamLine : (address name value : List ℕ) (d : IndAddr) (n : ℕ) → ind_value address ≡ Some d → name_value name ≡ Some name
      → number_value value ≡ Some n → SpellsStatement version is_first (codes "param" ∷ address ∷ name ∷ value ∷ []) (Param d name n)

-- how many of its words a statement needs
abbrev pub needed : What → ℕ
needed Version = 2
needed (Title name) = 2
needed (Group group name) = 3
needed (Device device model) = 3
needed (Object device n size flags) = 5
needed (Link device object groups) = 4
needed (Send device object group) = 4
needed (Flags device object flags) = 4
needed (Param device name value) = 4

-- a statement takes no further word: a `link` line that has as many groups as it may, and each other one
abbrev pub is_full : TextVersion → What → Bool
is_full version (Link device object groups) = length groups == most_groups version
is_full version _ = true

-- the first line with words is `version 2`
pub record TellsVersion2 (octets : List ℕ) : Type 0 where
  pub at : ℕ
  pub line : List ℕ
  pub number : List ℕ
  pub there : slice_get (lines octets) at ≡ Some line
  pub told : words (without_comment line) ≡ codes "version" ∷ number ∷ []
  pub two : number_value number ≡ Some 2
  pub first : (k : ℕ) (earlier : List ℕ) → k < at → slice_get (lines octets) k ≡ Some earlier → words (without_comment earlier) ≡ []
