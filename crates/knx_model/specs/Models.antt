-- The models of a catalogue: what each says of a device, and when it breaks no rule. The catalogue is this project's own.
use Rattle.std.specs.Prelude.{◌≡◌, ◌⊎◌, ℕ, ◌+◌, ◌*◌, ◌^◌, ◌<◌, ◌≤◌, ◌%◌, Bool, true, ◌==◌, is_some, bytes_eq, nat_eq, codes, List, [], ◌∷◌, map, All, Option, Some, None, if◌then◌else◌}
use Rattle.std.specs.List.{IsDistinct}
use Rattle.knx_model.specs.declared.catalogue.model.Model.{Model}
use Rattle.knx_model.specs.declared.catalogue.model.ModelField.{ModelField}
use Rattle.knx_model.specs.declared.catalogue.model.ModelObject.{ModelObject}
use Rattle.knx_model.specs.declared.catalogue.model.NamedModel.{NamedModel}
use Rattle.knx_model.specs.Numbers.{is_name}

-- ---- what a model says

-- a device that is declared `inline` has no objects and no parameters
abbrev pub inline : Model
inline = record { params = 0; objects = []; parameters = [] }

abbrev pub in_catalogue : List NamedModel → List ℕ → Option Model
in_catalogue [] name = None
in_catalogue (m ∷ ms) name = if bytes_eq m.name name then Some m.model else in_catalogue ms name

-- the model of a name: `inline`, or the catalogue's
abbrev pub model_named : List NamedModel → List ℕ → Option Model
model_named catalogue name = if bytes_eq name (codes "inline") then Some inline else in_catalogue catalogue name

abbrev pub object_in : List ModelObject → ℕ → Option ModelObject
object_in [] n = None
object_in (o ∷ os) n = if o.n == n then Some o else object_in os n

abbrev pub field_in : List ModelField → List ℕ → Option ModelField
field_in [] name = None
field_in (f ∷ fs) name = if bytes_eq f.name name then Some f else field_in fs name

abbrev pub has_object : Model → ℕ → Bool
has_object m n = is_some (object_in m.objects n)

abbrev pub has_field : Model → List ℕ → Bool
has_field m name = is_some (field_in m.parameters name)

-- ---- a model that breaks no rule

abbrev pub number_of : ModelObject → ℕ
number_of o = o.n

abbrev pub name_of : ModelField → List ℕ
name_of f = f.name

pub record IsObject (o : ModelObject) : Type 0 where
  pub from_1 : 1 ≤ o.n
  pub up_to_255 : o.n ≤ 255
  pub size : o.size < 15
  pub flags : o.flags < 256
  pub priority : o.flags % 4 ≡ 3

-- a field of 1 to 32 bits lies within the parameter memory, and holds each of its values
pub record IsField (params : ℕ) (f : ModelField) : Type 0 where
  pub name : is_name f.name ≡ true
  pub some : 1 ≤ f.width
  pub short : f.width ≤ 32
  pub within : f.bit + f.width ≤ 8 * params
  pub least : f.min ≤ f.default
  pub greatest : f.default ≤ f.max
  pub holds : f.max < 2 ^ f.width

-- no bit is of both
abbrev pub AreApart : ModelField → ModelField → Type 0
AreApart f g = (f.bit + f.width ≤ g.bit) ⊎ (g.bit + g.width ≤ f.bit)

abbrev pub AllApart : List ModelField → Type 0
AllApart [] = Unit {0}
AllApart (f ∷ fs) = All (AreApart f) fs × AllApart fs

pub record IsModel (m : Model) : Type 0 where
  pub params : m.params ≤ 8192
  pub objects : All IsObject m.objects
  pub numbers : IsDistinct nat_eq (map number_of m.objects)
  pub fields : All (IsField m.params) m.parameters
  pub names : IsDistinct bytes_eq (map name_of m.parameters)
  pub apart : AllApart m.parameters

abbrev pub IsNamedModel : NamedModel → Type 0
IsNamedModel m = (is_name m.name ≡ true) × IsModel m.model
