-- What is known of statements and models, as it is kept in sets and maps.
use Rattle.std.specs.Prelude.{◌≡◌, ℕ, ◌+◌, ◌<◌, ◌==◌, min, length, Bool, true, false, nat_lt, List, Option, Some, None, IfSome, is_some, bytes_eq, slice_get, slice_index_or, if◌then◌else◌}
use Rattle.std.specs.Borrow.{Bor}
use Rattle.std.specs.Option.{option_map}
use Rattle.std.specs.HashSet.{HashSet, contains}
use Rattle.std.specs.HashMap.{HashMap, get, get_by}
use Rattle.knx_model.specs.declared.catalogue.model.Model.{Model}
use Rattle.knx_model.specs.declared.catalogue.model.ModelField.{ModelField}
use Rattle.knx_model.specs.declared.catalogue.model.ModelObject.{ModelObject}
use Rattle.knx_model.specs.declared.catalogue.model.NamedModel.{NamedModel}
use Rattle.knx_model.specs.declared.project.Statement.{Statement}
use Rattle.knx_model.specs.declared.project.What.{What}
use Rattle.knx_model.specs.declared.project.What.TheVariants.{Group, Device, Object, Link as LinkStated}
use Rattle.knx_model.specs.Models.{model_named, object_in, field_in}
use Rattle.knx_model.specs.Rules.{some_line, count_lines, count_links, first_some, declares_group, declares_device, declares_object, is_device_line, size_in, model_in, model_of, size_of, first_linked, duplicate_device, duplicate_group, too_many_devices, too_many_links}
use Rattle.project_check.specs.Keys.{object_eq, range_of, index_of, names_model}
use Rattle.project_check.specs.Links.{IsFirstRepeat, AreAscending}
use Rattle.project_check.specs.declared.declared.Declared.{Declared}
use Rattle.project_check.specs.declared.earlier.Earlier.{Earlier}
use Rattle.project_check.specs.declared.group_object.GroupObject.{GroupObject}
use Rattle.project_check.specs.declared.known.KnownObject.{KnownObject}
use Rattle.project_check.specs.declared.models.Range.{Range}
use Rattle.project_check.specs.declared.earlier.Repeated.{Repeated}
use Rattle.project_check.specs.declared.known.KnownParameter.{KnownParameter}
use Rattle.project_check.specs.declared.models.ModelIndex.{ModelIndex}
use Rattle.project_check.specs.declared.named_models.NamedModels.{NamedModels}
use Rattle.project_check.specs.declared.rules.Gathered.{Gathered}
use Rattle.project_check.specs.declared.rules.Whole.{Whole}

-- ---- of addresses

-- the table holds f(a) for each address a
abbrev pub Holds : {T : Type 0} → List T → (ℕ → T) → Type 0
Holds {T} table f = (a : ℕ) (value : T) → slice_get table a ≡ Some value → value ≡ f a

-- ---- of a model

abbrev pub code_of : ModelObject → ℕ
code_of o = o.size

-- the size code of an object of this number
abbrev pub code_at : ℕ → ModelObject → Option ℕ
code_at n o = if o.n == n then Some o.size else None

-- the range of a parameter of this name
abbrev pub range_at : List ℕ → ModelField → Option Range
range_at name f = if bytes_eq f.name name then Some (range_of f) else None

-- the maps are those of the model
pub record Indexes (index : ModelIndex) (m : Model) : Type 0 where
  pub sizes : (n : ℕ) → n < 256 → slice_index_or index.sizes n None ≡ option_map code_of (object_in m.objects n)
  pub ranges : (name : List ℕ) → get_by (λ key. bytes_eq name key.now) index.ranges ≡ option_map range_of (field_in m.parameters name)

-- the maps are those of the model, where there is one
abbrev pub IndexesNamed : Option ModelIndex → Option Model → Type 0
IndexesNamed None None = Unit {0}
IndexesNamed None (Some m) = ⊥
IndexesNamed (Some index) None = ⊥
IndexesNamed (Some index) (Some m) = Indexes index m

-- ---- of all statements

-- each model that is kept is the one of its name
abbrev pub AreRight : {S : Type 0} → List NamedModel → HashMap (Bor (List ℕ)) (Option ModelIndex) S → Type 0
AreRight catalogue models = (name : List ℕ) → IfSome (get_by (λ key. bytes_eq name key.now) models) (λ index. IndexesNamed index (model_named catalogue name))

-- the models are those that these statements name
pub record AreNamed (catalogue : List NamedModel) (named : NamedModels) (ss : List Statement) : Type 0 where
  pub present : (name : List ℕ) → is_some (get_by (λ key. bytes_eq name key.now) named.models) ≡ some_line (names_model name) ss
  pub right : AreRight catalogue named.models

-- what is kept of a device, where this is the model that its first `device` line names
abbrev pub IsKept : List NamedModel → Option (Option (Bor ModelIndex)) → Option (List ℕ) → Type 0
IsKept catalogue None None = Unit {0}
IsKept catalogue None (Some name) = ⊥
IsKept catalogue (Some kept) None = ⊥
IsKept catalogue (Some kept) (Some name) = IndexesNamed (option_map index_of kept) (model_named catalogue name)

-- the table keeps the models of the devices' names
abbrev pub KeepsModels : List NamedModel → List (Option (Option (Bor ModelIndex))) → (ℕ → Option (List ℕ)) → Type 0
KeepsModels catalogue devices names = (a : ℕ) (kept : Option (Option (Bor ModelIndex))) → slice_get devices a ≡ Some kept → IsKept catalogue kept (names a)

-- the tables and maps are those of these statements
pub record Declares (catalogue : List NamedModel) (d : Declared) (ss : List Statement) : Type 0 where
  pub groups : Holds d.groups (λ g. some_line (declares_group g) ss)
  pub devices : KeepsModels catalogue d.devices (λ a. first_some (model_in a) ss)
  pub sizes : (o : GroupObject) → get object_eq d.sizes o ≡ first_some (size_in o.device o.number) ss

-- whether the model of a device is known, and the size of its object n
abbrev pub known_object : List NamedModel → List Statement → ℕ → ℕ → KnownObject
known_object catalogue ss d n = record { modelled = is_some (model_of catalogue ss d); size = size_of catalogue ss d n }

-- the range of a model's parameter of this name
abbrev pub range_in : Option Model → List ℕ → Option Range
range_in None name = None
range_in (Some m) name = option_map range_of (field_in m.parameters name)

-- whether the model of a device is known, and the range of its parameter of this name
abbrev pub known_parameter : List NamedModel → List Statement → ℕ → List ℕ → KnownParameter
known_parameter catalogue ss d name = record { modelled = is_some (model_of catalogue ss d); range = range_in (model_of catalogue ss d) name }

-- what is known of a device's object
abbrev pub known_at : List NamedModel → List Statement → ℕ × ℕ → KnownObject
known_at catalogue ss o = known_object catalogue ss o.0 o.1

-- this is known of the group objects of the groups' first `link` lines
abbrev pub FirstObjects : List NamedModel → List Statement → List (Option KnownObject) → Type 0
FirstObjects catalogue ss objects = Holds objects (λ g. option_map (known_at catalogue ss) (first_linked ss g))

-- of a text but of its links
pub record Gathers (catalogue : List NamedModel) (g : Gathered) (ss : List Statement) : Type 0 where
  pub models : AreNamed catalogue g.models.now ss
  pub declared : Declares catalogue g.declared ss
  pub first_objects : FirstObjects catalogue ss g.first_objects

-- of a whole text
pub record DeclaresAll (catalogue : List NamedModel) (w : Whole) (ss : List Statement) : Type 0 where
  pub models : AreNamed catalogue w.models.now ss
  pub declared : Declares catalogue w.declared ss
  pub first_objects : FirstObjects catalogue ss w.first_objects
  pub first_repeat : IsFirstRepeat ss w.first_repeat
  pub links : AreAscending w.links.items ss

-- the model that a `device` line names stands in a line of the text
abbrev pub IsNamed : List Statement → What → Type 0
IsNamed ss what = (name : List ℕ) → names_model name what ≡ true → some_line (names_model name) ss ≡ true

-- ---- of the statements before a line

-- a count that stops at 65,535
abbrev pub capped : ℕ → ℕ
capped n = min n 65535

-- one more, where a line counts
abbrev pub counted : Bool → ℕ → ℕ
counted counts n = if counts then capped (n + 1) else n

-- more links of a device, by a line
abbrev pub with_links : ℕ → What → ℕ → ℕ
with_links d (LinkStated device object groups) n = if device.raw == d then capped (n + length groups) else n
with_links d _ n = n

-- the tables, the set and the counts are those of these statements
pub record Precedes (e : Earlier) (ss : List Statement) : Type 0 where
  pub groups : Holds e.groups (λ g. some_line (declares_group g) ss)
  pub devices : Holds e.devices (λ d. some_line (declares_device d) ss)
  pub objects : (o : GroupObject) → contains object_eq e.objects o ≡ some_line (declares_object o.device o.number) ss
  pub device_lines : e.device_lines ≡ capped (count_lines is_device_line ss)
  pub links : Holds e.links (λ d. capped (count_links d ss))

-- a test of the group or the device that a line declares
abbrev pub of_group : (ℕ → Bool) → What → Bool
of_group test (Group group name) = test group.raw
of_group test _ = false

abbrev pub of_device : (ℕ → Bool) → What → Bool
of_device test (Device device model) = test device.raw
of_device test _ = false

-- what an `object` line declares is in the set already
abbrev pub has_its_object : {S : Type 0} → HashSet GroupObject S → What → Bool
has_its_object objects (Object device n size flags) = contains object_eq objects (record { device = device.raw; number = n })
has_its_object objects _ = false

-- a `link` line brings its device to more links than it may have, by a count of those before
abbrev pub exceeds_links : (ℕ → ℕ) → What → Bool
exceeds_links count (LinkStated device object groups) = nat_lt 2047 (capped (count device.raw + length groups))
exceeds_links count _ = false

-- an `object` line's number stands in an earlier one of its device
abbrev pub repeats_object : List Statement → What → Bool
repeats_object earlier (Object device n size flags) = some_line (declares_object device.raw n) earlier
repeats_object earlier _ = false

-- what of a line stands in the lines before it, but for its link
abbrev pub repeats : List Statement → What → Repeated
repeats earlier what = record {
  device = duplicate_device earlier what;
  group = duplicate_group earlier what;
  object = repeats_object earlier what;
  devices_full = too_many_devices earlier what;
  links_full = too_many_links earlier what;
}
