-- What a project means for one device: its links, its objects and its parameters, taken from the statements and the device's model
-- alone. No group is numbered here. The project language is this project's own.
use Rattle.std.specs.Prelude.{◌≡◌, ◌≢◌, ℕ, ◌<◌, ◌↔◌, Bool, false, IsTrue, slice_get, ◌&&◌, ◌==◌, bytes_eq, List, [], ◌∷◌, ◌++◌, map, fold, max, Option, Some, None, unwrap_or, if◌then◌else◌}
use Rattle.std.specs.Option.{option_or}
use Rattle.std.specs.List.{filter_map, flat_map, range_with_len, last_or}
use Rattle.knx_model.specs.declared.address.GroupAddr.{GroupAddr}
use Rattle.knx_model.specs.declared.address.IndAddr.{IndAddr}
use Rattle.knx_model.specs.declared.catalogue.model.Model.{Model}
use Rattle.knx_model.specs.declared.catalogue.model.ModelField.{ModelField}
use Rattle.knx_model.specs.declared.catalogue.model.ModelObject.{ModelObject}
use Rattle.knx_model.specs.declared.catalogue.model.NamedModel.{NamedModel}
use Rattle.knx_model.specs.declared.config.Config.{Config}
use Rattle.knx_model.specs.declared.config.LinkSpec.{LinkSpec}
use Rattle.knx_model.specs.declared.config.ObjSpec.{ObjSpec}
use Rattle.knx_model.specs.declared.config.ParamValue.{ParamValue}
use Rattle.knx_model.specs.declared.project.Statement.{Statement}
use Rattle.knx_model.specs.declared.project.What.{What}
use Rattle.knx_model.specs.declared.project.What.TheVariants.{Object, Link, Send, Flags, Param}
use Rattle.knx_model.specs.Models.{inline}
use Rattle.knx_model.specs.Rules.{first_some, model_of}

-- what a project text says, with the models of the catalogue that it is read with
pub record Installation : Type 0 where
  pub statements : List Statement
  pub catalogue : List NamedModel

-- ---- links

-- the object and the group of a link
abbrev pub link_to : ℕ → GroupAddr → ℕ × GroupAddr
link_to object group = (object, group)

-- those of a `link` line of the device, one for each of its groups
abbrev pub links_said : IndAddr → What → List (ℕ × GroupAddr)
links_said device (Link of object groups) = if of.raw == device.raw then map (link_to object) groups else []
links_said device _ = []

abbrev pub link_lines : IndAddr → List Statement → List (ℕ × GroupAddr)
link_lines device ss = flat_map (λ s. links_said device s.what) ss

-- the group in a `send` line of the object
abbrev pub send_line : IndAddr → ℕ → What → Option GroupAddr
send_line device n (Send of object group) = if (of.raw == device.raw) && (object == n) then Some group else None
send_line device n _ = None

-- that of the last such line
abbrev pub last_send : IndAddr → List Statement → ℕ → Option GroupAddr
last_send device ss n = last_or None (filter_map (λ s. send_line device n s.what) ss)

-- the group of the object's first link
abbrev pub first_group : List (ℕ × GroupAddr) → ℕ → Option GroupAddr
first_group [] n = None
first_group (line ∷ lines) n = if line.0 == n then Some line.1 else first_group lines n

-- the sending address of the object: the group of its last `send` line, or, where it has none, of its first link
abbrev pub sending_group : (ℕ → Option GroupAddr) → List (ℕ × GroupAddr) → ℕ → Option GroupAddr
sending_group sends lines n = option_or (sends n) (first_group lines n)

abbrev pub is_the_group : Option GroupAddr → GroupAddr → Bool
is_the_group None group = false
is_the_group (Some sending) group = sending.raw == group.raw

abbrev pub link_of : (ℕ → Option GroupAddr) → List (ℕ × GroupAddr) → ℕ × GroupAddr → LinkSpec
link_of sends lines line = record { object = line.0; group = line.1; sending = is_the_group (sending_group sends lines line.0) line.1 }

-- one link for each group of each `link` line, in order
unfoldable pub links_of : (ℕ → Option GroupAddr) → List (ℕ × GroupAddr) → List LinkSpec
links_of sends lines = map (link_of sends lines) lines

-- the same in the language's own words: a line of the object has the group, and no earlier one is of the object
pub record IsFirstGroup (lines : List (ℕ × GroupAddr)) (object : ℕ) (group : GroupAddr) : Type 0 where
  pub at : ℕ
  pub there : slice_get lines at ≡ Some (object, group)
  pub first : (k : ℕ) (earlier : ℕ × GroupAddr) → k < at → slice_get lines k ≡ Some earlier → earlier.0 ≢ object

-- the object sends to the group: its last `send` line says so, or it has none and this is the group of its first link
pub data IsSending (sends : ℕ → Option GroupAddr) (lines : List (ℕ × GroupAddr)) (object : ℕ) (group : GroupAddr) : Type 0 where
  BySend : sends object ≡ Some group → IsSending sends lines object group
  ByFirst : sends object ≡ None → IsFirstGroup lines object group → IsSending sends lines object group

-- a line says the link, which is the object's sending one exactly where the object sends to its group
pub record IsLinkOf (sends : ℕ → Option GroupAddr) (lines : List (ℕ × GroupAddr)) (link : LinkSpec) : Type 0 where
  pub at : ℕ
  pub said : slice_get lines at ≡ Some (link.object, link.group)
  pub sending : IsTrue link.sending ↔ IsSending sends lines link.object link.group

-- ---- objects

-- the number, flags and size of an object of the model
abbrev pub model_object : ModelObject → ℕ × ObjSpec
model_object o = (o.n, record { flags = o.flags; size = o.size })

-- the number, flags and size of an `object` line of the device
abbrev pub object_line : IndAddr → What → Option (ℕ × ObjSpec)
object_line device (Object of n size flags) = if of.raw == device.raw then Some (n, record { flags = flags; size = size }) else None
object_line device _ = None

-- the objects of the model and of the `object` lines
abbrev pub declared_objects : Model → IndAddr → List Statement → List (ℕ × ObjSpec)
declared_objects m device ss = map model_object m.objects ++ filter_map (λ s. object_line device s.what) ss

-- the flags in a `flags` line of the object
abbrev pub flags_line : IndAddr → ℕ → What → Option ℕ
flags_line device n (Flags of object flags) = if (of.raw == device.raw) && (object == n) then Some flags else None
flags_line device n _ = None

-- those of the last such line
abbrev pub last_flags : IndAddr → List Statement → ℕ → Option ℕ
last_flags device ss n = last_or None (filter_map (λ s. flags_line device n s.what) ss)

-- an object with the flags of its last `flags` line, where it has one
abbrev pub flagged : IndAddr → List Statement → ℕ × ObjSpec → ℕ × ObjSpec
flagged device ss o = (o.0, record { flags = unwrap_or (last_flags device ss o.0) o.1.flags; size = o.1.size })

abbrev pub flagged_objects : Model → IndAddr → List Statement → List (ℕ × ObjSpec)
flagged_objects m device ss = map (flagged device ss) (declared_objects m device ss)

-- the object of a number; a number without object has flags and size 0
abbrev pub object_of : List (ℕ × ObjSpec) → ℕ → ObjSpec
object_of [] n = record { flags = 0; size = 0 }
object_of (o ∷ os) n = if o.0 == n then o.1 else object_of os n

abbrev pub greatest : List (ℕ × ObjSpec) → ℕ
greatest objects = fold (λ most o. max most o.0) 0 objects

-- the objects from number 1 to the greatest
unfoldable pub objects_of : List (ℕ × ObjSpec) → List ObjSpec
objects_of objects = map (object_of objects) (range_with_len 1 (greatest objects))

-- ---- parameters

-- the value in a `param` line of the device's parameter
abbrev pub param_line : IndAddr → List ℕ → What → Option ℕ
param_line device parameter (Param of name value) = if (of.raw == device.raw) && bytes_eq name parameter then Some value else None
param_line device parameter _ = None

-- that of the last such line
abbrev pub last_value : IndAddr → List Statement → List ℕ → Option ℕ
last_value device ss parameter = last_or None (filter_map (λ s. param_line device parameter s.what) ss)

abbrev pub param_value : IndAddr → List Statement → ModelField → ParamValue
param_value device ss f = record { bit = f.bit; width = f.width; value = unwrap_or (last_value device ss f.name) f.default }

-- each parameter of the model, with the value of its last line or its default
unfoldable pub params_of : Model → IndAddr → List Statement → List ParamValue
params_of m device ss = map (param_value device ss) m.parameters

-- ---- the whole

abbrev pub or_inline : Option Model → Model
or_inline None = inline
or_inline (Some m) = m

-- the model of a device of the project
abbrev pub the_model : Installation → IndAddr → Model
the_model i device = or_inline (model_of i.catalogue i.statements device.raw)

abbrev pub meaning : Installation → IndAddr → Config
meaning i device = record {
  links = links_of (last_send device i.statements) (link_lines device i.statements);
  objects = objects_of (flagged_objects (the_model i device) device i.statements);
  param_len = (the_model i device).params;
  params = params_of (the_model i device) device i.statements;
}
