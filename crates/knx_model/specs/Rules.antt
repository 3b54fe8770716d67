-- The rules that look at a whole project text, at the lines before a line and at the catalogue. Each is a sentence of its own; a line
-- breaks the one of the least number, and a text is refused at its least line that breaks one. The rules are this project's own.
use Rattle.std.specs.Prelude.{ℕ, ◌+◌, Bool, true, false, ◌&&◌, ◌||◌, not, ◌==◌, nat_le, nat_lt, is_none, count_by, sum_by, length, List, [], ◌∷◌, take, Option, Some, None, if◌then◌else◌}
use Rattle.std.specs.List.{list_any, filter_map, enumerate_from}
use Rattle.knx_model.specs.LeastLine.{first_refused}
use Rattle.knx_model.specs.declared.address.GroupAddr.{GroupAddr}
use Rattle.knx_model.specs.declared.address.IndAddr.{IndAddr}
use Rattle.knx_model.specs.declared.catalogue.model.Model.{Model}
use Rattle.knx_model.specs.declared.catalogue.model.ModelField.{ModelField}
use Rattle.knx_model.specs.declared.catalogue.model.ModelObject.{ModelObject}
use Rattle.knx_model.specs.declared.catalogue.model.NamedModel.{NamedModel}
use Rattle.knx_model.specs.declared.project.Statement.{Statement}
use Rattle.knx_model.specs.declared.project.What.{What}
use Rattle.knx_model.specs.declared.project.What.TheVariants.{Group, Device, Object, Link, Send, Flags, Param}
use Rattle.knx_model.specs.declared.refusal.Refused.{Refused}
use Rattle.knx_model.specs.declared.refusal.Why.{Why}
use Rattle.knx_model.specs.declared.refusal.Why.TheVariants.{DuplicateDevice, DuplicateGroup, UnknownGroup, UnknownModel, DuplicateObject, UnknownObject, DuplicateLink, UnknownParameter, OutOfRange, SizeDiffers, TooMany, NoDevice, NotLinked}
use Rattle.knx_model.specs.Models.{model_named, object_in, field_in, has_object, has_field}

-- ---- what statements declare. A device, an object and a group are named by their numbers.

-- a `ga` line declares the group
abbrev pub declares_group : ℕ → What → Bool
declares_group g (Group group name) = group.raw == g
declares_group g _ = false

-- a `device` line declares the device
abbrev pub declares_device : ℕ → What → Bool
declares_device d (Device device model) = device.raw == d
declares_device d _ = false

abbrev pub is_device_line : What → Bool
is_device_line (Device device model) = true
is_device_line _ = false

abbrev pub is_object_line : What → Bool
is_object_line (Object device number size flags) = true
is_object_line _ = false

-- the device of a `device` line
abbrev pub device_in : What → Option IndAddr
device_in (Device device model) = Some device
device_in _ = None

-- the devices of the `device` lines, in the order of the text
abbrev pub devices_of : List Statement → List IndAddr
devices_of ss = filter_map (λ s. device_in s.what) ss

-- an `object` line declares object n of the device
abbrev pub declares_object : ℕ → ℕ → What → Bool
declares_object d n (Object device number size flags) = (device.raw == d) && (number == n)
declares_object d n _ = false

-- the group is one of these
abbrev pub has_group : ℕ → List GroupAddr → Bool
has_group g groups = list_any (λ x. x.raw == g) groups

-- a `link` line links object n of the device to the group
abbrev pub links_to : ℕ → ℕ → ℕ → What → Bool
links_to d n g (Link device object groups) = (device.raw == d) && (object == n) && has_group g groups
links_to d n g _ = false

-- the links of a `link` line, one for each of its groups
abbrev pub links_in : What → ℕ
links_in (Link device object groups) = length groups
links_in _ = 0

-- those of the device
abbrev pub links_of_device : ℕ → What → ℕ
links_of_device d (Link device object groups) = if device.raw == d then length groups else 0
links_of_device d _ = 0

abbrev pub count_links : ℕ → List Statement → ℕ
count_links d ss = sum_by (λ s. links_of_device d s.what) ss

abbrev pub some_line : (What → Bool) → List Statement → Bool
some_line test ss = list_any (λ s. test s.what) ss

abbrev pub count_lines : (What → Bool) → List Statement → ℕ
count_lines test ss = count_by (λ s. test s.what) ss

-- the size in an `object` line of object n of the device
abbrev pub size_in : ℕ → ℕ → What → Option ℕ
size_in d n (Object device number size flags) = if (device.raw == d) && (number == n) then Some size else None
size_in d n _ = None

-- the device and the object of a `link` line of the group
abbrev pub linked_in : ℕ → What → Option (ℕ × ℕ)
linked_in g (Link device object groups) = if has_group g groups then Some (device.raw, object) else None
linked_in g _ = None

abbrev pub first_some : {X : Type 0} → (What → Option X) → List Statement → Option X
first_some f [] = None
first_some {X = X} f (s ∷ ss) = elim (f s.what) as (λ _. Option X) [ None ↦ first_some f ss | Some x ↦ Some x ]

-- the model's name in a `device` line of the device
abbrev pub model_in : ℕ → What → Option (List ℕ)
model_in d (Device device model) = if device.raw == d then Some model else None
model_in d _ = None

abbrev pub named_model : List NamedModel → Option (List ℕ) → Option Model
named_model catalogue None = None
named_model catalogue (Some name) = model_named catalogue name

-- the model of a device, that of its first `device` line; none where it has no such line or the model is unknown
abbrev pub model_of : List NamedModel → List Statement → ℕ → Option Model
model_of catalogue ss d = named_model catalogue (first_some (model_in d) ss)

abbrev pub size_of_object : Option ModelObject → Option ℕ
size_of_object None = None
size_of_object (Some o) = Some o.size

abbrev pub size_in_model : Option Model → ℕ → Option ℕ
size_in_model None n = None
size_in_model (Some m) n = size_of_object (object_in m.objects n)

abbrev pub or_else : Option ℕ → Option ℕ → Option ℕ
or_else None other = other
or_else (Some n) other = Some n

-- the size of object n of the device: that of its model, else that of its first `object` line
abbrev pub size_of : List NamedModel → List Statement → ℕ → ℕ → Option ℕ
size_of catalogue whole d n = or_else (size_in_model (model_of catalogue whole d) n) (first_some (size_in d n) whole)

-- the device and the object of the group's first `link` line
abbrev pub first_linked : List Statement → ℕ → Option (ℕ × ℕ)
first_linked whole g = first_some (linked_in g) whole

-- ---- the rules, of a line, the lines before it, the whole text and the catalogue

-- 9: a `device` line's address stands in an earlier one
abbrev pub duplicate_device : List Statement → What → Bool
duplicate_device earlier (Device device model) = some_line (declares_device device.raw) earlier
duplicate_device earlier _ = false

-- 10: a `ga` line's address stands in an earlier one
abbrev pub duplicate_group : List Statement → What → Bool
duplicate_group earlier (Group group name) = some_line (declares_group group.raw) earlier
duplicate_group earlier _ = false

-- no `ga` line declares the group
abbrev pub is_undeclared : List Statement → GroupAddr → Bool
is_undeclared whole group = not (some_line (declares_group group.raw) whole)

-- 11: a group of a `link` or `send` line stands in no `ga` line
abbrev pub unknown_group : List Statement → What → Bool
unknown_group whole (Link device object groups) = list_any (is_undeclared whole) groups
unknown_group whole (Send device object group) = is_undeclared whole group
unknown_group whole _ = false

-- 12: a `device` line's model is neither `inline` nor in the catalogue
abbrev pub unknown_model : List NamedModel → What → Bool
unknown_model catalogue (Device device model) = is_none (model_named catalogue model)
unknown_model catalogue _ = false

-- a test of a device's model, which isn't asked where the device or its model is unknown
abbrev pub asked_of : Option Model → (Model → Bool) → Bool
asked_of None test = false
asked_of (Some m) test = test m

-- 13: an `object` line's number stands in an earlier one of its device or in its model
abbrev pub duplicate_object : List NamedModel → List Statement → List Statement → What → Bool
duplicate_object catalogue earlier whole (Object device n size flags) =
    asked_of (model_of catalogue whole device.raw) (λ m. has_object m n || some_line (declares_object device.raw n) earlier)
duplicate_object catalogue earlier whole _ = false

-- object n of the device stands neither in its model nor in an `object` line of it
abbrev pub is_no_object : List Statement → ℕ → ℕ → Model → Bool
is_no_object whole d n m = not (has_object m n) && not (some_line (declares_object d n) whole)

-- 14: a `link`, `send` or `flags` line's object stands in no `object` line of its device and not in its model
abbrev pub unknown_object : List NamedModel → List Statement → What → Bool
unknown_object catalogue whole (Link device object groups) = asked_of (model_of catalogue whole device.raw) (is_no_object whole device.raw object)
unknown_object catalogue whole (Send device object group) = asked_of (model_of catalogue whole device.raw) (is_no_object whole device.raw object)
unknown_object catalogue whole (Flags device object flags) = asked_of (model_of catalogue whole device.raw) (is_no_object whole device.raw object)
unknown_object catalogue whole _ = false

-- a group stands twice
abbrev pub repeats_group : List GroupAddr → Bool
repeats_group [] = false
repeats_group (group ∷ groups) = has_group group.raw groups || repeats_group groups

-- a `link` line's device, object and one of its groups stand in an earlier `link` line
abbrev pub links_again : List Statement → What → Bool
links_again earlier (Link device object groups) = list_any (λ group. some_line (links_to device.raw object group.raw) earlier) groups
links_again earlier _ = false

abbrev pub groups_of : What → List GroupAddr
groups_of (Link device object groups) = groups
groups_of _ = []

-- 15: a `link` line's device, object and one of its groups stand in an earlier `link` line, or a group stands twice in the line
abbrev pub duplicate_link : List Statement → What → Bool
duplicate_link earlier what = links_again earlier what || repeats_group (groups_of what)

-- 16: a `param` line's name isn't a parameter of its device's model
abbrev pub unknown_parameter : List NamedModel → List Statement → What → Bool
unknown_parameter catalogue whole (Param device name value) = asked_of (model_of catalogue whole device.raw) (λ m. not (has_field m name))
unknown_parameter catalogue whole _ = false

abbrev pub is_out_of : Option ModelField → ℕ → Bool
is_out_of None value = false
is_out_of (Some f) value = nat_lt value f.min || nat_lt f.max value

-- 17: a `param` line's value is below the least or above the greatest; not asked where the parameter is unknown
abbrev pub out_of_range : List NamedModel → List Statement → What → Bool
out_of_range catalogue whole (Param device name value) = asked_of (model_of catalogue whole device.raw) (λ m. is_out_of (field_in m.parameters name) value)
out_of_range catalogue whole _ = false

-- two sizes that are known and differ
abbrev pub differ : Option ℕ → Option ℕ → Bool
differ None other = false
differ (Some one) None = false
differ (Some one) (Some other) = not (one == other)

abbrev pub size_of_first : List NamedModel → List Statement → Option (ℕ × ℕ) → Option ℕ
size_of_first catalogue whole None = None
size_of_first catalogue whole (Some first) = size_of catalogue whole first.0 first.1

-- a size that is known is another than that of the object of the group's first `link` line
abbrev pub differs_from_first : List NamedModel → List Statement → Option ℕ → GroupAddr → Bool
differs_from_first catalogue whole size group = differ size (size_of_first catalogue whole (first_linked whole group.raw))

-- 18: for one of a `link` line's groups, the line's object has another size than the object of the first `link` line that has this
-- group; not asked where the device stands in no `device` line, nor where one of the objects is unknown
abbrev pub size_differs : List NamedModel → List Statement → What → Bool
size_differs catalogue whole (Link device object groups) =
    some_line (declares_device device.raw) whole && list_any (differs_from_first catalogue whole (size_of catalogue whole device.raw object)) groups
size_differs catalogue whole _ = false

-- 19: the 256th `device` line
abbrev pub too_many_devices : List Statement → What → Bool
too_many_devices earlier (Device device model) = nat_le 255 (count_lines is_device_line earlier)
too_many_devices earlier _ = false

-- 19: a `link` line brings its device to more than 2,047 links, one for each of its groups
abbrev pub too_many_links : List Statement → What → Bool
too_many_links earlier (Link device object groups) = nat_lt 2047 (count_links device.raw earlier + length groups)
too_many_links earlier _ = false

-- 20: an `object`, `link`, `send`, `flags` or `param` line's address stands in no `device` line
abbrev pub no_device : List Statement → What → Bool
no_device whole (Object device n size flags) = not (some_line (declares_device device.raw) whole)
no_device whole (Link device object groups) = not (some_line (declares_device device.raw) whole)
no_device whole (Send device object group) = not (some_line (declares_device device.raw) whole)
no_device whole (Flags device object flags) = not (some_line (declares_device device.raw) whole)
no_device whole (Param device name value) = not (some_line (declares_device device.raw) whole)
no_device whole _ = false

-- 22: a `send` line's device, object and group stand in no `link` line; it is told where no other rule refuses the line
abbrev pub not_linked : List Statement → What → Bool
not_linked whole (Send device object group) = not (some_line (links_to device.raw object group.raw) whole)
not_linked whole _ = false

-- the rule of the least number that a line breaks
unfoldable pub rule_of : List NamedModel → List Statement → List Statement → What → Option Why
rule_of catalogue earlier whole what =
    if duplicate_device earlier what then Some DuplicateDevice
    else (if duplicate_group earlier what then Some DuplicateGroup
    else (if unknown_group whole what then Some UnknownGroup
    else (if unknown_model catalogue what then Some UnknownModel
    else (if duplicate_object catalogue earlier whole what then Some DuplicateObject
    else (if unknown_object catalogue whole what then Some UnknownObject
    else (if duplicate_link earlier what then Some DuplicateLink
    else (if unknown_parameter catalogue whole what then Some UnknownParameter
    else (if out_of_range catalogue whole what then Some OutOfRange
    else (if size_differs catalogue whole what then Some SizeDiffers
    else (if too_many_devices earlier what then Some (TooMany 255)
    else (if too_many_links earlier what then Some (TooMany 2047)
    else (if no_device whole what then Some NoDevice
    else (if not_linked whole what then Some NotLinked
    else None)))))))))))))

abbrev pub broken_at : ℕ → Option Why → Option Refused
broken_at line None = None
broken_at line (Some why) = Some (record { line = line; why = why })

-- the lines from place k on that break a rule, each judged by those before it, by all and by the catalogue
unfoldable pub broken_from : List NamedModel → List Statement → ℕ → List Statement → List Refused
broken_from catalogue ss k rest = filter_map (λ p. broken_at p.1.line (rule_of catalogue (take p.0 ss) ss p.1.what)) (enumerate_from k rest)

-- the least line that breaks a rule
abbrev pub first_broken : List NamedModel → List Statement → Option Refused
first_broken catalogue ss = first_refused (broken_from catalogue ss 0 ss)

-- the devices of a text: just those of its `device` lines
abbrev pub has_device : List Statement → ℕ → Bool
has_device ss d = some_line (declares_device d) ss
