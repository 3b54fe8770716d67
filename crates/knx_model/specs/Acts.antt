-- Which objects a group telegram acts on in a running device (ISO/IEC 14543-3-1, application layer; the tables and the group objects:
-- KNX standard 3/5/1, resources, System B): by a configuration, and by the octets of the segments, whatever they are.
use Rattle.std.specs.Prelude.{ℕ, ◌+◌, ◌*◌, ◌<◌, Bool, false, not, ◌&&◌, ◌||◌, ◌==◌, nat_lt, nat_le, bit_and, List, [], ◌∷◌, length, take, replicate, find, All, Option, None, if◌then◌else◌}
use Rattle.std.specs.List.{list_any, range_with_len}
use Rattle.std.specs.Option.{option_map_or}
use Rattle.knx_model.specs.declared.config.Config.{Config}
use Rattle.knx_model.specs.declared.config.Image.{Image}
use Rattle.knx_model.specs.declared.config.LinkSpec.{LinkSpec}
use Rattle.knx_model.specs.declared.config.ObjSpec.{ObjSpec}
use Rattle.knx_model.specs.declared.frames.value.Value.{Value}
use Rattle.knx_model.specs.declared.frames.value.Value.TheVariants.{Short, Long}
use Rattle.knx_model.specs.declared.script.GroupService.{GroupService}
use Rattle.knx_model.specs.declared.script.GroupService.TheVariants.{Read, Write, Response}
use Rattle.knx_model.specs.Tables.{raw_of, at_place}

-- ---- the form of a value

-- how many octets a long value of a size code has; 0 for the codes 0 to 5, whose values are short, and for those over 14
abbrev pub long_len : ℕ → ℕ
long_len size =
    if (size == 6) || (size == 7) then 1
    else (if size == 8 then 2
    else (if size == 9 then 3
    else (if size == 10 then 4
    else (if size == 11 then 6
    else (if size == 12 then 8
    else (if size == 13 then 10
    else (if size == 14 then 14
    else 0)))))))

-- an object of the size code takes the value
abbrev pub takes_form : ℕ → Value → Bool
takes_form size (Short value) = nat_le size 5
takes_form size (Long octets) = nat_lt 0 (long_len size) && (length octets == long_len size)

-- the value of an object to which nothing was written
abbrev pub zero_value : ℕ → Value
zero_value size = if long_len size == 0 then Short 0 else Long (replicate (long_len size) 0)

-- ---- what a service asks of one object

-- a flag of the flag octet
abbrev pub has_flag : ObjSpec → ℕ → Bool
has_flag object flag = not (bit_and object.flags flag == 0)

abbrev pub communicates : ObjSpec → Bool
communicates object = has_flag object 0x04

-- the service's value is written to the object
abbrev pub accepts : GroupService → ObjSpec → Bool
accepts Read object = false
accepts (Write value) object = communicates object && has_flag object 0x10 && takes_form object.size value
accepts (Response value) object = communicates object && has_flag object 0x80 && takes_form object.size value

-- the object's value may answer a read
abbrev pub can_answer : ObjSpec → Bool
can_answer object = communicates object && has_flag object 0x08

-- ---- what a telegram acts on: which objects are linked to its group, and the object of a number

abbrev pub is_object_number : ℕ → Bool
is_object_number o = nat_le 1 o && nat_le o 255

-- the numbers in order
unfoldable pub object_numbers : List ℕ
object_numbers = range_with_len 1 255

abbrev pub writes : (ℕ → Bool) → (ℕ → Option ObjSpec) → GroupService → ℕ → Bool
writes linked object service o = linked o && option_map_or (accepts service) (object o) false

abbrev pub may_answer : (ℕ → Bool) → (ℕ → Option ObjSpec) → ℕ → Bool
may_answer linked object o = linked o && option_map_or can_answer (object o) false

-- the lowest linked object that can answer; only a read is answered
abbrev pub lowest_answering : (ℕ → Bool) → (ℕ → Option ObjSpec) → GroupService → Option ℕ
lowest_answering linked object Read = find (may_answer linked object) object_numbers
lowest_answering linked object _ = None

-- the object of a number of 1 to 255
abbrev pub object_of_number : List ObjSpec → ℕ → Option ObjSpec
object_of_number objects o = if is_object_number o then at_place objects o else None

-- ---- by a configuration

abbrev pub is_link_of : ℕ → ℕ → LinkSpec → Bool
is_link_of g o link = (link.object == o) && (raw_of link == g)

-- some link has the object and the group
abbrev pub is_linked : Config → ℕ → ℕ → Bool
is_linked config g o = list_any (is_link_of g o) config.links

-- the telegram's value is written to the object
abbrev pub acts_written : Config → ℕ → GroupService → ℕ → Bool
acts_written config g service o = writes (is_linked config g) (object_of_number config.objects) service o

-- the object whose value answers the telegram
abbrev pub acts_answerer : Config → ℕ → GroupService → Option ℕ
acts_answerer config g service = lowest_answering (is_linked config g) (object_of_number config.objects) service

-- ---- by octets. A table is a count of two octets and entries. An entry counts where it lies whole in the list and within the count

-- the numbers of two octets, the high one first, that lie whole in a list
abbrev pub numbers : List ℕ → List ℕ
numbers (high ∷ low ∷ rest) = (256 * high + low) ∷ numbers rest
numbers _ = []

abbrev pub first_entries : List ℕ → List ℕ
first_entries [] = []
first_entries (count ∷ entries) = take count entries

-- the group addresses of an address table
abbrev pub addresses : List ℕ → List ℕ
addresses octets = first_entries (numbers octets)

abbrev pub in_pairs : List ℕ → List (ℕ × ℕ)
in_pairs (place ∷ object ∷ rest) = (place, object) ∷ in_pairs rest
in_pairs _ = []

abbrev pub first_pairs : List ℕ → List (ℕ × ℕ)
first_pairs [] = []
first_pairs (count ∷ entries) = take count (in_pairs entries)

-- the pairs of an association table: a place in the address table, from 1, and an object number
abbrev pub pairs : List ℕ → List (ℕ × ℕ)
pairs octets = first_pairs (numbers octets)

abbrev pub in_specs : List ℕ → List ObjSpec
in_specs (flags ∷ size ∷ rest) = record { flags = flags; size = size } ∷ in_specs rest
in_specs _ = []

-- the objects of a group objects' table, from number 1
abbrev pub objects : List ℕ → List ObjSpec
objects (high ∷ low ∷ rest) = take (256 * high + low) (in_specs rest)
objects _ = []

-- the object of a number that the table has
abbrev pub object_in_table : List ℕ → ℕ → Option ObjSpec
object_in_table octets o = object_of_number (objects octets) o

-- the pair names the object, by a place that names the group
abbrev pub is_pair_of : List ℕ → ℕ → ℕ → ℕ × ℕ → Bool
is_pair_of groups g o pair = (pair.1 == o) && option_map_or (λ address. address == g) (at_place groups pair.0) false

-- some pair names the object, of a number of 1 to 255, by a place that names the group
abbrev pub is_linked_in : List ℕ → List ℕ → ℕ → ℕ → Bool
is_linked_in addr assoc g o = is_object_number o && list_any (is_pair_of (addresses addr) g o) (pairs assoc)

-- the telegram's value is written to the object
abbrev pub is_written : Image → ℕ → GroupService → ℕ → Bool
is_written image g service o = writes (is_linked_in image.addr image.assoc g) (object_in_table image.objs) service o

-- the object whose value answers the telegram
abbrev pub answerer : Image → ℕ → GroupService → Option ℕ
answerer image g service = lowest_answering (is_linked_in image.addr image.assoc g) (object_in_table image.objs) service

-- ---- where both agree

-- the counts and the numbers of the tables have two octets
pub record IsInRange (config : Config) : Type 0 where
  pub few_links : length config.links < 65536
  pub few_objects : length config.objects < 65536
  pub each_group : All (λ link. raw_of link < 65536) config.links
  pub each_object : All (λ link. link.object < 65536) config.links
