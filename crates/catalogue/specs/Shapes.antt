-- The shapes of the tables of a catalogue, and what each states: the table of a model, of an object and of a parameter. The words for a
-- document's data are those of TOML's own definition in `toml`.
use Rattle.std.specs.Prelude.{ℕ, ◌&&◌, ◌||◌, nat_le, nat_eq, ℤ, pos, negsuc, Bool, true, false, List, [], ◌∷◌, ◌++◌, map, bytes_eq, codes, Option, Some, None, option_and_then, if◌then◌else◌}
use Rattle.std.specs.List.{list_any}
use Rattle.knx_model.specs.declared.catalogue.model.ModelObject.{ModelObject}
use Rattle.knx_model.specs.Flags.{flags_value}
use Rattle.knx_model.specs.Models.{number_of}
use Rattle.knx_model.specs.Numbers.{is_name}
use Rattle.knx_model.specs.Sizes.{size_code}
use Rattle.toml.specs.Data.{Data, table, array, Items, no_items, item, Members, no_members, member, get, as_integer, as_str}
use Rattle.catalogue.specs.declared.stated.FieldNumbers.{FieldNumbers}
use Rattle.catalogue.specs.declared.stated.StatedField.{StatedField}
use Rattle.catalogue.specs.declared.stated.StatedModel.{StatedModel}
use Rattle.catalogue.specs.declared.stated.TableKind.{TableKind}
use Rattle.catalogue.specs.declared.stated.TableKind.TheVariants as kind

-- ---- values at a key

-- the integer and the text at a key
abbrev pub integer_at : List ℕ → Data → Option ℤ
integer_at key d = option_and_then as_integer (get key d)

abbrev pub text_at : List ℕ → Data → Option (List ℕ)
text_at key d = option_and_then as_str (get key d)

-- an integer within a range
abbrev pub between : ℕ → ℕ → ℤ → Option ℕ
between least most (pos n) = if nat_le least n && nat_le n most then Some n else None
between least most (negsuc n) = None

abbrev pub number_at : ℕ → ℕ → List ℕ → Data → Option ℕ
number_at least most key d = option_and_then (between least most) (integer_at key d)

-- a text that is a name
abbrev pub named : List ℕ → Option (List ℕ)
named text = if is_name text then Some text else None

abbrev pub name_at : List ℕ → Data → Option (List ℕ)
name_at key d = option_and_then named (text_at key d)

-- the elements of a list, of which there are none where the list is left out
abbrev pub list_in : Option Data → Option Items
list_in None = Some no_items
list_in (Some (array ds)) = Some ds
list_in (Some _) = None

abbrev pub list_at : List ℕ → Data → Option Items
list_at key d = list_in (get key d)

-- ---- keys

abbrev pub keys_of : TableKind → List (List ℕ)
keys_of kind.Model = codes "params" ∷ codes "object" ∷ codes "parameter" ∷ []
keys_of kind.Object = codes "n" ∷ codes "size" ∷ codes "flags" ∷ []
keys_of kind.Parameter = codes "name" ∷ codes "bit" ∷ codes "width" ∷ codes "min" ∷ codes "max" ∷ codes "default" ∷ []

abbrev pub is_key : TableKind → List ℕ → Bool
is_key k key = list_any (bytes_eq key) (keys_of k)

abbrev pub are_keys : TableKind → Members → Bool
are_keys k no_members = true
are_keys k (member key d ms) = is_key k key && are_keys k ms

-- a table with no other keys
abbrev pub is_table : TableKind → Data → Bool
is_table k (table ms) = are_keys k ms
is_table k _ = false

-- ---- tables

-- what each element states, where each states something
abbrev pub cons_if : {A : Type 0} → Option A → Option (List A) → Option (List A)
cons_if (Some x) (Some xs) = Some (x ∷ xs)
cons_if _ _ = None

abbrev pub each : {A : Type 0} → (Data → Option A) → Items → Option (List A)
each f no_items = Some []
each f (item d ds) = cons_if (f d) (each f ds)

abbrev pub before : {A : Type 0} → List A → Option (List A) → Option (List A)
before xs None = None
before xs (Some ys) = Some (xs ++ ys)

-- `n` from 1 to 255, `size` a size in bits, `flags` a flags text, and no other key
abbrev pub object_from : Option ℕ → Option ℕ → Option ℕ → Option ModelObject
object_from (Some n) (Some size) (Some flags) = Some (record { n = n; size = size; flags = flags })
object_from _ _ _ = None

unfoldable pub object_of : Data → Option ModelObject
object_of d =
    if is_table kind.Object d
    then object_from (number_at 1 255 (codes "n") d) (option_and_then size_code (number_at 1 112 (codes "size") d)) (option_and_then flags_value (text_at (codes "flags") d))
    else None

-- five integers
abbrev pub numbers_from : Option ℤ → Option ℤ → Option ℤ → Option ℤ → Option ℤ → Option FieldNumbers
numbers_from (Some bit) (Some width) (Some min) (Some max) (Some default) = Some (record { bit = bit; width = width; min = min; max = max; default = default })
numbers_from _ _ _ _ _ = None

unfoldable pub numbers_of : Data → Option FieldNumbers
numbers_of d = numbers_from (integer_at (codes "bit") d) (integer_at (codes "width") d) (integer_at (codes "min") d) (integer_at (codes "max") d) (integer_at (codes "default") d)

-- `name` a name, the five integers, and no other key
abbrev pub parameter_from : Option (List ℕ) → Option FieldNumbers → Option StatedField
parameter_from (Some name) (Some numbers) = Some (record { name = name; numbers = numbers })
parameter_from _ _ = None

unfoldable pub parameter_of : Data → Option StatedField
parameter_of d = if is_table kind.Parameter d then parameter_from (name_at (codes "name") d) (numbers_of d) else None

abbrev pub stated_name : StatedField → List ℕ
stated_name s = s.name

-- one of the list equals a later one
unfoldable pub repeats : {X : Type 0} → (X → X → Bool) → List X → Bool
repeats eq [] = false
repeats eq (x ∷ xs) = list_any (eq x) xs || repeats eq xs

-- no object number and no parameter's name repeats
abbrev pub model_from : Option ℕ → Option (List ModelObject) → Option (List StatedField) → Option StatedModel
model_from (Some params) (Some objects) (Some parameters) =
    if repeats nat_eq (map number_of objects) || repeats bytes_eq (map stated_name parameters) then None
    else Some (record { params = params; objects = objects; parameters = parameters })
model_from _ _ _ = None

-- `params` from 0 to 8192, a list of objects and a list of parameters that may be left out, and no other key
unfoldable pub model_of : Data → Option StatedModel
model_of d =
    if is_table kind.Model d
    then model_from (number_at 0 8192 (codes "params") d) (option_and_then (each object_of) (list_at (codes "object") d)) (option_and_then (each parameter_of) (list_at (codes "parameter") d))
    else None
