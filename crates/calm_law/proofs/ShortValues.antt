-- The values that devices hold fit into their responses: what a service writes has at most 14 octets, and so has the zero of each size.
use Rattle.std.proofs.Common.{◌≡◌, ℕ, zero, suc, ◌+◌, ◌-◌, ◌*◌, ◌/◌, ◌%◌, ◌≤◌, List, [], ◌∷◌, length, map, Bool, true, false, ◌&&◌, ◌||◌, cond, Option, Some, None, refl, arith}
use Rattle.std.specs.Prelude.{◌==◌, nat_le, nat_lt, replicate}
use Rattle.std.specs.List.{AllByRecursion, range_with_len}
use Rattle.std.proofs.lemmas.List.{length-replicate}
use Rattle.knx_model.specs.declared.config.Image.{Image}
use Rattle.knx_model.specs.declared.config.ObjSpec.{ObjSpec}
use Rattle.knx_model.specs.declared.frames.tpdu.Apdu.{Apdu}
use Rattle.knx_model.specs.declared.frames.tpdu.Apdu.TheVariants.{GroupRead, GroupResponse, GroupWrite, AddressWrite, AddressRead, AddressResponse, MemoryRead, MemoryResponse, MemoryWrite, DescriptorRead, DescriptorResponse, PropertyRead, PropertyResponse, PropertyWrite}
use Rattle.knx_model.specs.declared.frames.tpdu.Tpdu.{Tpdu}
use Rattle.knx_model.specs.declared.frames.tpdu.Tpdu.TheVariants as tpdu
use Rattle.knx_model.specs.declared.frames.value.Value.{Value}
use Rattle.knx_model.specs.declared.frames.value.Value.TheVariants.{Short, Long}
use Rattle.knx_model.specs.declared.script.GroupService.{GroupService}
use Rattle.knx_model.specs.declared.script.GroupService.TheVariants.{Read, Write, Response}
use Rattle.knx_model.specs.Acts.{object_in_table, long_len, zero_value}
use Rattle.knx_model.specs.Apdu.{service, low, code_of, most_memory_octets, most_property_octets}
use Rattle.knx_model.specs.ApduReading.{where_it, option_map, bare, word_in, value_in, addressed, of_property, descriptor_in, apdu_in, tpdu_in, unnumbered, service_in}
use Rattle.knx_model.specs.DeviceFrames.{group_service}
use Rattle.knx_model.specs.DeviceState.{slot, value_or_zero, value_at, value_in_image, written_values, zero_values}
use Rattle.calm_law.specs.CalmLine.{FitsResponse}

-- ---- what octets ask for

-- octets that may ask for a value: of no connection, and with the ten bits of a group read
abbrev pub HasReadCode : List ℕ → Type 0
HasReadCode [] = ⊥
HasReadCode (first ∷ []) = ⊥
HasReadCode (first ∷ second ∷ rest) = (nat_lt first 4 ≡ true) × ((service (code_of first second) == 0x000) ≡ true)

-- a value that is brought fits, and where one is asked for G holds
module _ (G : Type 0) where
  abbrev Ranged : Option Apdu → Type 0
  Ranged (Some GroupRead) = G
  Ranged (Some (GroupWrite value)) = FitsResponse (Some value)
  Ranged (Some (GroupResponse value)) = FitsResponse (Some value)
  Ranged _ = Unit {0}

  ranged_if : (b : Bool) (x y : Option Apdu) → Ranged x → Ranged y → Ranged (cond b x y)
  ranged_if true x y h k = h
  ranged_if false x y h k = k

  -- the first where the test holds
  ranged_where_so : (b : Bool) (x y : Option Apdu) → (b ≡ true → Ranged x) → Ranged y → Ranged (cond b x y)
  ranged_where_so true x y h k = h refl
  ranged_where_so false x y h k = k

  ranged_bare : (a : Apdu) (l : List ℕ) → Ranged (Some a) → Ranged (bare a l)
  ranged_bare a [] h = h
  ranged_bare a (x ∷ l) h = tt

  ranged_map : {X : Type 0} (f : X → Apdu) (o : Option X) → ((x : X) → Ranged (Some (f x))) → Ranged (option_map f o)
  ranged_map f None h = tt
  ranged_map f (Some x) h = h x

  ranged_addressed : (make : ℕ → List ℕ → Option Apdu) (l : List ℕ) → ((a : ℕ) (os : List ℕ) → Ranged (make a os)) → Ranged (addressed make l)
  ranged_addressed make [] h = tt
  ranged_addressed make (x ∷ []) h = tt
  ranged_addressed make (x ∷ y ∷ l) h = h (256 * x + y) l

  ranged_property : (make : ℕ → ℕ → ℕ → ℕ → List ℕ → Option Apdu) (l : List ℕ) → ((a b c d : ℕ) (os : List ℕ) → Ranged (make a b c d os)) → Ranged (of_property make l)
  ranged_property make [] h = tt
  ranged_property make (x ∷ []) h = tt
  ranged_property make (x ∷ y ∷ []) h = tt
  ranged_property make (x ∷ y ∷ z ∷ []) h = tt
  ranged_property make (x ∷ y ∷ z ∷ u ∷ l) h = h x y (z / 16) (256 * (z % 16) + u) l

  ranged_where : (b : Bool) (a : Apdu) → Ranged (Some a) → Ranged (where_it b a)
  ranged_where true a h = h
  ranged_where false a h = tt

  ranged_descriptor : (kind : ℕ) (l : List ℕ) → Ranged (descriptor_in kind l)
  ranged_descriptor kind l = ranged_if (kind == 0x3F) _ _ (ranged_bare (DescriptorResponse kind None) l tt) (ranged_map (λ value. DescriptorResponse kind (Some value)) (word_in l) (λ x. tt))

  ranged_read : (code : ℕ) (o : Option ℕ) → Ranged (option_map (λ address. MemoryRead (low code) address) o)
  ranged_read code o = ranged_map (λ address. MemoryRead (low code) address) o (λ x. tt)

  ranged_none : Ranged None
  ranged_none = tt

  -- a value is short, or has at most 14 octets
  value_fits : (code : ℕ) (rest : List ℕ) → FitsResponse (value_in code rest)
  value_fits code [] = omega arith
  value_fits code (x ∷ xs) = by_length (nat_le (length (x ∷ xs)) 14) refl where
    by_length : (b : Bool) → nat_le (length (x ∷ xs)) 14 ≡ b → FitsResponse (where_it b (Long (x ∷ xs)))
    by_length true e = (let n : length (x ∷ xs) ≤ 14 = grind (arith, e) in omega (arith, n))
    by_length false e = tt

  ranged_write : (o : Option Value) → FitsResponse o → Ranged (option_map GroupWrite o)
  ranged_write None h = tt
  ranged_write (Some v) h = h

  ranged_response : (o : Option Value) → FitsResponse o → Ranged (option_map GroupResponse o)
  ranged_response None h = tt
  ranged_response (Some v) h = h

  ranged_apdu : (code : ℕ) (rest : List ℕ) → ((service code == 0x000) ≡ true → G) → Ranged (apdu_in code rest)
  unfolding apdu_in
  ranged_apdu code rest read =
      ranged_where_so (service code == 0x000) _ _ (λ is. ranged_bare GroupRead rest (read is))
      (ranged_if (service code == 0x040) _ _ (ranged_response (value_in code rest) (value_fits code rest))
      (ranged_if (service code == 0x080) _ _ (ranged_write (value_in code rest) (value_fits code rest))
      (ranged_if (service code == 0x0C0) _ _ (ranged_map (λ raw. AddressWrite (record { raw = raw })) (word_in rest) (λ x. tt))
      (ranged_if (service code == 0x100) _ _ (ranged_bare AddressRead rest tt)
      (ranged_if (service code == 0x140) _ _ (ranged_bare AddressResponse rest tt)
      (ranged_if (service code == 0x200) _ _ (ranged_read code (cond (nat_le 1 (low code) && nat_le (low code) most_memory_octets) (word_in rest) None))
      (ranged_if (service code == 0x240) _ _ (ranged_addressed (λ address octets. where_it ((length octets == low code) && nat_le (length octets) most_memory_octets) (MemoryResponse address octets)) rest (λ a os. ranged_where ((length os == low code) && nat_le (length os) most_memory_octets) (MemoryResponse a os) tt))
      (ranged_if (service code == 0x280) _ _ (ranged_addressed (λ address octets. where_it ((length octets == low code) && nat_le 1 (length octets) && nat_le (length octets) most_memory_octets) (MemoryWrite address octets)) rest (λ a os. ranged_where ((length os == low code) && nat_le 1 (length os) && nat_le (length os) most_memory_octets) (MemoryWrite a os) tt))
      (ranged_if (service code == 0x300) _ _ (ranged_bare (DescriptorRead (low code)) rest tt)
      (ranged_if (service code == 0x340) _ _ (ranged_descriptor (low code) rest)
      (ranged_if (code == 0x3D5) _ _ (ranged_property (λ object property count start octets. bare (PropertyRead object property count start) octets) rest (λ a b c d os. ranged_bare (PropertyRead a b c d) os tt))
      (ranged_if (code == 0x3D6) _ _ (ranged_property (λ object property count start octets. where_it (nat_le (length octets) most_property_octets) (PropertyResponse object property count start octets)) rest (λ a b c d os. ranged_where (nat_le (length os) most_property_octets) (PropertyResponse a b c d os) tt))
      (ranged_if (code == 0x3D7) _ None (ranged_property (λ object property count start octets. where_it (nat_le (length octets) most_property_octets) (PropertyWrite object property count start octets)) rest (λ a b c d os. ranged_where (nat_le (length os) most_property_octets) (PropertyWrite a b c d os) tt)) ranged_none)))))))))))))

  un_if : (b : Bool) (x y : Option Tpdu) → (b ≡ true → Ranged (unnumbered x)) → Ranged (unnumbered y) → Ranged (unnumbered (cond b x y))
  un_if true x y h k = h refl
  un_if false x y h k = k

  un_map : (o : Option Apdu) → Ranged o → Ranged (unnumbered (option_map tpdu.Unnumbered o))
  un_map None h = tt
  un_map (Some a) h = h

  un_numbered : (n : ℕ) (o : Option Apdu) → Ranged (unnumbered (option_map (tpdu.Numbered n) o))
  un_numbered n None = tt
  un_numbered n (Some a) = tt

  ranged_service : (octets : List ℕ) → (HasReadCode octets → G) → Ranged (service_in octets)
  unfolding service_in tpdu_in
  ranged_service [] read = tt
  ranged_service (first ∷ []) read =
      un_if (first == 0x80) _ _ (λ is. tt)
      (un_if (first == 0x81) _ _ (λ is. tt) (un_if (nat_le 0xC0 first && (first % 4 == 2) && nat_lt first 256) _ _ (λ is. tt) (un_if (nat_le 0xC0 first && (first % 4 == 3) && nat_lt first 256) _ _ (λ is. tt) tt)))
  ranged_service (first ∷ second ∷ rest) read =
      un_if (nat_lt first 4) _ _ (λ unnumbered_is. un_map (apdu_in (code_of first second) rest) (ranged_apdu (code_of first second) rest (λ none. read (unnumbered_is, none))))
      (un_if (nat_le 0x40 first && nat_lt first 0x80) _ _ (λ is. un_numbered (first / 4 - 16) (apdu_in (code_of first second) rest)) tt)

  -- ---- group services

  abbrev pub RangedService : Option GroupService → Type 0
  RangedService None = Unit {0}
  RangedService (Some Read) = G
  RangedService (Some (Write value)) = FitsResponse (Some value)
  RangedService (Some (Response value)) = FitsResponse (Some value)

  of_apdu : (o : Option Apdu) → Ranged o → RangedService (group_service o)
  of_apdu None h = tt
  of_apdu (Some GroupRead) h = h
  of_apdu (Some (GroupWrite v)) h = h
  of_apdu (Some (GroupResponse v)) h = h
  of_apdu (Some (AddressWrite a)) h = tt
  of_apdu (Some AddressRead) h = tt
  of_apdu (Some AddressResponse) h = tt
  of_apdu (Some (MemoryRead c a)) h = tt
  of_apdu (Some (MemoryResponse a o)) h = tt
  of_apdu (Some (MemoryWrite a o)) h = tt
  of_apdu (Some (DescriptorRead k)) h = tt
  of_apdu (Some (DescriptorResponse k v)) h = tt
  of_apdu (Some (PropertyRead o p c s)) h = tt
  of_apdu (Some (PropertyResponse o p c s d)) h = tt
  of_apdu (Some (PropertyWrite o p c s d)) h = tt

  pub ranged_group : (octets : List ℕ) → (HasReadCode octets → G) → RangedService (group_service (service_in octets))
  ranged_group octets read = of_apdu (service_in octets) (ranged_service octets read)

-- ---- the values of a device

abbrev pub AllFit : List (Option Value) → Type 0
AllFit values = AllByRecursion FitsResponse values

slot_fits : (values : List (Option Value)) (o : ℕ) → AllFit values → FitsResponse (slot values o)
slot_fits [] o h = tt
slot_fits (v ∷ values) zero h = h.0
slot_fits (v ∷ values) (suc o) h = slot_fits values o h.1

at_most_if : (b : Bool) (x y : ℕ) → x ≤ 14 → y ≤ 14 → cond b x y ≤ 14
at_most_if true x y h k = h
at_most_if false x y h k = k

long_few : (size : ℕ) → long_len size ≤ 14
long_few size =
    at_most_if ((size == 6) || (size == 7)) _ _ (omega arith)
    (at_most_if (size == 8) _ _ (omega arith)
    (at_most_if (size == 9) _ _ (omega arith)
    (at_most_if (size == 10) _ _ (omega arith)
    (at_most_if (size == 11) _ _ (omega arith) (at_most_if (size == 12) _ _ (omega arith) (at_most_if (size == 13) _ _ (omega arith) (at_most_if (size == 14) _ _ (omega arith) (omega arith))))))))

zero_fits : (size : ℕ) → FitsResponse (Some (zero_value size))
zero_fits size = by_length (long_len size == 0) where
  by_length : (b : Bool) → FitsResponse (Some (cond b (Short 0) (Long (replicate (long_len size) 0))))
  by_length true = omega arith
  by_length false = (let n = length-replicate {A = ℕ} (long_len size) 0 in let few = long_few size in omega (arith, n, few))

or_zero : (o : Option Value) (size : ℕ) → FitsResponse o → FitsResponse (Some (value_or_zero o size))
or_zero None size h = zero_fits size
or_zero (Some v) size h = h

pub value_in_fits : (values : List (Option Value)) (o : ℕ) (image : Option Image) → AllFit values → FitsResponse (value_in_image values o image)
value_in_fits values o None h = tt
value_in_fits values o (Some image) h = by_object (object_in_table image.objs o) where
  by_object : (x : Option ObjSpec) → FitsResponse (value_at values o x)
  by_object None = tt
  by_object (Some object) = or_zero (slot values o) object.size (slot_fits values o h)

either_fits : (b : Bool) (x y : Option Value) → FitsResponse x → FitsResponse y → FitsResponse (cond b x y)
either_fits true x y h k = h
either_fits false x y h k = k

map_fits : (f : ℕ → Option Value) (l : List ℕ) → ((o : ℕ) → FitsResponse (f o)) → AllFit (map f l)
map_fits f [] h = tt
map_fits f (o ∷ l) h = (h o, map_fits f l h)

pub written_fit : (writes : ℕ → Bool) (value : Value) (values : List (Option Value)) → FitsResponse (Some value) → AllFit values → AllFit (written_values writes value values)
unfolding written_values
written_fit writes value values v h = map_fits (λ o. cond (writes o) (Some value) (slot values o)) (range_with_len 0 256) (λ o. either_fits (writes o) (Some value) (slot values o) v (slot_fits values o h))

none_fit : (n : ℕ) → AllFit (replicate n None)
none_fit zero = tt
none_fit (suc n) = (tt, none_fit n)

pub zeros_fit : AllFit zero_values
unfolding zero_values
zeros_fit = none_fit 256

pub either_all : (b : Bool) (x y : List (Option Value)) → AllFit x → AllFit y → AllFit (cond b x y)
either_all true x y h k = h
either_all false x y h k = k
