-- What a device answers is an APDU that can be sent.
use Rattle.std.proofs.Common.{◌≡◌, ℕ, ◌+◌, ◌-◌, ◌*◌, ◌/◌, ◌%◌, ◌≤◌, List, [], ◌∷◌, length, take, drop, Bool, true, false, ◌&&◌, cond, Option, Some, None, refl, subst, arith, if◌then◌else◌}
use Rattle.std.specs.Prelude.{◌==◌, nat_le, nat_lt}
use Rattle.std.proofs.lemmas.Grind.{common_steps}
use Rattle.knx_model.specs.declared.frames.tpdu.Apdu.{Apdu}
use Rattle.knx_model.specs.declared.frames.tpdu.Apdu.TheVariants.{GroupRead, GroupResponse, GroupWrite, AddressWrite, AddressRead, AddressResponse, MemoryRead, MemoryResponse, MemoryWrite, DescriptorRead, DescriptorResponse, PropertyRead, PropertyResponse, PropertyWrite}
use Rattle.knx_model.specs.declared.frames.tpdu.Tpdu.{Tpdu}
use Rattle.knx_model.specs.declared.frames.tpdu.Tpdu.TheVariants as tpdu
use Rattle.knx_model.specs.declared.loading.LoadableObject.{LoadableObject}
use Rattle.knx_model.specs.declared.device.FrameSupport.{FrameSupport}
use Rattle.knx_model.specs.Apdu.{service, low, code_of, word, most_memory_octets, most_property_octets}
use Rattle.knx_model.specs.ApduReading.{where_it, option_map, bare, word_in, value_in, addressed, of_property, descriptor_in, apdu_in, tpdu_in, unnumbered, service_in, apdu_octets}
use Rattle.knx_model.specs.Connection.{IsApdu}
use Rattle.knx_model.specs.Loading.{octets_of, has_range}
use Rattle.knx_model.specs.Device.{NonVolatile, loadable, object_at, segment_base, read_octets, reads_at_once, object_of_index, object_type, load_state, table_reference, is_load_control, property_value, property_response, where_one, range_octets, effect_of, whole, answer_at, answer_in}

-- a memory read that octets ask for has at most 60 octets
abbrev Small : Option Apdu → Type 0
Small None = Unit {0}
Small (Some (MemoryRead count address)) = count ≤ 60
Small (Some _) = Unit {0}

small_if : (b : Bool) (x y : Option Apdu) → Small x → Small y → Small (cond b x y)
small_if true x y h k = h
small_if false x y h k = k

small_bare : (a : Apdu) (l : List ℕ) → Small (Some a) → Small (bare a l)
small_bare a [] h = h
small_bare a (x ∷ l) h = tt

small_map : {X : Type 0} (f : X → Apdu) (o : Option X) → ((x : X) → Small (Some (f x))) → Small (option_map f o)
small_map f None h = tt
small_map f (Some x) h = h x

small_addressed : (make : ℕ → List ℕ → Option Apdu) (l : List ℕ) → ((a : ℕ) (os : List ℕ) → Small (make a os)) → Small (addressed make l)
small_addressed make [] h = tt
small_addressed make (x ∷ []) h = tt
small_addressed make (x ∷ y ∷ l) h = h (256 * x + y) l

small_property : (make : ℕ → ℕ → ℕ → ℕ → List ℕ → Option Apdu) (l : List ℕ) → ((a b c d : ℕ) (os : List ℕ) → Small (make a b c d os)) → Small (of_property make l)
small_property make [] h = tt
small_property make (x ∷ []) h = tt
small_property make (x ∷ y ∷ []) h = tt
small_property make (x ∷ y ∷ z ∷ []) h = tt
small_property make (x ∷ y ∷ z ∷ u ∷ l) h = h x y (z / 16) (256 * (z % 16) + u) l

small_where : (b : Bool) (a : Apdu) → Small (Some a) → Small (where_it b a)
small_where true a h = h
small_where false a h = tt

small_read : (c : ℕ) (o : Option ℕ) (b : Bool) → (nat_le 1 c && nat_le c most_memory_octets) ≡ b → Small (option_map (λ address. MemoryRead c address) (cond b o None))
small_read c None true e = tt
small_read c (Some a) true e = grind (arith, common_steps)
small_read c o false e = tt

small_descriptor : (kind : ℕ) (l : List ℕ) → Small (descriptor_in kind l)
small_descriptor kind l = small_if (kind == 0x3F) _ _ (small_bare (DescriptorResponse kind None) l tt) (small_map (λ value. DescriptorResponse kind (Some value)) (word_in l) (λ x. tt))

small_none : Small None
small_none = tt

small_apdu : (code : ℕ) (rest : List ℕ) → Small (apdu_in code rest)
unfolding apdu_in
small_apdu code rest =
    small_if (service code == 0x000) _ _ (small_bare GroupRead rest tt)
    (small_if (service code == 0x040) _ _ (small_map GroupResponse (value_in code rest) (λ x. tt))
    (small_if (service code == 0x080) _ _ (small_map GroupWrite (value_in code rest) (λ x. tt))
    (small_if (service code == 0x0C0) _ _ (small_map (λ raw. AddressWrite (record { raw = raw })) (word_in rest) (λ x. tt))
    (small_if (service code == 0x100) _ _ (small_bare AddressRead rest tt)
    (small_if (service code == 0x140) _ _ (small_bare AddressResponse rest tt)
    (small_if (service code == 0x200) _ _ (small_read (low code) (word_in rest) (nat_le 1 (low code) && nat_le (low code) most_memory_octets) refl)
    (small_if (service code == 0x240) _ _ (small_addressed (λ address octets. where_it ((length octets == low code) && nat_le (length octets) most_memory_octets) (MemoryResponse address octets)) rest (λ a os. small_where ((length os == low code) && nat_le (length os) most_memory_octets) (MemoryResponse a os) tt))
    (small_if (service code == 0x280) _ _ (small_addressed (λ address octets. where_it ((length octets == low code) && nat_le 1 (length octets) && nat_le (length octets) most_memory_octets) (MemoryWrite address octets)) rest (λ a os. small_where ((length os == low code) && nat_le 1 (length os) && nat_le (length os) most_memory_octets) (MemoryWrite a os) tt))
    (small_if (service code == 0x300) _ _ (small_bare (DescriptorRead (low code)) rest tt)
    (small_if (service code == 0x340) _ _ (small_descriptor (low code) rest)
    (small_if (code == 0x3D5) _ _ (small_property (λ object property count start octets. bare (PropertyRead object property count start) octets) rest (λ a b c d os. small_bare (PropertyRead a b c d) os tt))
    (small_if (code == 0x3D6) _ _ (small_property (λ object property count start octets. where_it (nat_le (length octets) most_property_octets) (PropertyResponse object property count start octets)) rest (λ a b c d os. small_where (nat_le (length os) most_property_octets) (PropertyResponse a b c d os) tt))
    (small_if (code == 0x3D7) _ None (small_property (λ object property count start octets. where_it (nat_le (length octets) most_property_octets) (PropertyWrite object property count start octets)) rest (λ a b c d os. small_where (nat_le (length os) most_property_octets) (PropertyWrite a b c d os) tt)) small_none)))))))))))))

un_if : (b : Bool) (x y : Option Tpdu) → Small (unnumbered x) → Small (unnumbered y) → Small (unnumbered (cond b x y))
un_if true x y h k = h
un_if false x y h k = k

un_map : (o : Option Apdu) → Small o → Small (unnumbered (option_map tpdu.Unnumbered o))
un_map None h = tt
un_map (Some a) h = h

un_numbered : (n : ℕ) (o : Option Apdu) → Small (unnumbered (option_map (tpdu.Numbered n) o))
un_numbered n None = tt
un_numbered n (Some a) = tt

small_service : (octets : List ℕ) → Small (service_in octets)
unfolding service_in tpdu_in
small_service [] = tt
small_service (first ∷ []) =
    un_if (first == 0x80) _ _ tt (un_if (first == 0x81) _ _ tt (un_if (nat_le 0xC0 first && (first % 4 == 2) && nat_lt first 256) _ _ tt (un_if (nat_le 0xC0 first && (first % 4 == 3) && nat_lt first 256) _ _ tt tt)))
small_service (first ∷ second ∷ rest) =
    un_if (nat_lt first 4) _ _ (un_map (apdu_in (code_of first second) rest) (small_apdu (code_of first second) rest)) (un_if (nat_le 0x40 first && nat_lt first 0x80) _ _ (un_numbered (first / 4 - 16) (apdu_in (code_of first second) rest)) tt)

-- ---- answers

some_is : (x y : List ℕ) → Some x ≡ Some y → x ≡ y
some_is x y e = cc

length_take : (n : ℕ) (l : List ℕ) → length (take n l) ≤ n
length_take n l = grind (arith, common_steps)

range_if : (b : Bool) (n : ℕ) (l : List ℕ) → length (cond b (take n l) []) ≤ n
range_if true n l = length_take n l
range_if false n l = omega arith

range_small : (kept : NonVolatile) (address n : ℕ) → length (range_octets kept address n) ≤ n
range_small kept address n = by_object (object_at address) where
  by_object : (o : Option LoadableObject) → length (elim o as (λ _. List ℕ) [ None ↦ [] | Some o ↦ if has_range (loadable kept o) (address - segment_base o) n then take n (drop (address - segment_base o) (octets_of (loadable kept o))) else [] ]) ≤ n
  by_object None = omega arith
  by_object (Some o) = range_if (has_range (loadable kept o) (address - segment_base o) n) n (drop (address - segment_base o) (octets_of (loadable kept o)))

memory_apdu : (address : ℕ) (octets : List ℕ) → length octets ≤ 60 → IsApdu (apdu_octets (MemoryResponse address octets))
memory_apdu address octets h = (omega arith, omega arith, omega arith)

descriptor_apdu : (b : Bool) → IsApdu (apdu_octets (if b then DescriptorResponse 0 (Some 0x07B0) else DescriptorResponse 0x3F None))
descriptor_apdu true = (omega arith, omega arith, omega arith)
descriptor_apdu false = (omega arith, omega arith, omega arith)

abbrev Few : Option (List ℕ) → Type 0
Few None = Unit {0}
Few (Some l) = length l ≤ 10

few_if : (b : Bool) (x y : Option (List ℕ)) → Few x → Few y → Few (cond b x y)
few_if true x y h k = h
few_if false x y h k = k

few_map : {X : Type 0} (f : X → List ℕ) (o : Option X) → ((x : X) → length (f x) ≤ 10) → Few (option_map f o)
few_map f None h = tt
few_map f (Some x) h = h x

few_property : (frames : FrameSupport) (kept : NonVolatile) (index property : ℕ) → Few (property_value frames kept index property)
few_property frames kept index property =
    few_if (property == 1) _ _ (few_map word (object_type index) (λ x. omega arith))
    (few_if (property == 5) _ _ (few_map (load_state kept) (object_of_index index) (λ x. omega arith))
    (few_if (property == 7) _ _ (few_map table_reference (object_of_index index) (λ x. omega arith))
    (few_if ((property == 56) && (index == 0)) _ _ (let e : 2 ≤ 10 = omega arith in e) tt)))

property_apdu : (index property start : ℕ) (value : Option (List ℕ)) → Few value → IsApdu (apdu_octets (property_response index property start value))
property_apdu index property start None h = (omega arith, omega arith, omega arith)
property_apdu index property start (Some octets) h = (omega arith, omega arith, omega arith)

read_if : (b : Bool) (n : ℕ) (l : List ℕ) → length l ≤ n → length (cond b l []) ≤ n
read_if true n l h = h
read_if false n l h = omega arith

read_small : (frames : FrameSupport) (kept : NonVolatile) (address n : ℕ) → length (read_octets frames kept address n) ≤ n
read_small frames kept address n = read_if (reads_at_once frames n) n (range_octets kept address n) (range_small kept address n)

answer_apdu : (frames : FrameSupport) (kept : NonVolatile) (o : Option Apdu) (v : List ℕ) → Small o → answer_at frames kept o ≡ Some v → IsApdu v
answer_apdu frames kept None v h e = absurd (cc)
answer_apdu frames kept (Some GroupRead) v h e = absurd (cc)
answer_apdu frames kept (Some (GroupResponse value)) v h e = absurd (cc)
answer_apdu frames kept (Some (GroupWrite value)) v h e = absurd (cc)
answer_apdu frames kept (Some (AddressWrite address)) v h e = absurd (cc)
answer_apdu frames kept (Some AddressRead) v h e = absurd (cc)
answer_apdu frames kept (Some AddressResponse) v h e = absurd (cc)
answer_apdu frames kept (Some (MemoryRead count address)) v h e = subst IsApdu (some_is _ v e) (memory_apdu address (read_octets frames kept address count) (let r : length (read_octets frames kept address count) ≤ count = read_small frames kept address count in omega arith))
answer_apdu frames kept (Some (MemoryResponse address octets)) v h e = absurd (cc)
answer_apdu frames kept (Some (MemoryWrite address octets)) v h e = absurd (cc)
answer_apdu frames kept (Some (DescriptorRead kind)) v h e = subst IsApdu (some_is _ v e) (descriptor_apdu (kind == 0))
answer_apdu frames kept (Some (DescriptorResponse kind value)) v h e = absurd (cc)
answer_apdu frames kept (Some (PropertyRead index property count start)) v h e =
    subst IsApdu (some_is _ v e) (property_apdu index property start (where_one count start (property_value frames kept index property)) (few_if ((count == 1) && (start == 1)) _ _ (few_property frames kept index property) tt))
answer_apdu frames kept (Some (PropertyResponse index property count start octets)) v h e = absurd (cc)
answer_apdu frames kept (Some (PropertyWrite index property count start octets)) v h e =
    subst IsApdu (some_is _ v e) (property_apdu index property start _
    (few_if (is_load_control property count start octets) _ _ (few_map (load_state (whole kept (effect_of (PropertyWrite index property count start octets)))) (object_of_index index) (λ x. omega arith)) tt))

pub answer_is_apdu : (frames : FrameSupport) (kept : NonVolatile) (octets v : List ℕ) → answer_in frames kept octets ≡ Some v → IsApdu v
answer_is_apdu frames kept octets v e = answer_apdu frames kept (service_in octets) v (small_service octets) e
