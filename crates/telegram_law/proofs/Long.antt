-- An extended frame is no group telegram: the values of group services have at most 14 octets.
use Rattle.std.proofs.Common.{ℕ, ◌≡◌, ◌<◌, ◌-◌, ◌/◌, ◌&&◌, ◌==◌, List, [], ◌∷◌, length, Bool, true, false, Option, Some, None, refl, ap, subst, sym, ◌∙◌, arith, if◌then◌else◌}
use Rattle.std.specs.Prelude.{nat_lt, nat_le}
use Rattle.knx_model.specs.declared.device.FrameSupport.{FrameSupport}
use Rattle.knx_model.specs.declared.device.FrameSupport.TheVariants.{Standard, Extended}
use Rattle.knx_model.specs.declared.frames.cemi.Ldata.{Ldata}
use Rattle.knx_model.specs.declared.frames.tpdu.Apdu.{Apdu}
use Rattle.knx_model.specs.declared.frames.tpdu.Apdu.TheVariants.{GroupRead, GroupResponse, GroupWrite, AddressWrite, AddressRead, AddressResponse, MemoryRead, MemoryResponse, MemoryWrite, DescriptorRead, DescriptorResponse, PropertyRead, PropertyResponse, PropertyWrite}
use Rattle.knx_model.specs.declared.frames.tpdu.Tpdu.TheVariants.{Unnumbered, Numbered}
use Rattle.knx_model.specs.declared.frames.value.Value.{Value}
use Rattle.knx_model.specs.Apdu.{service, low, code_of, most_memory_octets, most_property_octets}
use Rattle.knx_model.specs.ApduReading.{where_it, option_map, bare, word_in, value_in, addressed, of_property, descriptor_in, apdu_in, tpdu_in, service_in, unnumbered}
use Rattle.knx_model.specs.DeviceFrames.{group_service, is_too_long}

-- no group service
record NoGroup (o : Option Apdu) : Type 0 where
  none : group_service o ≡ None

absent : NoGroup None
absent = record { none = refl }

either : (b : Bool) (x y : Option Apdu) → NoGroup x → NoGroup y → NoGroup (if b then x else y)
either true x y p q = p
either false x y p q = q

-- ---- services of a group

bare_read : (rest : List ℕ) → 14 < length rest → NoGroup (bare GroupRead rest)
bare_read [] h = absurd (omega arith)
bare_read (x ∷ xs) h = absent

long_value : (make : Value → Apdu) (b : Bool) (v : Value) → b ≡ false → NoGroup (option_map make (where_it b v))
long_value make true v e = cc
long_value make false v e = absent

too_many : (n : ℕ) → 14 < n → nat_le n 14 ≡ false
too_many n h = grind arith

valued : (make : Value → Apdu) (code : ℕ) (rest : List ℕ) → 14 < length rest → NoGroup (option_map make (value_in code rest))
valued make code [] h = absurd (omega arith)
valued make code (x ∷ xs) h = long_value make (nat_le (length (x ∷ xs)) 14) _ (too_many (length (x ∷ xs)) h)

-- ---- all other services

other_bare : (apdu : Apdu) (rest : List ℕ) → NoGroup (Some apdu) → NoGroup (bare apdu rest)
other_bare apdu [] p = p
other_bare apdu (x ∷ xs) p = absent

other_map : {X : Type 0} (make : X → Apdu) (o : Option X) → ((x : X) → NoGroup (Some (make x))) → NoGroup (option_map make o)
other_map make None p = absent
other_map make (Some x) p = p x

other_where : (b : Bool) (apdu : Apdu) → NoGroup (Some apdu) → NoGroup (where_it b apdu)
other_where true apdu p = p
other_where false apdu p = absent

other_addressed : (make : ℕ → List ℕ → Option Apdu) (rest : List ℕ) → ((address : ℕ) (octets : List ℕ) → NoGroup (make address octets)) → NoGroup (addressed make rest)
other_addressed make [] p = absent
other_addressed make (x ∷ []) p = absent
other_addressed make (x ∷ y ∷ octets) p = p _ octets

other_property : (make : ℕ → ℕ → ℕ → ℕ → List ℕ → Option Apdu) (rest : List ℕ) → ((a b c d : ℕ) (octets : List ℕ) → NoGroup (make a b c d octets)) → NoGroup (of_property make rest)
other_property make [] p = absent
other_property make (x ∷ []) p = absent
other_property make (x ∷ y ∷ []) p = absent
other_property make (x ∷ y ∷ z ∷ []) p = absent
other_property make (x ∷ y ∷ z ∷ w ∷ octets) p = p _ _ _ _ octets

-- ---- the octets

-- the services in turn, each with the test that it is this one
abbrev chain : List (Bool × Option Apdu) → Option Apdu
chain [] = None
chain (row ∷ rows) = if row.0 then row.1 else chain rows

abbrev rows : ℕ → List ℕ → List (Bool × Option Apdu)
rows code rest =
    (service code == 0x000, bare GroupRead rest)
    ∷ (service code == 0x040, option_map GroupResponse (value_in code rest))
    ∷ (service code == 0x080, option_map GroupWrite (value_in code rest))
    ∷ (service code == 0x0C0, option_map (λ raw. AddressWrite (record { raw = raw })) (word_in rest))
    ∷ (service code == 0x100, bare AddressRead rest)
    ∷ (service code == 0x140, bare AddressResponse rest)
    ∷ (service code == 0x200, option_map (λ address. MemoryRead (low code) address) (if nat_le 1 (low code) && nat_le (low code) most_memory_octets then word_in rest else None))
    ∷ (service code == 0x240, addressed (λ address octets. where_it ((length octets == low code) && nat_le (length octets) most_memory_octets) (MemoryResponse address octets)) rest)
    ∷ (service code == 0x280, addressed (λ address octets. where_it ((length octets == low code) && nat_le 1 (length octets) && nat_le (length octets) most_memory_octets) (MemoryWrite address octets)) rest)
    ∷ (service code == 0x300, bare (DescriptorRead (low code)) rest)
    ∷ (service code == 0x340, descriptor_in (low code) rest)
    ∷ (code == 0x3D5, of_property (λ object property count start octets. bare (PropertyRead object property count start) octets) rest)
    ∷ (code == 0x3D6, of_property (λ object property count start octets. where_it (nat_le (length octets) most_property_octets) (PropertyResponse object property count start octets)) rest)
    ∷ (code == 0x3D7, of_property (λ object property count start octets. where_it (nat_le (length octets) most_property_octets) (PropertyWrite object property count start octets)) rest)
    ∷ []

abbrev NoneOf : List (Bool × Option Apdu) → Type 0
NoneOf [] = Unit {0}
NoneOf (row ∷ rows) = NoGroup row.1 × NoneOf rows

none_in : (l : List (Bool × Option Apdu)) → NoneOf l → NoGroup (chain l)
none_in [] h = absent
none_in (row ∷ l) h = either row.0 row.1 (chain l) h.0 (none_in l h.1)

described : (kind : ℕ) (rest : List ℕ) → NoGroup (descriptor_in kind rest)
described kind rest =
    either (kind == 0x3F) (bare (DescriptorResponse kind None) rest) (option_map (λ value. DescriptorResponse kind (Some value)) (word_in rest))
    (other_bare (DescriptorResponse kind None) rest (record { none = refl }))
    (other_map (λ value. DescriptorResponse kind (Some value)) (word_in rest) (λ x. record { none = refl }))

none_of_rows : (code : ℕ) (rest : List ℕ) → 14 < length rest → NoneOf (rows code rest)
none_of_rows code rest h = (
  bare_read rest h,
  (
    valued GroupResponse code rest h,
    (
      valued GroupWrite code rest h,
      (
        other_map (λ raw. AddressWrite (record { raw = raw })) (word_in rest) (λ x. record { none = refl }),
        (
          other_bare AddressRead rest (record { none = refl }),
          (
            other_bare AddressResponse rest (record { none = refl }),
            (
              other_map (λ address. MemoryRead (low code) address) (if nat_le 1 (low code) && nat_le (low code) most_memory_octets then word_in rest else None) (λ x. record { none = refl }),
              (
                other_addressed (λ address octets. where_it ((length octets == low code) && nat_le (length octets) most_memory_octets) (MemoryResponse address octets)) rest
                    (λ address octets. other_where ((length octets == low code) && nat_le (length octets) most_memory_octets) (MemoryResponse address octets) (record { none = refl })),
                (
                  other_addressed (λ address octets. where_it ((length octets == low code) && nat_le 1 (length octets) && nat_le (length octets) most_memory_octets) (MemoryWrite address octets)) rest
                      (λ address octets. other_where ((length octets == low code) && nat_le 1 (length octets) && nat_le (length octets) most_memory_octets) (MemoryWrite address octets) (record { none = refl })),
                  (
                    other_bare (DescriptorRead (low code)) rest (record { none = refl }),
                    (
                      described (low code) rest,
                      (
                        other_property (λ object property count start octets. bare (PropertyRead object property count start) octets) rest (λ a b c d octets. other_bare (PropertyRead a b c d) octets (record { none = refl })),
                        (
                          other_property (λ object property count start octets. where_it (nat_le (length octets) most_property_octets) (PropertyResponse object property count start octets)) rest
                              (λ a b c d octets. other_where (nat_le (length octets) most_property_octets) (PropertyResponse a b c d octets) (record { none = refl })),
                          (
                            other_property (λ object property count start octets. where_it (nat_le (length octets) most_property_octets) (PropertyWrite object property count start octets)) rest
                                (λ a b c d octets. other_where (nat_le (length octets) most_property_octets) (PropertyWrite a b c d octets) (record { none = refl })),
                            tt,
                          ),
                        ),
                      ),
                    ),
                  ),
                ),
              ),
            ),
          ),
        ),
      ),
    ),
  ),
)

apdu_is : (code : ℕ) (rest : List ℕ) → apdu_in code rest ≡ chain (rows code rest)
unfolding apdu_in
apdu_is code rest = refl

apdu_long : (code : ℕ) (rest : List ℕ) → 14 < length rest → NoGroup (apdu_in code rest)
apdu_long code rest h = let P : Option Apdu → Type 0 = NoGroup in subst P (sym (apdu_is code rest)) (none_in (rows code rest) (none_of_rows code rest h))

whole_of : (o : Option Apdu) → unnumbered (option_map Unnumbered o) ≡ o
whole_of None = refl
whole_of (Some apdu) = refl

none_of : (n : ℕ) (o : Option Apdu) → unnumbered (option_map (Numbered n) o) ≡ None
none_of n None = refl
none_of n (Some apdu) = refl

transported : (b c : Bool) (n : ℕ) (o : Option Apdu) → NoGroup o
    → NoGroup (unnumbered (if b then option_map Unnumbered o else (if c then option_map (Numbered n) o else None)))
transported true c n o p = record { none = ap group_service (whole_of o) ∙ p.none }
transported false true n o p = record { none = ap group_service (none_of n o) }
transported false false n o p = absent

service_long : (octets : List ℕ) → 16 < length octets → NoGroup (service_in octets)
unfolding service_in tpdu_in
service_long [] h = absurd (omega arith)
service_long (first ∷ []) h = absurd (omega arith)
service_long (first ∷ second ∷ rest) h = transported (nat_lt first 4) (nat_le 0x40 first && nat_lt first 0x80) (first / 4 - 16) (apdu_in (code_of first second) rest) (apdu_long (code_of first second) rest (omega arith))

longer : (n : ℕ) → nat_lt 16 n ≡ true → 16 < n
longer n e = grind arith

pub no_service : (frames : FrameSupport) (frame : Ldata) → is_too_long frames frame ≡ true → group_service (service_in frame.tpdu) ≡ None
no_service Standard frame e = (service_long frame.tpdu (longer (length frame.tpdu) e)).none
no_service Extended frame e = cc
