-- The grammar as a function is the grammar as a relation.
use Rattle.std.proofs.Common.{◌≡◌, ◌≢◌, ℕ, List, [], ◌∷◌, length, refl, ap, sym, Option, Some, None, Bool, true, false, IsTrue, ◌==◌, if◌then◌else◌, ◌&&◌, nat_le, arith}
use Rattle.std.proofs.lemmas.Grind.{common_steps}
use Rattle.knx_model.specs.declared.frames.value.Value.{Value}
use Rattle.knx_model.specs.declared.frames.tpdu.Apdu.{Apdu}
use Rattle.knx_model.specs.declared.frames.tpdu.Apdu.TheVariants.{GroupRead, GroupResponse, GroupWrite, AddressWrite, AddressRead, AddressResponse, MemoryRead, MemoryResponse, MemoryWrite, DescriptorRead, DescriptorResponse, PropertyRead, PropertyResponse, PropertyWrite}
use Rattle.knx_model.specs.declared.frames.tpdu.Tpdu.{Tpdu}
use Rattle.knx_model.specs.declared.frames.tpdu.Tpdu.TheVariants.{Unnumbered}
use Rattle.knx_model.specs.declared.frames.tpdu.TpduRefused.{TpduRefused}
use Rattle.knx_model.specs.Apdu.{IsLeastBroken, Reads, ReadsApdu, ReadsControl, ReadsData, IsWord, IsValue, service, low, Written, IsInRange, IsApduInRange, most_memory_octets, most_property_octets}
use Rattle.std.specs.Prelude.{IfOk, IfErr, Result, Ok, Err}
use Rattle.std.specs.Result.{result_ok}
use Rattle.apdu_frames.proofs.Refusals.{reads_breaks}
use Rattle.knx_model.specs.ApduReading.{apdu_in, tpdu_in, control_in, word_in, value_in, descriptor_in, bare, where_it, option_map, addressed, of_property, unnumbered, service_in, apdu_octets}

pub word_from : (xs : List ℕ) (n : ℕ) → IsWord xs n → word_in xs ≡ Some n
word_from xs n p = grind (arith, common_steps)

pub value_from : (code : ℕ) (rest : List ℕ) (v : Value) → IsValue code rest v → value_in code rest ≡ Some v
value_from code rest v p = grind (arith, common_steps)

pub control_from : (first : ℕ) (frame : Tpdu) → ReadsControl first frame → control_in first ≡ Some frame
control_from first frame p = grind (arith, common_steps)

bare_from : (apdu : Apdu) (rest : List ℕ) → rest ≡ [] → bare apdu rest ≡ Some apdu
bare_from apdu rest p = rw p refl

pub apdu_from : (code : ℕ) (rest : List ℕ) (apdu : Apdu) → ReadsApdu code rest apdu → apdu_in code rest ≡ Some apdu
unfolding apdu_in
apdu_from code rest GroupRead p = rw p.0 (bare_from GroupRead rest p.1)
apdu_from code rest (GroupResponse value) p = rw p.0 (ap (option_map GroupResponse) (value_from code rest value p.1))
apdu_from code rest (GroupWrite value) p = rw p.0 (ap (option_map GroupWrite) (value_from code rest value p.1))
apdu_from code rest (AddressWrite address) p = rw p.0 (ap (option_map _) (word_from rest address.raw p.1))
apdu_from code rest AddressRead p = rw p.0 (bare_from AddressRead rest p.1)
apdu_from code rest AddressResponse p = rw p.0 (bare_from AddressResponse rest p.1)
apdu_from code rest (MemoryRead count address) p = rw p.0 (grind (arith, common_steps, word_from))
apdu_from code rest (MemoryResponse address octets) p = rw p.0 (grind (arith, common_steps))
apdu_from code rest (MemoryWrite address octets) p = rw p.0 (grind (arith, common_steps))
apdu_from code rest (DescriptorRead kind) p = rw p.0 (rw p.2 (bare_from (DescriptorRead (low code)) rest p.1))
apdu_from code rest (DescriptorResponse kind value) p = rw p.0 (grind (arith, common_steps, word_from))
apdu_from code rest (PropertyRead object property count start) p = rw p.0 (grind (arith, common_steps))
apdu_from code rest (PropertyResponse object property count start octets) p = rw p.0 (grind (arith, common_steps))
apdu_from code rest (PropertyWrite object property count start octets) p = rw p.0 (grind (arith, common_steps))

pub word_to : (xs : List ℕ) (n : ℕ) → word_in xs ≡ Some n → IsWord xs n
word_to xs n p = grind (arith, common_steps)

pub value_to : (code : ℕ) (rest : List ℕ) (v : Value) → value_in code rest ≡ Some v → IsValue code rest v
value_to code rest v p = grind (arith, common_steps)

pub control_to : (first : ℕ) (frame : Tpdu) → control_in first ≡ Some frame → ReadsControl first frame
control_to first frame p = grind (arith, common_steps)

-- what a test led to
chosen : (test : Bool) (x y z : Option Apdu) (P : Type 0) → (if test then x else y) ≡ z → (IsTrue test → x ≡ z → P) → (y ≡ z → P) → P
chosen true x y z P e f g = f refl e
chosen false x y z P e f g = g e

same_numbers : (m n : ℕ) → IsTrue (m == n) → m ≡ n
same_numbers m n t = grind arith

either : (m n : ℕ) (x y z : Option Apdu) (P : Type 0) → (if m == n then x else y) ≡ z → (m ≡ n → x ≡ z → P) → (y ≡ z → P) → P
either m n x y z P e f g = chosen (m == n) x y z P e (λ t. f (same_numbers m n t)) g

group_read_to : (code : ℕ) (rest : List ℕ) (apdu : Apdu) → service code ≡ 0x000 → bare GroupRead rest ≡ Some apdu → ReadsApdu code rest apdu
group_read_to code rest apdu p q = grind (arith, common_steps)

group_response_to : (code : ℕ) (rest : List ℕ) (apdu : Apdu) → service code ≡ 0x040 → option_map GroupResponse (value_in code rest) ≡ Some apdu → ReadsApdu code rest apdu
group_response_to code rest apdu p q = grind (arith, common_steps, value_to)

group_write_to : (code : ℕ) (rest : List ℕ) (apdu : Apdu) → service code ≡ 0x080 → option_map GroupWrite (value_in code rest) ≡ Some apdu → ReadsApdu code rest apdu
group_write_to code rest apdu p q = grind (arith, common_steps, value_to)

address_write_to : (code : ℕ) (rest : List ℕ) (apdu : Apdu) → service code ≡ 0x0C0 → option_map (λ raw. AddressWrite (record { raw = raw })) (word_in rest) ≡ Some apdu → ReadsApdu code rest apdu
address_write_to code rest apdu p q = grind (arith, common_steps, word_to)

address_read_to : (code : ℕ) (rest : List ℕ) (apdu : Apdu) → service code ≡ 0x100 → bare AddressRead rest ≡ Some apdu → ReadsApdu code rest apdu
address_read_to code rest apdu p q = grind (arith, common_steps)

address_response_to : (code : ℕ) (rest : List ℕ) (apdu : Apdu) → service code ≡ 0x140 → bare AddressResponse rest ≡ Some apdu → ReadsApdu code rest apdu
address_response_to code rest apdu p q = grind (arith, common_steps)

memory_read_to : (code : ℕ) (rest : List ℕ) (apdu : Apdu) → service code ≡ 0x200 → option_map (λ address. MemoryRead (low code) address) (if nat_le 1 (low code) && nat_le (low code) most_memory_octets then word_in rest else None) ≡ Some apdu → ReadsApdu code rest apdu
memory_read_to code rest apdu p q = grind (arith, common_steps, word_to)

memory_response_to : (code : ℕ) (rest : List ℕ) (apdu : Apdu) → service code ≡ 0x240 → addressed (λ address octets. where_it ((length octets == low code) && nat_le (length octets) most_memory_octets) (MemoryResponse address octets)) rest ≡ Some apdu → ReadsApdu code rest apdu
memory_response_to code rest apdu p q = grind (arith, common_steps)

memory_write_to : (code : ℕ) (rest : List ℕ) (apdu : Apdu) → service code ≡ 0x280 → addressed (λ address octets. where_it ((length octets == low code) && nat_le 1 (length octets) && nat_le (length octets) most_memory_octets) (MemoryWrite address octets)) rest ≡ Some apdu → ReadsApdu code rest apdu
memory_write_to code rest apdu p q = grind (arith, common_steps)

descriptor_read_to : (code : ℕ) (rest : List ℕ) (apdu : Apdu) → service code ≡ 0x300 → bare (DescriptorRead (low code)) rest ≡ Some apdu → ReadsApdu code rest apdu
descriptor_read_to code rest apdu p q = grind (arith, common_steps)

descriptor_response_to : (code : ℕ) (rest : List ℕ) (apdu : Apdu) → service code ≡ 0x340 → descriptor_in (low code) rest ≡ Some apdu → ReadsApdu code rest apdu
descriptor_response_to code rest apdu p q = grind (arith, common_steps, word_to)

property_read_to : (code : ℕ) (rest : List ℕ) (apdu : Apdu) → code ≡ 0x3D5 → of_property (λ object property count start octets. bare (PropertyRead object property count start) octets) rest ≡ Some apdu → ReadsApdu code rest apdu
property_read_to code rest apdu p q = grind (arith, common_steps)

property_response_to : (code : ℕ) (rest : List ℕ) (apdu : Apdu) → code ≡ 0x3D6 → of_property (λ object property count start octets. where_it (nat_le (length octets) most_property_octets) (PropertyResponse object property count start octets)) rest ≡ Some apdu → ReadsApdu code rest apdu
property_response_to code rest apdu p q = grind (arith, common_steps)

property_write_to : (code : ℕ) (rest : List ℕ) (apdu : Apdu) → code ≡ 0x3D7 → of_property (λ object property count start octets. where_it (nat_le (length octets) most_property_octets) (PropertyWrite object property count start octets)) rest ≡ Some apdu → ReadsApdu code rest apdu
property_write_to code rest apdu p q = grind (arith, common_steps)

pub apdu_to : (code : ℕ) (rest : List ℕ) (apdu : Apdu) → apdu_in code rest ≡ Some apdu → ReadsApdu code rest apdu
unfolding apdu_in
apdu_to code rest apdu p =
    either (service code) 0x000 _ _ _ _ p (group_read_to code rest apdu) (λ q.
    either (service code) 0x040 _ _ _ _ q (group_response_to code rest apdu) (λ q.
    either (service code) 0x080 _ _ _ _ q (group_write_to code rest apdu) (λ q.
    either (service code) 0x0C0 _ _ _ _ q (address_write_to code rest apdu) (λ q.
    either (service code) 0x100 _ _ _ _ q (address_read_to code rest apdu) (λ q.
    either (service code) 0x140 _ _ _ _ q (address_response_to code rest apdu) (λ q.
    either (service code) 0x200 _ _ _ _ q (memory_read_to code rest apdu) (λ q.
    either (service code) 0x240 _ _ _ _ q (memory_response_to code rest apdu) (λ q.
    either (service code) 0x280 _ _ _ _ q (memory_write_to code rest apdu) (λ q.
    either (service code) 0x300 _ _ _ _ q (descriptor_read_to code rest apdu) (λ q.
    either (service code) 0x340 _ _ _ _ q (descriptor_response_to code rest apdu) (λ q.
    either code 0x3D5 _ _ _ _ q (property_read_to code rest apdu) (λ q.
    either code 0x3D6 _ _ _ _ q (property_response_to code rest apdu) (λ q.
    either code 0x3D7 _ _ _ _ q (property_write_to code rest apdu) (λ q.
    absurd cc))))))))))))))

none_of : (found : Option Tpdu) → ((frame : Tpdu) → found ≢ Some frame) → found ≡ None
none_of None never = refl
none_of (Some frame) never = absurd (never frame refl)

written_again : (frame : Tpdu) → IsInRange frame → Reads (Written frame) frame
written_again frame range = grind (arith, common_steps)

data_from : (first second : ℕ) (rest : List ℕ) (frame : Tpdu) → ReadsData first second rest frame → tpdu_in (first ∷ second ∷ rest) ≡ Some frame
unfolding tpdu_in
data_from first second rest frame p = grind (arith, common_steps, apdu_from)

data_to : (first second : ℕ) (rest : List ℕ) (frame : Tpdu) → tpdu_in (first ∷ second ∷ rest) ≡ Some frame → ReadsData first second rest frame
unfolding tpdu_in
data_to first second rest frame p = grind (arith, common_steps, apdu_to)

-- what the octets read as is what the function gives
pub tpdu_in_from : (octets : List ℕ) (frame : Tpdu) → Reads octets frame → tpdu_in octets ≡ Some frame
unfolding tpdu_in
tpdu_in_from [] frame p = absurd p
tpdu_in_from (first ∷ []) frame p = control_from first frame p
tpdu_in_from (first ∷ second ∷ rest) frame p = data_from first second rest frame p

-- what the function gives is what the octets read as
pub tpdu_in_to : (octets : List ℕ) (frame : Tpdu) → tpdu_in octets ≡ Some frame → Reads octets frame
unfolding tpdu_in
tpdu_in_to [] frame p = absurd cc
tpdu_in_to (first ∷ []) frame p = control_to first frame p
tpdu_in_to (first ∷ second ∷ rest) frame p = data_to first second rest frame p

-- octets that are no frame
pub tpdu_in_none : (octets : List ℕ) → ((frame : Tpdu) → ¬ Reads octets frame) → tpdu_in octets ≡ None
tpdu_in_none octets never = none_of (tpdu_in octets) (λ frame e. never frame (tpdu_in_to octets frame e))

-- the service of an unnumbered frame
pub service_of_read : (octets : List ℕ) (apdu : Apdu) → Reads octets (Unnumbered apdu) → service_in octets ≡ Some apdu
unfolding service_in
service_of_read octets apdu p = ap unnumbered (tpdu_in_from octets (Unnumbered apdu) p)

-- a service that is written is read again
pub service_again : (apdu : Apdu) → IsApduInRange apdu → service_in (apdu_octets apdu) ≡ Some apdu
service_again apdu range = service_of_read (apdu_octets apdu) apdu (written_again (Unnumbered apdu) range)

-- what is decoded is what the function gives
pub gives_function : (octets : List ℕ) (r : Result Tpdu TpduRefused) → IfOk r (λ f. Reads octets f) → IfErr r (λ why. IsLeastBroken why octets) → result_ok r ≡ tpdu_in octets
gives_function octets (Ok frame) read refused = sym (tpdu_in_from octets frame read)
gives_function octets (Err why) read refused = sym (tpdu_in_none octets (λ frame p. reads_breaks octets why frame p refused.broken))
