-- What is read from octets is in the range of what can be written.
use Rattle.std.proofs.Common.{ℕ, suc, ◌<◌, List, [], ◌∷◌, get_or, Some, None, arith}
use Rattle.std.proofs.lemmas.Grind.{common_steps}
use Rattle.knx_model.specs.declared.frames.value.Value.{Value}
use Rattle.knx_model.specs.declared.frames.value.Value.TheVariants.{Short, Long}
use Rattle.knx_model.specs.declared.frames.tpdu.Apdu.{Apdu}
use Rattle.knx_model.specs.declared.frames.tpdu.Apdu.TheVariants.{GroupRead, GroupResponse, GroupWrite, AddressWrite, AddressRead, AddressResponse, MemoryRead, MemoryResponse, MemoryWrite, DescriptorRead, DescriptorResponse, PropertyRead, PropertyResponse, PropertyWrite}
use Rattle.knx_model.specs.declared.frames.tpdu.Tpdu.TheVariants.{Unnumbered}
use Rattle.knx_model.specs.Apdu.{code_of, IsValue, IsOfProperty, ReadsApdu, Reads, IsValueInRange, IsApduInRange}

value_in_range : (code : ℕ) (rest : List ℕ) (value : Value) → IsValue code rest value → IsValueInRange value
value_in_range code rest (Short value) h = omega arith
value_in_range code rest (Long octets) h = grind (arith, common_steps)

property_in_range : (rest : List ℕ) → ((k : ℕ) → get_or rest k 0 < 256) → (object property count start : ℕ) (octets : List ℕ) → IsOfProperty rest object property count start octets → (count < 16) × (start < 4096)
property_in_range (o ∷ p ∷ high ∷ below ∷ rest) each object property count start octets h =
    let a : high < 256 = each 2 in
    let b : below < 256 = each 3 in
    (omega arith, omega arith)
property_in_range _ each object property count start octets h = absurd h

apdu_in_range : (code : ℕ) (rest : List ℕ) → ((k : ℕ) → get_or rest k 0 < 256) → (apdu : Apdu) → ReadsApdu code rest apdu → IsApduInRange apdu
apdu_in_range code rest each GroupRead h = tt
apdu_in_range code rest each (GroupResponse value) h = value_in_range code rest value h.1
apdu_in_range code rest each (GroupWrite value) h = value_in_range code rest value h.1
apdu_in_range code rest each (AddressWrite address) h = tt
apdu_in_range code rest each AddressRead h = tt
apdu_in_range code rest each AddressResponse h = tt
apdu_in_range code rest each (MemoryRead count address) h = (h.3, h.4)
apdu_in_range code rest each (MemoryResponse address octets) h = h.3
apdu_in_range code rest each (MemoryWrite address octets) h = (h.3, h.4)
apdu_in_range code rest each (DescriptorRead kind) h = omega (arith, h)
apdu_in_range code rest each (DescriptorResponse kind None) h = h.1.0
apdu_in_range code rest each (DescriptorResponse kind (Some value)) h = let k : kind < 64 = omega (arith, h.2) in omega (arith, h.1)
apdu_in_range code rest each (PropertyRead object property count start) h = property_in_range rest each object property count start [] h.1
apdu_in_range code rest each (PropertyResponse object property count start octets) h =
    let range = property_in_range rest each object property count start octets h.1 in (range.0, range.1, h.2)
apdu_in_range code rest each (PropertyWrite object property count start octets) h =
    let range = property_in_range rest each object property count start octets h.1 in (range.0, range.1, h.2)

-- a service that is read without a number
pub service_in_range : (octets : List ℕ) → ((k : ℕ) → get_or octets k 0 < 256) → (apdu : Apdu) → Reads octets (Unnumbered apdu) → IsApduInRange apdu
service_in_range [] each apdu h = absurd h
service_in_range (first ∷ []) each apdu h = absurd h
service_in_range (first ∷ second ∷ rest) each apdu h = apdu_in_range (code_of first second) rest (λ k. each (suc (suc k))) apdu h.1
