-- Words that are values.
use Rattle.std.proofs.Common.{◌≡◌, ℕ, Bool, cond, eqb, leb, bytes_eq, codes, List, [], ◌∷◌, length, true, false, ◌&&◌, Option, Some, None, refl, subst, arith}
use Rattle.std.proofs.lemmas.Option.{same_Some, none-some}
use Rattle.std.proofs.lemmas.Bool.{lt-ltb, leb-true, and_from}
use Rattle.knx_model.specs.declared.frames.value.Value.{Value}
use Rattle.knx_model.specs.declared.frames.value.Value.TheVariants.{Short, Long}
use Rattle.knx_model.specs.declared.script.GroupService.{GroupService}
use Rattle.knx_model.specs.declared.script.GroupService.TheVariants.{Read, Write}
use Rattle.knx_model.specs.Values.{hex_octets, short_of, long_of, value_value}
use Rattle.knx_model.specs.ScriptText.{written, service_value, is_service}

short_within : (b : Bool) (octet : ℕ) (v : Value) → leb octet 0x3F ≡ b → cond b (Some (Short octet)) None ≡ Some v → is_service (Write v) ≡ true
short_within true octet v within e = subst (λ (x : Value). is_service (Write x) ≡ true) (same_Some (Short octet) v e) (lt-ltb octet 64 (omega (arith, leb-true octet 0x3F within)))
short_within false octet v within e = absurd (none-some v e)

short_fits : (o : Option (List ℕ)) (v : Value) → short_of o ≡ Some v → is_service (Write v) ≡ true
short_fits None v e = absurd (none-some v e)
short_fits (Some []) v e = absurd (none-some v e)
short_fits (Some (octet ∷ [])) v e = short_within (leb octet 0x3F) octet v refl e
short_fits (Some (a ∷ b ∷ os)) v e = absurd (none-some v e)

long_within : (some few : Bool) (octets : List ℕ) (v : Value) → leb 1 (length octets) ≡ some → leb (length octets) 14 ≡ few → cond (some && few) (Some (Long octets)) None ≡ Some v → is_service (Write v) ≡ true
long_within true true octets v some few e =
    subst (λ (x : Value). is_service (Write x) ≡ true) (same_Some (Long octets) v e)
    (and_from _ _ (lt-ltb 0 (length octets) (omega (arith, leb-true 1 (length octets) some))) (lt-ltb (length octets) 15 (omega (arith, leb-true (length octets) 14 few))))
long_within true false octets v some few e = absurd (none-some v e)
long_within false few octets v some few' e = absurd (none-some v e)

long_fits : (o : Option (List ℕ)) (v : Value) → long_of o ≡ Some v → is_service (Write v) ≡ true
long_fits None v e = absurd (none-some v e)
long_fits (Some octets) v e = long_within (leb 1 (length octets)) (leb (length octets) 14) octets v refl refl e

value_of : (b : Bool) (first : ℕ) (rest : List ℕ) (v : Value) → cond b (short_of (hex_octets rest)) (long_of (hex_octets (first ∷ rest))) ≡ Some v → is_service (Write v) ≡ true
value_of true first rest v e = short_fits (hex_octets rest) v e
value_of false first rest v e = long_fits (hex_octets (first ∷ rest)) v e

value_fits : (word : List ℕ) (v : Value) → value_value word ≡ Some v → is_service (Write v) ≡ true
unfolding value_value
value_fits [] v e = absurd (none-some v e)
value_fits (first ∷ rest) v e = value_of (eqb first 115) first rest v e

written_fits : (o : Option Value) (service : GroupService) → ((v : Value) → o ≡ Some v → is_service (Write v) ≡ true) → written o ≡ Some service → is_service service ≡ true
written_fits None service each e = absurd (none-some service e)
written_fits (Some v) service each e = subst (λ (x : GroupService). is_service x ≡ true) (same_Some (Write v) service e) (each v refl)

service_of : (b : Bool) (word : List ℕ) (service : GroupService) → cond b (Some Read) (written (value_value word)) ≡ Some service → is_service service ≡ true
service_of true word service e = subst (λ (x : GroupService). is_service x ≡ true) (same_Some Read service e) refl
service_of false word service e = written_fits (value_value word) service (value_fits word) e

-- a service that a word spells can be spelled
pub service_fits : (word : List ℕ) (service : GroupService) → service_value word ≡ Some service → is_service service ≡ true
unfolding service_value
service_fits word service e = service_of (bytes_eq word (codes "read")) word service e
