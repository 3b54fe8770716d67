-- What is read breaks no rule.
use Rattle.std.proofs.Common.{◌≡◌, ℕ, ◌+◌, ◌≤◌, ◌⊎◌, inl, inr, List, [], ◌∷◌, length, refl, ap, Option, Some, None, arith}
use Rattle.std.proofs.lemmas.Grind.{common_steps}
use Rattle.knx_model.specs.declared.frames.tpdu.Apdu.{Apdu}
use Rattle.knx_model.specs.declared.frames.tpdu.Tpdu.{Tpdu}
use Rattle.knx_model.specs.declared.frames.tpdu.TpduRefused.{TpduRefused}
use Rattle.knx_model.specs.declared.frames.tpdu.TpduRefused.TheVariants.{Empty, Code, Length, Count}
use Rattle.knx_model.specs.Apdu.{Breaks, Reads, ReadsApdu, ReadsControl, ReadsData, IsControlForm, IsDataForm, IsService, AllowsLength, AllowsCount, IsLeastBroken, IsWord, IsAddressed, IsOfProperty, IsValue, IsDescriptor, most_value_octets}
use Rattle.knx_model.specs.declared.frames.value.Value.{Value}
use Rattle.knx_model.specs.declared.frames.value.Value.TheVariants.{Short, Long}
use Rattle.std.specs.Prelude.{IfOk, IfErr, Result, Ok, Err}
use Rattle.apdu_frames.proofs.Once.{tpdu_once}

forms_apart : (first : ℕ) → IsControlForm first → IsDataForm first → ⊥
forms_apart first p q = grind arith

-- ---- what is read breaks no rule

word_len : (xs : List ℕ) (n : ℕ) → IsWord xs n → length xs ≡ 2
word_len [] n p = absurd p
word_len (a ∷ []) n p = absurd p
word_len (a ∷ b ∷ []) n p = refl
word_len (a ∷ b ∷ c ∷ xs) n p = absurd p

value_len : (code : ℕ) (xs : List ℕ) (v : Value) → IsValue code xs v → length xs ≤ most_value_octets
value_len code xs (Short a) p = rw p.0 (omega arith)
value_len code xs (Long a) p = p.2

addressed_len : (xs : List ℕ) (a : ℕ) (os : List ℕ) → IsAddressed xs a os → length xs ≡ 2 + length os
addressed_len [] a os p = absurd p
addressed_len (x ∷ []) a os p = absurd p
addressed_len (x ∷ y ∷ xs) a os p = grind (arith, common_steps)

property_len : (xs : List ℕ) (o p c s : ℕ) (os : List ℕ) → IsOfProperty xs o p c s os → length xs ≡ 4 + length os
property_len [] o p c s os h = absurd h
property_len (x ∷ []) o p c s os h = absurd h
property_len (x ∷ y ∷ []) o p c s os h = absurd h
property_len (x ∷ y ∷ z ∷ []) o p c s os h = absurd h
property_len (x ∷ y ∷ z ∷ w ∷ xs) o p c s os h = grind (arith, common_steps)

descriptor_len : (kind : ℕ) (xs : List ℕ) (v : Option ℕ) → IsDescriptor kind xs v → ((kind ≡ 63) × (length xs ≡ 0)) ⊎ ((kind ≡ 63 → ⊥) × (length xs ≡ 2))
descriptor_len kind xs None p = inl (p.0, rw p.1 refl)
descriptor_len kind xs (Some n) p = inr (p.0, word_len xs n p.1)

service_allowed : (code : ℕ) (rest : List ℕ) (apdu : Apdu) → ReadsApdu code rest apdu → IsService code
service_allowed code rest apdu p = grind (arith, common_steps, word_len, value_len, addressed_len, property_len, descriptor_len)

length_allowed : (code : ℕ) (rest : List ℕ) (apdu : Apdu) → ReadsApdu code rest apdu → AllowsLength code (length rest)
length_allowed code rest apdu p = grind (arith, common_steps, word_len, value_len, addressed_len, property_len, descriptor_len)

count_allowed : (code : ℕ) (rest : List ℕ) (apdu : Apdu) → ReadsApdu code rest apdu → AllowsCount code (length rest)
count_allowed code rest apdu p = grind (arith, common_steps, word_len, value_len, addressed_len, property_len, descriptor_len)

control_form : (first : ℕ) (frame : Tpdu) → ReadsControl first frame → IsControlForm first
control_form first frame p = grind (arith, common_steps)

data_form : (first second : ℕ) (rest : List ℕ) (frame : Tpdu) → ReadsData first second rest frame → IsDataForm first
data_form first second rest frame p = grind (arith, common_steps)

pub reads_breaks : (octets : List ℕ) (why : TpduRefused) (frame : Tpdu) → Reads octets frame → Breaks why octets → ⊥
reads_breaks [] why frame p h = p
reads_breaks (first ∷ []) Empty frame p h = absurd cc
reads_breaks (first ∷ []) Code frame p h = h (control_form first frame p)
reads_breaks (first ∷ []) Length frame p h = h
reads_breaks (first ∷ []) Count frame p h = h
reads_breaks (first ∷ second ∷ rest) Empty frame p h = absurd cc
reads_breaks (first ∷ second ∷ rest) Code frame p h = grind (arith, forms_apart, data_form, service_allowed)
reads_breaks (first ∷ second ∷ rest) Length frame p h = grind (arith, forms_apart, data_form, length_allowed)
reads_breaks (first ∷ second ∷ rest) Count frame p h = grind (arith, forms_apart, data_form, count_allowed)

pub only_frame : (octets : List ℕ) (r : Result Tpdu TpduRefused) → IfOk r (λ f. Reads octets f) → IfErr r (λ why. IsLeastBroken why octets) → (frame : Tpdu) → Reads octets frame → r ≡ Ok frame
only_frame octets (Ok f) ok err frame p = ap Ok (tpdu_once octets f frame ok p)
only_frame octets (Err why) ok err frame p = absurd (reads_breaks octets why frame p err.broken)
