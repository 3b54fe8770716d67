-- Slots of values: one more behind, and those of all object numbers.
use Rattle.std.proofs.Common.{ℕ, zero, suc, ◌+◌, ◌≡◌, ◌<◌, List, [], ◌∷◌, ◌++◌, length, map, replicate, Option, None, refl, ap, sym, zero-add}
use Rattle.std.specs.Prelude.{IfSome}
use Rattle.std.specs.List.{range_with_len}
use Rattle.std.proofs.lemmas.List.FromFn.{get_or-map-range_with_len, length-map-range_with_len, fill_by_all}
use Rattle.knx_model.specs.declared.frames.value.Value.{Value}
use Rattle.knx_model.specs.Apdu.{IsValueInRange}
use Rattle.knx_model.specs.DeviceState.{slot, zero_values}

abbrev pub AreInRange : List (Option Value) → Type 0
AreInRange slots = (k : ℕ) → IfSome (slot slots k) IsValueInRange

pub one_more : (slots : List (Option Value)) (next : Option Value) → AreInRange slots → IfSome next IsValueInRange → AreInRange (slots ++ next ∷ [])
one_more [] next h p zero = p
one_more [] next h p (suc k) = h 0
one_more (x ∷ xs) next h p zero = h 0
one_more (x ∷ xs) next h p (suc k) = one_more xs next (λ j. h (suc j)) p k

-- a slot for each object number
abbrev pub padded : List (Option Value) → List (Option Value)
padded slots = map (slot slots) (range_with_len 0 256)

none_from : (a n : ℕ) → map (slot []) (range_with_len a n) ≡ replicate n None
none_from a zero = refl
none_from a (suc n) = ap (λ (rest : List (Option Value)). None ∷ rest) (none_from (a + 1) n)

pub no_slots : map (slot []) (range_with_len 0 256) ≡ zero_values
unfolding zero_values
no_slots = none_from 0 256

pub slot_of_padded : (slots : List (Option Value)) (o : ℕ) → o < 256 → slot (map (slot slots) (range_with_len 0 256)) o ≡ slot slots o
slot_of_padded slots o h = get_or-map-range_with_len (slot slots) 0 256 o o None h (zero-add o)

pub padded_length : (slots : List (Option Value)) → length (map (slot slots) (range_with_len 0 256)) ≡ 256
padded_length slots = length-map-range_with_len (slot slots) 0 256

-- slots that are as many as the object numbers stand for themselves
pub padded_whole : (slots : List (Option Value)) → length slots ≡ 256 → map (slot slots) (range_with_len 0 256) ≡ slots
padded_whole slots h = sym (fill_by_all (slot slots) slots 256 None h (λ k lt. refl))
