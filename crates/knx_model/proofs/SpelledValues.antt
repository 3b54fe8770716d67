-- The function that reads group values is the grammar's relation.
use Rattle.std.proofs.Common.{◌≡◌, ℕ, ◌+◌, ◌*◌, ◌≤◌, Bool, true, false, cond, ◌&&◌, eqb, leb, List, [], ◌∷◌, length, Option, Some, None, refl, sym, subst, arith, inl, inr}
use Rattle.std.specs.Char.{digit_value}
use Rattle.std.proofs.lemmas.Bool.{and_parts, cases_Bool, le-leb, leb-true, eqb-true}
use Rattle.std.proofs.lemmas.Option.{same_Some, none-some}
use Rattle.knx_model.specs.declared.frames.value.Value.{Value}
use Rattle.knx_model.specs.declared.frames.value.Value.TheVariants.{Short, Long}
use Rattle.knx_model.specs.Numbers.{is_digit}
use Rattle.knx_model.specs.Spells.{SpellsOctets, NoOctets, OneMore, SpellsValue, ShortWord, LongWord}
use Rattle.knx_model.specs.Values.{octet_before, hex_octets, short_of, long_of, value_value}

-- ---- octets

octets_from : (digits octets : List ℕ) → SpellsOctets digits octets → hex_octets digits ≡ Some octets
octets_from _ _ NoOctets = refl
octets_from _ _ (OneMore high below digits octets h b rest) = rw (h, b, octets_from digits octets rest) refl

record Before (test : Bool) (n : ℕ) (more : Option (List ℕ)) (octets : List ℕ) : Type 0 where
  passes : test ≡ true
  rest : List ℕ
  more_is : more ≡ Some rest
  octets_are : octets ≡ n ∷ rest

before : (test : Bool) (n : ℕ) (more : Option (List ℕ)) (octets : List ℕ) → cond test (octet_before n more) None ≡ Some octets → Before test n more octets
before false n more octets e = absurd (none-some octets e)
before true n None octets e = absurd (none-some octets e)
before true n (Some xs) octets e = record { passes = refl; rest = xs; more_is = refl; octets_are = sym (same_Some (n ∷ xs) octets e) }

octets_to : (digits octets : List ℕ) → hex_octets digits ≡ Some octets → SpellsOctets digits octets
octets_to [] octets e = subst (λ (l : List ℕ). SpellsOctets [] l) (same_Some [] octets e) NoOctets
octets_to (high ∷ []) octets e = absurd (none-some octets e)
octets_to (high ∷ (below ∷ digits)) octets e =
    let h = before (is_digit 16 high && is_digit 16 below) (digit_value high * 16 + digit_value below) (hex_octets digits) octets e in
    let both = and_parts (is_digit 16 high) (is_digit 16 below) h.passes in
    subst (λ (l : List ℕ). SpellsOctets (high ∷ (below ∷ digits)) l) (sym h.octets_are) (OneMore high below digits h.rest both.0 both.1 (octets_to digits h.rest h.more_is))

-- ---- values

short_to : (o : Option (List ℕ)) (value : Value) → short_of o ≡ Some value → (octet : ℕ) × (o ≡ Some (octet ∷ [])) × (octet ≤ 0x3F) × (value ≡ Short octet)
short_to None value e = absurd (none-some value e)
short_to (Some []) value e = absurd (none-some value e)
short_to (Some (x ∷ (y ∷ ys))) value e = absurd (none-some value e)
short_to (Some (octet ∷ [])) value e = elim (cases_Bool (leb octet 0x3F)) [
  | inl q ↦ (octet, refl, leb-true octet 0x3F q, sym (same_Some (Short octet) value (rw q at e)))
  | inr q ↦ absurd (none-some value (rw q at e))
]

long_to : (o : Option (List ℕ)) (value : Value) → long_of o ≡ Some value → (octets : List ℕ) × (o ≡ Some octets) × (1 ≤ length octets) × (length octets ≤ 14) × (value ≡ Long octets)
long_to None value e = absurd (none-some value e)
long_to (Some octets) value e = elim (cases_Bool (leb 1 (length octets) && leb (length octets) 14)) [
  | inl q ↦ let both = and_parts (leb 1 (length octets)) (leb (length octets) 14) q in
      (octets, refl, leb-true 1 (length octets) both.0, leb-true (length octets) 14 both.1, sym (same_Some (Long octets) value (rw q at e)))
  | inr q ↦ absurd (none-some value (rw q at e))
]

long_word : (digits : List ℕ) (value : Value) → long_of (hex_octets digits) ≡ Some value → SpellsValue digits value
long_word digits value e =
    let l = long_to (hex_octets digits) value e in
    subst (λ (v : Value). SpellsValue digits v) (sym l.4) (LongWord digits l.0 (octets_to digits l.0 l.1) l.2 l.3)

short_word : (digits : List ℕ) (value : Value) → short_of (hex_octets digits) ≡ Some value → SpellsValue (115 ∷ digits) value
short_word digits value e =
    let s = short_to (hex_octets digits) value e in
    subst (λ (v : Value). SpellsValue (115 ∷ digits) v) (sym s.3) (ShortWord digits s.0 (octets_to digits (s.0 ∷ []) s.1) s.2)

pub value_to : (word : List ℕ) (value : Value) → value_value word ≡ Some value → SpellsValue word value
unfolding value_value
value_to [] value e = absurd (none-some value e)
value_to (first ∷ rest) value e = elim (cases_Bool (eqb first 115)) [
  | inl q ↦ subst (λ (f : ℕ). SpellsValue (f ∷ rest) value) (sym (eqb-true first 115 q)) (short_word rest value (rw q at e))
  | inr q ↦ long_word (first ∷ rest) value (rw q at e)
]

long_of_some : (octets : List ℕ) → 1 ≤ length octets → length octets ≤ 14 → long_of (Some octets) ≡ Some (Long octets)
long_of_some octets some few = rw (le-leb 1 (length octets) some, le-leb (length octets) 14 few) refl

-- an `s` is no digit
no_s : (high : ℕ) → is_digit 16 high ≡ true → eqb high 115 ≡ false
no_s high h = elim (cases_Bool (eqb high 115)) [
  | inl q ↦ absurd (cc (subst (λ (c : ℕ). is_digit 16 c ≡ true) (eqb-true high 115 q) h))
  | inr q ↦ q
]

value_of_long : (digits octets : List ℕ) → SpellsOctets digits octets → 1 ≤ length octets → length octets ≤ 14 → value_value digits ≡ Some (Long octets)
unfolding value_value
value_of_long _ _ NoOctets some few = absurd (omega arith)
value_of_long _ _ (OneMore high below digits octets h b rest) some few =
    rw (no_s high h, octets_from _ _ (OneMore high below digits octets h b rest)) (long_of_some ((digit_value high * 16 + digit_value below) ∷ octets) some few)

pub value_from : (word : List ℕ) (value : Value) → SpellsValue word value → value_value word ≡ Some value
unfolding value_value
value_from _ _ (ShortWord digits octet s small) = rw (octets_from digits (octet ∷ []) s, le-leb octet 0x3F small) refl
value_from _ _ (LongWord digits octets s some few) = value_of_long digits octets s some few
