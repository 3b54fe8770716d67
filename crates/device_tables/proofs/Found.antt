-- The objects of the pairs of one group, found from its first pair on.
use Rattle.std.proofs.Common.{◌≡◌, ℕ, zero, suc, ◌+◌, ◌<◌, ◌≤◌, inl, inr, Bool, true, false, ◌||◌, cond, eqb, List, [], ◌∷◌, length, take, get_or, Some, refl, sym, ap, ◌∙◌, arith}
use Rattle.std.specs.List.{AllPairs, list_any, count_by, range_with_len}
use Rattle.std.proofs.lemmas.Bool.{eq-eqb, eqb-true, ne_eqb, cases_Bool, cases_eq, and_parts}
use Rattle.std.proofs.lemmas.List.{take_all, get_or_default}
use Rattle.std.proofs.lemmas.List.Sums.{sum_by-cons}
use Rattle.std.proofs.lemmas.Option.{slice_get-get_or}
use Rattle.device_tables.specs.Objects.{holds}
use Rattle.device_tables.specs.Index.{StandsBefore, is_of, is_paired, how_many}
use Rattle.device_tables.proofs.Counting.{any_more}
use Rattle.device_tables.proofs.Halves.{groups_rise}

-- ---- a test that no pair of a part passes

none_front : {X : Type 0} (p : X → Bool) (xs : List X) (n : ℕ) → ((k : ℕ) (d : X) → k < n → k < length xs → p (get_or xs k d) ≡ false) → list_any p (take n xs) ≡ false
none_front p xs zero none = refl
none_front p [] (suc n) none = refl
none_front p (x ∷ xs) (suc n) none = rw (none 0 x (omega arith) (omega arith)) (none_front p xs n (λ k d lt within. none (suc k) d (omega arith) (omega arith)))

none_behind : {X : Type 0} (p : X → Bool) (xs : List X) (n : ℕ) → ((k : ℕ) (d : X) → n ≤ k → k < length xs → p (get_or xs k d) ≡ false) → list_any p (take n xs) ≡ list_any p xs
none_behind p [] zero none = refl
none_behind p (x ∷ xs) zero none = rw (none 0 x (omega arith) (omega arith)) (none_behind p xs zero (λ k d from within. none (suc k) d (omega arith) (omega arith)))
none_behind p [] (suc n) none = refl
none_behind p (x ∷ xs) (suc n) none = ap (λ b. p x || b) (none_behind p xs n (λ k d from within. none (suc k) d (omega arith) (omega arith)))

other_group : (g o : ℕ) (pair : ℕ × ℕ) → (pair.0 ≡ g → ⊥) → is_of g o pair ≡ false
other_group g o pair apart = rw (ne_eqb pair.0 g apart) refl

-- before the first pair of a group there is none of it
pub none_before : (ps : List (ℕ × ℕ)) (g o first : ℕ) → ((k : ℕ) (d : ℕ × ℕ) → k < first → (get_or ps k d).0 < g) → list_any (is_of g o) (take first ps) ≡ false
none_before ps g o first below = none_front (is_of g o) ps first (λ k d lt within. other_group g o (get_or ps k d) (λ same. omega (arith, below k d lt, same)))

-- from a pair of another group on there is none of it, where the groups aren't below it
pub all_found : (ps : List (ℕ × ℕ)) (g o at : ℕ) (x : ℕ × ℕ) → AllPairs StandsBefore ps → at < length ps → x ≡ get_or ps at x → g ≤ x.0 → (x.0 ≡ g → ⊥) → list_any (is_of g o) (take at ps) ≡ is_paired ps g o
all_found ps g o at x ascending lt here from apart =
    none_behind (is_of g o) ps at (λ k d le within. other_group g o (get_or ps k d) (λ same. apart (omega (arith, groups_rise ps ascending at k d le within, ap (λ (p : ℕ × ℕ). p.0) here, ap (λ (p : ℕ × ℕ). p.0) (get_or_default ps at x d lt), from, same))))

pub all_looked_at : (ps : List (ℕ × ℕ)) (g o at : ℕ) → length ps ≤ at → list_any (is_of g o) (take at ps) ≡ is_paired ps g o
all_looked_at ps g o at le = ap (λ qs. list_any (is_of g o) qs) (take_all at ps le)

-- one pair of the group more
pub one_more : (ps : List (ℕ × ℕ)) (g o at : ℕ) (x : ℕ × ℕ) → at < length ps → x ≡ get_or ps at x → x.0 ≡ g → list_any (is_of g o) (take (at + 1) ps) ≡ (list_any (is_of g o) (take at ps) || eqb o x.1)
one_more ps g o at x lt here of =
    any_more (is_of g o) ps at x (slice_get-get_or ps at x lt ∙ ap Some (sym here)) ∙ ap (λ b. list_any (is_of g o) (take at ps) || b) (rw (eq-eqb x.0 g of) (turned x.1 o))
  where
    turned : (a b : ℕ) → eqb a b ≡ eqb b a
    turned a b = elim (cases_eq a b) as (λ _. eqb a b ≡ eqb b a) [
      | inl same ↦ eq-eqb a b same ∙ sym (eq-eqb b a (sym same))
      | inr apart ↦ ne_eqb a b apart ∙ sym (ne_eqb b a (λ e. apart (sym e)))
    ]

-- its object wasn't there yet
pub not_yet : (ps : List (ℕ × ℕ)) (g at : ℕ) (x : ℕ × ℕ) → AllPairs StandsBefore ps → at < length ps → x ≡ get_or ps at x → x.0 ≡ g → list_any (is_of g x.1) (take at ps) ≡ false
not_yet ps g at x ascending lt here of = none_front (is_of g x.1) ps at (λ k d below within. elim (cases_Bool (is_of g x.1 (get_or ps k d))) as (λ _. is_of g x.1 (get_or ps k d) ≡ false) [
  | inl held ↦ absurd (itself (get_or ps k d) (get_or ps at d) (ascending k at d below lt) (and_parts (eqb (get_or ps k d).0 g) (eqb (get_or ps k d).1 x.1) held) (here ∙ get_or_default ps at x d lt))
  | inr free ↦ free
])
  where
    itself : (y z : ℕ × ℕ) → StandsBefore y z → (eqb y.0 g ≡ true) × (eqb y.1 x.1 ≡ true) → x ≡ z → ⊥
    itself y z (inl below) both is = omega (arith, below, eqb-true y.0 g both.0, of, ap (λ (p : ℕ × ℕ). p.0) is)
    itself y z (inr (same, below)) both is = omega (arith, below, eqb-true y.1 x.1 both.1, ap (λ (p : ℕ × ℕ). p.1) is)

-- ---- how many objects a set holds

abbrev counted : (ℕ → Bool) → ℕ → ℕ → ℕ
counted p a n = count_by p (range_with_len a n)

first_one : (p : ℕ → Bool) (a n : ℕ) → counted p a (suc n) ≡ cond (p a) 1 0 + counted p (a + 1) n
first_one p a n = sum_by-cons (λ x. cond (p x) 1 0) a (range_with_len (a + 1) n)

alike_counted : (p q : ℕ → Bool) (a n : ℕ) → ((o : ℕ) → a ≤ o → o < a + n → q o ≡ p o) → counted q a n ≡ counted p a n
alike_counted p q a zero same = refl
alike_counted p q a (suc n) same =
    first_one q a n ∙ ap (λ b. cond b 1 0 + counted q (a + 1) n) (same a (omega arith) (omega arith))
    ∙ ap (λ m. cond (p a) 1 0 + m) (alike_counted p q (a + 1) n (λ o from below. same o (omega arith) (omega arith)))
    ∙ sym (first_one p a n)

or_none : (b : Bool) → (b || false) ≡ b
or_none true = refl
or_none false = refl

abbrev amount : Bool → ℕ
amount b = cond b 1 0

one_more_counted : (p q : ℕ → Bool) (x a n : ℕ) → a ≤ x → x < a + n → p x ≡ false → ((o : ℕ) → q o ≡ (p o || eqb o x)) → counted q a n ≡ counted p a n + 1
one_more_counted p q x a zero from below free is = absurd (omega arith)
one_more_counted p q x a (suc n) from below free is = elim (cases_eq a x) as (λ _. counted q a (suc n) ≡ counted p a (suc n) + 1) [
  | inl same ↦
      let there : q a ≡ true = is a ∙ ap (λ b. b || eqb a x) (ap p same ∙ free) ∙ eq-eqb a x same in
      let wasnt : p a ≡ false = ap p same ∙ free in
      let rest = alike_counted p q (a + 1) n (λ o above within. is o ∙ ap (λ b. p o || b) (ne_eqb o x (λ e. omega (arith, e, same, above))) ∙ or_none (p o)) in
      omega (arith, first_one q a n, first_one p a n, ap amount there, ap amount wasnt, rest)
  | inr apart ↦
      let alike : q a ≡ p a = is a ∙ ap (λ b. p a || b) (ne_eqb a x apart) ∙ or_none (p a) in
      let rest = one_more_counted p q x (a + 1) n (omega arith) (omega arith) free is in
      omega (arith, first_one q a n, first_one p a n, ap amount alike, rest)
]

none_counted : (p : ℕ → Bool) (a n : ℕ) → ((o : ℕ) → p o ≡ false) → counted p a n ≡ 0
none_counted p a zero none = refl
none_counted p a (suc n) none = first_one p a n ∙ ap (λ b. cond b 1 0 + counted p (a + 1) n) (none a) ∙ omega (arith, none_counted p (a + 1) n none)

pub one_more_held : (before after : List Bool) (x : ℕ) → x < 256 → holds before x ≡ false → ((o : ℕ) → holds after o ≡ (holds before o || eqb o x)) → how_many after ≡ how_many before + 1
unfolding how_many
one_more_held before after x small free is = one_more_counted (holds before) (holds after) x 0 256 (omega arith) (omega arith) free is

pub none_held_yet : (set : List Bool) → ((o : ℕ) → holds set o ≡ false) → how_many set ≡ 0
unfolding how_many
none_held_yet set none = none_counted (holds set) 0 256 none
