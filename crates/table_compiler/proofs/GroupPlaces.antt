-- The place of a group among ascending groups.
use Rattle.std.proofs.Common.{◌≡◌, ℕ, zero, suc, ◌<◌, ◌≤◌, List, [], ◌∷◌, length, get_or, map, eqb, ltb, true, false, Some, refl, sym, ◌∙◌, arith, add-one, inl, inr, All}
use Rattle.std.specs.Prelude.{Contains, IsPermutation}
use Rattle.std.specs.List.{position_or_len, AllByRecursion}
use Rattle.std.specs.List.Sorted.{IsStrictlyIncreasing, IsNonDecreasingBy, IsPartitionedBy, IsPartitionPoint}
use Rattle.std.proofs.lemmas.Bool.{ne_eqb, eq-eqb, cases_lt, cases_eq, ltb-true, ltb-false}
use Rattle.std.proofs.lemmas.List.{get_or_default}
use Rattle.std.proofs.lemmas.List.Elements.{All-from_recursion}
use Rattle.std.proofs.lemmas.List.Kept.{AllPairs-from_increasing}
use Rattle.std.proofs.lemmas.List.Sorted.{All-permutation, IsNonDecreasingBy-from_default, IsPartitionedBy-ltb}
use Rattle.std.proofs.lemmas.List.Sums.{position_or_len_is}
use Rattle.std.proofs.lemmas.Option.{slice_get-get_or, slice_get_within, get_or_from_slice_get, none-some}
use Rattle.knx_model.specs.declared.config.LinkSpec.{LinkSpec}
use Rattle.knx_model.specs.Tables.{raw_of, at_place}
use Rattle.table_compiler.specs.Order.{place}
use Rattle.table_compiler.proofs.Searched.{never_falls}

pub place_is : (xs : List ℕ) (x i : ℕ) → IsStrictlyIncreasing xs → i < length xs → get_or xs i 0 ≡ x → position_or_len (λ y. eqb y x) xs ≡ i
place_is xs x i up lt e = position_or_len_is (λ y. eqb y x) xs i 0 (omega arith) (λ k below. ne_eqb (get_or xs k 0) x (λ q. let h = AllPairs-from_increasing xs up k i 0 below lt in omega arith)) (λ _. eq-eqb _ _ e)

rises : (xs : List ℕ) → IsStrictlyIncreasing xs → IsNonDecreasingBy (λ x. x) xs
rises xs up = IsNonDecreasingBy-from_default (λ x. x) xs 0 (never_falls xs up)

pub parted : (xs : List ℕ) (x : ℕ) → IsStrictlyIncreasing xs → IsPartitionedBy (λ y. ltb y x) xs
parted xs x up = IsPartitionedBy-ltb (λ y. y) xs x (rises xs up)

-- just the lower ones stand before a number that is listed
pub before_is : (xs : List ℕ) (x i k : ℕ) → IsStrictlyIncreasing xs → IsPartitionPoint (λ y. ltb y x ≡ true) (λ y. ltb y x ≡ false) xs i → i ≤ length xs → k < length xs → get_or xs k 0 ≡ x → i ≡ k
before_is xs x i k up point le lt here = elim (cases_lt i k) [
  | inl below ↦ absurd (let h = AllPairs-from_increasing xs up i k 0 below lt in let q = ltb-false (get_or xs i 0) x (point.1 i 0 (omega arith) (omega arith)) in omega arith)
  | inr above ↦ elim (cases_lt k i) [
    | inl below ↦ absurd (let q = ltb-true (get_or xs k 0) x (point.0 k 0 (omega arith) below) in omega arith)
    | inr other ↦ omega arith
  ]
]

-- a group stands where its place says
pub at_its_place : (groups : List ℕ) (g : ℕ) → IsStrictlyIncreasing groups → Contains groups g → at_place groups (place groups g) ≡ Some g
at_its_place groups g up h =
    let here : get_or groups h.0 0 ≡ g = get_or_default groups h.0 0 g h.1 ∙ h.2 in
    let at : position_or_len (λ y. eqb y g) groups ≡ h.0 = place_is groups g h.0 up h.1 here in
    rw (add-one, at) (slice_get-get_or groups h.0 g h.1 ∙ (λ i. Some (h.2 i)))

-- and no group has another place
pub place_of_entry : (groups : List ℕ) (p g : ℕ) → IsStrictlyIncreasing groups → at_place groups p ≡ Some g → place groups g ≡ p
place_of_entry groups zero g up e = absurd (none-some g e)
place_of_entry groups (suc i) g up e = let at = place_is groups g i up (slice_get_within groups i g e) (get_or_from_slice_get groups i g 0 e) in omega (arith, at)

-- a lower group has a lower place
pub places_rise : (groups : List ℕ) (g h : ℕ) → IsStrictlyIncreasing groups → Contains groups g → Contains groups h → g < h → place groups g < place groups h
places_rise groups g h up c d less =
    let here : get_or groups c.0 0 ≡ g = get_or_default groups c.0 0 g c.1 ∙ c.2 in
    let there : get_or groups d.0 0 ≡ h = get_or_default groups d.0 0 h d.1 ∙ d.2 in
    let at : position_or_len (λ y. eqb y g) groups ≡ c.0 = place_is groups g c.0 up c.1 here in
    let to : position_or_len (λ y. eqb y h) groups ≡ d.0 = place_is groups h d.0 up d.1 there in
    elim (cases_lt c.0 d.0) [
      | inl below ↦ omega (arith, at, to, below)
      | inr above ↦ elim (cases_eq c.0 d.0) [
        | inl same ↦ absurd (let e : get_or groups c.0 0 ≡ get_or groups d.0 0 = rw same refl in omega (arith, e, here, there, less))
        | inr apart ↦ absurd (let later : d.0 < c.0 = omega (arith, above, apart) in omega (arith, AllPairs-from_increasing groups up d.0 c.0 0 later c.1, here, there, less))
      ]
    ]

pub each_listed : (P : ℕ → Type 0) (links : List LinkSpec) → ((g : ℕ) → Contains (map raw_of links) g → P g) → AllByRecursion (λ l. P (raw_of l)) links
each_listed P [] h = tt
each_listed P (l ∷ ls) h = (h (raw_of l) (0, omega arith, refl), each_listed P ls (λ g c. h g (suc c.0, omega (arith, c.1), c.2)))

pub listed : (links order : List LinkSpec) (groups : List ℕ) → ((g : ℕ) → Contains (map raw_of links) g → Contains groups g) → IsPermutation links order → All (λ l. Contains groups (raw_of l)) order
listed links order groups h moved = All-permutation (λ l. Contains groups (raw_of l)) links order moved (All-from_recursion (λ l. Contains groups (raw_of l)) links (each_listed (λ g. Contains groups g) links h))

pub no_link : LinkSpec
no_link = record { object = 0; group = record { raw = 0 }; sending = false }

pub eqb_sym : (x y : ℕ) → eqb x y ≡ eqb y x
eqb_sym x y = elim (cases_eq x y) [
  | inl same ↦ eq-eqb x y same ∙ sym (eq-eqb y x (sym same))
  | inr apart ↦ ne_eqb x y apart ∙ sym (ne_eqb y x (λ q. apart (sym q)))
]
