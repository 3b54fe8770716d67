-- Links sorted by their object, the sending one first, and their group.
use Rattle.std.proofs.Common.{◌≡◌, ℕ, ◌+◌, ◌*◌, ◌<◌, ◌≤◌, ◌⊎◌, inl, inr, Bool, true, false, not, cond, eqb, List, Ordering, length, map, get_or, All, refl, sym, ◌∙◌, arith}
use Rattle.std.specs.Prelude.{IsPermutation}
use Rattle.std.specs.List.{AllPairs, IsDistinct}
use Rattle.std.specs.List.Sorted.{IsStrictlyIncreasing, IsNonDecreasing, IsNonDecreasingBy, IsSortedByKey}
use Rattle.std.specs.Ordering.{is_lt, nat_cmp, bool_cmp, ordering_then}
use Rattle.std.proofs.lemmas.Bool.{cases_order}
use Rattle.std.proofs.lemmas.Bool.Decides.{Decides-eqb}
use Rattle.std.proofs.lemmas.List.{get_or-map, length-map}
use Rattle.std.proofs.lemmas.List.Kept.{AllPairs-from_increasing}
use Rattle.std.proofs.lemmas.List.Sorted.{IsNonDecreasingBy-from_all_adjacent, IsPermutation-map, All-permutation}
use Rattle.std.proofs.lemmas.Map.Keys.{IsStrictlyIncreasing-from_distinct, IsDistinct-IsPermutation}
use Rattle.std.proofs.lemmas.Map.Made.{IsDistinct-from_AllPairs}
use Rattle.knx_model.specs.declared.config.LinkSpec.{LinkSpec}
use Rattle.knx_model.specs.Tables.{raw_of}
use Rattle.table_compiler.specs.Order.{IsLink, AreApart, StandsBefore}
use Rattle.table_compiler.specs.declared.tables.Precedence.{Precedence}
use Rattle.table_compiler.proofs.GroupPlaces.{no_link, eqb_sym}

-- where a link stands
abbrev pub key_of : LinkSpec → Precedence
key_of l = record { object = l.object; receives_only = not l.sending; group = l.group }

-- in the order of the fields
abbrev pub key_cmp : Precedence → Precedence → Ordering
key_cmp a b = ordering_then (nat_cmp a.object b.object) (ordering_then (bool_cmp a.receives_only b.receives_only) (nat_cmp a.group.raw b.group.raw))

-- one number that rises with it, for std's lemmas on sorted numbers
rank : LinkSpec → ℕ
rank l = l.object * 131072 + cond l.sending 0 65536 + raw_of l

rises : (o p r q : ℕ) (s t : Bool) → r < 65536 → q < 65536 → is_lt (ordering_then (nat_cmp p o) (ordering_then (bool_cmp (not t) (not s)) (nat_cmp q r))) ≡ false → o * 131072 + cond s 0 65536 + r ≤ p * 131072 + cond t 0 65536 + q
rises o p r q s t small less sorted = grind arith

sorted_rises : (links : List LinkSpec) → All IsLink links → IsSortedByKey key_of key_cmp links → IsNonDecreasingBy rank links
unfolding rank
sorted_rises links all sorted = IsNonDecreasingBy-from_all_adjacent rank links (λ k d lt.
    let first : LinkSpec = get_or links k d in
    let next : LinkSpec = get_or links (k + 1) d in
    rises first.object next.object (raw_of first) (raw_of next) first.sending next.sending (all k d (omega (arith, lt))).1 (all (k + 1) d lt).1 (sorted k d (omega arith) lt))

map_rises : (order : List LinkSpec) → IsNonDecreasingBy rank order → IsNonDecreasing (map rank order)
map_rises order up i j d le lt =
    let len = length-map order rank in
    let at : (k : ℕ) → k < length order → get_or (map rank order) k d ≡ rank (get_or order k no_link) = λ k small. get_or-map rank order k no_link d small in
    let h : rank (get_or order i no_link) ≤ rank (get_or order j no_link) = up i j no_link le (omega arith) in
    rw (at i (omega arith), at j (omega arith)) h

-- the number tells the object and the group
same_rank : (o r p s : ℕ) (a b : Bool) → r < 65536 → s < 65536 → o * 131072 + cond a 0 65536 + r ≡ p * 131072 + cond b 0 65536 + s → (o ≡ p) × (r ≡ s)
same_rank o r p s true true lt lt' e = (omega arith, omega arith)
same_rank o r p s true false lt lt' e = (omega arith, omega arith)
same_rank o r p s false true lt lt' e = (omega arith, omega arith)
same_rank o r p s false false lt lt' e = (omega arith, omega arith)

distinct : (links : List LinkSpec) → All IsLink links → AllPairs AreApart links → IsDistinct eqb (map rank links)
unfolding rank
distinct links small apart = IsDistinct-from_AllPairs Decides-eqb (map rank links) (λ i j d below lt same.
    let within : j < length links = omega (arith, lt, length-map links rank) in
    let less : i < length links = omega (arith, below, within) in
    let one : LinkSpec = get_or links i no_link in
    let other : LinkSpec = get_or links j no_link in
    let e : rank one ≡ rank other = sym (get_or-map rank links i no_link d less) ∙ same ∙ get_or-map rank links j no_link d within in
    let both = same_rank one.object (raw_of one) other.object (raw_of other) one.sending other.sending (small i no_link less).1 (small j no_link within).1 e in
    apart i j no_link below within both.0 both.1)

-- a lower number stands before
abbrev Before : ℕ → Bool → ℕ → ℕ → Bool → ℕ → Type 0
Before o a r p b s = (o < p) ⊎ ((o ≡ p) × (((a ≡ true) × (b ≡ false)) ⊎ ((a ≡ b) × (r < s))))

before : (o r p s : ℕ) (a b : Bool) → r < 65536 → s < 65536 → o * 131072 + cond a 0 65536 + r < p * 131072 + cond b 0 65536 + s → Before o a r p b s
before o r p s true true lt lt' e = elim (cases_order o p) [ inl same ↦ inr (same, inr (refl, omega arith)) | inr (inl below) ↦ inl below | inr (inr above) ↦ absurd (omega arith) ]
before o r p s true false lt lt' e = elim (cases_order o p) [ inl same ↦ inr (same, inl (refl, refl)) | inr (inl below) ↦ inl below | inr (inr above) ↦ absurd (omega arith) ]
before o r p s false true lt lt' e = elim (cases_order o p) [ inl same ↦ absurd (omega arith) | inr (inl below) ↦ inl below | inr (inr above) ↦ absurd (omega arith) ]
before o r p s false false lt lt' e = elim (cases_order o p) [ inl same ↦ inr (same, inr (refl, omega arith)) | inr (inl below) ↦ inl below | inr (inr above) ↦ absurd (omega arith) ]

rank_before : (l m : LinkSpec) → IsLink l → IsLink m → rank l < rank m → StandsBefore l m
unfolding rank
rank_before l m small less lt = before l.object (raw_of l) m.object (raw_of m) l.sending m.sending small.1 less.1 lt

pub ascend : (links order : List LinkSpec) → All IsLink links → AllPairs AreApart links → IsPermutation links order → IsSortedByKey key_of key_cmp order → AllPairs StandsBefore order
ascend links order small apart moved sorted =
    let all : All IsLink order = All-permutation IsLink links order moved small in
    let up : IsStrictlyIncreasing (map rank order) = IsStrictlyIncreasing-from_distinct (map rank order) (map_rises order (sorted_rises order all sorted)) (IsDistinct-IsPermutation eqb eqb_sym (map rank links) (map rank order) (IsPermutation-map rank links order moved) (distinct links small apart)) in
    λ i j d below lt.
    let less : i < length order = omega (arith, below, lt) in
    let within : j < length (map rank order) = omega (arith, lt, length-map order rank) in
    let h : rank (get_or order i d) < rank (get_or order j d) = omega (arith, AllPairs-from_increasing (map rank order) up i j 0 below within, get_or-map rank order i d 0 less, get_or-map rank order j d 0 lt) in
    rank_before (get_or order i d) (get_or order j d) (all i d less) (all j d lt) h
