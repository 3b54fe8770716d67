-- A link is found among the links of a text just where a line says it.
use Rattle.std.proofs.Common.{◌≡◌, ℕ, ◌<◌, ◌≤◌, true, false, List, [], Ordering, Less, Equal, Greater, Result, Ok, Err, length, get_or, refl, sym, ap, ◌∙◌, subst, inl, inr, arith}
use Rattle.std.specs.Prelude.{Contains}
use Rattle.std.specs.Result.{is_ok}
use Rattle.std.specs.List.{HoldsAt}
use Rattle.std.specs.List.Sorted.{IsBinarySearchResult, IsSearchInRange}
use Rattle.std.specs.Ordering.{is_lt, nat_cmp, ordering_then}
use Rattle.std.proofs.lemmas.Bool.{cases_Bool, cases_lt}
use Rattle.std.proofs.lemmas.Bool.Decides.{nat_tests}
use Rattle.std.proofs.lemmas.List.{get_or_default}
use Rattle.std.proofs.lemmas.List.Elements.{Contains-get_or}
use Rattle.std.proofs.lemmas.List.Folds.{Any-from_list_any, list_any_at}
use Rattle.std.proofs.lemmas.List.Sorted.{searchable_from_sorted, Contains-permutation, IsPermutation-sym}
use Rattle.knx_model.specs.declared.project.Statement.{Statement}
use Rattle.knx_model.specs.declared.project.What.TheVariants.{Title}
use Rattle.knx_model.specs.Rules.{some_line, links_to}
use Rattle.project_check.specs.Links.{link_cmp, link_lines, AreAscending}
use Rattle.project_check.specs.declared.links.Link.{Link}
use Rattle.project_check.specs.declared.links.LinkLine.{LinkLine}
use Rattle.project_check.proofs.Ordered.{links_total, same_link}
use Rattle.project_check.proofs.Placed.{placed, says, all_placed}

-- what is sorted by link and place is sorted by link
first_less : (a b : Ordering) → is_lt (ordering_then a b) ≡ false → is_lt a ≡ false
first_less Less b e = e
first_less Equal b e = refl
first_less Greater b e = refl

nat_same : (a b : ℕ) → nat_cmp a b ≡ Equal → a ≡ b
nat_same a b e = grind (arith, nat_tests)

both_equal : (a b : Ordering) → ordering_then a b ≡ Equal → (a ≡ Equal) × (b ≡ Equal)
both_equal Less b e = absurd cc
both_equal Equal b e = (refl, e)
both_equal Greater b e = absurd cc

-- links that compare equal are the same
equal_same : (a b : Link) → link_cmp a b ≡ Equal → a ≡ b
equal_same a b e =
    let first = both_equal (nat_cmp a.device b.device) (ordering_then (nat_cmp a.object b.object) (nat_cmp a.group b.group)) e in
    let rest = both_equal (nat_cmp a.object b.object) (nat_cmp a.group b.group) first.1 in
    same_link a b (nat_same a.device b.device first.0) (nat_same a.object b.object rest.0) (nat_same a.group b.group rest.1)

nat_self : (n : ℕ) → nat_cmp n n ≡ Equal
nat_self n = grind (arith, nat_tests)

equal_self : (a : Link) → link_cmp a a ≡ Equal
equal_self a = rw (nat_self a.device, nat_self a.object, nat_self a.group) refl

nothing : Statement
nothing = record { line = 0; what = Title [] }

-- the link at a place of the ascending ones stands in a line
stands : (links : List LinkLine) (ss : List Statement) (l : Link) (i : ℕ) → AreAscending links ss → i < length links → HoldsAt (λ (y : LinkLine). link_cmp y.link l ≡ Equal) links i → some_line (links_to l.device l.object l.group) ss ≡ true
stands links ss l i are lt found =
    let d : LinkLine = placed l 0 in
    let x : LinkLine = get_or links i d in
    let same : x.link ≡ l = equal_same x.link l (found d) in
    let has : Contains (link_lines ss) x = Contains-permutation links (link_lines ss) x (IsPermutation-sym (link_lines ss) links are.all) (Contains-get_or links i d lt) in
    let to = all_placed ss in
    let said : says l (get_or ss x.place nothing).what ≡ true = subst (λ (k : Link). says k (get_or ss x.place nothing).what ≡ true) same (to.sound x nothing has) in
    list_any_at (λ (s : Statement). says l s.what) ss x.place nothing (to.before x has) said

-- where it stands in a line, it has a place among the ascending ones
has_place : (links : List LinkLine) (ss : List Statement) (l : Link) → AreAscending links ss → some_line (links_to l.device l.object l.group) ss ≡ true → (k : ℕ) × Contains links (placed l k)
has_place links ss l are e =
    let found = Any-from_list_any (λ (s : Statement). says l s.what) ss e in
    let at : get_or ss found.0 nothing ≡ found.1 = get_or_default ss found.0 nothing found.1 found.2 ∙ found.3 in
    (found.0, Contains-permutation (link_lines ss) links (placed l found.0) are.all ((all_placed ss).all found.0 l nothing found.2 (rw at found.4)))

-- no place is left for a link that compares less before i, and greater from there on
nowhere : (links : List LinkLine) (l : Link) (i k : ℕ) → ((m : ℕ) (d : LinkLine) → 0 ≤ m → m < i → link_cmp (get_or links m d).link l ≡ Less) → ((m : ℕ) (d : LinkLine) → i ≤ m → m < length links → link_cmp (get_or links m d).link l ≡ Greater)
    → Contains links (placed l k) → ⊥
nowhere links l i k low high has =
    let m = has.0 in
    let d : LinkLine = placed l k in
    let equal : link_cmp (get_or links m d).link l ≡ Equal = ap (λ (y : LinkLine). link_cmp y.link l) has.2 ∙ equal_self l in
    elim (cases_lt m i) as (λ _. ⊥) [
      | inl below ↦ absurd (let less : link_cmp (get_or links m d).link l ≡ Less = low m d (omega arith) below in let two : Less ≡ Equal = sym less ∙ equal in cc)
      | inr above ↦ absurd (let greater : link_cmp (get_or links m d).link l ≡ Greater = high m d above has.1 in let two : Greater ≡ Equal = sym greater ∙ equal in cc)
    ]

pub found_is : (links : List LinkLine) (ss : List Statement) (l : Link) (r : Result ℕ ℕ) → IsSearchInRange r (length links) → IsBinarySearchResult (λ (y : LinkLine). link_cmp y.link l) links r → AreAscending links ss
    → is_ok r ≡ some_line (links_to l.device l.object l.group) ss
found_is links ss l (Ok i) within found are = sym (stands links ss l i are within found)
found_is links ss l (Err i) within parted are =
    let parts = parted (searchable_from_sorted links_total (λ (y : LinkLine). y.link) links l (λ k d low high. first_less _ _ (are.sorted k d low high))) in
    elim (cases_Bool (some_line (links_to l.device l.object l.group) ss)) as (λ _. false ≡ some_line (links_to l.device l.object l.group) ss) [
      | inl e ↦ absurd (let has = has_place links ss l are e in nowhere links l i has.0 parts.0 parts.1 has.1)
      | inr none ↦ sym none
    ]
