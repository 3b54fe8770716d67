-- The first line that repeats a link of an earlier one, from the links in ascending order.
use Rattle.std.proofs.Common.{◌≡◌, ℕ, zero, suc, ◌+◌, ◌-◌, ◌<◌, ◌≤◌, true, false, cond, eqb, ltb, leb, ◌&&◌, List, length, get_or, take, Option, Some, None, refl, sym, ap, ◌∙◌, subst, inl, inr, arith}
use Rattle.std.specs.Prelude.{min, IsPermutation, Contains, IfSome}
use Rattle.std.proofs.lemmas.Bool.{eqb-true, ltb-true, lt-ltb, leb-true, leb-false, cases_Bool, cases_eq, cases_lt, and_from, and_parts, false≢true, eq-eqb}
use Rattle.std.proofs.lemmas.List.{get_or-take, get_or_default, length-take-le}
use Rattle.std.proofs.lemmas.List.Elements.{Contains-get_or}
use Rattle.std.proofs.lemmas.List.Folds.{Any-from_list_any, list_any_at}
use Rattle.std.proofs.lemmas.List.Sorted.{Contains-permutation, IsPermutation-sym}
use Rattle.std.proofs.lemmas.Option.{same_Some, MatchOption-at_some}
use Rattle.knx_model.specs.declared.address.GroupAddr.{GroupAddr}
use Rattle.knx_model.specs.declared.project.Statement.{Statement}
use Rattle.knx_model.specs.declared.project.What.{What}
use Rattle.knx_model.specs.declared.project.What.TheVariants.{Version, Title, Group, Device, Object, Link as LinkStated, Send, Flags, Param}
use Rattle.knx_model.specs.Rules.{some_line, has_group, links_to, links_again}
use Rattle.project_check.specs.Links.{link_eq, comes_again, lesser, link_lines, IsRepeat, IsLeastRepeat, IsUpTo, is_at, IsFirstRepeat}
use Rattle.project_check.specs.declared.links.Link.{Link}
use Rattle.project_check.specs.declared.links.LinkLine.{LinkLine}
use Rattle.project_check.proofs.Ordered.{link, link_eq_same, link_eq_other, IsUpToLine, Ascend, between, places_rise}
use Rattle.project_check.proofs.Placed.{says, placed, ArePlaced, all_placed}

-- ---- a repeat is one of a pair

-- a line that repeats a link says the link of an earlier one
repeated_link : (before : List Statement) (what : What) → links_again before what ≡ true → (j : ℕ) × (link : Link) × (j < length before) × ((s : Statement) → says link (get_or before j s).what ≡ true) × (says link what ≡ true)
repeated_link before (LinkStated device object groups) e =
    let group = Any-from_list_any (λ (g : GroupAddr). some_line (links_to device.raw object g.raw) before) groups e in
    let g : GroupAddr = group.1 in
    let found = Any-from_list_any (λ (s : Statement). links_to device.raw object g.raw s.what) before group.4 in
    let at : (s : Statement) → get_or before found.0 s ≡ found.1 = λ s. get_or_default before found.0 s found.1 found.2 ∙ found.3 in
    let own : has_group g.raw groups ≡ true = list_any_at (λ (x : GroupAddr). eqb x.raw g.raw) groups group.0 g group.2 (rw group.3 (eq-eqb g.raw g.raw refl)) in
    (found.0, link device.raw object g.raw, found.2, λ s. rw (at s) found.4, and_from _ _ (and_from _ _ (eq-eqb device.raw device.raw refl) (eq-eqb object object refl)) own)
repeated_link before Version e = absurd (false≢true e)
repeated_link before (Title name) e = absurd (false≢true e)
repeated_link before (Group g name) e = absurd (false≢true e)
repeated_link before (Device d model) e = absurd (false≢true e)
repeated_link before (Object d n size flags) e = absurd (false≢true e)
repeated_link before (Send d n g) e = absurd (false≢true e)
repeated_link before (Flags d n flags) e = absurd (false≢true e)
repeated_link before (Param d name value) e = absurd (false≢true e)

-- a line that says the link of an earlier one repeats it
repeats_link : (before : List Statement) (what : What) (j : ℕ) (link : Link) (s : Statement) → j < length before → says link (get_or before j s).what ≡ true → says link what ≡ true → links_again before what ≡ true
repeats_link before (LinkStated device object groups) j l s lt there here =
    let parts = and_parts (eqb device.raw l.device && eqb object l.object) (has_group l.group groups) here in
    let first = and_parts (eqb device.raw l.device) (eqb object l.object) parts.0 in
    let found = Any-from_list_any (λ (x : GroupAddr). eqb x.raw l.group) groups parts.1 in
    let g : GroupAddr = found.1 in
    let device_is : device.raw ≡ l.device = eqb-true device.raw l.device first.0 in
    let object_is : object ≡ l.object = eqb-true object l.object first.1 in
    let group_is : g.raw ≡ l.group = eqb-true g.raw l.group found.4 in
    let what = (get_or before j s).what in
    let earlier : links_to device.raw object g.raw what ≡ true =
    ap (λ (n : ℕ). links_to n object g.raw what) device_is ∙ ap (λ (n : ℕ). links_to l.device n g.raw what) object_is ∙ ap (λ (n : ℕ). links_to l.device l.object n what) group_is ∙ there in
    let again : some_line (links_to device.raw object g.raw) before ≡ true = list_any_at (λ (t : Statement). links_to device.raw object g.raw t.what) before j s lt earlier in
    list_any_at (λ (x : GroupAddr). some_line (links_to device.raw object x.raw) before) groups found.0 g found.2 (rw found.3 again)
repeats_link before Version j link s lt there here = absurd (false≢true here)
repeats_link before (Title name) j link s lt there here = absurd (false≢true here)
repeats_link before (Group g name) j link s lt there here = absurd (false≢true here)
repeats_link before (Device d model) j link s lt there here = absurd (false≢true here)
repeats_link before (Object d n size flags) j link s lt there here = absurd (false≢true here)
repeats_link before (Send d n g) j link s lt there here = absurd (false≢true here)
repeats_link before (Flags d n flags) j link s lt there here = absurd (false≢true here)
repeats_link before (Param d name value) j link s lt there here = absurd (false≢true here)

-- ---- the least place of the pairs

abbrev PairTo : List LinkLine → ℕ → Type 0
PairTo ys k = (m : ℕ) × (m + 1 < length ys) × ((l : LinkLine) → IsRepeat ys m l × ((get_or ys (m + 1) l).place ≡ k))

-- from a place of a link down to the first of its line: the one before that is of an earlier line
pair_from : (ys : List LinkLine) (q : Link) (j k a b : ℕ) → Ascend ys → j < k → a < b → b < length ys → ((d : LinkLine) → get_or ys a d ≡ placed q j) → ((d : LinkLine) → get_or ys b d ≡ placed q k) → PairTo ys k
pair_from ys q j k a zero ascends lt after within first later = absurd (omega arith)
pair_from ys q j k a (suc m) ascends lt after within first later = elim (cases_lt x.place k) as (λ _. PairTo ys k) [
  | inl less ↦ (
    m,
    omega (arith, within),
    λ l.
        let at_m : get_or ys m l ≡ x = get_or_default ys m l d (omega (arith, within)) in
        let next : m + 1 ≡ suc m = omega arith in
        let at_next : get_or ys (m + 1) l ≡ placed q k = ap (λ (n : ℕ). get_or ys n l) next ∙ later l in
        (rw (at_m, at_next) (same, less), rw at_next refl),
  )
  | inr ge ↦ (
      let place : x.place ≡ k = omega (arith, ge, places_rise x (placed q k) same high) in
      let is : x ≡ placed q k = ap (λ (l : Link). placed l x.place) same ∙ ap (placed q) place in
      let below : a < m = elim (cases_eq a m) as (λ _. a < m) [
        | inl equal ↦ absurd (let two : j ≡ k = ap (λ (l : LinkLine). l.place) (sym (first d) ∙ ap (λ (n : ℕ). get_or ys n d) equal ∙ is) in omega (arith, two, lt))
        | inr other ↦ grind (arith, after, other)
      ] in
      pair_from ys q j k a m ascends lt below (omega (arith, within)) first (λ e. get_or_default ys m e d (omega (arith, within)) ∙ is))
]
  where
    d : LinkLine
    d = placed q j

    x : LinkLine
    x = get_or ys m d

    low : IsUpToLine (placed q j) x
    low = rw (first d) at (ascends a m d (omega (arith, after)) (omega (arith, within)))

    high : IsUpToLine x (placed q k)
    high = rw (later d) at (ascends m (suc m) d (omega arith) within)

    same : x.link ≡ q
    same = sym (between (placed q j) x (placed q k) refl low high)

-- two places of the same link, in ascending order: the later one comes right after the same link of an earlier line
pair_at : (ys : List LinkLine) (q : Link) (j k : ℕ) → Ascend ys → j < k → Contains ys (placed q j) → Contains ys (placed q k) → PairTo ys k
pair_at ys q j k ascends lt first later =
    let a = first.0 in
    let b = later.0 in
    let at_a : (d : LinkLine) → get_or ys a d ≡ placed q j = λ d. get_or_default ys a d (placed q j) first.1 ∙ first.2 in
    let at_b : (d : LinkLine) → get_or ys b d ≡ placed q k = λ d. get_or_default ys b d (placed q k) later.1 ∙ later.2 in
    let d = placed q j in
    let after : a < b = elim (cases_Bool (leb b a)) as (λ _. a < b) [
      | inl le ↦ (let falls : k ≤ j = places_rise (placed q k) (placed q j) refl (rw (at_b d, at_a d) at (ascends b a d (leb-true b a le) first.1)) in absurd (omega (arith, falls, lt)))
      | inr gt ↦ leb-false b a gt
    ] in
    pair_from ys q j k a b ascends lt after later.1 at_a at_b

comes_same : (x y : LinkLine) → comes_again x y ≡ true → (x.link ≡ y.link) × (x.place < y.place)
comes_same x y e = let parts = and_parts (link_eq x.link y.link) (ltb x.place y.place) e in (link_eq_same x.link y.link parts.0, ltb-true x.place y.place parts.1)

link_same_eq : (a b : Link) → a ≡ b → link_eq a b ≡ true
link_same_eq a b same = elim (cases_Bool (link_eq a b)) [ inl e ↦ e | inr e ↦ absurd (link_eq_other a b e same) ]

comes_other : (x y : LinkLine) → comes_again x y ≡ false → x.link ≡ y.link → x.place < y.place → ⊥
comes_other x y e same lt = false≢true (sym e ∙ and_from _ _ (link_same_eq x.link y.link same) (lt-ltb x.place y.place lt))

abbrev IsPair : List LinkLine → ℕ → ℕ → Type 0
IsPair ys place i = (k : ℕ) × (k + 1 < i) × ((l : LinkLine) → IsRepeat ys k l × ((get_or ys (k + 1) l).place ≡ place))

found_on : (ys : List LinkLine) (least : Option ℕ) (i : ℕ) → IfSome least (λ place. IsPair ys place i) → IfSome least (λ place. IsPair ys place (i + 1))
found_on ys None i h = h
found_on ys (Some place) i h = (h.0, omega (arith, h.1), h.2)

lesser_found : (ys : List LinkLine) (least : Option ℕ) (place i : ℕ) → IsPair ys place i → IfSome least (λ p. IsPair ys p i) → IsPair ys (lesser least place) i
lesser_found ys None place i here h = here
lesser_found ys (Some p) place i here h = elim (cases_Bool (leb p place)) as (λ _. IsPair ys (min p place) i) [
  | inl le ↦ (let first : min p place ≡ p = (let h : p ≤ place = leb-true p place le in omega arith) in rw first h)
  | inr gt ↦ (let second : min p place ≡ place = (let h : place < p = leb-false p place gt in omega arith) in rw second here)
]

lesser_right : (least : Option ℕ) (place : ℕ) → lesser least place ≤ place
lesser_right None place = omega arith
lesser_right (Some p) place = omega arith

lesser_left : (least : Option ℕ) (p place : ℕ) → least ≡ Some p → lesser least place ≤ p
lesser_left None p place e = absurd (cc)
lesser_left (Some q) p place e = let same : q ≡ p = same_Some q p e in omega (arith, same)

-- the least place with one pair more
pair_more : (ys : List LinkLine) (least : Option ℕ) (m : ℕ) (x y : LinkLine) → m + 1 < length ys → x ≡ get_or ys m x → y ≡ get_or ys (m + 1) y → IsLeastRepeat ys least (m + 1)
    → IsLeastRepeat ys (cond (comes_again x y) (Some (lesser least y.place)) least) (m + 1 + 1)
pair_more ys least m x y lt is_x is_y to =
    let at_x : (l : LinkLine) → get_or ys m l ≡ x = λ l. get_or_default ys m l x (omega (arith, lt)) ∙ sym is_x in
    let at_y : (l : LinkLine) → get_or ys (m + 1) l ≡ y = λ l. get_or_default ys (m + 1) l y lt ∙ sym is_y in
    elim (cases_Bool (comes_again x y)) as (λ _. IsLeastRepeat ys (cond (comes_again x y) (Some (lesser least y.place)) least) (m + 1 + 1)) [
      | inl same ↦ (
          let here : IsPair ys y.place (m + 1 + 1) = (m, omega arith, λ l. (rw (at_x l, at_y l) (comes_same x y same), rw (at_y l) refl)) in
          rw same (record {
            found = lesser_found ys least y.place (m + 1 + 1) here (found_on ys least (m + 1) to.found);
            reached = λ k l before repeat. elim (cases_eq k m) as (λ _. (place : ℕ) × (Some (lesser least y.place) ≡ Some place) × (place ≤ (get_or ys (k + 1) l).place)) [
              | inl equal ↦ (lesser least y.place, refl, rw (equal, at_y l) (lesser_right least y.place))
              | inr other ↦ (let old = to.reached k l (grind (arith, before, other)) repeat in (lesser least y.place, refl, omega (arith, lesser_left least old.0 y.place old.1, old.2)))
            ];
          }))
      | inr none ↦ rw none (record {
        found = found_on ys least (m + 1) to.found;
        reached = λ k l before repeat. elim (cases_eq k m) as (λ _. (place : ℕ) × (least ≡ Some place) × (place ≤ (get_or ys (k + 1) l).place)) [
          | inl equal ↦ (
              let here : IsRepeat ys m l = subst (λ (n : ℕ). IsRepeat ys n l) equal repeat in
              let now = rw (at_x l, at_y l) at here in
              absurd (comes_other x y none now.0 now.1))
          | inr other ↦ to.reached k l (grind (arith, before, other)) repeat
        ];
      })
    ]

pub pair_at_place : (ys : List LinkLine) (least : Option ℕ) (i : ℕ) (d e : LinkLine) → 1 ≤ i → i < length ys → IsLeastRepeat ys least (min i (length ys))
    → IsLeastRepeat ys (cond (comes_again (get_or ys (i - 1) d) (get_or ys i e)) (Some (lesser least (get_or ys i e).place)) least) (min (i + 1) (length ys))
pair_at_place ys least i d e from lt to =
    let m : ℕ = i - 1 in
    let x = get_or ys m d in
    let y = get_or ys i e in
    let is : m + 1 ≡ i = omega (arith, from) in
    let now : min i (length ys) ≡ m + 1 = omega (arith, from, lt) in
    let next : m + 1 + 1 ≡ min (i + 1) (length ys) = omega (arith, from, lt) in
    let is_y : y ≡ get_or ys (m + 1) y = rw is (get_or_default ys i e y lt) in
    let pair = pair_more ys least m x y (omega (arith, is, lt)) (get_or_default ys m d x (omega (arith, is, lt))) is_y (subst (λ (n : ℕ). IsLeastRepeat ys least n) now to) in
    subst (λ (n : ℕ). IsLeastRepeat ys (cond (comes_again x y) (Some (lesser least y.place)) least) n) next pair

up_to_itself : (first : ℕ) (least : Option ℕ) (k : ℕ) → least ≡ Some first → IsUpTo least k → first ≤ k → is_at least k ≡ true
up_to_itself first None k e up le = absurd (cc)
up_to_itself first (Some f) k e up le = let same : f ≡ first = same_Some f first e in eq-eqb f k (omega (arith, same))

at_found : (least : Option ℕ) (k : ℕ) → is_at least k ≡ true → least ≡ Some k
at_found None k e = absurd (false≢true e)
at_found (Some f) k e = ap Some (eqb-true f k e)

least_found : (P : ℕ → Type 0) (least : Option ℕ) (k : ℕ) → least ≡ Some k → IfSome least P → P k
least_found P least k e h = MatchOption-at_some _ P k e h

-- the place of a link that comes right after the same link of an earlier line repeats it
repeat_at : (links ys : List LinkLine) (ss : List Statement) (k : ℕ) (s : Statement) → ArePlaced links ss (length ss) → IsPermutation links ys → PairTo ys k → links_again (take k ss) (get_or ss k s).what ≡ true
repeat_at links ys ss k s to same pair =
    let back = IsPermutation-sym links ys same in
    let d : LinkLine = placed (link 0 0 0) 0 in
    let m = pair.0 in
    let x = get_or ys m d in
    let y = get_or ys (m + 1) d in
    let is = pair.2 d in
    let has_x : Contains links x = Contains-permutation ys links x back (Contains-get_or ys m d (omega (arith, pair.1))) in
    let has_y : Contains links y = Contains-permutation ys links y back (Contains-get_or ys (m + 1) d pair.1) in
    let place : y.place ≡ k = is.1 in
    let earlier : x.place < k = omega (arith, is.0.1, place) in
    let taken : length (take k ss) ≡ k = length-take-le k ss (omega (arith, place, to.before y has_y)) in
    let here : says y.link (get_or ss k s).what ≡ true = subst (λ (n : ℕ). says y.link (get_or ss n s).what ≡ true) place (to.sound y s has_y) in
    let at : get_or (take k ss) x.place s ≡ get_or ss x.place s = get_or-take k ss x.place s earlier in
    repeats_link (take k ss) (get_or ss k s).what x.place x.link s (omega (arith, taken, earlier)) (rw at (to.sound x s has_x)) (subst (λ (l : Link). says l (get_or ss k s).what ≡ true) (sym is.0.0) here)

first_found_of : (links ys : List LinkLine) (ss : List Statement) (least : Option ℕ) → ArePlaced links ss (length ss) → IsPermutation links ys → Ascend ys → IsLeastRepeat ys least (length ys) → IsFirstRepeat ss least
first_found_of links ys ss least to same ascends pairs k s lt up =
    let what = (get_or ss k s).what in
    let before = take k ss in
    let taken : length before ≡ k = length-take-le k ss (omega (arith, lt)) in
    elim (cases_Bool (links_again before what)) as (λ _. links_again before what ≡ is_at least k) [
      | inl repeats ↦ (
          let found = repeated_link before what repeats in
          let j = found.0 in
          let earlier : j < k = omega (arith, found.2, taken) in
          let first : Contains links (placed found.1 j) = to.all j found.1 s (omega (arith, earlier, lt)) (rw (← get_or-take k ss j s earlier) (found.3 s)) in
          let later : Contains links (placed found.1 k) = to.all k found.1 s lt found.4 in
          let pair = pair_at ys found.1 j k ascends earlier (Contains-permutation links ys (placed found.1 j) same first) (Contains-permutation links ys (placed found.1 k) same later) in
          let l : LinkLine = placed (link 0 0 0) 0 in
          let is = pair.2 l in
          let reached = pairs.reached pair.0 l pair.1 is.0 in
          repeats ∙ sym (up_to_itself reached.0 least k reached.1 up (omega (arith, reached.2, is.1))))
      | inr none ↦ elim (cases_Bool (is_at least k)) as (λ _. links_again before what ≡ is_at least k) [
        | inl at ↦ absurd (false≢true (sym none ∙ repeat_at links ys ss k s to same (least_found (PairTo ys) least k (at_found least k at) pairs.found)))
        | inr away ↦ none ∙ sym away
      ]
    ]

pub first_found : (links ys : List LinkLine) (ss : List Statement) (least : Option ℕ) → links ≡ link_lines ss → IsPermutation links ys → Ascend ys → IsLeastRepeat ys least (length ys) → IsFirstRepeat ss least
first_found links ys ss least lines same ascends pairs = first_found_of links ys ss least (rw lines (all_placed ss)) same ascends pairs
