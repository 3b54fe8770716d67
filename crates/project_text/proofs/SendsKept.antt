-- The `send` lines of a migrated project from what is kept of the project's `link` and `send` lines.
use Rattle.std.proofs.Common.{◌≡◌, ◌≢◌, ℕ, zero, suc, ◌+◌, ◌*◌, ◌/◌, ◌%◌, ◌<◌, ◌≤◌, Bool, true, false, cond, eqb, List, [], ◌∷◌, ◌++◌, length, map, take, get_or, Option, Some, None, refl, sym, ap, ◌∙◌, subst, arith, inl, inr, nat_cmp}
use Rattle.std.specs.Prelude.{slice_get, IsSome, is_some}
use Rattle.std.specs.declared.cmp.Ordering.TheVariants.{Less}
use Rattle.std.proofs.lemmas.Map.Keys.{sorted_head, sorted_tail}
use Rattle.std.specs.List.{cons_option, filter_map, last_or, range_with_len, AllByRecursion}
use Rattle.std.specs.List.Sorted.{IsStrictlySortedBy}
use Rattle.std.specs.Option.{option_and_then, option_map, option_or}
use Rattle.std.specs.Map.{lookup, keys_of}
use Rattle.std.specs.BTreeMap.{BTreeMap, get, is_at, IsOrdered}
use Rattle.std.proofs.lemmas.Bool.{cases_eq, eqb-true, eq-eqb, ne_eqb}
use Rattle.std.proofs.lemmas.List.{append-nil, take_more}
use Rattle.std.proofs.lemmas.List.Concat.{flat_map-append}
use Rattle.std.proofs.lemmas.List.Elements.{filter_map-append}
use Rattle.knx_model.specs.declared.address.GroupAddr.{GroupAddr}
use Rattle.knx_model.specs.declared.address.IndAddr.{IndAddr}
use Rattle.knx_model.specs.declared.project.Statement.{Statement}
use Rattle.knx_model.specs.declared.project.What.{What}
use Rattle.knx_model.specs.declared.project.What.TheVariants.{Link, Send}
use Rattle.knx_model.specs.Meaning.{link_to, links_said, link_lines, send_line, last_send, first_group}
use Rattle.knx_model.specs.declared.project.TextVersion.{TextVersion}
use Rattle.knx_model.specs.Statements.{are_spelled}
use Rattle.project_text.proofs.MigratedAgain.{device_of_first}
use Rattle.project_text.specs.Migrated.{device_at, object_at, send_of, sends_below, sends}
use Rattle.project_text.specs.Sending.{KeepsFirst, KeepsLast, ArePlaces, kept_send}

-- ---- one line

another : (o n : ℕ) (groups : List GroupAddr) → eqb o n ≡ false → first_group (map (link_to o) groups) n ≡ None
another o n [] e = refl
another o n (g ∷ groups) e = rw e (another o n groups e)

-- the first group of a `link` line is that of its object alone
pub first_said : (device : IndAddr) (o k : ℕ) (groups : List GroupAddr) (first : Option GroupAddr) → o < 256 → first ≡ slice_get groups 0
    → first_group (links_said (device_at k) (Link device o groups)) (object_at k) ≡ cond (eqb (device.raw * 256 + o) k) first None
first_said device o k groups first small is = rw is (by (eqb device.raw (k / 256)) (eqb o (k % 256)) groups refl refl)
  where
    none : (b : Bool) → cond {A = Option GroupAddr} b None None ≡ None
    none true = refl
    none false = refl

    by : (b c : Bool) (groups : List GroupAddr) → eqb device.raw (k / 256) ≡ b → eqb o (k % 256) ≡ c
        → first_group (cond b (map (link_to o) groups) []) (k % 256) ≡ cond (eqb (device.raw * 256 + o) k) (slice_get groups 0) None
    by true true [] e f = sym (none (eqb (device.raw * 256 + o) k))
    by true true (g ∷ groups) e f =
        let a : device.raw ≡ k / 256 = eqb-true _ _ e in
        let b : o ≡ k % 256 = eqb-true _ _ f in
        rw (f, eq-eqb (device.raw * 256 + o) k (omega (arith, a, b))) refl
    by true false groups e f =
        another o (k % 256) groups f ∙ sym (ap (λ (t : Bool). cond t (slice_get groups 0) None) (ne_eqb (device.raw * 256 + o) k (λ q.
        let there : o ≡ k % 256 = omega (arith, q, small) in
        let yes : eqb o (k % 256) ≡ true = eq-eqb o (k % 256) there in cc)))
    by false c groups e f =
        sym (ap (λ (t : Bool). cond t (slice_get groups 0) None) (ne_eqb (device.raw * 256 + o) k (λ q.
        let there : device.raw ≡ k / 256 = omega (arith, q, small) in
        let yes : eqb device.raw (k / 256) ≡ true = eq-eqb device.raw (k / 256) there in cc)))

-- ---- one line more

or_none : {X : Type 0} (o : Option X) → option_or o None ≡ o
or_none None = refl
or_none (Some x) = refl

first_cons : (n : ℕ) (x : ℕ × GroupAddr) (b : Bool) (rest ys : Option GroupAddr) → cond b (Some x.1) (option_or rest ys) ≡ option_or (cond b (Some x.1) rest) ys
first_cons n x true rest ys = refl
first_cons n x false rest ys = refl

first_append : (xs ys : List (ℕ × GroupAddr)) (n : ℕ) → first_group (xs ++ ys) n ≡ option_or (first_group xs n) (first_group ys n)
first_append [] ys n = refl
first_append (x ∷ xs) ys n = ap (λ (o : Option GroupAddr). cond (eqb x.0 n) (Some x.1) o) (first_append xs ys n) ∙ first_cons n x (eqb x.0 n) (first_group xs n) (first_group ys n)

last_append : {X : Type 0} (o p : Option X) (xs : List X) → last_or o (xs ++ cons_option p []) ≡ option_or p (last_or o xs)
last_append o None xs = ap (last_or o) (append-nil xs)
last_append o (Some x) [] = refl
last_append o (Some x) (y ∷ xs) = last_append (Some y) (Some x) xs

link_lines_more : (device : IndAddr) (ss : List Statement) (s : Statement) → link_lines device (ss ++ s ∷ []) ≡ link_lines device ss ++ links_said device s.what
link_lines_more device ss s = flat_map-append (λ s. links_said device s.what) ss (s ∷ []) ∙ ap (λ (t : List (ℕ × GroupAddr)). link_lines device ss ++ t) (append-nil (links_said device s.what))

pub first_more : (old new : BTreeMap ℕ GroupAddr) (ss : List Statement) (i : ℕ) (s : Statement) → i < length ss → s ≡ get_or ss i s → KeepsFirst old (take i ss)
    → ((k : ℕ) → get nat_cmp new k ≡ option_or (get nat_cmp old k) (first_group (links_said (device_at k) s.what) (object_at k))) → KeepsFirst new (take (i + 1) ss)
first_more old new ss i s lt is kept added k =
    added k
    ∙ ap (λ (o : Option GroupAddr). option_or o (first_group (links_said (device_at k) s.what) (object_at k))) (kept k)
    ∙ sym (first_append (link_lines (device_at k) (take i ss)) (links_said (device_at k) s.what) (object_at k))
    ∙ ap (λ (lines : List (ℕ × GroupAddr)). first_group lines (object_at k)) (sym (link_lines_more (device_at k) (take i ss) s))
    ∙ ap (λ (t : List Statement). first_group (link_lines (device_at k) t) (object_at k)) (sym (take_more ss i s lt ∙ ap (λ (y : Statement). take i ss ++ y ∷ []) (sym is)))

pub last_more : (old new : BTreeMap ℕ GroupAddr) (ss : List Statement) (i : ℕ) (s : Statement) → i < length ss → s ≡ get_or ss i s → KeepsLast old (take i ss)
    → ((k : ℕ) → get nat_cmp new k ≡ option_or (send_line (device_at k) (object_at k) s.what) (get nat_cmp old k)) → KeepsLast new (take (i + 1) ss)
last_more old new ss i s lt is kept added k =
    let told : Statement → Option GroupAddr = λ s. send_line (device_at k) (object_at k) s.what in
    added k
    ∙ ap (option_or (told s)) (kept k)
    ∙ sym (last_append None (told s) (filter_map told (take i ss)))
    ∙ ap (last_or None) (sym (filter_map-append told (take i ss) (s ∷ [])))
    ∙ ap (λ (t : List Statement). last_send (device_at k) t (object_at k)) (sym (take_more ss i s lt ∙ ap (λ (y : Statement). take i ss ++ y ∷ []) (sym is)))

-- ---- the entries of a map, and all numbers in a row

at_itself : (k : ℕ) → is_at (nat_cmp k) k ≡ true
at_itself k = grind arith

elsewhere : (k j : ℕ) → k ≢ j → is_at (nat_cmp k) j ≡ false
elsewhere k j apart = grind arith

-- keys ascend from a number on, below another
abbrev Ascend : ℕ → ℕ → List (ℕ × GroupAddr) → Type 0
Ascend a most [] = Unit {0}
Ascend a most (e ∷ es) = (a ≤ e.0) × (e.0 < most) × Ascend (e.0 + 1) most es

lower : (a b most : ℕ) (es : List (ℕ × GroupAddr)) → a ≤ b → Ascend b most es → Ascend a most es
lower a b most [] le up = tt
lower a b most (e ∷ es) le up = (omega (arith, le, up.0), up.1, up.2)

not_below : (a most k : ℕ) (es : List (ℕ × GroupAddr)) → k < a → Ascend a most es → lookup (is_at (nat_cmp k)) es ≡ None
not_below a most k [] lt up = refl
not_below a most k (e ∷ es) lt up = rw (elsewhere k e.0 (λ q. omega (arith, lt, up.0, q))) (not_below (e.0 + 1) most k es (omega (arith, lt, up.0)) up.2)

in_a_row : (h : ℕ → Option What) (put : ℕ × GroupAddr → What) (a n : ℕ) (es : List (ℕ × GroupAddr)) → Ascend a (a + n) es
    → ((k : ℕ) → a ≤ k → h k ≡ option_map (λ g. put (k, g)) (lookup (is_at (nat_cmp k)) es)) → filter_map h (range_with_len a n) ≡ map put es
in_a_row h put a zero [] up is = refl
in_a_row h put a zero (e ∷ es) up is = absurd (omega (arith, up.0, up.1))
in_a_row h put a (suc n) [] up is = rw (is a (omega arith)) (in_a_row h put (a + 1) n [] tt (λ k le. is k (omega (arith, le))))
in_a_row h put a (suc n) (e ∷ es) up is = elim (cases_eq a e.0) [
  | inl same ↦
      let there : lookup (is_at (nat_cmp a)) (e ∷ es) ≡ Some e.1 = rw (← same, at_itself a) refl in
      let head : h a ≡ Some (put e) = is a (omega arith) ∙ ap (option_map (λ (g : GroupAddr). put (a, g))) there ∙ ap (λ (k : ℕ). Some (put (k, e.1))) same in
      let up' : Ascend (a + 1) (a + 1 + n) es = subst (λ (m : ℕ). Ascend (a + 1) m es) (omega arith) (lower (a + 1) (e.0 + 1) (a + suc n) es (omega (arith, same)) up.2) in
      rw head (ap (λ (t : List What). put e ∷ t) (in_a_row h put (a + 1) n es up' (λ k le.
      is k (omega (arith, le)) ∙ ap (λ (b : Bool). option_map (λ (g : GroupAddr). put (k, g)) (cond b (Some e.1) (lookup (is_at (nat_cmp k)) es))) (elsewhere k e.0 (λ q. omega (arith, le, q, same))))))
  | inr apart ↦
      let above : a + 1 ≤ e.0 = omega (arith, up.0, apart) in
      let up' : Ascend (a + 1) (a + 1 + n) (e ∷ es) = subst (λ (m : ℕ). Ascend (a + 1) m (e ∷ es)) (omega arith) (above, up.1, up.2) in
      let none : lookup (is_at (nat_cmp a)) (e ∷ es) ≡ None = not_below (a + 1) (a + 1 + n) a (e ∷ es) (omega arith) up' in
      let head : h a ≡ None = is a (omega arith) ∙ ap (option_map (λ (g : GroupAddr). put (a, g))) none in
      rw head (in_a_row h put (a + 1) n (e ∷ es) up' (λ k le. is k (omega (arith, le))))
]

-- a `link` line without groups says nothing
pub kept_none : (old : Option GroupAddr) (device : IndAddr) (o k : ℕ) (groups : List GroupAddr) → o < 256 → None ≡ slice_get groups 0
    → old ≡ option_or old (first_group (links_said (device_at k) (Link device o groups)) (object_at k))
kept_none old device o k groups small is = sym (ap (option_or old) (first_said device o k groups None small is ∙ none (eqb (device.raw * 256 + o) k)) ∙ or_none old)
  where
    none : (b : Bool) → cond {A = Option GroupAddr} b None None ≡ None
    none true = refl
    none false = refl

-- ---- the places of a map

pub places_head : (x : ℕ × GroupAddr) (rest left : List (ℕ × GroupAddr)) → left ≡ x ∷ rest → ArePlaces left → x.0 < 16777216
places_head x rest left is are =
    let all : ArePlaces (x ∷ rest) = subst ArePlaces is are in
    let there : is_at (nat_cmp x.0) x.0 ≡ true = at_itself x.0 in
    all x.0 (rw there refl)

later_place : (x : ℕ × GroupAddr) (rest : List (ℕ × GroupAddr)) (k : ℕ) → IsSome (lookup (is_at (nat_cmp k)) rest) → IsSome (lookup (is_at (nat_cmp k)) (x ∷ rest))
later_place x rest k some = by (is_at (nat_cmp k) x.0)
  where
    by : (b : Bool) → is_some (cond b (Some x.1) (lookup (is_at (nat_cmp k)) rest)) ≡ true
    by true = refl
    by false = some

pub places_rest : (x : ℕ × GroupAddr) (rest left : List (ℕ × GroupAddr)) → left ≡ x ∷ rest → ArePlaces left → ArePlaces rest
places_rest x rest left is are = let all : ArePlaces (x ∷ rest) = subst ArePlaces is are in λ k some. all k (later_place x rest k some)

above : (k a : ℕ) (es : List (ℕ × GroupAddr)) → k < a → AllByRecursion (λ y. nat_cmp k y ≡ Less) (keys_of es) → AllByRecursion (λ y. k + 1 ≤ y) (keys_of es)
above k a [] lt all = tt
above k a (e ∷ es) lt all = (less k e.0 all.0, above k a es lt all.1)
  where
    less : (k j : ℕ) → nat_cmp k j ≡ Less → k + 1 ≤ j
    less k j e = grind arith

ascend_from : (a : ℕ) (es : List (ℕ × GroupAddr)) → AllByRecursion (λ y. a ≤ y) (keys_of es) → IsStrictlySortedBy nat_cmp (keys_of es) → ArePlaces es → Ascend a 16777216 es
ascend_from a [] low sorted are = tt
ascend_from a (e ∷ es) low sorted are = (
  low.0,
  places_head e es (e ∷ es) refl are,
  ascend_from (e.0 + 1) es (above e.0 (e.0 + 1) es (omega arith) (sorted_head nat_cmp e.0 (keys_of es) sorted)) (sorted_tail nat_cmp e.0 (keys_of es) sorted) (places_rest e es (e ∷ es) refl are),
)

from_0 : (ks : List ℕ) → AllByRecursion (λ y. 0 ≤ y) ks
from_0 [] = tt
from_0 (k ∷ ks) = (omega arith, from_0 ks)

-- ---- the whole

sent : (last : BTreeMap ℕ GroupAddr) (k : ℕ) (first sends found : Option GroupAddr) → found ≡ sends → get nat_cmp last k ≡ sends
    → option_and_then (λ x. option_map (λ group. Send (device_at k) (object_at k) group) (option_or sends first)) first ≡ option_map (λ g. kept_send last (k, g)) first
sent last k None sends found is kept = refl
sent last k (Some x) None found is kept = rw kept refl
sent last k (Some x) (Some g) found is kept = rw kept refl

sends_made_below : (most : ℕ) (first last : BTreeMap ℕ GroupAddr) (ss : List Statement) → Ascend 0 most first.entries → KeepsFirst first ss → KeepsLast last ss → sends_below most ss ≡ map (kept_send last) first.entries
unfolding sends_below
sends_made_below most first last ss up kept sent_last =
    in_a_row (λ k. send_of ss (device_at k) (object_at k)) (kept_send last) 0 most first.entries (subst (λ (m : ℕ). Ascend 0 m first.entries) (omega arith) up) (λ k le.
    sent last k (first_group (link_lines (device_at k) ss) (object_at k)) (last_send (device_at k) ss (object_at k)) (last_send (device_at k) ss (object_at k)) refl (sent_last k)
    ∙ ap (option_map (λ (g : GroupAddr). kept_send last (k, g))) (sym (kept k)))

pub sends_made : (first last : BTreeMap ℕ GroupAddr) (ss : List Statement) → IsOrdered nat_cmp first → ArePlaces first.entries → KeepsFirst first ss → KeepsLast last ss → sends ss ≡ map (kept_send last) first.entries
unfolding sends
sends_made first last ss ordered are kept sent_last = sends_made_below 16777216 first last ss (ascend_from 0 first.entries (from_0 (keys_of first.entries)) ordered are) kept sent_last

-- each object that has links stands at a place
pub are_places : (version : TextVersion) (first : BTreeMap ℕ GroupAddr) (ss : List Statement) → are_spelled version ss ≡ true → KeepsFirst first ss → ArePlaces first.entries
are_places version first ss spelled kept k some =
    let fits : (device_at k).raw < 65536 = device_of_first version (device_at k) (object_at k) ss (first_group (link_lines (device_at k) ss) (object_at k)) spelled refl (subst IsSome (kept k) some) in
    omega (arith, fits)
