-- The tables that stand for a configuration, read again.
use Rattle.std.proofs.Common.{◌≡◌, ℕ, zero, suc, ◌+◌, ◌*◌, ◌/◌, ◌%◌, ◌<◌, ◌≤◌, inl, inr, Bool, true, false, ◌&&◌, cond, eqb, List, [], ◌∷◌, ◌++◌, length, take, get_or, map, Option, Some, None, refl, sym, ap, ◌∙◌, subst, append_assoc, arith, All}
use Rattle.std.specs.Prelude.{slice_get, find, Contains}
use Rattle.std.specs.List.{list_any, flat_map, position_or_len}
use Rattle.std.specs.Option.{option_map_or}
use Rattle.std.specs.List.Sorted.{IsStrictlyIncreasing}
use Rattle.std.proofs.lemmas.Bool.{eqb-true, eq-eqb, ne_eqb, and_from, and_parts, or_cases}
use Rattle.std.proofs.lemmas.List.{take_all, length-map, get_or-map}
use Rattle.std.proofs.lemmas.List.Elements.{Contains-get_or}
use Rattle.std.proofs.lemmas.List.Folds.{list_any_at}
use Rattle.std.proofs.lemmas.List.Kept.{AllPairs-from_increasing}
use Rattle.std.proofs.lemmas.List.Sums.{position_or_len_is}
use Rattle.std.proofs.lemmas.Option.{same_Some, slice_get-get_or, get_or_from_slice_get, slice_get_within}
use Rattle.knx_model.specs.declared.config.Config.{Config}
use Rattle.knx_model.specs.declared.config.Image.{Image}
use Rattle.knx_model.specs.declared.config.LinkSpec.{LinkSpec}
use Rattle.knx_model.specs.declared.config.ObjSpec.{ObjSpec}
use Rattle.knx_model.specs.declared.script.GroupService.{GroupService}
use Rattle.knx_model.specs.declared.script.GroupService.TheVariants.{Read, Write, Response}
use Rattle.knx_model.specs.Tables.{StandsFor, IsBefore, raw_of, at_place, two, pair, address_list, association_list, object_octets, object_list}
use Rattle.knx_model.specs.Acts.{numbers, first_entries, addresses, in_pairs, first_pairs, pairs, in_specs, objects, is_pair_of, is_link_of, is_object_number, object_of_number, is_linked, is_linked_in, object_in_table, IsInRange, may_answer, lowest_answering, object_numbers}
use Rattle.device_tables.proofs.ObjectTable.{is_number}
use Rattle.device_tables.proofs.Pigeonhole.{at_most}

-- ---- numbers that were written

two_is : (n : ℕ) → n < 65536 → 256 * (n / 256 % 256) + n % 256 ≡ n
two_is n lt = omega arith

number_two : (n : ℕ) (rest : List ℕ) → n < 65536 → numbers (two n ++ rest) ≡ (n ∷ numbers rest)
number_two n rest lt = ap (λ k. k ∷ numbers rest) (two_is n lt)

numbers_are : (ns : List ℕ) → ((i : ℕ) → i < length ns → get_or ns i 0 < 65536) → numbers (flat_map two ns) ≡ ns
numbers_are [] small = refl
numbers_are (n ∷ ns) small = number_two n (flat_map two ns) (small 0 (omega arith)) ∙ ap (λ ms. n ∷ ms) (numbers_are ns (λ i lt. small (suc i) (omega arith)))

addresses_are : (groups : List ℕ) → length groups < 65536 → ((i : ℕ) → i < length groups → get_or groups i 0 < 65536) → addresses (address_list groups) ≡ groups
addresses_are groups few small =
    ap first_entries (number_two (length groups) (flat_map two groups) few)
    ∙ ap (λ ns. take (length groups) ns) (numbers_are groups small)
    ∙ take_all (length groups) groups (omega arith)

pairs_in : (ps : List (ℕ × ℕ)) → ((x : ℕ × ℕ) → Contains ps x → (x.0 < 65536) × (x.1 < 65536)) → in_pairs (numbers (flat_map pair ps)) ≡ ps
pairs_in [] small = refl
pairs_in (x ∷ xs) small =
    let h = small x (0, omega arith, refl) in
    let rest : List ℕ = flat_map pair xs in
    ap (λ ys. in_pairs (numbers ys)) (append_assoc (two x.0) (two x.1) rest)
    ∙ ap in_pairs (number_two x.0 (two x.1 ++ rest) h.0)
    ∙ ap (λ ns. in_pairs (x.0 ∷ ns)) (number_two x.1 rest h.1)
    ∙ ap (λ ps. (x.0, x.1) ∷ ps) (pairs_in xs (λ y c. small y (suc c.0, omega (arith, c.1), c.2)))

specs_are : (os : List ObjSpec) → in_specs (flat_map object_octets os) ≡ os
specs_are [] = refl
specs_are (o ∷ os) = ap (λ rest. o ∷ rest) (specs_are os)

objects_are : (os : List ObjSpec) → length os < 65536 → objects (object_list os) ≡ os
objects_are os few =
    ap (λ n. take n (in_specs (flat_map object_octets os))) (two_is (length os) few)
    ∙ ap (λ xs. take (length os) xs) (specs_are os)
    ∙ take_all (length os) os (omega arith)

pairs_are : (ps : List (ℕ × ℕ)) → length ps < 65536 → ((x : ℕ × ℕ) → Contains ps x → (x.0 < 65536) × (x.1 < 65536)) → pairs (association_list ps) ≡ ps
pairs_are ps few small =
    ap first_pairs (number_two (length ps) (flat_map pair ps) few)
    ∙ ap (λ qs. take (length ps) qs) (pairs_in ps small)
    ∙ take_all (length ps) ps (omega arith)

-- ---- some link is of the object and the group

pub some_link : (g o : ℕ) (links : List LinkSpec) → list_any (is_link_of g o) links ≡ true → (l : LinkSpec) × Contains links l × (l.object ≡ o) × (raw_of l ≡ g)
some_link g o [] e = absurd (cc)
some_link g o (l ∷ ls) e = elim (or_cases (is_link_of g o l) (list_any (is_link_of g o) ls) e) [
  | inl here ↦ let both = and_parts (eqb l.object o) (eqb (raw_of l) g) here in (l, (0, omega arith, refl), eqb-true l.object o both.0, eqb-true (raw_of l) g both.1)
  | inr later ↦ let h = some_link g o ls later in (h.0, (suc h.1.0, omega (arith, h.1.1), h.1.2), h.2, h.3)
]

pub from_link : (g o : ℕ) (links : List LinkSpec) (l : LinkSpec) → Contains links l → l.object ≡ o → raw_of l ≡ g → list_any (is_link_of g o) links ≡ true
from_link g o links l c object group =
    let at : is_link_of g o l ≡ true = and_from (eqb l.object o) (eqb (raw_of l) g) (eq-eqb l.object o object) (eq-eqb (raw_of l) g group) in
    list_any_at (is_link_of g o) links c.0 l c.1 (rw c.2 at)

-- ---- where tables stand for a configuration

contains_map : {Y : Type 0} (f : LinkSpec → Y) (ls : List LinkSpec) (l : LinkSpec) → Contains ls l → Contains (map f ls) (f l)
contains_map f ls l h = (h.0, omega (arith, h.1, length-map ls f), get_or-map f ls h.0 l (f l) h.1 ∙ ap f h.2)

no_link : LinkSpec
no_link = record { object = 0; group = record { raw = 0 }; sending = false }

small_group : (links : List LinkSpec) → All (λ l. raw_of l < 65536) links → (g : ℕ) → Contains (map raw_of links) g → g < 65536
small_group links each g c =
    let lt : c.0 < length links = omega (arith, c.1, length-map links raw_of) in
    let is : raw_of (get_or links c.0 no_link) ≡ g = sym (get_or-map raw_of links c.0 no_link g lt) ∙ c.2 in
    omega (arith, each c.0 no_link lt, is)

small_object : (links : List LinkSpec) → All (λ l. l.object < 65536) links → (l : LinkSpec) → Contains links l → l.object < 65536
small_object links each l c = subst (λ (m : LinkSpec). m.object < 65536) c.2 (each c.0 l c.1)

-- a place of the address table is one of it
within_table : (groups : List ℕ) (p g : ℕ) → at_place groups p ≡ Some g → p ≤ length groups
within_table groups zero g e = omega arith
within_table groups (suc i) g e = omega (arith, slice_get_within groups i g e)

-- the place of a group, from 1
place : List ℕ → ℕ → ℕ
place groups g = suc (position_or_len (λ x. eqb x g) groups)

place_is : (groups : List ℕ) (p g : ℕ) → IsStrictlyIncreasing groups → at_place groups p ≡ Some g → place groups g ≡ p
unfolding place
place_is groups zero g up e = absurd (cc)
place_is groups (suc i) g up e =
    let lt : i < length groups = slice_get_within groups i g e in
    let here : get_or groups i 0 ≡ g = get_or_from_slice_get groups i g 0 e in
    ap suc (position_or_len_is (λ y. eqb y g) groups i 0 (omega arith) (λ k below. ne_eqb (get_or groups k 0) g (λ q. let h = AllPairs-from_increasing groups up k i 0 below lt in omega arith)) (λ _. eq-eqb _ _ here))

pair_of : List ℕ → LinkSpec → ℕ × ℕ
pair_of groups l = (place groups (raw_of l), l.object)

-- no pair stands before itself
not_before : (groups : List ℕ) (links : List LinkSpec) (x : ℕ × ℕ) → IsBefore groups links x x → ⊥
not_before groups links x (inl h) = omega arith
not_before groups links x (inr (same, inl (does, doesnt))) = doesnt does
not_before groups links x (inr (same, inr (alike, h))) = omega arith

-- there are no more pairs than links
few_pairs : (config : Config) (image : Image) (s : StandsFor image config) → length s.pairs ≤ length config.links
unfolding pair_of
few_pairs config image s =
    let to : (x : ℕ × ℕ) → Contains s.pairs x → Contains (map (pair_of s.groups) config.links) x = λ x c.
    let h = (s.each_pair x.0 x.1).0 c in
    let is : pair_of s.groups h.link ≡ x = λ i. (place_is s.groups x.0 (raw_of h.link) s.groups_ascend h.group i, h.object i) in
    subst (λ (y : ℕ × ℕ). Contains (map (pair_of s.groups) config.links) y) is (contains_map (pair_of s.groups) config.links h.link h.member) in
    omega (arith, at_most (IsBefore s.groups config.links) (not_before s.groups config.links) s.pairs (map (pair_of s.groups) config.links) s.pairs_ascend to, length-map config.links (pair_of s.groups))

pub alike : (a b : Bool) → (a ≡ true → b ≡ true) → (b ≡ true → a ≡ true) → a ≡ b
alike true true to from = refl
alike true false to from = sym (to refl)
alike false true to from = from refl
alike false false to from = refl

-- what a test finds
pub found : {X : Type 0} (p : X → Bool) (xs : List X) → list_any p xs ≡ true → (x : X) × Contains xs x × (p x ≡ true)
found p [] e = absurd (cc)
found p (x ∷ xs) e = elim (or_cases (p x) (list_any p xs) e) [
  | inl here ↦ (x, (0, omega arith, refl), here)
  | inr later ↦ let h = found p xs later in (h.0, (suc h.1.0, omega (arith, h.1.1), h.1.2), h.2)
]

pub finds : {X : Type 0} (p : X → Bool) (xs : List X) (x : X) → Contains xs x → p x ≡ true → list_any p xs ≡ true
finds p xs x c e = list_any_at p xs c.0 x c.1 (ap p c.2 ∙ e)

-- the address that a pair's place names
address_is : (o : Option ℕ) (g : ℕ) → option_map_or (λ address. eqb address g) o false ≡ true → o ≡ Some g
address_is None g e = absurd (cc)
address_is (Some a) g e = ap Some (eqb-true a g e)

-- some pair names the object and the group exactly where some link has both
pair_or_link : (config : Config) (image : Image) (s : StandsFor image config) (g o : ℕ) → list_any (is_pair_of s.groups g o) s.pairs ≡ list_any (is_link_of g o) config.links
pair_or_link config image s g o = alike (list_any (is_pair_of s.groups g o) s.pairs) (list_any (is_link_of g o) config.links)
    (λ e.
    let h = found (is_pair_of s.groups g o) s.pairs e in
    let both = and_parts (eqb h.0.1 o) (option_map_or (λ address. eqb address g) (at_place s.groups h.0.0) false) h.2 in
    let linked = (s.each_pair h.0.0 h.0.1).0 h.1 in
    from_link g o config.links linked.link linked.member (linked.object ∙ eqb-true h.0.1 o both.0) (same_Some (raw_of linked.link) g (sym linked.group ∙ address_is (at_place s.groups h.0.0) g both.1)))
    (λ e.
    let h = some_link g o config.links e in
    let at = (s.exactly (raw_of h.0)).1 (contains_map raw_of config.links h.0 h.1) in
    let here : slice_get s.groups at.0 ≡ Some (raw_of h.0) = slice_get-get_or s.groups at.0 (raw_of h.0) at.1 ∙ ap Some at.2 in
    let listed : Contains s.pairs (suc at.0, o) = (s.each_pair (suc at.0) o).1 (record { link = h.0; member = h.1; object = h.2; group = here }) in
    finds (is_pair_of s.groups g o) s.pairs (suc at.0, o) listed (and_from (eqb o o) (option_map_or (λ address. eqb address g) (slice_get s.groups at.0) false) (eq-eqb o o refl) (ap (λ (x : Option ℕ). option_map_or (λ address. eqb address g) x false) here ∙ eq-eqb _ _ h.3)))

pub linked_is : (config : Config) (image : Image) → StandsFor image config → IsInRange config → (g o : ℕ) → is_linked_in image.addr image.assoc g o ≡ (is_object_number o && is_linked config g o)
linked_is config image s r g o =
    let few : length s.groups < 65536 = omega (arith, at_most (λ x y. x < y) (λ x h. not_below x h) s.groups (map raw_of config.links) (AllPairs-from_increasing s.groups s.groups_ascend) (λ z c. (s.exactly z).0 c), length-map config.links raw_of, r.few_links) in
    let some : length s.pairs < 65536 = omega (arith, few_pairs config image s, r.few_links) in
    let small : (i : ℕ) → i < length s.groups → get_or s.groups i 0 < 65536 = λ i lt. small_group config.links r.each_group (get_or s.groups i 0) ((s.exactly (get_or s.groups i 0)).0 (Contains-get_or s.groups i 0 lt)) in
    let numbers_small : (x : ℕ × ℕ) → Contains s.pairs x → (x.0 < 65536) × (x.1 < 65536) = λ x c.
    let h = (s.each_pair x.0 x.1).0 c in
    (omega (arith, within_table s.groups x.0 (raw_of h.link) h.group, few), omega (arith, small_object config.links r.each_object h.link h.member, h.object)) in
    let read : addresses image.addr ≡ s.groups = ap addresses s.addresses ∙ addresses_are s.groups few small in
    let paired : pairs image.assoc ≡ s.pairs = ap pairs s.associations ∙ pairs_are s.pairs some numbers_small in
    let same : list_any (is_pair_of (addresses image.addr) g o) (pairs image.assoc) ≡ list_any (is_link_of g o) config.links = (λ i. list_any (is_pair_of (read i) g o) (paired i)) ∙ pair_or_link config image s g o in
    ap (λ any. is_object_number o && any) same
  where
    not_below : (x : ℕ) → x < x → ⊥
    not_below x h = omega arith

pub object_is : (config : Config) (image : Image) → StandsFor image config → IsInRange config → (o : ℕ) → object_in_table image.objs o ≡ object_of_number config.objects o
object_is config image s r o = ap (λ os. object_of_number os o) (ap objects s.objects ∙ objects_are config.objects r.few_objects)

-- ---- what a telegram acts on is the same. A number that no object has needn't be asked for a link

guarded : (test linked : Bool) (f : ObjSpec → Bool) (o : Option ObjSpec) → ((test && linked) && option_map_or f (cond test o None) false) ≡ (linked && option_map_or f (cond test o None) false)
guarded true linked f o = refl
guarded false true f o = refl
guarded false false f o = refl

pub acts_alike : (config : Config) (image : Image) → StandsFor image config → IsInRange config → (g o : ℕ) (f : ObjSpec → Bool) → (is_linked_in image.addr image.assoc g o && option_map_or f (object_in_table image.objs o) false) ≡ (is_linked config g o && option_map_or f (object_of_number config.objects o) false)
acts_alike config image s r g o f =
    (λ i. linked_is config image s r g o i && option_map_or f (object_is config image s r o i) false)
    ∙ guarded (is_object_number o) (is_linked config g o) f (at_place config.objects o)

pub same_lowest : (linked linked' : ℕ → Bool) (object object' : ℕ → Option ObjSpec) → ((o : ℕ) → may_answer linked object o ≡ may_answer linked' object' o) → (service : GroupService) → lowest_answering linked object service ≡ lowest_answering linked' object' service
same_lowest linked linked' object object' alike Read = λ i. find (λ o. alike o i) object_numbers
same_lowest linked linked' object object' alike (Write value) = refl
same_lowest linked linked' object object' alike (Response value) = refl

pub linked_exactly : (config : Config) (image : Image) → StandsFor image config → IsInRange config → (g o : ℕ) → 1 ≤ o → o ≤ 255 → is_linked_in image.addr image.assoc g o ≡ is_linked config g o
linked_exactly config image s r g o from to = linked_is config image s r g o ∙ ap (λ test. test && is_linked config g o) (is_number o from to)
