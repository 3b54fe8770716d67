-- How many devices, objects and links a text has at most that breaks no rule.
use Rattle.std.proofs.Common.{◌≡◌, ℕ, zero, suc, ◌+◌, ◌%◌, ◌<◌, ◌≤◌, Bool, true, false, cond, ◌&&◌, ◌||◌, not, eqb, ltb, List, [], ◌∷◌, ◌++◌, length, get_or, take, drop, Option, Some, None, refl, sym, ap, ◌∙◌, subst, add-one, inl, inr, arith}
use Rattle.std.specs.Prelude.{is_some, is_none, bytes_eq, nat_lt, sum_by}
use Rattle.std.specs.List.{list_all}
use Rattle.std.proofs.lemmas.List.Sums.{sum_by-cons}
use Rattle.knx_model.specs.declared.project.TextVersion.{TextVersion}
use Rattle.std.proofs.lemmas.Bool.{and_parts, eqb-true, leb-false, ltb-false, cases_Bool, false≢true, false_from_ne_true, not-false, or_from, or_parts}
use Rattle.std.proofs.lemmas.Slice.Eq.{bytes_eq-Decides}
use Rattle.std.proofs.lemmas.List.{take_more, take_all}
use Rattle.knx_model.specs.declared.address.IndAddr.{IndAddr}
use Rattle.knx_model.specs.declared.catalogue.model.Model.{Model}
use Rattle.knx_model.specs.declared.catalogue.model.NamedModel.{NamedModel}
use Rattle.knx_model.specs.declared.project.Statement.{Statement}
use Rattle.knx_model.specs.declared.project.What.{What}
use Rattle.knx_model.specs.declared.project.What.TheVariants.{Version, Title, Group, Device, Object, Link, Send, Flags, Param}
use Rattle.knx_model.specs.Models.{model_named, has_object}
use Rattle.knx_model.specs.Rules.{first_broken, first_some, some_line, count_lines, declares_device, declares_object, count_links, links_of_device, links_in, is_device_line, is_object_line, model_in, model_of, named_model, asked_of, duplicate_object, too_many_devices, too_many_links, unknown_model, no_device}
use Rattle.knx_model.specs.Statements.{is_spellable, are_spelled, are_spellable, version_of, is_version, is_device, is_object, are_groups}
use Rattle.project_check.specs.Keys.{names_model}
use Rattle.project_check.proofs.Few.{one, count_cons, count_same, few_below, is_key, is_below, weigh, weigh_below}
use Rattle.project_check.proofs.Sound.{unbroken_at}
use Rattle.project_check.proofs.Steps.{some_more, count_more, links_more, modelled, named_in}

nothing : Statement
nothing = record { line = 0; what = Title [] }

split : (ss : List Statement) (i : ℕ) (d : Statement) → i < length ss → take (suc i) ss ≡ take i ss ++ get_or ss i d ∷ []
split ss i d lt = rw (← add-one) (take_more ss i d lt)

whole : (ss : List Statement) → take (length ss) ss ≡ ss
whole ss = take_all (length ss) ss (omega arith)

next : (b : Bool) (n most : ℕ) → (b ≡ true → n < most) → n ≤ most → cond b (n + 1) n ≤ most
next true n most here before = let h : n < most = here refl in omega arith
next false n most here before = before

-- a count that each line which counts finds below a number is at most the number
few_to : (test : What → Bool) (most : ℕ) (ss : List Statement) → ((i : ℕ) (d : Statement) → i < length ss → test (get_or ss i d).what ≡ true → count_lines test (take i ss) < most)
    → (i : ℕ) → i ≤ length ss → count_lines test (take i ss) ≤ most
few_to test most ss below zero le = omega arith
few_to test most ss below (suc i) le =
    let lt : i < length ss = omega arith in
    let here = below i nothing lt in
    let before = few_to test most ss below i (omega arith) in
    rw (split ss i nothing lt, count_more test (take i ss) (get_or ss i nothing)) (next (test (get_or ss i nothing).what) (count_lines test (take i ss)) most here before)

few : (test : What → Bool) (most : ℕ) (ss : List Statement) → ((i : ℕ) (d : Statement) → i < length ss → test (get_or ss i d).what ≡ true → count_lines test (take i ss) < most) → count_lines test ss ≤ most
few test most ss below = subst (λ (xs : List Statement). count_lines test xs ≤ most) (whole ss) (few_to test most ss below (length ss) (omega arith))

-- ---- devices

device_below : (before : List Statement) (what : What) → is_device_line what ≡ true → too_many_devices before what ≡ false → count_lines is_device_line before < 255
device_below before (Device device model) is few = leb-false 255 (count_lines is_device_line before) few
device_below before (Title name) is few = absurd (false≢true is)
device_below before (Group group name) is few = absurd (false≢true is)
device_below before (Object device n size flags) is few = absurd (false≢true is)
device_below before (Link device object groups) is few = absurd (false≢true is)
device_below before Version is few = absurd (false≢true is)
device_below before (Send device object group) is few = absurd (false≢true is)
device_below before (Flags device object flags) is few = absurd (false≢true is)
device_below before (Param device name value) is few = absurd (false≢true is)

pub few_devices : (catalogue : List NamedModel) (ss : List Statement) → first_broken catalogue ss ≡ None → count_lines is_device_line ss ≤ 255
few_devices catalogue ss e = few is_device_line 255 ss (λ i d lt is. device_below (take i ss) (get_or ss i d).what is (unbroken_at catalogue ss i d e lt).too_many_devices)

-- ---- links

one_line : (d : ℕ) (before : List Statement) (what : What) → too_many_links before what ≡ false → count_links d before ≤ 2047 → count_links d before + links_of_device d what ≤ 2047
one_line d before (Link device object groups) few upto = elim (cases_Bool (eqb device.raw d)) [
  | inl is ↦ (
      let same : device.raw ≡ d = eqb-true device.raw d is in
      let fits : count_links d before + length groups ≤ 2047 = ltb-false 2047 (count_links d before + length groups) (subst (λ (r : ℕ). ltb 2047 (count_links r before + length groups) ≡ false) same few) in
      rw is fits)
  | inr other ↦ rw other (omega (arith, upto))
]
one_line d before Version few upto = omega (arith, upto)
one_line d before (Title name) few upto = omega (arith, upto)
one_line d before (Group group name) few upto = omega (arith, upto)
one_line d before (Device device model) few upto = omega (arith, upto)
one_line d before (Object device n size flags) few upto = omega (arith, upto)
one_line d before (Send device object group) few upto = omega (arith, upto)
one_line d before (Flags device object flags) few upto = omega (arith, upto)
one_line d before (Param device name value) few upto = omega (arith, upto)

few_links_to : (catalogue : List NamedModel) (ss : List Statement) (d : ℕ) → first_broken catalogue ss ≡ None → (i : ℕ) → i ≤ length ss → count_links d (take i ss) ≤ 2047
few_links_to catalogue ss d e zero le = omega arith
few_links_to catalogue ss d e (suc i) le =
    let lt : i < length ss = omega (arith, le) in
    let s = get_or ss i nothing in
    rw (split ss i nothing lt, links_more d (take i ss) s) (one_line d (take i ss) s.what (unbroken_at catalogue ss i nothing e lt).too_many_links (few_links_to catalogue ss d e i (omega (arith, le))))

-- at most 2,047 links of a device
pub few_links : (catalogue : List NamedModel) (ss : List Statement) (d : ℕ) → first_broken catalogue ss ≡ None → count_links d ss ≤ 2047
few_links catalogue ss d e = subst (λ (xs : List Statement). count_links d xs ≤ 2047) (whole ss) (few_links_to catalogue ss d e (length ss) (omega arith))

first : (a b : Bool) → (a && b) ≡ true → a ≡ true
first a b e = (and_parts a b e).0

raw_small : (a : IndAddr) → is_device a ≡ true → ltb a.raw 65536 ≡ true
raw_small a e =
    let small = nat_lt a.raw 65536 in
    let some = nat_lt 0 (a.raw % 256) in
    first small some (first (small && some) (nat_lt (a.raw % 256) 255) e)

abbrev linked : What → Option ℕ
linked (Link device object groups) = Some device.raw
linked _ = None

linked_is : (k : ℕ) (w : What) → cond (is_key (linked w) k) (links_in w) 0 ≡ links_of_device k w
linked_is k Version = refl
linked_is k (Title name) = refl
linked_is k (Group group name) = refl
linked_is k (Device device model) = refl
linked_is k (Object device n size flags) = refl
linked_is k (Link device object groups) = refl
linked_is k (Send device object group) = refl
linked_is k (Flags device object flags) = refl
linked_is k (Param device name value) = refl

linked_same : (k : ℕ) (ss : List Statement) → weigh (λ w. is_key (linked w) k) links_in ss ≡ count_links k ss
linked_same k [] = refl
linked_same k (s ∷ ss) = omega (arith, sum_by-cons (λ (t : Statement). cond (is_key (linked t.what) k) (links_in t.what) 0) s ss, sum_by-cons (λ (t : Statement). links_of_device k t.what) s ss, linked_is k s.what, linked_same k ss)

linked_below : (version : TextVersion) (w : What) → is_spellable version w ≡ true → links_in w ≡ cond (is_below (linked w) 65536) (links_in w) 0
linked_below version Version s = refl
linked_below version (Title name) s = refl
linked_below version (Group group name) s = refl
linked_below version (Device device model) s = refl
linked_below version (Object device n size flags) s = refl
linked_below version (Link device object groups) s = rw (raw_small device (first (is_device device) (is_object object) (first (is_device device && is_object object) (are_groups version groups) s))) refl
linked_below version (Send device object group) s = refl
linked_below version (Flags device object flags) s = refl
linked_below version (Param device name value) s = refl

all_below : (version : TextVersion) (ss : List Statement) → are_spelled version ss ≡ true → sum_by (λ s. links_in s.what) ss ≡ weigh (λ w. is_below (linked w) 65536) links_in ss
all_below version [] e = refl
all_below version (s ∷ ss) e =
    let parts = and_parts (is_spellable version s.what) (are_spelled version ss) e in
    omega (arith, sum_by-cons (λ (t : Statement). links_in t.what) s ss, sum_by-cons (λ (t : Statement). cond (is_below (linked t.what) 65536) (links_in t.what) 0) s ss, linked_below version s.what parts.0, all_below version ss parts.1)

-- statements that can be spelled are, in their version
spelled_so : (ss : List Statement) → are_spellable ss ≡ true → are_spelled (version_of ss) ss ≡ true
spelled_so ss e = (and_parts (are_spelled (version_of ss) ss) (list_all (λ s. not (is_version s.what)) (drop 1 ss)) e).0

pub links_fit : (catalogue : List NamedModel) (ss : List Statement) → first_broken catalogue ss ≡ None → are_spellable ss ≡ true → sum_by (λ s. links_in s.what) ss ≤ 134152192
links_fit catalogue ss e spelled =
    let each : (k : ℕ) → weigh (λ w. is_key (linked w) k) links_in ss ≤ 2047 = λ k. omega (arith, few_links catalogue ss k e, linked_same k ss) in
    omega (arith, weigh_below linked links_in 2047 ss each 65536, all_below (version_of ss) ss (spelled_so ss spelled))

-- ---- the models of devices are known

unnamed : (catalogue : List NamedModel) (name : List ℕ) (what : What) → unknown_model catalogue what ≡ false → is_none (model_named catalogue name) ≡ true → names_model name what ≡ false
unnamed catalogue name (Device device model) known none = false_from_ne_true (bytes_eq model name) (λ is.
    let same : model ≡ name = (bytes_eq-Decides model name).0 is in
    let known : is_none (model_named catalogue name) ≡ false = subst (λ (n : List ℕ). is_none (model_named catalogue n) ≡ false) same known in
    false≢true (sym known ∙ none))
unnamed catalogue name (Title title) known none = refl
unnamed catalogue name (Group group title) known none = refl
unnamed catalogue name (Object device n size flags) known none = refl
unnamed catalogue name (Link device object groups) known none = refl
unnamed catalogue name Version known none = refl
unnamed catalogue name (Send device object group) known none = refl
unnamed catalogue name (Flags device object flags) known none = refl
unnamed catalogue name (Param device title value) known none = refl

unnamed_to : (catalogue : List NamedModel) (ss : List Statement) (name : List ℕ) → first_broken catalogue ss ≡ None → is_none (model_named catalogue name) ≡ true
    → (i : ℕ) → i ≤ length ss → some_line (names_model name) (take i ss) ≡ false
unnamed_to catalogue ss name e none zero le = refl
unnamed_to catalogue ss name e none (suc i) le =
    let lt : i < length ss = omega arith in
    let here = unnamed catalogue name (get_or ss i nothing).what (unbroken_at catalogue ss i nothing e lt).unknown_model none in
    rw (split ss i nothing lt, some_more (names_model name) (take i ss) (get_or ss i nothing)) (or_from (some_line (names_model name) (take i ss)) (names_model name (get_or ss i nothing).what) (unnamed_to catalogue ss name e none i (omega arith)) here)

known_name : (catalogue : List NamedModel) (ss : List Statement) (name : List ℕ) (m : Option Model) → first_broken catalogue ss ≡ None → some_line (names_model name) ss ≡ true → model_named catalogue name ≡ m
    → (n : Model) × (m ≡ Some n)
known_name catalogue ss name (Some m) e named is = (m, refl)
known_name catalogue ss name None e named is =
    let none : some_line (names_model name) ss ≡ false = subst (λ (xs : List Statement). some_line (names_model name) xs ≡ false) (whole ss) (unnamed_to catalogue ss name e (ap is_none is) (length ss) (omega arith)) in
    absurd (false≢true (sym none ∙ named))

known_first : (catalogue : List NamedModel) (ss : List Statement) (d : ℕ) (o : Option (List ℕ)) → first_broken catalogue ss ≡ None → first_some (model_in d) ss ≡ o → is_some o ≡ true
    → (m : Model) × (named_model catalogue o ≡ Some m)
known_first catalogue ss d None e is some = absurd (false≢true some)
known_first catalogue ss d (Some name) e is some = known_name catalogue ss name (model_named catalogue name) e (named_in d name ss is) refl

-- the model of a device is known
pub model_known : (catalogue : List NamedModel) (ss : List Statement) (d : ℕ) → first_broken catalogue ss ≡ None → some_line (declares_device d) ss ≡ true → (m : Model) × (model_of catalogue ss d ≡ Some m)
model_known catalogue ss d e declared = known_first catalogue ss d (first_some (model_in d) ss) e refl (modelled d ss ∙ declared)

-- ---- objects

uncounted : (p : What → Bool) (ss : List Statement) → some_line p ss ≡ false → count_lines p ss ≡ 0
uncounted p [] none = refl
uncounted p (s ∷ ss) none =
    let parts = or_parts (p s.what) (some_line p ss) none in
    omega (arith, count_cons p s ss, ap one parts.0, uncounted p ss parts.1)

object_new : (o : Option Model) (d n : ℕ) (before : List Statement) (m : Model) → o ≡ Some m → asked_of o (λ x. has_object x n || some_line (declares_object d n) before) ≡ false
    → some_line (declares_object d n) before ≡ false
object_new None d n before m is new = absurd (cc)
object_new (Some x) d n before m is new = (or_parts (has_object x n) (some_line (declares_object d n) before) new).1

object_below : (catalogue : List NamedModel) (ss : List Statement) (d k : ℕ) (before : List Statement) (what : What) → first_broken catalogue ss ≡ None → declares_object d k what ≡ true
    → duplicate_object catalogue before ss what ≡ false → no_device ss what ≡ false → count_lines (declares_object d k) before < 1
object_below catalogue ss d k before (Object device n size flags) e is new declared =
    let parts = and_parts (eqb device.raw d) (eqb n k) is in
    let device_is : device.raw ≡ d = eqb-true device.raw d parts.0 in
    let number_is : n ≡ k = eqb-true n k parts.1 in
    let known = model_known catalogue ss device.raw e (not-false (some_line (declares_device device.raw) ss) declared) in
    let none : some_line (declares_object device.raw n) before ≡ false = object_new (model_of catalogue ss device.raw) device.raw n before known.0 known.1 new in
    let none_there : some_line (declares_object d k) before ≡ false = subst (λ (a : ℕ). some_line (declares_object a k) before ≡ false) device_is (subst (λ (a : ℕ). some_line (declares_object device.raw a) before ≡ false) number_is none) in
    omega (arith, uncounted (declares_object d k) before none_there)
object_below catalogue ss d k before (Title name) e is new declared = absurd (false≢true is)
object_below catalogue ss d k before (Group group name) e is new declared = absurd (false≢true is)
object_below catalogue ss d k before (Device device model) e is new declared = absurd (false≢true is)
object_below catalogue ss d k before (Link device object groups) e is new declared = absurd (false≢true is)
object_below catalogue ss d k before Version e is new declared = absurd (false≢true is)
object_below catalogue ss d k before (Send device object group) e is new declared = absurd (false≢true is)
object_below catalogue ss d k before (Flags device object flags) e is new declared = absurd (false≢true is)
object_below catalogue ss d k before (Param device name value) e is new declared = absurd (false≢true is)

-- an object stands in one `object` line at most
pub object_once : (catalogue : List NamedModel) (ss : List Statement) (d k : ℕ) → first_broken catalogue ss ≡ None → count_lines (declares_object d k) ss ≤ 1
object_once catalogue ss d k e = few (declares_object d k) 1 ss (λ i s lt is.
    let kept = unbroken_at catalogue ss i s e lt in
    object_below catalogue ss d k (take i ss) (get_or ss i s).what e is kept.duplicate_object kept.no_device)

abbrev is_object_of : ℕ → What → Bool
is_object_of d (Object device n size flags) = eqb device.raw d
is_object_of d _ = false

abbrev numbered : ℕ → What → Option ℕ
numbered d (Object device n size flags) = cond (eqb device.raw d) (Some n) None
numbered d _ = None

key_if : (b : Bool) (n k : ℕ) → is_key (cond b (Some n) None) k ≡ (b && eqb n k)
key_if true n k = refl
key_if false n k = refl

numbered_is : (version : TextVersion) (d k : ℕ) (w : What) → is_spellable version w ≡ true → is_key (numbered d w) k ≡ declares_object d k w
numbered_is version d k (Object device n size flags) s = key_if (eqb device.raw d) n k
numbered_is version d k (Title name) s = refl
numbered_is version d k (Group group name) s = refl
numbered_is version d k (Device device model) s = refl
numbered_is version d k (Link device object groups) s = refl
numbered_is version d k Version s = refl
numbered_is version d k (Send device object group) s = refl
numbered_is version d k (Flags device object flags) s = refl
numbered_is version d k (Param device name value) s = refl

object_parts : (version : TextVersion) (device : IndAddr) (n size flags : ℕ) → is_spellable version (Object device n size flags) ≡ true → (is_device device ≡ true) × (is_object n ≡ true)
object_parts version device n size flags s =
    let of = is_device device && is_object n in
    let sized = of && nat_lt size 15 in
    let flagged = sized && nat_lt flags 256 in
    and_parts (is_device device) (is_object n) (first of (nat_lt size 15) (first sized (nat_lt flags 256) (first flagged (eqb (flags % 4) 3) s)))

below_if : (b : Bool) (n : ℕ) → is_object n ≡ true → b ≡ is_below (cond b (Some n) None) 256
below_if true n small = sym (and_parts (nat_lt 0 n) (nat_lt n 256) small).1
below_if false n small = refl

numbered_below : (version : TextVersion) (d : ℕ) (w : What) → is_spellable version w ≡ true → is_object_of d w ≡ is_below (numbered d w) 256
numbered_below version d (Object device n size flags) s = below_if (eqb device.raw d) n (object_parts version device n size flags s).1
numbered_below version d (Title name) s = refl
numbered_below version d (Group group name) s = refl
numbered_below version d (Device device model) s = refl
numbered_below version d (Link device object groups) s = refl
numbered_below version d Version s = refl
numbered_below version d (Send device object group) s = refl
numbered_below version d (Flags device object flags) s = refl
numbered_below version d (Param device name value) s = refl

few_objects : (catalogue : List NamedModel) (ss : List Statement) (d : ℕ) → first_broken catalogue ss ≡ None → are_spellable ss ≡ true → count_lines (is_object_of d) ss ≤ 256
few_objects catalogue ss d e spelled =
    let v = version_of ss in
    let each : (k : ℕ) → count_lines (λ w. is_key (numbered d w) k) ss ≤ 1 = λ k. omega (arith, object_once catalogue ss d k e, count_same (is_spellable v) (λ w. is_key (numbered d w) k) (declares_object d k) (numbered_is v d k) ss (spelled_so ss spelled)) in
    omega (arith, few_below (numbered d) 1 ss each 256, count_same (is_spellable v) (is_object_of d) (λ w. is_below (numbered d w) 256) (numbered_below v d) ss (spelled_so ss spelled))

abbrev owner : What → Option ℕ
owner (Object device n size flags) = Some device.raw
owner _ = None

owner_is : (version : TextVersion) (k : ℕ) (w : What) → is_spellable version w ≡ true → is_key (owner w) k ≡ is_object_of k w
owner_is version k (Object device n size flags) s = refl
owner_is version k (Title name) s = refl
owner_is version k (Group group name) s = refl
owner_is version k (Device device model) s = refl
owner_is version k (Link device object groups) s = refl
owner_is version k Version s = refl
owner_is version k (Send device object group) s = refl
owner_is version k (Flags device object flags) s = refl
owner_is version k (Param device name value) s = refl

owner_below : (version : TextVersion) (w : What) → is_spellable version w ≡ true → is_object_line w ≡ is_below (owner w) 65536
owner_below version (Object device n size flags) s = sym (raw_small device (object_parts version device n size flags s).0)
owner_below version (Title name) s = refl
owner_below version (Group group name) s = refl
owner_below version (Device device model) s = refl
owner_below version (Link device object groups) s = refl
owner_below version Version s = refl
owner_below version (Send device object group) s = refl
owner_below version (Flags device object flags) s = refl
owner_below version (Param device name value) s = refl

pub objects_fit : (catalogue : List NamedModel) (ss : List Statement) → first_broken catalogue ss ≡ None → are_spellable ss ≡ true → count_lines is_object_line ss ≤ 16777216
objects_fit catalogue ss e spelled =
    let v = version_of ss in
    let each : (k : ℕ) → count_lines (λ w. is_key (owner w) k) ss ≤ 256 = λ k. omega (arith, few_objects catalogue ss k e spelled, count_same (is_spellable v) (λ w. is_key (owner w) k) (is_object_of k) (owner_is v k) ss (spelled_so ss spelled)) in
    omega (arith, few_below owner 256 ss each 65536, count_same (is_spellable v) is_object_line (λ w. is_below (owner w) 65536) (owner_below v) ss (spelled_so ss spelled))
