-- What a text keeps that breaks no rule: the links of a device are at most 2,047, no object is linked to a group twice, and each
-- parameter is set to a value in its range.
use Rattle.std.proofs.Common.{◌≡◌, ℕ, zero, suc, ◌+◌, ◌<◌, ◌≤◌, Bool, true, false, cond, ◌&&◌, List, [], ◌∷◌, ◌++◌, length, get_or, take, map, eqb, bytes_eq, All, Option, Some, None, refl, sym, ap, ◌∙◌, subst, arith, inl, inr, length-append}
use Rattle.std.specs.List.{AllPairs, AllByRecursion, cons_option, filter_map, last_or, list_any}
use Rattle.std.proofs.lemmas.Bool.{eqb-true, eq-eqb, false≢true, cases_Bool, or_parts}
use Rattle.std.proofs.lemmas.List.{take_more, take_all, length-map}
use Rattle.std.proofs.lemmas.List.Elements.{All-from_recursion, recursion_from_All}
use Rattle.std.proofs.lemmas.Slice.Eq.{bytes_eq-Decides}
use Rattle.std.proofs.lemmas.List.Sums.{sum_by-cons}
use Rattle.project_check.proofs.Sound.{sound_at}
use Rattle.project_check.proofs.Limits.{few_links}
use Rattle.table_compiler.proofs.LinksMore.{links_more}
use Rattle.knx_model.specs.declared.address.GroupAddr.{GroupAddr}
use Rattle.knx_model.specs.declared.address.IndAddr.{IndAddr}
use Rattle.knx_model.specs.declared.catalogue.model.Model.{Model}
use Rattle.knx_model.specs.declared.catalogue.model.NamedModel.{NamedModel}
use Rattle.knx_model.specs.declared.project.Statement.{Statement}
use Rattle.knx_model.specs.declared.project.What.{What}
use Rattle.knx_model.specs.declared.project.What.TheVariants.{Version, Title, Group, Device, Object, Link, Send, Flags, Param}
use Rattle.knx_model.specs.declared.refusal.Why.TheVariants.{DuplicateDevice, DuplicateGroup, UnknownGroup, UnknownModel, DuplicateObject, UnknownObject, DuplicateLink, UnknownParameter, OutOfRange}
use Rattle.knx_model.specs.Meaning.{link_to, links_said, link_lines, param_line, last_value}
use Rattle.knx_model.specs.Models.{field_in}
use Rattle.knx_model.specs.Rules.{rule_of, first_broken, duplicate_device, duplicate_group, unknown_group, unknown_model, duplicate_object, unknown_object, duplicate_link, unknown_parameter, out_of_range, model_of, asked_of, is_out_of, has_group, repeats_group, links_to, links_of_device, count_links, some_line}

-- ---- what a kept rule says

passed : {X : Type 0} (b : Bool) (x : X) (rest : Option X) → cond b (Some x) rest ≡ None → (b ≡ false) × (rest ≡ None)
passed false x rest e = (refl, e)
passed true x rest e = absurd (cc)

record Kept (catalogue : List NamedModel) (earlier whole : List Statement) (what : What) : Type 0 where
  link : duplicate_link earlier what ≡ false
  value : out_of_range catalogue whole what ≡ false

kept : (catalogue : List NamedModel) (earlier whole : List Statement) (what : What) → rule_of catalogue earlier whole what ≡ None → Kept catalogue earlier whole what
unfolding rule_of
kept catalogue earlier whole what e =
    let e1 = (passed (duplicate_device earlier what) DuplicateDevice _ e).1 in
    let e2 = (passed (duplicate_group earlier what) DuplicateGroup _ e1).1 in
    let e3 = (passed (unknown_group whole what) UnknownGroup _ e2).1 in
    let e4 = (passed (unknown_model catalogue what) UnknownModel _ e3).1 in
    let e5 = (passed (duplicate_object catalogue earlier whole what) DuplicateObject _ e4).1 in
    let e6 = (passed (unknown_object catalogue whole what) UnknownObject _ e5).1 in
    let e7 = passed (duplicate_link earlier what) DuplicateLink _ e6 in
    let e8 = (passed (unknown_parameter catalogue whole what) UnknownParameter _ e7.1).1 in
    let e9 = passed (out_of_range catalogue whole what) OutOfRange _ e8 in
    record { link = e7.0; value = e9.0 }

-- ---- at most 2,047 links

nothing : Statement
nothing = record { line = 0; what = Title [] }

-- a device has one link for each group of its `link` lines
length_if : (b : Bool) (object : ℕ) (groups : List GroupAddr) → length (cond b (map (link_to object) groups) []) ≡ cond b (length groups) 0
length_if true object groups = length-map groups (link_to object)
length_if false object groups = refl

line_counts : (device : IndAddr) (what : What) → length (links_said device what) ≡ links_of_device device.raw what
line_counts device (Link of object groups) = length_if (eqb of.raw device.raw) object groups
line_counts device Version = refl
line_counts device (Title name) = refl
line_counts device (Group group name) = refl
line_counts device (Device of model) = refl
line_counts device (Object of n size flags) = refl
line_counts device (Send of object group) = refl
line_counts device (Flags of object flags) = refl
line_counts device (Param of name value) = refl

count_is : (device : IndAddr) (ss : List Statement) → length (link_lines device ss) ≡ count_links device.raw ss
count_is device [] = refl
count_is device (s ∷ ss) = omega (arith, length-append (links_said device s.what) (link_lines device ss), line_counts device s.what, count_is device ss, sum_by-cons (λ (t : Statement). links_of_device device.raw t.what) s ss)

pub few_lines : (catalogue : List NamedModel) (device : IndAddr) (ss : List Statement) → first_broken catalogue ss ≡ None → length (link_lines device ss) ≤ 2047
few_lines catalogue device ss sound = omega (arith, count_is device ss, few_links catalogue ss device.raw sound)

-- ---- no object is linked to a group twice

abbrev pub Apart : ℕ × GroupAddr → ℕ × GroupAddr → Type 0
Apart x y = x.0 ≡ y.0 → x.1.raw ≡ y.1.raw → ⊥

-- a list after another, each apart from those of the other
AreBefore : List (ℕ × GroupAddr) → List (ℕ × GroupAddr) → Type 0
AreBefore [] ys = Unit {0}
AreBefore (x ∷ xs) ys = AllByRecursion (Apart x) ys × AreBefore xs ys

-- each is apart from all later ones
Differ : List (ℕ × GroupAddr) → Type 0
Differ [] = Unit {0}
Differ (x ∷ xs) = AllByRecursion (Apart x) xs × Differ xs

all_both : (P : ℕ × GroupAddr → Type 0) (xs ys : List (ℕ × GroupAddr)) → AllByRecursion P xs → AllByRecursion P ys → AllByRecursion P (xs ++ ys)
all_both P [] ys all more = more
all_both P (x ∷ xs) ys all more = (all.0, all_both P xs ys all.1 more)

joined : (xs ys : List (ℕ × GroupAddr)) → Differ xs → Differ ys → AreBefore xs ys → Differ (xs ++ ys)
unfolding Differ AreBefore
joined [] ys one other apart = other
joined (x ∷ xs) ys one other apart = (all_both (Apart x) xs ys one.0 apart.0, joined xs ys one.1 other apart.1)

-- no line before links the object to one of the groups
not_linked : (device : IndAddr) (object : ℕ) (earlier : What) (group : GroupAddr) → links_to device.raw object group.raw earlier ≡ false → AllByRecursion (λ x. Apart x (object, group)) (links_said device earlier)
not_linked device object (Link of n gs) group e = by (eqb of.raw device.raw) e
  where
    all_apart : (gs : List GroupAddr) → (eqb n object && has_group group.raw gs) ≡ false → AllByRecursion (λ x. Apart x (object, group)) (map (link_to n) gs)
    all_apart [] none = tt
    all_apart (g ∷ gs) none =
        let other : n ≡ object → has_group group.raw (g ∷ gs) ≡ false = λ same. ap (λ (b : Bool). b && has_group group.raw (g ∷ gs)) (sym (eq-eqb n object same)) ∙ none in
        let later : (eqb n object && has_group group.raw gs) ≡ false = elim (cases_Bool (eqb n object)) [
          | inl is ↦ rw is (or_parts (eqb g.raw group.raw) (has_group group.raw gs) (other (eqb-true n object is))).1
          | inr away ↦ rw away refl
        ] in
        (λ same_object same_group. false≢true (sym (or_parts (eqb g.raw group.raw) (has_group group.raw gs) (other same_object)).0 ∙ eq-eqb g.raw group.raw same_group), all_apart gs later)

    by : (b : Bool) → (b && eqb n object && has_group group.raw gs) ≡ false → AllByRecursion (λ x. Apart x (object, group)) (cond b (map (link_to n) gs) [])
    by true none = all_apart gs none
    by false none = tt
not_linked device object Version group e = tt
not_linked device object (Title name) group e = tt
not_linked device object (Group g name) group e = tt
not_linked device object (Device of model) group e = tt
not_linked device object (Object of n size flags) group e = tt
not_linked device object (Send of n g) group e = tt
not_linked device object (Flags of n flags) group e = tt
not_linked device object (Param of name value) group e = tt

none_linked : (device : IndAddr) (object : ℕ) (group : GroupAddr) (earlier : List Statement) → some_line (links_to device.raw object group.raw) earlier ≡ false → AllByRecursion (λ x. Apart x (object, group)) (link_lines device earlier)
none_linked device object group [] e = tt
none_linked device object group (s ∷ earlier) e =
    let parts = or_parts (links_to device.raw object group.raw s.what) (some_line (links_to device.raw object group.raw) earlier) e in
    all_both (λ x. Apart x (object, group)) (links_said device s.what) (link_lines device earlier) (not_linked device object s.what group parts.0) (none_linked device object group earlier parts.1)

-- a new one behind a list, where each of the list is apart from it
before_more : (xs : List (ℕ × GroupAddr)) (y : ℕ × GroupAddr) (ys : List (ℕ × GroupAddr)) → AllByRecursion (λ x. Apart x y) xs → AreBefore xs ys → AreBefore xs (y ∷ ys)
unfolding AreBefore
before_more [] y ys all before = tt
before_more (x ∷ xs) y ys all before = ((all.0, before.0), before_more xs y ys all.1 before.1)

before_none : (xs : List (ℕ × GroupAddr)) → AreBefore xs []
unfolding AreBefore
before_none [] = tt
before_none (x ∷ xs) = (tt, before_none xs)

before_groups : (device : IndAddr) (object : ℕ) (groups : List GroupAddr) (earlier : List Statement) → list_any (λ (g : GroupAddr). some_line (links_to device.raw object g.raw) earlier) groups ≡ false → AreBefore (link_lines device earlier) (map (link_to object) groups)
before_groups device object [] earlier e = before_none (link_lines device earlier)
before_groups device object (g ∷ groups) earlier e =
    let parts = or_parts (some_line (links_to device.raw object g.raw) earlier) (list_any (λ (g : GroupAddr). some_line (links_to device.raw object g.raw) earlier) groups) e in
    before_more (link_lines device earlier) (object, g) (map (link_to object) groups) (none_linked device object g earlier parts.0) (before_groups device object groups earlier parts.1)

-- the groups of a line differ
groups_apart : (object : ℕ) (group : GroupAddr) (groups : List GroupAddr) → has_group group.raw groups ≡ false → AllByRecursion (Apart (object, group)) (map (link_to object) groups)
groups_apart object group [] e = tt
groups_apart object group (g ∷ groups) e =
    let parts = or_parts (eqb g.raw group.raw) (has_group group.raw groups) e in
    (λ same_object same_group. false≢true (sym parts.0 ∙ eq-eqb g.raw group.raw (sym same_group)), groups_apart object group groups parts.1)

groups_differ : (object : ℕ) (groups : List GroupAddr) → repeats_group groups ≡ false → Differ (map (link_to object) groups)
unfolding Differ
groups_differ object [] e = tt
groups_differ object (g ∷ groups) e =
    let parts = or_parts (has_group g.raw groups) (repeats_group groups) e in
    (groups_apart object g groups parts.0, groups_differ object groups parts.1)

no_links : Differ []
unfolding Differ
no_links = tt

one_more : (device : IndAddr) (earlier : List Statement) (what : What) → duplicate_link earlier what ≡ false → Differ (link_lines device earlier) → Differ (link_lines device earlier ++ links_said device what)
one_more device earlier (Link of object groups) once apart = by (eqb of.raw device.raw) refl
  where
    by : (b : Bool) → eqb of.raw device.raw ≡ b → Differ (link_lines device earlier ++ cond b (map (link_to object) groups) [])
    by false other = joined (link_lines device earlier) [] apart no_links (before_none (link_lines device earlier))
    by true is =
        let same : of.raw ≡ device.raw = eqb-true of.raw device.raw is in
        let parts = or_parts (list_any (λ (g : GroupAddr). some_line (links_to of.raw object g.raw) earlier) groups) (repeats_group groups) once in
        let new : list_any (λ (g : GroupAddr). some_line (links_to device.raw object g.raw) earlier) groups ≡ false = subst (λ (r : ℕ). list_any (λ (g : GroupAddr). some_line (links_to r object g.raw) earlier) groups ≡ false) same parts.0 in
        joined (link_lines device earlier) (map (link_to object) groups) apart (groups_differ object groups parts.1) (before_groups device object groups earlier new)
one_more device earlier Version once apart = joined (link_lines device earlier) [] apart no_links (before_none (link_lines device earlier))
one_more device earlier (Title name) once apart = joined (link_lines device earlier) [] apart no_links (before_none (link_lines device earlier))
one_more device earlier (Group group name) once apart = joined (link_lines device earlier) [] apart no_links (before_none (link_lines device earlier))
one_more device earlier (Device of model) once apart = joined (link_lines device earlier) [] apart no_links (before_none (link_lines device earlier))
one_more device earlier (Object of n size flags) once apart = joined (link_lines device earlier) [] apart no_links (before_none (link_lines device earlier))
one_more device earlier (Send of object group) once apart = joined (link_lines device earlier) [] apart no_links (before_none (link_lines device earlier))
one_more device earlier (Flags of object flags) once apart = joined (link_lines device earlier) [] apart no_links (before_none (link_lines device earlier))
one_more device earlier (Param of name value) once apart = joined (link_lines device earlier) [] apart no_links (before_none (link_lines device earlier))

apart_to : (catalogue : List NamedModel) (device : IndAddr) (ss : List Statement) (i : ℕ) → first_broken catalogue ss ≡ None → i ≤ length ss → Differ (link_lines device (take i ss))
apart_to catalogue device ss zero sound le = no_links
apart_to catalogue device ss (suc i) sound le =
    let lt : i < length ss = omega arith in
    let s : Statement = get_or ss i nothing in
    let one : suc i ≡ i + 1 = omega arith in
    let more : link_lines device (take (i + 1) ss) ≡ link_lines device (take i ss) ++ links_said device s.what = ap (λ (xs : List Statement). link_lines device xs) (take_more ss i nothing lt) ∙ links_more device (take i ss) s in
    rw one (subst (λ (ls : List (ℕ × GroupAddr)). Differ ls) (sym more) (one_more device (take i ss) s.what (kept catalogue (take i ss) ss s.what (sound_at catalogue ss i nothing sound lt)).link (apart_to catalogue device ss i sound (omega arith))))

-- each pair of places
pairs_more : (x : ℕ × GroupAddr) (xs : List (ℕ × GroupAddr)) → AllByRecursion (Apart x) xs → AllPairs Apart xs → AllPairs Apart (x ∷ xs)
pairs_more x xs first rest zero zero d below lt = absurd (omega (arith, below))
pairs_more x xs first rest zero (suc j) d below lt = All-from_recursion (Apart x) xs first j d (omega (arith, lt))
pairs_more x xs first rest (suc i) zero d below lt = absurd (omega (arith, below))
pairs_more x xs first rest (suc i) (suc j) d below lt = rest i j d (omega (arith, below)) (omega (arith, lt))

pairs_from : (xs : List (ℕ × GroupAddr)) → Differ xs → AllPairs Apart xs
unfolding Differ
pairs_from [] h = λ i j d below lt. absurd (omega (arith, below, lt))
pairs_from (x ∷ xs) h = pairs_more x xs h.0 (pairs_from xs h.1)

pub lines_apart : (catalogue : List NamedModel) (device : IndAddr) (ss : List Statement) → first_broken catalogue ss ≡ None → AllPairs Apart (link_lines device ss)
lines_apart catalogue device ss sound =
    let all : take (length ss) ss ≡ ss = take_all (length ss) ss (omega arith) in
    pairs_from (link_lines device ss) (rw all at (apart_to catalogue device ss (length ss) sound (omega arith)))

-- ---- each parameter is set to a value in its range

line_says : (here same : Bool) (v value : ℕ) → cond (here && same) (Some v) None ≡ Some value → (here ≡ true) × (same ≡ true) × (v ≡ value)
line_says true true v value e = (refl, refl, cc)
line_says true false v value e = absurd (cc)
line_says false same v value e = absurd (cc)

-- a value that a `param` line of the device gives a parameter
abbrev pub InRange : Model → List ℕ → ℕ → Type 0
InRange m name value = is_out_of (field_in m.parameters name) value ≡ false

line_in_range : (catalogue : List NamedModel) (whole : List Statement) (device : IndAddr) (m : Model) (name : List ℕ) (what : What) (value : ℕ)
    → model_of catalogue whole device.raw ≡ Some m → out_of_range catalogue whole what ≡ false → param_line device name what ≡ Some value → InRange m name value
line_in_range catalogue whole device m name (Title t) value is held e = absurd (cc)
line_in_range catalogue whole device m name (Group group t) value is held e = absurd (cc)
line_in_range catalogue whole device m name (Device of model) value is held e = absurd (cc)
line_in_range catalogue whole device m name (Object of n size flags) value is held e = absurd (cc)
line_in_range catalogue whole device m name Version value is held e = absurd (cc)
line_in_range catalogue whole device m name (Link of object groups) value is held e = absurd (cc)
line_in_range catalogue whole device m name (Send of object group) value is held e = absurd (cc)
line_in_range catalogue whole device m name (Flags of object flags) value is held e = absurd (cc)
line_in_range catalogue whole device m name (Param of parameter v) value is held e =
    let says = line_says (eqb of.raw device.raw) (bytes_eq parameter name) v value e in
    let here : model_of catalogue whole of.raw ≡ Some m = subst (λ (r : ℕ). model_of catalogue whole r ≡ Some m) (sym (eqb-true _ _ says.0)) is in
    let test : InRange m parameter v = subst (λ (o : Option Model). asked_of o (λ m. is_out_of (field_in m.parameters parameter) v) ≡ false) here held in
    subst (λ (v : ℕ). InRange m name v) says.2 (subst (λ (p : List ℕ). InRange m p v) ((bytes_eq-Decides parameter name).0 says.1) test)

-- what holds of all that lines tell holds of the last
last_keeps : {X : Type 0} (P : X → Type 0) (f : Statement → Option X) (o : Option X) (ss : List Statement) (x : X) → ((y : X) → o ≡ Some y → P y) → AllByRecursion (λ s. (y : X) → f s ≡ Some y → P y) ss → last_or o (filter_map f ss) ≡ Some x → P x
last_keeps P f o [] x first all e = first x e
last_keeps {X = X} P f o (s ∷ ss) x first all e = next (f s) refl (λ o' first' e'. last_keeps P f o' ss x first' all.1 e') e
  where
    next : (p : Option X) → f s ≡ p → ((o' : Option X) → ((y : X) → o' ≡ Some y → P y) → last_or o' (filter_map f ss) ≡ Some x → P x) → last_or o (cons_option p (filter_map f ss)) ≡ Some x → P x
    next None q rest e = rest o first e
    next (Some y) q rest e = rest (Some y) (λ z h. all.0 z (q ∙ h)) e

pub value_in_range : (catalogue : List NamedModel) (ss : List Statement) (device : IndAddr) (m : Model) (name : List ℕ) (value : ℕ)
    → first_broken catalogue ss ≡ None → model_of catalogue ss device.raw ≡ Some m → last_value device ss name ≡ Some value → is_out_of (field_in m.parameters name) value ≡ false
value_in_range catalogue ss device m name value sound is e =
    let each : All (λ s. (v : ℕ) → param_line device name s.what ≡ Some v → InRange m name v) ss = λ k d lt v told. line_in_range catalogue ss device m name (get_or ss k d).what v is (kept catalogue (take k ss) ss (get_or ss k d).what (sound_at catalogue ss k d sound lt)).value told in
    last_keeps (InRange m name) (λ s. param_line device name s.what) None ss value (λ y h. absurd (cc)) (recursion_from_All _ ss each) e
