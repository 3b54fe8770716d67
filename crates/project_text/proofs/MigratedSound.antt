-- A project that breaks no rule breaks none when it is migrated.
use Rattle.std.proofs.Common.{◌≡◌, ℕ, ◌+◌, ◌≤◌, Bool, true, false, cond, not, ◌&&◌, ◌||◌, eqb, ltb, leb, List, [], ◌∷◌, ◌++◌, length, map, take, All, Option, Some, None, refl, sym, ap, ◌∙◌, subst, arith, append_assoc, length-append, inl, inr}
use Rattle.std.specs.Prelude.{is_none}
use Rattle.std.specs.List.{cons_option, filter_map, flat_map, last_or, list_any, range_with_len}
use Rattle.std.specs.Option.{option_or}
use Rattle.std.proofs.lemmas.Bool.{or_parts, or_from, or_left, or_right, and_from, and_parts, ltb-false, le-ltb, eqb-true, eq-eqb, not-false, cases_Bool, false≢true}
use Rattle.std.proofs.lemmas.Option.{same_Some}
use Rattle.std.proofs.lemmas.List.{append-nil, take_all, take-append-le}
use Rattle.std.proofs.lemmas.List.Concat.{flat_map-append}
use Rattle.std.proofs.lemmas.List.Elements.{All-nil, All-cons, All-head, All-tail, All-append}
use Rattle.std.proofs.lemmas.List.Folds.{list_any-append}
use Rattle.knx_model.specs.declared.address.GroupAddr.{GroupAddr}
use Rattle.knx_model.specs.declared.address.IndAddr.{IndAddr}
use Rattle.knx_model.specs.declared.catalogue.model.Model.{Model}
use Rattle.knx_model.specs.declared.catalogue.model.NamedModel.{NamedModel}
use Rattle.knx_model.specs.declared.project.Statement.{Statement}
use Rattle.knx_model.specs.declared.project.What.{What}
use Rattle.knx_model.specs.declared.project.What.TheVariants.{Version, Title, Group, Device, Object, Link, Send, Flags, Param}
use Rattle.knx_model.specs.declared.refusal.Refused.{Refused}
use Rattle.knx_model.specs.declared.refusal.Why.{Why}
use Rattle.knx_model.specs.declared.refusal.Why.TheVariants.{DuplicateDevice, DuplicateGroup, UnknownGroup, UnknownModel, DuplicateObject, UnknownObject, DuplicateLink, UnknownParameter, OutOfRange, SizeDiffers, TooMany, NoDevice, NotLinked}
use Rattle.knx_model.specs.LeastLine.{first_refused}
use Rattle.knx_model.specs.Meaning.{link_to, links_said, link_lines, send_line, last_send, first_group}
use Rattle.knx_model.specs.Models.{model_named, field_in, has_object, has_field}
use Rattle.knx_model.specs.Rules.{some_line, count_lines, count_links, first_some, model_in, size_in, named_model, model_of, size_in_model, or_else, size_of, first_linked, asked_of, is_out_of, is_undeclared, is_no_object, has_group, repeats_group, links_again, differ, size_of_first, differs_from_first, declares_device, declares_group, declares_object, links_to, links_of_device, is_device_line, duplicate_link, rule_of, broken_at, broken_from, first_broken}
use Rattle.project_text.specs.Migrated.{link_to_one, one_by_one, kept, send_of, device_at, object_at, sends_below, sends, numbered_from, migrated}
use Rattle.project_text.proofs.Appending.{length_numbered, numbered_append}
use Rattle.project_text.proofs.KeptLines.{migrated_first, send_by}
use Rattle.project_text.proofs.LineTests.{IsFair, any_numbered, any_before, any_migrated, fair, fair_links, devices_before, links_before, sum_more, migrated_linked}

-- ---- a text of which no line breaks a rule

-- the lines after these, in a whole text
abbrev Sound : List NamedModel → List Statement → List Statement → List Statement → Type 0
Sound catalogue whole earlier [] = Unit {0}
Sound catalogue whole earlier (s ∷ rest) = (rule_of catalogue earlier whole s.what ≡ None) × Sound catalogue whole (earlier ++ s ∷ []) rest

take_front : {X : Type 0} (xs ys : List X) → take (length xs) (xs ++ ys) ≡ xs
take_front xs ys = take-append-le (length xs) xs ys (omega arith) ∙ take_all (length xs) xs (omega arith)

first_none : (line : ℕ) (o : Option Why) (rs : List Refused) → first_refused (cons_option (broken_at line o) rs) ≡ None → (o ≡ None) × (first_refused rs ≡ None)
first_none line None rs e = (refl, e)
first_none line (Some why) rs e = absurd cc

sound_from : (catalogue : List NamedModel) (ss : List Statement) (k : ℕ) (earlier rest : List Statement) → ss ≡ earlier ++ rest → length earlier ≡ k → first_refused (broken_from catalogue ss k rest) ≡ None → Sound catalogue ss earlier rest
unfolding broken_from
sound_from catalogue ss k earlier [] all count e = tt
sound_from catalogue ss k earlier (s ∷ rest) all count e =
    let h = first_none s.line (rule_of catalogue (take k ss) ss s.what) (broken_from catalogue ss (k + 1) rest) e in
    let front : take k ss ≡ earlier = ap (λ (n : ℕ). take n ss) (sym count) ∙ ap (take (length earlier)) all ∙ take_front earlier (s ∷ rest) in (
      ap (λ (t : List Statement). rule_of catalogue t ss s.what) (sym front) ∙ h.0,
      sound_from catalogue ss (k + 1) (earlier ++ s ∷ []) rest (all ∙ sym (append_assoc earlier (s ∷ []) rest)) (omega (arith, count, length-append earlier (s ∷ []))) h.1,
    )

sound_all : (catalogue : List NamedModel) (ss : List Statement) → first_broken catalogue ss ≡ None → Sound catalogue ss [] ss
sound_all catalogue ss e = sound_from catalogue ss 0 [] ss refl refl e

-- the same of what lines say, numbered from 1
abbrev Passes : List NamedModel → List Statement → List What → List What → Type 0
Passes catalogue whole earlier [] = Unit {0}
Passes catalogue whole earlier (w ∷ rest) = (rule_of catalogue (numbered_from 1 earlier) whole w ≡ None) × Passes catalogue whole (earlier ++ w ∷ []) rest

passes_both : (catalogue : List NamedModel) (whole : List Statement) (earlier ws vs : List What) → Passes catalogue whole earlier ws → Passes catalogue whole (earlier ++ ws) vs → Passes catalogue whole earlier (ws ++ vs)
passes_both catalogue whole earlier [] vs one other = subst (λ (t : List What). Passes catalogue whole t vs) (append-nil earlier) other
passes_both catalogue whole earlier (w ∷ ws) vs one other =
    (one.0, passes_both catalogue whole (earlier ++ w ∷ []) ws vs one.1 (subst (λ (t : List What). Passes catalogue whole t vs) (sym (append_assoc earlier (w ∷ []) ws)) other))

passes_first : (line : ℕ) (o : Option Why) (rs : List Refused) → o ≡ None → first_refused rs ≡ None → first_refused (cons_option (broken_at line o) rs) ≡ None
passes_first line None rs e rest = rest
passes_first line (Some why) rs e rest = absurd cc

unbroken_from : (catalogue : List NamedModel) (all : List What) (k : ℕ) (earlier rest : List What) → all ≡ earlier ++ rest → length earlier ≡ k → Passes catalogue (numbered_from 1 all) earlier rest
    → first_refused (broken_from catalogue (numbered_from 1 all) k (numbered_from (k + 1) rest)) ≡ None
unfolding broken_from
unbroken_from catalogue all k earlier [] whole count passes = refl
unbroken_from catalogue all k earlier (w ∷ rest) whole count passes =
    let front : take k (numbered_from 1 all) ≡ numbered_from 1 earlier =
    ap (λ (n : ℕ). take n (numbered_from 1 all)) (sym count ∙ sym (length_numbered 1 earlier)) ∙ ap (λ (t : List What). take (length (numbered_from 1 earlier)) (numbered_from 1 t)) whole
    ∙ ap (take (length (numbered_from 1 earlier))) (numbered_append 1 earlier (w ∷ rest)) ∙ take_front (numbered_from 1 earlier) (numbered_from (1 + length earlier) (w ∷ rest)) in
    passes_first (k + 1) (rule_of catalogue (take k (numbered_from 1 all)) (numbered_from 1 all) w) (broken_from catalogue (numbered_from 1 all) (k + 1) (numbered_from (k + 1 + 1) rest))
    (ap (λ (t : List Statement). rule_of catalogue t (numbered_from 1 all) w) front ∙ passes.0)
    (unbroken_from catalogue all (k + 1) (earlier ++ w ∷ []) rest (whole ∙ sym (append_assoc earlier (w ∷ []) rest)) (omega (arith, count, length-append earlier (w ∷ []))) passes.1)

unbroken : (catalogue : List NamedModel) (all : List What) → Passes catalogue (numbered_from 1 all) [] all → first_broken catalogue (numbered_from 1 all) ≡ None
unbroken catalogue all passes = unbroken_from catalogue all 0 [] all refl refl passes

-- ---- what the whole text says

fair_device : (d : ℕ) → IsFair (declares_device d)
fair_device d = fair (declares_device d) refl (λ of n groups. refl) (λ of n group. refl)

fair_group : (g : ℕ) → IsFair (declares_group g)
fair_group g = fair (declares_group g) refl (λ of n groups. refl) (λ of n group. refl)

fair_object : (d n : ℕ) → IsFair (declares_object d n)
fair_object d n = fair (declares_object d n) refl (λ of o groups. refl) (λ of o group. refl)

has_device_same : (d : ℕ) (ss : List Statement) → some_line (declares_device d) (migrated ss) ≡ some_line (declares_device d) ss
has_device_same d ss = any_migrated (declares_device d) (fair_device d) (λ of n group. refl) ss

has_group_same : (g : ℕ) (ss : List Statement) → some_line (declares_group g) (migrated ss) ≡ some_line (declares_group g) ss
has_group_same g ss = any_migrated (declares_group g) (fair_group g) (λ of n group. refl) ss

has_object_same : (d n : ℕ) (ss : List Statement) → some_line (declares_object d n) (migrated ss) ≡ some_line (declares_object d n) ss
has_object_same d n ss = any_migrated (declares_object d n) (fair_object d n) (λ of o group. refl) ss

linked_same : (d n g : ℕ) (ss : List Statement) → some_line (links_to d n g) (migrated ss) ≡ some_line (links_to d n g) ss
linked_same d n g ss = any_migrated (links_to d n g) (fair_links d n g) (λ of o group. refl) ss

model_same : (catalogue : List NamedModel) (d : ℕ) (ss : List Statement) → model_of catalogue (migrated ss) d ≡ model_of catalogue ss d
model_same catalogue d ss = ap (named_model catalogue) (migrated_first (model_in d) (record { version = refl; link = λ of n groups. refl; send = λ of n group. refl }) ss)

size_same : (catalogue : List NamedModel) (d n : ℕ) (ss : List Statement) → size_of catalogue (migrated ss) d n ≡ size_of catalogue ss d n
size_same catalogue d n ss =
    ap (λ (m : Option Model). or_else (size_in_model m n) (first_some (size_in d n) (migrated ss))) (model_same catalogue d ss)
    ∙ ap (or_else (size_in_model (model_of catalogue ss d) n)) (migrated_first (size_in d n) (record { version = refl; link = λ of o groups. refl; send = λ of o group. refl }) ss)

size_of_first_same : (catalogue : List NamedModel) (ss : List Statement) (first : Option (ℕ × ℕ)) → size_of_first catalogue (migrated ss) first ≡ size_of_first catalogue ss first
size_of_first_same catalogue ss None = refl
size_of_first_same catalogue ss (Some first) = size_same catalogue first.0 first.1 ss

differs_same : (catalogue : List NamedModel) (d n : ℕ) (ss : List Statement) (g : GroupAddr) → differs_from_first catalogue (migrated ss) (size_of catalogue (migrated ss) d n) g ≡ differs_from_first catalogue ss (size_of catalogue ss d n) g
differs_same catalogue d n ss g =
    ap (λ (o : Option ℕ). differ o (size_of_first catalogue (migrated ss) (first_linked (migrated ss) g.raw))) (size_same catalogue d n ss)
    ∙ ap (λ (f : Option (ℕ × ℕ)). differ (size_of catalogue ss d n) (size_of_first catalogue (migrated ss) f)) (migrated_linked ss g.raw)
    ∙ ap (differ (size_of catalogue ss d n)) (size_of_first_same catalogue ss (first_linked ss g.raw))

no_object_same : (catalogue : List NamedModel) (d n : ℕ) (ss : List Statement) → asked_of (model_of catalogue (migrated ss) d) (is_no_object (migrated ss) d n) ≡ asked_of (model_of catalogue ss d) (is_no_object ss d n)
no_object_same catalogue d n ss =
    ap (λ (m : Option Model). asked_of m (is_no_object (migrated ss) d n)) (model_same catalogue d ss)
    ∙ ap (λ (b : Bool). asked_of (model_of catalogue ss d) (λ m. not (has_object m n) && not b)) (has_object_same d n ss)

undeclared_same : (ss : List Statement) (g : GroupAddr) → is_undeclared (migrated ss) g ≡ is_undeclared ss g
undeclared_same ss g = ap not (has_group_same g.raw ss)

any_same : {X : Type 0} (p q : X → Bool) (xs : List X) → ((x : X) → p x ≡ q x) → list_any p xs ≡ list_any q xs
any_same p q [] same = refl
any_same p q (x ∷ xs) same = ap (λ (b : Bool). b || list_any p xs) (same x) ∙ ap (λ (b : Bool). q x || b) (any_same p q xs same)

-- ---- a line that stays as it is

-- the lines that stay of those before it
abbrev before_of : List Statement → List Statement
before_of earlier = numbered_from 1 (Version ∷ kept earlier)

same_group : (catalogue : List NamedModel) (ss earlier : List Statement) (group : GroupAddr) (name : List ℕ) → rule_of catalogue (before_of earlier) (migrated ss) (Group group name) ≡ rule_of catalogue earlier ss (Group group name)
unfolding rule_of
same_group catalogue ss earlier group name = ap (λ (b : Bool). cond {A = Option Why} b (Some DuplicateGroup) None) (any_before (declares_group group.raw) (fair_group group.raw) earlier)

same_device : (catalogue : List NamedModel) (ss earlier : List Statement) (device : IndAddr) (model : List ℕ) → rule_of catalogue (before_of earlier) (migrated ss) (Device device model) ≡ rule_of catalogue earlier ss (Device device model)
unfolding rule_of
same_device catalogue ss earlier device model =
    let unknown : Bool = unknown_one in
    ap (λ (b : Bool). cond {A = Option Why} b (Some DuplicateDevice) (cond unknown (Some UnknownModel) (cond (leb 255 (count_lines is_device_line (before_of earlier))) (Some (TooMany 255)) None))) (any_before (declares_device device.raw) (fair_device device.raw) earlier)
    ∙ ap (λ (n : ℕ). cond {A = Option Why} (some_line (declares_device device.raw) earlier) (Some DuplicateDevice) (cond unknown (Some UnknownModel) (cond (leb 255 n) (Some (TooMany 255)) None))) (devices_before earlier)
  where
    unknown_one : Bool
    unknown_one = is_none (model_named catalogue model)

same_object : (catalogue : List NamedModel) (ss earlier : List Statement) (device : IndAddr) (n size flags : ℕ) → rule_of catalogue (before_of earlier) (migrated ss) (Object device n size flags) ≡ rule_of catalogue earlier ss (Object device n size flags)
unfolding rule_of
same_object catalogue ss earlier device n size flags =
    ap (λ (m : Option Model). cond {A = Option Why} (asked_of m (λ m. has_object m n || some_line (declares_object device.raw n) (before_of earlier))) (Some DuplicateObject) (cond (not (some_line (declares_device device.raw) (migrated ss))) (Some NoDevice) None)) (model_same catalogue device.raw ss)
    ∙ ap (λ (b : Bool). cond {A = Option Why} (asked_of (model_of catalogue ss device.raw) (λ m. has_object m n || b)) (Some DuplicateObject) (cond (not (some_line (declares_device device.raw) (migrated ss))) (Some NoDevice) None)) (any_before (declares_object device.raw n) (fair_object device.raw n) earlier)
    ∙ ap (λ (b : Bool). cond {A = Option Why} (asked_of (model_of catalogue ss device.raw) (λ m. has_object m n || some_line (declares_object device.raw n) earlier)) (Some DuplicateObject) (cond (not b) (Some NoDevice) None)) (has_device_same device.raw ss)

same_flags : (catalogue : List NamedModel) (ss earlier : List Statement) (device : IndAddr) (n flags : ℕ) → rule_of catalogue (before_of earlier) (migrated ss) (Flags device n flags) ≡ rule_of catalogue earlier ss (Flags device n flags)
unfolding rule_of
same_flags catalogue ss earlier device n flags =
    ap (λ (b : Bool). cond {A = Option Why} b (Some UnknownObject) (cond (not (some_line (declares_device device.raw) (migrated ss))) (Some NoDevice) None)) (no_object_same catalogue device.raw n ss)
    ∙ ap (λ (b : Bool). cond {A = Option Why} (asked_of (model_of catalogue ss device.raw) (is_no_object ss device.raw n)) (Some UnknownObject) (cond (not b) (Some NoDevice) None)) (has_device_same device.raw ss)

same_param : (catalogue : List NamedModel) (ss earlier : List Statement) (device : IndAddr) (name : List ℕ) (value : ℕ) → rule_of catalogue (before_of earlier) (migrated ss) (Param device name value) ≡ rule_of catalogue earlier ss (Param device name value)
unfolding rule_of
same_param catalogue ss earlier device name value =
    ap (λ (m : Option Model). cond {A = Option Why} (asked_of m (λ m. not (has_field m name))) (Some UnknownParameter) (cond (asked_of m (λ m. is_out_of (field_in m.parameters name) value)) (Some OutOfRange) (cond (not (some_line (declares_device device.raw) (migrated ss))) (Some NoDevice) None))) (model_same catalogue device.raw ss)
    ∙ ap (λ (b : Bool). cond {A = Option Why} (asked_of (model_of catalogue ss device.raw) (λ m. not (has_field m name))) (Some UnknownParameter) (cond (asked_of (model_of catalogue ss device.raw) (λ m. is_out_of (field_in m.parameters name) value)) (Some OutOfRange) (cond (not b) (Some NoDevice) None))) (has_device_same device.raw ss)

title_passes : (catalogue : List NamedModel) (earlier whole : List Statement) (name : List ℕ) → rule_of catalogue earlier whole (Title name) ≡ None
unfolding rule_of
title_passes catalogue earlier whole name = refl

version_passes : (catalogue : List NamedModel) (earlier whole : List Statement) → rule_of catalogue earlier whole Version ≡ None
unfolding rule_of
version_passes catalogue earlier whole = refl

-- ---- a `link` line

passed : {X : Type 0} (b : Bool) (x : X) (rest : Option X) → cond b (Some x) rest ≡ None → (b ≡ false) × (rest ≡ None)
passed false x rest e = (refl, e)
passed true x rest e = absurd cc

record LinkPasses (catalogue : List NamedModel) (earlier whole : List Statement) (device : IndAddr) (n : ℕ) (groups : List GroupAddr) : Type 0 where
  declared : list_any (is_undeclared whole) groups ≡ false
  object : asked_of (model_of catalogue whole device.raw) (is_no_object whole device.raw n) ≡ false
  again : links_again earlier (Link device n groups) ≡ false
  twice : repeats_group groups ≡ false
  sizes : (some_line (declares_device device.raw) whole && list_any (differs_from_first catalogue whole (size_of catalogue whole device.raw n)) groups) ≡ false
  few : count_links device.raw earlier + length groups ≤ 2047
  device_is : some_line (declares_device device.raw) whole ≡ true

link_passes : (catalogue : List NamedModel) (earlier whole : List Statement) (device : IndAddr) (n : ℕ) (groups : List GroupAddr) → rule_of catalogue earlier whole (Link device n groups) ≡ None → LinkPasses catalogue earlier whole device n groups
unfolding rule_of
link_passes catalogue earlier whole device n groups e =
    let e1 = passed (list_any (is_undeclared whole) groups) UnknownGroup _ e in
    let e2 = passed (asked_of (model_of catalogue whole device.raw) (is_no_object whole device.raw n)) UnknownObject _ e1.1 in
    let e3 = passed (links_again earlier (Link device n groups) || repeats_group groups) DuplicateLink _ e2.1 in
    let e4 = passed (some_line (declares_device device.raw) whole && list_any (differs_from_first catalogue whole (size_of catalogue whole device.raw n)) groups) SizeDiffers _ e3.1 in
    let e5 = passed (ltb 2047 (count_links device.raw earlier + length groups)) (TooMany 2047) _ e4.1 in
    let e6 = passed (not (some_line (declares_device device.raw) whole)) NoDevice _ e5.1 in
    let h = or_parts (links_again earlier (Link device n groups)) (repeats_group groups) e3.0 in
    record {
      declared = e1.0;
      object = e2.0;
      again = h.0;
      twice = h.1;
      sizes = e4.0;
      few = ltb-false 2047 (count_links device.raw earlier + length groups) e5.0;
      device_is = not-false (some_line (declares_device device.raw) whole) e6.0;
    }

six : (a b c d e f : Bool) (A B C D E F : Why) → a ≡ false → b ≡ false → c ≡ false → d ≡ false → e ≡ false → f ≡ false
    → cond {A = Option Why} a (Some A) (cond b (Some B) (cond c (Some C) (cond d (Some D) (cond e (Some E) (cond f (Some F) None))))) ≡ None
six a b c d e f A B C D E F ea eb ec ed ee ef = rw (ea, eb, ec, ed, ee, ef) refl

one_link_passes : (catalogue : List NamedModel) (earlier whole : List Statement) (device : IndAddr) (n : ℕ) (x : GroupAddr) → is_undeclared whole x ≡ false → asked_of (model_of catalogue whole device.raw) (is_no_object whole device.raw n) ≡ false
    → some_line (links_to device.raw n x.raw) earlier ≡ false → differs_from_first catalogue whole (size_of catalogue whole device.raw n) x ≡ false → count_links device.raw earlier + 1 ≤ 2047 → some_line (declares_device device.raw) whole ≡ true
    → rule_of catalogue earlier whole (Link device n (x ∷ [])) ≡ None
unfolding rule_of
one_link_passes catalogue earlier whole device n x a b c d e f =
    six (list_any (is_undeclared whole) (x ∷ [])) (asked_of (model_of catalogue whole device.raw) (is_no_object whole device.raw n)) (duplicate_link earlier (Link device n (x ∷ [])))
    (some_line (declares_device device.raw) whole && list_any (differs_from_first catalogue whole (size_of catalogue whole device.raw n)) (x ∷ [])) (ltb 2047 (count_links device.raw earlier + length (x ∷ []))) (not (some_line (declares_device device.raw) whole))
    UnknownGroup UnknownObject DuplicateLink SizeDiffers (TooMany 2047) NoDevice
    (or_from (is_undeclared whole x) false a refl) b (or_from (some_line (links_to device.raw n x.raw) earlier || false) (repeats_group (x ∷ [])) (or_from (some_line (links_to device.raw n x.raw) earlier) false c refl) refl)
    (rw (d, f) refl) (le-ltb 2047 (count_links device.raw earlier + length (x ∷ [])) (omega (arith, e))) (rw f refl)

-- none of the groups is linked by the lines before
abbrev NoneLinked : IndAddr → ℕ → List What → List GroupAddr → Type 0
NoneLinked device n earlier groups = list_any (λ g. some_line (links_to device.raw n g.raw) (numbered_from 1 earlier)) groups ≡ false

still_unlinked : (device : IndAddr) (n : ℕ) (earlier : List What) (x y : GroupAddr) → some_line (links_to device.raw n y.raw) (numbered_from 1 earlier) ≡ false → eqb y.raw x.raw ≡ false → some_line (links_to device.raw n y.raw) (numbered_from 1 (earlier ++ link_to_one device n x ∷ [])) ≡ false
still_unlinked device n earlier x y none apart =
    let away : eqb x.raw y.raw ≡ false = elim (cases_Bool (eqb x.raw y.raw)) [
      | inl same ↦ absurd (false≢true (sym apart ∙ eq-eqb y.raw x.raw (sym (eqb-true x.raw y.raw same))))
      | inr other ↦ other
    ] in
    any_numbered (links_to device.raw n y.raw) 1 (earlier ++ link_to_one device n x ∷ [])
    ∙ list_any-append (links_to device.raw n y.raw) earlier (link_to_one device n x ∷ [])
    ∙ or_from (list_any (links_to device.raw n y.raw) earlier) _ (sym (any_numbered (links_to device.raw n y.raw) 1 earlier) ∙ none) (rw (away, eq-eqb device.raw device.raw refl, eq-eqb n n refl) refl)

none_linked_more : (device : IndAddr) (n : ℕ) (earlier : List What) (x : GroupAddr) (groups : List GroupAddr) → NoneLinked device n earlier groups → has_group x.raw groups ≡ false → NoneLinked device n (earlier ++ link_to_one device n x ∷ []) groups
none_linked_more device n earlier x [] none apart = refl
none_linked_more device n earlier x (y ∷ groups) none apart =
    let h = or_parts (some_line (links_to device.raw n y.raw) (numbered_from 1 earlier)) (list_any (λ g. some_line (links_to device.raw n g.raw) (numbered_from 1 earlier)) groups) none in
    let k = or_parts (eqb y.raw x.raw) (has_group x.raw groups) apart in
    or_from _ _ (still_unlinked device n earlier x y h.0 k.0) (none_linked_more device n earlier x groups h.1 k.1)

one_more_link : (device : IndAddr) (n : ℕ) (earlier : List What) (x : GroupAddr) → count_links device.raw (numbered_from 1 (earlier ++ link_to_one device n x ∷ [])) ≡ count_links device.raw (numbered_from 1 earlier) + 1
one_more_link device n earlier x =
    let here : links_of_device device.raw (link_to_one device n x) ≡ 1 = rw (eq-eqb device.raw device.raw refl) refl in
    omega (arith, sum_more (links_of_device device.raw) 1 earlier (link_to_one device n x), here)

links_pass : (catalogue : List NamedModel) (whole : List Statement) (device : IndAddr) (n : ℕ) (earlier : List What) (groups : List GroupAddr) → list_any (is_undeclared whole) groups ≡ false → asked_of (model_of catalogue whole device.raw) (is_no_object whole device.raw n) ≡ false
    → NoneLinked device n earlier groups → repeats_group groups ≡ false → list_any (differs_from_first catalogue whole (size_of catalogue whole device.raw n)) groups ≡ false → count_links device.raw (numbered_from 1 earlier) + length groups ≤ 2047 → some_line (declares_device device.raw) whole ≡ true
    → Passes catalogue whole earlier (map (link_to_one device n) groups)
links_pass catalogue whole device n earlier [] declared object none twice sizes few device_is = tt
links_pass catalogue whole device n earlier (x ∷ groups) declared object none twice sizes few device_is =
    let a = or_parts (is_undeclared whole x) (list_any (is_undeclared whole) groups) declared in
    let b = or_parts (some_line (links_to device.raw n x.raw) (numbered_from 1 earlier)) (list_any (λ g. some_line (links_to device.raw n g.raw) (numbered_from 1 earlier)) groups) none in
    let c = or_parts (has_group x.raw groups) (repeats_group groups) twice in
    let d = or_parts (differs_from_first catalogue whole (size_of catalogue whole device.raw n) x) (list_any (differs_from_first catalogue whole (size_of catalogue whole device.raw n)) groups) sizes in (
      one_link_passes catalogue (numbered_from 1 earlier) whole device n x a.0 object b.0 d.0 (omega (arith, few)) device_is,
      links_pass catalogue whole device n (earlier ++ link_to_one device n x ∷ []) groups a.1 object (none_linked_more device n earlier x groups b.1 c.0) c.1 d.1 (omega (arith, few, one_more_link device n earlier x)) device_is,
    )

and_true : (a b : Bool) → a ≡ true → (a && b) ≡ false → b ≡ false
and_true true b e h = h
and_true false b e h = absurd cc

link_line_passes : (catalogue : List NamedModel) (ss earlier : List Statement) (device : IndAddr) (n : ℕ) (groups : List GroupAddr) → rule_of catalogue earlier ss (Link device n groups) ≡ None → Passes catalogue (migrated ss) (Version ∷ kept earlier) (map (link_to_one device n) groups)
link_line_passes catalogue ss earlier device n groups e =
    let is = link_passes catalogue earlier ss device n groups e in
    links_pass catalogue (migrated ss) device n (Version ∷ kept earlier) groups
    (any_same (is_undeclared (migrated ss)) (is_undeclared ss) groups (undeclared_same ss) ∙ is.declared)
    (no_object_same catalogue device.raw n ss ∙ is.object)
    (any_same (λ g. some_line (links_to device.raw n g.raw) (before_of earlier)) (λ g. some_line (links_to device.raw n g.raw) earlier) groups (λ g. any_before (links_to device.raw n g.raw) (fair_links device.raw n g.raw) earlier) ∙ is.again)
    is.twice
    (any_same (differs_from_first catalogue (migrated ss) (size_of catalogue (migrated ss) device.raw n)) (differs_from_first catalogue ss (size_of catalogue ss device.raw n)) groups (differs_same catalogue device.raw n ss)
    ∙ and_true (some_line (declares_device device.raw) ss) (list_any (differs_from_first catalogue ss (size_of catalogue ss device.raw n)) groups) is.device_is is.sizes)
    (omega (arith, is.few, links_before device.raw earlier))
    (has_device_same device.raw ss ∙ is.device_is)

-- ---- all lines that stay

line_passes : (catalogue : List NamedModel) (ss earlier : List Statement) (w : What) → rule_of catalogue earlier ss w ≡ None → Passes catalogue (migrated ss) (Version ∷ kept earlier) (one_by_one w)
line_passes catalogue ss earlier Version e = tt
line_passes catalogue ss earlier (Title name) e = (title_passes catalogue (before_of earlier) (migrated ss) name, tt)
line_passes catalogue ss earlier (Group group name) e = (same_group catalogue ss earlier group name ∙ e, tt)
line_passes catalogue ss earlier (Device device model) e = (same_device catalogue ss earlier device model ∙ e, tt)
line_passes catalogue ss earlier (Object device n size flags) e = (same_object catalogue ss earlier device n size flags ∙ e, tt)
line_passes catalogue ss earlier (Link device n groups) e = link_line_passes catalogue ss earlier device n groups e
line_passes catalogue ss earlier (Send device n group) e = tt
line_passes catalogue ss earlier (Flags device n flags) e = (same_flags catalogue ss earlier device n flags ∙ e, tt)
line_passes catalogue ss earlier (Param device name value) e = (same_param catalogue ss earlier device name value ∙ e, tt)

kept_more : (earlier : List Statement) (s : Statement) → kept (earlier ++ s ∷ []) ≡ kept earlier ++ one_by_one s.what
unfolding kept
kept_more earlier s = flat_map-append (λ s. one_by_one s.what) earlier (s ∷ []) ∙ ap (λ (t : List What). flat_map (λ s. one_by_one s.what) earlier ++ t) (append-nil (one_by_one s.what))

kept_cons : (s : Statement) (rest : List Statement) → one_by_one s.what ++ kept rest ≡ kept (s ∷ rest)
unfolding kept
kept_cons s rest = refl

kept_nil : kept [] ≡ []
unfolding kept
kept_nil = refl

kept_pass : (catalogue : List NamedModel) (ss earlier rest : List Statement) → Sound catalogue ss earlier rest → Passes catalogue (migrated ss) (Version ∷ kept earlier) (kept rest)
kept_pass catalogue ss earlier [] sound = subst (λ (t : List What). Passes catalogue (migrated ss) (Version ∷ kept earlier) t) (sym kept_nil) tt
kept_pass catalogue ss earlier (s ∷ rest) sound =
    subst (λ (t : List What). Passes catalogue (migrated ss) (Version ∷ kept earlier) t) (kept_cons s rest)
    (passes_both catalogue (migrated ss) (Version ∷ kept earlier) (one_by_one s.what) (kept rest) (line_passes catalogue ss earlier s.what sound.0)
    (subst (λ (t : List What). Passes catalogue (migrated ss) (Version ∷ t) (kept rest)) (kept_more earlier s) (kept_pass catalogue ss (earlier ++ s ∷ []) rest sound.1)))

-- ---- the `send` lines

in_whole : (t : What → Bool) (earlier rest : List Statement) (s : Statement) → t s.what ≡ true → some_line t (earlier ++ s ∷ rest) ≡ true
in_whole t earlier rest s here = list_any-append (λ s. t s.what) earlier (s ∷ rest) ∙ or_right (some_line t earlier) (some_line t (s ∷ rest)) (or_left (t s.what) (some_line t rest) here)

-- an object that the text links to a group
record IsSoundLink (catalogue : List NamedModel) (ss : List Statement) (device : IndAddr) (line : ℕ × GroupAddr) : Type 0 where
  declared : is_undeclared ss line.1 ≡ false
  object : asked_of (model_of catalogue ss device.raw) (is_no_object ss device.raw line.0) ≡ false
  device_is : some_line (declares_device device.raw) ss ≡ true
  linked : some_line (links_to device.raw line.0 line.1.raw) ss ≡ true

groups_sound : (catalogue : List NamedModel) (ss : List Statement) (device : IndAddr) (n : ℕ) (all groups : List GroupAddr) → ((g : ℕ) → has_group g groups ≡ true → has_group g all ≡ true) → ((g : ℕ) → has_group g all ≡ true → some_line (links_to device.raw n g) ss ≡ true)
    → list_any (is_undeclared ss) groups ≡ false → asked_of (model_of catalogue ss device.raw) (is_no_object ss device.raw n) ≡ false → some_line (declares_device device.raw) ss ≡ true → All (IsSoundLink catalogue ss device) (map (link_to n) groups)
groups_sound catalogue ss device n all [] among linked declared object device_is = All-nil (IsSoundLink catalogue ss device)
groups_sound catalogue ss device n all (x ∷ groups) among linked declared object device_is =
    let h = or_parts (is_undeclared ss x) (list_any (is_undeclared ss) groups) declared in
    let here : has_group x.raw (x ∷ groups) ≡ true = or_left (eqb x.raw x.raw) (has_group x.raw groups) (eq-eqb x.raw x.raw refl) in
    All-cons (IsSoundLink catalogue ss device) (link_to n x) (map (link_to n) groups)
    (record { declared = h.0; object = object; device_is = device_is; linked = linked x.raw (among x.raw here) })
    (groups_sound catalogue ss device n all groups (λ g is. among g (or_right (eqb x.raw g) (has_group g groups) is)) linked h.1 object device_is)

said_sound : (catalogue : List NamedModel) (ss earlier : List Statement) (device : IndAddr) (w : What) → ((t : What → Bool) → t w ≡ true → some_line t ss ≡ true) → rule_of catalogue earlier ss w ≡ None → All (IsSoundLink catalogue ss device) (links_said device w)
said_sound catalogue ss earlier device Version there e = All-nil (IsSoundLink catalogue ss device)
said_sound catalogue ss earlier device (Title name) there e = All-nil (IsSoundLink catalogue ss device)
said_sound catalogue ss earlier device (Group group name) there e = All-nil (IsSoundLink catalogue ss device)
said_sound catalogue ss earlier device (Device of model) there e = All-nil (IsSoundLink catalogue ss device)
said_sound catalogue ss earlier device (Object of n size flags) there e = All-nil (IsSoundLink catalogue ss device)
said_sound catalogue ss earlier device (Link of n groups) there e = by (eqb of.raw device.raw) refl
  where
    by : (b : Bool) → eqb of.raw device.raw ≡ b → All (IsSoundLink catalogue ss device) (cond b (map (link_to n) groups) [])
    by false q = All-nil (IsSoundLink catalogue ss device)
    by true q =
        let same : of ≡ device = ap (λ (r : ℕ). let i : IndAddr = record { raw = r } in i) (eqb-true of.raw device.raw q) in
        let is : LinkPasses catalogue earlier ss device n groups = subst (λ (d : IndAddr). LinkPasses catalogue earlier ss d n groups) same (link_passes catalogue earlier ss of n groups e) in
        groups_sound catalogue ss device n groups groups (λ g has. has)
        (λ g has. there (links_to device.raw n g) (and_from (eqb of.raw device.raw && eqb n n) (has_group g groups) (and_from (eqb of.raw device.raw) (eqb n n) q (eq-eqb n n refl)) has))
        is.declared is.object is.device_is
said_sound catalogue ss earlier device (Send of n group) there e = All-nil (IsSoundLink catalogue ss device)
said_sound catalogue ss earlier device (Flags of n flags) there e = All-nil (IsSoundLink catalogue ss device)
said_sound catalogue ss earlier device (Param of name value) there e = All-nil (IsSoundLink catalogue ss device)

lines_sound : (catalogue : List NamedModel) (ss earlier rest : List Statement) (device : IndAddr) → ss ≡ earlier ++ rest → Sound catalogue ss earlier rest → All (IsSoundLink catalogue ss device) (link_lines device rest)
lines_sound catalogue ss earlier [] device all sound = All-nil (IsSoundLink catalogue ss device)
lines_sound catalogue ss earlier (s ∷ rest) device all sound =
    All-append (IsSoundLink catalogue ss device) (links_said device s.what) (link_lines device rest)
    (said_sound catalogue ss earlier device s.what (λ t here. ap (some_line t) all ∙ in_whole t earlier rest s here) sound.0)
    (lines_sound catalogue ss (earlier ++ s ∷ []) rest device (all ∙ sym (append_assoc earlier (s ∷ []) rest)) sound.1)

-- a group that an object sends to
record IsSoundSend (ss : List Statement) (device : IndAddr) (n : ℕ) (group : GroupAddr) : Type 0 where
  declared : is_undeclared ss group ≡ false
  linked : some_line (links_to device.raw n group.raw) ss ≡ true

abbrev Sends : List Statement → IndAddr → ℕ → Option GroupAddr → Type 0
Sends ss device n None = Unit {0}
Sends ss device n (Some group) = IsSoundSend ss device n group

send_line_sound : (catalogue : List NamedModel) (earlier ss : List Statement) (device : IndAddr) (n : ℕ) (group : GroupAddr) → rule_of catalogue earlier ss (Send device n group) ≡ None → IsSoundSend ss device n group
unfolding rule_of
send_line_sound catalogue earlier ss device n group e =
    let e1 = passed (is_undeclared ss group) UnknownGroup _ e in
    let e2 = passed (asked_of (model_of catalogue ss device.raw) (is_no_object ss device.raw n)) UnknownObject _ e1.1 in
    let e3 = passed (not (some_line (declares_device device.raw) ss)) NoDevice _ e2.1 in
    let e4 = passed (not (some_line (links_to device.raw n group.raw) ss)) NotLinked _ e3.1 in
    record { declared = e1.0; linked = not-false (some_line (links_to device.raw n group.raw) ss) e4.0 }

sent_sound : (catalogue : List NamedModel) (earlier ss : List Statement) (device : IndAddr) (n : ℕ) (w : What) → rule_of catalogue earlier ss w ≡ None → Sends ss device n (send_line device n w)
sent_sound catalogue earlier ss device n Version e = tt
sent_sound catalogue earlier ss device n (Title name) e = tt
sent_sound catalogue earlier ss device n (Group group name) e = tt
sent_sound catalogue earlier ss device n (Device of model) e = tt
sent_sound catalogue earlier ss device n (Object of o size flags) e = tt
sent_sound catalogue earlier ss device n (Link of o groups) e = tt
sent_sound catalogue earlier ss device n (Send of o group) e = by (eqb of.raw device.raw && eqb o n) refl
  where
    by : (b : Bool) → (eqb of.raw device.raw && eqb o n) ≡ b → Sends ss device n (cond b (Some group) None)
    by false q = tt
    by true q =
        let h = and_parts (eqb of.raw device.raw) (eqb o n) q in
        let there : of ≡ device = ap (λ (r : ℕ). let i : IndAddr = record { raw = r } in i) (eqb-true of.raw device.raw h.0) in
        let is : IsSoundSend ss device o group = subst (λ (d : IndAddr). IsSoundSend ss d o group) there (send_line_sound catalogue earlier ss of o group e) in
        subst (λ (m : ℕ). IsSoundSend ss device m group) (eqb-true o n h.1) is
sent_sound catalogue earlier ss device n (Flags of o flags) e = tt
sent_sound catalogue earlier ss device n (Param of name value) e = tt

last_sound : (catalogue : List NamedModel) (ss earlier rest : List Statement) (device : IndAddr) (n : ℕ) (o : Option GroupAddr) → Sound catalogue ss earlier rest → Sends ss device n o → Sends ss device n (last_or o (filter_map (λ s. send_line device n s.what) rest))
last_sound catalogue ss earlier [] device n o sound is = is
last_sound catalogue ss earlier (s ∷ rest) device n o sound is = by (send_line device n s.what) (sent_sound catalogue earlier ss device n s.what sound.0) (λ p. last_sound catalogue ss (earlier ++ s ∷ []) rest device n p sound.1)
  where
    by : (p : Option GroupAddr) → Sends ss device n p → ((q : Option GroupAddr) → Sends ss device n q → Sends ss device n (last_or q (filter_map (λ s. send_line device n s.what) rest))) → Sends ss device n (last_or o (cons_option p (filter_map (λ s. send_line device n s.what) rest)))
    by None here later = later o is
    by (Some group) here later = later (Some group) here

first_sound : (catalogue : List NamedModel) (ss : List Statement) (device : IndAddr) (n : ℕ) (group : GroupAddr) (lines : List (ℕ × GroupAddr)) → All (IsSoundLink catalogue ss device) lines → first_group lines n ≡ Some group → IsSoundLink catalogue ss device (n, group)
first_sound catalogue ss device n group [] sound e = absurd cc
first_sound catalogue ss device n group (line ∷ lines) sound e = by (eqb line.0 n) refl e (first_sound catalogue ss device n group lines (All-tail (IsSoundLink catalogue ss device) line lines sound))
  where
    by : (b : Bool) → eqb line.0 n ≡ b → cond b (Some line.1) (first_group lines n) ≡ Some group → (first_group lines n ≡ Some group → IsSoundLink catalogue ss device (n, group)) → IsSoundLink catalogue ss device (n, group)
    by true same e later =
        let is = All-head (IsSoundLink catalogue ss device) line lines sound in
        let there : line ≡ (n, group) = ap (λ (m : ℕ). let p : ℕ × GroupAddr = (m, line.1) in p) (eqb-true line.0 n same) ∙ ap (λ (g : GroupAddr). let p : ℕ × GroupAddr = (n, g) in p) (same_Some line.1 group e) in
        subst (IsSoundLink catalogue ss device) there is
    by false same e later = later e

four : (a b c d : Bool) (A B C D : Why) → a ≡ false → b ≡ false → c ≡ false → d ≡ false → cond {A = Option Why} a (Some A) (cond b (Some B) (cond c (Some C) (cond d (Some D) None))) ≡ None
four a b c d A B C D ea eb ec ed = rw (ea, eb, ec, ed) refl

send_passes : (catalogue : List NamedModel) (earlier ss : List Statement) (device : IndAddr) (n : ℕ) (first group : GroupAddr) → IsSoundLink catalogue ss device (n, first) → IsSoundSend ss device n group → rule_of catalogue earlier (migrated ss) (Send device n group) ≡ None
unfolding rule_of
send_passes catalogue earlier ss device n first group is sends =
    four (is_undeclared (migrated ss) group) (asked_of (model_of catalogue (migrated ss) device.raw) (is_no_object (migrated ss) device.raw n)) (not (some_line (declares_device device.raw) (migrated ss))) (not (some_line (links_to device.raw n group.raw) (migrated ss)))
    UnknownGroup UnknownObject NoDevice NotLinked
    (undeclared_same ss group ∙ sends.declared) (no_object_same catalogue device.raw n ss ∙ is.object)
    (ap not (has_device_same device.raw ss ∙ is.device_is)) (ap not (linked_same device.raw n group.raw ss ∙ sends.linked))

sending_passes : (catalogue : List NamedModel) (ss : List Statement) (device : IndAddr) (n : ℕ) (last first : Option GroupAddr) (w : What) → ((g : GroupAddr) → first ≡ Some g → IsSoundLink catalogue ss device (n, g)) → Sends ss device n last → send_by device n first (option_or last first) ≡ Some w
    → (earlier : List Statement) → rule_of catalogue earlier (migrated ss) w ≡ None
sending_passes catalogue ss device n last None w has sends e earlier = absurd cc
sending_passes catalogue ss device n None (Some x) w has sends e earlier =
    let is = has x refl in
    subst (λ (w : What). rule_of catalogue earlier (migrated ss) w ≡ None) (same_Some (Send device n x) w e) (send_passes catalogue earlier ss device n x x is (record { declared = is.declared; linked = is.linked }))
sending_passes catalogue ss device n (Some g) (Some x) w has sends e earlier =
    subst (λ (w : What). rule_of catalogue earlier (migrated ss) w ≡ None) (same_Some (Send device n g) w e) (send_passes catalogue earlier ss device n x g (has x refl) sends)

send_of_passes : (catalogue : List NamedModel) (ss : List Statement) (device : IndAddr) (n : ℕ) (w : What) → Sound catalogue ss [] ss → send_of ss device n ≡ Some w → (earlier : List Statement) → rule_of catalogue earlier (migrated ss) w ≡ None
send_of_passes catalogue ss device n w sound e earlier =
    sending_passes catalogue ss device n (last_send device ss n) (first_group (link_lines device ss) n) w
    (λ g is. first_sound catalogue ss device n g (link_lines device ss) (lines_sound catalogue ss [] ss device refl sound) is)
    (last_sound catalogue ss [] ss device n None sound tt) e earlier

pass_found : (catalogue : List NamedModel) (whole : List Statement) (earlier : List What) (o : Option What) (rest : List What) → ((w : What) → o ≡ Some w → (e : List Statement) → rule_of catalogue e whole w ≡ None) → ((e : List What) → Passes catalogue whole e rest)
    → Passes catalogue whole earlier (cons_option o rest)
pass_found catalogue whole earlier None rest each later = later earlier
pass_found catalogue whole earlier (Some w) rest each later = (each w refl (numbered_from 1 earlier), later (earlier ++ w ∷ []))

all_pass : (catalogue : List NamedModel) (whole : List Statement) (h : ℕ → Option What) (ks : List ℕ) → ((k : ℕ) (w : What) → h k ≡ Some w → (e : List Statement) → rule_of catalogue e whole w ≡ None) → (earlier : List What) → Passes catalogue whole earlier (filter_map h ks)
all_pass catalogue whole h [] each earlier = tt
all_pass catalogue whole h (k ∷ ks) each earlier = pass_found catalogue whole earlier (h k) (filter_map h ks) (each k) (all_pass catalogue whole h ks each)

sends_pass_below : (catalogue : List NamedModel) (ss : List Statement) (most : ℕ) → Sound catalogue ss [] ss → (earlier : List What) → Passes catalogue (migrated ss) earlier (sends_below most ss)
unfolding sends_below
sends_pass_below catalogue ss most sound earlier =
    all_pass catalogue (migrated ss) (λ k. send_of ss (device_at k) (object_at k)) (range_with_len 0 most) (λ k w e. send_of_passes catalogue ss (device_at k) (object_at k) w sound e) earlier

sends_pass : (catalogue : List NamedModel) (ss : List Statement) → Sound catalogue ss [] ss → (earlier : List What) → Passes catalogue (migrated ss) earlier (sends ss)
unfolding sends
sends_pass catalogue ss sound earlier = sends_pass_below catalogue ss 16777216 sound earlier

-- ---- the whole

all_lines_pass : (catalogue : List NamedModel) (ss : List Statement) → Sound catalogue ss [] ss → Passes catalogue (migrated ss) (Version ∷ []) (kept ss ++ sends ss)
all_lines_pass catalogue ss sound =
    passes_both catalogue (migrated ss) (Version ∷ []) (kept ss) (sends ss)
    (subst (λ (t : List What). Passes catalogue (migrated ss) (Version ∷ t) (kept ss)) kept_nil (kept_pass catalogue ss [] ss sound))
    (sends_pass catalogue ss sound ((Version ∷ []) ++ kept ss))

pub migrated_sound : (catalogue : List NamedModel) (ss : List Statement) → first_broken catalogue ss ≡ None → first_broken catalogue (migrated ss) ≡ None
unfolding migrated
migrated_sound catalogue ss e =
    let sound = sound_all catalogue ss e in
    unbroken catalogue ((Version ∷ kept ss) ++ sends ss) (version_passes catalogue [] (migrated ss), all_lines_pass catalogue ss sound)

pub made_sound : (ss made : List Statement) → made ≡ migrated ss → (catalogue : List NamedModel) → first_broken catalogue ss ≡ None → first_broken catalogue made ≡ None
made_sound ss made is catalogue e = ap (first_broken catalogue) is ∙ migrated_sound catalogue ss e
