-- What the lines of a device say, one line later.
use Rattle.std.proofs.Common.{◌≡◌, ℕ, ◌<◌, ◌++◌, Bool, true, false, cond, eqb, bytes_eq, List, [], ◌∷◌, length, get_or, set, take, map, Option, Some, None, refl, sym, ap, ◌∙◌, subst, arith, inl, inr}
use Rattle.std.specs.Borrow.{Bor}
use Rattle.std.specs.BTreeMap.{BTreeMap}
use Rattle.std.specs.List.{cons_option, filter_map, last_or, list_any}
use Rattle.std.specs.List.Sorted.{IsStrictlyIncreasing}
use Rattle.std.specs.Option.{option_or}
use Rattle.std.proofs.lemmas.Bool.{eqb-true, cases_eq, cases_lt, false_from_ne_true, false≢true}
use Rattle.std.proofs.lemmas.List.{append-nil, get_or-set_same, get_or-set_other, length-set, get_or-map, length-map, take-append-le, take_all}
use Rattle.std.proofs.lemmas.List.Elements.{filter_map-append}
use Rattle.std.proofs.lemmas.List.Folds.{list_any_at}
use Rattle.std.proofs.lemmas.List.Kept.{AllPairs-from_increasing}
use Rattle.knx_model.specs.declared.address.IndAddr.{IndAddr}
use Rattle.knx_model.specs.declared.project.Statement.{Statement}
use Rattle.knx_model.specs.declared.project.What.{What}
use Rattle.knx_model.specs.declared.project.What.TheVariants.{Version, Title, Group, Device, Object, Link, Send, Flags, Param}
use Rattle.knx_model.specs.Meaning.{links_said, send_line, object_line, flags_line, param_line}
use Rattle.knx_model.specs.Rules.{model_in}
use Rattle.project_check.specs.Devices.{raw_of}
use Rattle.project_check.proofs.Steps.{first_more}
use Rattle.table_compiler.specs.Drafts.{names, text_of, Adds, IsDraft, AreDrafts}
use Rattle.table_compiler.specs.Settings.{value_in}
use Rattle.table_compiler.proofs.LinksMore.{links_more}
use Rattle.table_compiler.specs.declared.drafts.Draft.{Draft}

-- ---- a line that doesn't name the device says nothing of it

no_link : (device : IndAddr) (what : What) → names device.raw what ≡ false → links_said device what ≡ []
no_link device (Title name) e = refl
no_link device (Group group name) e = refl
no_link device (Device of model) e = refl
no_link device (Object of n size flags) e = refl
no_link device (Link of object groups) e = rw e refl
no_link device Version e = refl
no_link device (Send of object group) e = refl
no_link device (Flags of object flags) e = refl
no_link device (Param of name value) e = refl

no_object : (device : IndAddr) (what : What) → names device.raw what ≡ false → object_line device what ≡ None
no_object device (Title name) e = refl
no_object device (Group group name) e = refl
no_object device (Device of model) e = refl
no_object device (Object of n size flags) e = rw e refl
no_object device (Link of object groups) e = refl
no_object device Version e = refl
no_object device (Send of object group) e = refl
no_object device (Flags of object flags) e = refl
no_object device (Param of name value) e = refl

no_flags : (device : IndAddr) (n : ℕ) (what : What) → names device.raw what ≡ false → flags_line device n what ≡ None
no_flags device n (Title name) e = refl
no_flags device n (Group group name) e = refl
no_flags device n (Device of model) e = refl
no_flags device n (Object of m size flags) e = refl
no_flags device n (Link of object groups) e = refl
no_flags device n Version e = refl
no_flags device n (Send of object group) e = refl
no_flags device n (Flags of object flags) e = rw e refl
no_flags device n (Param of name value) e = refl

no_send : (device : IndAddr) (n : ℕ) (what : What) → names device.raw what ≡ false → send_line device n what ≡ None
no_send device n Version e = refl
no_send device n (Title name) e = refl
no_send device n (Group group name) e = refl
no_send device n (Device of model) e = refl
no_send device n (Object of m size flags) e = refl
no_send device n (Link of object groups) e = refl
no_send device n (Send of object group) e = rw e refl
no_send device n (Flags of object flags) e = refl
no_send device n (Param of name value) e = refl

no_param : (device : IndAddr) (parameter : List ℕ) (what : What) → names device.raw what ≡ false → param_line device parameter what ≡ None
no_param device parameter (Title name) e = refl
no_param device parameter (Group group name) e = refl
no_param device parameter (Device of model) e = refl
no_param device parameter (Object of n size flags) e = refl
no_param device parameter (Link of object groups) e = refl
no_param device parameter Version e = refl
no_param device parameter (Send of object group) e = refl
no_param device parameter (Flags of object flags) e = refl
no_param device parameter (Param of name value) e = rw e refl

no_model : (d : ℕ) (what : What) → names d what ≡ false → model_in d what ≡ None
no_model d (Title name) e = refl
no_model d (Group group name) e = refl
no_model d (Device of model) e = rw e refl
no_model d (Object of n size flags) e = refl
no_model d (Link of object groups) e = refl
no_model d Version e = refl
no_model d (Send of object group) e = refl
no_model d (Flags of object flags) e = refl
no_model d (Param of name value) e = refl

or_none : {X : Type 0} (o : Option X) → o ≡ option_or o None
or_none None = refl
or_none (Some x) = refl

no_more : {X : Type 0} (xs : List X) → xs ≡ xs ++ []
no_more xs = sym (append-nil xs)

pub adds_nothing : (device : IndAddr) (what : What) (draft : Draft) → names device.raw what ≡ false → Adds device what draft draft
adds_nothing device what draft other = record {
  model = rw (no_model device.raw what other) (or_none (text_of draft.model));
  objects = rw (no_object device what other) (no_more draft.objects.items);
  flags = λ n lt. rw (no_flags device n what other) refl;
  links = rw (no_link device what other) (no_more draft.links.items);
  sends = λ n lt. rw (no_send device n what other) refl;
  values = λ name. rw (no_param device name what other) refl;
}

-- ---- what a `param` line of the device adds

or_said : {X : Type 0} (same : Bool) (x : X) (old : Option X) → cond same (Some x) old ≡ option_or (cond same (Some x) None) old
or_said true x old = refl
or_said false x old = refl

pub adds_value : (device of : IndAddr) (name : List ℕ) (value : ℕ) (old : Draft) (values : BTreeMap (Bor (List ℕ)) ℕ) → eqb of.raw device.raw ≡ true
    → ((q : List ℕ) → value_in values q ≡ cond (bytes_eq name q) (Some value) (value_in old.values q)) → Adds device (Param of name value) old (record old { values = values })
adds_value device of name value old values named is = record {
  model = or_none (text_of old.model);
  objects = no_more old.objects.items;
  flags = λ n lt. refl;
  links = no_more old.links.items;
  sends = λ n lt. refl;
  values = λ parameter. rw named (is parameter ∙ or_said (bytes_eq name parameter) value (value_in old.values parameter));
}

-- ---- one line more

last_of_more : {X : Type 0} (o : Option X) (xs : List X) (p : Option X) → last_or o (xs ++ cons_option p []) ≡ option_or p (last_or o xs)
last_of_more o [] None = refl
last_of_more o [] (Some x) = refl
last_of_more o (y ∷ xs) p = last_of_more (Some y) xs p

module _ {X : Type 0} (f : What → Option X) where
  told_more : (ss : List Statement) (s : Statement) → filter_map (λ s. f s.what) (ss ++ s ∷ []) ≡ filter_map (λ s. f s.what) ss ++ cons_option (f s.what) []
  told_more ss s = filter_map-append (λ s. f s.what) ss (s ∷ [])

  last_more : (ss : List Statement) (s : Statement) → last_or None (filter_map (λ s. f s.what) (ss ++ s ∷ [])) ≡ option_or (f s.what) (last_or None (filter_map (λ s. f s.what) ss))
  last_more ss s = ap (last_or None) (told_more ss s) ∙ last_of_more None (filter_map (λ s. f s.what) ss) (f s.what)

pub one_more : (device : IndAddr) (old new : Draft) (ss : List Statement) (s : Statement) → Adds device s.what old new → IsDraft device old ss → IsDraft device new (ss ++ s ∷ [])
one_more device old new ss s adds is = record {
  model = adds.model ∙ ap (λ o. option_or o (model_in device.raw s.what)) is.model ∙ sym (first_more (model_in device.raw) ss s);
  objects = adds.objects ∙ ap (λ xs. xs ++ cons_option (object_line device s.what) []) is.objects ∙ sym (told_more (object_line device) ss s);
  flags = λ n lt. adds.flags n lt ∙ ap (option_or (flags_line device n s.what)) (is.flags n lt) ∙ sym (last_more (flags_line device n) ss s);
  links = adds.links ∙ ap (λ xs. xs ++ links_said device s.what) is.links ∙ sym (links_more device ss s);
  sends = λ n lt. adds.sends n lt ∙ ap (option_or (send_line device n s.what)) (is.sends n lt) ∙ sym (last_more (send_line device n) ss s);
  values = λ name. adds.values name ∙ ap (option_or (param_line device name s.what)) (is.values name) ∙ sym (last_more (param_line device name) ss s);
}

pub nothing_more : (device : IndAddr) (draft : Draft) (ss : List Statement) (s : Statement) → names device.raw s.what ≡ false → IsDraft device draft ss → IsDraft device draft (ss ++ s ∷ [])
nothing_more device draft ss s other is = one_more device draft draft ss s (adds_nothing device s.what draft other) is

-- what is written back over all of a list
pub written_back : {X : Type 0} (n : ℕ) (new old : List X) → length new ≡ n → take n (new ++ old) ≡ new
written_back n new old e = take-append-le n new old (omega arith) ∙ take_all n new (omega arith)

-- ---- of several devices

-- a statement names at most one device
names_one : (d e : ℕ) (what : What) → names d what ≡ true → names e what ≡ true → d ≡ e
names_one d e (Title name) p q = absurd (cc)
names_one d e (Group group name) p q = absurd (cc)
names_one d e (Device of model) p q = sym (eqb-true of.raw d p) ∙ eqb-true of.raw e q
names_one d e (Object of n size flags) p q = sym (eqb-true of.raw d p) ∙ eqb-true of.raw e q
names_one d e (Link of object groups) p q = sym (eqb-true of.raw d p) ∙ eqb-true of.raw e q
names_one d e Version p q = absurd (cc)
names_one d e (Send of object group) p q = sym (eqb-true of.raw d p) ∙ eqb-true of.raw e q
names_one d e (Flags of object flags) p q = sym (eqb-true of.raw d p) ∙ eqb-true of.raw e q
names_one d e (Param of name value) p q = sym (eqb-true of.raw d p) ∙ eqb-true of.raw e q

-- ascending devices at two places differ
apart : (devices : List IndAddr) (i k : ℕ) (d e : IndAddr) → IsStrictlyIncreasing (map raw_of devices) → i < length devices → k < length devices → (i ≡ k → ⊥) → (get_or devices i d).raw ≡ (get_or devices k e).raw → ⊥
apart devices i k d e up lt lt' ne same =
    let one = get_or-map raw_of devices i d 0 lt in
    let other = get_or-map raw_of devices k e 0 lt' in
    let long = length-map devices raw_of in
    elim (cases_lt i k) [
      | inl below ↦ (let within : k < length (map raw_of devices) = omega arith in let h = AllPairs-from_increasing (map raw_of devices) up i k 0 below within in omega arith)
      | inr above ↦ elim (cases_lt k i) [
        | inl below ↦ (let within : i < length (map raw_of devices) = omega arith in let h = AllPairs-from_increasing (map raw_of devices) up k i 0 below within in omega arith)
        | inr other' ↦ ne (omega arith)
      ]
    ]

-- a line is added to what the lines of the device that it names say
pub line_added : (devices : List IndAddr) (drafts : List Draft) (place : ℕ) (device : IndAddr) (s : Statement) (old new : Draft) (ss : List Statement)
    → IsStrictlyIncreasing (map raw_of devices) → place < length devices → ((d : IndAddr) → get_or devices place d ≡ device) → names device.raw s.what ≡ true → Adds device s.what (get_or drafts place old) new
    → AreDrafts devices drafts ss → AreDrafts devices (set drafts place new) (ss ++ s ∷ [])
line_added devices drafts place device s old new ss up lt at named adds are = record {
  whole = length-set drafts place new ∙ are.whole;
  each = λ k d g less. elim (cases_eq place k) [
    | inl same ↦ subst (λ (k : ℕ). IsDraft (get_or devices k d) (get_or (set drafts place new) k g) (ss ++ s ∷ [])) same (
        let here : get_or (set drafts place new) place g ≡ new = get_or-set_same drafts place new g (omega (arith, lt, are.whole)) in
        let before : IsDraft device (get_or drafts place old) ss = subst (λ (a : IndAddr). IsDraft a (get_or drafts place old) ss) (at d) (are.each place d old lt) in
        rw (at d, here) (one_more device (get_or drafts place old) new ss s adds before))
    | inr other ↦
        let there : get_or (set drafts place new) k g ≡ get_or drafts k g = get_or-set_other drafts place k new g (λ e. other (sym e)) in
        let passed : names (get_or devices k d).raw s.what ≡ false = false_from_ne_true _ (λ q. apart devices place k d d up lt less other (ap raw_of (at d) ∙ names_one device.raw (get_or devices k d).raw s.what named q)) in
        rw there (nothing_more (get_or devices k d) (get_or drafts k g) ss s passed (are.each k d g less))
  ];
}

any_at : (p : IndAddr → Bool) (devices : List IndAddr) (k : ℕ) (d : IndAddr) → list_any p devices ≡ false → k < length devices → p (get_or devices k d) ≡ false
any_at p devices k d none lt = false_from_ne_true _ (λ q. false≢true (sym none ∙ list_any_at p devices k d lt q))

-- a line that names none of the devices
pub line_passed : (devices : List IndAddr) (drafts : List Draft) (s : Statement) (ss : List Statement) → list_any (λ (d : IndAddr). names d.raw s.what) devices ≡ false
    → AreDrafts devices drafts ss → AreDrafts devices drafts (ss ++ s ∷ [])
line_passed devices drafts s ss none are = record {
  whole = are.whole;
  each = λ k d g less. nothing_more (get_or devices k d) (get_or drafts k g) ss s (any_at (λ (d : IndAddr). names d.raw s.what) devices k d none less) (are.each k d g less);
}
