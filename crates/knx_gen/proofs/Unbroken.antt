-- Lines that ascend by their keys, of which each speaks of what is declared, break no rule of a whole project.
use Rattle.std.proofs.Common.{◌≡◌, ℕ, ◌+◌, ◌<◌, ◌≤◌, Bool, true, false, cond, codes, eqb, ◌&&◌, List, [], ◌∷◌, ◌++◌, length, take, All, Option, Some, None, refl, sym, ap, ◌∙◌, subst, arith, append_assoc, length-append}
use Rattle.std.specs.Option.{is_none}
use Rattle.std.specs.List.{list_any, count_by, cons_option, AllByRecursion}
use Rattle.std.proofs.lemmas.Bool.{and_right, or_from, not_from_true, eq-eqb, lt-leb, le-ltb}
use Rattle.std.proofs.lemmas.List.{length_push, get_or_at}
use Rattle.std.proofs.lemmas.List.Elements.{All-get_or, recursion_from_All}
use Rattle.std.proofs.lemmas.List.Sums.{sum_by-append, sum_by-cons}
use Rattle.knx_model.specs.declared.address.GroupAddr.{GroupAddr}
use Rattle.knx_model.specs.declared.address.IndAddr.{IndAddr}
use Rattle.knx_model.specs.declared.catalogue.model.Model.{Model}
use Rattle.knx_model.specs.declared.catalogue.model.NamedModel.{NamedModel}
use Rattle.knx_model.specs.declared.project.Statement.{Statement}
use Rattle.knx_model.specs.declared.project.What.{What}
use Rattle.knx_model.specs.declared.project.What.TheVariants.{Version, Title, Group, Device, Object, Link, Send, Flags, Param}
use Rattle.knx_model.specs.declared.refusal.Why.{Why}
use Rattle.knx_model.specs.declared.refusal.Why.TheVariants.{DuplicateDevice, DuplicateGroup, UnknownGroup, UnknownModel, DuplicateObject, UnknownObject, DuplicateLink, SizeDiffers, TooMany, NoDevice}
use Rattle.std.specs.Prelude.{sum_by}
use Rattle.knx_model.specs.Statements.{statement}
use Rattle.knx_model.specs.LeastLine.{first_refused}
use Rattle.knx_model.specs.Models.{inline, model_named, object_in}
use Rattle.knx_model.specs.Rules.{some_line, count_lines, first_some, model_in, size_in, named_model, model_of, size_of_object, size_in_model, or_else, size_of, first_linked, asked_of, is_no_object, differ, size_of_first, declares_device, declares_group, declares_object, links_to, links_in, links_of_device, count_links, is_device_line, duplicate_device, duplicate_group, unknown_group, duplicate_object, unknown_object, duplicate_link, size_differs, too_many_devices, too_many_links, no_device, rule_of, broken_at, broken_from, first_broken}
use Rattle.knx_gen.specs.Generated.{numbered_from}
use Rattle.knx_gen.proofs.Keys.{key, Ascends, KeysBelow, before_below, none_below, IsSingle, group_key, device_key, object_key, link_key}
use Rattle.knx_gen.proofs.Counted.{is_link_line, links_device}
use Rattle.knx_gen.proofs.Known.{IsKnown}
use Rattle.knx_gen.proofs.Numbered.{any_is, count_is, before_is}

-- ---- the model of a device, and the size of an object

-- where a device is declared, it has no model
abbrev Inline : Option (List ℕ) → Type 0
Inline None = Unit {0}
Inline (Some model) = model ≡ codes "inline"

abbrev OneBit : Option ℕ → Type 0
OneBit None = Unit {0}
OneBit (Some size) = size ≡ 0

if_inline : (b : Bool) (model : List ℕ) → model ≡ codes "inline" → Inline (cond b (Some model) None)
if_inline true model e = e
if_inline false model e = tt

if_one_bit : (b : Bool) (size : ℕ) → size ≡ 0 → OneBit (cond b (Some size) None)
if_one_bit true size e = e
if_one_bit false size e = tt

inline_in : (whole : List What) (d : ℕ) (what : What) → IsKnown whole what → Inline (model_in d what)
inline_in whole d (Device device model) is = if_inline (eqb device.raw d) model is
inline_in whole d (Title name) is = tt
inline_in whole d (Group group name) is = tt
inline_in whole d (Object device n size flags) is = tt
inline_in whole d (Link device object groups) is = tt
inline_in whole d Version is = tt
inline_in whole d (Send device object group) is = tt
inline_in whole d (Flags device object flags) is = tt
inline_in whole d (Param device name value) is = tt

one_bit_in : (whole : List What) (d n : ℕ) (what : What) → IsKnown whole what → OneBit (size_in d n what)
one_bit_in whole d n (Object device number size flags) is = if_one_bit (eqb device.raw d && eqb number n) size is.0
one_bit_in whole d n (Title name) is = tt
one_bit_in whole d n (Group group name) is = tt
one_bit_in whole d n (Device device model) is = tt
one_bit_in whole d n (Link device object groups) is = tt
one_bit_in whole d n Version is = tt
one_bit_in whole d n (Send device object group) is = tt
one_bit_in whole d n (Flags device object flags) is = tt
one_bit_in whole d n (Param device name value) is = tt

first_of_two : {X : Type 0} (P : Option X → Type 0) (here later : Option X) → P here → P later → P (elim here as (λ _. Option X) [ None ↦ later | Some x ↦ Some x ])
first_of_two P None later h l = l
first_of_two P (Some x) later h l = h

-- what holds of what any line says holds of what the first says
first_says : {X : Type 0} (P : Option X → Type 0) (says : What → Option X) (Q : What → Type 0) → P None → ((what : What) → Q what → P (says what)) → (n : ℕ) (whats : List What) → AllByRecursion Q whats → P (first_some says (numbered_from n whats))
first_says P says Q none each n [] all = none
first_says P says Q none each n (what ∷ whats) all = first_of_two P (says what) (first_some says (numbered_from (n + 1) whats)) (each what all.0) (first_says P says Q none each (n + 1) whats all.1)

-- a device that is known has no objects of a model
abbrev pub Empty : Option Model → Type 0
Empty None = Unit {0}
Empty (Some model) = model ≡ inline

empty_named : (catalogue : List NamedModel) (name : Option (List ℕ)) → Inline name → Empty (named_model catalogue name)
empty_named catalogue None e = tt
empty_named catalogue (Some name) e = subst (λ (word : List ℕ). Empty (model_named catalogue word)) (sym e) refl

not_asked : (model : Option Model) (test : Model → Bool) → Empty model → test inline ≡ false → asked_of model test ≡ false
not_asked None test e fails = refl
not_asked (Some model) test e fails = ap test e ∙ fails

no_size : (model : Option Model) (n : ℕ) → Empty model → size_in_model model n ≡ None
no_size None n e = refl
no_size (Some model) n e = ap (λ (m : Model). size_of_object (object_in m.objects n)) e

not_differ : (one other : Option ℕ) → OneBit one → OneBit other → differ one other ≡ false
not_differ None other a b = refl
not_differ (Some x) None a b = refl
not_differ (Some x) (Some y) a b = not_from_true (eqb x y) (eq-eqb x y (a ∙ sym b))

-- ---- lines that are lawful

-- each speaks of what is declared in all of them, they ascend, and there aren't too many
pub record AreLawful (whole : List What) : Type 0 where
  pub low : ℕ
  pub high : ℕ
  pub known : All (IsKnown whole) whole
  pub ascends : Ascends low whole high
  pub devices : count_by is_device_line whole < 255
  pub links : (d : ℕ) → count_by (links_device d) whole < 2047

abbrev statements : List What → List Statement
statements whole = numbered_from 1 whole

pub empty_model : (catalogue : List NamedModel) (whole : List What) (d : ℕ) → AreLawful whole → Empty (model_of catalogue (statements whole) d)
empty_model catalogue whole d is =
    empty_named catalogue (first_some (model_in d) (statements whole)) (first_says Inline (model_in d) (IsKnown whole) tt (inline_in whole d) 1 whole (recursion_from_All (IsKnown whole) whole is.known))

one_bit : (catalogue : List NamedModel) (whole : List What) (d n : ℕ) → AreLawful whole → OneBit (size_of catalogue (statements whole) d n)
one_bit catalogue whole d n is =
    subst (λ (o : Option ℕ). OneBit (or_else o (first_some (size_in d n) (statements whole)))) (sym (no_size (model_of catalogue (statements whole) d) n (empty_model catalogue whole d is)))
    (first_says OneBit (size_in d n) (IsKnown whole) tt (one_bit_in whole d n) 1 whole (recursion_from_All (IsKnown whole) whole is.known))

one_bit_first : (catalogue : List NamedModel) (whole : List What) (first : Option (ℕ × ℕ)) → AreLawful whole → OneBit (size_of_first catalogue (statements whole) first)
one_bit_first catalogue whole None is = tt
one_bit_first catalogue whole (Some first) is = one_bit catalogue whole first.0 first.1 is

-- ---- one line

-- a line of them, with those before and after it
record At (whole before : List What) (what : What) : Type 0 where
  after : List What
  all : whole ≡ before ++ what ∷ after

known_at : (whole before : List What) (what : What) → AreLawful whole → At whole before what → IsKnown whole what
known_at whole before what is at =
    let all : All (IsKnown whole) (before ++ what ∷ at.after) = subst (All (IsKnown whole)) at.all is.known in
    let lt : length before < length (before ++ what ∷ at.after) = omega (arith, length-append before (what ∷ at.after)) in
    subst (IsKnown whole) (get_or_at before what at.after what (length before) refl) (All-get_or (IsKnown whole) (before ++ what ∷ at.after) (length before) what lt all)

below_at : (whole before : List What) (what : What) → AreLawful whole → At whole before what → KeysBelow (key what) before
below_at whole before what is at = before_below is.low is.high before what at.after (subst (λ (all : List What). Ascends is.low all is.high) at.all is.ascends)

-- each of the lines before it is known
known_before : (whole before : List What) (what : What) → AreLawful whole → At whole before what → AllByRecursion (IsKnown whole) before
known_before whole before what is at = front before (recursion_from_All (IsKnown whole) (before ++ what ∷ at.after) (subst (All (IsKnown whole)) at.all is.known))
  where
    front : (xs : List What) → AllByRecursion (IsKnown whole) (xs ++ what ∷ at.after) → AllByRecursion (IsKnown whole) xs
    front [] all = tt
    front (x ∷ xs) all = (all.0, front xs all.1)

-- no line before it passes a test that tells its key
none_before : (test : What → Bool) (whole before : List What) (what : What) → ((other : What) → IsKnown whole other → test other ≡ true → key other ≡ key what) → AreLawful whole → At whole before what → some_line test (statements before) ≡ false
none_before test whole before what tells is at = any_is test 1 before ∙ none_below (IsKnown whole) test (key what) tells before (known_before whole before what is at) (below_at whole before what is at)

-- a line that is known has one link at most
single : (whole : List What) (what : What) → IsKnown whole what → IsSingle what
single whole (Group group name) is = tt
single whole (Device device model) is = tt
single whole (Object device n size flags) is = tt
single whole (Link device object []) is = absurd is
single whole (Link device object (group ∷ [])) is = tt
single whole (Link device object (group ∷ other ∷ groups)) is = absurd is
single whole Version is = tt
single whole (Title name) is = tt
single whole (Send device object group) is = tt
single whole (Flags device object flags) is = tt
single whole (Param device name value) is = tt

one_link : (d : ℕ) (what : What) → IsSingle what → links_of_device d what ≡ cond (links_device d what) 1 0
one_link d (Link device object []) is = absurd is
one_link d (Link device object (group ∷ [])) is = refl
one_link d (Link device object (group ∷ other ∷ groups)) is = absurd is
one_link d Version is = refl
one_link d (Title name) is = refl
one_link d (Group group name) is = refl
one_link d (Device device model) is = refl
one_link d (Object device n size flags) is = refl
one_link d (Send device object group) is = refl
one_link d (Flags device object flags) is = refl
one_link d (Param device name value) is = refl

links_counted : (whole : List What) (d n : ℕ) (whats : List What) → AllByRecursion (IsKnown whole) whats → count_links d (numbered_from n whats) ≡ count_by (links_device d) whats
links_counted whole d n [] all = refl
links_counted whole d n (what ∷ whats) all =
    omega (
      arith,
      sum_by-cons (λ (s : Statement). links_of_device d s.what) (statement n what) (numbered_from (n + 1) whats),
      sum_by-cons (λ (w : What). cond (links_device d w) 1 0) what whats,
      one_link d what (single whole what all.0),
      links_counted whole d (n + 1) whats all.1,
    )

-- all links of lines that are known, one for each `link` line
link_in : (what : What) → IsSingle what → links_in what ≡ cond (is_link_line what) 1 0
link_in (Link device object []) is = absurd is
link_in (Link device object (group ∷ [])) is = refl
link_in (Link device object (group ∷ other ∷ groups)) is = absurd is
link_in Version is = refl
link_in (Title name) is = refl
link_in (Group group name) is = refl
link_in (Device device model) is = refl
link_in (Object device n size flags) is = refl
link_in (Send device object group) is = refl
link_in (Flags device object flags) is = refl
link_in (Param device name value) is = refl

pub all_links : (whole : List What) (n : ℕ) (whats : List What) → AllByRecursion (IsKnown whole) whats → sum_by (λ s. links_in s.what) (numbered_from n whats) ≡ count_by is_link_line whats
all_links whole n [] all = refl
all_links whole n (what ∷ whats) all =
    omega (
      arith,
      sum_by-cons (λ (s : Statement). links_in s.what) (statement n what) (numbered_from (n + 1) whats),
      sum_by-cons (λ (w : What). cond (is_link_line w) 1 0) what whats,
      link_in what (single whole what all.0),
      all_links whole (n + 1) whats all.1,
    )

count_before : (test : What → Bool) (whole before : List What) (what : What) → At whole before what → count_lines test (statements before) ≤ count_by test whole
count_before test whole before what at =
    let one : What → ℕ = λ w. cond (test w) 1 0 in
    omega (arith, count_is test 1 before, sum_by-append one before (what ∷ at.after), ap (count_by test) at.all)

some_of : (test : What → Bool) (whole : List What) → list_any test whole ≡ true → some_line test (statements whole) ≡ true
some_of test whole e = any_is test 1 whole ∙ e

-- a rule that isn't broken, and those after it
passed : (is_broken : Bool) (why : Why) (rest : Option Why) → is_broken ≡ false → rest ≡ None → cond is_broken (Some why) rest ≡ None
passed is_broken why rest kept later = rw kept later

object_new : (catalogue : List NamedModel) (whole before : List What) (device : IndAddr) (n size flags : ℕ) → AreLawful whole → At whole before (Object device n size flags)
    → duplicate_object catalogue (statements before) (statements whole) (Object device n size flags) ≡ false
object_new catalogue whole before device n size flags is at =
    not_asked (model_of catalogue (statements whole) device.raw) _ (empty_model catalogue whole device.raw is)
    (none_before (declares_object device.raw n) whole before (Object device n size flags) (λ other known. object_key device.raw n other) is at)

object_known : (catalogue : List NamedModel) (whole : List What) (device : IndAddr) (n : ℕ) (group : GroupAddr) → AreLawful whole → list_any (declares_object device.raw n) whole ≡ true
    → unknown_object catalogue (statements whole) (Link device n (group ∷ [])) ≡ false
object_known catalogue whole device n group is there =
    not_asked (model_of catalogue (statements whole) device.raw) (is_no_object (statements whole) device.raw n) (empty_model catalogue whole device.raw is) (not_from_true _ (some_of (declares_object device.raw n) whole there))

sizes_same : (catalogue : List NamedModel) (whole : List What) (device : IndAddr) (n : ℕ) (group : GroupAddr) → AreLawful whole → size_differs catalogue (statements whole) (Link device n (group ∷ [])) ≡ false
sizes_same catalogue whole device n group is =
    and_right _ _ (or_from _ _ (not_differ (size_of catalogue (statements whole) device.raw n) (size_of_first catalogue (statements whole) (first_linked (statements whole) group.raw))
    (one_bit catalogue whole device.raw n is) (one_bit_first catalogue whole (first_linked (statements whole) group.raw) is)) refl)

unbroken : (catalogue : List NamedModel) (whole before : List What) (what : What) → AreLawful whole → At whole before what → rule_of catalogue (statements before) (statements whole) what ≡ None
unfolding rule_of
unbroken catalogue whole before (Group group name) is at =
    passed (duplicate_group (statements before) (Group group name)) DuplicateGroup None (none_before (declares_group group.raw) whole before (Group group name) (λ other known. group_key group.raw other) is at) refl
unbroken catalogue whole before (Device device model) is at =
    let inline_is : model ≡ codes "inline" = known_at whole before (Device device model) is at in
    passed (duplicate_device (statements before) (Device device model)) DuplicateDevice _ (none_before (declares_device device.raw) whole before (Device device model) (λ other known. device_key device.raw other) is at)
    (passed (is_none (model_named catalogue model)) UnknownModel _ (ap (λ (word : List ℕ). is_none (model_named catalogue word)) inline_is)
    (passed (too_many_devices (statements before) (Device device model)) (TooMany 255) None
    (lt-leb 255 (count_lines is_device_line (statements before)) (omega (arith, count_before is_device_line whole before (Device device model) at, is.devices))) refl))
unbroken catalogue whole before (Object device n size flags) is at =
    let known = known_at whole before (Object device n size flags) is at in
    passed (duplicate_object catalogue (statements before) (statements whole) (Object device n size flags)) DuplicateObject _ (object_new catalogue whole before device n size flags is at)
    (passed (no_device (statements whole) (Object device n size flags)) NoDevice None (not_from_true _ (some_of (declares_device device.raw) whole known.1)) refl)
unbroken catalogue whole before (Link device object []) is at = absurd (known_at whole before (Link device object []) is at)
unbroken catalogue whole before (Link device object (group ∷ [])) is at =
    let known = known_at whole before (Link device object (group ∷ [])) is at in
    passed (unknown_group (statements whole) (Link device object (group ∷ []))) UnknownGroup _ (or_from _ _ (not_from_true _ (some_of (declares_group group.raw) whole known.group_is)) refl)
    (passed (unknown_object catalogue (statements whole) (Link device object (group ∷ []))) UnknownObject _ (object_known catalogue whole device object group is known.object_is)
    (passed (duplicate_link (statements before) (Link device object (group ∷ []))) DuplicateLink _
    (or_from _ _ (or_from _ _ (none_before (links_to device.raw object group.raw) whole before (Link device object (group ∷ [])) (λ other known. link_key device.raw object group.raw other (single whole other known)) is at) refl) refl)
    (passed (size_differs catalogue (statements whole) (Link device object (group ∷ []))) SizeDiffers _ (sizes_same catalogue whole device object group is)
    (passed (too_many_links (statements before) (Link device object (group ∷ []))) (TooMany 2047) _
    (le-ltb 2047 (count_links device.raw (statements before) + 1) (omega (arith, links_counted whole device.raw 1 before (known_before whole before (Link device object (group ∷ [])) is at), count_before (links_device device.raw) whole before (Link device object (group ∷ [])) at, count_is (links_device device.raw) 1 before, is.links device.raw)))
    (passed (no_device (statements whole) (Link device object (group ∷ []))) NoDevice None (not_from_true _ (some_of (declares_device device.raw) whole known.device_is)) refl)))))
unbroken catalogue whole before (Link device object (group ∷ other ∷ groups)) is at = absurd (known_at whole before (Link device object (group ∷ other ∷ groups)) is at)
unbroken catalogue whole before (Title name) is at = absurd (known_at whole before (Title name) is at)
unbroken catalogue whole before Version is at = absurd (known_at whole before Version is at)
unbroken catalogue whole before (Send device object group) is at = absurd (known_at whole before (Send device object group) is at)
unbroken catalogue whole before (Flags device object flags) is at = absurd (known_at whole before (Flags device object flags) is at)
unbroken catalogue whole before (Param device name value) is at = absurd (known_at whole before (Param device name value) is at)

-- ---- all lines

none_from : (catalogue : List NamedModel) (whole before after : List What) (k : ℕ) → AreLawful whole → whole ≡ before ++ after → k ≡ length before → broken_from catalogue (statements whole) k (numbered_from (k + 1) after) ≡ []
unfolding broken_from
none_from catalogue whole before [] k is all at = refl
none_from catalogue whole before (what ∷ after) k is all at =
    let earlier : take k (statements whole) ≡ statements before = rw (at, all) (before_is 1 before (what ∷ after)) in
    let none : rule_of catalogue (take k (statements whole)) (statements whole) what ≡ None
    = ap (λ (ss : List Statement). rule_of catalogue ss (statements whole) what) earlier ∙ unbroken catalogue whole before what is (record { after = after; all = all }) in
    ap (λ (o : Option Why). cons_option (broken_at (k + 1) o) (broken_from catalogue (statements whole) (k + 1) (numbered_from (k + 1 + 1) after))) none
    ∙ none_from catalogue whole (before ++ what ∷ []) after (k + 1) is (all ∙ sym (append_assoc before (what ∷ []) after)) (omega (arith, at, length_push before what))

pub none_broken : (catalogue : List NamedModel) (whole : List What) → AreLawful whole → first_broken catalogue (statements whole) ≡ None
none_broken catalogue whole is = ap first_refused (none_from catalogue whole [] whole 0 is refl refl)
