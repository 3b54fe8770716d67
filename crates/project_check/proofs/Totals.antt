-- The objects of the devices' models, counted by their `device` lines.
use Rattle.std.proofs.Common.{◌≡◌, ℕ, zero, suc, ◌+◌, ◌<◌, ◌≤◌, false, eqb, List, [], ◌∷◌, ◌++◌, length, get_or, take, Option, Some, None, refl, sym, ap, ◌∙◌, subst, add-one, arith}
use Rattle.std.specs.Prelude.{is_some, sum_by}
use Rattle.std.proofs.lemmas.Bool.{false≢true, cond-true, eq-eqb}
use Rattle.std.proofs.lemmas.List.{take_more, take_all}
use Rattle.std.proofs.lemmas.List.Elements.{filter_map-append}
use Rattle.std.proofs.lemmas.List.Sums.{sum_by-append, sum_by-cons}
use Rattle.knx_model.specs.declared.address.IndAddr.{IndAddr}
use Rattle.knx_model.specs.declared.project.Statement.{Statement}
use Rattle.knx_model.specs.declared.project.What.{What}
use Rattle.knx_model.specs.declared.project.What.TheVariants.{Version, Title, Group, Device, Object, Link, Send, Flags, Param}
use Rattle.knx_model.specs.Counts.{model_objects}
use Rattle.knx_model.specs.Meaning.{Installation, or_inline}
use Rattle.knx_model.specs.Rules.{first_broken, first_some, count_lines, is_device_line, device_in, devices_of, model_in, named_model, duplicate_device}
use Rattle.project_check.specs.Counting.{line_objects}
use Rattle.project_check.proofs.Few.{count_cons}
use Rattle.project_check.proofs.Sound.{unbroken_at}
use Rattle.project_check.proofs.Steps.{modelled}

-- there are as many devices as `device` lines
devices_cons : (what : What) (line : ℕ) (ss : List Statement) → length (devices_of ss) ≡ count_lines is_device_line ss → length (devices_of (record { line = line; what = what } ∷ ss)) ≡ count_lines is_device_line (record { line = line; what = what } ∷ ss)
devices_cons (Device device model) line ss e = omega (arith, count_cons is_device_line (record { line = line; what = Device device model }) ss)
devices_cons (Title name) line ss e = omega (arith, count_cons is_device_line (record { line = line; what = Title name }) ss)
devices_cons (Group group name) line ss e = omega (arith, count_cons is_device_line (record { line = line; what = Group group name }) ss)
devices_cons (Object device n size flags) line ss e = omega (arith, count_cons is_device_line (record { line = line; what = Object device n size flags }) ss)
devices_cons (Link device object groups) line ss e = omega (arith, count_cons is_device_line (record { line = line; what = Link device object groups }) ss)
devices_cons Version line ss e = omega (arith, count_cons is_device_line (record { line = line; what = Version }) ss)
devices_cons (Send device object group) line ss e = omega (arith, count_cons is_device_line (record { line = line; what = Send device object group }) ss)
devices_cons (Flags device object flags) line ss e = omega (arith, count_cons is_device_line (record { line = line; what = Flags device object flags }) ss)
devices_cons (Param device name value) line ss e = omega (arith, count_cons is_device_line (record { line = line; what = Param device name value }) ss)

pub devices_counted : (ss : List Statement) → length (devices_of ss) ≡ count_lines is_device_line ss
devices_counted [] = refl
devices_counted (s ∷ ss) = devices_cons s.what s.line ss (devices_counted ss)

-- ---- the first line of a device is its only one

none_then : {X : Type 0} (o rest : Option X) → is_some (elim o as (λ _. Option X) [ None ↦ rest | Some x ↦ Some x ]) ≡ false → (o ≡ None) × (is_some rest ≡ false)
none_then None rest e = (refl, e)
none_then (Some x) rest e = absurd (false≢true (sym e))

first_at : {X : Type 0} (f : What → Option X) (ss : List Statement) (i : ℕ) (d : Statement) (x : X) → i < length ss → is_some (first_some f (take i ss)) ≡ false → f (get_or ss i d).what ≡ Some x → first_some f ss ≡ Some x
first_at f [] i d x lt none e = absurd (omega arith)
first_at {X = X} f (s ∷ ss) zero d x lt none e = ap (λ (o : Option X). elim o as (λ _. Option X) [ None ↦ first_some f ss | Some y ↦ Some y ]) e
first_at {X = X} f (s ∷ ss) (suc i) d x lt none e =
    let parts = none_then (f s.what) (first_some f (take i ss)) none in
    ap (λ (o : Option X). elim o as (λ _. Option X) [ None ↦ first_some f ss | Some y ↦ Some y ]) parts.0 ∙ first_at f ss i d x (omega arith) parts.1 e

-- ---- the sum

sum_more : (i : Installation) (before : List Statement) (what : What) (line : ℕ) → ((device : IndAddr) (model : List ℕ) → what ≡ Device device model → first_some (model_in device.raw) i.statements ≡ Some model)
    → sum_by (model_objects i) (devices_of (record { line = line; what = what } ∷ [])) ≡ line_objects i.catalogue what
sum_more i before (Device device model) line only = omega (arith, ap (λ (o : Option (List ℕ)). length (or_inline (named_model i.catalogue o)).objects) (only device model refl))
sum_more i before (Title name) line only = refl
sum_more i before (Group group name) line only = refl
sum_more i before (Object device n size flags) line only = refl
sum_more i before (Link device object groups) line only = refl
sum_more i before Version line only = refl
sum_more i before (Send device object group) line only = refl
sum_more i before (Flags device object flags) line only = refl
sum_more i before (Param device name value) line only = refl

nothing : Statement
nothing = record { line = 0; what = Title [] }

own : (device : IndAddr) (model : List ℕ) → model_in device.raw (Device device model) ≡ Some model
own device model = cond-true (eqb device.raw device.raw) (Some model) None (eq-eqb device.raw device.raw refl)

only_line : (i : Installation) (k : ℕ) (device : IndAddr) (model : List ℕ) → first_broken i.catalogue i.statements ≡ None → k < length i.statements → (get_or i.statements k nothing).what ≡ Device device model
    → first_some (model_in device.raw) i.statements ≡ Some model
only_line i k device model e lt is =
    let ss = i.statements in
    let new : duplicate_device (take k ss) (Device device model) ≡ false = subst (λ (w : What). duplicate_device (take k ss) w ≡ false) is (unbroken_at i.catalogue ss k nothing e lt).duplicate_device in
    first_at (model_in device.raw) ss k nothing model lt (modelled device.raw (take k ss) ∙ new) (rw is (own device model))

sum_to : (i : Installation) → first_broken i.catalogue i.statements ≡ None → (k : ℕ) → k ≤ length i.statements
    → sum_by (model_objects i) (devices_of (take k i.statements)) ≡ sum_by (λ s. line_objects i.catalogue s.what) (take k i.statements)
sum_to i e zero le = refl
sum_to i e (suc k) le =
    let ss = i.statements in
    let s = get_or ss k nothing in
    let lt : k < length ss = omega arith in
    let more : take (suc k) ss ≡ take k ss ++ s ∷ [] = rw (← add-one) (take_more ss k nothing lt) in
    let here = sum_more i (take k ss) s.what s.line (λ device model is. only_line i k device model e lt is) in
    let before = sum_to i e k (omega arith) in
    let line = sum_by-cons (λ (t : Statement). line_objects i.catalogue t.what) s [] in
    let all = sum_by-append (λ (t : Statement). line_objects i.catalogue t.what) (take k ss) (s ∷ []) in
    let own = sum_by-append (model_objects i) (devices_of (take k ss)) (devices_of (s ∷ [])) in
    rw (more, filter_map-append (λ (t : Statement). device_in t.what) (take k ss) (s ∷ [])) (omega arith)

-- the objects of the models of the devices are those of the models that the `device` lines name
pub models_counted : (i : Installation) → first_broken i.catalogue i.statements ≡ None → sum_by (model_objects i) (devices_of i.statements) ≡ sum_by (λ s. line_objects i.catalogue s.what) i.statements
models_counted i e =
    let le : length i.statements ≤ length i.statements = omega arith in
    subst (λ (xs : List Statement). sum_by (model_objects i) (devices_of xs) ≡ sum_by (λ s. line_objects i.catalogue s.what) xs) (take_all (length i.statements) i.statements le) (sum_to i e (length i.statements) le)

-- ---- the links

-- a sum of one statement more
pub sum_more_at : (f : Statement → ℕ) (ss : List Statement) (i : ℕ) (s : Statement) → i < length ss → s ≡ get_or ss i s → sum_by f (take (i + 1) ss) ≡ sum_by f (take i ss) + f s
sum_more_at f ss i s lt is = ap (sum_by f) (take_more ss i s lt ∙ ap (λ (t : Statement). take i ss ++ t ∷ []) (sym is)) ∙ sum_by-append f (take i ss) (s ∷ []) ∙ omega arith

-- a sum of the first statements is at most that of all
pub sum_up_to : (f : Statement → ℕ) (ss : List Statement) (i : ℕ) → sum_by f (take i ss) ≤ sum_by f ss
sum_up_to f ss zero = let none : sum_by f (take 0 ss) ≡ 0 = refl in omega (arith, none)
sum_up_to f [] (suc i) = omega arith
sum_up_to f (s ∷ ss) (suc i) = omega (arith, sum_by-cons f s (take i ss), sum_by-cons f s ss, sum_up_to f ss i)
