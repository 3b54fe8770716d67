-- The devices of a text that breaks no rule differ, and so ascend where they are sorted.
use Rattle.std.proofs.Common.{◌≡◌, ℕ, zero, suc, ◌<◌, ◌≤◌, false, eqb, ◌||◌, List, [], ◌∷◌, ◌++◌, length, get_or, take, map, None, refl, ap, ◌∙◌, subst, add-one, arith}
use Rattle.std.specs.Prelude.{IsPermutation}
use Rattle.std.specs.Cmp.{nat_eq_equiv}
use Rattle.std.specs.List.{IsDistinct, list_any}
use Rattle.std.specs.List.Sorted.{IsSorted, IsNonDecreasing, IsNonDecreasingBy, IsStrictlyIncreasing}
use Rattle.std.proofs.lemmas.Bool.Decides.{nat_tests}
use Rattle.std.proofs.lemmas.List.{take_more, take_all, append-nil}
use Rattle.std.proofs.lemmas.List.Elements.{filter_map-append}
use Rattle.std.proofs.lemmas.List.Sorted.{IsNonDecreasingBy-from_sort, IsPermutation-map}
use Rattle.std.proofs.lemmas.Map.Keys.{IsDistinct-push, IsDistinct-IsPermutation, IsStrictlyIncreasing-from_distinct}
use Rattle.knx_model.specs.declared.address.IndAddr.{IndAddr}
use Rattle.knx_model.specs.declared.catalogue.model.NamedModel.{NamedModel}
use Rattle.knx_model.specs.declared.project.Statement.{Statement}
use Rattle.knx_model.specs.declared.project.What.{What}
use Rattle.knx_model.specs.declared.project.What.TheVariants.{Version, Title, Group, Device, Object, Link, Send, Flags, Param}
use Rattle.knx_model.specs.Rules.{first_broken, some_line, declares_device, device_in, devices_of, duplicate_device}
use Rattle.project_check.specs.Devices.{raw_of, device_order}
use Rattle.project_check.proofs.Sound.{unbroken_at}

flip : (a b : ℕ) → eqb a b ≡ eqb b a
flip a b = grind (arith, nat_tests)

any_here : (q : ℕ) (what : What) (ss : List Statement) (line : ℕ) → list_any (λ (a : IndAddr). eqb a.raw q) (devices_of ss) ≡ some_line (declares_device q) ss
    → list_any (λ (a : IndAddr). eqb a.raw q) (devices_of (record { line = line; what = what } ∷ ss)) ≡ some_line (declares_device q) (record { line = line; what = what } ∷ ss)
any_here q (Title name) ss line e = e
any_here q (Group group name) ss line e = e
any_here q (Device device model) ss line e = ap (λ b. eqb device.raw q || b) e
any_here q (Object device n size flags) ss line e = e
any_here q (Link device object groups) ss line e = e
any_here q Version ss line e = e
any_here q (Send device object group) ss line e = e
any_here q (Flags device object flags) ss line e = e
any_here q (Param device name value) ss line e = e

-- a device is one of the devices just where a `device` line declares it
pub any_device : (q : ℕ) (ss : List Statement) → list_any (λ (a : IndAddr). eqb a.raw q) (devices_of ss) ≡ some_line (declares_device q) ss
any_device q [] = refl
any_device q (s ∷ ss) = any_here q s.what ss s.line (any_device q ss)

any_raw : (q : ℕ) (ds : List IndAddr) → list_any (eqb q) (map raw_of ds) ≡ list_any (λ (a : IndAddr). eqb a.raw q) ds
any_raw q [] = refl
any_raw q (a ∷ ds) = rw (flip q a.raw, any_raw q ds) refl

raws-append : (xs ys : List IndAddr) → map raw_of (xs ++ ys) ≡ map raw_of xs ++ map raw_of ys
raws-append [] ys = refl
raws-append (x ∷ xs) ys = ap (λ rs. x.raw ∷ rs) (raws-append xs ys)

of_kind : (before : List Statement) (what : What) (line : ℕ) → IsDistinct eqb (map raw_of (devices_of before)) → duplicate_device before what ≡ false
    → IsDistinct eqb (map raw_of (devices_of before) ++ map raw_of (devices_of (record { line = line; what = what } ∷ [])))
of_kind before (Device device model) line h new =
    IsDistinct-push nat_eq_equiv (map raw_of (devices_of before)) device.raw h (any_raw device.raw (devices_of before) ∙ any_device device.raw before ∙ new)
of_kind before (Title name) line h new = rw append-nil h
of_kind before (Group group name) line h new = rw append-nil h
of_kind before (Object device n size flags) line h new = rw append-nil h
of_kind before (Link device object groups) line h new = rw append-nil h
of_kind before Version line h new = rw append-nil h
of_kind before (Send device object group) line h new = rw append-nil h
of_kind before (Flags device object flags) line h new = rw append-nil h
of_kind before (Param device name value) line h new = rw append-nil h

one_more : (before : List Statement) (s : Statement) → IsDistinct eqb (map raw_of (devices_of before)) → duplicate_device before s.what ≡ false → IsDistinct eqb (map raw_of (devices_of (before ++ s ∷ [])))
one_more before s h new = rw (filter_map-append (λ (t : Statement). device_in t.what) before (s ∷ []), raws-append (devices_of before) (devices_of (s ∷ []))) (of_kind before s.what s.line h new)

none_differ : IsDistinct eqb []
unfolding IsDistinct
none_differ = tt

distinct_to : (catalogue : List NamedModel) (ss : List Statement) (i : ℕ) (d : Statement) → first_broken catalogue ss ≡ None → i ≤ length ss → IsDistinct eqb (map raw_of (devices_of (take i ss)))
distinct_to catalogue ss zero d e le = none_differ
distinct_to catalogue ss (suc i) d e le =
    let lt : i < length ss = omega arith in
    let more : take (suc i) ss ≡ take i ss ++ get_or ss i d ∷ [] = rw (← add-one) (take_more ss i d lt) in
    rw more (one_more (take i ss) (get_or ss i d) (distinct_to catalogue ss i d e (omega arith)) (unbroken_at catalogue ss i d e lt).duplicate_device)

nothing : Statement
nothing = record { line = 0; what = Title [] }

-- no device stands in two `device` lines
pub devices_differ : (catalogue : List NamedModel) (ss : List Statement) → first_broken catalogue ss ≡ None → IsDistinct eqb (map raw_of (devices_of ss))
devices_differ catalogue ss e =
    let le : length ss ≤ length ss = omega arith in
    subst (λ (xs : List Statement). IsDistinct eqb (map raw_of (devices_of xs))) (take_all (length ss) ss le) (distinct_to catalogue ss (length ss) nothing e le)

get_raw : (ds : List IndAddr) (i d : ℕ) → get_or (map raw_of ds) i d ≡ (get_or ds i (record { raw = d })).raw
get_raw [] i d = refl
get_raw (a ∷ ds) zero d = refl
get_raw (a ∷ ds) (suc i) d = get_raw ds i d

length_raw : (ds : List IndAddr) → length (map raw_of ds) ≡ length ds
length_raw [] = refl
length_raw (a ∷ ds) = ap (λ n. suc n) (length_raw ds)

pub sorted_ascend : (catalogue : List NamedModel) (ss : List Statement) (ds : List IndAddr) → first_broken catalogue ss ≡ None → IsPermutation (devices_of ss) ds → IsSorted device_order ds
    → IsStrictlyIncreasing (map raw_of ds)
sorted_ascend catalogue ss ds e all sorted =
    let by : IsNonDecreasingBy raw_of ds = IsNonDecreasingBy-from_sort raw_of ds sorted in
    let none_falls : IsNonDecreasing (map raw_of ds) = λ i j d le lt. rw (get_raw ds i d, get_raw ds j d) (by i j (record { raw = d }) le (omega (arith, length_raw ds))) in
    IsStrictlyIncreasing-from_distinct (map raw_of ds) none_falls
    (IsDistinct-IsPermutation eqb flip (map raw_of (devices_of ss)) (map raw_of ds) (IsPermutation-map raw_of (devices_of ss) ds all) (devices_differ catalogue ss e))
