-- What a binary search among ascending devices says, and the image that stands beside a device.
use Rattle.std.proofs.Common.{◌≡◌, ℕ, zero, suc, ◌-◌, ◌<◌, ◌≤◌, Bool, false, true, cond, eqb, ◌&&◌, filter, List, [], ◌∷◌, ◌++◌, length, get_or, map, Option, Some, None, Result, Ok, Err, refl, sym, ap, ◌∙◌, subst, arith, inl, inr}
use Rattle.std.specs.Prelude.{IfNone, IsPermutation, slice_get}
use Rattle.std.specs.Result.{result_ok}
use Rattle.std.specs.List.{AllZip, AllByRecursion, list_any}
use Rattle.std.specs.List.Sorted.{IsBinarySearchResult, IsStrictlyIncreasing}
use Rattle.std.specs.Ordering.{nat_cmp}
use Rattle.std.proofs.lemmas.Bool.{cases_lt, eq-eqb, eqb-true, ne_eqb}
use Rattle.std.proofs.lemmas.List.{get_or-map, length-map}
use Rattle.std.proofs.lemmas.List.Folds.{list_any_at, list_any_none}
use Rattle.std.proofs.lemmas.List.Kept.{AllPairs-from_increasing, IsStrictlyIncreasing-filter}
use Rattle.std.proofs.lemmas.List.Sorted.{searched, list_any-IsPermutation}
use Rattle.std.proofs.lemmas.Map.Views.{any-filter_same}
use Rattle.std.proofs.lemmas.Option.{get_or_from_slice_get}
use Rattle.knx_model.specs.declared.address.IndAddr.{IndAddr}
use Rattle.knx_model.specs.declared.config.Image.{Image}
use Rattle.knx_model.specs.Acts.{IsInRange}
use Rattle.knx_model.specs.Device.{Fits}
use Rattle.knx_model.specs.Meaning.{Installation, meaning}
use Rattle.knx_model.specs.declared.project.Statement.{Statement}
use Rattle.knx_model.specs.Rules.{has_device, devices_of}
use Rattle.knx_model.specs.Tables.{StandsFor}
use Rattle.project_check.specs.Devices.{raw_of}
use Rattle.project_check.proofs.Ascending.{any_device}
use Rattle.table_compiler.specs.Images.{IsImage, AreImagesOf, is_among}

-- ---- of ascending devices

get_raw : (ds : List IndAddr) (i d : ℕ) → get_or (map raw_of ds) i d ≡ (get_or ds i (record { raw = d })).raw
get_raw [] i d = refl
get_raw (a ∷ ds) zero d = refl
get_raw (a ∷ ds) (suc i) d = get_raw ds i d

pub never_falls : (ns : List ℕ) → IsStrictlyIncreasing ns → (i j : ℕ) → i ≤ j → j < length ns → get_or ns i 0 ≤ get_or ns j 0
never_falls ns up i j le lt = elim (cases_lt i j) [
  | inl below ↦ omega (arith, AllPairs-from_increasing ns up i j 0 below lt)
  | inr above ↦ (let same : i ≡ j = omega arith in omega (arith, ap (λ (k : ℕ). get_or ns k 0) same))
]

-- a search that finds none, among their numbers
of_numbers : (ds : List IndAddr) (x i : ℕ) → IsBinarySearchResult (λ (d : IndAddr). nat_cmp d.raw x) ds (Err i) → IsBinarySearchResult (λ n. nat_cmp n x) (map raw_of ds) (Err i)
of_numbers ds x i parted = λ rises.
    let here = parted (λ i j d le lt. let h = rises i j d.raw le (omega (arith, lt, length-map ds raw_of)) in rw (get_raw ds i d.raw, get_raw ds j d.raw) at h) in (
      λ k d from to. rw (get_raw ds k d) (here.0 k (record { raw = d }) from to),
      λ k d from to. rw (get_raw ds k d) (here.1 k (record { raw = d }) from (omega (arith, to, length-map ds raw_of))),
    )

-- a device below the first is none of them
pub below_all : (ds : List IndAddr) (device d : IndAddr) → IsStrictlyIncreasing (map raw_of ds) → device.raw < (get_or ds 0 d).raw → list_any (λ d. eqb d.raw device.raw) ds ≡ false
below_all ds device first up below = list_any_none (λ d. eqb d.raw device.raw) ds (λ k d lt.
    ne_eqb (get_or ds k d).raw device.raw (λ same.
    let here : get_or (map raw_of ds) k 0 ≡ (get_or ds k d).raw = get_or-map raw_of ds k d 0 lt in
    let there : get_or (map raw_of ds) 0 0 ≡ (get_or ds 0 first).raw = get_or-map raw_of ds 0 first 0 (omega (arith, lt)) in
    let least : get_or (map raw_of ds) 0 0 ≤ get_or (map raw_of ds) k 0 = never_falls (map raw_of ds) up 0 k (omega arith) (omega (arith, lt, length-map ds raw_of)) in
    omega (arith, here, there, same, least, below)))

-- nor is one above the last
pub above_all : (ds : List IndAddr) (device d : IndAddr) → IsStrictlyIncreasing (map raw_of ds) → (get_or ds (length ds - 1) d).raw < device.raw → list_any (λ d. eqb d.raw device.raw) ds ≡ false
above_all ds device last up above = list_any_none (λ d. eqb d.raw device.raw) ds (λ k d lt.
    ne_eqb (get_or ds k d).raw device.raw (λ same.
    let here : get_or (map raw_of ds) k 0 ≡ (get_or ds k d).raw = get_or-map raw_of ds k d 0 lt in
    let there : get_or (map raw_of ds) (length ds - 1) 0 ≡ (get_or ds (length ds - 1) last).raw = get_or-map raw_of ds (length ds - 1) last 0 (omega (arith, lt)) in
    let most : get_or (map raw_of ds) k 0 ≤ get_or (map raw_of ds) (length ds - 1) 0 = never_falls (map raw_of ds) up k (length ds - 1) (omega (arith, lt)) (omega (arith, lt, length-map ds raw_of)) in
    omega (arith, here, there, same, most, above)))

pub not_found : (ds : List IndAddr) (device : IndAddr) (r : Result ℕ ℕ) → IsBinarySearchResult (λ (d : IndAddr). nat_cmp d.raw device.raw) ds r → IsStrictlyIncreasing (map raw_of ds)
    → IfNone (result_ok r) (list_any (λ d. eqb d.raw device.raw) ds ≡ false)
not_found ds device (Ok i) found up = tt
not_found ds device (Err i) parted up =
    let at = searched (map raw_of ds) device.raw (Err i) (of_numbers ds device.raw i parted) (never_falls (map raw_of ds) up) in
    list_any_none (λ d. eqb d.raw device.raw) ds (λ k d lt.
    ne_eqb (get_or ds k d).raw device.raw (λ same.
    let here : get_or (map raw_of ds) k 0 ≡ (get_or ds k d).raw = get_or-map raw_of ds k d 0 lt in
    elim (cases_lt k i) [
      | inl below ↦ omega (arith, here, same, at.1 k below)
      | inr above ↦ omega (arith, here, same, at.2 k above (omega (arith, lt, length-map ds raw_of)))
    ]))

pub if_none : {X P : Type 0} (o : Option X) → P → IfNone o P
if_none None p = p
if_none (Some x) p = tt

-- ---- of the images beside them

zip_at : {X Y : Type 0} (R : X → Y → Type 0) (xs : List X) (ys : List Y) (k : ℕ) (d : X) (e : Y) → AllZip R xs ys → k < length xs → R (get_or xs k d) (get_or ys k e)
zip_at R [] ys k d e all lt = absurd (omega arith)
zip_at R (x ∷ xs) [] k d e all lt = absurd all
zip_at R (x ∷ xs) (y ∷ ys) zero d e all lt = all.0
zip_at R (x ∷ xs) (y ∷ ys) (suc k) d e all lt = zip_at R xs ys k d e all.1 (omega arith)

pub all_stand : (project : Installation) (devices : List IndAddr) (images : List Image) → AllZip (IsImage project) devices images → AllZip (λ image device. StandsFor image (meaning project device)) images devices
all_stand project [] [] all = tt
all_stand project [] (i ∷ is) all = absurd all
all_stand project (d ∷ ds) [] all = absurd all
all_stand project (d ∷ ds) (i ∷ is) all = (all.0.stands, all_stand project ds is all.1)

pub all_fit : (project : Installation) (devices : List IndAddr) (images : List Image) → AllZip (IsImage project) devices images → AllByRecursion Fits images
all_fit project [] [] all = tt
all_fit project [] (i ∷ is) all = absurd all
all_fit project (d ∷ ds) [] all = absurd all
all_fit project (d ∷ ds) (i ∷ is) all = (all.0.fits, all_fit project ds is all.1)

pub all_in_range : (project : Installation) (devices : List IndAddr) (images : List Image) → AllZip (IsImage project) devices images → AllByRecursion (λ device. IsInRange (meaning project device)) devices
all_in_range project [] [] all = tt
all_in_range project [] (i ∷ is) all = absurd all
all_in_range project (d ∷ ds) [] all = absurd all
all_in_range project (d ∷ ds) (i ∷ is) all = (all.0.in_range, all_in_range project ds is all.1)

-- ---- of those that are wanted

kept_raws : (p : IndAddr → Bool) (ds : List IndAddr) → map raw_of (filter p ds) ≡ filter (λ (n : ℕ). p (record { raw = n })) (map raw_of ds)
kept_raws p [] = refl
kept_raws p (d ∷ ds) = one (p d) (kept_raws p ds)
  where
    one : (b : Bool) → map raw_of (filter p ds) ≡ filter (λ (n : ℕ). p (record { raw = n })) (map raw_of ds)
        → map raw_of (cond b (d ∷ filter p ds) (filter p ds)) ≡ cond b (d.raw ∷ filter (λ (n : ℕ). p (record { raw = n })) (map raw_of ds)) (filter (λ (n : ℕ). p (record { raw = n })) (map raw_of ds))
    one true h = ap (λ (ns : List ℕ). d.raw ∷ ns) h
    one false h = h

-- what is left of ascending devices ascends
pub kept_ascend : (p : IndAddr → Bool) (ds : List IndAddr) → IsStrictlyIncreasing (map raw_of ds) → IsStrictlyIncreasing (map raw_of (filter p ds))
kept_ascend p ds up = rw (kept_raws p ds) (IsStrictlyIncreasing-filter (λ (n : ℕ). p (record { raw = n })) (map raw_of ds) up)

-- a device is left exactly where it is wanted and the project has it
pub just_wanted : (ss : List Statement) (devices wanted : List IndAddr) (device : IndAddr) → IsPermutation (devices_of ss) devices
    → is_among (filter (is_among wanted) devices) device ≡ (is_among wanted device && has_device ss device.raw)
just_wanted ss devices wanted device all =
    any-filter_same (λ (d : IndAddr). eqb d.raw device.raw) (is_among wanted) (is_among wanted device)
    (λ k same. ap (λ (n : ℕ). list_any (λ (d : IndAddr). eqb d.raw n) wanted) (eqb-true k.raw device.raw same)) devices
    ∙ ap (λ (b : Bool). is_among wanted device && b) (sym (list_any-IsPermutation (λ (d : IndAddr). eqb d.raw device.raw) (devices_of ss) devices all) ∙ any_device device.raw ss)

-- ---- of a place

pub among_at : (devices : List IndAddr) (k : ℕ) (device : IndAddr) → k < length devices → slice_get devices k ≡ Some device → is_among devices device ≡ true
among_at devices k device within here =
    list_any_at (λ (a : IndAddr). eqb a.raw device.raw) devices k device within (eq-eqb _ _ (ap raw_of (get_or_from_slice_get devices k device device here)))

pub image_at : (project : Installation) (devices : List IndAddr) (images : List Image) (k : ℕ) (device : IndAddr) (image : Image) → AreImagesOf project (devices, images) → k < length devices → slice_get devices k ≡ Some device → get_or images k image ≡ image
    → IsImage project device image
image_at project devices images k device image are within here there =
    let at : get_or devices k device ≡ device = get_or_from_slice_get devices k device device here in
    subst (λ (i : Image). IsImage project device i) there (subst (λ (d : IndAddr). IsImage project d (get_or images k image)) at (zip_at (IsImage project) devices images k device image are within))

pub AllZip-push : {X Y : Type 0} (R : X → Y → Type 0) (xs : List X) (ys : List Y) (x : X) (y : Y) → AllZip R xs ys → R x y → AllZip R (xs ++ x ∷ []) (ys ++ y ∷ [])
AllZip-push R [] [] x y all r = (r, tt)
AllZip-push R [] (b ∷ ys) x y all r = absurd all
AllZip-push R (a ∷ xs) [] x y all r = absurd all
AllZip-push R (a ∷ xs) (b ∷ ys) x y all r = (all.0, AllZip-push R xs ys x y all.1 r)
