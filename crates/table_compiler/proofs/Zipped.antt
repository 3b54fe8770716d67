-- The drafts of devices are sound, and their images are the devices'.
use Rattle.std.proofs.Common.{◌≡◌, ℕ, suc, ◌+◌, List, [], ◌∷◌, map, get_or, take, drop, None, Result, Ok, subst, arith}
use Rattle.std.specs.Prelude.{All, IfOk}
use Rattle.std.specs.List.{AllZip}
use Rattle.std.specs.List.Sorted.{IsStrictlyIncreasing}
use Rattle.std.proofs.lemmas.List.{get_or-take, get_or-drop, length-take, length-drop, take-map, drop-map}
use Rattle.knx_model.specs.declared.address.IndAddr.{IndAddr}
use Rattle.knx_model.specs.declared.catalogue.model.NamedModel.{NamedModel}
use Rattle.knx_model.specs.declared.config.Image.{Image}
use Rattle.knx_model.specs.declared.project.Statement.{Statement}
use Rattle.knx_model.specs.Rules.{first_broken}
use Rattle.project_check.specs.Devices.{raw_of}
use Rattle.table_compiler.specs.Drafts.{AreDrafts, IsSoundDraft}
use Rattle.table_compiler.specs.Images.{IsImage, IsImageOfDraft}
use Rattle.table_compiler.specs.declared.drafts.Draft.{Draft}

none : IndAddr
none = record { raw = 0 }

pub all_sound : (catalogue : List NamedModel) (devices : List IndAddr) (drafts : List Draft) (ss : List Statement) → AreDrafts devices drafts ss → first_broken catalogue ss ≡ None → All (IsSoundDraft catalogue) drafts
all_sound catalogue devices drafts ss are sound = λ k draft lt. record {
  device = get_or devices k none;
  whole = ss;
  is = are.each k none draft (omega (arith, are.whole, lt));
  sound = sound;
}

others : (device : IndAddr) (devices : List IndAddr) (draft : Draft) (drafts : List Draft) (ss : List Statement) → AreDrafts (device ∷ devices) (draft ∷ drafts) ss → AreDrafts devices drafts ss
others device devices draft drafts ss are = record { whole = omega (arith, are.whole); each = λ k d x lt. are.each (suc k) d x (omega (arith, lt)) }

pub all_images : (catalogue : List NamedModel) (devices : List IndAddr) (drafts : List Draft) (images : List Image) (ss : List Statement) → AreDrafts devices drafts ss → first_broken catalogue ss ≡ None
    → AllZip (IsImageOfDraft catalogue) drafts images → AllZip (IsImage (record { statements = ss; catalogue = catalogue })) devices images
all_images catalogue [] [] [] ss are sound all = tt
all_images catalogue [] [] (i ∷ is) ss are sound all = absurd all
all_images catalogue [] (x ∷ xs) is ss are sound all = absurd (omega (arith, are.whole))
all_images catalogue (d ∷ ds) [] is ss are sound all = absurd (omega (arith, are.whole))
all_images catalogue (d ∷ ds) (x ∷ xs) [] ss are sound all = absurd all
all_images catalogue (d ∷ ds) (x ∷ xs) (i ∷ is) ss are sound all = (all.0.is_image d ss (are.each 0 d x (omega arith)) sound, all_images catalogue ds xs is ss (others d ds x xs ss are) sound all.1)

each_ok : {X Y : Type 0} (E : Type 0) (R : X → Y → Type 0) (xs : List X) (ys : List Y) → AllZip (λ x (answer : Result Y E). IfOk answer (R x)) xs (map Ok ys) → AllZip R xs ys
each_ok E R [] [] all = tt
each_ok E R [] (y ∷ ys) all = absurd all
each_ok E R (x ∷ xs) [] all = absurd all
each_ok E R (x ∷ xs) (y ∷ ys) all = (all.0, each_ok E R xs ys all.1)

-- where each answer is an image, so are all
pub all_ok : {X Y E : Type 0} (R : X → Y → Type 0) (xs : List X) (answers : List (Result Y E)) (ys : List Y) → answers ≡ map Ok ys → AllZip (λ x (answer : Result Y E). IfOk answer (R x)) xs answers → AllZip R xs ys
all_ok {X = X} {Y = Y} {E = E} R xs answers ys are all = each_ok E R xs ys (subst (λ (rs : List (Result Y E)). AllZip (λ (x : X) (answer : Result Y E). IfOk answer (R x)) xs rs) are all)

-- ---- pieces of devices

up_front : (n : ℕ) (xs : List ℕ) → IsStrictlyIncreasing xs → IsStrictlyIncreasing (take n xs)
up_front n xs up = λ k lt.
    rw (get_or-take n xs k 0 (omega (arith, lt, length-take n xs)), get_or-take n xs (k + 1) 0 (omega (arith, lt, length-take n xs))) (up k (omega (arith, lt, length-take n xs)))

up_back : (n : ℕ) (xs : List ℕ) → IsStrictlyIncreasing xs → IsStrictlyIncreasing (drop n xs)
up_back n xs up = λ k lt.
    let next : n + (k + 1) ≡ n + k + 1 = omega arith in
    rw (get_or-drop n xs k 0, get_or-drop n xs (k + 1) 0, next) (up (n + k) (omega (arith, lt, length-drop n xs)))

-- the first of ascending devices ascend
pub front_ascends : (n : ℕ) (devices : List IndAddr) → IsStrictlyIncreasing (map raw_of devices) → IsStrictlyIncreasing (map raw_of (take n devices))
front_ascends n devices up = subst IsStrictlyIncreasing (take-map raw_of n devices) (up_front n (map raw_of devices) up)

-- and so do those behind them
pub back_ascends : (n : ℕ) (devices : List IndAddr) → IsStrictlyIncreasing (map raw_of devices) → IsStrictlyIncreasing (map raw_of (drop n devices))
back_ascends n devices up = subst IsStrictlyIncreasing (drop-map raw_of n devices) (up_back n (map raw_of devices) up)
