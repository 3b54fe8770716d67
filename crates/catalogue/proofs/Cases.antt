-- What the parts were where the whole is something.
use Rattle.std.proofs.Common.{◌≡◌, ◌⊎◌, inl, inr, Bool, true, false, List, ◌∷◌, Option, Some, None, Result, Ok, Err, option_map, if◌then◌else◌, refl}
use Rattle.std.specs.Option.{option_and_then}
use Rattle.std.proofs.lemmas.Option.{same_Some, none-some}
use Rattle.knx_model.specs.declared.catalogue.refused.CatRefused.{CatRefused}
use Rattle.knx_model.specs.Answers.{◌>>=◌}
use Rattle.catalogue.specs.Shapes.{cons_if}

abbrev pub fine : {A : Type 0} → A → Result A CatRefused
fine x = Ok x

abbrev pub refused : (A : Type 0) → CatRefused → Result A CatRefused
refused A x = Err x

pub same_ok : {A : Type 0} (x y : A) → fine x ≡ Ok y → x ≡ y
same_ok x y e = cc

pub err_ok : {A : Type 0} (x : CatRefused) (y : A) → refused A x ≡ Ok y → ⊥
err_ok x y e = cc

pub if_parts : {A : Type 0} (t : Bool) (x : Option A) (y : A) → (if t then x else None) ≡ Some y → (t ≡ true) × (x ≡ Some y)
if_parts true x y e = (refl, e)
if_parts false x y e = absurd (none-some y e)

pub bind_parts : {A B : Type 0} (f : A → Option B) (x : Option A) (y : B) → option_and_then f x ≡ Some y → (z : A) × (x ≡ Some z) × (f z ≡ Some y)
bind_parts f None y e = absurd (none-some y e)
bind_parts f (Some z) y e = (z, refl, e)

pub map_parts : {A B : Type 0} (f : A → B) (x : Option A) (y : B) → option_map f x ≡ Some y → (z : A) × (x ≡ Some z) × (f z ≡ y)
map_parts f None y e = absurd (none-some y e)
map_parts f (Some z) y e = (z, refl, same_Some (f z) y e)

pub cons_parts : {A : Type 0} (x : Option A) (xs : Option (List A)) (ys : List A) → cons_if x xs ≡ Some ys → (z : A) × (zs : List A) × (x ≡ Some z) × (xs ≡ Some zs) × (z ∷ zs ≡ ys)
cons_parts (Some z) (Some zs) ys e = (z, zs, refl, refl, same_Some (z ∷ zs) ys e)
cons_parts None xs ys e = absurd (none-some ys e)
cons_parts (Some z) None ys e = absurd (none-some ys e)

pub then_parts : {X Y : Type 0} (r : Result X CatRefused) (next : X → Result Y CatRefused) (y : Y) → (r >>= next) ≡ Ok y → (x : X) × (r ≡ Ok x) × (next x ≡ Ok y)
then_parts (Ok x) next y e = (x, refl, e)
then_parts (Err x) next y e = absurd (err_ok x y e)

pub same_err : (A : Type 0) (x y : CatRefused) → refused A x ≡ Err y → x ≡ y
same_err A x y e = cc

pub ok_err : {A : Type 0} (x : A) (y : CatRefused) → fine x ≡ Err y → ⊥
ok_err x y e = cc

pub then_refused : {X Y : Type 0} (r : Result X CatRefused) (next : X → Result Y CatRefused) (why : CatRefused) → (r >>= next) ≡ Err why → (r ≡ Err why) ⊎ ((x : X) × (r ≡ Ok x) × (next x ≡ Err why))
then_refused (Ok x) next why e = inr (x, refl, e)
then_refused {X} {Y} (Err x) next why e = inl (rw (same_err Y x why e) refl)
