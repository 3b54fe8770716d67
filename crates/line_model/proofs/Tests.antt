-- What tests say, and what makes them true.
use Rattle.std.proofs.Common.{◌≡◌, ◌≢◌, ℕ, Bool, true, false, ◌==◌, refl, arith, Option, Some, if◌then◌else◌}
use Rattle.knx_model.specs.ApduReading.{where_it}

pub is_unequal : (a b : ℕ) → a ≢ b → (a == b) ≡ false
is_unequal a b e = grind arith

pub where_is : {X : Type 0} (b : Bool) (x y : X) → where_it b x ≡ Some y → (b ≡ true) × (x ≡ y)
where_is true x y e = (refl, cc)
where_is false x y e = cc

pub is_where : {X : Type 0} (b : Bool) (x : X) → b ≡ true → where_it b x ≡ Some x
is_where true x e = refl
is_where false x e = cc

-- one branch or the other
pub branch : {X : Type 0} (P : Type 0) (b : Bool) (x y : Option X) (z : X) → (b ≡ true → x ≡ Some z → P) → (b ≡ false → y ≡ Some z → P) → (if b then x else y) ≡ Some z → P
branch P true x y z left right e = left refl e
branch P false x y z left right e = right refl e

pub is_left : {X : Type 0} (b : Bool) (x y : X) → b ≡ true → (if b then x else y) ≡ x
is_left true x y e = refl
is_left false x y e = cc

pub is_right : {X : Type 0} (b : Bool) (x y : X) → b ≡ false → (if b then x else y) ≡ y
is_right true x y e = cc
is_right false x y e = refl
