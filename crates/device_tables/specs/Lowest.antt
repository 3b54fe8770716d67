-- The lowest object number that passes a test.
use Rattle.std.specs.Prelude.{ℕ, ◌≡◌, ◌<◌, ◌≤◌, Bool, true, false}

pub record IsLowest (passes : ℕ → Bool) (o : ℕ) : Type 0 where
  pub from_1 : 1 ≤ o
  pub up_to_255 : o ≤ 255
  pub itself : passes o ≡ true
  pub none_below : (k : ℕ) → 1 ≤ k → k < o → passes k ≡ false
