-- One deadline, and a wait that goes on until it.
use Rattle.std.proofs.Common.{◌≡◌, ℕ, ◌+◌, ◌<◌, ◌≤◌, Option, Some, None, refl, sym, ◌∙◌, arith}
use Rattle.std.specs.Prelude.{IfSome}
use Rattle.line_model.specs.Waiting.{LastsUntil}

some_time : (a b : ℕ) → Some a ≡ Some b → a ≡ b
some_time a b e = cc

pub same_deadline : (deadline : Option ℕ) (time t now wait : ℕ) → deadline ≡ Some time → deadline ≡ Some t → now + wait ≤ time → now + wait ≤ t
same_deadline deadline time t now wait is other le = let same : time ≡ t = some_time time t (sym is ∙ other) in omega (arith, le, same)

-- one that is reached is no other
pub other_deadline : (deadline : Option ℕ) (time t now : ℕ) → deadline ≡ Some time → deadline ≡ Some t → time ≤ now → now < t → ⊥
other_deadline deadline time t now is other le lt = let same : time ≡ t = some_time time t (sym is ∙ other) in omega (arith, le, lt, same)

-- how long a wait lasts, said of the deadline where there is one
pub upto_deadline : (deadline : Option ℕ) (longest now wait : ℕ) → LastsUntil longest (λ time. deadline ≡ Some time) now wait → IfSome deadline (λ time. now < time → now + wait ≤ time)
upto_deadline None longest now wait lasts = tt
upto_deadline (Some time) longest now wait lasts = lasts.no_longer time refl
