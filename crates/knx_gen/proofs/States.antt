-- States of the generator.
use Rattle.std.proofs.Common.{◌≡◌, ℕ, zero, suc, ◌+◌, ◌*◌, ◌%◌, ◌^◌, ap, ◌∙◌, arith}
use Rattle.knx_gen.specs.Draws.{next_state, state_at}

-- a product and a sum that wrap
pub wrapped : (state : ℕ) → (state * 6364136223846793005 % 2 ^ 64 + 1442695040888963407) % 2 ^ 64 ≡ next_state state
wrapped state = omega arith

-- some numbers are drawn, and then more
pub state_at-add : (start a b : ℕ) → state_at (state_at start a) b ≡ state_at start (a + b)
unfolding state_at
state_at-add start a zero = ap (state_at start) (let e : a ≡ a + 0 = omega arith in e)
state_at-add start a (suc b) = ap next_state (state_at-add start a b) ∙ ap (state_at start) (let e : suc (a + b) ≡ a + suc b = omega arith in e)
