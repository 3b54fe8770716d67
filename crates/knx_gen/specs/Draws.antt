-- The numbers that a project is made from: a linear congruential sequence of states of 64 bits, with the factor and the increment that
-- D. E. Knuth gives for MMIX. A number is the upper 31 bits of a state.
use Rattle.std.specs.Prelude.{ℕ, zero, suc, ◌+◌, ◌*◌, ◌/◌, ◌%◌, ◌^◌}

abbrev pub next_state : ℕ → ℕ
next_state state = (state * 6364136223846793005 + 1442695040888963407) % 2 ^ 64

-- the state when k numbers were drawn
unfoldable pub state_at : ℕ → ℕ → ℕ
state_at start zero = start
state_at start (suc k) = next_state (state_at start k)

-- the k-th number that is drawn, from 1
abbrev pub number_at : ℕ → ℕ → ℕ
number_at start k = state_at start k / 2 ^ 33
