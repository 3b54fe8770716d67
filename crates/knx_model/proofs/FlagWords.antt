-- Each of the 64 sets of flags is read again.
use Rattle.std.proofs.Common.{◌≡◌, ℕ, ◌+◌, ◌*◌, ◌/◌, ◌%◌, ◌<◌, Bool, true, Some, refl, arith}
use Rattle.knx_model.specs.Flags.{flags_value, flags_text}
use Rattle.knx_model.proofs.Finite.{all_below, below, answers, answers-true}

is_again : ℕ → Bool
is_again n = answers (flags_value (flags_text (n * 4 + 3))) (n * 4 + 3)

all_64 : all_below is_again 64 ≡ true
unfolding is_again all_below answers flags_value flags_text
all_64 = refl

nth_again : (n : ℕ) → n < 64 → flags_value (flags_text (n * 4 + 3)) ≡ Some (n * 4 + 3)
unfolding is_again
nth_again n lt = answers-true (flags_value (flags_text (n * 4 + 3))) (n * 4 + 3) (below is_again 64 n all_64 lt)

pub flags_again : (f : ℕ) → f < 256 → f % 4 ≡ 3 → flags_value (flags_text f) ≡ Some f
flags_again f lt e = let is : f / 4 * 4 + 3 ≡ f = omega arith in rw is at (nth_again (f / 4) (omega arith))
