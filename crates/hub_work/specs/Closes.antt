-- How far the closing is, as the line's definitions have it.
use Rattle.std.specs.Prelude.{◌≡◌, ℕ, ◌+◌, min, Option, Some, None}
use Rattle.line_model.specs.Closing as line
use Rattle.hub_work.specs.declared.closing.Closing.{Closing}
use Rattle.hub_work.specs.declared.closing.Closing.TheVariants.{Listening, Leaving}

abbrev pub closing_of : Closing → line.Closing
closing_of (Listening since came) = line.Listening since came
closing_of (Leaving since came) = line.Leaving since came

-- after one more datagram at this time; the count stands still at its type's end
abbrev pub counted : ℕ → ℕ
counted n = min (n + 1) 4294967295

abbrev pub after_datagram : ℕ → line.Closing → line.Closing
after_datagram now (line.Listening since n) = line.Listening now (counted n)
after_datagram now (line.Leaving since n) = line.Leaving since (counted n)

-- ---- a closing, or none

-- where it hasn't begun it begins at this time, and else it stays
abbrev pub Begins : ℕ → Option Closing → Option Closing → Type 0
Begins now None new = (d : Closing) × (new ≡ Some d) × (closing_of d ≡ line.Listening now 0)
Begins now (Some c) new = new ≡ Some c

-- where it has begun it becomes so, and else it doesn't begin
abbrev pub GoesOnAs : (line.Closing → line.Closing) → Option Closing → Option Closing → Type 0
GoesOnAs f None new = new ≡ None
GoesOnAs f (Some c) new = (d : Closing) × (new ≡ Some d) × (closing_of d ≡ f (closing_of c))
