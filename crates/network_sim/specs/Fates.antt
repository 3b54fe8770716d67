-- What became of a datagram that was sent (UDP over IPv4): how often it was delivered, and whether it is lost.
use Rattle.std.specs.Prelude.{ℕ, Bool, true, false}
use Rattle.network_sim.specs.declared.kept.Fate.{Fate}
use Rattle.network_sim.specs.declared.kept.Fate.TheVariants.{UnderWay, Lost}

abbrev pub times : Fate → ℕ
times (UnderWay delivered) = delivered
times (Lost delivered) = delivered

abbrev pub is_lost : Fate → Bool
is_lost (UnderWay delivered) = false
is_lost (Lost delivered) = true
