-- The ways in which a channel is lost, each by what was got and by the times alone.
use Rattle.std.specs.Prelude.{◌≡◌, ◌≢◌, ◌≤◌, ℕ, ◌+◌, true, false, List, ◌∷◌, Some}
use Rattle.knx_model.specs.declared.frames.ip.IpFrame.TheVariants.{DisconnectRequest, DisconnectResponse, StateResponse}
use Rattle.line_model.specs.Record.{Entry, got_in}
use Rattle.line_model.specs.ChannelLost.{own, acknowledged, confirmed, beats, is_awaited, has_left}

pub data IsLostSo (c : ℕ) (l : List Entry) (x : Entry) : Type 0 where
  Ended : got_in x.what ≡ Some (DisconnectRequest c) → IsLostSo c l x
  ToldBad : (status : ℕ) → got_in x.what ≡ Some (StateResponse c status) → status ≢ 0 → is_awaited (beats c l) x.now ≡ true → IsLostSo c l x
  HasLeft : (status : ℕ) → got_in x.what ≡ Some (DisconnectResponse c status) → has_left c l ≡ true → IsLostSo c l x
  GivenUp : (first second : ℕ) (older : List ℕ) → (own c l).sent ≡ second ∷ first ∷ older → first + 1000 ≤ second → second + 1000 ≤ x.now → IsLostSo c l x
  Unconfirmed : (since : ℕ) → acknowledged c l ≡ Some since → confirmed c l ≡ false → since + 3000 ≤ x.now → IsLostSo c l x
  Dead : (first second third : ℕ) (older : List ℕ) → beats c l ≡ third ∷ second ∷ first ∷ older → first + 10000 ≤ second → second + 10000 ≤ third → third + 10000 ≤ x.now → IsLostSo c l x
