-- Where the bus follows its text and nothing was lost, nothing disturbs it; and a text without losses loses nothing.
use Rattle.std.proofs.Common.{◌≡◌, ℕ, suc, List, [], ◌∷◌, Bool, true, false, cond, Option, Some, None, refl, ◌∙◌}
use Rattle.knx_model.specs.declared.frames.cemi.Ldata.{Ldata}
use Rattle.address_world.specs.declared.unit.UnitLoss.{UnitLoss}
use Rattle.address_world.specs.AddressWorld.{AddressWorld, AddressEvent, Send, Renew, Up, UpRefused, Down, LoseUp, LoseDown, Bus, Respond, GwRepeat, GwClose, Pass, next_frame, replay}
use Rattle.address_law.specs.Calm.{AreCalm, IsCalm}
use Rattle.address_sim.specs.Follows.{IsCarriedSo, IsInPlace, FollowsText, broadcasts}
use Rattle.address_sim.specs.Told.{is_broadcast}
use Rattle.address_sim.specs.Undisturbed.{Reaches, NothingLost}

module _ (start : AddressWorld) where
  in_place : (losses : List UnitLoss) (past : List AddressEvent) (e : AddressEvent) → IsInPlace losses start past e → Reaches e → IsCalm (replay start past) e
  in_place losses past (Send octets) h r = tt
  in_place losses past Renew h r = tt
  in_place losses past (Up age) h r = h
  in_place losses past (UpRefused age status) h r = h
  in_place losses past (Down age) h r = h
  in_place losses past (LoseUp age) h r = h
  in_place losses past (LoseDown age) h r = h
  in_place losses past (Bus left_out) h r = r
  in_place losses past (Respond place at) h r = r
  in_place losses past GwRepeat h r = h
  in_place losses past GwClose h r = h
  in_place losses past (Pass ms) h r = record { tunnel = h.tunnel; units = h.units }

  pub calm_by : (losses : List UnitLoss) (events : List AddressEvent) → FollowsText losses start events → NothingLost events → AreCalm start events
  calm_by losses [] h r = tt
  calm_by losses (e ∷ past) h r = (in_place losses past e h.0 r.0, calm_by losses past h.1 r.1)

-- ---- a text without losses

either_way : (b : Bool) (l : List ℕ) → cond b l l ≡ l
either_way true l = refl
either_way false l = refl

none_left_out : (n : ℕ) (o : Option Ldata) (left_out : List ℕ) → IsCarriedSo [] n o left_out → left_out ≡ []
none_left_out n None left_out h = absurd h
none_left_out n (Some frame) left_out h = h ∙ either_way (is_broadcast frame) []

module _ (start : AddressWorld) where
  reaches : (past : List AddressEvent) (e : AddressEvent) → IsInPlace [] start past e → Reaches e
  reaches past (Send octets) h = tt
  reaches past Renew h = tt
  reaches past (Up age) h = tt
  reaches past (UpRefused age status) h = tt
  reaches past (Down age) h = tt
  reaches past (LoseUp age) h = tt
  reaches past (LoseDown age) h = tt
  reaches past (Bus left_out) h = none_left_out (suc (broadcasts start past)) (next_frame (replay start past)) left_out h
  reaches past (Respond place at) h = h
  reaches past GwRepeat h = tt
  reaches past GwClose h = tt
  reaches past (Pass ms) h = tt

  pub nothing_lost : (events : List AddressEvent) → FollowsText [] start events → NothingLost events
  nothing_lost [] h = tt
  nothing_lost (e ∷ past) h = (reaches past e h.0, nothing_lost past h.1)
