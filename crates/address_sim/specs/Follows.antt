-- When the events of the simulated bus follow its text (this project's own): nothing is lost but what its lines say. Each datagram is delivered once, in
-- order; the gateway repeats and closes exactly when its wait has passed, and refuses nothing; and time passes only where nothing else can happen, never
-- beyond the next such time.
use Rattle.std.specs.Prelude.{◌≡◌, ℕ, suc, ◌+◌, ◌<◌, Bool, true, false, ◌==◌, List, [], ◌∷◌, Option, Some, None, if◌then◌else◌}
use Rattle.knx_model.specs.declared.frames.cemi.Ldata.{Ldata}
use Rattle.line_model.specs.Deliveries.{next_up, next_down}
use Rattle.line_model.specs.Follows.{IsGatewayRepeat, IsGatewayClosing, at_gateway, gateway_due}
use Rattle.line_model.specs.Fresh.{TunnelSettled}
use Rattle.line_model.specs.Gateway.{gateway_expired, Nothing}
use Rattle.line_model.specs.Tunnel.{Commissions}
use Rattle.address_law.specs.Calm.{AllSent}
use Rattle.address_world.specs.declared.unit.UnitLoss.{UnitLoss}
use Rattle.address_world.specs.AddressWorld.{AddressWorld, AddressEvent, Send, Renew, Up, UpRefused, Down, LoseUp, LoseDown, Bus, Respond, GwRepeat, GwClose, Pass, next_frame, replay}
use Rattle.address_sim.specs.Losses.{without, loses_answer}
use Rattle.address_sim.specs.Told.{is_broadcast}

-- ---- counts

abbrev pub are_all : Option Ldata → Bool
are_all None = false
are_all (Some frame) = is_broadcast frame

-- a broadcast goes over the bus
abbrev pub is_broadcast_event : AddressWorld → AddressEvent → Bool
is_broadcast_event w (Bus left_out) = are_all (next_frame w)
is_broadcast_event w _ = false

abbrev pub one_more_if : Bool → ℕ → ℕ
one_more_if true n = suc n
one_more_if false n = n

abbrev pub broadcasts : AddressWorld → List AddressEvent → ℕ
broadcasts start [] = 0
broadcasts start (e ∷ past) = one_more_if (is_broadcast_event (replay start past) e) (broadcasts start past)

abbrev pub is_response : ℕ → AddressEvent → Bool
is_response place (Respond other at) = other == place
is_response place _ = false

abbrev pub responses : ℕ → List AddressEvent → ℕ
responses place [] = 0
responses place (e ∷ past) = one_more_if (is_response place e) (responses place past)

-- ---- the bus

-- the client's next frame goes over the bus so: lost for those of whom the text says so, where it is a broadcast
abbrev pub carriage_of : List UnitLoss → ℕ → Ldata → List ℕ
carriage_of losses n frame = if is_broadcast frame then without losses n else []

abbrev pub IsCarriedSo : List UnitLoss → ℕ → Option Ldata → List ℕ → Type 0
IsCarriedSo losses n None left_out = ⊥
IsCarriedSo losses n (Some frame) left_out = left_out ≡ carriage_of losses n frame

-- nothing but time can go on for so many milliseconds
pub record IsStill (w : AddressWorld) (ms : ℕ) : Type 0 where
  pub tunnel : TunnelSettled Commissions w.tunnel
  pub gateway : gateway_due w.tunnel ≡ Nothing
  pub still : (t : ℕ) → t < ms → gateway_expired w.tunnel.gateway (w.tunnel.now + t) ≡ Nothing
  pub units : AllSent w.units

-- ---- one row an event

abbrev pub IsInPlace : List UnitLoss → AddressWorld → List AddressEvent → AddressEvent → Type 0
IsInPlace losses start past (Send octets) = Unit {0}
IsInPlace losses start past Renew = Unit {0}
IsInPlace losses start past (Up age) = next_up (replay start past).tunnel ≡ Some age
IsInPlace losses start past (UpRefused age status) = ⊥
IsInPlace losses start past (Down age) = next_down Commissions (replay start past).tunnel ≡ Some age
IsInPlace losses start past (LoseUp age) = ⊥
IsInPlace losses start past (LoseDown age) = ⊥
IsInPlace losses start past (Bus left_out) = IsCarriedSo losses (suc (broadcasts start past)) (next_frame (replay start past)) left_out
IsInPlace losses start past (Respond place at) = at ≡ at_gateway (loses_answer losses place (suc (responses place past)))
IsInPlace losses start past GwRepeat = IsGatewayRepeat (gateway_due (replay start past).tunnel)
IsInPlace losses start past GwClose = IsGatewayClosing (gateway_due (replay start past).tunnel)
IsInPlace losses start past (Pass ms) = IsStill (replay start past) ms

abbrev pub FollowsText : List UnitLoss → AddressWorld → List AddressEvent → Type 0
FollowsText losses start [] = Unit {0}
FollowsText losses start (e ∷ past) = IsInPlace losses start past e × FollowsText losses start past
