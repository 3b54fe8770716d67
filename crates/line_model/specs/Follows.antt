-- When events follow a script (this project's own): each line whose number is reached has its event at that place, and there is no other
-- disturbance. Every datagram is otherwise delivered once, in order, while the network allows it; a device or the gateway repeats and closes
-- exactly when its wait has passed; and time passes only where the world is settled, never beyond the next such time.
use Rattle.std.specs.Prelude.{◌≡◌, ◌⊎◌, ℕ, suc, Bool, true, false, ◌&&◌, List, [], ◌∷◌, Some}
use Rattle.knx_model.specs.declared.device.Sending.{Sending}
use Rattle.knx_model.specs.declared.device.Sending.TheVariants as sending
use Rattle.knx_model.specs.DeviceSending.{next_sending}
use Rattle.line_model.specs.Gateway as gateway
use Rattle.line_model.specs.Gateway.{GatewayExpired, gateway_expired}
use Rattle.line_model.specs.Tunnel.{Tunnel, Mode}
use Rattle.line_model.specs.World.{World, Event, AtGateway, Comes, IsLost, Send, From, Renew, Up, UpRefused, Down, LoseUp, LoseDown, Bus, BusTorn, BusWorn, BusAgain, DevSend, DevRepeat, DevClose, GwAgain, GwRepeat, GwClose, Cut, On, Pass, now, replay}
use Rattle.line_model.specs.Legal.{OfDevice}
use Rattle.line_model.specs.Fresh.{SettledFor}
use Rattle.line_model.specs.Counts.{frames_from, number_at}
use Rattle.line_model.specs.Lines.{Script, loses_up, loses_down, loses_from}
use Rattle.line_model.specs.Deliveries.{next_up, next_down, delivery, carriage}
use Rattle.line_model.specs.Owed.{Owed, owed, met, is_clients, waits}

-- ---- datagrams

-- the next datagram to the gateway has this age, and is lost or not
pub record IsNextUp (script : Script) (w : World) (age : ℕ) (lost : Bool) : Type 0 where
  pub next : next_up w.tunnel ≡ Some age
  pub says : loses_up script (number_at w.tunnel.network.up age) ≡ lost

-- it is delivered by this event
pub record Delivers (script : Script) (start : World) (past : List Event) (age : ℕ) (e : Event) : Type 0 where
  pub next : IsNextUp script (replay start past) age false
  pub so : delivery script start past age ≡ e

-- the next datagram to the client
pub record IsNextDown (script : Script) (mode : Mode) (w : World) (age : ℕ) (lost : Bool) : Type 0 where
  pub next : next_down mode w.tunnel ≡ Some age
  pub says : loses_down script (number_at w.tunnel.network.down age) ≡ lost

-- ---- frames of devices

abbrev pub at_gateway : Bool → AtGateway
at_gateway true = IsLost
at_gateway false = Comes

-- the device's N-th frame is lost for the gateway where a line says so
abbrev pub IsHeardSo : Script → World → List Event → ℕ → AtGateway → Type 0
IsHeardSo script start past device heard = heard ≡ at_gateway (loses_from script device (suc (frames_from device start past)))

-- ---- times

abbrev pub IsDue : World → ℕ → Sending → Type 0
IsDue w device which = OfDevice (λ d. next_sending d (now w) ≡ Some which) (w.devices device)

abbrev pub IsGatewayRepeat : GatewayExpired → Type 0
IsGatewayRepeat (gateway.Repeat frame) = Unit {0}
IsGatewayRepeat _ = ⊥

abbrev pub IsGatewayClosing : GatewayExpired → Type 0
IsGatewayClosing (gateway.Closing frame) = Unit {0}
IsGatewayClosing _ = ⊥

abbrev pub gateway_due : Tunnel → GatewayExpired
gateway_due t = gateway_expired t.gateway t.now

-- ---- where nothing is owed: one row an event

abbrev pub IsInPlace : Script → Mode → World → List Event → Event → Type 0
IsInPlace script mode start past (Send octets) = Unit {0}
IsInPlace script mode start past (From endpoint octets) = Unit {0}
IsInPlace script mode start past Renew = Unit {0}
IsInPlace script mode start past (Up age) = Delivers script start past age (Up age)
IsInPlace script mode start past (UpRefused age status) = Delivers script start past age (UpRefused age status)
IsInPlace script mode start past (Down age) = IsNextDown script mode (replay start past) age false
IsInPlace script mode start past (LoseUp age) = IsNextUp script (replay start past) age true
IsInPlace script mode start past (LoseDown age) = IsNextDown script mode (replay start past) age true
IsInPlace script mode start past (Bus left_out) = carriage script start past ≡ Some (Bus left_out)
IsInPlace script mode start past (BusTorn fresh octets) = carriage script start past ≡ Some (BusTorn fresh octets)
IsInPlace script mode start past (BusWorn octets) = carriage script start past ≡ Some (BusWorn octets)
IsInPlace script mode start past (BusAgain device) = ⊥
IsInPlace script mode start past (DevSend device heard left_out) = IsHeardSo script start past device heard × (left_out ≡ [])
IsInPlace script mode start past (DevRepeat device heard) = IsHeardSo script start past device heard × IsDue (replay start past) device sending.Repeat
IsInPlace script mode start past (DevClose device) = IsDue (replay start past) device sending.Closing
IsInPlace script mode start past GwAgain = ⊥
IsInPlace script mode start past GwRepeat = IsGatewayRepeat (gateway_due (replay start past).tunnel)
IsInPlace script mode start past GwClose = IsGatewayClosing (gateway_due (replay start past).tunnel)
IsInPlace script mode start past (Cut device) = ⊥
IsInPlace script mode start past (On device) = ⊥
IsInPlace script mode start past (Pass ms) = SettledFor mode (replay start past) ms

-- ---- what is owed comes first, but for what the client itself does; and power returns at once

abbrev pub IsNext : Script → Mode → World → List Event → List Owed → Event → Type 0
IsNext script mode start past [] e = IsInPlace script mode start past e
IsNext script mode start past (what ∷ rest) e = ((waits what && is_clients e) ≡ true) ⊎ (e ≡ met script start past what)

abbrev pub Follows : Script → Mode → World → List Event → Type 0
Follows script mode start [] = Unit {0}
Follows script mode start (e ∷ past) = IsNext script mode start past (owed script mode start past) e × Follows script mode start past
