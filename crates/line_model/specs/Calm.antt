-- Which events are calm: nothing is lost, cut, refused or repeated before its time. Each datagram is delivered once, in order; the client's frame goes
-- over the bus to every device; a device and the gateway repeat and close exactly when their wait has passed; and time passes only where the world is
-- settled. The order of what goes on side by side is free, and no script is named.
use Rattle.std.specs.Prelude.{◌≡◌, List, [], ◌∷◌, Some}
use Rattle.knx_model.specs.declared.device.Sending.TheVariants as sending
use Rattle.line_model.specs.Tunnel.{Commissions}
use Rattle.line_model.specs.World.{World, Event, Comes, Send, Renew, Up, Down, Bus, DevSend, DevRepeat, DevClose, GwRepeat, GwClose, Pass, replay}
use Rattle.line_model.specs.Fresh.{SettledFor}
use Rattle.line_model.specs.Deliveries.{next_up, next_down}
use Rattle.line_model.specs.Follows.{IsDue, IsGatewayRepeat, IsGatewayClosing, gateway_due}

abbrev pub IsCalm : World → Event → Type 0
IsCalm w (Send octets) = Unit {0}
IsCalm w Renew = Unit {0}
IsCalm w (Up age) = next_up w.tunnel ≡ Some age
IsCalm w (Down age) = next_down Commissions w.tunnel ≡ Some age
IsCalm w (Bus left_out) = left_out ≡ []
IsCalm w (DevSend device gateway left_out) = (gateway ≡ Comes) × (left_out ≡ [])
IsCalm w (DevRepeat device gateway) = (gateway ≡ Comes) × IsDue w device sending.Repeat
IsCalm w (DevClose device) = IsDue w device sending.Closing
IsCalm w GwRepeat = IsGatewayRepeat (gateway_due w.tunnel)
IsCalm w GwClose = IsGatewayClosing (gateway_due w.tunnel)
IsCalm w (Pass ms) = SettledFor Commissions w ms
IsCalm w _ = ⊥

abbrev pub AreCalm : World → List Event → Type 0
AreCalm start [] = Unit {0}
AreCalm start (e ∷ events) = IsCalm (replay start events) e × AreCalm start events
