-- When nothing disturbs the giving of an address (this project's own): no datagram is lost, late or refused, each is delivered once, in order, and the
-- gateway repeats and closes only when its wait has passed; a frame of the client reaches all units, and each response the gateway; and time passes only
-- where nothing else can happen.
use Rattle.std.specs.Prelude.{◌≡◌, List, [], ◌∷◌, Some}
use Rattle.std.specs.List.{AllByRecursion}
use Rattle.line_model.specs.Deliveries.{next_up, next_down}
use Rattle.line_model.specs.Follows.{IsGatewayRepeat, IsGatewayClosing, gateway_due}
use Rattle.line_model.specs.Fresh.{TunnelSettled}
use Rattle.line_model.specs.Tunnel.{Commissions}
use Rattle.line_model.specs.World.{Comes}
use Rattle.address_world.specs.AddressWorld.{AddressWorld, AddressEvent, UnitState, Send, Renew, Up, UpRefused, Down, LoseUp, LoseDown, Bus, Respond, GwRepeat, GwClose, Pass, replay}

-- each response is sent
abbrev pub AllSent : List UnitState → Type 0
AllSent units = AllByRecursion (λ (u : UnitState). u.unsent ≡ []) units

-- nothing is under way in the tunnel, and each response is sent
pub record IsStill (w : AddressWorld) : Type 0 where
  pub tunnel : TunnelSettled Commissions w.tunnel
  pub units : AllSent w.units

abbrev pub IsCalm : AddressWorld → AddressEvent → Type 0
IsCalm w (Send octets) = Unit {0}
IsCalm w Renew = Unit {0}
IsCalm w (Up age) = next_up w.tunnel ≡ Some age
IsCalm w (UpRefused age status) = ⊥
IsCalm w (Down age) = next_down Commissions w.tunnel ≡ Some age
IsCalm w (LoseUp age) = ⊥
IsCalm w (LoseDown age) = ⊥
IsCalm w (Bus left_out) = left_out ≡ []
IsCalm w (Respond place gateway) = gateway ≡ Comes
IsCalm w GwRepeat = IsGatewayRepeat (gateway_due w.tunnel)
IsCalm w GwClose = IsGatewayClosing (gateway_due w.tunnel)
IsCalm w (Pass ms) = IsStill w

abbrev pub AreCalm : AddressWorld → List AddressEvent → Type 0
AreCalm start [] = Unit {0}
AreCalm start (e ∷ events) = IsCalm (replay start events) e × AreCalm start events
