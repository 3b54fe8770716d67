-- Which events the line as it is held allows: one row an event, as of a world, but read off what is held.
use Rattle.std.specs.Prelude.{◌≡◌, ◌≢◌, ℕ, false, [], Option, Some, None, slice_get}
use Rattle.knx_model.specs.declared.frames.cemi.Ldata.{Ldata}
use Rattle.knx_model.specs.DeviceFrames.{Outcome, Torn, Worn, MayTake}
use Rattle.line_model.specs.Legal.{OfDevice, CanRepeat}
use Rattle.line_model.specs.Network.{OfSent, MayArrive, MayReach, WasSent}
use Rattle.line_model.specs.Tunnel.{Mode, Commissions, Serves, HasOutstanding, IsConnectRequest, IsOpen}
use Rattle.line_model.specs.World.{Event, Send, From, Renew, Up, UpRefused, Down, LoseUp, LoseDown, Bus, BusTorn, BusWorn, BusAgain, DevSend, DevRepeat, DevClose, GwAgain, GwRepeat, GwClose, Cut, On, Pass}
use Rattle.line_sim.specs.Line.{LineNow, frame_due}
use Rattle.line_sim.specs.Places.{device_at}

-- in a run there is one client, whose endpoints follow one another; a serving gateway hears from any
abbrev pub HasOneClient : Mode → Type 0
HasOneClient Commissions = Unit {0}
HasOneClient Serves = ⊥

abbrev pub HasAnyClient : Mode → Type 0
HasAnyClient Commissions = ⊥
HasAnyClient Serves = Unit {0}

-- the frame is for one device, which may take it so
pub record IsForOne (n : LineNow) (outcome : Outcome) (frame : Ldata) : Type 0 where
  pub alone : frame.group ≡ false
  pub device : OfDevice (λ d. MayTake d frame outcome) (device_at n.devices frame.destination)

abbrev pub MayGoSo : LineNow → Outcome → Option Ldata → Type 0
MayGoSo n outcome None = ⊥
MayGoSo n outcome (Some frame) = IsForOne n outcome frame

abbrev pub MayGetDown : Mode → LineNow → ℕ → Type 0
MayGetDown Commissions n age = MayReach n.tunnel.present n.tunnel.gateway.made n.tunnel.down.kept age
MayGetDown Serves n age = MayArrive n.tunnel.gateway.made n.tunnel.down.kept age

abbrev pub Allows : Mode → LineNow → Event → Type 0
Allows mode n (Send octets) = HasOneClient mode
Allows mode n (From endpoint octets) = HasAnyClient mode
Allows mode n Renew = HasOneClient mode
Allows mode n (Up age) = MayArrive n.tunnel.gateway.made n.tunnel.up.kept age
Allows mode n (UpRefused age status) = MayArrive n.tunnel.gateway.made n.tunnel.up.kept age × OfSent IsConnectRequest (slice_get n.tunnel.up.kept age) × (status ≢ 0)
Allows mode n (Down age) = MayGetDown mode n age
Allows mode n (LoseUp age) = WasSent n.tunnel.up.kept age
Allows mode n (LoseDown age) = WasSent n.tunnel.down.kept age
Allows mode n (Bus left_out) = frame_due n ≢ None
Allows mode n (BusTorn fresh octets) = MayGoSo n (Torn fresh octets) (frame_due n)
Allows mode n (BusWorn octets) = MayGoSo n (Worn octets) (frame_due n)
Allows mode n (BusAgain device) = OfDevice (λ d. d.last ≢ None) (device_at n.devices device)
Allows mode n (DevSend device gateway left_out) = OfDevice (λ d. d.unsent ≢ []) (device_at n.devices device)
Allows mode n (DevRepeat device gateway) = OfDevice CanRepeat (device_at n.devices device)
Allows mode n (DevClose device) = device_at n.devices device ≢ None
Allows mode n GwAgain = n.echo ≢ None
Allows mode n GwRepeat = HasOutstanding n.tunnel.gateway.end.channel
Allows mode n GwClose = IsOpen n.tunnel.gateway.end.channel
Allows mode n (Cut device) = device_at n.devices device ≢ None
Allows mode n (On device) = device_at n.devices device ≢ None
Allows mode n (Pass ms) = Unit {0}
