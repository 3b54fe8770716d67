-- How a world begins: at time 0 with no channel, nothing sent, no frame that waits for the bus or for the client, and none that was on the bus
-- last; each device has its address and memories of their lengths, and no connection, no unsent frame and none got last. And when it is settled,
-- so that nothing but time can go on.
use Rattle.std.specs.Prelude.{◌≡◌, ℕ, ◌+◌, ◌<◌, ◌≤◌, ◌⊎◌, true, [], Some, None, slice_get}
use Rattle.knx_model.specs.Device.{HasCapacities}
use Rattle.knx_model.specs.DeviceConnection.{Closed}
use Rattle.knx_model.specs.DeviceState.{DeviceState}
use Rattle.knx_model.specs.DeviceSending.{next_sending}
use Rattle.line_model.specs.Gateway.{gateway_expired, Nothing}
use Rattle.line_model.specs.Network.{Sent, MayArrive, MayReach}
use Rattle.line_model.specs.Tunnel as tunnel
use Rattle.line_model.specs.Tunnel.{Tunnel, Mode, Commissions, Serves, made}
use Rattle.line_model.specs.World.{World, me, now}

-- ---- the beginning

pub record IsAtRest (address : ℕ) (d : DeviceState) : Type 0 where
  pub capacities : HasCapacities d.kept
  pub named : d.address.raw ≡ address
  pub unconnected : d.connection ≡ Closed
  pub nothing_unsent : d.unsent ≡ []
  pub nothing_got : d.last ≡ None

pub record IsFresh (w : World) : Type 0 where
  pub tunnel : w.tunnel ≡ tunnel.fresh (me w)
  pub echo : w.echo ≡ None
  pub devices : (address : ℕ) (d : DeviceState) → w.devices address ≡ Some d → IsAtRest address d

-- ---- settled

-- a datagram was delivered, is lost, or can't be delivered any more
abbrev pub IsOver : Type 0 → Sent → Type 0
IsOver MayCome s = (1 ≤ s.delivered) ⊎ ((s.lost ≡ true) ⊎ ¬ MayCome)

-- what is under way down: in a run the client gets at its present endpoint alone, a serving gateway sends to all
abbrev pub MayComeDown : Mode → Tunnel → ℕ → Type 0
MayComeDown Commissions t age = MayReach t.present (made t) t.network.down age
MayComeDown Serves t age = MayArrive (made t) t.network.down age

-- nothing is under way in the tunnel; a frame for the client may wait for a channel or for an acknowledgement
pub record TunnelSettled (mode : Mode) (t : Tunnel) : Type 0 where
  pub up : (age : ℕ) (s : Sent) → slice_get t.network.up age ≡ Some s → IsOver (MayArrive (made t) t.network.up age) s
  pub down : (age : ℕ) (s : Sent) → slice_get t.network.down age ≡ Some s → IsOver (MayComeDown mode t age) s
  pub bus : t.gateway.bus ≡ []

-- neither a device nor the gateway has anything to send at this time
pub record HasNothingToSend (w : World) (at : ℕ) : Type 0 where
  pub devices : (address : ℕ) (d : DeviceState) → w.devices address ≡ Some d → next_sending d at ≡ None
  pub gateway : gateway_expired w.tunnel.gateway at ≡ Nothing

-- a repeat or a closing whose time hasn't come isn't something to send
pub record Settled (mode : Mode) (w : World) : Type 0 where
  pub tunnel : TunnelSettled mode w.tunnel
  pub nothing_to_send : HasNothingToSend w (now w)

-- it stays so while so many milliseconds pass: nothing becomes due before their end
pub record SettledFor (mode : Mode) (w : World) (ms : ℕ) : Type 0 where
  pub settled : Settled mode w
  pub still : (t : ℕ) → t < ms → HasNothingToSend w (now w + t)
