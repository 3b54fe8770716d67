-- The line as it is held: the tunnel, the devices, and the bus's last frame where a device sent it; and of which worlds it is a picture.
use Rattle.std.specs.Prelude.{◌≡◌, ℕ, ◌-◌, ◌*◌, ◌^◌, ◌<◌, ◌≤◌, Bool, false, length, Option, Some, None}
use Rattle.knx_model.specs.declared.device.WriteKind.{WriteKind}
use Rattle.knx_model.specs.declared.frames.cemi.Ldata.{Ldata}
use Rattle.knx_model.specs.ApduReading.{option_map}
use Rattle.knx_model.specs.Device.{Effect, Nothing}
use Rattle.knx_model.specs.DeviceSending.{first_frame}
use Rattle.line_model.specs.Counts.{takes_alone, write_of}
use Rattle.line_model.specs.Deliveries.{effect_at}
use Rattle.line_model.specs.Tunnel.{Tunnel, made}
use Rattle.line_model.specs.World.{World, frame_by, on_bus}
use Rattle.line_sim.specs.Places.{DevicesNow, AreDevices, device_at}
use Rattle.tunnel_sim.specs.Tunnels.{TunnelNow, IsTunnel}

pub record LineNow : Type 0 where
  pub tunnel : TunnelNow
  pub devices : DevicesNow
  pub echo : Option Ldata

pub record IsNow (n : LineNow) (w : World) : Type 0 where
  pub tunnel : IsTunnel n.tunnel w.tunnel
  pub devices : AreDevices n.devices w.devices
  pub echo : w.echo ≡ n.echo

-- ---- the client's next frame

abbrev pub frame_due : LineNow → Option Ldata
frame_due n = option_map (on_bus n.tunnel.gateway.address) (first_frame n.tunnel.gateway.bus)

-- the write that a frame would be now at the device that it is for, and what it does there
abbrev pub write_at : DevicesNow → Option Ldata → Option WriteKind
write_at devices None = None
write_at devices (Some frame) = write_of (device_at devices frame.destination) (Some frame)

abbrev pub effect_on : DevicesNow → Option Ldata → Effect
effect_on devices None = Nothing
effect_on devices (Some frame) = effect_at (device_at devices frame.destination) frame

abbrev pub write_due : LineNow → Option WriteKind
write_due n = write_at n.devices (frame_due n)

abbrev pub effect_due : LineNow → Effect
effect_due n = effect_on n.devices (frame_due n)

-- the same of a world
abbrev pub write_in : World → Option Ldata → Option WriteKind
write_in w None = None
write_in w (Some frame) = write_of (w.devices frame.destination) (Some frame)

abbrev pub effect_in : World → Option Ldata → Effect
effect_in w None = Nothing
effect_in w (Some frame) = effect_at (w.devices frame.destination) frame

-- the device that a frame is for takes it, and it is for this one alone
abbrev pub taken_in : World → Option Ldata → Bool
taken_in w None = false
taken_in w (Some frame) = takes_alone (w.devices frame.destination) (Some frame)

-- the frame that a device got last
abbrev pub last_at : World → ℕ → Option Ldata
last_at w device = frame_by (λ d. d.last) (w.devices device)

-- ---- what can be counted with 64 bits

pub record AreCounted (w : World) : Type 0 where
  pub up : length w.tunnel.network.up < 2 ^ 64 - 1
  pub down : length w.tunnel.network.down < 2 ^ 64 - 1
  pub acted : length w.tunnel.gateway.acted < 2 ^ 64 - 1

-- what so many events of a run bring a tunnel to, at most: each brings one endpoint, channel, request and datagram of the client, and two
-- datagrams of the gateway
pub record IsCounted (events : ℕ) (t : Tunnel) : Type 0 where
  pub endpoint : t.present ≤ events
  pub channels : made t ≤ events
  pub requests : length t.gateway.acted ≤ events
  pub up : length t.network.up ≤ events
  pub down : length t.network.down ≤ 2 * events
