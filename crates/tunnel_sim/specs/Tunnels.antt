-- What is held of a tunnel (ISO 22510, Core and Tunnelling; UDP over IPv4): the client's present endpoint, the youngest datagrams of both
-- senders, the gateway, and the time. Older datagrams aren't held, since they arrive no more.
use Rattle.std.specs.Prelude.{◌≡◌, ℕ, ◌-◌, ◌^◌, ◌≤◌, List, length, Option, Some, None, slice_get}
use Rattle.knx_model.specs.declared.frames.ip.IpFrame.{IpFrame}
use Rattle.line_model.specs.Network.{Sent}
use Rattle.line_model.specs.Reading.{datagram_in}
use Rattle.line_model.specs.Tunnel.{Tunnel}
use Rattle.line_model.specs.World.{AtGateway, Comes, IsLost}
use Rattle.tunnel_sim.specs.declared.tunnel.sending.AtGateway.{AtGateway as HeldAtGateway}
use Rattle.tunnel_sim.specs.declared.tunnel.sending.AtGateway.TheVariants as held
use Rattle.tunnel_sim.specs.declared.tunnel.Tunnel.{Tunnel as HeldTunnel}
use Rattle.tunnel_sim.specs.Gateways.{GatewayNow, IsGateway, gateway_now}
use Rattle.network_sim.specs.Window.{Window, window_of}

pub record TunnelNow : Type 0 where
  pub present : ℕ  -- the client's endpoint
  pub up : Window  -- the datagrams of the client
  pub down : Window  -- those of the gateway
  pub gateway : GatewayNow
  pub now : ℕ

abbrev pub tunnel_now : HeldTunnel → TunnelNow
tunnel_now t = record { present = t.present; up = t.up; down = t.down; gateway = gateway_now t.gateway; now = t.time }

-- ---- of which tunnels it is a picture

-- a datagram of KNXnet/IP has at most 300 octets here
abbrev pub AreShort : List Sent → Type 0
AreShort sent = (age : ℕ) (s : Sent) → slice_get sent age ≡ Some s → length s.octets ≤ 300

pub record IsTunnel (n : TunnelNow) (t : Tunnel) : Type 0 where
  pub present : t.present ≡ n.present
  pub now : t.now ≡ n.now
  pub up : window_of t.network.up ≡ n.up
  pub down : window_of t.network.down ≡ n.down
  pub short : AreShort t.network.down
  pub gateway : IsGateway n.gateway t.gateway

abbrev pub greatest_endpoint : ℕ
greatest_endpoint = 2 ^ 64 - 1

-- ---- what arrives: an endpoint and a frame

abbrev pub from_endpoint : ℕ → Option IpFrame → Option (ℕ × IpFrame)
from_endpoint endpoint None = None
from_endpoint endpoint (Some frame) = Some (endpoint, frame)

abbrev pub arrival_of : Option Sent → Option (ℕ × IpFrame)
arrival_of None = None
arrival_of (Some s) = from_endpoint s.endpoint (datagram_in s.octets)

-- whether the gateway hears a device's frame
abbrev pub at_gateway : HeldAtGateway → AtGateway
at_gateway held.Comes = Comes
at_gateway held.IsLost = IsLost
