-- A calm run of a tunnel: the client seeks a channel, a frame of it goes over the bus and is confirmed, the confirmation is acknowledged, and then
-- 50 ms pass.
use Rattle.std.specs.Prelude.{false, List, [], ◌∷◌}
use Rattle.knx_model.specs.declared.address.IndAddr.{IndAddr}
use Rattle.knx_model.specs.declared.frames.cemi.Ldata.{Ldata}
use Rattle.knx_model.specs.declared.frames.cemi.LdataCode.TheVariants.{Req, Con}
use Rattle.knx_model.specs.declared.frames.ip.IpFrame.{IpFrame}
use Rattle.knx_model.specs.declared.frames.ip.IpFrame.TheVariants.{ConnectRequest, TunnellingRequest, TunnellingAck}
use Rattle.knx_model.specs.Cemi.{Written as cemi_octets}
use Rattle.knx_model.specs.KnxNetIp.{Written}
use Rattle.line_model.specs.Tunnel.{TunnelEvent, Send, Renew, Up, Down, Carried, Pass}
use Rattle.line_model.specs.World.{on_bus}

-- 1.1.255
abbrev pub gateway : IndAddr
gateway = record { raw = 0x11FF }

-- a T_Connect to 1.1.1
abbrev pub frame : Ldata
frame = record { code = Req; error = false; group = false; priority = 3; hops = 6; source = 0; destination = 0x1101; tpdu = 0x80 ∷ [] }

abbrev pub confirmation : Ldata
confirmation = record (on_bus gateway frame) { code = Con; error = false }

abbrev sends : IpFrame → TunnelEvent
sends f = Send (Written f)

-- the newest event first
abbrev pub calm_run : List TunnelEvent
calm_run =
    Pass 50 ∷ Up 0 ∷ sends (TunnellingAck 1 0 0) ∷ Down 0 ∷ Carried confirmation ∷ Down 0 ∷ Up 0 ∷ sends (TunnellingRequest 1 0 (cemi_octets frame)) ∷ Down 0 ∷ Up 0 ∷ sends ConnectRequest ∷ Renew ∷ []
