-- Time stands still but where it passes.
use Rattle.std.proofs.Common.{◌≡◌, ℕ, ◌+◌, Bool, true, false, Option, Some, None, refl, ◌∙◌}
use Rattle.std.specs.Prelude.{slice_get}
use Rattle.knx_model.specs.declared.frames.cemi.Ldata.{Ldata}
use Rattle.knx_model.specs.declared.frames.ip.IpFrame.{IpFrame}
use Rattle.line_model.specs.Gateway.{Channel, Request, gateway_took, next_put}
use Rattle.line_model.specs.Network.{Sent, changed_at, once_more}
use Rattle.line_model.specs.Reading.{datagram_in}
use Rattle.line_model.specs.Tunnel as tunnel
use Rattle.line_model.specs.Tunnel.{Tunnel, TunnelEvent, with_gateway, with_up, sends_down_if, takes_frame, takes_sent, refuses, puts, repeats_request, repeats, closes, after, step}

-- ---- what takes no time

sends_one : (t : Tunnel) (from : ℕ) (o : Option IpFrame) → (sends_down_if t from o).now ≡ t.now
sends_one t from None = refl
sends_one t from (Some frame) = refl

takes_one : (t : Tunnel) (from : ℕ) (o : Option IpFrame) → (takes_frame t from o).now ≡ t.now
takes_one t from None = refl
takes_one t from (Some frame) = sends_one (with_gateway t (gateway_took t.gateway from t.now frame).after) from (gateway_took t.gateway from t.now frame).send

takes_datagram : (t : Tunnel) (o : Option Sent) → (takes_sent t o).now ≡ t.now
takes_datagram t None = refl
takes_datagram t (Some s) = takes_one t s.endpoint (datagram_in s.octets)

refuses_datagram : (t : Tunnel) (status : ℕ) (o : Option Sent) → (refuses t status o).now ≡ t.now
refuses_datagram t status None = refl
refuses_datagram t status (Some s) = refl

puts_one : (t : Tunnel) (o : Option (Channel × Ldata)) → (puts t o).now ≡ t.now
puts_one t None = refl
puts_one t (Some (c, frame)) = refl

repeats_one : (t : Tunnel) (c : Channel) (o : Option Request) → (repeats_request t c o).now ≡ t.now
repeats_one t c None = refl
repeats_one t c (Some r) = refl

repeats_so : (t : Tunnel) (o : Option Channel) → (repeats t o).now ≡ t.now
repeats_so t None = refl
repeats_so t (Some c) = repeats_one t c c.outstanding

closes_so : (t : Tunnel) (o : Option Channel) → (closes t o).now ≡ t.now
closes_so t None = refl
closes_so t (Some c) = refl

-- ---- an event

abbrev pub still : TunnelEvent → Bool
still (tunnel.Pass ms) = false
still _ = true

timed : (t : Tunnel) (e : TunnelEvent) → still e ≡ true → (after t e).now ≡ t.now
timed t (tunnel.Send octets) s = refl
timed t (tunnel.From endpoint octets) s = refl
timed t tunnel.Renew s = refl
timed t (tunnel.Up age) s = takes_datagram (with_up t (changed_at age once_more t.network.up)) (slice_get t.network.up age)
timed t (tunnel.UpRefused age status) s = refuses_datagram (with_up t (changed_at age once_more t.network.up)) status (slice_get t.network.up age)
timed t (tunnel.Down age) s = refl
timed t (tunnel.LoseUp age) s = refl
timed t (tunnel.LoseDown age) s = refl
timed t (tunnel.Carried confirmation) s = refl
timed t (tunnel.Heard frames) s = refl
timed t tunnel.Repeat s = repeats_so t t.gateway.channel
timed t tunnel.Close s = closes_so t t.gateway.channel
timed t (tunnel.Pass ms) s = cc
timed t tunnel.Elsewhere s = refl

pub tunnel_timeless : (t : Tunnel) (e : TunnelEvent) → still e ≡ true → (step t e).now ≡ t.now
tunnel_timeless t e s = puts_one (after t e) (next_put (after t e).gateway.channel (after t e).gateway.waiting) ∙ timed t e s

pub tunnel_passes : (t : Tunnel) (ms : ℕ) → (step t (tunnel.Pass ms)).now ≡ t.now + ms
tunnel_passes t ms = puts_one (after t (tunnel.Pass ms)) (next_put (after t (tunnel.Pass ms)).gateway.channel (after t (tunnel.Pass ms)).gateway.waiting)
