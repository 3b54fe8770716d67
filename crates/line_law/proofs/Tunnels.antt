-- The events of the tunnel of which the client's record has no entry.
use Rattle.std.proofs.Common.{◌≡◌, ℕ, List, ◌∷◌, Bool, true, false, cond, Option, Some, None, refl, sym, ◌∙◌, ap, subst}
use Rattle.std.specs.Prelude.{◌==◌, slice_get}
use Rattle.knx_model.specs.declared.frames.ip.IpFrame.{IpFrame}
use Rattle.line_model.specs.Gateway.{Channel, Gateway, GatewayTook, Request, hears, took, gateway_took, closed_if_open}
use Rattle.line_model.specs.Network.{Sent, changed_at, once_more, gone}
use Rattle.line_model.specs.Reading.{datagram_in}
use Rattle.line_model.specs.Record.{Entry}
use Rattle.line_model.specs.Tunnel.{Tunnel, with_gateway, with_up, with_down, sends_down_if, answers, takes_frame, takes_sent, refuses, repeated, repeats_request, repeats, closes}
use Rattle.line_model.specs.World.{World, Up, UpRefused, LoseUp, LoseDown, GwRepeat, GwClose}
use Rattle.session_law.specs.World.{World as SessionWorld}
use Rattle.tunnel_law.proofs.Fits.{books}
use Rattle.tunnel_law.proofs.Took.{InvT}
use Rattle.line_law.proofs.Coupled.{Coupled, Goes}
use Rattle.line_law.proofs.Bus.{after_world}
use Rattle.line_law.proofs.OnBus.{goes_none}
use Rattle.line_law.proofs.Gates.{IsNew}
use Rattle.line_law.proofs.GateCloses.{gate_world, SameOpen, with_channel, channel_kept, shut_kept}
use Rattle.line_law.proofs.Acting.{UpOnce}
use Rattle.line_law.proofs.Putting.{tunnel_kept}
use Rattle.line_law.proofs.Facts.{new_place}
use Rattle.line_law.proofs.Taking.{goes_on, took_kept}

-- ---- a datagram that the gateway sends changes nothing else

sends_gateway : (t : Tunnel) (e : ℕ) (o : Option IpFrame) → (sends_down_if t e o).gateway ≡ t.gateway
sends_gateway t e None = refl
sends_gateway t e (Some f) = refl

sends_present : (t : Tunnel) (e : ℕ) (o : Option IpFrame) → (sends_down_if t e o).present ≡ t.present
sends_present t e None = refl
sends_present t e (Some f) = refl

sends_now : (t : Tunnel) (e : ℕ) (o : Option IpFrame) → (sends_down_if t e o).now ≡ t.now
sends_now t e None = refl
sends_now t e (Some f) = refl

abbrev tunnel_world : World → Tunnel → World
tunnel_world w t = record { tunnel = t; devices = w.devices; echo = w.echo }

-- ---- it takes one

hears_if : (c d : Channel) (b : Bool) → SameOpen (Some c) (cond b (Some d) (Some c))
hears_if c d true = tt
hears_if c d false = tt

hears_open : (o : Option Channel) (from t : ℕ) → SameOpen o (hears o from t)
hears_open None from t = tt
hears_open (Some c) from t = hears_if c (record c { heard = t }) (c.endpoint == from)

-- what the gateway took
answers_kept : (a : ℕ) (w : World) (r : List Entry) (s : SessionWorld) (t : Tunnel) (from : ℕ) (frame : IpFrame) → t.gateway ≡ w.tunnel.gateway → t.present ≡ w.tunnel.present → t.now ≡ w.tunnel.now → Coupled a w r s → InvT (books r) w.tunnel
    → InvT (books r) (answers t from (gateway_took t.gateway from t.now frame)) → UpOnce (answers t from (gateway_took t.gateway from t.now frame)).gateway r → Goes a (tunnel_world w (answers t from (gateway_took t.gateway from t.now frame))) r s
unfolding gateway_took
answers_kept a w r s t from frame g p n h i k once =
    let heard : Gateway = with_channel t.gateway (hears t.gateway.channel from t.now) in
    let k1 : GatewayTook = took heard from t.now frame in
    let w1 : World = tunnel_world w t in
    let h1 : Coupled a w1 r s = tunnel_kept a w r s t g p n h in
    let h2 : Coupled a (gate_world w1 heard) r s = channel_kept a w1 r s (hears t.gateway.channel from t.now) (hears_open t.gateway.channel from t.now) h1 in
    let i1 : InvT (books r) w.tunnel = i in
    let new : k1.after.makers ≡ from ∷ t.gateway.makers → IsNew t.gateway.makers r from
    = λ m. subst (λ (z : Gateway). IsNew z.makers r from) (sym g)
    (new_place r w.tunnel (answers t from k1) from i k (ap (λ (z : Gateway). z.makers) (sends_gateway (with_gateway t k1.after) from k1.send) ∙ m ∙ ap (λ (z : Gateway). from ∷ z.makers) g)) in
    let done : Goes a (gate_world (gate_world w1 heard) k1.after) r s = took_kept a (gate_world w1 heard) r s from t.now h2 frame new (subst (λ (z : Gateway). UpOnce z r) (sends_gateway (with_gateway t k1.after) from k1.send) once) in
    goes_on a (gate_world (gate_world w1 heard) k1.after) (tunnel_world w (answers t from k1)) r r s
    (λ z q. tunnel_kept a (gate_world (gate_world w1 heard) k1.after) r z (answers t from k1) (sends_gateway (with_gateway t k1.after) from k1.send) (sends_present (with_gateway t k1.after) from k1.send) (sends_now (with_gateway t k1.after) from k1.send) q) done

frame_kept : (a : ℕ) (w : World) (r : List Entry) (s : SessionWorld) (t : Tunnel) (from : ℕ) (o : Option IpFrame) → t.gateway ≡ w.tunnel.gateway → t.present ≡ w.tunnel.present → t.now ≡ w.tunnel.now → Coupled a w r s → InvT (books r) w.tunnel
    → InvT (books r) (takes_frame t from o) → UpOnce (takes_frame t from o).gateway r → Goes a (tunnel_world w (takes_frame t from o)) r s
frame_kept a w r s t from None g p n h i k once = goes_none a (tunnel_world w t) r s (tunnel_kept a w r s t g p n h)
frame_kept a w r s t from (Some frame) g p n h i k once = answers_kept a w r s t from frame g p n h i k once

sent_kept : (a : ℕ) (w : World) (r : List Entry) (s : SessionWorld) (t : Tunnel) (o : Option Sent) → t.gateway ≡ w.tunnel.gateway → t.present ≡ w.tunnel.present → t.now ≡ w.tunnel.now → Coupled a w r s → InvT (books r) w.tunnel
    → InvT (books r) (takes_sent t o) → UpOnce (takes_sent t o).gateway r → Goes a (tunnel_world w (takes_sent t o)) r s
sent_kept a w r s t None g p n h i k once = goes_none a (tunnel_world w t) r s (tunnel_kept a w r s t g p n h)
sent_kept a w r s t (Some d) g p n h i k once = frame_kept a w r s t d.endpoint (datagram_in d.octets) g p n h i k once

pub up_kept : (a : ℕ) (w : World) (r : List Entry) (s : SessionWorld) (age : ℕ) → Coupled a w r s → InvT (books r) w.tunnel → InvT (books r) (after_world w (Up age)).tunnel → UpOnce (after_world w (Up age)).tunnel.gateway r → Goes a (after_world w (Up age)) r s
up_kept a w r s age h i k once = sent_kept a w r s (with_up w.tunnel (changed_at age once_more w.tunnel.network.up)) (slice_get w.tunnel.network.up age) refl refl refl h i k once

refused_by : (a : ℕ) (w : World) (r : List Entry) (s : SessionWorld) (t : Tunnel) (status : ℕ) (o : Option Sent) → t.gateway ≡ w.tunnel.gateway → t.present ≡ w.tunnel.present → t.now ≡ w.tunnel.now → Coupled a w r s → Goes a (tunnel_world w (refuses t status o)) r s
refused_by a w r s t status None g p n h = goes_none a (tunnel_world w t) r s (tunnel_kept a w r s t g p n h)
refused_by a w r s t status (Some d) g p n h = goes_none a (tunnel_world w (refuses t status (Some d))) r s (tunnel_kept a w r s (refuses t status (Some d)) g p n h)

pub refused_kept : (a : ℕ) (w : World) (r : List Entry) (s : SessionWorld) (age status : ℕ) → Coupled a w r s → Goes a (after_world w (UpRefused age status)) r s
refused_kept a w r s age status h = refused_by a w r s (with_up w.tunnel (changed_at age once_more w.tunnel.network.up)) status (slice_get w.tunnel.network.up age) refl refl refl h

pub lost_up_kept : (a : ℕ) (w : World) (r : List Entry) (s : SessionWorld) (age : ℕ) → Coupled a w r s → Goes a (after_world w (LoseUp age)) r s
lost_up_kept a w r s age h = goes_none a (after_world w (LoseUp age)) r s (tunnel_kept a w r s (with_up w.tunnel (changed_at age gone w.tunnel.network.up)) refl refl refl h)

pub lost_down_kept : (a : ℕ) (w : World) (r : List Entry) (s : SessionWorld) (age : ℕ) → Coupled a w r s → Goes a (after_world w (LoseDown age)) r s
lost_down_kept a w r s age h = goes_none a (after_world w (LoseDown age)) r s (tunnel_kept a w r s (with_down w.tunnel (changed_at age gone w.tunnel.network.down)) refl refl refl h)

-- ---- it sends its request again, and closes

request_kept : (a : ℕ) (w : World) (r : List Entry) (s : SessionWorld) (c : Channel) (o : Option Request) → w.tunnel.gateway.channel ≡ Some c → Coupled a w r s → Goes a (tunnel_world w (repeats_request w.tunnel c o)) r s
request_kept a w r s c None is h = goes_none a w r s h
request_kept a w r s c (Some q) is h =
    let d : Option Channel = Some (repeated c q w.tunnel.now) in
    let w1 : World = gate_world w (with_channel w.tunnel.gateway d) in
    goes_none a (tunnel_world w (repeats_request w.tunnel c (Some q))) r s
    (tunnel_kept a w1 r s (repeats_request w.tunnel c (Some q)) refl refl refl (channel_kept a w r s d (subst (λ z. SameOpen z d) (sym is) tt) h))

again_by : (a : ℕ) (w : World) (r : List Entry) (s : SessionWorld) (o : Option Channel) → w.tunnel.gateway.channel ≡ o → Coupled a w r s → Goes a (tunnel_world w (repeats w.tunnel o)) r s
again_by a w r s None is h = goes_none a w r s h
again_by a w r s (Some c) is h = request_kept a w r s c c.outstanding is h

pub again_kept : (a : ℕ) (w : World) (r : List Entry) (s : SessionWorld) → Coupled a w r s → Goes a (after_world w GwRepeat) r s
again_kept a w r s h = again_by a w r s w.tunnel.gateway.channel refl h

closes_by : (a : ℕ) (w : World) (r : List Entry) (s : SessionWorld) (o : Option Channel) → w.tunnel.gateway.channel ≡ o → Coupled a w r s → Goes a (tunnel_world w (closes w.tunnel o)) r s
closes_by a w r s None is h = goes_none a w r s h
closes_by a w r s (Some c) is h =
    let w1 : World = gate_world w (closed_if_open w.tunnel.gateway (Some c)) in
    goes_on a w1 (tunnel_world w (closes w.tunnel (Some c))) r r s
    (λ z q. tunnel_kept a w1 r z (closes w.tunnel (Some c)) (ap (closed_if_open w.tunnel.gateway) is) refl refl q) (shut_kept a w r s h)

pub closes_kept : (a : ℕ) (w : World) (r : List Entry) (s : SessionWorld) → Coupled a w r s → Goes a (after_world w GwClose) r s
closes_kept a w r s h = closes_by a w r s w.tunnel.gateway.channel refl h
