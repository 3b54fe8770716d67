-- Time goes on only where it passes, so the newest entry of a run's places has its time.
use Rattle.std.proofs.Common.{◌≡◌, ℕ, ◌≤◌, List, [], ◌∷◌, length, Option, Some, None, refl, sym, ap, ◌∙◌, arith}
use Rattle.knx_model.specs.declared.frames.cemi.Ldata.{Ldata}
use Rattle.knx_model.specs.declared.frames.ip.IpFrame.{IpFrame}
use Rattle.line_model.specs.Network.{Sent, changed_at, once_more}
use Rattle.std.specs.Prelude.{slice_get}
use Rattle.line_model.specs.Gateway.{Channel, Request, next_put, gateway_took}
use Rattle.line_model.specs.Reading.{datagram_in}
use Rattle.line_model.specs.Record.{Item, Entry, item_of, item_at, placed, placed_if, counted, entries}
use Rattle.line_model.specs.Tunnel.{Tunnel, TunnelEvent, Send, From, Renew, Up, UpRefused, Down, LoseUp, LoseDown, Carried, Heard, Repeat, Close, Pass, Elsewhere, with_gateway, with_up, sends_down_if, takes_frame, takes_sent, refuses, puts, puts_next, repeats, repeats_request, closes, after}
use Rattle.line_model.specs.World.{World, Event, tunnel_event, now, step, replay}
use Rattle.line_model.specs.Fresh.{IsFresh}
use Rattle.line_model.specs.LinkStory.{newest_time}

-- ---- an event of the tunnel

puts_now : (t : Tunnel) (o : Option (Channel × Ldata)) → (puts t o).now ≡ t.now
puts_now t None = refl
puts_now t (Some (c, frame)) = refl

pub next_now : (t : Tunnel) → (puts_next t).now ≡ t.now
next_now t = puts_now t (next_put t.gateway.channel t.gateway.waiting)

if_now : (t : Tunnel) (to : ℕ) (o : Option IpFrame) → (sends_down_if t to o).now ≡ t.now
if_now t to None = refl
if_now t to (Some frame) = refl

frame_now : (t : Tunnel) (from : ℕ) (o : Option IpFrame) → (takes_frame t from o).now ≡ t.now
frame_now t from None = refl
frame_now t from (Some frame) = if_now (with_gateway t (gateway_took t.gateway from t.now frame).after) from (gateway_took t.gateway from t.now frame).send

sent_now : (t : Tunnel) (o : Option Sent) → (takes_sent t o).now ≡ t.now
sent_now t None = refl
sent_now t (Some s) = frame_now t s.endpoint (datagram_in s.octets)

refused_now : (t : Tunnel) (status : ℕ) (o : Option Sent) → (refuses t status o).now ≡ t.now
refused_now t status None = refl
refused_now t status (Some s) = refl

request_now : (t : Tunnel) (c : Channel) (o : Option Request) → (repeats_request t c o).now ≡ t.now
request_now t c None = refl
request_now t c (Some r) = refl

repeats_now : (t : Tunnel) (o : Option Channel) → (repeats t o).now ≡ t.now
repeats_now t None = refl
repeats_now t (Some c) = request_now t c c.outstanding

closes_now : (t : Tunnel) (o : Option Channel) → (closes t o).now ≡ t.now
closes_now t None = refl
closes_now t (Some c) = refl

same_le : (a b : ℕ) → b ≡ a → a ≤ b
same_le a b h = omega arith

-- what is no entry of the record takes no time
unmoved : (t : Tunnel) (e : TunnelEvent) → item_of t e ≡ None → (after t e).now ≡ t.now
unmoved t (Send octets) h = absurd (cc)
unmoved t (From endpoint octets) h = absurd (cc)
unmoved t Renew h = absurd (cc)
unmoved t (Up age) h = sent_now (with_up t (changed_at age once_more t.network.up)) (slice_get t.network.up age)
unmoved t (UpRefused age status) h = refused_now (with_up t (changed_at age once_more t.network.up)) status (slice_get t.network.up age)
unmoved t (Down age) h = refl
unmoved t (LoseUp age) h = refl
unmoved t (LoseDown age) h = refl
unmoved t (Carried confirmation) h = refl
unmoved t (Heard frames) h = refl
unmoved t Repeat h = repeats_now t t.gateway.channel
unmoved t Close h = closes_now t t.gateway.channel
unmoved t (Pass ms) h = absurd (cc)
unmoved t Elsewhere h = refl

pub same_now : (w : World) (e : Event) → item_at w e ≡ None → now (step w e) ≡ now w
same_now w e h = next_now (after w.tunnel (tunnel_event w e)) ∙ unmoved w.tunnel (tunnel_event w e) h

-- time never falls
moves : (t : Tunnel) (e : TunnelEvent) → t.now ≤ (after t e).now
moves t (Send octets) = omega arith
moves t (From endpoint octets) = omega arith
moves t Renew = omega arith
moves t (Up age) = same_le _ _ (sent_now (with_up t (changed_at age once_more t.network.up)) (slice_get t.network.up age))
moves t (UpRefused age status) = same_le _ _ (refused_now (with_up t (changed_at age once_more t.network.up)) status (slice_get t.network.up age))
moves t (Down age) = omega arith
moves t (LoseUp age) = omega arith
moves t (LoseDown age) = omega arith
moves t (Carried confirmation) = omega arith
moves t (Heard frames) = omega arith
moves t Repeat = same_le _ _ (repeats_now t t.gateway.channel)
moves t Close = same_le _ _ (closes_now t t.gateway.channel)
moves t (Pass ms) = omega arith
moves t Elsewhere = omega arith

pub never_falls : (w : World) (e : Event) → now w ≤ now (step w e)
never_falls w e = let h = moves w.tunnel (tunnel_event w e) in let n = next_now (after w.tunnel (tunnel_event w e)) in omega arith

-- ---- the newest entry

module _ (start : World) (e : Event) (events : List Event) (before : newest_time (entries (placed start events)) ≡ now (replay start events)) where
  by_item : (o : Option Item) → item_at (replay start events) e ≡ o
      → newest_time (entries (placed_if (length (e ∷ events)) (now (replay start (e ∷ events))) o (placed start events))) ≡ now (replay start (e ∷ events))
  by_item None h = before ∙ sym (same_now (replay start events) e h)
  by_item (Some what) h = refl

pub newest_is_now : (start : World) (events : List Event) → IsFresh start → newest_time (entries (placed start events)) ≡ now (replay start events)
newest_is_now start [] fresh = sym (ap (λ (t : Tunnel). t.now) fresh.tunnel)
newest_is_now start (e ∷ events) fresh = by_item start e events (newest_is_now start events fresh) (item_at (replay start events) e) refl

pub newest_counted : (r : List Entry) → newest_time (entries (counted r)) ≡ newest_time r
newest_counted [] = refl
newest_counted (x ∷ r) = refl
