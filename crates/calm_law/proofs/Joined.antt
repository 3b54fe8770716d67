-- Each event of a calm line keeps tunnel and sessions together: time passes in a wait alone, and no channel becomes fresh but by a new endpoint.
use Rattle.knx_model.specs.declared.frames.cemi.Ldata.{Ldata}
use Rattle.std.proofs.Common.{◌≡◌, ℕ, [], ◌∷◌, Bool, true, false, cond, ◌&&◌, Option, Some, None, refl, ◌∙◌, ap}
use Rattle.std.specs.Prelude.{◌==◌, slice_get}
use Rattle.line_model.specs.Reading.{datagram_in}
use Rattle.line_model.specs.Network.{Sent, changed_at, once_more}
use Rattle.line_model.specs.Gateway.{Channel, Request, gateway_took}
use Rattle.line_model.specs.Tunnel as tunnel
use Rattle.line_model.specs.Tunnel.{Tunnel, TunnelEvent, with_gateway, with_up, sends_down_if, takes_frame, takes_sent, refuses, puts, repeats, repeats_request, closes}
use Rattle.knx_model.specs.Connection.{has_passed}
use Rattle.knx_model.specs.declared.frames.ip.IpFrame.{IpFrame}
use Rattle.knx_model.specs.declared.frames.ip.IpFrame.TheVariants.{ConnectRequest, ConnectResponse, StateRequest, StateResponse, DisconnectRequest, DisconnectResponse, TunnellingRequest, TunnellingAck}
use Rattle.line_model.specs.ChannelLost.{is_lost}
use Rattle.line_model.specs.Gateway.{next_put}
use Rattle.line_model.specs.Record.{Entry, is_renewal, is_poll, got_in}
use Rattle.line_model.specs.ClientView.{ClientChannel, Fresh, Sought, RefusedBy, Unanswered, Open, Lost, sought_got, goes_on, after_entry, channel}

-- ---- time passes in a wait alone

module _ (t : Tunnel) where
  abbrev Still : Tunnel → Type 0
  Still n = n.now ≡ t.now

  sends_now : (n : Tunnel) (e : ℕ) (o : Option IpFrame) → Still n → Still (sends_down_if n e o)
  sends_now n e None h = h
  sends_now n e (Some f) h = h

  frame_now : (n : Tunnel) (from : ℕ) (o : Option IpFrame) → Still n → Still (takes_frame n from o)
  frame_now n from None h = h
  frame_now n from (Some f) h = sends_now (with_gateway n (gateway_took n.gateway from n.now f).after) from (gateway_took n.gateway from n.now f).send h

  sent_now : (n : Tunnel) (o : Option Sent) → Still n → Still (takes_sent n o)
  sent_now n None h = h
  sent_now n (Some s) h = frame_now n s.endpoint (datagram_in s.octets) h

  repeats_now : (o : Option Channel) → Still (repeats t o)
  repeats_now None = refl
  repeats_now (Some c) = by_request c.outstanding where
    by_request : (r : Option Request) → Still (repeats_request t c r)
    by_request None = refl
    by_request (Some r) = refl

  closes_now : (o : Option Channel) → Still (closes t o)
  closes_now None = refl
  closes_now (Some c) = refl

  pub up_now : (age : ℕ) → Still (tunnel.after t (tunnel.Up age))
  up_now age = sent_now (with_up t (changed_at age once_more t.network.up)) (slice_get t.network.up age) refl

  pub repeat_now : Still (tunnel.after t tunnel.Repeat)
  repeat_now = repeats_now t.gateway.channel

  pub close_now : Still (tunnel.after t tunnel.Close)
  close_now = closes_now t.gateway.channel

  pub step_now : (e : TunnelEvent) → (tunnel.step t e).now ≡ (tunnel.after t e).now
  step_now e = by_put (next_put (tunnel.after t e).gateway.channel (tunnel.after t e).gateway.waiting) where
    by_put : (o : Option (Channel × Ldata)) → (puts (tunnel.after t e) o).now ≡ (tunnel.after t e).now
    by_put None = refl
    by_put (Some x) = refl

-- ---- a fresh channel was fresh before, but for a new endpoint

abbrev is_fresh : ClientChannel → Bool
is_fresh Fresh = true
is_fresh (Sought since) = false
is_fresh (RefusedBy status) = false
is_fresh Unanswered = false
is_fresh (Open c l) = false
is_fresh (Lost c) = false

answered_not : (b : Bool) (channel status : ℕ) (x : Entry) → is_fresh (cond b (Open channel (x ∷ [])) (RefusedBy status)) ≡ false
answered_not true channel status x = refl
answered_not false channel status x = refl

got_not : (since : ℕ) (x : Entry) (o : Option IpFrame) → is_fresh (sought_got since x o) ≡ false
got_not since x None = refl
got_not since x (Some ConnectRequest) = refl
got_not since x (Some (ConnectResponse c s t)) = answered_not (s == 0) c s x
got_not since x (Some (StateRequest c)) = refl
got_not since x (Some (StateResponse c s)) = refl
got_not since x (Some (DisconnectRequest c)) = refl
got_not since x (Some (DisconnectResponse c s)) = refl
got_not since x (Some (TunnellingRequest c n p)) = refl
got_not since x (Some (TunnellingAck c n s)) = refl

either_not : (b : Bool) (x y : ClientChannel) → is_fresh x ≡ false → is_fresh y ≡ false → is_fresh (cond b x y) ≡ false
either_not true x y a b = a
either_not false x y a b = b

goes_not : (c : ClientChannel) (x : Entry) → is_fresh c ≡ false → is_fresh (goes_on c x) ≡ false
goes_not Fresh x h = absurd (cc)
goes_not (Sought since) x h = either_not (is_poll x.what && has_passed 10000 since x.now) Unanswered (sought_got since x (got_in x.what)) refl (got_not since x (got_in x.what))
goes_not (RefusedBy status) x h = refl
goes_not Unanswered x h = refl
goes_not (Open c l) x h = either_not (is_lost c l x) (Lost c) (Open c (x ∷ l)) refl refl
goes_not (Lost c) x h = refl

after_plain : (c : ClientChannel) (x : Entry) → is_renewal x.what ≡ false → after_entry c x ≡ goes_on c x
unfolding after_entry
after_plain c x n = rw n refl

is_it : (c : ClientChannel) → is_fresh c ≡ true → c ≡ Fresh
is_it Fresh h = refl
is_it (Sought since) h = absurd (cc)
is_it (RefusedBy status) h = absurd (cc)
is_it Unanswered h = absurd (cc)
is_it (Open c l) h = absurd (cc)
is_it (Lost c) h = absurd (cc)

pub fresh_before : (c : ClientChannel) (x : Entry) → is_renewal x.what ≡ false → after_entry c x ≡ Fresh → c ≡ Fresh
fresh_before c x n h = by_fresh (is_fresh c) refl where
  by_fresh : (b : Bool) → is_fresh c ≡ b → c ≡ Fresh
  by_fresh true e = is_it c e
  by_fresh false e = absurd (let a : is_fresh (after_entry c x) ≡ false = ap is_fresh (after_plain c x n) ∙ goes_not c x e in let b : is_fresh (after_entry c x) ≡ true = ap is_fresh h in cc)
