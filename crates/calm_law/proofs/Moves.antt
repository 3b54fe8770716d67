-- All devices of a calm line: what an entry of the client's record is to a device, and that the tunnel keeps its address.
use Rattle.std.proofs.Common.{◌≡◌, ℕ, ◌⊎◌, List, Bool, true, false, cond, Option, Some, None, refl, sym, ◌∙◌, ap, inl, inr}
use Rattle.std.specs.Prelude.{◌==◌, slice_get, length}
use Rattle.knx_model.specs.declared.connection.TransportFrame.{TransportFrame}
use Rattle.knx_model.specs.declared.connection.TransportFrame.TheVariants.{Other}
use Rattle.knx_model.specs.declared.frames.cemi.Ldata.{Ldata}
use Rattle.knx_model.specs.declared.frames.cemi.LdataCode.{LdataCode}
use Rattle.knx_model.specs.declared.frames.cemi.LdataCode.TheVariants.{Req, Con, Ind}
use Rattle.knx_model.specs.declared.frames.ip.IpFrame.{IpFrame}
use Rattle.knx_model.specs.declared.frames.ip.IpFrame.TheVariants.{ConnectRequest, ConnectResponse, StateRequest, StateResponse, DisconnectRequest, DisconnectResponse, TunnellingRequest, TunnellingAck}
use Rattle.knx_model.specs.Cemi.{Written as cemi_octets}
use Rattle.line_model.specs.ChannelLost.{is_confirmation}
use Rattle.knx_model.specs.Connection.{frame_in}
use Rattle.line_model.specs.Reading.{ldata_in, is_req, is_con, is_ind, datagram_in}
use Rattle.line_model.specs.Network.{Sent, changed_at, once_more}
use Rattle.line_model.specs.Gateway.{Gateway, Channel, Request, GatewayTook, hears, took, gateway_took, connects, makes, closed, closed_if_open, request_took, acts_on, names, answers, drops, acknowledged, next_number, next_put, number_of}
use Rattle.line_model.specs.Tunnel.{Tunnel, TunnelEvent, Send, From, Renew, Up as Arrives, UpRefused, Down, LoseUp, LoseDown, Carried, Heard, Repeat, Close, Pass, Elsewhere, with_gateway, with_up, takes_frame, takes_sent, sends_down_if, refuses, puts, repeats, repeats_request, closes, after, step}
use Rattle.line_model.specs.ClientView.{Deed, Puts, Takes, Nothing}
use Rattle.line_model.specs.Moments.{Moment, transport_of, error_of, is_to, is_from, where_is, put_frame, put_to, confirmation_in, heard_from, is_loss}
use Rattle.calm_law.proofs.Books.{Says}
use Rattle.calm_law.proofs.Rows.{to_it, con_in, frame_from, IsTold, IsTaken}

-- ---- an entry

says_of : (a : ℕ) (m : Moment) (what : Deed) (p : Option TransportFrame) (c : Option Bool) (h : Option TransportFrame) → m.what ≡ what → is_loss what ≡ false → put_to a what ≡ p → confirmation_in what ≡ c → heard_from a what ≡ h → Says a m p c h
says_of a m what p c h is l put con heard = record { lasts = ap is_loss is ∙ l; put = ap (put_to a) is ∙ put; confirmed = ap confirmation_in is ∙ con; heard = ap (heard_from a) is ∙ heard }

pub says_nothing : (a : ℕ) (m : Moment) → m.what ≡ Nothing → Says a m None None None
says_nothing a m is = says_of a m Nothing None None None is refl refl refl refl

found : (b : Bool) (f : Ldata) → transport_of (cond b (Some f) None) ≡ to_it b (frame_in f.tpdu)
found true f = refl
found false f = refl

-- a request of the client
pub says_put : (a : ℕ) (m : Moment) (octets : List ℕ) (f : Ldata) → m.what ≡ Puts octets → ldata_in octets ≡ Some f → is_req f.code ≡ true → Says a m (to_it (is_to a f) (frame_in f.tpdu)) None None
says_put a m octets f is reads request =
    let frame : put_frame (Puts octets) ≡ Some f = ap (where_is (λ (z : Ldata). is_req z.code)) reads ∙ ap (λ b. cond b (Some f) None) request in
    says_of a m (Puts octets) (to_it (is_to a f) (frame_in f.tpdu)) None None is refl (ap (λ z. transport_of (where_is (is_to a) z)) frame ∙ found (is_to a f) f) refl refl

-- a frame that is taken
con_found : (b : Bool) (f : Ldata) → error_of (cond b (Some f) None) ≡ cond b (Some f.error) None
con_found true f = refl
con_found false f = refl

heard_by : (a : ℕ) (y : Ldata) (code : LdataCode) → y.code ≡ code → (code ≡ Req → ⊥) → transport_of (where_is (is_from a) (cond (is_ind code) (Some y) None)) ≡ cond (is_con code) None (to_it (is_from a y) (frame_in y.tpdu))
heard_by a y Req is not_req = absurd (not_req refl)
heard_by a y Con is not_req = refl
heard_by a y Ind is not_req = found (is_from a y) y

pub says_take : (a : ℕ) (m : Moment) (octets : List ℕ) (y : Ldata) → m.what ≡ Takes octets → cemi_octets y ≡ octets → IsTold y → IsTaken a m y
says_take a m octets y is content told = by_read told.reads where
  with_octets : ldata_in (cemi_octets y) ≡ ldata_in octets
  with_octets = ap ldata_in content

  by_read : (ldata_in (cemi_octets y) ≡ Some y) ⊎ ((ldata_in (cemi_octets y) ≡ None) × (frame_in y.tpdu ≡ Other)) → IsTaken a m y
  by_read (inl e) =
      let reads : ldata_in octets ≡ Some y = sym with_octets ∙ e in
      inl (says_of a m (Takes octets) None (con_in y) (frame_from a y) is refl refl (ap (λ z. error_of (where_is (λ (f : Ldata). is_con f.code) z)) reads ∙ con_found (is_con y.code) y)
      (ap (λ z. transport_of (where_is (is_from a) (where_is (λ (f : Ldata). is_ind f.code) z))) reads ∙ heard_by a y y.code refl told.not_req))
  by_read (inr u) =
      let unread : ldata_in octets ≡ None = sym with_octets ∙ u.0 in
      inr (
        says_of a m (Takes octets) None None None is refl refl (ap (λ z. error_of (where_is (λ (f : Ldata). is_con f.code) z)) unread) (ap (λ z. transport_of (where_is (is_from a) (where_is (λ (f : Ldata). is_ind f.code) z))) unread),
        sym told.con_is ∙ ap is_confirmation u.0,
        u.1,
      )

-- ---- the tunnel's address

took_same : (g : Gateway) (from now : ℕ) (f : IpFrame) → (took g from now f).after.tunnel ≡ g.tunnel
took_same g from now ConnectRequest = by_channel g.channel refl where
  closed_same : (c : Option Channel) → (closed_if_open g c).tunnel ≡ g.tunnel
  closed_same None = refl
  closed_same (Some c) = refl

  by_endpoint : (c : Channel) (b : Bool) → (cond b (answers (ConnectResponse c.number 0 (Some g.tunnel)) g) (answers (ConnectResponse (number_of (length g.makers)) 0 (Some g.tunnel)) (makes (closed g) from now))).after.tunnel ≡ g.tunnel
  by_endpoint c true = refl
  by_endpoint c false = closed_same g.channel

  by_channel : (c : Option Channel) → g.channel ≡ c → (connects g from now c).after.tunnel ≡ g.tunnel
  by_channel None e = refl
  by_channel (Some c) e = by_endpoint c (c.endpoint == from)
took_same g from now (ConnectResponse c s t) = refl
took_same g from now (StateRequest c) = by_name (names from c g.channel) where
  by_name : (b : Bool) → (cond b (answers (StateResponse c 0) g) (drops g)).after.tunnel ≡ g.tunnel
  by_name true = refl
  by_name false = refl
took_same g from now (StateResponse c s) = refl
took_same g from now (DisconnectRequest c) = by_name (names from c g.channel) where
  closed_same : (c : Option Channel) → (closed_if_open g c).tunnel ≡ g.tunnel
  closed_same None = refl
  closed_same (Some c) = refl

  by_name : (b : Bool) → (cond b (answers (DisconnectResponse c 0) (closed g)) (answers (DisconnectResponse c 0x21) g)).after.tunnel ≡ g.tunnel
  by_name true = closed_same g.channel
  by_name false = refl
took_same g from now (DisconnectResponse c s) = refl
took_same g from now (TunnellingRequest c n p) = by_name (names from c g.channel) where
  acting : Channel → GatewayTook
  acting x = record { send = Some (TunnellingAck x.number n 0); acted = Some p; after = acts_on g x p }

  by_number : (x : Channel) (a b : Bool) → (cond a (acting x) (cond b (answers (TunnellingAck x.number n 0) g) (drops g))).after.tunnel ≡ g.tunnel
  by_number x true b = refl
  by_number x false true = refl
  by_number x false false = refl

  request : (o : Option Channel) → (request_took g o n p).after.tunnel ≡ g.tunnel
  request None = refl
  request (Some x) = by_number x (n == x.expected) (next_number n == x.expected)

  by_name : (b : Bool) → (cond b (request_took g g.channel n p) (drops g)).after.tunnel ≡ g.tunnel
  by_name true = request g.channel
  by_name false = refl
took_same g from now (TunnellingAck c n s) = by_name (names from c g.channel) where
  acked : (o : Option Channel) → (acknowledged g o n s).tunnel ≡ g.tunnel
  acked None = refl
  acked (Some x) = refl

  by_name : (b : Bool) → (cond b (drops (acknowledged g g.channel n s)) (drops g)).after.tunnel ≡ g.tunnel
  by_name true = acked g.channel
  by_name false = refl

gateway_same : (g : Gateway) (from now : ℕ) (f : IpFrame) → (gateway_took g from now f).after.tunnel ≡ g.tunnel
unfolding gateway_took
gateway_same g from now f = took_same (record g { channel = hears g.channel from now }) from now f

module _ (t : Tunnel) where
  abbrev Same : Tunnel → Type 0
  Same n = n.gateway.tunnel ≡ t.gateway.tunnel

  sends_same : (n : Tunnel) (e : ℕ) (o : Option IpFrame) → Same n → Same (sends_down_if n e o)
  sends_same n e None h = h
  sends_same n e (Some f) h = h

  frame_same : (n : Tunnel) (from : ℕ) (o : Option IpFrame) → n.gateway ≡ t.gateway → Same (takes_frame n from o)
  frame_same n from None h = ap (λ (g : Gateway). g.tunnel) h
  frame_same n from (Some f) h = sends_same (with_gateway n (gateway_took n.gateway from n.now f).after) from (gateway_took n.gateway from n.now f).send (gateway_same n.gateway from n.now f ∙ ap (λ (g : Gateway). g.tunnel) h)

  sent_same : (n : Tunnel) (o : Option Sent) → n.gateway ≡ t.gateway → Same (takes_sent n o)
  sent_same n None h = ap (λ (g : Gateway). g.tunnel) h
  sent_same n (Some s) h = frame_same n s.endpoint (datagram_in s.octets) h

  refuses_same : (n : Tunnel) (status : ℕ) (o : Option Sent) → n.gateway ≡ t.gateway → Same (refuses n status o)
  refuses_same n status None h = ap (λ (g : Gateway). g.tunnel) h
  refuses_same n status (Some s) h = ap (λ (g : Gateway). g.tunnel) h

  repeats_same : (o : Option Channel) → Same (repeats t o)
  repeats_same None = refl
  repeats_same (Some c) = by_request c.outstanding where
    by_request : (r : Option Request) → Same (repeats_request t c r)
    by_request None = refl
    by_request (Some r) = refl

  closes_same : (o : Option Channel) → Same (closes t o)
  closes_same None = refl
  closes_same (Some c) = by_channel t.gateway.channel where
    by_channel : (x : Option Channel) → (closed_if_open t.gateway x).tunnel ≡ t.gateway.tunnel
    by_channel None = refl
    by_channel (Some x) = refl

  after_same : (e : TunnelEvent) → Same (after t e)
  after_same (Send octets) = refl
  after_same (From endpoint octets) = refl
  after_same Renew = refl
  after_same (Arrives age) = sent_same (with_up t (changed_at age once_more t.network.up)) (slice_get t.network.up age) refl
  after_same (UpRefused age status) = refuses_same (with_up t (changed_at age once_more t.network.up)) status (slice_get t.network.up age) refl
  after_same (Down age) = refl
  after_same (LoseUp age) = refl
  after_same (LoseDown age) = refl
  after_same (Carried confirmation) = refl
  after_same (Heard frames) = refl
  after_same Repeat = repeats_same t.gateway.channel
  after_same Close = closes_same t.gateway.channel
  after_same (Pass ms) = refl
  after_same Elsewhere = refl

  puts_same : (n : Tunnel) (o : Option (Channel × Ldata)) → Same n → Same (puts n o)
  puts_same n None h = h
  puts_same n (Some x) h = h

  pub step_same : (e : TunnelEvent) → (step t e).gateway.tunnel ≡ t.gateway.tunnel
  step_same e = puts_same (after t e) (next_put (after t e).gateway.channel (after t e).gateway.waiting) (after_same e)
