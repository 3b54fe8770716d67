-- Where each frame that the client's datagrams ask for is of one kind, each frame that waits for the bus is.
use Rattle.std.proofs.Common.{◌≡◌, ℕ, zero, suc, List, [], ◌∷◌, ◌++◌, length, drop, Bool, true, false, cond, Option, Some, None, refl, subst}
use Rattle.std.specs.Prelude.{slice_get, ◌==◌}
use Rattle.knx_model.specs.declared.frames.cemi.Ldata.{Ldata}
use Rattle.knx_model.specs.declared.frames.ip.IpFrame.{IpFrame}
use Rattle.knx_model.specs.declared.frames.ip.IpFrame.TheVariants.{ConnectRequest, ConnectResponse, StateRequest, StateResponse, DisconnectRequest, DisconnectResponse, TunnellingRequest, TunnellingAck}
use Rattle.line_model.specs.Reading.{datagram_in, ldata_in, is_req}
use Rattle.line_model.specs.Network.{Sent, changed_at, once_more, gone}
use Rattle.line_model.specs.Gateway.{Gateway, Channel, Request, GatewayTook, closed_if_open, connects, makes, closed, number_of, request_took, next_number, to_bus, acts_on, drops, answers as answers_frame, acknowledged, names, took, hears, gateway_took, next_put}
use Rattle.line_model.specs.Tunnel.{Tunnel, TunnelEvent, Send, From, Renew, Up, UpRefused, Down, LoseUp, LoseDown, Carried, Heard, Repeat, Close, Pass, Elsewhere, with_gateway, with_up, sends_down_if, takes_frame, takes_sent, refuses, puts, repeats, repeats_request, closes, after, step}

abbrev pub Every : {A : Type 0} → (A → Type 0) → List A → Type 0
Every P [] = Unit {0}
Every P (x ∷ l) = P x × Every P l

-- ---- lists

every_at : {A : Type 0} (P : A → Type 0) (l : List A) (d : ℕ) (s : A) → slice_get l d ≡ Some s → Every P l → P s
every_at P [] d s e h = absurd (cc)
every_at P (x ∷ l) zero s e h = let g : x ≡ s = cc in subst P g h.0
every_at P (x ∷ l) (suc d) s e h = every_at P l d s e h.1

every_changed : (P : Sent → Type 0) (f : Sent → Sent) → ((s : Sent) → P s → P (f s)) → (age : ℕ) (l : List Sent) → Every P l → Every P (changed_at age f l)
every_changed P f p age [] h = tt
every_changed P f p zero (s ∷ l) h = (p s h.0, h.1)
every_changed P f p (suc age) (s ∷ l) h = (h.0, every_changed P f p age l h.1)

every_join : {A : Type 0} (P : A → Type 0) (l more : List A) → Every P l → Every P more → Every P (l ++ more)
every_join P [] more h g = g
every_join P (x ∷ l) more h g = (h.0, every_join P l more h.1 g)

every_rest : {A : Type 0} (P : A → Type 0) (l : List A) → Every P l → Every P (drop 1 l)
every_rest P [] h = tt
every_rest P (x ∷ l) h = h.1

module _ (P : Ldata → Type 0) where
  abbrev AllOurs : List Ldata → Type 0
  AllOurs l = Every P l

  -- a tunnelling request whose frame reads has such a one
  abbrev pub Only : List ℕ → Type 0
  Only octets = (channel number : ℕ) (cemi : List ℕ) (frame : Ldata) → datagram_in octets ≡ Some (TunnellingRequest channel number cemi) → ldata_in cemi ≡ Some frame → P frame

  -- the same of a request
  abbrev Asking : IpFrame → Type 0
  Asking frame = (channel number : ℕ) (cemi : List ℕ) (f : Ldata) → frame ≡ TunnellingRequest channel number cemi → ldata_in cemi ≡ Some f → P f

  -- ---- what the gateway does with a frame

  by_test : (t : Bool) (x y : GatewayTook) → AllOurs x.after.bus → AllOurs y.after.bus → AllOurs (cond t x y).after.bus
  by_test true x y h g = h
  by_test false x y h g = g

  closed_bus : (g : Gateway) (channel : Option Channel) → AllOurs g.bus → AllOurs (closed_if_open g channel).bus
  closed_bus g None h = h
  closed_bus g (Some c) h = tt

  connects_bus : (g : Gateway) (from now : ℕ) (channel : Option Channel) → AllOurs g.bus → AllOurs (connects g from now channel).after.bus
  connects_bus g from now None h = h
  connects_bus g from now (Some c) h =
      by_test (c.endpoint == from) (answers_frame (ConnectResponse c.number 0 (Some g.tunnel)) g) (answers_frame (ConnectResponse (number_of (length g.makers)) 0 (Some g.tunnel)) (makes (closed g) from now)) h (closed_bus g g.channel h)

  if_request : (f : Ldata) (t : Bool) → P f → AllOurs (cond t (f ∷ []) [])
  if_request f true h = (h, tt)
  if_request f false h = tt

  frame_bus : (o : Option Ldata) → ((f : Ldata) → o ≡ Some f → P f) → AllOurs (to_bus o)
  frame_bus None h = tt
  frame_bus (Some f) h = if_request f (is_req f.code) (h f refl)

  request_bus : (g : Gateway) (channel : Option Channel) (number : ℕ) (cemi : List ℕ) → ((f : Ldata) → ldata_in cemi ≡ Some f → P f) → AllOurs g.bus → AllOurs (request_took g channel number cemi).after.bus
  request_bus g None number cemi is h = h
  request_bus g (Some c) number cemi is h =
      by_test (number == c.expected) (record { send = Some (TunnellingAck c.number number 0); acted = Some cemi; after = acts_on g c cemi })
      (cond (next_number number == c.expected) (answers_frame (TunnellingAck c.number number 0) g) (drops g))
      (every_join P g.bus (to_bus (ldata_in cemi)) h (frame_bus (ldata_in cemi) is))
      (by_test (next_number number == c.expected) (answers_frame (TunnellingAck c.number number 0) g) (drops g) h h)

  acknowledged_bus : (g : Gateway) (channel : Option Channel) (number status : ℕ) → AllOurs g.bus → AllOurs (acknowledged g channel number status).bus
  acknowledged_bus g None number status h = h
  acknowledged_bus g (Some c) number status h = h

  took_bus : (g : Gateway) (from now : ℕ) (frame : IpFrame) → Asking frame → AllOurs g.bus → AllOurs (took g from now frame).after.bus
  took_bus g from now ConnectRequest is h = connects_bus g from now g.channel h
  took_bus g from now (ConnectResponse channel status tunnel) is h = h
  took_bus g from now (StateRequest channel) is h = by_test (names from channel g.channel) (answers_frame (StateResponse channel 0) g) (drops g) h h
  took_bus g from now (StateResponse channel status) is h = h
  took_bus g from now (DisconnectRequest channel) is h =
      by_test (names from channel g.channel) (answers_frame (DisconnectResponse channel 0) (closed g)) (answers_frame (DisconnectResponse channel 0x21) g) (closed_bus g g.channel h) h
  took_bus g from now (DisconnectResponse channel status) is h = h
  took_bus g from now (TunnellingRequest channel number cemi) is h =
      by_test (names from channel g.channel) (request_took g g.channel number cemi) (drops g) (request_bus g g.channel number cemi (λ f e. is channel number cemi f refl e) h) h
  took_bus g from now (TunnellingAck channel number status) is h =
      by_test (names from channel g.channel) (drops (acknowledged g g.channel number status)) (drops g) (acknowledged_bus g g.channel number status h) h

  gateway_bus : (g : Gateway) (from now : ℕ) (frame : IpFrame) → Asking frame → AllOurs g.bus → AllOurs (gateway_took g from now frame).after.bus
  unfolding gateway_took
  gateway_bus g from now frame is h = took_bus (record g { channel = hears g.channel from now }) from now frame is h

  -- ---- the tunnel

  pub record TunnelAsks (t : Tunnel) : Type 0 where
    pub up : Every (λ (s : Sent). Only s.octets) t.network.up
    pub bus : AllOurs t.gateway.bus

  sent_down : (t : Tunnel) (endpoint : ℕ) (frame : Option IpFrame) → TunnelAsks t → TunnelAsks (sends_down_if t endpoint frame)
  sent_down t endpoint None h = h
  sent_down t endpoint (Some frame) h = record { up = h.up; bus = h.bus }

  frame_taken : (t : Tunnel) (from : ℕ) (o : Option IpFrame) → ((frame : IpFrame) → o ≡ Some frame → Asking frame) → TunnelAsks t → TunnelAsks (takes_frame t from o)
  frame_taken t from None is h = h
  frame_taken t from (Some frame) is h =
      sent_down (with_gateway t (gateway_took t.gateway from t.now frame).after) from (gateway_took t.gateway from t.now frame).send
      (record { up = h.up; bus = gateway_bus t.gateway from t.now frame (is frame refl) h.bus })

  sent_taken : (t : Tunnel) (o : Option Sent) → ((s : Sent) → o ≡ Some s → Only s.octets) → TunnelAsks t → TunnelAsks (takes_sent t o)
  sent_taken t None is h = h
  sent_taken t (Some s) is h = frame_taken t s.endpoint (datagram_in s.octets) (λ frame e channel number cemi f q g. is s refl channel number cemi f (subst (λ z. datagram_in s.octets ≡ Some z) q e) g) h

  refused_sent : (t : Tunnel) (status : ℕ) (o : Option Sent) → TunnelAsks t → TunnelAsks (refuses t status o)
  refused_sent t status None h = h
  refused_sent t status (Some s) h = record { up = h.up; bus = h.bus }

  next_asks : (t : Tunnel) (o : Option (Channel × Ldata)) → TunnelAsks t → TunnelAsks (puts t o)
  next_asks t None h = h
  next_asks t (Some x) h = record { up = h.up; bus = h.bus }

  request_asks : (t : Tunnel) (c : Channel) (o : Option Request) → TunnelAsks t → TunnelAsks (repeats_request t c o)
  request_asks t c None h = h
  request_asks t c (Some r) h = record { up = h.up; bus = h.bus }

  repeat_asks : (t : Tunnel) (o : Option Channel) → TunnelAsks t → TunnelAsks (repeats t o)
  repeat_asks t None h = h
  repeat_asks t (Some c) h = request_asks t c c.outstanding h

  close_asks : (t : Tunnel) (o : Option Channel) → TunnelAsks t → TunnelAsks (closes t o)
  close_asks t None h = h
  close_asks t (Some c) h = record { up = h.up; bus = closed_bus t.gateway t.gateway.channel h.bus }

  -- what the client sends asks for such frames alone
  abbrev pub SendsOurs : TunnelEvent → Type 0
  SendsOurs (Send octets) = Only octets
  SendsOurs (From endpoint octets) = Only octets
  SendsOurs e = Unit {0}

  after_asks : (t : Tunnel) (e : TunnelEvent) → SendsOurs e → TunnelAsks t → TunnelAsks (after t e)
  after_asks t (Send octets) is h = record { up = (is, h.up); bus = h.bus }
  after_asks t (From endpoint octets) is h = record { up = (is, h.up); bus = h.bus }
  after_asks t Renew is h = record { up = h.up; bus = h.bus }
  after_asks t (Up age) is h =
      sent_taken (with_up t (changed_at age once_more t.network.up)) (slice_get t.network.up age) (λ s e. every_at (λ (s : Sent). Only s.octets) t.network.up age s e h.up)
      (record { up = every_changed (λ (s : Sent). Only s.octets) once_more (λ s a. a) age t.network.up h.up; bus = h.bus })
  after_asks t (UpRefused age status) is h =
      refused_sent (with_up t (changed_at age once_more t.network.up)) status (slice_get t.network.up age)
      (record { up = every_changed (λ (s : Sent). Only s.octets) once_more (λ s a. a) age t.network.up h.up; bus = h.bus })
  after_asks t (Down age) is h = record { up = h.up; bus = h.bus }
  after_asks t (LoseUp age) is h = record { up = every_changed (λ (s : Sent). Only s.octets) gone (λ s a. a) age t.network.up h.up; bus = h.bus }
  after_asks t (LoseDown age) is h = record { up = h.up; bus = h.bus }
  after_asks t (Carried confirmation) is h = record { up = h.up; bus = every_rest P t.gateway.bus h.bus }
  after_asks t (Heard frames) is h = record { up = h.up; bus = h.bus }
  after_asks t Repeat is h = repeat_asks t t.gateway.channel h
  after_asks t Close is h = close_asks t t.gateway.channel h
  after_asks t (Pass ms) is h = record { up = h.up; bus = h.bus }
  after_asks t Elsewhere is h = h

  pub step_asks : (t : Tunnel) (e : TunnelEvent) → SendsOurs e → TunnelAsks t → TunnelAsks (step t e)
  step_asks t e is h = next_asks (after t e) (next_put (after t e).gateway.channel (after t e).gateway.waiting) (after_asks t e is h)
