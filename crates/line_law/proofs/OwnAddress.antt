-- What the gateway sends is the tunnel's own: a connect response tells its address or none, whatever is lost, repeated or late; and an indication to one
-- device has that address as its destination, where those that come of the bus have it.
use Rattle.std.proofs.Common.{◌≡◌, ◌≢◌, ℕ, ◌+◌, ◌*◌, ◌/◌, ◌%◌, List, [], ◌∷◌, ◌++◌, drop, length, Bool, true, false, cond, Option, Some, None, refl, sym, ◌∙◌, ap, subst, arith, if◌then◌else◌}
use Rattle.std.specs.Prelude.{IfSome, slice_get, slice_index, take, nat_le, ◌==◌, ◌&&◌}
use Rattle.std.proofs.lemmas.Bool.{eqb-true}
use Rattle.knx_model.specs.declared.address.IndAddr.{IndAddr}
use Rattle.knx_model.specs.declared.frames.cemi.Ldata.{Ldata}
use Rattle.knx_model.specs.declared.frames.cemi.LdataCode.TheVariants.{Con}
use Rattle.knx_model.specs.declared.frames.ip.IpFrame.{IpFrame}
use Rattle.knx_model.specs.declared.frames.ip.IpFrame.TheVariants.{ConnectRequest, ConnectResponse, StateRequest, StateResponse, DisconnectRequest, DisconnectResponse, TunnellingRequest, TunnellingAck}
use Rattle.knx_model.specs.ApduReading.{where_it}
use Rattle.knx_model.specs.Cemi.{Written as cemi_octets}
use Rattle.knx_model.specs.KnxNetIp.{Written}
use Rattle.line_model.specs.ActedOnce.{in_channel, IsPrefix}
use Rattle.line_model.specs.ClientView.{ClientChannel, Fresh, Sought, RefusedBy, Unanswered, Open, Lost, own_address, is_stray, after_entry, sought_got, goes_on, channel}
use Rattle.line_model.specs.Gateway.{Gateway, Channel, Request, GatewayTook, drops, answers, number_of, next_number, gateway_took, took, connects, request_took, acts_on, hears, names, makes, closed, closed_if_open, acknowledged, settles, is_put, next_put}
use Rattle.line_model.specs.Network.{Sent, changed_at, once_more, gone}
use Rattle.line_model.specs.Reading.{datagram_in, ldata_in, is_ldata, ldata_of, tunnel_told}
use Rattle.line_model.specs.Record.{Item, Put, Renewed, Got, Quiet, Entry, entry, got, got_in, is_renewal, item_of, noted}
use Rattle.line_model.specs.Tunnel.{Tunnel, TunnelEvent, Send, From, Renew, Up, UpRefused, Down, LoseUp, LoseDown, Carried, Heard, Repeat, Close, Pass, Elsewhere, Commissions, MayHappen, fresh, with_gateway, with_up, sends_down, sends_down_if, takes_frame, takes_sent, refuses, puts, puts_next, repeats, repeats_request, closes, after, step}
use Rattle.tunnel_law.proofs.Inside.{Every, every_at, every_changed}
use Rattle.tunnel_law.proofs.Read.{IsOther, seen_of, ack_seen, state_seen, disconnect_seen, disconnected_seen, refusal_seen, request_seen}
use Rattle.line_law.proofs.Owned.{every_append, own_dropped}

word_again : (n : ℕ) → 256 * (n / 256) + n % 256 ≡ n
word_again n = omega arith

-- ---- of the gateway of one address

module _ (own : IndAddr) where
  abbrev pub IsOwn : Option IndAddr → Type 0
  IsOwn told = IfSome told (λ a. a ≡ own)

  -- what the client reads of a frame of the gateway: a channel comes up with the address
  pub record TellsSo (status : ℕ) (told : Option IndAddr) : Type 0 where
    pub up : status ≡ 0 → told ≡ Some own
    pub own_or_none : IsOwn told

  abbrev pub Tells : Option IpFrame → Type 0
  Tells (Some (ConnectResponse channel status told)) = TellsSo status told
  Tells _ = Unit {0}

  abbrev pub TellsOwn : IpFrame → Type 0
  TellsOwn f = Tells (seen_of (Written f))

  other_own : (o : Option IpFrame) → IsOther o → Tells o
  other_own None h = tt
  other_own (Some ConnectRequest) h = tt
  other_own (Some (ConnectResponse c s t)) h = absurd h
  other_own (Some (StateRequest c)) h = tt
  other_own (Some (StateResponse c s)) h = tt
  other_own (Some (DisconnectRequest c)) h = tt
  other_own (Some (DisconnectResponse c s)) h = tt
  other_own (Some (TunnellingRequest c n p)) h = tt
  other_own (Some (TunnellingAck c n s)) h = absurd h

  -- so of what opens a channel
  pub told_own : (o : Option IpFrame) → Tells o → IsOwn (tunnel_told o)
  told_own None h = tt
  told_own (Some ConnectRequest) h = tt
  told_own (Some (ConnectResponse c s t)) h = h.own_or_none
  told_own (Some (StateRequest c)) h = tt
  told_own (Some (StateResponse c s)) h = tt
  told_own (Some (DisconnectRequest c)) h = tt
  told_own (Some (DisconnectResponse c s)) h = tt
  told_own (Some (TunnellingRequest c n p)) h = tt
  told_own (Some (TunnellingAck c n s)) h = tt

  so_of : (a : IndAddr) → a ≡ own → TellsSo 0 (Some a)
  so_of a e = record { up = λ z. ap (λ x. Some x) e; own_or_none = e }

  response_own : (c : ℕ) (a : IndAddr) → a ≡ own → TellsOwn (ConnectResponse c 0 (Some a))
  unfolding datagram_in
  response_own c a e = so_of (record { raw = 256 * (a.raw / 256) + a.raw % 256 }) (ap (λ (n : ℕ). let address : IndAddr = record { raw = n } in address) (word_again a.raw) ∙ e)

  refusal_own : (status : ℕ) → status ≢ 0 → TellsOwn (ConnectResponse 0 status None)
  refusal_own status n = subst Tells (sym (refusal_seen status n)) (record { up = λ e. absurd (n e); own_or_none = tt })

  request_own : (c n : ℕ) (p : List ℕ) → TellsOwn (TunnellingRequest c n p)
  request_own c n p = other_own _ (request_seen c n p)

  ack_own : (c n : ℕ) → TellsOwn (TunnellingAck c n 0)
  ack_own c n = subst Tells (sym (ack_seen c n)) tt

  state_own : (c s : ℕ) → TellsOwn (StateResponse c s)
  state_own c s = subst Tells (sym (state_seen c s)) tt

  disconnect_own : (c : ℕ) → TellsOwn (DisconnectRequest c)
  disconnect_own c = subst Tells (sym (disconnect_seen c)) tt

  disconnected_own : (c s : ℕ) → TellsOwn (DisconnectResponse c s)
  disconnected_own c s = subst Tells (sym (disconnected_seen c s)) tt

  -- ---- what an indication to one device has, and what is kept

  abbrev pub Reaches : List ℕ → Type 0
  Reaches octets = is_stray (Some own) (ldata_in octets) ≡ false

  abbrev pub ReachesAs : Ldata → Type 0
  ReachesAs f = Reaches (cemi_octets f)

  stray_by : (a b : Bool) (x : Ldata) → is_stray (Some own) (Some x) ≡ false → is_stray (Some own) (if a then where_it b x else None) ≡ false
  stray_by true true x h = h
  stray_by true false x h = refl
  stray_by false b x h = refl

  -- a confirmation is no indication
  pub con_reaches : (f : Ldata) (error : Bool) → ReachesAs (record f { code = Con; error = error })
  unfolding ldata_in
  con_reaches f error =
      let octets : List ℕ = cemi_octets (record f { code = Con; error = error }) in
      let body : List ℕ = drop (2 + slice_index octets 1) octets in
      stray_by (nat_le (10 + slice_index octets 1) (length octets)) (is_ldata body) (ldata_of Con body) refl

  abbrev pub RequestReaches : Option Request → Type 0
  RequestReaches None = Unit {0}
  RequestReaches (Some r) = Reaches r.frame

  abbrev pub OutReaches : Option Channel → Type 0
  OutReaches None = Unit {0}
  OutReaches (Some c) = RequestReaches c.outstanding

  abbrev pub PutReaches : ℕ × List ℕ → Type 0
  PutReaches p = Reaches p.1

  pub record IsItsGateway (g : Gateway) : Type 0 where
    pub address : g.tunnel ≡ own
    pub waiting : Every ReachesAs g.waiting
    pub puts : Every PutReaches g.puts
    pub out : OutReaches g.channel

  abbrev SaysOwn : Sent → Type 0
  SaysOwn s = Tells (seen_of s.octets)

  pub record IsItsTunnel (t : Tunnel) : Type 0 where
    pub gateway : IsItsGateway t.gateway
    pub each : Every SaysOwn t.network.down

  sends_kept : (t : Tunnel) (e : ℕ) (f : IpFrame) → IsItsTunnel t → TellsOwn f → IsItsTunnel (sends_down t e f)
  sends_kept t e f h tells = record { gateway = h.gateway; each = (tells, h.each) }

  -- ---- what the gateway answers

  record Good (x : GatewayTook) : Type 0 where
    gateway : IsItsGateway x.after
    tells : IfSome x.send TellsOwn

  good_by : (b : Bool) (x y : GatewayTook) → Good x → Good y → Good (cond b x y)
  good_by true x y h k = h
  good_by false x y h k = k

  closed_kept : (g : Gateway) (o : Option Channel) → IsItsGateway g → IsItsGateway (closed_if_open g o)
  closed_kept g None h = h
  closed_kept g (Some c) h = record { address = h.address; waiting = tt; puts = h.puts; out = tt }

  with_out : (g : Gateway) (o : Option Channel) → OutReaches o → IsItsGateway g → IsItsGateway (record g { channel = o })
  with_out g o r h = record { address = h.address; waiting = h.waiting; puts = h.puts; out = r }

  settled : (c : Channel) (b : Bool) → RequestReaches c.outstanding → RequestReaches (cond {A = Channel} b (record c { own = next_number c.own; outstanding = None }) c).outstanding
  settled c true h = tt
  settled c false h = h

  acknowledged_kept : (g : Gateway) (o : Option Channel) (n st : ℕ) → OutReaches o → IsItsGateway g → IsItsGateway (acknowledged g o n st)
  acknowledged_kept g None n st r h = h
  acknowledged_kept g (Some c) n st r h = with_out g (Some (settles c n st)) (settled c (is_put c.outstanding && (n == c.own) && (st == 0)) r) h

  made_kept : (g : Gateway) (from now : ℕ) → IsItsGateway g → IsItsGateway (makes g from now)
  made_kept g from now h = record { address = h.address; waiting = h.waiting; puts = h.puts; out = tt }

  connect_good : (g : Gateway) (from now : ℕ) (o : Option Channel) → IsItsGateway g → Good (connects g from now o)
  connect_good g from now None h = record { gateway = made_kept g from now h; tells = response_own _ g.tunnel h.address }
  connect_good g from now (Some c) h =
      good_by (c.endpoint == from) (answers (ConnectResponse c.number 0 (Some g.tunnel)) g) (answers (ConnectResponse (number_of _) 0 (Some g.tunnel)) (makes (closed g) from now))
      (record { gateway = h; tells = response_own c.number g.tunnel h.address })
      (record { gateway = made_kept (closed g) from now (closed_kept g g.channel h); tells = response_own _ g.tunnel h.address })

  request_good : (g : Gateway) (o : Option Channel) (n : ℕ) (p : List ℕ) → OutReaches o → IsItsGateway g → Good (request_took g o n p)
  request_good g None n p r h = record { gateway = h; tells = tt }
  request_good g (Some c) n p r h =
      good_by (n == c.expected) (record { send = Some (TunnellingAck c.number n 0); acted = Some p; after = acts_on g c p }) (cond (next_number n == c.expected) (answers (TunnellingAck c.number n 0) g) (drops g))
      (record { gateway = record { address = h.address; waiting = h.waiting; puts = h.puts; out = r }; tells = ack_own c.number n })
      (good_by (next_number n == c.expected) (answers (TunnellingAck c.number n 0) g) (drops g) (record { gateway = h; tells = ack_own c.number n }) (record { gateway = h; tells = tt }))

  took_good : (g : Gateway) (from now : ℕ) (f : IpFrame) → IsItsGateway g → Good (took g from now f)
  took_good g from now ConnectRequest h = connect_good g from now g.channel h
  took_good g from now (ConnectResponse c st tu) h = record { gateway = h; tells = tt }
  took_good g from now (StateRequest c) h = good_by (names from c g.channel) (answers (StateResponse c 0) g) (drops g) (record { gateway = h; tells = state_own c 0 }) (record { gateway = h; tells = tt })
  took_good g from now (StateResponse c st) h = record { gateway = h; tells = tt }
  took_good g from now (DisconnectRequest c) h =
      good_by (names from c g.channel) (answers (DisconnectResponse c 0) (closed g)) (answers (DisconnectResponse c 0x21) g)
      (record { gateway = closed_kept g g.channel h; tells = disconnected_own c 0 })
      (record { gateway = h; tells = disconnected_own c 0x21 })
  took_good g from now (DisconnectResponse c st) h = record { gateway = h; tells = tt }
  took_good g from now (TunnellingRequest c n p) h = good_by (names from c g.channel) (request_took g g.channel n p) (drops g) (request_good g g.channel n p h.out h) (record { gateway = h; tells = tt })
  took_good g from now (TunnellingAck c n st) h =
      good_by (names from c g.channel) (drops (acknowledged g g.channel n st)) (drops g) (record { gateway = acknowledged_kept g g.channel n st h.out h; tells = tt }) (record { gateway = h; tells = tt })

  heard_by : (c : Channel) (now : ℕ) (b : Bool) → RequestReaches c.outstanding → OutReaches (if b then Some (record c { heard = now }) else Some c)
  heard_by c now true h = h
  heard_by c now false h = h

  heard_out : (o : Option Channel) (from now : ℕ) → OutReaches o → OutReaches (hears o from now)
  heard_out None from now h = tt
  heard_out (Some c) from now h = heard_by c now (c.endpoint == from) h

  -- ---- what comes of the bus

  abbrev pub Comes : TunnelEvent → Type 0
  Comes (Carried confirmation) = ReachesAs confirmation
  Comes (Heard frames) = Every ReachesAs frames
  Comes _ = Unit {0}

  -- ---- each event

  sends_if : (t : Tunnel) (e : ℕ) (o : Option IpFrame) → IsItsTunnel t → IfSome o TellsOwn → IsItsTunnel (sends_down_if t e o)
  sends_if t e None h tells = h
  sends_if t e (Some f) h tells = sends_kept t e f h tells

  frame_kept : (t : Tunnel) (from : ℕ) (o : Option IpFrame) → IsItsTunnel t → IsItsTunnel (takes_frame t from o)
  unfolding gateway_took
  frame_kept t from None h = h
  frame_kept t from (Some f) h =
      let g : Gateway = record t.gateway { channel = hears t.gateway.channel from t.now } in
      let x : GatewayTook = took g from t.now f in
      let good : Good x = took_good g from t.now f (with_out t.gateway (hears t.gateway.channel from t.now) (heard_out t.gateway.channel from t.now h.gateway.out) h.gateway) in
      sends_if (with_gateway t x.after) from x.send (record { gateway = good.gateway; each = h.each }) good.tells

  sent_kept : (t : Tunnel) (o : Option Sent) → IsItsTunnel t → IsItsTunnel (takes_sent t o)
  sent_kept t None h = h
  sent_kept t (Some s) h = frame_kept t s.endpoint (datagram_in s.octets) h

  refused_kept : (t : Tunnel) (status : ℕ) (o : Option Sent) → status ≢ 0 → IsItsTunnel t → IsItsTunnel (refuses t status o)
  refused_kept t status None n h = h
  refused_kept t status (Some s) n h = sends_kept t s.endpoint (ConnectResponse 0 status None) h (refusal_own status n)

  put_kept : (t : Tunnel) (o : Option (Channel × Ldata)) → IfSome o (λ (x : Channel × Ldata). ReachesAs x.1) → IsItsTunnel t → IsItsTunnel (puts t o)
  put_kept t None r h = h
  put_kept t (Some x) r h =
      record {
        gateway = record { address = h.gateway.address; waiting = own_dropped ReachesAs t.gateway.waiting h.gateway.waiting; puts = (r, h.gateway.puts); out = r };
        each = (request_own x.0.number x.0.own (cemi_octets x.1), h.each);
      }

  next_by : (c : Channel) (f : Ldata) (b : Bool) → ReachesAs f → IfSome (if b then None else Some (c, f)) (λ (x : Channel × Ldata). ReachesAs x.1)
  next_by c f true h = tt
  next_by c f false h = h

  next_reaches : (o : Option Channel) (l : List Ldata) → Every ReachesAs l → IfSome (next_put o l) (λ (x : Channel × Ldata). ReachesAs x.1)
  next_reaches None l h = tt
  next_reaches (Some c) [] h = tt
  next_reaches (Some c) (f ∷ l) h = next_by c f (is_put c.outstanding) h.0

  pub next_kept : (t : Tunnel) → IsItsTunnel t → IsItsTunnel (puts_next t)
  next_kept t h = put_kept t (next_put t.gateway.channel t.gateway.waiting) (next_reaches t.gateway.channel t.gateway.waiting h.gateway.waiting) h

  repeat_by : (t : Tunnel) (c : Channel) (o : Option Request) → RequestReaches o → IsItsTunnel t → IsItsTunnel (repeats_request t c o)
  repeat_by t c None r h = h
  repeat_by t c (Some q) r h = record { gateway = with_out t.gateway _ r h.gateway; each = (request_own c.number c.own q.frame, h.each) }

  repeat_kept : (t : Tunnel) (o : Option Channel) → OutReaches o → IsItsTunnel t → IsItsTunnel (repeats t o)
  repeat_kept t None r h = h
  repeat_kept t (Some c) r h = repeat_by t c c.outstanding r h

  close_kept : (t : Tunnel) (o : Option Channel) → IsItsTunnel t → IsItsTunnel (closes t o)
  close_kept t None h = h
  close_kept t (Some c) h = record { gateway = closed_kept t.gateway t.gateway.channel h.gateway; each = (disconnect_own c.number, h.each) }

  event_kept : (t : Tunnel) (e : TunnelEvent) → MayHappen Commissions t e → Comes e → IsItsTunnel t → IsItsTunnel (after t e)
  event_kept t (Send octets) may comes h = record { gateway = h.gateway; each = h.each }
  event_kept t (From endpoint octets) may comes h = absurd may
  event_kept t Renew may comes h = record { gateway = h.gateway; each = h.each }
  event_kept t (Up age) may comes h = sent_kept (with_up t (changed_at age once_more t.network.up)) (slice_get t.network.up age) (record { gateway = h.gateway; each = h.each })
  event_kept t (UpRefused age status) may comes h = refused_kept (with_up t (changed_at age once_more t.network.up)) status (slice_get t.network.up age) may.2 (record { gateway = h.gateway; each = h.each })
  event_kept t (Down age) may comes h = record { gateway = h.gateway; each = every_changed SaysOwn once_more (λ s says. says) age t.network.down h.each }
  event_kept t (LoseUp age) may comes h = record { gateway = h.gateway; each = h.each }
  event_kept t (LoseDown age) may comes h = record { gateway = h.gateway; each = every_changed SaysOwn gone (λ s says. says) age t.network.down h.each }
  event_kept t (Carried con) may comes h =
      record { gateway = record { address = h.gateway.address; waiting = every_append ReachesAs t.gateway.waiting (con ∷ []) h.gateway.waiting (comes, tt); puts = h.gateway.puts; out = h.gateway.out }; each = h.each }
  event_kept t (Heard frames) may comes h =
      record { gateway = record { address = h.gateway.address; waiting = every_append ReachesAs t.gateway.waiting frames h.gateway.waiting comes; puts = h.gateway.puts; out = h.gateway.out }; each = h.each }
  event_kept t Repeat may comes h = repeat_kept t t.gateway.channel h.gateway.out h
  event_kept t Close may comes h = close_kept t t.gateway.channel h
  event_kept t (Pass ms) may comes h = record { gateway = h.gateway; each = h.each }
  event_kept t Elsewhere may comes h = h

  pub its_step : (t : Tunnel) (e : TunnelEvent) → MayHappen Commissions t e → Comes e → IsItsTunnel t → IsItsTunnel (step t e)
  its_step t e may comes h = next_kept (after t e) (event_kept t e may comes h)

  pub its_first : IsItsTunnel (fresh own)
  its_first = record { gateway = record { address = refl; waiting = tt; puts = tt; out = tt }; each = tt }

  -- ---- what the record has of it

  got_own : (t : Tunnel) (age : ℕ) (o : Option Sent) → slice_get t.network.down age ≡ o → IsItsTunnel t → (what : Item) → got o ≡ Some what → Tells (got_in what)
  got_own t age None at h what is = absurd (cc)
  got_own t age (Some s) at h what is = subst (λ (x : Item). Tells (got_in x)) (let same : Got (take 512 s.octets) ≡ what = cc in same) (every_at SaysOwn t.network.down age s at h.each)

  pub item_own : (t : Tunnel) (e : TunnelEvent) → IsItsTunnel t → (what : Item) → item_of t e ≡ Some what → Tells (got_in what)
  item_own t (Send octets) h what is = subst (λ (x : Item). Tells (got_in x)) (let same : Put octets ≡ what = cc in same) tt
  item_own t (From endpoint octets) h what is = subst (λ (x : Item). Tells (got_in x)) (let same : Put octets ≡ what = cc in same) tt
  item_own t Renew h what is = subst (λ (x : Item). Tells (got_in x)) (let same : Renewed ≡ what = cc in same) tt
  item_own t (Down age) h what is = got_own t age (slice_get t.network.down age) refl h what is
  item_own t (Pass ms) h what is = subst (λ (x : Item). Tells (got_in x)) (let same : Quiet ≡ what = cc in same) tt
  item_own t (Up age) h what is = absurd (cc)
  item_own t (UpRefused age status) h what is = absurd (cc)
  item_own t (LoseUp age) h what is = absurd (cc)
  item_own t (LoseDown age) h what is = absurd (cc)
  item_own t (Carried confirmation) h what is = absurd (cc)
  item_own t (Heard frames) h what is = absurd (cc)
  item_own t Repeat h what is = absurd (cc)
  item_own t Close h what is = absurd (cc)
  item_own t Elsewhere h what is = absurd (cc)

  -- ---- the open channel's own address is it

  abbrev pub KnowsOwn : ClientChannel → Type 0
  KnowsOwn (Open c l) = own_address l ≡ Some own
  KnowsOwn _ = Unit {0}

  knows_more : (c : ℕ) (l : List Entry) (x : Entry) (b : Bool) → own_address l ≡ Some own → KnowsOwn (if b then Lost c else Open c (x ∷ l))
  knows_more c l x true h = tt
  knows_more c [] x false h = absurd (let z : None ≡ Some own = h in cc)
  knows_more c (y ∷ l) x false h = h

  knows_first : (c status : ℕ) (told : Option IndAddr) (x : Entry) (b : Bool) → (status == 0) ≡ b → got_in x.what ≡ Some (ConnectResponse c status told) → TellsSo status told → KnowsOwn (if b then Open c (x ∷ []) else RefusedBy status)
  knows_first c status told x true q e h = ap tunnel_told e ∙ h.up (eqb-true status 0 q)
  knows_first c status told x false q e h = tt

  knows_sought : (since : ℕ) (x : Entry) (o : Option IpFrame) → got_in x.what ≡ o → Tells o → KnowsOwn (sought_got since x o)
  knows_sought since x None e h = tt
  knows_sought since x (Some ConnectRequest) e h = tt
  knows_sought since x (Some (ConnectResponse c status told)) e h = knows_first c status told x (status == 0) refl e h
  knows_sought since x (Some (StateRequest c)) e h = tt
  knows_sought since x (Some (StateResponse c s)) e h = tt
  knows_sought since x (Some (DisconnectRequest c)) e h = tt
  knows_sought since x (Some (DisconnectResponse c s)) e h = tt
  knows_sought since x (Some (TunnellingRequest c n p)) e h = tt
  knows_sought since x (Some (TunnellingAck c n s)) e h = tt

  knows_by : (since : ℕ) (x : Entry) (b : Bool) → Tells (got_in x.what) → KnowsOwn (if b then Unanswered else sought_got since x (got_in x.what))
  knows_by since x true h = tt
  knows_by since x false h = knows_sought since x (got_in x.what) refl h

  knows_fresh : (t : ℕ) (b : Bool) → KnowsOwn (if b then Sought t else Fresh)
  knows_fresh t true = tt
  knows_fresh t false = tt

  knows_on : (ch : ClientChannel) (x : Entry) → Tells (got_in x.what) → KnowsOwn ch → KnowsOwn (goes_on ch x)
  knows_on Fresh x h k = knows_fresh x.now _
  knows_on (Sought since) x h k = knows_by since x _ h
  knows_on (RefusedBy status) x h k = tt
  knows_on Unanswered x h k = tt
  knows_on (Open c l) x h k = knows_more c l x _ k
  knows_on (Lost c) x h k = tt

  renewed_or : (ch : ClientChannel) (b : Bool) → KnowsOwn ch → KnowsOwn (if b then Fresh else ch)
  renewed_or ch true k = tt
  renewed_or ch false k = k

  knows_after : (ch : ClientChannel) (x : Entry) → Tells (got_in x.what) → KnowsOwn ch → KnowsOwn (after_entry ch x)
  unfolding after_entry
  knows_after ch x h k = renewed_or (goes_on ch x) (is_renewal x.what) (knows_on ch x h k)

  pub knows_noted : (o : Option Item) (now : ℕ) (r : List Entry) → ((what : Item) → o ≡ Some what → Tells (got_in what)) → KnowsOwn (channel r) → KnowsOwn (channel (noted o now r))
  knows_noted None now r h k = k
  knows_noted (Some what) now r h k = knows_after (channel r) (entry what now) (h what refl) k

  -- ---- so what was put reaches the client as its own

  put_reaches : (k : ℕ) (l : List (ℕ × List ℕ)) (newer older : List (List ℕ)) (content : List ℕ) → Every PutReaches l → in_channel k l ≡ newer ++ content ∷ older → Reaches content
  put_reaches k [] newer older content h e = absurd (none newer e) where
    none : (newer : List (List ℕ)) → [] ≡ newer ++ content ∷ older → ⊥
    none [] z = cc
    none (x ∷ newer) z = cc
  put_reaches k (p ∷ l) newer older content h e = by_place (p.0 == k) newer (λ newer z. put_reaches k l newer older content h.1 z) e where
    by_place : (b : Bool) (newer : List (List ℕ)) → ((newer : List (List ℕ)) → in_channel k l ≡ newer ++ content ∷ older → Reaches content) → ◌≡◌ {A = List (List ℕ)} (if b then p.1 ∷ in_channel k l else in_channel k l) (newer ++ content ∷ older) → Reaches content
    by_place false newer rest z = rest newer z
    by_place true [] rest z = let same : p.1 ≡ content = cc in subst Reaches same h.0
    by_place true (x ∷ newer) rest z = rest newer (let more : in_channel k l ≡ newer ++ content ∷ older = cc in more)

  pub own_taken : (ch : ClientChannel) (c : ℕ) (l : List Entry) (content : List ℕ) → ch ≡ Open c l → KnowsOwn ch → Reaches content → is_stray (own_address l) (ldata_in content) ≡ false
  own_taken ch c l content e k h = let told : own_address l ≡ Some own = subst KnowsOwn e k in ap (λ a. is_stray a (ldata_in content)) told ∙ h

  pub taken_reaches : (k : ℕ) (older : List (List ℕ)) (content : List ℕ) (l : List (ℕ × List ℕ)) → Every PutReaches l → IsPrefix (content ∷ older) (in_channel k l) → Reaches content
  taken_reaches k older content l h p = put_reaches k l p.0 older content h p.1
