-- What the gateway takes keeps the mirror.
use Rattle.std.proofs.Common.{◌≡◌, ℕ, ◌<◌, List, [], ◌∷◌, length, Bool, true, false, cond, ◌&&◌, Option, Some, None, refl, sym, ◌∙◌, ap, subst, inl}
use Rattle.std.specs.Prelude.{slice_get, ◌==◌}
use Rattle.std.proofs.lemmas.Bool.{eqb-true, and_parts}
use Rattle.knx_model.specs.declared.frames.ip.IpFrame.{IpFrame}
use Rattle.knx_model.specs.declared.frames.ip.IpFrame.TheVariants.{ConnectRequest, ConnectResponse, StateRequest, StateResponse, DisconnectRequest, DisconnectResponse, TunnellingRequest, TunnellingAck}
use Rattle.knx_model.specs.KnxNetIp.{Written}
use Rattle.line_model.specs.Reading.{datagram_in}
use Rattle.line_model.specs.Network.{Sent}
use Rattle.line_model.specs.Gateway.{Gateway, Channel, Request, GatewayTook, drops, answers, number_of, next_number, gateway_took, took, connects, request_took, acts_on, hears, names, makes, closed, closed_if_open, acknowledged, settles, is_put}
use Rattle.line_model.specs.Tunnel.{Tunnel, with_gateway, sends_down_if, takes_frame}
use Rattle.line_model.specs.ActedOnce.{Has}
use Rattle.tunnel_law.proofs.Read.{seen_of, response_seen, state_seen, disconnected_seen, ack_seen}
use Rattle.tunnel_law.proofs.Fits.{Book, IsTell, Serving}
use Rattle.tunnel_law.proofs.Mirror.{Dn, Names, dn_other, dn_channel, dn_make, dn_settle, hears_gate}

abbrev pub NoRequest : Option IpFrame → Type 0
NoRequest None = Unit {0}
NoRequest (Some f) = IsTell (seen_of (Written f)) → ⊥

no_ack : (c n : ℕ) → NoRequest (Some (TunnellingAck c n 0))
no_ack c n = λ i. subst IsTell (ack_seen c n) i

abbrev pub DnT : List Book → Tunnel → Type 0
DnT bs t = Dn bs t.network.up t.network.down t.gateway.makers t.gateway.channel t.gateway.puts

abbrev DnG : List Book → List Sent → List Sent → Gateway → Type 0
DnG bs up down g = Dn bs up down g.makers g.channel g.puts

pub sends_kept : (bs : List Book) (t : Tunnel) (e : ℕ) (o : Option IpFrame) → DnT bs t → NoRequest o → DnT bs (sends_down_if t e o)
sends_kept bs t e None dn h = dn
sends_kept bs t e (Some f) dn h = dn_other bs t.network.up t.network.down t.gateway.makers t.gateway.channel t.gateway.puts dn (Written f) e (length t.gateway.makers) h

-- what comes of an answer
record Good (bs : List Book) (up down : List Sent) (x : GatewayTook) : Type 0 where
  after : DnG bs up down x.after
  plain : NoRequest x.send

good_by : (bs : List Book) (up down : List Sent) (b : Bool) (x y : GatewayTook) → Good bs up down x → Good bs up down y → Good bs up down (cond b x y)
good_by bs up down true x y h g = h
good_by bs up down false x y h g = g

closed_kept : (bs : List Book) (up down : List Sent) (g : Gateway) (o : Option Channel) → DnG bs up down g → DnG bs up down (closed_if_open g o)
closed_kept bs up down g None dn = dn
closed_kept bs up down g (Some c) dn = dn_channel bs up down g.makers g.channel None g.puts dn (λ k s xs h. tt)

makes_kept : (bs : List Book) (up down : List Sent) (g : Gateway) (from now : ℕ) (o : Option Channel) → DnG bs up down g → ((x : Book) → Has bs from x → x.view.number ≡ Some (number_of (length g.makers)) → ⊥)
    → DnG bs up down (makes (closed_if_open g o) from now)
makes_kept bs up down g from now None dn apart = dn_make bs up down g.makers g.channel g.puts from (number_of (length g.makers)) now dn apart
makes_kept bs up down g from now (Some c) dn apart = dn_make bs up down g.makers g.channel g.puts from (number_of (length g.makers)) now dn apart

no_response : (g : Gateway) (c : ℕ) → NoRequest (Some (ConnectResponse c 0 (Some g.tunnel)))
no_response g c = let seen = response_seen c g.tunnel in λ i. subst IsTell seen.1 i

connect_good : (bs : List Book) (up down : List Sent) (g : Gateway) (from now : ℕ) (channel : Option Channel) → DnG bs up down g → ((x : Book) → Has bs from x → x.view.number ≡ Some (number_of (length g.makers)) → ⊥)
    → Good bs up down (connects g from now channel)
connect_good bs up down g from now None dn apart = record { after = makes_kept bs up down g from now None dn apart; plain = no_response g (number_of (length g.makers)) }
connect_good bs up down g from now (Some c) dn apart =
    good_by bs up down (c.endpoint == from) (answers (ConnectResponse c.number 0 (Some g.tunnel)) g) (answers (ConnectResponse (number_of (length g.makers)) 0 (Some g.tunnel)) (makes (closed g) from now))
    (record { after = dn; plain = no_response g c.number })
    (record { after = makes_kept bs up down g from now g.channel dn apart; plain = no_response g (number_of (length g.makers)) })

acts_kept : (bs : List Book) (up down : List Sent) (g : Gateway) (c : Channel) (p : List ℕ) → DnG bs up down g → g.channel ≡ Some c → DnG bs up down (acts_on g c p)
acts_kept bs up down g c p dn is =
    let D : Option Channel → Type 0 = λ ch. Dn bs up down g.makers ch g.puts in
    dn_channel bs up down g.makers (Some c) (Some (record c { expected = next_number c.expected })) g.puts (subst D is dn) (λ k s xs h. h)

request_good : (bs : List Book) (up down : List Sent) (g : Gateway) (channel : Option Channel) (n : ℕ) (p : List ℕ) → DnG bs up down g → g.channel ≡ channel → Good bs up down (request_took g channel n p)
request_good bs up down g None n p dn is = record { after = dn; plain = tt }
request_good bs up down g (Some c) n p dn is =
    good_by bs up down (n == c.expected) (record { send = Some (TunnellingAck c.number n 0); acted = Some p; after = acts_on g c p }) (cond (next_number n == c.expected) (answers (TunnellingAck c.number n 0) g) (drops g))
    (record { after = acts_kept bs up down g c p dn is; plain = no_ack c.number n })
    (good_by bs up down (next_number n == c.expected) (answers (TunnellingAck c.number n 0) g) (drops g) (record { after = dn; plain = no_ack c.number n }) (record { after = dn; plain = tt }))

pub names_of : (makers : List ℕ) (acted : List (ℕ × List ℕ)) (c : Channel) → Serving makers acted (Some c) → Names makers c
names_of [] acted c h = absurd h
names_of (owner ∷ rest) acted c h = record { k = length rest; newest = refl; maker = inl (refl, sym h.0); number = h.1 }

abbrev settled_in : Option Channel → ℕ → ℕ → Option Channel
settled_in None n st = None
settled_in (Some c) n st = Some (settles c n st)

module _ (bs : List Book) (up down : List Sent) (makers : List ℕ) (acted puts : List (ℕ × List ℕ)) (s : Sent) (d : ℕ) (young : d < 128) (at : slice_get up d ≡ Some s) where
  settle_by : (c : Channel) (o : Option Request) → c.outstanding ≡ o → Dn bs up down makers (Some c) puts → Serving makers acted (Some c) → (m n st : ℕ) → datagram_in s.octets ≡ Some (TunnellingAck m n st) → c.endpoint ≡ s.endpoint → c.number ≡ m
      → (u : Bool) → (is_put o && (n == c.own) && (st == 0)) ≡ u → Dn bs up down makers (Some (cond u (record c { own = next_number c.own; outstanding = None }) c)) puts
  settle_by c o out dn serving m n st is from m_is false hu = dn
  settle_by c None out dn serving m n st is from m_is true hu = absurd (let z : false ≡ true = hu in cc)
  settle_by c (Some r) out dn serving m n st is from m_is true hu =
      let e = and_parts (n == c.own) (st == 0) hu in
      let n_is : n ≡ c.own = eqb-true n c.own e.0 in
      let st_is : st ≡ 0 = eqb-true st 0 e.1 in
      dn_settle bs up down makers c puts dn (names_of makers acted c serving) s d young at from r out
      (is ∙ ap (λ z. Some (TunnellingAck z n st)) (sym m_is) ∙ ap (λ z. Some (TunnellingAck c.number z st)) n_is ∙ ap (λ z. Some (TunnellingAck c.number c.own z)) st_is)

  -- an acknowledgement that names the channel
  ack_by : (channel : Option Channel) → Dn bs up down makers channel puts → Serving makers acted channel → (m n st : ℕ) → datagram_in s.octets ≡ Some (TunnellingAck m n st)
      → names s.endpoint m channel ≡ true → Dn bs up down makers (settled_in channel n st) puts
  ack_by None dn serving m n st is named = dn
  ack_by (Some c) dn serving m n st is named =
      let b = and_parts (c.endpoint == s.endpoint) (c.number == m) named in
      settle_by c c.outstanding refl dn serving m n st is (eqb-true c.endpoint s.endpoint b.0) (eqb-true c.number m b.1) (is_put c.outstanding && (n == c.own) && (st == 0)) refl

-- the whole
module _ (bs : List Book) (t : Tunnel) (s : Sent) (d : ℕ) (young : d < 128) (at : slice_get t.network.up d ≡ Some s) (dn : DnT bs t)
    (apart : datagram_in s.octets ≡ Some ConnectRequest → (x : Book) → Has bs s.endpoint x → x.view.number ≡ Some (number_of (length t.gateway.makers)) → ⊥)
    (serving : Serving t.gateway.makers t.gateway.acted (hears t.gateway.channel s.endpoint t.now)) where
  abbrev hearing : Gateway
  hearing = record t.gateway { channel = hears t.gateway.channel s.endpoint t.now }

  heard : DnG bs t.network.up t.network.down hearing
  heard = dn_channel bs t.network.up t.network.down t.gateway.makers t.gateway.channel (hears t.gateway.channel s.endpoint t.now) t.gateway.puts dn (λ k n xs h. hears_gate t.gateway.makers t.gateway.channel s.endpoint t.now k n xs h)

  abbrev Now : GatewayTook → Type 0
  Now x = Good bs t.network.up t.network.down x

  dropped : Now (drops hearing)
  dropped = record { after = heard; plain = tt }

  named_by : (b : Bool) (x : GatewayTook) → (b ≡ true → Now x) → Now (cond b x (drops hearing))
  named_by true x h = h refl
  named_by false x h = dropped

  acknowledged_good : (channel : Option Channel) (n st : ℕ) → hearing.channel ≡ channel → Dn bs t.network.up t.network.down t.gateway.makers (settled_in channel n st) t.gateway.puts → DnG bs t.network.up t.network.down (acknowledged hearing channel n st)
  acknowledged_good None n st is h = heard
  acknowledged_good (Some c) n st is h = h

  good : (f : IpFrame) → datagram_in s.octets ≡ Some f → Now (took hearing s.endpoint t.now f)
  good ConnectRequest is = connect_good bs t.network.up t.network.down hearing s.endpoint t.now hearing.channel heard (apart is)
  good (ConnectResponse c st tu) is = dropped
  good (StateRequest c) is = named_by (names s.endpoint c hearing.channel) (answers (StateResponse c 0) hearing) (λ e. record { after = heard; plain = λ i. subst IsTell (state_seen c 0) i })
  good (StateResponse c st) is = dropped
  good (DisconnectRequest c) is =
      good_by bs t.network.up t.network.down (names s.endpoint c hearing.channel) (answers (DisconnectResponse c 0) (closed hearing)) (answers (DisconnectResponse c 0x21) hearing)
      (record { after = closed_kept bs t.network.up t.network.down hearing hearing.channel heard; plain = λ i. subst IsTell (disconnected_seen c 0) i })
      (record { after = heard; plain = λ i. subst IsTell (disconnected_seen c 0x21) i })
  good (DisconnectResponse c st) is = dropped
  good (TunnellingRequest c n p) is = named_by (names s.endpoint c hearing.channel) (request_took hearing hearing.channel n p) (λ e. request_good bs t.network.up t.network.down hearing hearing.channel n p heard refl)
  good (TunnellingAck c n st) is =
      named_by (names s.endpoint c hearing.channel) (drops (acknowledged hearing hearing.channel n st))
      (λ e. record {
        after = acknowledged_good hearing.channel n st refl (ack_by bs t.network.up t.network.down t.gateway.makers t.gateway.acted t.gateway.puts s d young at hearing.channel heard serving c n st is e);
        plain = tt;
      })

  pub dn_took : (f : Option IpFrame) → datagram_in s.octets ≡ f → DnT bs (takes_frame t s.endpoint f)
  unfolding gateway_took
  dn_took None is = dn
  dn_took (Some f) is =
      let x : GatewayTook = took hearing s.endpoint t.now f in
      let g : Now x = good f is in
      sends_kept bs (with_gateway t x.after) s.endpoint x.send g.after g.plain
