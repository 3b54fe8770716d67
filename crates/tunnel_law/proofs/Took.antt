-- What the gateway takes keeps the invariant.
use Rattle.std.proofs.Common.{◌≡◌, ℕ, suc, ◌+◌, ◌-◌, ◌<◌, List, [], ◌∷◌, length, Bool, true, false, cond, ◌&&◌, Option, Some, None, refl, sym, ◌∙◌, ap, subst, arith, inl}
use Rattle.std.specs.Prelude.{slice_get, ◌==◌}
use Rattle.std.proofs.lemmas.Bool.{eqb-true}
use Rattle.knx_model.specs.declared.address.IndAddr.{IndAddr}
use Rattle.knx_model.specs.declared.frames.cemi.Ldata.{Ldata}
use Rattle.knx_model.specs.declared.frames.ip.IpFrame.{IpFrame}
use Rattle.knx_model.specs.declared.frames.ip.IpFrame.TheVariants.{ConnectRequest, ConnectResponse, StateRequest, StateResponse, DisconnectRequest, DisconnectResponse, TunnellingRequest, TunnellingAck}
use Rattle.knx_model.specs.KnxNetIp.{Written}
use Rattle.line_model.specs.Reading.{datagram_in}
use Rattle.line_model.specs.Network.{Sent, new_datagram}
use Rattle.line_model.specs.Gateway.{Gateway, Channel, GatewayTook, drops, answers, number_of, next_number, gateway_took, hears, names, connects, makes, closed, new_channel, request_took, acts_on, is_put, settles, acknowledged}
use Rattle.line_model.specs.Tunnel.{Tunnel, with_gateway, sends_down, answers as gives, takes_frame}
use Rattle.line_model.specs.ActedOnce.{Has}
use Rattle.tunnel_law.proofs.Read.{IsOther, seen_of, ack_seen, response_seen, state_seen, disconnected_seen}
use Rattle.tunnel_law.proofs.Fits.{Book, Serving, Inv}
use Rattle.tunnel_law.proofs.Acts.{acts_kept, again_kept}
use Rattle.tunnel_law.proofs.Makes.{other_down, response_down, channel_kept, make_kept}

abbrev pub InvT : List Book → Tunnel → Type 0
InvT bs t = Inv bs t.present t.network.up t.network.down t.gateway.makers t.gateway.channel t.gateway.acted

-- a channel with the same endpoint and numbers
pub serving_same : (makers : List ℕ) (acted : List (ℕ × List ℕ)) (c c2 : Channel) → c2.endpoint ≡ c.endpoint → c2.number ≡ c.number → c2.expected ≡ c.expected → Serving makers acted (Some c) → Serving makers acted (Some c2)
serving_same [] acted c c2 a b d h = absurd h
serving_same (owner ∷ rest) acted c c2 a b d h = (a ∙ h.0, b ∙ h.1, d ∙ h.2)

pub serving_none : (makers : List ℕ) (acted : List (ℕ × List ℕ)) → Serving makers acted None
serving_none [] acted = tt
serving_none (owner ∷ rest) acted = tt

hears_by : (makers : List ℕ) (acted : List (ℕ × List ℕ)) (c c2 : Channel) (b : Bool) → Serving makers acted (Some c) → Serving makers acted (Some c2) → Serving makers acted (cond b (Some c2) (Some c))
hears_by makers acted c c2 true h h2 = h2
hears_by makers acted c c2 false h h2 = h

pub hears_serving : (makers : List ℕ) (acted : List (ℕ × List ℕ)) (channel : Option Channel) (from now : ℕ) → Serving makers acted channel → Serving makers acted (hears channel from now)
hears_serving makers acted None from now h = h
hears_serving makers acted (Some c) from now h =
    hears_by makers acted c (record c { heard = now }) (c.endpoint == from) h (serving_same makers acted c (record c { heard = now }) refl refl refl h)

settles_by : (makers : List ℕ) (acted : List (ℕ × List ℕ)) (c c2 : Channel) (t : Bool) → Serving makers acted (Some c) → Serving makers acted (Some c2) → Serving makers acted (Some (cond t c2 c))
settles_by makers acted c c2 true h h2 = h2
settles_by makers acted c c2 false h h2 = h

settles_serving : (makers : List ℕ) (acted : List (ℕ × List ℕ)) (c : Channel) (number status : ℕ) → Serving makers acted (Some c) → Serving makers acted (Some (settles c number status))
settles_serving makers acted c number status h =
    settles_by makers acted c (record c { own = next_number c.own; outstanding = None }) (is_put c.outstanding && (number == c.own) && (status == 0)) h
    (serving_same makers acted c (record c { own = next_number c.own; outstanding = None }) refl refl refl h)

owner_has : (makers : List ℕ) (acted : List (ℕ × List ℕ)) (c : Channel) (e : ℕ) → Serving makers acted (Some c) → c.endpoint ≡ e → (k : ℕ) × (c.number ≡ number_of k) × Has makers k e
owner_has [] acted c e h is = absurd h
owner_has (owner ∷ rest) acted c e h is = (length rest, h.1, inl (refl, sym h.0 ∙ is))

pred : (n : ℕ) → suc n - 1 ≡ n
pred n = omega arith

module _ (bs : List Book) (present : ℕ) (up down : List Sent) (tunnel : IndAddr) (bus waiting : List Ldata) (acted puts : List (ℕ × List ℕ)) (now : ℕ) where
  abbrev pub gateway : List ℕ → Option Channel → Gateway
  gateway makers channel = record { tunnel = tunnel; channel = channel; makers = makers; bus = bus; waiting = waiting; acted = acted; puts = puts }

  abbrev pub tunnel_with : List ℕ → Option Channel → Tunnel
  tunnel_with makers channel = record { present = present; network = record { up = up; down = down }; gateway = gateway makers channel; now = now }

  module _ (s : Sent) (d : ℕ) (young : d < 128) (at : slice_get up d ≡ Some s) where
    -- a connect request
    ask_makes : (makers : List ℕ) (channel : Option Channel) → Inv bs present up down makers channel acted → datagram_in s.octets ≡ Some ConnectRequest → length makers < s.made + 255
        → (g : Gateway) → g.makers ≡ makers → g.acted ≡ acted
        → InvT bs (sends_down (with_gateway (tunnel_with makers channel) (record g { channel = Some (new_channel s.endpoint (number_of (length makers)) now); makers = s.endpoint ∷ makers; acted = acted })) s.endpoint (ConnectResponse (number_of (length makers)) 0 (Some tunnel)))
    ask_makes makers channel inv is soon g m a =
        let seen = response_seen (number_of (length makers)) tunnel in
        response_down bs present up down (s.endpoint ∷ makers) (Some (new_channel s.endpoint (number_of (length makers)) now)) acted
        (make_kept bs present up down makers channel acted inv s d at is soon (new_channel s.endpoint (number_of (length makers)) now) refl refl refl)
        (Written (ConnectResponse (number_of (length makers)) 0 (Some tunnel))) s.endpoint (suc (length makers)) (number_of (length makers)) 0 seen.0 seen.1
        (λ z. record { place = length makers; number = refl; maker = inl (refl, refl) })

    ask_again : (makers : List ℕ) (c c2 : Channel) → Inv bs present up down makers (Some c) acted → c.endpoint ≡ s.endpoint → c2.endpoint ≡ c.endpoint → c2.number ≡ c.number → c2.expected ≡ c.expected
        → InvT bs (sends_down (tunnel_with makers (Some c2)) s.endpoint (ConnectResponse c.number 0 (Some tunnel)))
    ask_again makers c c2 inv own a b e =
        let seen = response_seen c.number tunnel in
        let has = owner_has makers acted c s.endpoint inv.serving own in
        response_down bs present up down makers (Some c2) acted
        (channel_kept bs present up down makers (Some c) (Some c2) acted inv (serving_same makers acted c c2 a b e inv.serving))
        (Written (ConnectResponse c.number 0 (Some tunnel))) s.endpoint (length makers) c.number 0 seen.0 seen.1
        (λ z. record { place = has.0; number = has.1; maker = has.2 })

    abbrev hearing : Channel → Channel
    hearing c = record c { heard = now }

    -- what comes of an answer
    abbrev Then : List ℕ → Option Channel → GatewayTook → Type 0
    Then makers channel took = InvT bs (gives (tunnel_with makers channel) s.endpoint took)

    connect_by : (makers : List ℕ) (c : Channel) → Inv bs present up down makers (Some c) acted → datagram_in s.octets ≡ Some ConnectRequest → length makers < s.made + 255
        → (b : Bool) → (c.endpoint == s.endpoint) ≡ b → Then makers (Some c) (connects (gateway makers (cond b (Some (hearing c)) (Some c))) s.endpoint now (cond b (Some (hearing c)) (Some c)))
    connect_by makers c inv is soon true h =
        let Q : Bool → Type 0 = λ b. Then makers (Some c) (cond b (answers (ConnectResponse c.number 0 (Some tunnel)) (gateway makers (Some (hearing c)))) (answers (ConnectResponse (number_of (length makers)) 0 (Some tunnel)) (makes (closed (gateway makers (Some (hearing c)))) s.endpoint now))) in
        subst Q (sym h) (ask_again makers c (hearing c) inv (eqb-true c.endpoint s.endpoint h) refl refl refl)
    connect_by makers c inv is soon false h =
        let Q : Bool → Type 0 = λ b. Then makers (Some c) (cond b (answers (ConnectResponse c.number 0 (Some tunnel)) (gateway makers (Some c))) (answers (ConnectResponse (number_of (length makers)) 0 (Some tunnel)) (makes (closed (gateway makers (Some c))) s.endpoint now))) in
        subst Q (sym h) (ask_makes makers (Some c) inv is soon (closed (gateway makers (Some c))) refl refl)

    ask_took : (makers : List ℕ) (channel : Option Channel) → Inv bs present up down makers channel acted → datagram_in s.octets ≡ Some ConnectRequest → length makers < s.made + 255
        → InvT bs (takes_frame (tunnel_with makers channel) s.endpoint (Some ConnectRequest))
    unfolding gateway_took
    ask_took makers None inv is soon = ask_makes makers None inv is soon (gateway makers None) refl refl
    ask_took makers (Some c) inv is soon = connect_by makers c inv is soon (c.endpoint == s.endpoint) refl

    -- a request
    acts_so : (owner : ℕ) (rest : List ℕ) (c heard : Channel) (n : ℕ) (p : List ℕ) → Inv bs present up down (owner ∷ rest) (Some c) acted → c.endpoint ≡ s.endpoint
        → datagram_in s.octets ≡ Some (TunnellingRequest c.number n p) → heard.endpoint ≡ c.endpoint → heard.number ≡ c.number → heard.expected ≡ c.expected → n ≡ c.expected
        → InvT bs (sends_down (with_gateway (tunnel_with (owner ∷ rest) (Some c)) (acts_on (gateway (owner ∷ rest) (Some heard)) heard p)) s.endpoint (TunnellingAck c.number n 0))
    acts_so owner rest c heard n p inv own is a b e h =
        let from : s.endpoint ≡ owner = sym own ∙ inv.serving.0 in
        let number : c.number ≡ number_of (length rest) = inv.serving.1 in
        let is2 : datagram_in s.octets ≡ Some (TunnellingRequest (number_of (length rest)) n p) = is ∙ ap (λ z. Some (TunnellingRequest z n p)) number in
        let ack : seen_of (Written (TunnellingAck c.number n 0)) ≡ Some (TunnellingAck (number_of (length rest)) n 0) = ack_seen c.number n ∙ ap (λ z. Some (TunnellingAck z n 0)) number in
        (acts_kept bs present up down owner rest c acted inv s d young at n p is2 from (Written (TunnellingAck c.number n 0)) (suc (length rest)) ack (pred (length rest)) h (record heard { expected = next_number heard.expected }) (a ∙ inv.serving.0) (b ∙ number) (ap next_number e))

    again_so : (owner : ℕ) (rest : List ℕ) (c heard : Channel) (n : ℕ) (p : List ℕ) → Inv bs present up down (owner ∷ rest) (Some c) acted → c.endpoint ≡ s.endpoint
        → datagram_in s.octets ≡ Some (TunnellingRequest c.number n p) → heard.endpoint ≡ c.endpoint → heard.number ≡ c.number → heard.expected ≡ c.expected → next_number n ≡ c.expected
        → InvT bs (sends_down (tunnel_with (owner ∷ rest) (Some heard)) s.endpoint (TunnellingAck c.number n 0))
    again_so owner rest c heard n p inv own is a b e h =
        let from : s.endpoint ≡ owner = sym own ∙ inv.serving.0 in
        let number : c.number ≡ number_of (length rest) = inv.serving.1 in
        let is2 : datagram_in s.octets ≡ Some (TunnellingRequest (number_of (length rest)) n p) = is ∙ ap (λ z. Some (TunnellingRequest z n p)) number in
        let ack : seen_of (Written (TunnellingAck c.number n 0)) ≡ Some (TunnellingAck (number_of (length rest)) n 0) = ack_seen c.number n ∙ ap (λ z. Some (TunnellingAck z n 0)) number in
        channel_kept bs present up (new_datagram (Written (TunnellingAck c.number n 0)) s.endpoint (suc (length rest)) ∷ down) (owner ∷ rest) (Some c) (Some heard) acted
        (again_kept bs present up down owner rest c acted inv s d young at n p is2 from (Written (TunnellingAck c.number n 0)) (suc (length rest)) ack (pred (length rest)) h)
        (serving_same (owner ∷ rest) acted c heard a b e inv.serving)

    stays : (makers : List ℕ) (c heard : Channel) → Inv bs present up down makers (Some c) acted → heard.endpoint ≡ c.endpoint → heard.number ≡ c.number → heard.expected ≡ c.expected → InvT bs (tunnel_with makers (Some heard))
    stays makers c heard inv a b e = channel_kept bs present up down makers (Some c) (Some heard) acted inv (serving_same makers acted c heard a b e inv.serving)

    -- what a request that names the channel does
    request_by : (owner : ℕ) (rest : List ℕ) (c : Channel) (n : ℕ) (p : List ℕ) → Inv bs present up down (owner ∷ rest) (Some c) acted → c.endpoint ≡ s.endpoint
        → datagram_in s.octets ≡ Some (TunnellingRequest c.number n p) → (w z : Bool) → (n == c.expected) ≡ w → (next_number n == c.expected) ≡ z
        → Then (owner ∷ rest) (Some c) (cond w (record { send = Some (TunnellingAck c.number n 0); acted = Some p; after = acts_on (gateway (owner ∷ rest) (Some (hearing c))) (hearing c) p })
        (cond z (answers (TunnellingAck c.number n 0) (gateway (owner ∷ rest) (Some (hearing c)))) (drops (gateway (owner ∷ rest) (Some (hearing c))))))
    request_by owner rest c n p inv own is true z hw hz = acts_so owner rest c (hearing c) n p inv own is refl refl refl (eqb-true n c.expected hw)
    request_by owner rest c n p inv own is false true hw hz = again_so owner rest c (hearing c) n p inv own is refl refl refl (eqb-true (next_number n) c.expected hz)
    request_by owner rest c n p inv own is false false hw hz = stays (owner ∷ rest) c (hearing c) inv refl refl refl

    named_by : (makers : List ℕ) (c : Channel) (n : ℕ) (p : List ℕ) → Inv bs present up down makers (Some c) acted → c.endpoint ≡ s.endpoint
        → datagram_in s.octets ≡ Some (TunnellingRequest c.number n p) → Then makers (Some c) (request_took (gateway makers (Some (hearing c))) (Some (hearing c)) n p)
    named_by [] c n p inv own is = absurd inv.serving
    named_by (owner ∷ rest) c n p inv own is = request_by owner rest c n p inv own is (n == c.expected) (next_number n == c.expected) refl refl

    tell_by : (makers : List ℕ) (c : Channel) (number n : ℕ) (p : List ℕ) → Inv bs present up down makers (Some c) acted → datagram_in s.octets ≡ Some (TunnellingRequest number n p)
        → (b v : Bool) → (c.endpoint == s.endpoint) ≡ b → (c.number == number) ≡ v
        → Then makers (Some c) (cond (names s.endpoint number (cond b (Some (hearing c)) (Some c))) (request_took (gateway makers (cond b (Some (hearing c)) (Some c))) (cond b (Some (hearing c)) (Some c)) n p) (drops (gateway makers (cond b (Some (hearing c)) (Some c)))))
    tell_by makers c number n p inv is true v h g =
        let Q : Bool → Type 0 = λ t. Then makers (Some c) (cond (t && (c.number == number)) (request_took (gateway makers (Some (hearing c))) (Some (hearing c)) n p) (drops (gateway makers (Some (hearing c))))) in
        let R : Bool → Type 0 = λ t. Then makers (Some c) (cond t (request_took (gateway makers (Some (hearing c))) (Some (hearing c)) n p) (drops (gateway makers (Some (hearing c))))) in
        subst Q (sym h) (subst R (sym g) (by_number v g))
      where
        by_number : (x : Bool) → (c.number == number) ≡ x → Then makers (Some c) (cond x (request_took (gateway makers (Some (hearing c))) (Some (hearing c)) n p) (drops (gateway makers (Some (hearing c)))))
        by_number true e = named_by makers c n p inv (eqb-true c.endpoint s.endpoint h) (is ∙ ap (λ z. Some (TunnellingRequest z n p)) (sym (eqb-true c.number number e)))
        by_number false e = stays makers c (hearing c) inv refl refl refl
    tell_by makers c number n p inv is false v h g =
        let Q : Bool → Type 0 = λ t. Then makers (Some c) (cond (t && (c.number == number)) (request_took (gateway makers (Some c)) (Some c) n p) (drops (gateway makers (Some c)))) in
        subst Q (sym h) inv

    tell_took : (makers : List ℕ) (channel : Option Channel) → Inv bs present up down makers channel acted → (number n : ℕ) (p : List ℕ) → datagram_in s.octets ≡ Some (TunnellingRequest number n p)
        → InvT bs (takes_frame (tunnel_with makers channel) s.endpoint (Some (TunnellingRequest number n p)))
    unfolding gateway_took
    tell_took makers None inv number n p is = inv
    tell_took makers (Some c) inv number n p is = tell_by makers c number n p inv is (c.endpoint == s.endpoint) (c.number == number) refl refl

    -- the other services
    heard_kept : (makers : List ℕ) (channel : Option Channel) → Inv bs present up down makers channel acted → Inv bs present up down makers (hears channel s.endpoint now) acted
    heard_kept makers channel inv = channel_kept bs present up down makers channel (hears channel s.endpoint now) acted inv (hears_serving makers acted channel s.endpoint now inv.serving)

    -- an answer that is neither an acknowledgement nor a response
    sends_other : (t : Tunnel) → InvT bs t → (endpoint : ℕ) (frame : IpFrame) → IsOther (seen_of (Written frame)) → InvT bs (sends_down t endpoint frame)
    sends_other t inv endpoint frame o = other_down bs t.present t.network.up t.network.down t.gateway.makers t.gateway.channel t.gateway.acted inv (Written frame) endpoint (length t.gateway.makers) o

    state_took : (makers : List ℕ) (channel : Option Channel) → Inv bs present up down makers channel acted → (number : ℕ) → InvT bs (takes_frame (tunnel_with makers channel) s.endpoint (Some (StateRequest number)))
    unfolding gateway_took
    state_took makers channel inv number = by_name (names s.endpoint number (hears channel s.endpoint now))
      where
        by_name : (b : Bool) → Then makers channel (cond b (answers (StateResponse number 0) (gateway makers (hears channel s.endpoint now))) (drops (gateway makers (hears channel s.endpoint now))))
        by_name true = sends_other (tunnel_with makers (hears channel s.endpoint now)) (heard_kept makers channel inv) s.endpoint (StateResponse number 0) (subst IsOther (sym (state_seen number 0)) tt)
        by_name false = heard_kept makers channel inv

    closed_by : (makers : List ℕ) (channel : Option Channel) → Inv bs present up down makers channel acted → InvT bs (with_gateway (tunnel_with makers channel) (closed (gateway makers channel)))
    closed_by makers None inv = inv
    closed_by makers (Some c) inv = channel_kept bs present up down makers (Some c) None acted inv (serving_none makers acted)

    disconnect_took : (makers : List ℕ) (channel : Option Channel) → Inv bs present up down makers channel acted → (number : ℕ) → InvT bs (takes_frame (tunnel_with makers channel) s.endpoint (Some (DisconnectRequest number)))
    unfolding gateway_took
    disconnect_took makers channel inv number = by_name (names s.endpoint number (hears channel s.endpoint now))
      where
        by_name : (b : Bool)
            → Then makers channel (cond b (answers (DisconnectResponse number 0) (closed (gateway makers (hears channel s.endpoint now)))) (answers (DisconnectResponse number 0x21) (gateway makers (hears channel s.endpoint now))))
        by_name true =
            sends_other (with_gateway (tunnel_with makers channel) (closed (gateway makers (hears channel s.endpoint now)))) (closed_by makers (hears channel s.endpoint now) (heard_kept makers channel inv)) s.endpoint
            (DisconnectResponse number 0) (subst IsOther (sym (disconnected_seen number 0)) tt)
        by_name false = sends_other (tunnel_with makers (hears channel s.endpoint now)) (heard_kept makers channel inv) s.endpoint (DisconnectResponse number 0x21) (subst IsOther (sym (disconnected_seen number 0x21)) tt)

    acknowledged_kept : (makers : List ℕ) (channel : Option Channel) → Inv bs present up down makers channel acted → (own status : ℕ) → InvT bs (with_gateway (tunnel_with makers channel) (acknowledged (gateway makers channel) channel own status))
    acknowledged_kept makers None inv own status = inv
    acknowledged_kept makers (Some c) inv own status = channel_kept bs present up down makers (Some c) (Some (settles c own status)) acted inv (settles_serving makers acted c own status inv.serving)

    ack_took : (makers : List ℕ) (channel : Option Channel) → Inv bs present up down makers channel acted → (number own status : ℕ) → InvT bs (takes_frame (tunnel_with makers channel) s.endpoint (Some (TunnellingAck number own status)))
    unfolding gateway_took
    ack_took makers channel inv number own status = by_name (names s.endpoint number (hears channel s.endpoint now))
      where
        by_name : (b : Bool)
            → Then makers channel (cond b (drops (acknowledged (gateway makers (hears channel s.endpoint now)) (hears channel s.endpoint now) own status)) (drops (gateway makers (hears channel s.endpoint now))))
        by_name true = acknowledged_kept makers (hears channel s.endpoint now) (heard_kept makers channel inv) own status
        by_name false = heard_kept makers channel inv

    pub took : (makers : List ℕ) (channel : Option Channel) → Inv bs present up down makers channel acted → length makers < s.made + 255 → (f : Option IpFrame) → datagram_in s.octets ≡ f
        → InvT bs (takes_frame (tunnel_with makers channel) s.endpoint f)
    unfolding gateway_took
    took makers channel inv soon None is = inv
    took makers channel inv soon (Some ConnectRequest) is = ask_took makers channel inv is soon
    took makers channel inv soon (Some (ConnectResponse c status t)) is = heard_kept makers channel inv
    took makers channel inv soon (Some (StateRequest c)) is = state_took makers channel inv c
    took makers channel inv soon (Some (StateResponse c status)) is = heard_kept makers channel inv
    took makers channel inv soon (Some (DisconnectRequest c)) is = disconnect_took makers channel inv c
    took makers channel inv soon (Some (DisconnectResponse c status)) is = heard_kept makers channel inv
    took makers channel inv soon (Some (TunnellingRequest c n p)) is = tell_took makers channel inv c n p is
    took makers channel inv soon (Some (TunnellingAck c n status)) is = ack_took makers channel inv c n status
