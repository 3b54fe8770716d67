-- Two gateways with the same end answer alike and have the same end afterwards.
use Rattle.std.proofs.Common.{◌≡◌, ℕ, suc, ◌==◌, Bool, true, false, List, length, Option, Some, None, refl, ap, sym, subst, ◌∙◌, arith, if◌then◌else◌}
use Rattle.std.proofs.lemmas.Grind.{common_steps}
use Rattle.knx_model.specs.declared.frames.ip.IpFrame.{IpFrame}
use Rattle.knx_model.specs.declared.frames.ip.IpFrame.TheVariants.{ConnectRequest, ConnectResponse, StateRequest, StateResponse, DisconnectRequest, DisconnectResponse, TunnellingRequest, TunnellingAck}
use Rattle.line_model.specs.declared.gateway_end.GatewayTook.{GatewayTook as Took}
use Rattle.line_model.specs.Gateway.{Gateway, GatewayTook, Channel, number_of, next_number, took, hears, gateway_took, request_took, acknowledged, settles, connects, names, drops, answers, makes, closed_if_open}
use Rattle.line_model.specs.GatewayEnd.{GatewayEnd, IsChannelNumber, TookAs, end_of, end_took, gateway_of, told}

-- what two gateways answer is the same, and they have the same end afterwards
pub record Same (t s : GatewayTook) : Type 0 where
  pub send : t.send ≡ s.send
  pub acted : t.acted ≡ s.acted
  pub after : end_of t.after ≡ end_of s.after

same_if : (b : Bool) (t s u v : GatewayTook) → Same t u → Same s v → Same (if b then t else s) (if b then u else v)
same_if true t s u v this that = this
same_if false t s u v this that = that

channel_same : (g h : Gateway) → end_of g ≡ end_of h → g.channel ≡ h.channel
channel_same g h same = ap (λ (e : GatewayEnd). e.channel) same

with_channel : (g h : Gateway) (channel : Option Channel) → end_of g ≡ end_of h → end_of (record g { channel = channel }) ≡ end_of (record h { channel = channel })
with_channel g h channel same = ap (λ (e : GatewayEnd). record e { channel = channel }) same

drops_alike : (g h : Gateway) → end_of g ≡ end_of h → Same (drops g) (drops h)
drops_alike g h same = record { send = refl; acted = refl; after = same }

answers_alike : (frame : IpFrame) (g h : Gateway) → end_of g ≡ end_of h → Same (answers frame g) (answers frame h)
answers_alike frame g h same = record { send = refl; acted = refl; after = same }

-- ---- a channel is made

-- the number after the next one depends on the next one alone
next_after : (m n : ℕ) → number_of m ≡ number_of n → number_of (suc m) ≡ number_of (suc n)
next_after m n same = omega arith

makes_alike : (from now : ℕ) (g h : Gateway) → end_of g ≡ end_of h → end_of (makes g from now) ≡ end_of (makes h from now)
makes_alike from now g h same =
    let number : number_of (length g.makers) ≡ number_of (length h.makers) = ap (λ (e : GatewayEnd). e.next) same in
    let tunnel : g.tunnel ≡ h.tunnel = ap (λ (e : GatewayEnd). e.tunnel) same in
    let after : number_of (suc (length g.makers)) ≡ number_of (suc (length h.makers)) = next_after (length g.makers) (length h.makers) number in
    cc

-- what was open before is closed with it
makes_closed : (from now : ℕ) (g : Gateway) (channel : Option Channel) → end_of (makes (closed_if_open g channel) from now) ≡ end_of (makes g from now)
makes_closed from now g None = refl
makes_closed from now g (Some c) = refl

response_alike : (g h : Gateway) → end_of g ≡ end_of h → ConnectResponse (number_of (length g.makers)) 0 (Some g.tunnel) ≡ ConnectResponse (number_of (length h.makers)) 0 (Some h.tunnel)
response_alike g h same = ap (λ (e : GatewayEnd). ConnectResponse e.next 0 (Some e.tunnel)) same

connects_alike : (from now : ℕ) (channel : Option Channel) (g h : Gateway) → end_of g ≡ end_of h → Same (connects g from now channel) (connects h from now channel)
connects_alike from now None g h same = record {
  send = ap (λ (f : IpFrame). Some f) (response_alike g h same);
  acted = refl;
  after = makes_alike from now g h same;
}
connects_alike from now (Some c) g h same = same_if (c.endpoint == from) _ _ _ _
    (record { send = ap (λ (e : GatewayEnd). Some (ConnectResponse c.number 0 (Some e.tunnel))) same; acted = refl; after = same })
    (record {
      send = ap (λ (f : IpFrame). Some f) (response_alike g h same);
      acted = refl;
      after = makes_closed from now g g.channel ∙ makes_alike from now g h same ∙ sym (makes_closed from now h h.channel);
    })

-- ---- the other frames

closes_alike : (channel : Option Channel) (g h : Gateway) → end_of g ≡ end_of h → end_of (closed_if_open g channel) ≡ end_of (closed_if_open h channel)
closes_alike None g h same = same
closes_alike (Some c) g h same = with_channel g h None same

request_alike : (channel : Option Channel) (number : ℕ) (frame : List ℕ) (g h : Gateway) → end_of g ≡ end_of h → Same (request_took g channel number frame) (request_took h channel number frame)
request_alike None number frame g h same = drops_alike g h same
request_alike (Some c) number frame g h same = same_if (number == c.expected) _ _ _ _
    (record { send = refl; acted = refl; after = with_channel g h (Some (record c { expected = next_number c.expected })) same })
    (same_if (next_number number == c.expected) _ _ _ _ (answers_alike (TunnellingAck c.number number 0) g h same) (drops_alike g h same))

acknowledged_alike : (channel : Option Channel) (number status : ℕ) (g h : Gateway) → end_of g ≡ end_of h → end_of (acknowledged g channel number status) ≡ end_of (acknowledged h channel number status)
acknowledged_alike None number status g h same = same
acknowledged_alike (Some c) number status g h same = with_channel g h (Some (settles c number status)) same

took_alike : (g h : Gateway) (from now : ℕ) (frame : IpFrame) → end_of g ≡ end_of h → Same (took g from now frame) (took h from now frame)
took_alike g h from now ConnectRequest same =
    subst (λ (x : Option Channel). Same (connects g from now g.channel) (connects h from now x)) (channel_same g h same) (connects_alike from now g.channel g h same)
took_alike g h from now (ConnectResponse channel status tunnel) same = drops_alike g h same
took_alike g h from now (StateRequest n) same =
    subst (λ (x : Option Channel). Same (took g from now (StateRequest n)) (if names from n x then answers (StateResponse n 0) h else drops h)) (channel_same g h same)
    (same_if (names from n g.channel) _ _ _ _ (answers_alike (StateResponse n 0) g h same) (drops_alike g h same))
took_alike g h from now (StateResponse channel status) same = drops_alike g h same
took_alike g h from now (DisconnectRequest n) same =
    subst (λ (x : Option Channel). Same (took g from now (DisconnectRequest n)) (if names from n x then answers (DisconnectResponse n 0) (closed_if_open h x) else answers (DisconnectResponse n 0x21) h)) (channel_same g h same)
    (same_if (names from n g.channel) _ _ _ _
    (answers_alike (DisconnectResponse n 0) (closed_if_open g g.channel) (closed_if_open h g.channel) (closes_alike g.channel g h same))
    (answers_alike (DisconnectResponse n 0x21) g h same))
took_alike g h from now (DisconnectResponse channel status) same = drops_alike g h same
took_alike g h from now (TunnellingRequest n number frame) same =
    subst (λ (x : Option Channel). Same (took g from now (TunnellingRequest n number frame)) (if names from n x then request_took h x number frame else drops h)) (channel_same g h same)
    (same_if (names from n g.channel) _ _ _ _ (request_alike g.channel number frame g h same) (drops_alike g h same))
took_alike g h from now (TunnellingAck n number status) same =
    subst (λ (x : Option Channel). Same (took g from now (TunnellingAck n number status)) (if names from n x then drops (acknowledged h x number status) else drops h)) (channel_same g h same)
    (same_if (names from n g.channel) _ _ _ _
    (drops_alike (acknowledged g g.channel number status) (acknowledged h g.channel number status) (acknowledged_alike g.channel number status g h same))
    (drops_alike g h same))

hears_alike : (g h : Gateway) (from now : ℕ) → end_of g ≡ end_of h → end_of (record g { channel = hears g.channel from now }) ≡ end_of (record h { channel = hears h.channel from now })
hears_alike g h from now same = ap (λ (e : GatewayEnd). record e { channel = hears e.channel from now }) same

gateway_alike : (g h : Gateway) (from now : ℕ) (frame : IpFrame) → end_of g ≡ end_of h → Same (gateway_took g from now frame) (gateway_took h from now frame)
unfolding gateway_took
gateway_alike g h from now frame same =
    took_alike (record g { channel = hears g.channel from now }) (record h { channel = hears h.channel from now }) from now frame (hears_alike g h from now same)

-- ---- what is told, and the end afterwards

pub answer_alike : (g h : Gateway) (from now : ℕ) (frame : IpFrame) → end_of g ≡ end_of h → told (gateway_took g from now frame) ≡ told (gateway_took h from now frame)
answer_alike g h from now frame same =
    let alike = gateway_alike g h from now frame same in
    let send = alike.send in
    let acted = alike.acted in
    cc

pub next_alike : (g h : Gateway) (from now : ℕ) (frame : IpFrame) → end_of g ≡ end_of h → end_of (gateway_took g from now frame).after ≡ end_of (gateway_took h from now frame).after
next_alike g h from now frame same = (gateway_alike g h from now frame same).after

-- the gateway that stands for an end has this end
own_end : (e : GatewayEnd) → IsChannelNumber e.next → end_of (gateway_of e) ≡ e
own_end e number = grind (arith, common_steps)

number_is : (place : ℕ) → IsChannelNumber (number_of place)
number_is place = (omega arith, omega arith)

stands_for : (g : Gateway) (e : GatewayEnd) → end_of g ≡ e → end_of (gateway_of e) ≡ end_of g
stands_for g e same = subst (λ (x : GatewayEnd). end_of (gateway_of x) ≡ end_of g) same (own_end (end_of g) (number_is (length g.makers)))

-- ---- what an end answered is what each gateway with this end answers

pub end_acts : (e heard : GatewayEnd) (from now : ℕ) (frame : IpFrame) (answer : Took) (next : GatewayEnd)
    → heard ≡ record e { channel = hears e.channel from now } → TookAs (took (gateway_of heard) from now frame) answer next → TookAs (end_took e from now frame) answer next
unfolding gateway_took
end_acts e heard from now frame answer next is acts = subst (λ (x : GatewayEnd). TookAs (took (gateway_of x) from now frame) answer next) is acts

pub gateway_acts : (g : Gateway) (e : GatewayEnd) (from now : ℕ) (frame : IpFrame) (answer : Took) (next : GatewayEnd)
    → end_of g ≡ e → TookAs (end_took e from now frame) answer next → TookAs (gateway_took g from now frame) answer next
gateway_acts g e from now frame answer next same acts = record {
  answer = acts.answer ∙ answer_alike (gateway_of e) g from now frame (stands_for g e same);
  after = acts.after ∙ next_alike (gateway_of e) g from now frame (stands_for g e same);
}
