-- A tunnelling request that the gateway acted on, and that comes again, is acted on no more and leaves the channel open.
use Rattle.std.proofs.Common.{◌≡◌, ℕ, zero, suc, ◌+◌, ◌%◌, ◌==◌, Bool, true, false, List, [], ◌∷◌, is_some, Option, Some, None, refl, ap, sym, subst, ◌∙◌, arith, if◌then◌else◌}
use Rattle.std.specs.Prelude.{slice_get}
use Rattle.knx_model.specs.declared.frames.cemi.Ldata.{Ldata}
use Rattle.knx_model.specs.declared.frames.ip.IpFrame.{IpFrame}
use Rattle.knx_model.specs.declared.frames.ip.IpFrame.TheVariants.{ConnectRequest, ConnectResponse, StateRequest, StateResponse, DisconnectRequest, DisconnectResponse, TunnellingRequest, TunnellingAck}
use Rattle.line_model.specs.Gateway.{Gateway, GatewayTook, Channel, next_number, took, hears, gateway_took, request_took, connects, names, answers, is_put, next_put}
use Rattle.line_model.specs.Network.{Sent, changed_at, once_more}
use Rattle.line_model.specs.Reading.{datagram_in}
use Rattle.line_model.specs.Tunnel.{Tunnel, puts, puts_next, sends_down_if, takes_sent, takes_frame, with_gateway}

-- ---- what the channel doesn't expect

-- a channel is open, and this isn't the number that it expects next
abbrev pub IsBehind : Option Channel → ℕ → Type 0
IsBehind None number = ⊥
IsBehind (Some c) number = (number == c.expected) ≡ false

abbrev pub IsRepeat : Option Channel → Option IpFrame → Type 0
IsRepeat channel (Some (TunnellingRequest c number cemi)) = IsBehind channel number
IsRepeat channel _ = ⊥

next_behind : (n expected : ℕ) → (n == expected) ≡ true → (n == next_number expected) ≡ false
next_behind n expected e = let same : n ≡ expected = equal n expected e in grind (arith, other n expected same)
  where
    equal : (a b : ℕ) → (a == b) ≡ true → a ≡ b
    equal a b e = grind arith

    other : (a b : ℕ) → a ≡ b → a ≡ (b + 1) % 256 → ⊥
    other a b e f = omega (arith, e, f)

untrue : {P : Type 0} → false ≡ true → P
untrue e = cc

-- ---- what is acted on isn't expected any more

acts_if : (b : Bool) (t u : GatewayTook) (frame : Option IpFrame) → (b ≡ true → is_some t.acted ≡ true → IsRepeat t.after.channel frame) → (b ≡ false → is_some u.acted ≡ true → IsRepeat u.after.channel frame)
    → is_some (if b then t else u).acted ≡ true → IsRepeat (if b then t else u).after.channel frame
acts_if true t u frame this that e = this refl e
acts_if false t u frame this that e = that refl e

connects_none : (g : Gateway) (from now : ℕ) (channel : Option Channel) → is_some (connects g from now channel).acted ≡ false
connects_none g from now None = refl
connects_none g from now (Some c) = by_test (c.endpoint == from) _ _ _ _
  where
    by_test : (t : Bool) (f h : IpFrame) (one other : Gateway) → is_some (if t then answers f one else answers h other).acted ≡ false
    by_test true f h one other = refl
    by_test false f h one other = refl

requests_act : (g : Gateway) (channel : Option Channel) (n number : ℕ) (cemi : List ℕ) → is_some (request_took g channel number cemi).acted ≡ true → IsRepeat (request_took g channel number cemi).after.channel (Some (TunnellingRequest n number cemi))
requests_act g None n number cemi e = untrue e
requests_act g (Some c) n number cemi e = acts_if (number == c.expected) _ _ (Some (TunnellingRequest n number cemi)) (λ same acts. next_behind number c.expected same)
    (λ other acts. acts_if (next_number number == c.expected) _ _ (Some (TunnellingRequest n number cemi)) (λ s a. untrue a) (λ s a. untrue a) acts) e

took_acts : (g : Gateway) (from now : ℕ) (frame : IpFrame) → is_some (took g from now frame).acted ≡ true → IsRepeat (took g from now frame).after.channel (Some frame)
took_acts g from now ConnectRequest e = untrue (sym (connects_none g from now g.channel) ∙ e)
took_acts g from now (ConnectResponse channel status tunnel) e = untrue e
took_acts g from now (StateRequest n) e = acts_if (names from n g.channel) _ _ (Some (StateRequest n)) (λ s a. untrue a) (λ s a. untrue a) e
took_acts g from now (StateResponse channel status) e = untrue e
took_acts g from now (DisconnectRequest n) e = acts_if (names from n g.channel) _ _ (Some (DisconnectRequest n)) (λ s a. untrue a) (λ s a. untrue a) e
took_acts g from now (DisconnectResponse channel status) e = untrue e
took_acts g from now (TunnellingRequest n number cemi) e =
    acts_if (names from n g.channel) _ _ (Some (TunnellingRequest n number cemi)) (λ s a. requests_act g g.channel n number cemi a) (λ s a. untrue a) e
took_acts g from now (TunnellingAck n number status) e = acts_if (names from n g.channel) _ _ (Some (TunnellingAck n number status)) (λ s a. untrue a) (λ s a. untrue a) e

pub acts_once : (g : Gateway) (from now : ℕ) (frame : IpFrame) → is_some (gateway_took g from now frame).acted ≡ true → IsRepeat (gateway_took g from now frame).after.channel (Some frame)
unfolding gateway_took
acts_once g from now frame e = took_acts (record g { channel = hears g.channel from now }) from now frame e

-- ---- a repeat

heard_behind : (channel : Option Channel) (from now number : ℕ) → IsBehind channel number → IsBehind (hears channel from now) number
heard_behind None from now number h = absurd h
heard_behind (Some c) from now number h = by_test (c.endpoint == from)
  where
    by_test : (t : Bool) → IsBehind (if t then Some (record c { heard = now }) else Some c) number
    by_test true = h
    by_test false = h

-- it isn't acted on, and the channel stays open
pub record Repeats (t : GatewayTook) : Type 0 where
  pub nothing : is_some t.acted ≡ false
  pub opened : is_some t.after.channel ≡ true

repeats_if : (b : Bool) (t u : GatewayTook) → (b ≡ true → Repeats t) → (b ≡ false → Repeats u) → Repeats (if b then t else u)
repeats_if true t u this that = this refl
repeats_if false t u this that = that refl

is_open : (channel : Option Channel) (number : ℕ) → IsBehind channel number → is_some channel ≡ true
is_open None number h = absurd h
is_open (Some c) number h = refl

request_repeats : (g : Gateway) (channel : Option Channel) (number : ℕ) (cemi : List ℕ) → is_some g.channel ≡ true → IsBehind channel number → Repeats (request_took g channel number cemi)
request_repeats g None number cemi opened h = absurd h
request_repeats g (Some c) number cemi opened h = repeats_if (number == c.expected) _ _ (λ e. untrue (sym h ∙ e))
    (λ e. repeats_if (next_number number == c.expected) _ _ (λ s. record { nothing = refl; opened = opened }) (λ s. record { nothing = refl; opened = opened }))

took_repeats : (g : Gateway) (from now n number : ℕ) (cemi : List ℕ) → IsBehind g.channel number → Repeats (took g from now (TunnellingRequest n number cemi))
took_repeats g from now n number cemi h = repeats_if (names from n g.channel) _ _ (λ s. request_repeats g g.channel number cemi (is_open g.channel number h) h)
    (λ s. record { nothing = refl; opened = is_open g.channel number h })

pub repeats_nothing : (g : Gateway) (from now : ℕ) (frame : IpFrame) → IsRepeat g.channel (Some frame) → Repeats (gateway_took g from now frame)
unfolding gateway_took
repeats_nothing g from now (TunnellingRequest n number cemi) h = took_repeats (record g { channel = hears g.channel from now }) from now n number cemi (heard_behind g.channel from now number h)
repeats_nothing g from now ConnectRequest h = absurd h
repeats_nothing g from now (ConnectResponse channel status tunnel) h = absurd h
repeats_nothing g from now (StateRequest n) h = absurd h
repeats_nothing g from now (StateResponse channel status) h = absurd h
repeats_nothing g from now (DisconnectRequest n) h = absurd h
repeats_nothing g from now (DisconnectResponse channel status) h = absurd h
repeats_nothing g from now (TunnellingAck n number status) h = absurd h

-- ---- the gateway's own sending changes none of that

puts_behind : (t : Tunnel) (channel : Option Channel) (waiting : List Ldata) (number : ℕ) → t.gateway.channel ≡ channel → IsBehind channel number → IsBehind (puts t (next_put channel waiting)).gateway.channel number
puts_behind t None waiting number is h = absurd h
puts_behind t (Some c) [] number is h = subst (λ o. IsBehind o number) (sym is) h
puts_behind t (Some c) (frame ∷ frames) number is h = by_test (is_put c.outstanding)
  where
    by_test : (b : Bool) → IsBehind (puts t (if b then None else Some (c, frame))).gateway.channel number
    by_test true = subst (λ o. IsBehind o number) (sym is) h
    by_test false = h

pub still_behind : (t : Tunnel) (frame : Option IpFrame) → IsRepeat t.gateway.channel frame → IsRepeat (puts_next t).gateway.channel frame
still_behind t None h = absurd h
still_behind t (Some (TunnellingRequest n number cemi)) h = puts_behind t t.gateway.channel t.gateway.waiting number refl h
still_behind t (Some ConnectRequest) h = absurd h
still_behind t (Some (ConnectResponse channel status tunnel)) h = absurd h
still_behind t (Some (StateRequest n)) h = absurd h
still_behind t (Some (StateResponse channel status)) h = absurd h
still_behind t (Some (DisconnectRequest n)) h = absurd h
still_behind t (Some (DisconnectResponse channel status)) h = absurd h
still_behind t (Some (TunnellingAck n number status)) h = absurd h

puts_open : (t : Tunnel) (o : Option (Channel × Ldata)) → is_some t.gateway.channel ≡ true → is_some (puts t o).gateway.channel ≡ true
puts_open t None h = h
puts_open t (Some (c, frame)) h = refl

pub still_open : (t : Tunnel) → is_some t.gateway.channel ≡ true → is_some (puts_next t).gateway.channel ≡ true
still_open t h = puts_open t (next_put t.gateway.channel t.gateway.waiting) h

-- ---- the client's datagrams stay in their places

puts_up : (t : Tunnel) (o : Option (Channel × Ldata)) → (puts t o).network.up ≡ t.network.up
puts_up t None = refl
puts_up t (Some (c, frame)) = refl

pub still_up : (t : Tunnel) → (puts_next t).network.up ≡ t.network.up
still_up t = puts_up t (next_put t.gateway.channel t.gateway.waiting)

answers_up : (t : Tunnel) (from : ℕ) (o : Option IpFrame) → (sends_down_if t from o).network.up ≡ t.network.up
answers_up t from None = refl
answers_up t from (Some frame) = refl

frame_up : (t : Tunnel) (from : ℕ) (o : Option IpFrame) → (takes_frame t from o).network.up ≡ t.network.up
frame_up t from None = refl
frame_up t from (Some frame) = answers_up (with_gateway t (gateway_took t.gateway from t.now frame).after) from (gateway_took t.gateway from t.now frame).send

pub taken_up : (t : Tunnel) (o : Option Sent) → (takes_sent t o).network.up ≡ t.network.up
taken_up t None = refl
taken_up t (Some s) = frame_up t s.endpoint (datagram_in s.octets)

pub changed_there : (age : ℕ) (l : List Sent) (s : Sent) → slice_get l age ≡ Some s → slice_get (changed_at age once_more l) age ≡ Some (once_more s)
changed_there age [] s e = cc
changed_there zero (x ∷ l) s e = ap (λ (o : Sent). Some (once_more o)) (inner x s e)
  where
    inner : (x s : Sent) → Some x ≡ Some s → x ≡ s
    inner x s e = cc
changed_there (suc age) (x ∷ l) s e = changed_there age l s e

pub repeat_open : (channel : Option Channel) (frame : Option IpFrame) → IsRepeat channel frame → is_some channel ≡ true
repeat_open channel None h = absurd h
repeat_open channel (Some (TunnellingRequest n number cemi)) h = is_open channel number h
repeat_open channel (Some ConnectRequest) h = absurd h
repeat_open channel (Some (ConnectResponse c status tunnel)) h = absurd h
repeat_open channel (Some (StateRequest n)) h = absurd h
repeat_open channel (Some (StateResponse c status)) h = absurd h
repeat_open channel (Some (DisconnectRequest n)) h = absurd h
repeat_open channel (Some (DisconnectResponse c status)) h = absurd h
repeat_open channel (Some (TunnellingAck n number status)) h = absurd h
