-- A datagram that comes to the gateway: whether it is acted on, and what stays of that.
use Rattle.std.proofs.Common.{◌≡◌, ℕ, suc, ◌-◌, ◌<◌, ◌≤◌, Bool, true, false, List, length, is_some, Option, Some, None, refl, ap, sym, subst, ◌∙◌, arith}
use Rattle.std.specs.Prelude.{slice_get, nat_lt}
use Rattle.std.proofs.lemmas.Option.{slice_get_within}
use Rattle.knx_model.specs.declared.frames.ip.IpFrame.{IpFrame}
use Rattle.line_model.specs.Counts.{age_of, number_at}
use Rattle.line_model.specs.Gateway.{Gateway, GatewayTook, gateway_took}
use Rattle.line_model.specs.Network.{Sent, OfSent, MayArrive, changed_at, once_more}
use Rattle.line_model.specs.Reading.{datagram_in}
use Rattle.line_model.specs.Tunnel.{Tunnel, IsConnectRequest, made, puts_next, sends_down_if, sends_up, takes_sent, takes_frame, with_gateway, with_up}
use Rattle.line_model.specs.World.{World, Send, From, Renew, Up, step}
use Rattle.tunnel_sim.proofs.Taking.{gateway_leaves}
use Rattle.tunnel_sim.specs.Gateways.{and_one}
use Rattle.bus_sim.proofs.Grows.{puts_acted, same_length}
use Rattle.bus_sim.proofs.Repeats.{IsRepeat, Repeats, acts_once, repeats_nothing, still_behind, still_open, still_up, taken_up, changed_there, repeat_open}

abbrev pub HasChannel : World → Type 0
HasChannel w = is_some w.tunnel.gateway.channel ≡ true

abbrev pub IsRepeated : Tunnel → Option Sent → Type 0
IsRepeated t o = OfSent (λ s. IsRepeat t.gateway.channel (datagram_in s.octets)) o

-- the datagram of this number is a request that was acted on
pub record WasActedOn (w : World) (number : ℕ) : Type 0 where
  pub sent : number ≤ length w.tunnel.network.up
  pub octets : IsRepeated w.tunnel (slice_get w.tunnel.network.up (age_of w.tunnel.network.up number))

-- ---- what the gateway's own sending leaves

still_repeated : (t : Tunnel) (o : Option Sent) → IsRepeated t o → IsRepeated (puts_next t) o
still_repeated t None h = absurd h
still_repeated t (Some s) h = still_behind t (datagram_in s.octets) h

answers_gateway : (t : Tunnel) (from : ℕ) (o : Option IpFrame) → (sends_down_if t from o).gateway ≡ t.gateway
answers_gateway t from None = refl
answers_gateway t from (Some frame) = refl

-- ---- it comes

untrue : {P : Type 0} → false ≡ true → P
untrue e = cc

not_less : (a b : ℕ) → nat_lt a b ≡ true → b ≡ a → ⊥
not_less a b h e = grind arith

-- the gateway after it, before it sends of itself
abbrev taken : Tunnel → ℕ → Option Sent → Tunnel
taken t age o = takes_sent (with_up t (changed_at age once_more t.network.up)) o

acted_after : (t : Tunnel) → length (puts_next t).gateway.acted ≡ length t.gateway.acted
acted_after t = puts_acted t _

one_more : (b : Bool) (n m k : ℕ) → m ≡ and_one b n → k ≡ m → nat_lt n k ≡ true → b ≡ true
one_more true n m k e f h = refl
one_more false n m k e f h = absurd (not_less n k h (f ∙ e))

frame_acts : (t u : Tunnel) (s : Sent) (frame : IpFrame) → u.gateway ≡ t.gateway → u.now ≡ t.now → nat_lt (length t.gateway.acted) (length (puts_next (takes_frame u s.endpoint (Some frame))).gateway.acted) ≡ true
    → IsRepeat (puts_next (takes_frame u s.endpoint (Some frame))).gateway.channel (Some frame)
frame_acts t u s frame same at h =
    let took : GatewayTook = gateway_took u.gateway s.endpoint u.now frame in
    let new : (takes_frame u s.endpoint (Some frame)).gateway ≡ took.after = answers_gateway (with_gateway u took.after) s.endpoint took.send in
    let many : length (puts_next (takes_frame u s.endpoint (Some frame))).gateway.acted ≡ length took.after.acted = acted_after (takes_frame u s.endpoint (Some frame)) ∙ ap (λ (g : Gateway). length g.acted) new in
    let acts : is_some took.acted ≡ true = one_more (is_some took.acted) (length u.gateway.acted) (length took.after.acted) _ (gateway_leaves u.gateway s.endpoint u.now frame).acted many
    (subst (λ (g : Gateway). nat_lt (length g.acted) (length (puts_next (takes_frame u s.endpoint (Some frame))).gateway.acted) ≡ true) (sym same) h) in
    still_behind (takes_frame u s.endpoint (Some frame)) (Some frame) (subst (λ (g : Gateway). IsRepeat g.channel (Some frame)) (sym new) (acts_once u.gateway s.endpoint u.now frame acts))

sent_acts : (t u : Tunnel) (o : Option Sent) → u.gateway ≡ t.gateway → u.now ≡ t.now → nat_lt (length t.gateway.acted) (length (puts_next (takes_sent u o)).gateway.acted) ≡ true → IsRepeated (puts_next (takes_sent u o)) o
sent_acts t u None same at h = absurd (not_less _ _ h (acted_after u ∙ ap (λ (g : Gateway). length g.acted) same))
sent_acts t u (Some s) same at h = by_frame (datagram_in s.octets) h
  where
    by_frame : (f : Option IpFrame) → nat_lt (length t.gateway.acted) (length (puts_next (takes_frame u s.endpoint f)).gateway.acted) ≡ true → IsRepeat (puts_next (takes_frame u s.endpoint f)).gateway.channel f
    by_frame None h = absurd (not_less _ _ h (acted_after u ∙ ap (λ (g : Gateway). length g.acted) same))
    by_frame (Some frame) h = frame_acts t u s frame same at h

repeated_open : (t : Tunnel) (o : Option Sent) → IsRepeated t o → is_some t.gateway.channel ≡ true
repeated_open t None h = absurd h
repeated_open t (Some s) h = repeat_open t.gateway.channel (datagram_in s.octets) h

aged : (length age : ℕ) → age < length → length - (length - age) ≡ age
aged length age h = omega (arith, h)

at_most : (length age : ℕ) → length - age ≤ length
at_most length age = omega arith

once_there : (t : Tunnel) (age : ℕ) (o : Option Sent) → slice_get t.network.up age ≡ o → (u : Tunnel) → u.network.up ≡ changed_at age once_more t.network.up → IsRepeated u o
    → IsRepeated u (slice_get u.network.up (age_of u.network.up (number_at t.network.up age)))
once_there t age None is u up h = absurd h
once_there t age (Some s) is u up h =
    let long : length u.network.up ≡ length t.network.up = ap length up ∙ same_length age once_more t.network.up in
    let there : age_of u.network.up (number_at t.network.up age) ≡ age = ap (λ n. n - (length t.network.up - age)) long ∙ aged (length t.network.up) age (slice_get_within t.network.up age s is) in
    let found : slice_get u.network.up (age_of u.network.up (number_at t.network.up age)) ≡ Some (once_more s) = ap (slice_get u.network.up) there ∙ ap (λ l. slice_get l age) up ∙ changed_there age t.network.up s is in
    subst (IsRepeated u) (sym found) h

-- it is acted on: it is a request, and isn't acted on again
pub up_acts : (w : World) (age : ℕ) → MayArrive (made w.tunnel) w.tunnel.network.up age → nat_lt (length w.tunnel.gateway.acted) (length (step w (Up age)).tunnel.gateway.acted) ≡ true
    → WasActedOn (step w (Up age)) (number_at w.tunnel.network.up age) × HasChannel (step w (Up age))
up_acts w age may h =
    let t : Tunnel = w.tunnel in
    let u : Tunnel = taken t age (slice_get t.network.up age) in
    let up : (puts_next u).network.up ≡ changed_at age once_more t.network.up = still_up u ∙ taken_up (with_up t (changed_at age once_more t.network.up)) (slice_get t.network.up age) in
    let acted : IsRepeated (puts_next u) (slice_get t.network.up age) = sent_acts t (with_up t (changed_at age once_more t.network.up)) (slice_get t.network.up age) refl refl h in (
      record {
        sent = subst (λ n. number_at t.network.up age ≤ n) (sym (ap length up ∙ same_length age once_more t.network.up)) (at_most (length t.network.up) age);
        octets = once_there t age (slice_get t.network.up age) refl (puts_next u) up acted;
      },
      repeated_open (puts_next u) (slice_get t.network.up age) acted,
    )

-- it comes again
frame_repeats : (u : Tunnel) (from : ℕ) (frame : IpFrame) → IsRepeat u.gateway.channel (Some frame)
    → (length (puts_next (takes_frame u from (Some frame))).gateway.acted ≡ length u.gateway.acted) × (is_some (puts_next (takes_frame u from (Some frame))).gateway.channel ≡ true)
frame_repeats u from frame h =
    let took : GatewayTook = gateway_took u.gateway from u.now frame in
    let r : Repeats took = repeats_nothing u.gateway from u.now frame h in
    let new : (takes_frame u from (Some frame)).gateway ≡ took.after = answers_gateway (with_gateway u took.after) from took.send in (
      acted_after (takes_frame u from (Some frame)) ∙ ap (λ (g : Gateway). length g.acted) new ∙ (gateway_leaves u.gateway from u.now frame).acted ∙ ap (λ b. and_one b (length u.gateway.acted)) r.nothing,
      still_open (takes_frame u from (Some frame)) (ap (λ (g : Gateway). is_some g.channel) new ∙ r.opened),
    )

sent_repeats : (u : Tunnel) (o : Option Sent) → IsRepeated u o → (length (puts_next (takes_sent u o)).gateway.acted ≡ length u.gateway.acted) × (is_some (puts_next (takes_sent u o)).gateway.channel ≡ true)
sent_repeats u None h = absurd h
sent_repeats u (Some s) h = by_frame (datagram_in s.octets) h
  where
    by_frame : (f : Option IpFrame) → IsRepeat u.gateway.channel f → (length (puts_next (takes_frame u s.endpoint f)).gateway.acted ≡ length u.gateway.acted) × (is_some (puts_next (takes_frame u s.endpoint f)).gateway.channel ≡ true)
    by_frame None h = absurd h
    by_frame (Some frame) h = frame_repeats u s.endpoint frame h

pub up_repeats : (w : World) (age : ℕ) → IsRepeated w.tunnel (slice_get w.tunnel.network.up age) → (nat_lt (length w.tunnel.gateway.acted) (length (step w (Up age)).tunnel.gateway.acted) ≡ true → ⊥) × HasChannel (step w (Up age))
up_repeats w age h =
    let r = sent_repeats (with_up w.tunnel (changed_at age once_more w.tunnel.network.up)) (slice_get w.tunnel.network.up age) h in
    (λ more. not_less _ _ more r.0, r.1)

-- ---- the client sends, or takes the next endpoint

pub open_come : (w : World) (endpoint : ℕ) (octets : List ℕ) → HasChannel w → HasChannel (step w (From endpoint octets))
open_come w endpoint octets h = still_open (sends_up w.tunnel endpoint octets) h

pub open_sent : (w : World) (octets : List ℕ) → HasChannel w → HasChannel (step w (Send octets))
open_sent w octets h = still_open (sends_up w.tunnel w.tunnel.present octets) h

pub open_renewed : (w : World) → HasChannel w → HasChannel (step w Renew)
open_renewed w h = still_open (record w.tunnel { present = suc w.tunnel.present }) h

younger : (length number : ℕ) → number ≤ length → suc length - number ≡ suc (length - number)
younger length number h = omega (arith, h)

more : (number length : ℕ) → number ≤ length → number ≤ suc length
more number length h = omega (arith, h)

pub acted_come : (w : World) (endpoint : ℕ) (octets : List ℕ) (number : ℕ) → WasActedOn w number → WasActedOn (step w (From endpoint octets)) number
acted_come w endpoint octets number h =
    let u : Tunnel = sends_up w.tunnel endpoint octets in
    let up : (puts_next u).network.up ≡ u.network.up = still_up u in
    let acted : IsRepeated (puts_next u) (slice_get w.tunnel.network.up (age_of w.tunnel.network.up number)) = still_repeated u (slice_get w.tunnel.network.up (age_of w.tunnel.network.up number)) h.octets in
    record {
      sent = subst (λ l. number ≤ length l) (sym up) (more number (length w.tunnel.network.up) h.sent);
      octets = subst (λ l. IsRepeated (puts_next u) (slice_get l (age_of l number))) (sym up)
          (subst (λ k. IsRepeated (puts_next u) (slice_get u.network.up k)) (sym (younger (length w.tunnel.network.up) number h.sent)) acted);
    }

-- a sending is one from the present endpoint
pub acted_sent : (w : World) (octets : List ℕ) (number : ℕ) → WasActedOn w number → WasActedOn (step w (Send octets)) number
acted_sent w octets number h = acted_come w w.tunnel.present octets number h

pub acted_renewed : (w : World) (number : ℕ) → WasActedOn w number → WasActedOn (step w Renew) number
acted_renewed w number h =
    let u : Tunnel = record w.tunnel { present = suc w.tunnel.present } in
    let acted : IsRepeated (puts_next u) (slice_get w.tunnel.network.up (age_of w.tunnel.network.up number)) = still_repeated u (slice_get w.tunnel.network.up (age_of w.tunnel.network.up number)) h.octets in
    record {
      sent = subst (λ l. number ≤ length l) (sym (still_up u)) h.sent;
      octets = subst (λ l. IsRepeated (puts_next u) (slice_get l (age_of l number))) (sym (still_up u)) acted;
    }

-- ---- a request that was acted on is no connect request

pub never_connects : (w : World) (o : Option Sent) → IsRepeated w.tunnel o → OfSent IsConnectRequest o → ⊥
never_connects w None h e = h
never_connects w (Some s) h e = subst (IsRepeat w.tunnel.gateway.channel) e h
