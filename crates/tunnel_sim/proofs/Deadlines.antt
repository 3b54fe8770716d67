-- Up to its deadline the gateway has nothing due.
use Rattle.std.proofs.Common.{◌≡◌, ◌≢◌, ℕ, ◌+◌, ◌<◌, ◌≤◌, ◌⊎◌, ◌↔◌, inl, inr, Bool, true, false, Option, Some, None, refl, ap, sym, subst, ◌∙◌, arith, if◌then◌else◌}
use Rattle.std.specs.Prelude.{nat_le}
use Rattle.knx_model.specs.Connection.{last_time, wait_end, earlier_time}
use Rattle.knx_model.specs.ConnectionLaws.{Reached}
use Rattle.line_model.specs.Gateway.{Gateway, Channel, Request, GatewayExpired, Nothing, Repeat, Closing, channel_expired, gateway_expired, client_wait, acknowledgement_wait}
use Rattle.line_model.specs.GatewayEnd.{GatewayEnd, channel_deadline, request_deadline}
use Rattle.line_model.specs.Tunnel.{Tunnel}
use Rattle.tunnel_sim.specs.Tunnels.{TunnelNow, IsTunnel}

-- a time is before another one, where there is one
abbrev pub IsBefore : ℕ → Option ℕ → Type 0
IsBefore at None = Unit {0}
IsBefore at (Some end) = at < end

-- ---- no time is beyond the last one

pub wait_within : (wait since : ℕ) → wait_end wait since ≤ last_time
wait_within wait since = by_sum (nat_le (since + wait) last_time) refl
  where
    by_sum : (t : Bool) → nat_le (since + wait) last_time ≡ t → (if t then since + wait else last_time) ≤ last_time
    by_sum true e = grind arith
    by_sum false e = omega arith

pub earlier_within : (one other : ℕ) → one ≤ last_time → other ≤ last_time → earlier_time one other ≤ last_time
earlier_within one other h g = by_order (nat_le one other)
  where
    by_order : (t : Bool) → (if t then one else other) ≤ last_time
    by_order true = h
    by_order false = g

request_within : (o : Option Request) (end : ℕ) → end ≤ last_time → request_deadline o end ≤ last_time
request_within None end h = h
request_within (Some r) end h = earlier_within _ end (wait_within acknowledgement_wait r.sent) h

channel_within : (o : Option Channel) (t : ℕ) → channel_deadline o ≡ Some t → t ≤ last_time
channel_within None t h = cc
channel_within (Some c) t h =
    let is : request_deadline c.outstanding (wait_end client_wait c.heard) ≡ t = cc in
    subst (λ (x : ℕ). x ≤ last_time) is (request_within c.outstanding _ (wait_within client_wait c.heard))

-- ---- the gateway

-- the law of its deadline, as the gateway's end has it
abbrev pub IsExact : Type 0
IsExact = (channel : Option Channel) (at : ℕ) → at < last_time → Reached (channel_deadline channel) at ↔ (channel_expired channel at ≢ Nothing)

none_is_none : (o : Option Channel) → channel_deadline o ≡ None → o ≡ None
none_is_none None h = refl
none_is_none (Some c) h = cc

rests_so : (x : GatewayExpired) → (x ≢ Nothing → ⊥) → x ≡ Nothing
rests_so Nothing h = refl
rests_so (Repeat frame) h = absurd (h (λ e. cc))
rests_so (Closing frame) h = absurd (h (λ e. cc))

channel_waits : IsExact → (c : Option Channel) (at : ℕ) (o : Option ℕ) → channel_deadline c ≡ o → IsBefore at o → channel_expired c at ≡ Nothing
channel_waits law c at None is before = ap (λ (x : Option Channel). channel_expired x at) (none_is_none c is)
channel_waits law c at (Some t) is before =
    let early : at < last_time = omega (arith, channel_within c t is, before) in
    rests_so (channel_expired c at) (λ some. late (subst (λ (o : Option ℕ). Reached o at) is ((law c at early).1 some)))
  where
    late : t ≤ at → ⊥
    late h = omega (arith, h, before)

pub gateway_still : IsExact → (g : Gateway) (at : ℕ) → IsBefore at (channel_deadline g.channel) → gateway_expired g at ≡ Nothing
unfolding gateway_expired
gateway_still law g at before = channel_waits law g.channel at (channel_deadline g.channel) refl before

-- ---- a wait

pub its_channel : (n : TunnelNow) (t : Tunnel) → IsTunnel n t → t.gateway.channel ≡ n.gateway.end.channel
its_channel n t is = ap (λ (e : GatewayEnd). e.channel) is.gateway.end

at_once : (g : Gateway) (now k : ℕ) → k ≡ 0 → gateway_expired g now ≡ Nothing → gateway_expired g (now + k) ≡ Nothing
at_once g now k none h = subst (λ (at : ℕ). gateway_expired g at ≡ Nothing) (omega (arith, none)) h

pub still_until : IsExact → (n : TunnelNow) (end still : ℕ) → Some end ≡ channel_deadline n.gateway.end.channel → (still ≤ 1) ⊎ (n.now + still ≤ end)
    → (t : Tunnel) → IsTunnel n t → gateway_expired t.gateway t.now ≡ Nothing → (k : ℕ) → k < still → gateway_expired t.gateway (t.now + k) ≡ Nothing
still_until law n end still deadline (inl one) t is nothing k less = at_once t.gateway t.now k (omega (arith, one, less)) nothing
still_until law n end still deadline (inr until) t is nothing k less =
    let time : channel_deadline t.gateway.channel ≡ Some end = ap channel_deadline (its_channel n t is) ∙ sym deadline in
    let now : t.now ≡ n.now = is.now in
    let before : t.now + k < end = omega (arith, until, less, now) in
    gateway_still law t.gateway (t.now + k) (subst (IsBefore (t.now + k)) (sym time) before)

pub still_always : IsExact → (n : TunnelNow) → None ≡ channel_deadline n.gateway.end.channel → (t : Tunnel) → IsTunnel n t → (at : ℕ) → gateway_expired t.gateway at ≡ Nothing
still_always law n deadline t is at =
    let time : channel_deadline t.gateway.channel ≡ None = ap channel_deadline (its_channel n t is) ∙ sym deadline in
    gateway_still law t.gateway at (subst (IsBefore at) (sym time) tt)
