-- The datagram that goes next may come.
use Rattle.std.proofs.Common.{◌≡◌, ℕ, suc, ◌+◌, Bool, true, false, ◌&&◌, ◌==◌, List, [], ◌∷◌, Option, Some, None, refl, ap, sym, subst, ◌∙◌, arith, if◌then◌else◌}
use Rattle.std.specs.Prelude.{IfSome, slice_get}
use Rattle.std.proofs.lemmas.Bool.{and_parts}
use Rattle.line_model.specs.Deliveries.{is_under_way, oldest, or_here}
use Rattle.line_model.specs.Network.{Sent, IsUnderWay, OfSent, MayArrive, MayReach}
use Rattle.line_model.specs.Tunnel.{Tunnel, Commissions, Up, Down, MayHappen, made}
use Rattle.line_model.proofs.UnderWay.{under_way}
use Rattle.network_sim.specs.declared.place.Reach.{Reach}
use Rattle.network_sim.specs.declared.place.Reach.TheVariants.{Every, To}
use Rattle.network_sim.specs.Arriving.{MayCome, passes}
use Rattle.network_sim.specs.Window.{window_of}
use Rattle.tunnel_sim.specs.Tunnels.{TunnelNow, IsTunnel}

-- ---- tests

pub may_come : (reach : Reach) (m age : ℕ) (sent : List Sent) → OfSent (λ s. passes reach m age s ≡ true) (slice_get sent age) → MayCome reach m sent age
may_come Every m age sent h = by_sent (slice_get sent age) h
  where
    by_sent : (o : Option Sent) → OfSent (λ s. passes Every m age s ≡ true) o → OfSent (IsUnderWay m age) o
    by_sent None h = h
    by_sent (Some s) h = under_way m age s h
may_come (To endpoint) m age sent h = by_sent (slice_get sent age) h
  where
    by_sent : (o : Option Sent) → OfSent (λ s. passes (To endpoint) m age s ≡ true) o → OfSent (λ s. IsUnderWay m age s × (s.endpoint ≡ endpoint)) o
    by_sent None h = h
    by_sent (Some s) h = let two = and_parts (is_under_way m age s) (s.endpoint == endpoint) h in (under_way m age s two.0, grind arith)

-- ---- the oldest

-- a datagram of this age is there and passes, where the first of the list has another one
abbrev Found : (ℕ → Sent → Bool) → ℕ → List Sent → ℕ → Type 0
Found test from sent age = (k : ℕ) × (age ≡ from + k) × OfSent (λ s. test age s ≡ true) (slice_get sent k)

here : (test : ℕ → Sent → Bool) (from : ℕ) (s : Sent) (rest : List Sent) (age : ℕ) (t : Bool) → (test from s && (s.delivered == 0)) ≡ t → (if t then Some from else None) ≡ Some age → Found test from (s ∷ rest) age
here test from s rest age false e h = cc
here test from s rest age true e h =
    let same : from ≡ age = cc in
    let passed : test from s ≡ true = (and_parts (test from s) (s.delivered == 0) e).0 in
    (0, omega (arith, same), ap (λ (k : ℕ). test k s) (sym same) ∙ passed)

one_more : (test : ℕ → Sent → Bool) (from : ℕ) (s : Sent) (rest : List Sent) (age : ℕ) (o : Option ℕ) → oldest test (suc from) rest ≡ o → (oldest test (suc from) rest ≡ Some age → Found test (suc from) rest age)
    → or_here (test from s && (s.delivered == 0)) from o ≡ Some age → Found test from (s ∷ rest) age
one_more test from s rest age None e further h = here test from s rest age (test from s && (s.delivered == 0)) refl h
one_more test from s rest age (Some older) e further h =
    let there = further (e ∙ h) in
    (suc there.0, omega (arith, there.1), there.2)

-- the oldest that passes is there and passes
found : (test : ℕ → Sent → Bool) (from : ℕ) (sent : List Sent) (age : ℕ) → oldest test from sent ≡ Some age → Found test from sent age
found test from [] age h = cc
found test from (s ∷ rest) age h = one_more test from s rest age (oldest test (suc from) rest) refl (found test (suc from) rest age) h

pub next_comes : (reach : Reach) (m : ℕ) (kept : List Sent) (r : Option ℕ) → r ≡ oldest (passes reach m) 0 kept → IfSome r (λ age. MayCome reach m kept age)
next_comes reach m kept None e = tt
next_comes reach m kept (Some age) e =
    let there = found (passes reach m) 0 kept age (sym e) in
    let same : there.0 ≡ age = omega (arith, there.1) in
    may_come reach m age kept (subst (λ (k : ℕ). OfSent (λ s. passes reach m age s ≡ true) (slice_get kept k)) same there.2)

-- ---- in the tunnel

pub may_up : (n : TunnelNow) (r : Option ℕ) → ((sent : List Sent) → window_of sent ≡ n.up → r ≡ oldest (passes Every n.gateway.made) 0 sent) → IfSome r (λ age. (t : Tunnel) → IsTunnel n t → MayHappen Commissions t (Up age))
may_up n None next = tt
may_up n (Some age) next = λ t is. subst (λ (m : ℕ). MayArrive m t.network.up age) (sym is.gateway.made) (next_comes Every n.gateway.made t.network.up (Some age) (next t.network.up is.up))

pub may_down : (n : TunnelNow) (r : Option ℕ) → ((sent : List Sent) → window_of sent ≡ n.down → r ≡ oldest (passes (To n.present) n.gateway.made) 0 sent) → IfSome r (λ age. (t : Tunnel) → IsTunnel n t → MayHappen Commissions t (Down age))
may_down n None next = tt
may_down n (Some age) next = λ t is.
    subst (λ (p : ℕ). MayReach p (made t) t.network.down age) (sym is.present)
    (subst (λ (m : ℕ). MayReach n.present m t.network.down age) (sym is.gateway.made) (next_comes (To n.present) n.gateway.made t.network.down (Some age) (next t.network.down is.down)))
