use Rattle.std.proofs.Common.{◌≡◌, ℕ, Option, Some, None, option_map, slice_get, ap, sym, subst}
use Rattle.line_model.specs.Network.{Sent, OfSent}
use Rattle.network_sim.specs.Window.{kept_of}
use Rattle.tunnel_sim.proofs.Tunnels.{young}
use Rattle.tunnel_sim.proofs.tunnel.Tunnel.addressee.Goals as goal

-- of what is kept the endpoint is kept
addressed : (o : Option Sent) (k : Sent) (endpoint : ℕ) → Some k ≡ option_map kept_of o → endpoint ≡ k.endpoint → OfSent (λ s. s.endpoint ≡ endpoint) o
addressed None k endpoint e at = cc
addressed (Some s) k endpoint e at =
    let same : k ≡ kept_of s = cc in
    subst (λ n. s.endpoint ≡ n) (sym at) (sym (ap (λ (x : Sent). x.endpoint) same))

pub returns-in-Some : goal.returns-in-Some
returns-in-Some c = λ t is. addressed (slice_get t.network.down c.args.age) c.in-Some.sending.now c.endpoint.result
    (c.in-Some.ensures.simulates t.network.down is.down (young c.args.age c.in-Some.sending.now c.in-Some.ensures.older)) c.endpoint.ensures
