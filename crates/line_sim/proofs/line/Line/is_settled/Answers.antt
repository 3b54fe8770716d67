use Rattle.std.proofs.Common.{◌≡◌, ◌↔◌, ℕ, IsTrue, [], rules, sym, subst}
use Rattle.line_model.specs.Tunnel.{made}
use Rattle.network_sim.specs.declared.place.Reach.TheVariants.{Every, To}
use Rattle.network_sim.specs.Arriving.{AllOver}
use Rattle.line_sim.specs.Line.{LineNow, IsNow}
use Rattle.tunnel_sim.specs.Tunnels.{tunnel_now}
use Rattle.line_sim.proofs.Settling.{bus_free, settled_exactly}
use Rattle.line_sim.proofs.line.Line.is_settled.Goals as goal

pub returns : goal.returns
returns c w is =
    let old : LineNow = record { tunnel = tunnel_now c.self.inside.tunnel; devices = c.self.inside.devices; echo = c.self.inside.echo } in
    let seen : old ≡ c.args.self.now = let h = c.self.view_is in cc in
    let held : IsNow old w = subst (λ (n : LineNow). IsNow n w) (sym seen) is in
    let up : IsTrue c.is_over.result ↔ AllOver Every (made w.tunnel) w.tunnel.network.up
    = subst (λ (m : ℕ). IsTrue c.is_over.result ↔ AllOver Every m w.tunnel.network.up) (sym held.tunnel.gateway.made) (c.is_over.ensures.simulates w.tunnel.network.up held.tunnel.up) in
    let down : IsTrue c.is_over-2.result ↔ AllOver (To w.tunnel.present) (made w.tunnel) w.tunnel.network.down
    = subst (λ (k : ℕ). IsTrue c.is_over-2.result ↔ AllOver (To k) (made w.tunnel) w.tunnel.network.down) (sym held.tunnel.present)
    (subst (λ (m : ℕ). IsTrue c.is_over-2.result ↔ AllOver (To old.tunnel.present) m w.tunnel.network.down) (sym held.tunnel.gateway.made) (c.is_over-2.ensures.simulates w.tunnel.network.down held.tunnel.down)) in
    let bus : IsTrue c.is_none.result ↔ (w.tunnel.gateway.bus ≡ []) = bus_free w c.frame_due.result c.is_none.result (c.frame_due.ensures.simulates w is) (search rules) in
    settled_exactly w c.is_over.result c.is_over-2.result c.is_none.result c.has_nothing_to_send.result up down bus (c.has_nothing_to_send.ensures w is)
