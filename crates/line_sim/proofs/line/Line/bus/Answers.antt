use Rattle.std.proofs.Common.{◌≡◌, None, option_to_list, refl, subst}
use Rattle.knx_model.specs.declared.frames.cemi.Ldata.{Ldata}
use Rattle.line_model.specs.Tunnel as tunnel
use Rattle.line_model.specs.Tunnel.{Carried}
use Rattle.line_model.specs.World.{World, Bus, step}
use Rattle.line_sim.specs.Line.{LineNow, IsNow}
use Rattle.tunnel_sim.specs.Tunnels.{IsTunnel, tunnel_now}
use Rattle.line_sim.proofs.Lines.{bus_nothing, bus_carries, roomy}
use Rattle.line_sim.proofs.line.Line.bus.Goals as goal

pub returns-in_default-clause-next : goal.returns-in_default-clause-next
returns-in_default-clause-next c =
    let old : LineNow = record { tunnel = tunnel_now c.self.inside.tunnel; devices = c.self.inside.devices; echo = c.self.inside.echo } in
    let seen : old ≡ c.args.self.now = let h = c.self.view_is in cc in
    let new : LineNow = record { tunnel = tunnel_now c.elsewhere.new.self; devices = c.self.inside.devices; echo = c.self.inside.echo } in
    subst (λ (n : LineNow). (w : World) → IsNow n w → IsNow new (step w (Bus (option_to_list c.args.lost)))) seen
    (λ w is. bus_nothing old new w _ (c.in_default.ensures.simulates w.tunnel.gateway is.tunnel.gateway) is c.elsewhere.ensures refl refl)

pub returns-clause-next : goal.returns-clause-next
returns-clause-next c =
    let old : LineNow = record { tunnel = tunnel_now c.self.inside.tunnel; devices = c.self.inside.devices; echo = c.self.inside.echo } in
    let seen : old ≡ c.args.self.now = let h = c.self.view_is in cc in
    let new : LineNow = record { tunnel = tunnel_now c.carried.new.self; devices = c.take.new.self; echo = None } in
    subst (λ (n : LineNow). (w : World) → IsNow n w → IsNow new (step w (Bus (option_to_list c.args.lost)))) seen
    (λ w is. bus_carries old new w _ c.in-Some.frame c.in_ok-confirms.confirms (c.in-Some.ensures.simulates w.tunnel.gateway is.tunnel.gateway) is
    (λ t held. subst (λ (con : Ldata). IsTunnel new.tunnel (tunnel.step t (Carried con))) c.confirmation.ensures (c.carried.ensures t (roomy old.tunnel _ t c.reserve.ensures.items held)))
    c.in_ok-confirms.ensures.next c.in_ok-confirms.ensures.confirms refl)
