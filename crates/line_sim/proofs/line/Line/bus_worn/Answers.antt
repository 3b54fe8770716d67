use Rattle.std.proofs.Common.{◌≡◌, true, is_some, None, refl, ap, subst, ◌∙◌}
use Rattle.knx_model.specs.DeviceFrames.{worn_octets}
use Rattle.knx_model.specs.declared.frames.cemi.Ldata.{Ldata}
use Rattle.line_model.specs.Tunnel as tunnel
use Rattle.line_model.specs.Tunnel.{Carried}
use Rattle.line_model.specs.World.{World, BusWorn, step}
use Rattle.line_sim.specs.Line.{LineNow, IsNow, effect_due, write_due}
use Rattle.tunnel_sim.specs.Tunnels.{IsTunnel, tunnel_now}
use Rattle.line_sim.proofs.Lines.{worn, roomy}
use Rattle.line_sim.proofs.line.Line.bus_worn.Goals as goal

pub returns-clause-next : goal.returns-clause-next
returns-clause-next c =
    let old : LineNow = record { tunnel = tunnel_now c.self.inside.tunnel; devices = c.self.inside.devices; echo = c.self.inside.echo } in
    let seen : old ≡ c.args.self.now = let h = c.self.view_is in cc in
    let new : LineNow = record { tunnel = tunnel_now c.carried.new.self; devices = c.take_worn.new.self; echo = None } in
    let write : is_some (write_due old) ≡ true = ap (λ (n : LineNow). is_some (write_due n)) seen ∙ ap is_some c.requires in
    subst (λ (n : LineNow). (w : World) → IsNow n w → IsNow new (step w (BusWorn (worn_octets (effect_due n))))) seen
    (λ w is. worn old new w c.in-Some.frame (c.in-Some.ensures.simulates w.tunnel.gateway is.tunnel.gateway) c.in-Some.ensures.value write is
    (λ t held. subst (λ (con : Ldata). IsTunnel new.tunnel (tunnel.step t (Carried con))) c.confirmation.ensures (c.carried.ensures t (roomy old.tunnel _ t c.reserve.ensures.items held)))
    c.in_ok-take_worn.ensures.next refl)
