use Rattle.std.proofs.Common.{◌≡◌, refl, subst}
use Rattle.line_model.specs.World.{World, BusAgain, step}
use Rattle.line_sim.specs.Line.{LineNow, IsNow}
use Rattle.tunnel_sim.specs.Tunnels.{tunnel_now}
use Rattle.line_sim.proofs.Lines.{takes_again}
use Rattle.line_sim.proofs.line.Line.bus_again.Goals as goal

pub returns-clause-next : goal.returns-clause-next
returns-clause-next c =
    let old : LineNow = record { tunnel = tunnel_now c.self.inside.tunnel; devices = c.self.inside.devices; echo = c.self.inside.echo } in
    let seen : old ≡ c.args.self.now = let h = c.self.view_is in cc in
    let new : LineNow = record { tunnel = tunnel_now c.elsewhere.new.self; devices = c.take_again.new.self; echo = c.self.inside.echo } in
    subst (λ (n : LineNow). (w : World) → IsNow n w → IsNow new (step w (BusAgain c.args.device))) seen
    (λ w is. takes_again old new w c.args.device is c.elsewhere.ensures c.in_ok-take_again.ensures.next refl)
