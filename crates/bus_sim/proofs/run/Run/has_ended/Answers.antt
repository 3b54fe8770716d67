use Rattle.std.proofs.Common.{◌↔◌, ◌==◌, ◌&&◌, Bool, IsTrue, not, nat_lt, refl, sym, subst, ◌∙◌}
use Rattle.line_model.specs.Serving.{HasEnded}
use Rattle.line_model.specs.World.{World, replay}
use Rattle.bus_sim.specs.Begun.{start_of}
use Rattle.bus_sim.specs.RunNow.{RunState}
use Rattle.bus_sim.specs.Went.{world}
use Rattle.bus_sim.proofs.Quiets.{ended_is}
use Rattle.bus_sim.proofs.run.Run.has_ended.Goals as goal

pub returns : goal.returns
returns c = λ items h.
    let w : World = replay (start_of c.self.inside.begun) c.self.inside.events.list in
    let ended : Bool = (c.args.quiet == 10) && (nat_lt 0 c.made.result && not c.has_channel.result) in
    subst (λ (v : RunState). IsTrue ended ↔ HasEnded (world v).tunnel.gateway items) c.self.view_is
    (ended_is c.args.quiet c.made.result c.has_channel.result ended w.tunnel.gateway items h (c.self.invariant.pictured.tunnel.gateway.made ∙ sym c.made.ensures)
    (c.has_channel.ensures.simulates w c.self.invariant.pictured) refl)
