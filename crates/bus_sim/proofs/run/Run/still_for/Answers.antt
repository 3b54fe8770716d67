use Rattle.line_model.specs.World.{replay}
use Rattle.bus_sim.specs.Begun.{mode_in, start_of}
use Rattle.bus_sim.proofs.NextEvents.{pass_right, settled_of, still_until}
use Rattle.bus_sim.proofs.run.Run.still_for.Goals as goal

pub returns-in-Some-clause-right : goal.returns-in-Some-clause-right
returns-in-Some-clause-right c = pass_right c.self.inside.begun c.self.inside.events.list c.self.inside.index c.self.inside.line c.self.inside.counts c.self.inside.owed.list c.self.invariant c.sooner.result c.args.self.now c.self.view_is c.requires.free
    (still_until c.self.inside.begun c.self.inside.events.list c.self.inside.index c.self.inside.line c.self.inside.counts c.self.inside.owed.list c.self.invariant c.sooner.result c.now-now.result c.in-Some.end c.args.self.now c.self.view_is c.requires.settled (c.now-now.ensures.simulates (replay (start_of c.self.inside.begun) c.self.inside.events.list) c.self.invariant.pictured) c.in-Some.ensures.settled c.sooner.ensures.until)

pub returns-in-None-clause-right : goal.returns-in-None-clause-right
returns-in-None-clause-right c = pass_right c.self.inside.begun c.self.inside.events.list c.self.inside.index c.self.inside.line c.self.inside.counts c.self.inside.owed.list c.self.invariant c.args.left c.args.self.now c.self.view_is c.requires.free
    (c.in-None.ensures.always_settled (mode_in c.self.inside.begun) (replay (start_of c.self.inside.begun) c.self.inside.events.list) c.self.invariant.pictured (settled_of c.self.inside.begun c.self.inside.events.list c.self.inside.index c.self.inside.line c.self.inside.counts c.self.inside.owed.list c.self.invariant c.args.self.now c.self.view_is c.requires.settled) c.args.left)
