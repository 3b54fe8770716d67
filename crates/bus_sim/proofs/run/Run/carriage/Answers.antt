use Rattle.std.proofs.Common.{◌≡◌, suc, Some, None, ap, sym, subst, ◌∙◌}
use Rattle.line_model.specs.Counts.{writes}
use Rattle.line_model.specs.Deliveries.{write_event}
use Rattle.line_model.specs.StartOf.{line_of}
use Rattle.line_model.specs.World.{World, next_frame, replay}
use Rattle.line_sim.specs.Line.{effect_due, write_in}
use Rattle.bus_sim.specs.Begun.{said, start_of}
use Rattle.bus_sim.specs.Choices.{written_so}
use Rattle.bus_sim.specs.RunNow.{RunState}
use Rattle.bus_sim.specs.Went.{world}
use Rattle.bus_sim.proofs.Wants.{carried_is, there_on, writes_there}
use Rattle.bus_sim.proofs.run.Run.carriage.Goals as goal

pub written-requires : goal.written-requires
written-requires c =
    let due : Some c.args.frame.now ≡ next_frame (replay (start_of c.self.inside.begun) c.self.inside.events.list) = subst (λ (v : RunState). Some c.args.frame.now ≡ next_frame (world v)) (sym c.self.view_is) c.requires in
    there_on c.self.inside.begun c.self.inside.events.list c.self.inside.index c.self.inside.line c.self.inside.counts c.self.inside.owed.list c.self.invariant c.args.frame.now.destination
    (writes_there _ c.args.frame.now c.in-Some.kind (sym c.in-Some.is ∙ c.would_write.ensures.simulates _ c.self.invariant.pictured ∙ sym (ap (write_in (replay (start_of c.self.inside.begun) c.self.inside.events.list)) due)))
    ∙ ap (λ (r : RunState). line_of r.begun.tunnel.raw) c.self.view_is

pub returns-in-Some-clause-so : goal.returns-in-Some-clause-so
returns-in-Some-clause-so c =
    let w : World = replay (start_of c.self.inside.begun) c.self.inside.events.list in
    let due : Some c.args.frame.now ≡ next_frame w = subst (λ (v : RunState). Some c.args.frame.now ≡ next_frame (world v)) (sym c.self.view_is) c.requires in
    c.written.ensures.so
    ∙ carried_is c.self.inside.begun c.self.inside.events.list c.self.inside.index c.self.inside.line c.self.inside.counts c.self.inside.owed.list c.self.invariant c.args.frame.now None _ c.args.self.now due c.if-frame.false (sym c.is_lost_for.ensures ∙ c.if-is_lost_for.false) c.self.view_is
    (ap (λ (r : RunState). written_so r c.args.frame.now.destination c.in-Some.kind (effect_due r.line)) (sym c.self.view_is)
    ∙ ap (λ x. write_event (said c.self.inside.begun) c.args.frame.now.destination (suc (writes c.args.frame.now.destination (start_of c.self.inside.begun) c.self.inside.events.list)) x (effect_due c.self.inside.line))
    (sym c.in-Some.is ∙ c.would_write.ensures.simulates _ c.self.invariant.pictured ∙ sym (ap (write_in w) due)))

pub returns-in-None-clause-so : goal.returns-in-None-clause-so
returns-in-None-clause-so c =
    let w : World = replay (start_of c.self.inside.begun) c.self.inside.events.list in
    let due : Some c.args.frame.now ≡ next_frame w = subst (λ (v : RunState). Some c.args.frame.now ≡ next_frame (world v)) (sym c.self.view_is) c.requires in
    carried_is c.self.inside.begun c.self.inside.events.list c.self.inside.index c.self.inside.line c.self.inside.counts c.self.inside.owed.list c.self.invariant c.args.frame.now None _ c.args.self.now due c.if-frame.false (sym c.is_lost_for.ensures ∙ c.if-is_lost_for.false) c.self.view_is
    (ap (λ x. write_event (said c.self.inside.begun) c.args.frame.now.destination (suc (writes c.args.frame.now.destination (start_of c.self.inside.begun) c.self.inside.events.list)) x (effect_due c.self.inside.line))
    (sym c.in-None.is ∙ c.would_write.ensures.simulates _ c.self.invariant.pictured ∙ sym (ap (write_in w) due)))
