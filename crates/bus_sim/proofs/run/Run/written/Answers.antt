use Rattle.std.proofs.Common.{◌≡◌, ap, sym, refl, ◌∙◌}
use Rattle.line_model.specs.Lines.{wears}
use Rattle.line_model.specs.Deliveries.{torn_if}
use Rattle.line_model.specs.StartOf.{line_of}
use Rattle.line_sim.specs.Line.{effect_due}
use Rattle.bus_sim.specs.Begun.{said}
use Rattle.bus_sim.specs.RunNow.{RunState}
use Rattle.bus_sim.proofs.Wants.{written_is}
use Rattle.bus_sim.proofs.run.Run.written.Goals as goal

pub returns-in-Some-clause-so : goal.returns-in-Some-clause-so
returns-in-Some-clause-so c =
    let on : line_of c.args.device ≡ line_of c.self.inside.begun.tunnel.raw = c.requires ∙ sym (ap (λ (r : RunState). line_of r.begun.tunnel.raw) c.self.view_is) in
    ap (λ x. torn_if x (wears (said c.self.inside.begun) c.args.device c.saturating_add-n.result) c.args.kind (effect_due c.args.self.now.line)) (sym c.in-Some.is)
    ∙ written_is c.self.inside.begun c.self.inside.events.list c.self.inside.index c.self.inside.line c.self.inside.counts c.self.inside.owed.list c.self.invariant c.args.device c.saturating_add-n.result c.args.kind c.of.result c.cuts.result _ (effect_due c.args.self.now.line) c.args.self.now on (c.cuts.ensures (said c.self.inside.begun) c.self.invariant.indexed) refl
    c.saturating_add-n.ensures c.of.ensures c.self.view_is

pub returns-in-None-clause-so : goal.returns-in-None-clause-so
returns-in-None-clause-so c =
    let on : line_of c.args.device ≡ line_of c.self.inside.begun.tunnel.raw = c.requires ∙ sym (ap (λ (r : RunState). line_of r.begun.tunnel.raw) c.self.view_is) in
    c.worn_if.ensures.so c.args.self.now.line
    ∙ ap (λ x. torn_if x c.wears.result c.args.kind (effect_due c.args.self.now.line)) (sym c.in-None.is)
    ∙ written_is c.self.inside.begun c.self.inside.events.list c.self.inside.index c.self.inside.line c.self.inside.counts c.self.inside.owed.list c.self.invariant c.args.device c.saturating_add-n.result c.args.kind c.of.result c.cuts.result c.wears.result (effect_due c.args.self.now.line) c.args.self.now on (c.cuts.ensures (said c.self.inside.begun) c.self.invariant.indexed)
    (c.wears.ensures (said c.self.inside.begun) c.self.invariant.indexed) c.saturating_add-n.ensures c.of.ensures c.self.view_is
