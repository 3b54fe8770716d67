use Rattle.std.proofs.Common.{◌≡◌, List, length, None, refl, sym, ap, subst, ◌∙◌}
use Rattle.line_model.specs.declared.log.LogEntry.{LogEntry}
use Rattle.hub_core.specs.Hears.{heard_of}
use Rattle.hub_core.specs.Left.{IsLeft}
use Rattle.hub_core.specs.Seats.{IsOfWorkers}
use Rattle.shared_hub.specs.Sites.{items_of}
use Rattle.shared_hub.specs.Steps.{HasFailed}
use Rattle.shared_hub.proofs.Leaving.{through_left, closing_stays}
use Rattle.shared_hub.proofs.Sites.{hears_no_more, hears_so, ends_so, fails_so}
use Rattle.hub_core.specs.Seen.{tasks_seen}
use Rattle.tunnel_link.specs.Goes.{GoesOn}
use Rattle.shared_hub.proofs.Watched.{watched_still}
use Rattle.shared_hub.proofs.site.Site.poll.Goals as goal

pub invariant_of-self : goal.invariant_of-self
invariant_of-self g c =
    let old = c.self.inside.hub in let new = c.pump.new.self in
    let none : old.fault ≡ None = ap (λ s. s.hub.fault) c.self.view_is ∙ c.requires.on.0 in (
      ends_so g.L.Link.story g.L.Link.script g.L.Link.faults old new _ _ _ c.self.invariant.0 c.pump.ensures.since
          (through_left old new c.pump.ensures.since.run.devices c.pump.ensures.since.run.turns (closing_stays _ _ c.pump.ensures.begun c.self.invariant.0.through.unbegun) _ _ c.pump.ensures.since.grows c.pump.ensures.ends_none c.pump.ensures.log (subst (λ s. IsLeft s.hub) (sym c.self.view_is) c.requires.on.1) c.self.invariant.0.through)
          (subst (λ (l : List LogEntry). IsOfWorkers (length c.self.inside.opening.value.crew) l) (sym c.pump.ensures.log) c.self.invariant.0.seats)
          none c.in_default.field-0 c.in_default.ensures.fault c.in_default.ensures.few,
      watched_still _ _ _ _ _ _ _ _ _ _ c.pump.ensures.since.run.tasks c.pump.ensures.since.grows c.pump.ensures.since.run.devices c.pump.ensures.log c.self.invariant.1,
    )

pub returns-in_default-clause-polls : goal.returns-in_default-clause-polls
returns-in_default-clause-polls g c =
    let none : c.self.inside.hub.fault ≡ None = ap (λ s. s.hub.fault) c.self.view_is ∙ c.requires.on.0 in
    subst (λ s. HasFailed (items_of s) (items_of (record { hub = c.pump.new.self; feed = c.self.inside.feed; watching = c.self.inside.watching; opening = c.self.inside.opening; relay = c.self.inside.relay; watched = c.self.inside.watched }))) c.self.view_is
    (fails_so (record { hub = c.self.inside.hub; feed = c.self.inside.feed; watching = c.self.inside.watching; opening = c.self.inside.opening; relay = c.self.inside.relay; watched = c.self.inside.watched }) (record { hub = c.pump.new.self; feed = c.self.inside.feed; watching = c.self.inside.watching; opening = c.self.inside.opening; relay = c.self.inside.relay; watched = c.self.inside.watched }) refl refl refl c.in_default.field-0 c.pump.ensures.log none c.in_default.ensures.fault)

pub invariant_of-self-in-Nothing : goal.invariant_of-self-in-Nothing
invariant_of-self-in-Nothing g c =
    let old = c.self.inside.hub in let new = c.pump.new.self in
    let none : old.fault ≡ None = ap (λ s. s.hub.fault) c.self.view_is ∙ c.requires.on.0 in (
      hears_no_more g.L.Link.story g.L.Link.script g.L.Link.faults old new _ _ _ c.self.invariant.0 c.pump.ensures.since
          (through_left old new c.pump.ensures.since.run.devices c.pump.ensures.since.run.turns (closing_stays _ _ c.pump.ensures.begun c.self.invariant.0.through.unbegun) _ _ c.pump.ensures.since.grows c.pump.ensures.ends_none c.pump.ensures.log (subst (λ s. IsLeft s.hub) (sym c.self.view_is) c.requires.on.1) c.self.invariant.0.through)
          (subst (λ (l : List LogEntry). IsOfWorkers (length c.self.inside.opening.value.crew) l) (sym c.pump.ensures.log) c.self.invariant.0.seats)
          none c.in-Ok.ensures.stands (heard_of c.in-Ok.pumped) (ap heard_of c.in-Nothing.is) c.in-Ok.ensures.heard,
      watched_still _ _ _ _ _ _ _ _ _ _ c.pump.ensures.since.run.tasks c.pump.ensures.since.grows c.pump.ensures.since.run.devices c.pump.ensures.log c.self.invariant.1,
    )

pub invariant_of-self-in-Moved : goal.invariant_of-self-in-Moved
invariant_of-self-in-Moved g c =
    let old = c.self.inside.hub in let new = c.pump.new.self in
    let none : old.fault ≡ None = ap (λ s. s.hub.fault) c.self.view_is ∙ c.requires.on.0 in (
      hears_no_more g.L.Link.story g.L.Link.script g.L.Link.faults old new _ _ _ c.self.invariant.0 c.pump.ensures.since
          (through_left old new c.pump.ensures.since.run.devices c.pump.ensures.since.run.turns (closing_stays _ _ c.pump.ensures.begun c.self.invariant.0.through.unbegun) _ _ c.pump.ensures.since.grows c.pump.ensures.ends_none c.pump.ensures.log (subst (λ s. IsLeft s.hub) (sym c.self.view_is) c.requires.on.1) c.self.invariant.0.through)
          (subst (λ (l : List LogEntry). IsOfWorkers (length c.self.inside.opening.value.crew) l) (sym c.pump.ensures.log) c.self.invariant.0.seats)
          none c.in-Ok.ensures.stands (heard_of c.in-Ok.pumped) (ap heard_of c.in-Moved.is) c.in-Ok.ensures.heard,
      watched_still _ _ _ _ _ _ _ _ _ _ c.pump.ensures.since.run.tasks c.pump.ensures.since.grows c.pump.ensures.since.run.devices c.pump.ensures.log c.self.invariant.1,
    )

pub invariant_of-self-in-Heard : goal.invariant_of-self-in-Heard
invariant_of-self-in-Heard g c =
    let old = c.self.inside.hub in let new = c.pump.new.self in
    let none : old.fault ≡ None = ap (λ s. s.hub.fault) c.self.view_is ∙ c.requires.on.0 in (
      hears_so g.L.Link.story g.L.Link.script g.L.Link.faults old new _ _ _ c.self.invariant.0 c.pump.ensures.since
          (through_left old new c.pump.ensures.since.run.devices c.pump.ensures.since.run.turns (closing_stays _ _ c.pump.ensures.begun c.self.invariant.0.through.unbegun) _ _ c.pump.ensures.since.grows c.pump.ensures.ends_none c.pump.ensures.log (subst (λ s. IsLeft s.hub) (sym c.self.view_is) c.requires.on.1) c.self.invariant.0.through)
          (subst (λ (l : List LogEntry). IsOfWorkers (length c.self.inside.opening.value.crew) l) (sym c.pump.ensures.log) c.self.invariant.0.seats)
          none c.in-Ok.ensures.stands c.in-Heard.indication (heard_of c.in-Ok.pumped) (ap heard_of c.in-Heard.is) c.in-Ok.ensures.heard c.hear.new.hub c.hear.new.feed c.hear.ensures.hub c.hear.ensures.of c.hear.ensures.heard,
      watched_still _ _ _ _ _ _ _ _ _ _ (ap tasks_seen c.hear.ensures.hub.jobs ∙ c.pump.ensures.since.run.tasks) (subst (λ l. GoesOn (g.L.Link.story old.link) (g.L.Link.story l)) (sym c.hear.ensures.hub.link) c.pump.ensures.since.grows) (c.hear.ensures.hub.devices ∙ c.pump.ensures.since.run.devices) (c.hear.ensures.hub.log ∙ c.pump.ensures.log) c.self.invariant.1,
    )
