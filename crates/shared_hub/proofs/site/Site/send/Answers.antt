use Rattle.std.proofs.Common.{◌≡◌, length, None, refl, sym, ap, subst, ◌∙◌}
use Rattle.hub_core.specs.Left.{IsLeft}
use Rattle.shared_hub.specs.Items.{HasTold}
use Rattle.shared_hub.specs.Sites.{items_of}
use Rattle.shared_hub.specs.Steps.{GoesOn, HasFailed, Steps}
use Rattle.hub_core.proofs.Left.{next_left}
use Rattle.shared_hub.proofs.Leaving.{through_group}
use Rattle.shared_hub.proofs.Seats.{group_seats}
use Rattle.shared_hub.specs.Watchers.{LogsBy}
use Rattle.shared_hub.proofs.Sites.{hears_no_more, ends_so, fails_so, group_steps, group_on, group_logs}
use Rattle.shared_hub.proofs.Watched.{watched_still}
use Rattle.shared_hub.proofs.site.Site.send.Goals as goal

pub invariant_of-self : goal.invariant_of-self
invariant_of-self g c =
    let none : c.self.inside.hub.fault ≡ None = ap (λ s. s.hub.fault) c.self.view_is ∙ c.requires.stands in (
      ends_so g.L.Link.story g.L.Link.script g.L.Link.faults c.self.inside.hub c.send_group.new.self _ _ _ c.self.invariant.0 c.send_group.ensures.since
          (through_group c.self.inside.hub c.send_group.new.self c.send_group.ensures.since.run.devices c.send_group.ensures.since.run.turns c.send_group.ensures.closing c.send_group.result _ _ (g.L.Link.story c.self.inside.hub.link) (g.L.Link.story c.send_group.new.self.link) c.send_group.ensures.since.grows c.send_group.ensures.alone _ (ap g.L.Link.story) c.send_group.ensures.still c.send_group.ensures.told c.send_group.ensures.untold c.keeps.ensures.place (subst (λ s. IsLeft s.hub) (sym c.self.view_is) (next_left c.args.self.now.hub _ c.requires.next)) c.self.invariant.0.through)
          (group_seats (length c.self.inside.opening.value.crew) c.self.inside.hub.log c.send_group.new.self.log c.self.invariant.0.seats c.send_group.result _ _ c.send_group.ensures.told c.send_group.ensures.untold)
          none c.in_default.field-0 c.in_default.ensures.fault c.in_default.ensures.few,
      watched_still _ _ _ _ _ _ _ _ _ _ c.send_group.ensures.since.run.tasks c.send_group.ensures.since.grows c.send_group.ensures.since.run.devices c.in_default.ensures.untold c.self.invariant.1,
    )

pub returns-in_default-clause-steps : goal.returns-in_default-clause-steps
returns-in_default-clause-steps g c =
    let none : c.self.inside.hub.fault ≡ None = ap (λ s. s.hub.fault) c.self.view_is ∙ c.requires.stands in
    subst (λ s. HasFailed (items_of s) (items_of (record { hub = c.send_group.new.self; feed = c.self.inside.feed; watching = c.self.inside.watching; opening = c.self.inside.opening; relay = c.self.inside.relay; watched = c.self.inside.watched }))) c.self.view_is
    (fails_so (record { hub = c.self.inside.hub; feed = c.self.inside.feed; watching = c.self.inside.watching; opening = c.self.inside.opening; relay = c.self.inside.relay; watched = c.self.inside.watched }) (record { hub = c.send_group.new.self; feed = c.self.inside.feed; watching = c.self.inside.watching; opening = c.self.inside.opening; relay = c.self.inside.relay; watched = c.self.inside.watched }) refl refl refl c.in_default.field-0 c.in_default.ensures.untold none c.in_default.ensures.fault)

pub invariant_of-self-2 : goal.invariant_of-self-2
invariant_of-self-2 g c =
    let none : c.self.inside.hub.fault ≡ None = ap (λ s. s.hub.fault) c.self.view_is ∙ c.requires.stands in (
      hears_no_more g.L.Link.story g.L.Link.script g.L.Link.faults c.self.inside.hub c.send_group.new.self _ _ _ c.self.invariant.0 c.send_group.ensures.since
          (through_group c.self.inside.hub c.send_group.new.self c.send_group.ensures.since.run.devices c.send_group.ensures.since.run.turns c.send_group.ensures.closing c.send_group.result _ _ (g.L.Link.story c.self.inside.hub.link) (g.L.Link.story c.send_group.new.self.link) c.send_group.ensures.since.grows c.send_group.ensures.alone _ (ap g.L.Link.story) c.send_group.ensures.still c.send_group.ensures.told c.send_group.ensures.untold c.keeps.ensures.place (subst (λ s. IsLeft s.hub) (sym c.self.view_is) (next_left c.args.self.now.hub _ c.requires.next)) c.self.invariant.0.through)
          (group_seats (length c.self.inside.opening.value.crew) c.self.inside.hub.log c.send_group.new.self.log c.self.invariant.0.seats c.send_group.result _ _ c.send_group.ensures.told c.send_group.ensures.untold)
          none c.in-Ok.ensures.stands None refl c.in-Ok.ensures.heard,
      c.tell_entry.ensures c.self.inside.hub.log _ (subst (λ came. LogsBy came c.self.inside.hub.log c.send_group.new.self.log) (sym c.step_of-came.ensures) (group_logs _ _ _ c.args.k c.in-Ok.did c.in-Ok.ensures.told)) (watched_still _ _ _ _ _ _ _ _ _ _ c.send_group.ensures.since.run.tasks c.send_group.ensures.since.grows c.send_group.ensures.since.run.devices refl c.self.invariant.1),
    )

pub returns-clause-steps : goal.returns-clause-steps
returns-clause-steps g c =
    let none : c.self.inside.hub.fault ≡ None = ap (λ s. s.hub.fault) c.self.view_is ∙ c.requires.stands in
    subst (λ s. Steps HasTold 0 (items_of s) (items_of (record { hub = c.send_group.new.self; feed = c.self.inside.feed; watching = c.tell_entry.new.self; opening = c.self.inside.opening; relay = c.self.inside.relay; watched = c.self.inside.watched })) c.step_of-came.result) c.self.view_is
    (subst (Steps HasTold 0 (items_of (record { hub = c.self.inside.hub; feed = c.self.inside.feed; watching = c.self.inside.watching; opening = c.self.inside.opening; relay = c.self.inside.relay; watched = c.self.inside.watched })) (items_of (record { hub = c.send_group.new.self; feed = c.self.inside.feed; watching = c.tell_entry.new.self; opening = c.self.inside.opening; relay = c.self.inside.relay; watched = c.self.inside.watched }))) (sym c.step_of-came.ensures)
    (group_steps (record { hub = c.self.inside.hub; feed = c.self.inside.feed; watching = c.self.inside.watching; opening = c.self.inside.opening; relay = c.self.inside.relay; watched = c.self.inside.watched }) (record { hub = c.send_group.new.self; feed = c.self.inside.feed; watching = c.tell_entry.new.self; opening = c.self.inside.opening; relay = c.self.inside.relay; watched = c.self.inside.watched }) refl refl refl none c.in-Ok.ensures.stands _ c.args.k c.in-Ok.did c.in-Ok.ensures.told))

pub returns-clause-on : goal.returns-clause-on
returns-clause-on g c =
    let left : IsLeft c.self.inside.hub = subst (λ s. IsLeft s.hub) (sym c.self.view_is) (next_left c.args.self.now.hub _ c.requires.next) in
    subst (λ came. GoesOn came c.send_group.new.self) (sym c.step_of-came.ensures)
    (group_on c.self.inside.hub c.send_group.new.self c.send_group.ensures.since.run.devices c.send_group.ensures.since.run.turns c.in-Ok.ensures.stands left _ c.args.k c.in-Ok.did c.in-Ok.ensures.told)
