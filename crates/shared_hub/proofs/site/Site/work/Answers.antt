use Rattle.std.proofs.Common.{◌≡◌, length, None, refl, sym, ap, subst, ◌∙◌, arith}
use Rattle.hub_core.specs.Left.{IsLeft}
use Rattle.shared_hub.specs.Items.{HasFinished}
use Rattle.shared_hub.specs.Sites.{items_of}
use Rattle.shared_hub.specs.Steps.{GoesOn, HasFailed, Steps}
use Rattle.shared_hub.proofs.Leaving.{through_turn}
use Rattle.shared_hub.proofs.Seats.{turn_seats}
use Rattle.shared_hub.specs.Watchers.{LogsBy}
use Rattle.shared_hub.proofs.Sites.{hears_no_more, ends_so, fails_so, turn_steps, turn_on, turn_logs, finished_so}
use Rattle.shared_hub.proofs.Watched.{watched_still}
use Rattle.shared_hub.proofs.site.Site.work.Goals as goal

pub turn-requires : goal.turn-requires
turn-requires g c = (let f = c.requires.within in let e : length c.self.inside.opening.value.crew ≡ length c.args.self.now.opening.value.crew = ap (λ s. length s.opening.value.crew) c.self.view_is in let same : length c.self.inside.hub.crew ≡ length c.self.inside.opening.value.crew = c.self.invariant.0.since.run.workers in omega (arith, f, e, same))

pub invariant_of-self : goal.invariant_of-self
invariant_of-self g c =
    let none : c.self.inside.hub.fault ≡ None = ap (λ s. s.hub.fault) c.self.view_is ∙ c.requires.on.0 in (
      ends_so g.L.Link.story g.L.Link.script g.L.Link.faults c.self.inside.hub c.turn.new.self _ _ _ c.self.invariant.0 c.turn.ensures.since
          (through_turn c.self.inside.hub c.turn.new.self c.turn.ensures.since.run.devices c.turn.ensures.since.run.turns c.turn.ensures.closing c.turn.result _ _ (g.L.Link.story c.self.inside.hub.link) (g.L.Link.story c.turn.new.self.link) c.turn.ensures.since.grows c.turn.ensures.alone _ (ap g.L.Link.story) c.turn.ensures.still c.turn.ensures.told c.turn.ensures.untold c.keeps.ensures.place (subst (λ s. IsLeft s.hub) (sym c.self.view_is) c.requires.on.1) c.self.invariant.0.through)
          (turn_seats (length c.self.inside.opening.value.crew) c.self.inside.hub.log c.turn.new.self.log c.self.invariant.0.seats c.turn.result _ _ (let f = c.requires.within in let e : length c.self.inside.opening.value.crew ≡ length c.args.self.now.opening.value.crew = ap (λ s. length s.opening.value.crew) c.self.view_is in omega (arith, f, e)) c.turn.ensures.told c.turn.ensures.untold)
          none c.in_default.field-0 c.in_default.ensures.fault c.in_default.ensures.few,
      watched_still _ _ _ _ _ _ _ _ _ _ c.turn.ensures.since.run.tasks c.turn.ensures.since.grows c.turn.ensures.since.run.devices c.in_default.ensures.untold c.self.invariant.1,
    )

pub returns-in_default-clause-steps : goal.returns-in_default-clause-steps
returns-in_default-clause-steps g c =
    let none : c.self.inside.hub.fault ≡ None = ap (λ s. s.hub.fault) c.self.view_is ∙ c.requires.on.0 in
    subst (λ s. HasFailed (items_of s) (items_of (record { hub = c.turn.new.self; feed = c.self.inside.feed; watching = c.self.inside.watching; opening = c.self.inside.opening; relay = c.self.inside.relay; watched = c.self.inside.watched }))) c.self.view_is
    (fails_so (record { hub = c.self.inside.hub; feed = c.self.inside.feed; watching = c.self.inside.watching; opening = c.self.inside.opening; relay = c.self.inside.relay; watched = c.self.inside.watched }) (record { hub = c.turn.new.self; feed = c.self.inside.feed; watching = c.self.inside.watching; opening = c.self.inside.opening; relay = c.self.inside.relay; watched = c.self.inside.watched }) refl refl refl c.in_default.field-0 c.in_default.ensures.untold none c.in_default.ensures.fault)

pub invariant_of-self-2 : goal.invariant_of-self-2
invariant_of-self-2 g c =
    let none : c.self.inside.hub.fault ≡ None = ap (λ s. s.hub.fault) c.self.view_is ∙ c.requires.on.0 in (
      hears_no_more g.L.Link.story g.L.Link.script g.L.Link.faults c.self.inside.hub c.turn.new.self _ _ _ c.self.invariant.0 c.turn.ensures.since
          (through_turn c.self.inside.hub c.turn.new.self c.turn.ensures.since.run.devices c.turn.ensures.since.run.turns c.turn.ensures.closing c.turn.result _ _ (g.L.Link.story c.self.inside.hub.link) (g.L.Link.story c.turn.new.self.link) c.turn.ensures.since.grows c.turn.ensures.alone _ (ap g.L.Link.story) c.turn.ensures.still c.turn.ensures.told c.turn.ensures.untold c.keeps.ensures.place (subst (λ s. IsLeft s.hub) (sym c.self.view_is) c.requires.on.1) c.self.invariant.0.through)
          (turn_seats (length c.self.inside.opening.value.crew) c.self.inside.hub.log c.turn.new.self.log c.self.invariant.0.seats c.turn.result _ _ (let f = c.requires.within in let e : length c.self.inside.opening.value.crew ≡ length c.args.self.now.opening.value.crew = ap (λ s. length s.opening.value.crew) c.self.view_is in omega (arith, f, e)) c.turn.ensures.told c.turn.ensures.untold)
          none c.in-Ok.ensures.stands None refl c.in-Ok.ensures.heard,
      c.tell_progress.ensures _ (c.tell_entry.ensures c.self.inside.hub.log _ (subst (λ came. LogsBy came c.self.inside.hub.log c.turn.new.self.log) (sym c.step_of-came.ensures) (turn_logs _ _ _ c.args.worker c.in-Ok.turned c.in-Ok.ensures.told)) (watched_still _ _ _ _ _ _ _ _ _ _ c.turn.ensures.since.run.tasks c.turn.ensures.since.grows c.turn.ensures.since.run.devices refl c.self.invariant.1)),
    )

pub returns-clause-steps : goal.returns-clause-steps
returns-clause-steps g c =
    let none : c.self.inside.hub.fault ≡ None = ap (λ s. s.hub.fault) c.self.view_is ∙ c.requires.on.0 in
    subst (λ s. Steps (HasFinished c.args.worker) c.args.worker (items_of s) (items_of (record { hub = c.turn.new.self; feed = c.self.inside.feed; watching = c.tell_progress.new.self; opening = c.self.inside.opening; relay = c.self.inside.relay; watched = c.self.inside.watched })) c.step_of-came.result) c.self.view_is
    (subst (Steps (HasFinished c.args.worker) c.args.worker (items_of (record { hub = c.self.inside.hub; feed = c.self.inside.feed; watching = c.self.inside.watching; opening = c.self.inside.opening; relay = c.self.inside.relay; watched = c.self.inside.watched })) (items_of (record { hub = c.turn.new.self; feed = c.self.inside.feed; watching = c.tell_progress.new.self; opening = c.self.inside.opening; relay = c.self.inside.relay; watched = c.self.inside.watched }))) (sym c.step_of-came.ensures)
    (turn_steps (record { hub = c.self.inside.hub; feed = c.self.inside.feed; watching = c.self.inside.watching; opening = c.self.inside.opening; relay = c.self.inside.relay; watched = c.self.inside.watched }) (record { hub = c.turn.new.self; feed = c.self.inside.feed; watching = c.tell_progress.new.self; opening = c.self.inside.opening; relay = c.self.inside.relay; watched = c.self.inside.watched }) refl refl refl none c.in-Ok.ensures.stands _ c.args.worker c.in-Ok.turned c.in-Ok.ensures.told
    (λ more. finished_so (record { hub = c.turn.new.self; feed = c.self.inside.feed; watching = c.tell_progress.new.self; opening = c.self.inside.opening; relay = c.self.inside.relay; watched = c.self.inside.watched }) c.args.worker (c.turn.ensures.since.run.devices ∙ c.self.invariant.0.since.run.devices) (c.in-Ok.ensures.finished more))))

pub returns-clause-on : goal.returns-clause-on
returns-clause-on g c =
    let left : IsLeft c.self.inside.hub = subst (λ s. IsLeft s.hub) (sym c.self.view_is) c.requires.on.1 in
    subst (λ came. GoesOn came c.turn.new.self) (sym c.step_of-came.ensures)
    (turn_on c.self.inside.hub c.turn.new.self c.turn.ensures.since.run.devices c.turn.ensures.since.run.turns c.in-Ok.ensures.stands left _ c.args.worker c.in-Ok.turned c.in-Ok.ensures.told)
