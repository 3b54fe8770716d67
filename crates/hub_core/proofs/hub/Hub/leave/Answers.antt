use Rattle.std.proofs.Common.{◌≡◌, ◌≢◌, Some, None, sym, ap, subst, refl, ◌∙◌}
use Rattle.line_model.specs.Closing as line
use Rattle.hub_work.specs.declared.work.Work.{Work}
use Rattle.hub_core.specs.Keeps.{IsAllDone}
use Rattle.hub_core.proofs.Calls.{leaves_failed, leaves_done, same_refl}
use Rattle.hub_core.proofs.Closings.{asides_fit_as, asked_since, closing_run, goes_on_begun, has_asked_since, same_as}
use Rattle.hub_core.proofs.Keeps.{none_inside}
use Rattle.hub_core.proofs.Hastening.{hastens_leave, listened_asked, opens_unasked}
use Rattle.hub_core.proofs.Quiet.{asides_fit}
use Rattle.hub_core.proofs.Hears.{hears_none, leaves_few, failed_few}
use Rattle.hub_core.specs.Closes.{Resumes, AsksNow, HasDone}
use Rattle.hub_core.specs.Hears.{HearsSo}
use Rattle.hub_core.specs.Pumps.{AddsSo}
use Rattle.hub_core.proofs.Endings.{some_begun, asked_resumes, unasked_resumes, unasked_over, asked_did, goes_by}
use Rattle.tunnel_link.specs.Adds.{AllNothing, Growing}
use Rattle.hub_core.proofs.Came.{leaves_nothing}
use Rattle.hub_core.specs.Leaving.{ClosesOn}
use Rattle.hub_core.proofs.Leaving.{leave_closes}
use Rattle.hub_core.specs.Polls.{SendsOnly}
use Rattle.hub_core.proofs.Polls.{leaves_send}
use Rattle.hub_core.proofs.Since.{call_since, since_again, still_since}
use Rattle.hub_core.proofs.hub.Hub.leave.Goals as goal

pub invariant_of-self : goal.invariant_of-self
invariant_of-self g c =
    let over : IsAllDone c.self.inside.work.reservation.devices c.self.inside.work.telegrams.turns c.self.inside.work.journal.entries = subst (λ v. IsAllDone v.devices v.turns v.log) (sym c.self.view_is) c.requires.over in
    let none : c.self.inside.tunnel.known.fault ≡ None = none_inside _ _ c.self.view_is c.requires.stands in
    let waited : AsksNow c.self.inside.work.closing (g.L.Link.story c.self.inside.tunnel.link) = subst (λ v. AsksNow v.closing (g.L.Link.story v.link)) (sym c.self.view_is) c.requires.waited in
    leaves_failed _ _ _ _ _ _ _ none c.leave.ensures.events c.leave.ensures.grows _ _ c.in_err-asked.ensures.adds c.in_err-asked.ensures.fault (c.in_err-asked.ensures.by_tunnel none)
    (hastens_leave _ _ c.self.inside.work c.leave.ensures.timeless c.leave.ensures.alone over (λ places e. c.self.invariant.stays none (listened_asked c.self.inside.work.closing _ (waited places e)) places e)) c.self.invariant

pub invariant_of-self-2 : goal.invariant_of-self-2
invariant_of-self-2 g c =
    let over : IsAllDone c.self.inside.work.reservation.devices c.self.inside.work.telegrams.turns c.self.inside.work.journal.entries = subst (λ v. IsAllDone v.devices v.turns v.log) (sym c.self.view_is) c.requires.over in
    let none : c.self.inside.tunnel.known.fault ≡ None = none_inside _ _ c.self.view_is c.requires.stands in
    let waited : AsksNow c.self.inside.work.closing (g.L.Link.story c.self.inside.tunnel.link) = subst (λ v. AsksNow v.closing (g.L.Link.story v.link)) (sym c.self.view_is) c.requires.waited in
    let begun : c.self.inside.work.closing ≢ None = subst (λ v. v.closing ≢ None) (sym c.self.view_is) c.requires.begun in
    leaves_done _ _ _ _ _ _ _ none c.leave.ensures.events c.leave.ensures.grows c.self.inside.work c.asked_to_leave.new.self c.in_ok-asked.asked c.now-now.result c.in_ok-asked.ensures.adds c.in_ok-asked.ensures.stands
    (same_as c.self.inside.work c.asked_to_leave.new.self c.asked_to_leave.ensures.rest (goes_on_begun (λ (s : line.Closing). line.Leaving c.now-now.result 0) c.self.inside.work.closing c.asked_to_leave.new.self.closing c.asked_to_leave.ensures.closing)) c.moments_go_on.ensures.later
    (asides_fit_as c.self.inside.work c.asked_to_leave.new.self c.now-now.result c.asked_to_leave.ensures.rest c.moments_go_on.ensures.aside) c.now-now.ensures.newest
    (hastens_leave _ _ c.self.inside.work c.leave.ensures.timeless c.leave.ensures.alone over (λ places e. c.self.invariant.stays none (listened_asked c.self.inside.work.closing _ (waited places e)) places e))
    (λ stands isnt. absurd (has_asked_since c.now-now.result c.self.inside.work.closing c.asked_to_leave.new.self.closing c.asked_to_leave.ensures.closing begun isnt)) c.self.invariant

pub invariant_of-self-then-not-asked : goal.invariant_of-self-then-not-asked
invariant_of-self-then-not-asked g c =
    let over : IsAllDone c.self.inside.work.reservation.devices c.self.inside.work.telegrams.turns c.self.inside.work.journal.entries = subst (λ v. IsAllDone v.devices v.turns v.log) (sym c.self.view_is) c.requires.over in
    let none : c.self.inside.tunnel.known.fault ≡ None = none_inside _ _ c.self.view_is c.requires.stands in
    let waited : AsksNow c.self.inside.work.closing (g.L.Link.story c.self.inside.tunnel.link) = subst (λ v. AsksNow v.closing (g.L.Link.story v.link)) (sym c.self.view_is) c.requires.waited in
    leaves_done _ _ _ _ _ _ _ none c.leave.ensures.events c.leave.ensures.grows c.self.inside.work c.self.inside.work c.in_ok-asked.asked c.now-now.result c.in_ok-asked.ensures.adds c.in_ok-asked.ensures.stands (same_refl c.self.inside.work)
    c.moments_go_on.ensures.later (asides_fit c.self.inside.work c.now-now.result c.moments_go_on.ensures.aside) c.now-now.ensures.newest
    (hastens_leave _ _ c.self.inside.work c.leave.ensures.timeless c.leave.ensures.alone over (λ places e. c.self.invariant.stays none (listened_asked c.self.inside.work.closing _ (waited places e)) places e))
    (opens_unasked _ _ c.self.inside.work _ c.in_ok-asked.asked c.leave.ensures.grows c.in_ok-asked.ensures.adds c.if-not-asked.true) c.self.invariant

pub is_over-is_over-requires-clause-over : goal.is_over-is_over-requires-clause-over
is_over-is_over-requires-clause-over g c =
    subst (λ (w : Work). IsAllDone w.reservation.devices w.telegrams.turns w.journal.entries) (sym c.asked_to_leave.ensures.rest) (subst (λ v. IsAllDone v.devices v.turns v.log) (sym c.self.view_is) c.requires.over)

pub returns-in_err-asked-clause-since : goal.returns-in_err-asked-clause-since
returns-in_err-asked-clause-since g c =
    let none : c.self.inside.tunnel.known.fault ≡ None = none_inside _ _ c.self.view_is c.requires.stands in
    rw (← c.self.view_is) (call_since c.leave.result none c.leave.ensures.grows c.leave.ensures.script (record { tasks = refl; devices = refl; turns = refl; workers = refl; missed = refl }) (c.leave.ensures.counts none) c.leave.ensures.stands c.leave.ensures.fault)

pub returns-then-not-asked-clause-since : goal.returns-then-not-asked-clause-since
returns-then-not-asked-clause-since g c =
    let none : c.self.inside.tunnel.known.fault ≡ None = none_inside _ _ c.self.view_is c.requires.stands in
    rw (← c.self.view_is) (call_since c.leave.result none c.leave.ensures.grows c.leave.ensures.script (record { tasks = refl; devices = refl; turns = refl; workers = refl; missed = refl }) (c.leave.ensures.counts none) c.leave.ensures.stands c.leave.ensures.fault)

pub returns-clause-since : goal.returns-clause-since
returns-clause-since g c =
    let none : c.self.inside.tunnel.known.fault ≡ None = none_inside _ _ c.self.view_is c.requires.stands in
    rw (← c.self.view_is) (since_again (call_since c.leave.result none c.leave.ensures.grows c.leave.ensures.script (closing_run c.self.inside.tunnel.link c.leave.new.self.link c.self.inside.tunnel.known c.leave.new.self.known c.self.inside.work c.asked_to_leave.new.self c.self.inside.tunnel.known.fault c.leave.new.self.known.fault c.self.inside.missed c.asked_to_leave.ensures.rest) (c.leave.ensures.counts none) c.leave.ensures.stands c.leave.ensures.fault) (still_since c.is_over-is_over.ensures.link (c.is_over-is_over.ensures.stands ∙ sym c.in_ok-asked.ensures.stands) c.is_over-is_over.ensures.run))

pub returns-then-not-asked-clause-heard : goal.returns-then-not-asked-clause-heard
returns-then-not-asked-clause-heard g c = rw (← c.self.view_is) (hears_none _ _ _ c.in_ok-asked.ensures.adds (λ old added h. h.nothing))

pub returns-then-not-asked-clause-resumes : goal.returns-then-not-asked-clause-resumes
returns-then-not-asked-clause-resumes g c = rw (← c.self.view_is) (unasked_resumes _ _ c.in_ok-asked.asked _ c.in_ok-asked.ensures.adds c.if-not-asked.true)

pub returns-then-not-asked-clause-ends : goal.returns-then-not-asked-clause-ends
returns-then-not-asked-clause-ends g c =
    unasked_over (g.L.Link.story c.self.inside.tunnel.link) _ c.in_ok-asked.asked c.self.inside.work.closing c.leave.ensures.grows c.in_ok-asked.ensures.adds c.if-not-asked.true (subst (λ v. AsksNow v.closing (g.L.Link.story v.link)) (sym c.self.view_is) c.requires.waited)

pub returns-clause-heard : goal.returns-clause-heard
returns-clause-heard g c =
    rw (← c.self.view_is) (subst (λ o. HearsSo o (g.L.Link.story c.self.inside.tunnel.link) (g.L.Link.story c.is_over-is_over.new.self.link)) (sym c.finished.ensures.heard)
    (subst (λ l. HearsSo None (g.L.Link.story c.self.inside.tunnel.link) (g.L.Link.story l)) (sym c.is_over-is_over.ensures.link) (hears_none _ _ _ c.in_ok-asked.ensures.adds (λ old added h. h.nothing))))

pub returns-clause-resumes : goal.returns-clause-resumes
returns-clause-resumes g c =
    let begun : c.self.inside.work.closing ≢ None = subst (λ v. v.closing ≢ None) (sym c.self.view_is) c.requires.begun in
    let asked = asked_since c.now-now.result c.self.inside.work.closing c.asked_to_leave.new.self.closing c.asked_to_leave.ensures.closing begun in
    rw (← c.self.view_is) (subst (λ o. AddsSo (Resumes c.self.inside.work.closing o) (g.L.Link.story c.self.inside.tunnel.link) (g.L.Link.story c.is_over-is_over.new.self.link)) (sym (c.is_over-is_over.ensures.stays (λ none. some_begun asked.0 (sym asked.1 ∙ none)) ∙ asked.1))
    (subst (λ l. AddsSo (Resumes c.self.inside.work.closing (Some asked.0)) (g.L.Link.story c.self.inside.tunnel.link) (g.L.Link.story l)) (sym c.is_over-is_over.ensures.link)
    (asked_resumes _ _ c.in_ok-asked.asked c.now-now.result _ asked.0 c.keeps.ensures.legal c.now-now.ensures.newest c.in_ok-asked.ensures.adds c.if-not-asked.false asked.2)))

pub returns-clause-crew : goal.returns-clause-crew
returns-clause-crew g c = rw (← c.self.view_is) (c.is_over-is_over.ensures.crew ∙ ap (λ (w : Work). w.crew) c.asked_to_leave.ensures.rest)

pub returns-clause-log : goal.returns-clause-log
returns-clause-log g c = rw (← c.self.view_is) (c.is_over-is_over.ensures.log ∙ ap (λ (w : Work). w.journal.entries) c.asked_to_leave.ensures.rest)

pub returns-clause-goes : goal.returns-clause-goes
returns-clause-goes g c =
    rw (← c.self.view_is) (goes_by c.finished.result (g.L.Link.story c.self.inside.tunnel.link) (g.L.Link.story c.is_over-is_over.new.self.link) (subst (λ l. AddsSo HasDone (g.L.Link.story c.self.inside.tunnel.link) (g.L.Link.story l)) (sym c.is_over-is_over.ensures.link) (asked_did _ _ c.in_ok-asked.asked c.in_ok-asked.ensures.adds c.if-not-asked.false)))

pub returns-in_err-asked-clause-rightly : goal.returns-in_err-asked-clause-rightly
returns-in_err-asked-clause-rightly g c = rw (← c.self.view_is) (leave_closes c.self.inside.work.closing _ _ (subst (λ v. AsksNow v.closing (g.L.Link.story v.link)) (sym c.self.view_is) c.requires.waited) c.leave.ensures.alone)

pub returns-then-not-asked-clause-rightly : goal.returns-then-not-asked-clause-rightly
returns-then-not-asked-clause-rightly g c = rw (← c.self.view_is) (leave_closes c.self.inside.work.closing _ _ (subst (λ v. AsksNow v.closing (g.L.Link.story v.link)) (sym c.self.view_is) c.requires.waited) c.leave.ensures.alone)

pub returns-clause-rightly : goal.returns-clause-rightly
returns-clause-rightly g c =
    rw (← c.self.view_is) (subst (λ l. Growing (ClosesOn c.self.inside.work.closing) (g.L.Link.story c.self.inside.tunnel.link) (g.L.Link.story l)) (sym c.is_over-is_over.ensures.link)
    (leave_closes c.self.inside.work.closing _ _ (subst (λ v. AsksNow v.closing (g.L.Link.story v.link)) (sym c.self.view_is) c.requires.waited) c.leave.ensures.alone))

pub returns-then-not-asked-clause-sends : goal.returns-then-not-asked-clause-sends
returns-then-not-asked-clause-sends g c = rw (← c.self.view_is) (leaves_send _ _ c.in_ok-asked.asked c.in_ok-asked.ensures.adds)

pub returns-clause-sends : goal.returns-clause-sends
returns-clause-sends g c =
    rw (← c.self.view_is) (subst (λ l. Growing SendsOnly (g.L.Link.story c.self.inside.tunnel.link) (g.L.Link.story l)) (sym c.is_over-is_over.ensures.link) (leaves_send _ _ c.in_ok-asked.asked c.in_ok-asked.ensures.adds))

pub returns-then-not-asked-clause-nothing : goal.returns-then-not-asked-clause-nothing
returns-then-not-asked-clause-nothing g c = rw (← c.self.view_is) (leaves_nothing _ _ c.in_ok-asked.asked c.in_ok-asked.ensures.adds)

pub returns-clause-nothing : goal.returns-clause-nothing
returns-clause-nothing g c =
    rw (← c.self.view_is) (subst (λ l. Growing AllNothing (g.L.Link.story c.self.inside.tunnel.link) (g.L.Link.story l)) (sym c.is_over-is_over.ensures.link) (leaves_nothing _ _ c.in_ok-asked.asked c.in_ok-asked.ensures.adds))

pub returns-in_err-asked-clause-few : goal.returns-in_err-asked-clause-few
returns-in_err-asked-clause-few g c = rw (← c.self.view_is) (failed_few _ _ _ (leaves_few _ _ _ c.in_err-asked.ensures.adds))
