use Rattle.std.proofs.Common.{◌≡◌, ◌∙◌, sym, Option, Some, None, subst, refl}
use Rattle.line_model.specs.declared.fault.HubFault.{HubFault}
use Rattle.tunnel_link.specs.Adds.{Ready}
use Rattle.hub_core.specs.Keeps.{Keeps}
use Rattle.hub_core.specs.Taking.{EndsSo}
use Rattle.hub_core.proofs.Calls.{polls_failed}
use Rattle.hub_core.proofs.Keeps.{none_inside}
use Rattle.hub_core.proofs.Polling.{polls_kept}
use Rattle.hub_core.proofs.Hastening.{asked_after, hastens_poll, opens_by, runs_before, sent_before}
use Rattle.hub_core.proofs.Leaving.{ends_none_of}
use Rattle.hub_core.proofs.View.{same_run}
use Rattle.hub_core.proofs.Hears.{hears_poll, polls_few, failed_few}
use Rattle.hub_core.proofs.Pumping.{polls_so}
use Rattle.hub_core.proofs.Endings.{polls_resume, polls_done}
use Rattle.tunnel_link.specs.Adds.{HasActed}
use Rattle.hub_core.proofs.Polls.{polls_once}
use Rattle.hub_core.proofs.InTime.{polls_wait}
use Rattle.hub_core.proofs.Came.{polls_come}
use Rattle.hub_core.proofs.Since.{call_since, ended_since, own_counts}
use Rattle.hub_core.proofs.hub.Hub.poll.Goals as goal

pub invariant_of-self : goal.invariant_of-self
invariant_of-self g c =
    let none : c.self.inside.tunnel.known.fault ≡ None = none_inside _ _ c.self.view_is c.requires.stands in
    let acted : HasActed c.self.inside.tunnel.known (g.L.Link.story c.self.inside.tunnel.link) = subst (λ v. HasActed v.known (g.L.Link.story v.link)) (sym c.self.view_is) c.requires.acted in
    polls_failed _ _ _ _ _ _ _ none c.poll.ensures.events c.poll.ensures.grows _ _ c.in_err-came.ensures.adds c.in_err-came.ensures.fault (c.in_err-came.ensures.by_tunnel none)
    (hastens_poll _ _ c.self.inside.work _ c.wait_ms-longest_ms.result c.poll.ensures.within (c.poll.ensures.beats acted) (c.poll.ensures.tries acted) c.poll.ensures.alone
    (sent_before _ _ c.self.inside.work _ _ none c.self.invariant c.moments_go_on.ensures.later c.now-now.result c.now-now.ensures.newest c.has_place-has_place.result (c.has_place-has_place.ensures.told none) c.wait_ms-longest_ms.result c.wait_ms-longest_ms.ensures.sent)
    (runs_before _ _ c.self.inside.work _ _ none c.self.invariant)
    (λ e. c.poll.ensures.prompt (subst (λ v. v.closing ≡ None → Ready v.known (g.L.Link.story v.link)) (sym c.self.view_is) c.requires.ready e)) c.self.invariant.closes) c.self.invariant

pub invariant_of-self-in-Some : goal.invariant_of-self-in-Some
invariant_of-self-in-Some g c =
    let none : c.self.inside.tunnel.known.fault ≡ None = none_inside _ _ c.self.view_is c.requires.stands in
    let acted : HasActed c.self.inside.tunnel.known (g.L.Link.story c.self.inside.tunnel.link) = subst (λ v. HasActed v.known (g.L.Link.story v.link)) (sym c.self.view_is) c.requires.acted in
    subst (λ l. Keeps (g.L.Link.place l) (g.L.Link.story l) c.take_in-polled.new.work c.ending.new.met c.fail.new.self.known.fault) (sym c.fail.ensures.link)
    (polls_kept _ _ _ _ _ _ _ _ _ _ none c.poll.ensures.events c.poll.ensures.grows c.take_in-polled.ensures.books c.in_ok-came.came c.now-now-2.result c.taken.result c.in_ok-came.ensures.adds c.moments_go_on.ensures.later
    c.take_in-polled.ensures.fits c.now-now-2.ensures.newest (λ places e. c.taken.ensures ∙ (c.keeps.ensures.record places e).right.takes) (Some c.in-Some.fault) c.fail.ensures.fault
    (subst (λ (o : Option HubFault). EndsSo c.take_in-polled.new.work c.self.inside.met c.ending.new.met c.in_ok-came.came.what c.taken.result o) c.in-Some.is c.ending.ensures)
    (hastens_poll _ _ c.self.inside.work _ c.wait_ms-longest_ms.result c.poll.ensures.within (c.poll.ensures.beats acted) (c.poll.ensures.tries acted) c.poll.ensures.alone
    (sent_before _ _ c.self.inside.work _ _ none c.self.invariant c.moments_go_on.ensures.later c.now-now.result c.now-now.ensures.newest c.has_place-has_place.result (c.has_place-has_place.ensures.told none) c.wait_ms-longest_ms.result c.wait_ms-longest_ms.ensures.sent)
    (runs_before _ _ c.self.inside.work _ _ none c.self.invariant)
    (λ e. c.poll.ensures.prompt (subst (λ v. v.closing ≡ None → Ready v.known (g.L.Link.story v.link)) (sym c.self.view_is) c.requires.ready e)) c.self.invariant.closes)
    (opens_by _ _ c.self.inside.work c.take_in-polled.new.work _ c.poll.ensures.grows (ends_none_of _ _ c.poll.ensures.alone) (asked_after _ _ _ _ _ c.take_in-polled.ensures.closes)) c.self.invariant)

pub invariant_of-self-in-None : goal.invariant_of-self-in-None
invariant_of-self-in-None g c =
    let none : c.self.inside.tunnel.known.fault ≡ None = none_inside _ _ c.self.view_is c.requires.stands in
    let acted : HasActed c.self.inside.tunnel.known (g.L.Link.story c.self.inside.tunnel.link) = subst (λ v. HasActed v.known (g.L.Link.story v.link)) (sym c.self.view_is) c.requires.acted in
    polls_kept _ _ _ _ _ _ _ _ _ _ none c.poll.ensures.events c.poll.ensures.grows c.take_in-polled.ensures.books c.in_ok-came.came c.now-now-2.result c.taken.result c.in_ok-came.ensures.adds c.moments_go_on.ensures.later
    c.take_in-polled.ensures.fits c.now-now-2.ensures.newest (λ places e. c.taken.ensures ∙ (c.keeps.ensures.record places e).right.takes) None c.in_ok-came.ensures.stands
    (subst (λ (o : Option HubFault). EndsSo c.take_in-polled.new.work c.self.inside.met c.ending.new.met c.in_ok-came.came.what c.taken.result o) c.in-None.is c.ending.ensures)
    (hastens_poll _ _ c.self.inside.work _ c.wait_ms-longest_ms.result c.poll.ensures.within (c.poll.ensures.beats acted) (c.poll.ensures.tries acted) c.poll.ensures.alone
    (sent_before _ _ c.self.inside.work _ _ none c.self.invariant c.moments_go_on.ensures.later c.now-now.result c.now-now.ensures.newest c.has_place-has_place.result (c.has_place-has_place.ensures.told none) c.wait_ms-longest_ms.result c.wait_ms-longest_ms.ensures.sent)
    (runs_before _ _ c.self.inside.work _ _ none c.self.invariant)
    (λ e. c.poll.ensures.prompt (subst (λ v. v.closing ≡ None → Ready v.known (g.L.Link.story v.link)) (sym c.self.view_is) c.requires.ready e)) c.self.invariant.closes)
    (opens_by _ _ c.self.inside.work c.take_in-polled.new.work _ c.poll.ensures.grows (ends_none_of _ _ c.poll.ensures.alone) (asked_after _ _ _ _ _ c.take_in-polled.ensures.closes)) c.self.invariant

pub returns-in_err-came-clause-since : goal.returns-in_err-came-clause-since
returns-in_err-came-clause-since g c =
    let none : c.self.inside.tunnel.known.fault ≡ None = none_inside _ _ c.self.view_is c.requires.stands in
    rw (← c.self.view_is) (call_since c.poll.result none c.poll.ensures.grows c.poll.ensures.script (record { tasks = refl; devices = refl; turns = refl; workers = refl; missed = refl }) (c.poll.ensures.counts none) c.poll.ensures.stands c.poll.ensures.fault)

pub returns-in-Some-clause-since : goal.returns-in-Some-clause-since
returns-in-Some-clause-since g c =
    let none : c.self.inside.tunnel.known.fault ≡ None = none_inside _ _ c.self.view_is c.requires.stands in
    let own : EndsSo c.take_in-polled.new.work c.self.inside.met c.ending.new.met c.in_ok-came.came.what c.taken.result (Some c.in-Some.fault) =
    subst (λ (o : Option HubFault). EndsSo c.take_in-polled.new.work c.self.inside.met c.ending.new.met c.in_ok-came.came.what c.taken.result o) c.in-Some.is c.ending.ensures in
    rw (← c.self.view_is) (rw c.fail.ensures.link (ended_since c.in-Some.fault none c.poll.ensures.grows c.poll.ensures.script (same_run _ _ _ _ c.self.inside.work c.take_in-polled.new.work _ _ _ c.take_in-polled.ensures.books) (c.in_ok-came.ensures.counts none ∙ own_counts _ _ _ _ _ c.in-Some.fault _ own) c.fail.ensures.fault))

pub returns-in-None-clause-since : goal.returns-in-None-clause-since
returns-in-None-clause-since g c =
    let none : c.self.inside.tunnel.known.fault ≡ None = none_inside _ _ c.self.view_is c.requires.stands in
    rw (← c.self.view_is) (call_since c.poll.result none c.poll.ensures.grows c.poll.ensures.script (same_run _ _ _ _ c.self.inside.work c.take_in-polled.new.work _ _ _ c.take_in-polled.ensures.books) (c.poll.ensures.counts none) c.poll.ensures.stands c.poll.ensures.fault)

pub returns-in-None-clause-heard : goal.returns-in-None-clause-heard
returns-in-None-clause-heard g c = rw (← c.self.view_is) (hears_poll _ _ c.in_ok-came.came _ c.in_ok-came.ensures.adds c.take_in-polled.ensures.heard)

pub returns-in-None-clause-moves : goal.returns-in-None-clause-moves
returns-in-None-clause-moves g c = rw (← c.self.view_is) (rw c.take_in-polled.ensures.moved (polls_so _ _ c.in_ok-came.came c.in_ok-came.ensures.adds))

pub returns-in-None-clause-resumes : goal.returns-in-None-clause-resumes
returns-in-None-clause-resumes g c = rw (← c.self.view_is) (polls_resume _ _ c.in_ok-came.came c.now-now-2.result _ _ c.keeps.ensures.legal c.now-now-2.ensures.newest c.in_ok-came.ensures.adds c.take_in-polled.ensures.closes)

pub returns-in-None-clause-done : goal.returns-in-None-clause-done
returns-in-None-clause-done g c = rw (← c.self.view_is) (polls_done _ _ c.in_ok-came.came c.in_ok-came.ensures.adds)

pub returns-in-None-clause-polls : goal.returns-in-None-clause-polls
returns-in-None-clause-polls g c =
    let none : c.self.inside.tunnel.known.fault ≡ None = none_inside _ _ c.self.view_is c.requires.stands in
    rw (← c.self.view_is) (polls_once _ _ _ c.self.inside.work _ _ none c.self.invariant c.poll.ensures.grows c.moments_go_on.ensures.later c.now-now.result c.now-now.ensures.newest c.has_place-has_place.result (c.has_place-has_place.ensures.told none)
    c.wait_ms-longest_ms.result c.wait_ms-longest_ms.ensures.rightly (c.in_ok-came.ensures.lasts (subst (λ v. HasActed v.known (g.L.Link.story v.link)) (sym c.self.view_is) c.requires.acted)))

pub returns-in-None-clause-came : goal.returns-in-None-clause-came
returns-in-None-clause-came g c =
    let none : c.self.inside.tunnel.known.fault ≡ None = none_inside _ _ c.self.view_is c.requires.stands in
    rw (← c.self.view_is) (polls_come _ _ _ c.self.inside.work c.take_in-polled.new.work _ _ none c.self.invariant c.moments_go_on.ensures.aside c.in_ok-came.came c.now-now-2.result c.in_ok-came.ensures.adds c.take_in-polled.ensures.came)

pub returns-in-None-clause-waits : goal.returns-in-None-clause-waits
returns-in-None-clause-waits g c =
    let none : c.self.inside.tunnel.known.fault ≡ None = none_inside _ _ c.self.view_is c.requires.stands in
    rw (← c.self.view_is) (polls_wait _ _ _ c.self.inside.work _ _ none c.self.invariant c.poll.ensures.grows c.moments_go_on.ensures.later c.now-now.result c.now-now.ensures.newest c.has_place-has_place.result (c.has_place-has_place.ensures.told none)
    c.wait_ms-longest_ms.result c.wait_ms-longest_ms.ensures.rightly (c.in_ok-came.ensures.lasts (subst (λ v. HasActed v.known (g.L.Link.story v.link)) (sym c.self.view_is) c.requires.acted)))

pub returns-in_err-came-clause-few : goal.returns-in_err-came-clause-few
returns-in_err-came-clause-few g c = rw (← c.self.view_is) (failed_few _ _ _ (polls_few _ _ c.in_err-came.ensures.adds))

pub returns-in-Some-clause-few : goal.returns-in-Some-clause-few
returns-in-Some-clause-few g c = rw (← c.self.view_is) (rw c.fail.ensures.link (_, hears_poll _ _ c.in_ok-came.came _ c.in_ok-came.ensures.adds c.take_in-polled.ensures.heard))
