use Rattle.std.proofs.Common.{ℕ, List, subst}
use Rattle.line_model.specs.LinkStory.{IsPlace}
use Rattle.hub_work.specs.Downloaders.{Task, AreJobsWith}
use Rattle.hub_core.proofs.Headlines.{headline, safe_over, right_over, fault_in}
use Rattle.hub_core.proofs.Telling.{all_hasten}
use Rattle.hub_core.proofs.Thorough.{thorough_over}
use Rattle.hub_core.proofs.View.{seen_tasks}
use Rattle.hub_core.proofs.hub.Hub.keeps.Goals as goal

pub returns-clause-tells : goal.returns-clause-tells
returns-clause-tells g c =
    rw (← c.self.view_is) (λ jobs of places e. (c.self.invariant.told jobs (subst (λ (ts : List Task). AreJobsWith ts jobs) (seen_tasks c.self.inside.work) of) places e).tells)

pub returns-clause-headline : goal.returns-clause-headline
returns-clause-headline g c =
    rw (← c.self.view_is) (λ jobs of.
    let here : AreJobsWith _ jobs = subst (λ (ts : List Task). AreJobsWith ts jobs) (seen_tasks c.self.inside.work) of in
    headline jobs c.self.inside.work.telegrams.turns c.self.inside.work.journal.entries _ c.self.inside.tunnel.known
    (c.one_downloader_per_device.ensures.alone jobs c.self.inside.work.journal.entries (c.self.invariant.books.written.reserved jobs (c.self.invariant.jobs_are jobs here)))
    (λ places e. (c.self.invariant.told jobs here places e).tells) c.keeps.ensures.record c.keeps.ensures.legal (c.self.invariant.hastens jobs here))

pub returns-clause-safe : goal.returns-clause-safe
returns-clause-safe g c =
    rw (← c.self.view_is) (λ jobs of.
    let here : AreJobsWith _ jobs = subst (λ (ts : List Task). AreJobsWith ts jobs) (seen_tasks c.self.inside.work) of in
    safe_over jobs c.self.inside.work.telegrams.turns c.self.inside.work.journal.entries _ c.self.inside.tunnel.known
    (c.one_downloader_per_device.ensures.alone jobs c.self.inside.work.journal.entries (c.self.invariant.books.written.reserved jobs (c.self.invariant.jobs_are jobs here)))
    (λ places e. (c.self.invariant.told jobs here places e).tells) c.keeps.ensures.record c.keeps.ensures.legal)

pub returns-clause-thorough : goal.returns-clause-thorough
returns-clause-thorough g c =
    rw (← c.self.view_is) (λ jobs of.
    let here : AreJobsWith _ jobs = subst (λ (ts : List Task). AreJobsWith ts jobs) (seen_tasks c.self.inside.work) of in
    thorough_over jobs c.self.inside.work.telegrams.turns c.self.inside.work.journal.entries _ c.self.inside.tunnel.known (λ places e. (c.self.invariant.told jobs here places e).tells) c.keeps.ensures.record)

pub returns-clause-hastens : goal.returns-clause-hastens
returns-clause-hastens g c =
    rw (← c.self.view_is) (λ jobs of places e. all_hasten _ jobs c.self.inside.work.telegrams.turns c.self.inside.work.journal.entries places (c.self.invariant.hastens jobs (subst (λ (ts : List Task). AreJobsWith ts jobs) (seen_tasks c.self.inside.work) of) places e))

pub returns-clause-right : goal.returns-clause-right
returns-clause-right g c =
    rw (← c.self.view_is) (λ jobs of good.
    let here : AreJobsWith _ jobs = subst (λ (ts : List Task). AreJobsWith ts jobs) (seen_tasks c.self.inside.work) of in
    right_over jobs c.self.inside.work.telegrams.turns c.self.inside.work.journal.entries _ c.every_safe_interleaving.ensures good
    (safe_over jobs c.self.inside.work.telegrams.turns c.self.inside.work.journal.entries _ c.self.inside.tunnel.known
    (c.one_downloader_per_device.ensures.alone jobs c.self.inside.work.journal.entries (c.self.invariant.books.written.reserved jobs (c.self.invariant.jobs_are jobs here)))
    (λ places e. (c.self.invariant.told jobs here places e).tells) c.keeps.ensures.record c.keeps.ensures.legal))

pub returns-clause-fault : goal.returns-clause-fault
returns-clause-fault g c =
    rw (← c.self.view_is) (λ jobs of.
    fault_in jobs c.self.inside.work c.self.inside.met c.self.inside.tunnel.known _ (c.self.invariant.told jobs (subst (λ (ts : List Task). AreJobsWith ts jobs) (seen_tasks c.self.inside.work) of)) c.keeps.ensures.record)

pub returns-clause-place : goal.returns-clause-place
returns-clause-place g c = rw (← c.self.view_is) (subst (λ (n : ℕ). IsPlace n (g.L.Link.story c.self.inside.tunnel.link)) c.at-at.ensures.value c.at-at.ensures.told)

pub returns-clause-parted : goal.returns-clause-parted
returns-clause-parted g c = rw (← c.self.view_is) (λ none places e. ((c.keeps.ensures.record places e).fits none).parted)
