use Rattle.std.proofs.Common.{◌≡◌, ℕ, List, None, refl, subst}
use Rattle.line_model.specs.declared.outside.watcher.JobProgress.{JobProgress}
use Rattle.line_model.specs.LinkStory.{IsPlace}
use Rattle.hub_work.specs.Downloaders.{AreJobsWith, Task}
use Rattle.hub_core.proofs.Going.{counts_so, runs_so, shows_told}
use Rattle.hub_core.proofs.Keeps.{none_inside}
use Rattle.hub_core.proofs.View.{seen_tasks}
use Rattle.hub_core.proofs.hub.Hub.progress.Goals as goal

pub returns-clause-running : goal.returns-clause-running
returns-clause-running g c =
    let got = c.in_ok-held.ensures in
    rw (← c.self.view_is) (runs_so c.self.inside.work _ c.self.invariant.books c.self.invariant.jobs_are c.args.worker c.in_ok-held.held c.in_ok-held.gone got.from_1 got.held got.gone _ refl refl refl refl refl)

pub returns-clause-all : goal.returns-clause-all
returns-clause-all g c =
    let got = c.in_ok-held.ensures in
    let p : JobProgress = record { at = c.at.result; now = c.now.result; worker = c.args.worker; job = c.in_ok-held.held.job; device = c.in_ok-held.gone.device; done = c.in_ok-held.gone.done; all = c.in_ok-held.gone.all } in
    rw (← c.self.view_is) (counts_so c.self.inside.work _ c.self.invariant.books c.self.invariant.jobs_are c.args.worker c.in_ok-held.held c.in_ok-held.gone got.from_1 got.held got.gone p refl refl)

pub returns-clause-shown : goal.returns-clause-shown
returns-clause-shown g c =
    let got = c.in_ok-held.ensures in
    let p : JobProgress = record { at = c.at.result; now = c.now.result; worker = c.args.worker; job = c.in_ok-held.held.job; device = c.in_ok-held.gone.device; done = c.in_ok-held.gone.done; all = c.in_ok-held.gone.all } in
    let none : c.self.inside.tunnel.known.fault ≡ None = none_inside _ _ c.self.view_is c.requires.stands in
    let place : IsPlace (g.L.Link.place c.self.inside.tunnel.link) (g.L.Link.story c.self.inside.tunnel.link) = subst (λ (n : ℕ). IsPlace n (g.L.Link.story c.self.inside.tunnel.link)) c.at.ensures.value c.at.ensures.told in
    rw (← c.self.view_is) (λ jobs of.
    shows_told (g.L.Link.story c.self.inside.tunnel.link) (g.L.Link.place c.self.inside.tunnel.link) place c.self.inside.work c.self.inside.met _ none c.self.invariant c.args.worker c.in_ok-held.held c.in_ok-held.gone got.from_1 got.held got.gone jobs
    (subst (λ (ts : List Task). AreJobsWith ts jobs) (seen_tasks c.self.inside.work) of) p refl refl c.at.ensures.value)
