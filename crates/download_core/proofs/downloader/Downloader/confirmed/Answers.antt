use Rattle.std.proofs.Common.{subst, sym}
use Rattle.download_core.specs.JobPlans.{job_left}
use Rattle.download_core.specs.Keeps.{KeepsPhase}
use Rattle.download_core.proofs.downloader.Downloader.confirmed.Goals as goal

pub invariant_of-self : goal.invariant_of-self
invariant_of-self c =
    let left = job_left c.self.inside.plan in
    c.confirmed-self-inside.ensures.keeps left (subst (KeepsPhase left) (sym c.replace-phase.ensures.value) c.self.invariant)
