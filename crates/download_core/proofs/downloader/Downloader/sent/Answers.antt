use Rattle.download_core.specs.JobPlans.{job_left}
use Rattle.download_core.proofs.downloader.Downloader.sent.Goals as goal

pub invariant_of-self : goal.invariant_of-self
invariant_of-self c = c.begin.ensures.keeps (job_left c.self.inside.plan)

pub invariant_of-self-in-Failed-1 : goal.invariant_of-self-in-Failed-1
invariant_of-self-in-Failed-1 c = c.begin-in-Ended-Failed.ensures.keeps (job_left c.self.inside.plan)
