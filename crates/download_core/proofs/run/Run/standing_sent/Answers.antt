use Rattle.download_core.specs.JobPlans.{job_left}
use Rattle.download_core.proofs.run.Run.standing_sent.Goals as goal

pub returns-in-Some-clause-keeps : goal.returns-in-Some-clause-keeps
returns-in-Some-clause-keeps c = c.asked.ensures.keeps (job_left c.args.plan.now) c.in-Some.ensures.3 c.requires.up c.requires.keeps
