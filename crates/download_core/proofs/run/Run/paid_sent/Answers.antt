use Rattle.download_core.specs.JobPlans.{job_left}
use Rattle.download_core.proofs.run.Run.paid_sent.Goals as goal

pub returns-in-Some-clause-keeps : goal.returns-in-Some-clause-keeps
returns-in-Some-clause-keeps c = c.replied.ensures.keeps (job_left c.args.plan.now) c.requires.keeps

pub returns-in-None-2-clause-keeps : goal.returns-in-None-2-clause-keeps
returns-in-None-2-clause-keeps c = c.due_sent.ensures.keeps (job_left c.args.plan.now) c.requires.keeps
