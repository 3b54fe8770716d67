use Rattle.std.proofs.Common.{subst}
use Rattle.download_core.specs.declared.job_plan.JobPlan.TheVariants as plan
use Rattle.knx_model.specs.declared.config.Image.{Image}
use Rattle.call_words.specs.declared.job_word.JobKind.TheVariants.{Load, Check}
use Rattle.call_parts.specs.Jobs.{PlansImage}
use Rattle.call_parts.proofs.Plans.{loads_image, checks_image}
use Rattle.call_parts.proofs.jobs.plan_of.Goals as goal

pub returns-in-Load : goal.returns-in-Load
returns-in-Load c = rw c.in-Load.is (subst (λ (i : Image). PlansImage Load i (plan.Load c.of.result)) c.of.ensures.image (loads_image c.of.result))

pub returns-in-Check : goal.returns-in-Check
returns-in-Check c = rw c.in-Check.is (subst (λ (i : Image). PlansImage Check i (plan.Check c.of-in-Check.result)) c.of-in-Check.ensures.image (checks_image c.of-in-Check.result))
