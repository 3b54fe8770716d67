-- The plan of a job's kind goes through its image.
use Rattle.std.proofs.Common.{refl}
use Rattle.download_core.specs.declared.job_plan.JobPlan.TheVariants as plan
use Rattle.download_plan.specs.Left.{Listening, load_left, check_left}
use Rattle.call_words.specs.declared.job_word.JobKind.TheVariants.{Load, Check}
use Rattle.knx_model.specs.LoadPlan.{load_plan, check_plan}
use Rattle.call_parts.specs.Jobs.{PlansImage}

pub loads_image : (p : Listening) → PlansImage Load p.image (plan.Load p)
unfolding load_left load_plan
loads_image p = record { kind = refl; image = refl; plan = refl }

pub checks_image : (p : Listening) → PlansImage Check p.image (plan.Check p)
unfolding check_left check_plan
checks_image p = record { kind = refl; image = refl; plan = refl }
