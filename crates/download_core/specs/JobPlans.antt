-- The plan of a job, by its place.
use Rattle.std.specs.Prelude.{ℕ}
use Rattle.knx_model.specs.Plans.{Plan}
use Rattle.download_plan.specs.Left.{load_left, load_count, check_left, check_count}
use Rattle.download_core.specs.declared.job_plan.JobPlan.{JobPlan}
use Rattle.download_core.specs.declared.job_plan.JobPlan.TheVariants.{Load, Check}

-- the plan from an operation on, by what was noted
abbrev pub job_left : JobPlan → ℕ → Plan
job_left (Load p) k = load_left p k
job_left (Check p) k = check_left p k

-- how many operations there are
abbrev pub job_count : JobPlan → ℕ
job_count (Load p) = load_count p
job_count (Check p) = check_count p
