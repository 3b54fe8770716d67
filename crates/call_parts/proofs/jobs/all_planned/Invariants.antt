use Rattle.std.proofs.Common.{map, take}
use Rattle.call_parts.specs.Jobs.{ArePlanned, seen_job}
use Rattle.call_parts.proofs.jobs.all_planned.Given as goal

-- each job so far has its plan
abbrev pub invariant-loop-job : goal.invariant-loop-job
invariant-loop-job l = ArePlanned l.project (map seen_job l.all) (take l.job-index l.jobs)
