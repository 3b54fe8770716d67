use Rattle.std.proofs.Common.{◌≡◌, ◌++◌, map}
use Rattle.std.specs.Vec.Iter.{into_iter_items}
use Rattle.hub_work.specs.Downloaders.{states, new_of_job}
use Rattle.hub_work.proofs.downloaders.Downloaders.new.Given as goal

-- those that were made, and those of the jobs that are left
abbrev pub invariant-loop-job : goal.invariant-loop-job
invariant-loop-job l = states l.all.items ++ map new_of_job (into_iter_items l.job-iterator) ≡ map new_of_job l.fn.jobs
