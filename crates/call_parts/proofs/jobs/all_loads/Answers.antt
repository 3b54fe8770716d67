use Rattle.std.proofs.Common.{List, length, ◌≤◌, subst, sym}
use Rattle.call_words.specs.declared.job_word.JobWord.{JobWord}
use Rattle.call_parts.proofs.FewJobs.{loads_few}
use Rattle.call_parts.specs.OptionValues.{most_jobs}
use Rattle.call_parts.proofs.jobs.all_loads.Goals as goal

pub returns-clause-loads : goal.returns-clause-loads
returns-clause-loads c = record { devices = c.devices.result.now; all = c.devices.ensures.all; ascending = c.devices.ensures.ascending; jobs_are = c.in_ok-jobs.ensures }

pub returns-clause-few : goal.returns-clause-few
returns-clause-few c =
    subst (λ (jobs : List JobWord). length jobs ≤ most_jobs) (sym c.in_ok-jobs.ensures) (loads_few c.args.project.now c.devices.result.now c.statements-statements.ensures.sound c.devices.ensures.all)
