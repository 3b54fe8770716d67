-- There are few jobs where words name none: one for each of at most 255 devices.
use Rattle.std.proofs.Common.{◌≡◌, ◌≤◌, List, length, map, None, arith}
use Rattle.std.specs.Prelude.{IsPermutation}
use Rattle.std.proofs.lemmas.List.{length-map}
use Rattle.std.proofs.lemmas.List.Sorted.{length_permutation}
use Rattle.std.proofs.lemmas.Slice.Zip.{AllZip-long}
use Rattle.hub_work.specs.declared.job.HubJob.{HubJob}
use Rattle.knx_model.specs.declared.address.IndAddr.{IndAddr}
use Rattle.call_words.specs.declared.job_word.JobWord.{JobWord}
use Rattle.knx_model.specs.Meaning.{Installation}
use Rattle.knx_model.specs.Rules.{devices_of, first_broken}
use Rattle.project_check.proofs.Limits.{few_devices}
use Rattle.project_check.proofs.Totals.{devices_counted}
use Rattle.call_parts.specs.Jobs.{ArePlanned, IsPlanned, load_of, seen_job}
use Rattle.call_parts.specs.OptionValues.{most_jobs}

-- one for each device of a project that breaks no rule
pub loads_few : (project : Installation) (devices : List IndAddr) → first_broken project.catalogue project.statements ≡ None → IsPermutation (devices_of project.statements) devices → length (map load_of devices) ≤ most_jobs
loads_few project devices sound all =
    let counted : length devices ≡ length (devices_of project.statements) = length_permutation (devices_of project.statements) devices all in
    omega (arith, length-map devices load_of, counted, devices_counted project.statements, few_devices project.catalogue project.statements sound)

-- and as many plans
pub plans_few : (project : Installation) (plans : List HubJob) (jobs : List JobWord) → ArePlanned project (map seen_job plans) jobs → length jobs ≤ most_jobs → length plans ≤ most_jobs
plans_few project plans jobs planned few = omega (arith, length-map plans seen_job, AllZip-long (IsPlanned project) (map seen_job plans) jobs planned, few)
