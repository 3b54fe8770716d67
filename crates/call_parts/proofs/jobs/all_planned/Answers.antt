use Rattle.std.proofs.Common.{map, ap, ◌∙◌, List}
use Rattle.std.proofs.lemmas.List.{map_push}
use Rattle.hub_work.specs.declared.job.HubJob.{HubJob}
use Rattle.call_parts.specs.Jobs.{IsPlanned, seen_job}
use Rattle.call_parts.proofs.Pairs.{AllZip_more}
use Rattle.call_parts.proofs.jobs.all_planned.Goals as goal

pub loop-job-preserved : goal.loop-job-preserved
loop-job-preserved c =
    AllZip_more (IsPlanned c.args.project.now) (map seen_job c.loop-job.all) (map seen_job c.push.new.self) c.args.jobs.now c.loop-job.job-index (seen_job c.in_ok-planned.field-0) _ c.loop-job-test.true
    (ap (λ (l : List HubJob). map seen_job l) c.in_ok-push.ensures.ok ∙ map_push seen_job c.loop-job.all c.in_ok-planned.field-0) c.loop-job.invariant c.in_ok-planned.ensures
