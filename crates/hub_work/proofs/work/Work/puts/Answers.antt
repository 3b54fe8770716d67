use Rattle.std.proofs.Common.{refl, ap, map, ◌-◌, ◌∙◌}
use Rattle.download_core.specs.Attempt.{DownloaderState}
use Rattle.download_core.specs.Steps.{stepped}
use Rattle.hub_work.specs.Downloaders.{states, task_of_state}
use Rattle.hub_work.proofs.Crews.{begun_jobs_held}
use Rattle.hub_work.proofs.Changed.{tasks_stay}
use Rattle.hub_work.proofs.Stepped.{stepped_task}
use Rattle.hub_work.proofs.work.Work.puts.Goals as goal

pub returns-clause-books : goal.returns-clause-books
returns-clause-books c = record {
  reservation = refl;
  turns = refl;
  told = refl;
  held = begun_jobs_held c.args.self.now.crew c.begins.new.self (c.args.worker - 1) c.begins.ensures.held;
  journal = refl;
  unfinished = refl;
  tasks_are = ap (map task_of_state) c.step.ensures ∙ tasks_stay (λ (s : DownloaderState). stepped s c.args.now) (stepped_task c.args.now) c.args.held.job (states c.args.self.now.downloaders);
  closing = refl;
}
