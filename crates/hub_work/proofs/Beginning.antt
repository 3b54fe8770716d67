-- A hub's work of which nothing is done fits the record of no moments.
use Rattle.std.proofs.Common.{◌≡◌, ◌≢◌, ℕ, zero, suc, ◌+◌, ◌-◌, List, [], ◌∷◌, map, Some, refl, sym, ap, subst, ◌∙◌}
use Rattle.std.specs.Prelude.{slice_get}
use Rattle.std.proofs.lemmas.Option.{same_Some}
use Rattle.knx_model.specs.GoodPlan.{IsSendable}
use Rattle.knx_model.specs.Plans.{Over as IsOver}
use Rattle.line_model.specs.Log.{Job, Untaken, Held, job_of, turn_of, state_of}
use Rattle.device_reservation.specs.Reserved.{device_of_job}
use Rattle.device_reservation.proofs.Numbered.{by_place, from_1}
use Rattle.download_core.specs.declared.job_plan.JobPlan.{JobPlan}
use Rattle.download_core.specs.JobPlans.{job_left}
use Rattle.download_core.specs.Attempt.{DownloaderState}
use Rattle.hub_work.specs.declared.job.HubJob.{HubJob}
use Rattle.hub_work.specs.declared.telegrams.Stage.TheVariants.{Unput, UnderWay}
use Rattle.hub_work.specs.declared.work.Sender.TheVariants.{Nobody, GroupThread}
use Rattle.hub_work.specs.declared.work.Work.{Work}
use Rattle.hub_work.specs.Downloaders.{Task, states, downloader_of, task_of, task_of_state, task_of_hub_job, new_downloader, new_of_job}
use Rattle.hub_work.specs.Fits.{FitsTelegram}
use Rattle.hub_work.specs.Follows.{BeginsRightly}
use Rattle.hub_work.proofs.NextTelegram.{nothing_yet}

-- ---- the jobs, by device and plan

devices_of_jobs : (jobs : List Job) → map device_of_job jobs ≡ map (λ (t : Task). t.device) (map task_of jobs)
devices_of_jobs [] = refl
devices_of_jobs (x ∷ jobs) = ap (λ ds. x.device ∷ ds) (devices_of_jobs jobs)

devices_of_hub_jobs : (jobs : List HubJob) → map (λ (j : HubJob). j.device) jobs ≡ map (λ (t : Task). t.device) (map task_of_hub_job jobs)
devices_of_hub_jobs [] = refl
devices_of_hub_jobs (x ∷ jobs) = ap (λ ds. x.device ∷ ds) (devices_of_hub_jobs jobs)

pub tasks_of_new : (jobs : List HubJob) → map task_of_state (map new_of_job jobs) ≡ map task_of_hub_job jobs
tasks_of_new [] = refl
tasks_of_new (x ∷ jobs) = ap (λ ts. task_of_hub_job x ∷ ts) (tasks_of_new jobs)

-- ---- each job by its number

record Mapped {X Y : Type 0} (f : X → Y) (xs : List X) (i : ℕ) (y : Y) : Type 0 where
  from : X
  there : slice_get xs i ≡ Some from
  is : f from ≡ y

mapped_at : {X Y : Type 0} (f : X → Y) (xs : List X) (i : ℕ) (y : Y) → slice_get (map f xs) i ≡ Some y → Mapped f xs i y
mapped_at f [] i y e = absurd (cc)
mapped_at f (x ∷ xs) zero y e = record { from = x; there = refl; is = same_Some (f x) y e }
mapped_at f (x ∷ xs) (suc i) y e = let m = mapped_at f xs i y e in record { from = m.from; there = m.there; is = m.is }

at_map : {X Y : Type 0} (f : X → Y) (xs : List X) (i : ℕ) (x : X) → slice_get xs i ≡ Some x → slice_get (map f xs) i ≡ Some (f x)
at_map f [] i x e = absurd (cc)
at_map f (z ∷ xs) zero x e = ap (λ y. Some (f y)) (same_Some z x e)
at_map f (z ∷ xs) (suc i) x e = at_map f xs i x e

its_job : (hub_jobs : List HubJob) (jobs : List Job) (k : ℕ) (job : Job) → map task_of jobs ≡ map task_of_hub_job hub_jobs → job_of jobs k ≡ Some job → Mapped task_of_hub_job hub_jobs (k - 1) (task_of job)
its_job hub_jobs jobs k job same there =
    mapped_at task_of_hub_job hub_jobs (k - 1) (task_of job)
    (ap (λ (ts : List Task). slice_get ts (k - 1)) (sym same) ∙ at_map task_of jobs (k - 1) job (sym (by_place jobs k (from_1 jobs k job there)) ∙ there))

pub begins_rightly : (hub_jobs : List HubJob) (w : Work) → ((plan : JobPlan) (k : ℕ) → IsSendable (job_left plan k)) → ((plan : JobPlan) → job_left plan 0 ≢ IsOver) → w.reservation.devices ≡ map (λ (j : HubJob). j.device) hub_jobs → states w.downloaders ≡ map new_of_job hub_jobs
    → w.telegrams.stage ≡ Unput → w.sender ≡ Nobody → w.journal.entries ≡ [] → BeginsRightly hub_jobs w
begins_rightly hub_jobs w sendable goes_on devices ds unput nobody empty jobs now at same = record {
  devices = devices_of_jobs jobs ∙ (ap (map (λ (t : Task). t.device)) same ∙ (sym (devices_of_hub_jobs hub_jobs) ∙ sym devices));
  tasks = same ∙ (sym (tasks_of_new hub_jobs) ∙ ap (map task_of_state) (sym ds));
  sendable = λ k job there. let m = its_job hub_jobs jobs k job same there in subst (λ (t : Task). IsSendable t.plan × (t.plan ≡ IsOver → ⊥)) m.is (sendable m.from.plan 0, goes_on m.from.plan);
  so_far = tt;
  untaken = λ k job there e.
      let m = its_job hub_jobs jobs k job same there in
      ap (λ (all : List DownloaderState). downloader_of all k) ds
      ∙ (by_place (map new_of_job hub_jobs) k (from_1 jobs k job there)
      ∙ (at_map new_of_job hub_jobs (k - 1) m.from m.there ∙ ap (λ (t : Task). Some (new_downloader t)) m.is));
  held = λ k worker since job there e. absurd (not_held k worker since e);
  telegram = subst (λ s. FitsTelegram (turn_of w.telegrams.turns (w.telegrams.told + 1)) s []) (sym unput) (nothing_yet (turn_of w.telegrams.turns (w.telegrams.told + 1)));
  group = (λ g. absurd (let isnt : Nobody ≡ GroupThread = sym nobody ∙ g in cc), λ u. absurd (let isnt : Unput ≡ UnderWay = sym unput ∙ u in cc));
  free = λ e. nobody;
}
  where
    not_held : (k worker since : ℕ) → state_of k w.journal.entries ≡ Held worker since → ⊥
    not_held k worker since e = let isnt : Untaken ≡ Held worker since = sym (ap (state_of k) empty) ∙ e in cc
