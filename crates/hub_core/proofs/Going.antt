-- How far the job is that a worker holds is told truly: by the log and by the record.
use Rattle.std.proofs.Common.{◌≡◌, ◌≢◌, Bool, false, ℕ, ◌-◌, ◌≤◌, List, [], ◌∷◌, map, Option, Some, None, refl, sym, ap, subst, ◌∙◌, arith}
use Rattle.std.specs.Prelude.{option_map}
use Rattle.std.proofs.lemmas.Option.{slice_get-map}
use Rattle.knx_model.specs.declared.address.IndAddr.{IndAddr}
use Rattle.line_model.specs.declared.fault.HubFault.{HubFault}
use Rattle.line_model.specs.declared.outside.watcher.JobProgress.{JobProgress}
use Rattle.line_model.specs.LinkStory.{Story, Untold, Recorded, Full, IsPlace, places_in}
use Rattle.line_model.specs.Log.{Job, JobState, Held, job_of, numbered_from_one, state_of}
use Rattle.line_model.specs.Moments.{between, moments}
use Rattle.line_model.specs.Record.{Placed}
use Rattle.line_model.specs.Told.{OfJob}
use Rattle.line_model.specs.Watched.{HasGone as HasGoneSo, IsRunning, ShowsProgress}
use Rattle.download_core.specs.declared.gone.Gone.{Gone}
use Rattle.download_core.specs.Attempt.{DownloaderState}
use Rattle.download_core.specs.Going.{HasGoneIn, gone_in}
use Rattle.download_core.specs.JobPlans.{job_count}
use Rattle.download_core.specs.Keeps.{Known, state_of as known_state}
use Rattle.download_core.proofs.Going.{gone_is_shown}
use Rattle.device_reservation.specs.Reserved.{device_of_job}
use Rattle.device_reservation.proofs.Numbered.{by_place, from_1}
use Rattle.tunnel_link.specs.Adds.{place_of}
use Rattle.tunnel_link.specs.Rights.{WhereTold}
use Rattle.hub_work.specs.declared.crew.Held.{Held as Holds}
use Rattle.hub_work.specs.declared.job.HubJob.{HubJob}
use Rattle.hub_work.specs.declared.work.Work.{Work}
use Rattle.hub_work.specs.Books.{AreJobsOf, held_at}
use Rattle.hub_work.specs.Downloaders.{AreJobsWith, Task, states, task_of_state}
use Rattle.hub_work.specs.Fits.{Fits, FitsJob}
use Rattle.hub_work.specs.Going.{HasGone}
use Rattle.hub_work.specs.Works.{KeepsBooks, tasks}
use Rattle.hub_work.proofs.Crews.{crew_holds_worker}
use Rattle.hub_work.proofs.HeldJobs.{held_in}
use Rattle.hub_core.specs.Keeps.{Keeps, KeepsTold, Runs}
use Rattle.hub_core.specs.Seen.{hub_job_of}

some_job : Task → Job
some_job task = record { device = task.device; image = record { addr = []; assoc = []; objs = []; params = [] }; plan = task.plan; loads = false }

some_jobs : (ts : List Task) → AreJobsWith ts (map some_job ts)
unfolding some_job
some_jobs [] = refl
some_jobs (t ∷ ts) = ap (λ (us : List Task). t ∷ us) (some_jobs ts)

-- ---- by numbers from 1

numbered_map : {X Y : Type 0} (f : X → Y) (xs : List X) (k : ℕ) (x : X) → numbered_from_one xs k ≡ Some x → numbered_from_one (map f xs) k ≡ Some (f x)
numbered_map f xs k x e =
    let from : 1 ≤ k = from_1 xs k x e in
    by_place (map f xs) k from ∙ (slice_get-map f xs (k - 1) ∙ ap (option_map f) (sym (by_place xs k from) ∙ e))

some_is : {X : Type 0} (x y : X) → Some x ≡ Some y → x ≡ y
some_is x y e = cc

-- the jobs' devices are those of their downloaders
devices_of : (ds : List Known) → map device_of_job (map some_job (map task_of_state (states ds))) ≡ map (λ (d : Known). d.device) ds
unfolding some_job
devices_of [] = refl
devices_of (d ∷ ds) = ap (λ (l : List IndAddr). d.device ∷ l) (devices_of ds)

module _ (w : Work) (at : ℕ) (books : KeepsBooks at w) (are : (jobs : List Job) → AreJobsWith (tasks w) jobs → AreJobsOf w.reservation.devices jobs) (worker : ℕ) (held : Holds) (gone : Gone) (from : 1 ≤ worker) (holds : held_at w.crew (worker - 1) ≡ Some held) (has : HasGone w.downloaders held.job gone) where
  devices_are : w.reservation.devices ≡ map (λ (d : Known). d.device) w.downloaders
  devices_are = sym (are (map some_job (tasks w)) (some_jobs (tasks w))) ∙ devices_of w.downloaders

  pub runs_so : (p : JobProgress) → p.worker ≡ worker → p.job ≡ held.job → p.device ≡ gone.device → p.done ≡ gone.done → p.all ≡ gone.all → IsRunning w.reservation.devices w.journal.entries p
  runs_so p by job device done all =
      let h : (since : ℕ) × (state_of held.job w.journal.entries ≡ Held worker since) = crew_holds_worker w (map some_job (tasks w)) at worker held from books (are (map some_job (tasks w)) (some_jobs (tasks w))) (sym holds) in
      record {
        device = ap (λ (ds : List IndAddr). numbered_from_one ds p.job) devices_are ∙ (ap (λ (k : ℕ). numbered_from_one (map (λ (d : Known). d.device) w.downloaders) k) job ∙ (numbered_map (λ (d : Known). d.device) w.downloaders held.job has.known has.there ∙ ap Some (sym (device ∙ has.device))));
        since = h.0;
        held = ap (λ (k : ℕ). state_of k w.journal.entries) job ∙ (h.1 ∙ ap (λ (n : ℕ). Held n h.0) (sym by));
        within = (let le = has.within in omega (arith, le, done, all));
      }

  pub counts_so : (p : JobProgress) → p.job ≡ held.job → p.all ≡ gone.all → (job : HubJob) → numbered_from_one (map hub_job_of w.downloaders) p.job ≡ Some job → p.all ≡ job_count job.plan
  counts_so p is all job e =
      let same : hub_job_of has.known ≡ job = some_is (hub_job_of has.known) job (sym (numbered_map hub_job_of w.downloaders held.job has.known has.there) ∙ (ap (λ (k : ℕ). numbered_from_one (map hub_job_of w.downloaders) k) (sym is) ∙ e)) in
      all ∙ (has.all ∙ ap (λ (j : HubJob). job_count j.plan) same)

-- ---- by the record

there_is : {X : Type 0} (o : Option X) → o ≢ None → (x : X) × (o ≡ Some x)
there_is None e = absurd (e refl)
there_is (Some x) e = (x, refl)

of_held : (P : Job → ℕ → Type 0) (o : Option Job) (s : JobState) (job : Job) (worker since : ℕ) → o ≡ Some job → s ≡ Held worker since → P job since → OfJob P o s
of_held P o s job worker since e h p = rw (e, h) p

module _ (jobs : List Job) (w : Work) (now at : ℕ) (places : List Placed) (books : KeepsBooks at w) (fits : Fits jobs w now at (moments places)) (worker : ℕ) (held : Holds) (gone : Gone) (from : 1 ≤ worker) (holds : held_at w.crew (worker - 1) ≡ Some held)
    (has : HasGone w.downloaders held.job gone) where
  pub shows_so : (p : JobProgress) → p.job ≡ held.job → p.done ≡ gone.done → p.at ≡ at → ShowsProgress jobs places w.journal.entries p
  shows_so p is done place =
      let h : (since : ℕ) × (state_of held.job w.journal.entries ≡ Held worker since) = crew_holds_worker w jobs at worker held from books fits.devices (sym holds) in
      let there : (job : Job) × (job_of jobs held.job ≡ Some job) = there_is (job_of jobs held.job) (held_in jobs w.telegrams.turns at w.journal.entries held.job worker h.0 (books.written.form jobs fits.devices) h.1).there in
      let f : FitsJob w now (between h.0 at (moments places)) held.job worker there.0 = fits.held held.job worker h.0 there.0 there.1 h.1 in
      let same : known_state has.known ≡ f.state = some_is (known_state has.known) f.state (sym (numbered_map known_state w.downloaders held.job has.known has.there) ∙ f.there) in
      let shown : HasGoneIn f.state.device.raw f.state.plan gone.done (between h.0 at (moments places)) = gone_is_shown f.state now (between h.0 at (moments places)) gone.done f.fits (ap (λ (s : DownloaderState). gone_in s.phase) (sym same) ∙ has.done) in
      let of_job : HasGoneIn there.0.device.raw there.0.plan gone.done (between h.0 at (moments places)) = subst (λ (d : IndAddr). HasGoneIn d.raw there.0.plan gone.done (between h.0 at (moments places))) f.device (subst (λ q. HasGoneIn f.state.device.raw q gone.done (between h.0 at (moments places))) f.plan shown) in
      of_held (λ j since. HasGoneSo j.device.raw j.plan p.done since p.at places) (job_of jobs p.job) (state_of p.job w.journal.entries) there.0 worker h.0 (ap (job_of jobs) is ∙ there.1) (ap (λ (k : ℕ). state_of k w.journal.entries) is ∙ h.1)
      (subst (λ (n : ℕ). HasGoneSo there.0.device.raw there.0.plan n h.0 p.at places) (sym done) (subst (λ (n : ℕ). HasGoneSo there.0.device.raw there.0.plan gone.done h.0 n places) (sym place) of_job))

-- where the link tells something
place_is : (n : ℕ) (s : Story) (places : List Placed) → IsPlace n s → places_in s ≡ Some places → n ≡ place_of s
place_is n Untold places is e = absurd (let z : None ≡ Some places = e in cc)
place_is n (Recorded clock r) places is e = is
place_is n (Full start events) places is e = is

module _ (story : Story) (place : ℕ) (is : IsPlace place story) (w : Work) (met : Bool) (fault : Option HubFault) (none : fault ≡ None) (keeps : Keeps place story w met fault) (worker : ℕ) (held : Holds) (gone : Gone) (from : 1 ≤ worker)
    (holds : held_at w.crew (worker - 1) ≡ Some held) (has : HasGone w.downloaders held.job gone) where
  pub shows_told : (jobs : List Job) → AreJobsWith (tasks w) jobs → (p : JobProgress) → p.job ≡ held.job → p.done ≡ gone.done → p.at ≡ place → WhereTold (λ places. ShowsProgress jobs places w.journal.entries p) story
  shows_told jobs are p job done at places e =
      let told : KeepsTold jobs w met fault (place_of story) places = keeps.told jobs are places e in
      let runs : Runs jobs w met (place_of story) places = told.runs none in
      shows_so jobs w _ (place_of story) places told.books runs.fits worker held gone from holds has p job done (at ∙ place_is place story places is e)
