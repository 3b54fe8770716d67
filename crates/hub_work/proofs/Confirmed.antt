-- A hub's work fits the record after a confirmation: of nobody's request, of a group telegram, and of a job's frame.
use Rattle.std.proofs.Common.{◌≡◌, ◌≢◌, inl, inr, ◌↔◌, ℕ, ◌-◌, ◌≤◌, Bool, true, false, List, ◌∷◌, Option, Some, None, refl, sym, ap, subst, ◌∙◌}
use Rattle.std.proofs.lemmas.Bool.{cases_eq}
use Rattle.line_model.specs.declared.group.GroupTurn.{GroupTurn}
use Rattle.line_model.specs.Moments.{Moment, between}
use Rattle.line_model.specs.Log.{Job, Untaken, Held, state_of}
use Rattle.download_core.specs.Attempt.{DownloaderState}
use Rattle.download_core.specs.Calls.{confirmed}
use Rattle.download_core.specs.Follows.{flies}
use Rattle.download_core.specs.Keeps.{Known}
use Rattle.hub_work.specs.declared.crew.Held.{Held as Holds}
use Rattle.hub_work.specs.declared.telegrams.Stage.{Stage}
use Rattle.hub_work.specs.declared.telegrams.Stage.TheVariants.{UnderWay}
use Rattle.hub_work.specs.declared.work.Sender.{Sender}
use Rattle.hub_work.specs.declared.work.Sender.TheVariants.{Nobody, Worker, GroupThread}
use Rattle.hub_work.specs.declared.work.Work.{Work}
use Rattle.hub_work.specs.Books.{held_at}
use Rattle.hub_work.specs.Crew.{holdings}
use Rattle.hub_work.specs.Downloaders.{states, downloader_of, changed, task_of, new_downloader}
use Rattle.hub_work.specs.Laws.{Laws}
use Rattle.hub_work.specs.Fits.{Fits, FitsJob, FitsTelegram}
use Rattle.hub_work.specs.Follows.{IsNew}
use Rattle.hub_work.specs.Comes.{Confirms, ConfirmationFollows}
use Rattle.hub_work.specs.Works.{KeepsBooks, SameBooks}
use Rattle.hub_work.specs.Telegrams.{Telling, after_confirmation}
use Rattle.hub_work.proofs.Changed.{changed_there, changed_elsewhere}
use Rattle.hub_work.proofs.Crews.{unheld, same_slot, same_worker, crew_holds_worker}
use Rattle.hub_work.proofs.Events.{fits_on}
use Rattle.hub_work.proofs.JobEvents.{job_on, not_flying, others_become, confirmed_becomes, landed}
use Rattle.hub_work.proofs.Moments.{changed_books}
use Rattle.hub_work.proofs.Stages.{settled_telegram, confirmed_telegram, not_under_way}

-- ---- of the parts that a call leaves

other : (s : Sender) (w : ℕ) → s ≡ Nobody → s ≢ Worker w
other s w e f = cc

group_isnt : (s : Sender) (w : ℕ) → s ≡ GroupThread → s ≢ Worker w
group_isnt s w e f = cc

none_under_way : (s : Sender) (stage : Stage) → (s ≡ GroupThread) ↔ (stage ≡ UnderWay) → s ≢ GroupThread → stage ≢ UnderWay
none_under_way s stage g apart e = apart (g.1 e)

nobody_iff : (s : Sender) (stage : Stage) → s ≡ Nobody → stage ≢ UnderWay → (s ≡ GroupThread) ↔ (stage ≡ UnderWay)
nobody_iff s stage e apart = (λ g. absurd (let n : Nobody ≡ GroupThread = sym e ∙ g in cc), λ u. absurd (apart u))

module _ (laws : Laws) (jobs : List Job) (old new : Work) (error : Bool) (before now at later : ℕ) (m : Moment) (l : List Moment) (books : KeepsBooks at old) (f : Fits jobs old before at l) (n : IsNew m now at later) (c : Confirms error m)
    (same : SameBooks old new) (nobody : new.sender ≡ Nobody) (held_same : holdings new.crew ≡ holdings old.crew) where
  -- a job whose frame it isn't
  aside_job : (k worker since : ℕ) (job : Job) (j : FitsJob old before (between since at l) k worker job) → downloader_of (states new.downloaders) k ≡ downloader_of (states old.downloaders) k → flies j.state.phase ≡ false → FitsJob new now (m ∷ between since at l) k worker job
  aside_job k worker since job j there still =
      job_on old new before now k worker m (between since at l) job j j.state (there ∙ j.there)
      (others_become laws j.state before now m (between since at l) j.fits n.time error still (c.to j.state.device))
      (c.to job.device).put_is held_same (λ moves. absurd (let isnt : true ≡ false = sym moves ∙ still in cc))

  -- nobody's, or a group telegram's
  pub of_no_job : states new.downloaders ≡ states old.downloaders → ((k worker : ℕ) (x : List Moment) (job : Job) → (j : FitsJob old before x k worker job) → flies j.state.phase ≡ false) → new.telegrams.stage ≢ UnderWay
      → ((o : Option GroupTurn) (x : List Moment) → FitsTelegram o old.telegrams.stage x → FitsTelegram o new.telegrams.stage (m ∷ x)) → Fits jobs new now later (m ∷ l)
  of_no_job ds still settled telegram = fits_on jobs old new before now at later m l books f n (record {
    same = same;
    untaken = λ k job there e u. ap (λ (all : List DownloaderState). downloader_of all k) ds ∙ u;
    held = λ k worker since job there e j. aside_job k worker since job j (ap (λ (all : List DownloaderState). downloader_of all k) ds) (still k worker (between since at l) job j);
    telegram = λ o x _ t. telegram o x t;
    group = nobody_iff new.sender new.telegrams.stage nobody settled;
    free = λ e. nobody;
  })

  -- a job's, which its worker holds
  pub of_job : (by : ℕ) (h : Holds) → old.sender ≡ Worker by → 1 ≤ by → Some h ≡ held_at old.crew (by - 1) → states new.downloaders ≡ changed (λ (s : DownloaderState). confirmed s error now) h.job (states old.downloaders)
      → new.telegrams.stage ≡ old.telegrams.stage → Fits jobs new now later (m ∷ l)
  of_job by h sender from holds ds stage = fits_on jobs old new before now at later m l books f n (record {
    same = same;
    untaken = λ k job there e u. untaken_on k job e u;
    held = λ k worker since job there e j. elim (cases_eq k h.job) [
      | inl is ↦ its_job k worker since job j is
      | inr apart ↦ aside_job k worker since job j (elsewhere k apart) (not_flying old new before now k worker m (between since at l) job j (λ s. not_its k worker since job j apart s))
    ];
    telegram = λ o x _ t. subst (λ (s : Stage). FitsTelegram o s (m ∷ x)) (sym stage) (settled_telegram o old.telegrams.stage m x c.alone settled t);
    group = nobody_iff new.sender new.telegrams.stage nobody (λ u. settled (sym stage ∙ u));
    free = λ e. nobody;
  })
    where
      settled : old.telegrams.stage ≢ UnderWay
      settled = none_under_way old.sender old.telegrams.stage f.group (λ g. let e : Worker by ≡ GroupThread = sym sender ∙ g in absurd (cc))

      elsewhere : (k : ℕ) → k ≢ h.job → downloader_of (states new.downloaders) k ≡ downloader_of (states old.downloaders) k
      elsewhere k apart = ap (λ (all : List DownloaderState). downloader_of all k) ds ∙ changed_elsewhere (λ (s : DownloaderState). confirmed s error now) h.job k (states old.downloaders) apart

      landed_not : (s : DownloaderState) → flies (confirmed s error now).phase ≡ true → ⊥
      landed_not s e = let lands : flies (confirmed s error now).phase ≡ false = landed laws s error now in cc

      log_held : (since : ℕ) × (state_of h.job old.journal.entries ≡ Held by since)
      log_held = crew_holds_worker old jobs at by h from books f.devices holds

      untaken_on : (k : ℕ) (job : Job) → state_of k old.journal.entries ≡ Untaken → downloader_of (states old.downloaders) k ≡ Some (new_downloader (task_of job)) → downloader_of (states new.downloaders) k ≡ Some (new_downloader (task_of job))
      untaken_on k job e u = elsewhere k (λ is. let t : state_of h.job old.journal.entries ≡ Untaken = ap (λ j. state_of j old.journal.entries) (sym is) ∙ e in let c : Held by log_held.0 ≡ Untaken = sym log_held.1 ∙ t in absurd (cc)) ∙ u

      its_job : (k worker since : ℕ) (job : Job) → FitsJob old before (between since at l) k worker job → k ≡ h.job → FitsJob new now (m ∷ between since at l) k worker job
      its_job k worker since job j is =
          job_on old new before now k worker m (between since at l) job j (confirmed j.state error now)
          (ap (λ (all : List DownloaderState). downloader_of all k) ds
          ∙ (ap (λ i. downloader_of (changed (λ (s : DownloaderState). confirmed s error now) i (states old.downloaders)) k) (sym is)
          ∙ changed_there (λ (s : DownloaderState). confirmed s error now) k (states old.downloaders) j.state j.there))
          (confirmed_becomes laws j.state before now m (between since at l) j.fits n.time error (c.to j.state.device))
          (c.to job.device).put_is held_same (λ flies. absurd (landed_not j.state flies))

      not_its : (k worker since : ℕ) (job : Job) → FitsJob old before (between since at l) k worker job → k ≢ h.job → old.sender ≡ Worker worker → ⊥
      not_its k worker since job j apart s =
          let is : by ≡ worker = same_worker by worker (sym sender ∙ s) in
          apart (same_slot old.crew h worker k job _ (subst (λ w. Some h ≡ held_at old.crew (w - 1)) is holds) j.holds)

-- ---- each case of the call

-- no job is held by a worker that holds none
idle_worker : (old : Work) (before : ℕ) (x : List Moment) (k worker : ℕ) (job : Job) (j : FitsJob old before x k worker job) → None ≡ held_at old.crew (worker - 1) → flies j.state.phase ≡ false
idle_worker old before x k worker job j none = absurd (unheld old.crew (worker - 1) _ none j.holds)

sender_books : (old : Work) (s : Sender) → SameBooks old (record old { sender = s })
sender_books old s = record { reservation = refl; turns = refl; told = refl; held = refl; journal = refl; unfinished = refl; tasks_are = refl; closing = refl }

module _ (laws : Laws) (old : Work) (s : Sender) (error : Bool) (now : ℕ) (nobody : s ≡ Nobody) where
  pub confirmed_of_nobody : Nobody ≡ old.sender → ConfirmationFollows old (record old { sender = s }) error now
  confirmed_of_nobody sender jobs before at later m l books f n c =
      of_no_job laws jobs old (record old { sender = s }) error before now at later m l books f n c (sender_books old s) nobody refl refl
      (λ k worker x job j. not_flying old old before now k worker m x job j (other old.sender worker (sym sender)))
      (none_under_way old.sender old.telegrams.stage f.group (λ g. let e : Nobody ≡ GroupThread = sender ∙ g in absurd (cc)))
      (λ o x t. settled_telegram o old.telegrams.stage m x c.alone (none_under_way old.sender old.telegrams.stage f.group (λ g. let e : Nobody ≡ GroupThread = sender ∙ g in absurd (cc))) t)

  pub confirmed_of_group : (t : Telling) → t ≡ record old.telegrams { stage = after_confirmation old.telegrams.stage } → GroupThread ≡ old.sender → ConfirmationFollows old (record old { telegrams = t; sender = s }) error now
  confirmed_of_group t is sender jobs before at later m l books f n c =
      of_no_job laws jobs old (record old { telegrams = t; sender = s }) error before now at later m l books f n c
      (record { reservation = refl; turns = ap (λ (x : Telling). x.turns) is; told = ap (λ (x : Telling). x.told) is; held = refl; journal = refl; unfinished = refl; tasks_are = refl; closing = refl }) nobody refl refl
      (λ k worker x job j. not_flying old old before now k worker m x job j (group_isnt old.sender worker (sym sender)))
      (λ u. not_under_way old.telegrams.stage (sym (ap (λ (x : Telling). x.stage) is) ∙ u))
      (λ o x p. subst (λ (g : Stage). FitsTelegram o g (m ∷ x)) (sym (ap (λ (x : Telling). x.stage) is)) (confirmed_telegram o old.telegrams.stage m x c.alone (error, (c.to (record { raw = 0 })).confirmed_is) p))

  pub confirmed_of_worker : (ds : List Known) (crew : List (Option Holds)) (by : ℕ) (h : Holds) → Worker by ≡ old.sender → 1 ≤ by → Some h ≡ held_at old.crew (by - 1)
      → states ds ≡ changed (λ (x : DownloaderState). confirmed x error now) h.job (states old.downloaders) → holdings crew ≡ holdings old.crew → ConfirmationFollows old (record old { downloaders = ds; crew = crew; sender = s }) error now
  confirmed_of_worker ds crew by h sender from holds is same jobs before at later m l books f n c =
      of_job laws jobs old (record old { downloaders = ds; crew = crew; sender = s }) error before now at later m l books f n c
      (changed_books old ds crew s (λ (x : DownloaderState). confirmed x error now) h.job (λ x. refl) is same) nobody same by h (sym sender) from holds is refl

  -- its job has ended
  pub confirmed_of_none : (by : ℕ) → Worker by ≡ old.sender → (1 ≤ by → None ≡ held_at old.crew (by - 1)) → ConfirmationFollows old (record old { sender = s }) error now
  confirmed_of_none by sender none jobs before at later m l books f n c =
      of_no_job laws jobs old (record old { sender = s }) error before now at later m l books f n c (sender_books old s) nobody refl refl
      (λ k worker x job j. still k worker x job j) settled (λ o x t. settled_telegram o old.telegrams.stage m x c.alone settled t)
    where
      settled : old.telegrams.stage ≢ UnderWay
      settled = none_under_way old.sender old.telegrams.stage f.group (λ g. let e : Worker by ≡ GroupThread = sender ∙ g in absurd (cc))

      still : (k worker : ℕ) (x : List Moment) (job : Job) (j : FitsJob old before x k worker job) → flies j.state.phase ≡ false
      still k worker x job j = elim (cases_eq worker by) [
        | inl is ↦ idle_worker old before x k worker job j (subst (λ w. None ≡ held_at old.crew (w - 1)) (sym is) (none (subst (λ w. 1 ≤ w) is j.from_1)))
        | inr apart ↦ not_flying old old before now k worker m x job j (λ e. apart (sym (same_worker by worker (sender ∙ e))))
      ]
