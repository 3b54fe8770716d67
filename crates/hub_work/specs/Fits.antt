-- A hub's work fits the record of a link, whatever that is: of the moments up to now, the newest first, each job that a worker holds has the
-- downloader that fits those since it was taken, and the next group telegram stands where those since the entry before it show it. At most one
-- request is unconfirmed, and the work knows who put it.
use Rattle.std.specs.Prelude.{◌≡◌, ◌↔◌, ℕ, ◌+◌, ◌-◌, ◌≤◌, nat_le, is_some, Bool, true, false, List, [], ◌∷◌, Option, Some, None, slice_get, if◌then◌else◌}
use Rattle.knx_model.specs.GoodPlan.{IsSendable}
use Rattle.knx_model.specs.Plans.{Over}
use Rattle.line_model.specs.declared.group.GroupTurn.{GroupTurn}
use Rattle.line_model.specs.ClientView.{Deed, Puts, Takes, Loses, Nothing}
use Rattle.line_model.specs.Moments.{Moment, between, confirmation_in}
use Rattle.line_model.specs.Signs.{Every}
use Rattle.line_model.specs.Log.{Job, Untaken, Held as IsHeld, job_of, turn_of, state_of, turn_place}
use Rattle.line_model.specs.Told.{PutsNoGroup, PutOnce, IsConfirmed, IsLoss}
use Rattle.line_model.specs.Attempts.{attempts, begun}
use Rattle.line_model.specs.Waiting.{IsUnderWay}
use Rattle.download_core.specs.Attempt.{DownloaderState}
use Rattle.download_core.specs.Record.{FitsRecord}
use Rattle.download_core.specs.Follows.{flies}
use Rattle.hub_work.specs.declared.telegrams.Stage.{Stage}
use Rattle.hub_work.specs.declared.telegrams.Stage.TheVariants.{Unput, UnderWay, Confirmed, Lost}
use Rattle.hub_work.specs.declared.work.Sender.TheVariants.{Nobody, Worker, GroupThread}
use Rattle.hub_work.specs.declared.work.Work.{Work}
use Rattle.hub_work.specs.Books.{AreJobsOf}
use Rattle.hub_work.specs.Crew.{holdings}
use Rattle.hub_work.specs.Downloaders.{AreJobsWith, states, downloader_of, task_of, new_downloader}
use Rattle.hub_work.specs.Works.{tasks}

-- ---- a request is unconfirmed: one was put, and neither a confirmation came since nor was a channel lost

abbrev pub flies_after : Deed → Bool → Bool
flies_after (Puts octets) before = true
flies_after (Takes octets) before = if is_some (confirmation_in (Takes octets)) then false else before
flies_after Loses before = false
flies_after Nothing before = before

abbrev pub in_flight : List Moment → Bool
in_flight [] = false
in_flight (m ∷ l) = flies_after m.what (in_flight l)

-- ---- a job that this worker took, by the moments since then: its worker holds it

pub record FitsJob (w : Work) (now : ℕ) (l : List Moment) (k worker : ℕ) (job : Job) : Type 0 where
  pub state : DownloaderState
  pub there : downloader_of (states w.downloaders) k ≡ Some state
  pub device : state.device ≡ job.device
  pub plan : state.plan ≡ job.plan
  pub from_1 : 1 ≤ worker
  pub fits : FitsRecord state now l
  pub flight : flies state.phase ≡ true → w.sender ≡ Worker worker
  pub holds : slice_get (holdings w.crew) (worker - 1) ≡ Some (Some (record { job = k; device = job.device; begun = nat_le 1 (begun (attempts job.device job.plan l)) }))

-- ---- the next group telegram, by the moments since the entry before it

-- it was put once, and neither its confirmation came since nor was its channel lost
pub record IsPut (turn : GroupTurn) (l : List Moment) : Type 0 where
  pub under_way : IsUnderWay turn l
  pub once : Every PutsNoGroup under_way.flown
  pub first : Every PutsNoGroup under_way.before

abbrev pub FitsStage : GroupTurn → Stage → List Moment → Type 0
FitsStage turn Unput l = Every PutsNoGroup l
FitsStage turn UnderWay l = IsPut turn l
FitsStage turn Confirmed l = PutOnce turn IsConfirmed l
FitsStage turn Lost l = PutOnce turn IsLoss l

abbrev pub FitsTelegram : Option GroupTurn → Stage → List Moment → Type 0
FitsTelegram None stage l = stage ≡ Unput
FitsTelegram (Some turn) stage l = FitsStage turn stage l

-- ---- the whole, of jobs that are seen by device and plan, when there were so many events

pub record Fits (jobs : List Job) (w : Work) (now at : ℕ) (l : List Moment) : Type 0 where
  pub devices : AreJobsOf w.reservation.devices jobs
  pub tasks : AreJobsWith (tasks w) jobs
  pub sendable : (k : ℕ) (job : Job) → job_of jobs k ≡ Some job → IsSendable job.plan × (job.plan ≡ Over → ⊥)
  pub so_far : Every (λ m. m.at ≤ at) l
  pub untaken : (k : ℕ) (job : Job) → job_of jobs k ≡ Some job → state_of k w.journal.entries ≡ Untaken → downloader_of (states w.downloaders) k ≡ Some (new_downloader (task_of job))
  pub held : (k worker since : ℕ) (job : Job) → job_of jobs k ≡ Some job → state_of k w.journal.entries ≡ IsHeld worker since → FitsJob w now (between since at l) k worker job
  pub telegram : FitsTelegram (turn_of w.telegrams.turns (w.telegrams.told + 1)) w.telegrams.stage (between (turn_place w.telegrams.told w.journal.entries) at l)
  pub group : (w.sender ≡ GroupThread) ↔ (w.telegrams.stage ≡ UnderWay)
  pub free : in_flight l ≡ false → w.sender ≡ Nobody
