-- How much of what came waits for a hub's workers: by record and log a call adds one for each worker to whose job something came, and no more.
use Rattle.std.specs.Prelude.{◌≡◌, ℕ, List, ◌∷◌, ◌++◌, Option}
use Rattle.line_model.specs.declared.log.LogEntry.{LogEntry}
use Rattle.line_model.specs.ClientView.{Loses}
use Rattle.line_model.specs.Record.{Placed}
use Rattle.line_model.specs.LinkStory.{Story}
use Rattle.line_model.specs.Log.{Job}
use Rattle.line_model.specs.Moments.{Moment, moments}
use Rattle.tunnel_link.specs.declared.came.Came.{Came}
use Rattle.tunnel_link.specs.declared.came.Loss.{Loss}
use Rattle.tunnel_link.specs.declared.came.Loss.TheVariants.{Stays, Ended, Told}
use Rattle.tunnel_link.specs.declared.came.What.{What}
use Rattle.tunnel_link.specs.declared.came.What.TheVariants as came
use Rattle.tunnel_link.specs.Adds.{Growing, moments_on}
use Rattle.hub_work.specs.declared.crew.Held.{Held}
use Rattle.hub_work.specs.declared.job.HubJob.{HubJob}
use Rattle.hub_work.specs.declared.work.Work.{Work}
use Rattle.hub_work.specs.Came.{waiting_at, RisesBy, OneEach, all_that_came}
use Rattle.hub_work.specs.CameFor.{Comes as FrameComes, LossComes, IsForHolder, Counts, CountsFrame}
use Rattle.hub_work.specs.Closes.{counted}
use Rattle.hub_core.specs.Seen.{AreJobs}
use Rattle.hub_core.specs.Taking.{SameWork}

-- ---- by what a poll brought: a frame that was taken is told, and then the loss

abbrev pub CountsTaken : What → Work → Work → Type 0
CountsTaken came.Quiet old new = new ≡ old
CountsTaken came.Dropped old new = new ≡ old
CountsTaken came.Tunnel old new = new ≡ old
CountsTaken (came.Up tunnel) old new = new ≡ old
CountsTaken (came.Frame frame) old new = FrameComes frame old new.crew × CountsFrame old new.crew frame

abbrev pub CountsLoss : Loss → ℕ → Work → List (Option Held) → Type 0
CountsLoss Stays now old new = new ≡ old.crew
CountsLoss Ended now old new = LossComes now old new × Counts old new Loses
CountsLoss Told now old new = LossComes now old new × Counts old new Loses

pub record CountsIn (c : Came) (now : ℕ) (old new : Work) : Type 0 where
  pub told : Work
  pub same : SameWork old told
  pub taken : CountsTaken c.what old told
  pub lost : CountsLoss c.loss now told new.crew

-- ---- by record and log

-- Each worker's count is as before or one more, and rises no more than something came; and where a moment that was added is for its job, it is one more.
pub record ComesSo (jobs : List Job) (log : List LogEntry) (old new : List (Option Held)) (before added : List Placed) : Type 0 where
  pub at_most : RisesBy (all_that_came (moments_on before added)) old new
  pub one_each : OneEach old new
  pub counts : (place : ℕ) (newer older : List Moment) (m : Moment) → moments_on before added ≡ newer ++ m ∷ older → IsForHolder jobs log old place m (older ++ moments before) → waiting_at new place ≡ counted (waiting_at old place)

-- where it is told, for any jobs with these devices and plans
abbrev pub Comes : List HubJob → List LogEntry → List (Option Held) → List (Option Held) → Story → Story → Type 0
Comes hub_jobs log old new s t = (jobs : List Job) → AreJobs hub_jobs jobs → Growing (ComesSo jobs log old new) s t
