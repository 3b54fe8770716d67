-- A run: what the hub keeps to, by record and log alone, and what this buys on the line, over every legal list of events. In every interleaving
-- and at every moment, whatever is lost, repeated or cut, each device has its starting content, or is stopped, or runs what is meant for it;
-- each group telegram acts on exactly the objects that the running configuration links; `done` is told only where what is meant runs; no
-- device has two downloaders at once, and no tunnelling request acts twice.
use Rattle.std.specs.Prelude.{◌≡◌, ℕ, true, false, List, length, Some}
use Rattle.std.specs.List.{AllByRecursion}
use Rattle.knx_model.specs.declared.config.Image.{Image}
use Rattle.knx_model.specs.declared.device.FrameSupport.{FrameSupport}
use Rattle.knx_model.specs.Device.{NonVolatile, HasCapacities, runs, answer_in}
use Rattle.knx_model.specs.GoodPlan.{GoodPlan, IsSendable, Beginning, WholeRun}
use Rattle.knx_model.specs.Plans.{Plan}
use Rattle.line_model.specs.declared.group.GroupTurn.{GroupTurn}
use Rattle.line_model.specs.declared.log.LogEntry.{LogEntry}
use Rattle.line_model.specs.Tunnel.{Commissions}
use Rattle.line_model.specs.World.{World, Event}
use Rattle.line_model.specs.Legal.{IsLegal}
use Rattle.line_model.specs.Fresh.{IsFresh}
use Rattle.line_model.specs.Record.{Placed, entries, placed, counted}
use Rattle.line_model.specs.Log.{Job, IsLog, OneDownloaderPerDevice}
use Rattle.line_model.specs.Told.{ToldTruly}
use Rattle.line_model.specs.Renews.{RenewsRightly}
use Rattle.line_model.specs.Sendings.{SendsRightly}
use Rattle.line_model.specs.Written.{AllWritten}
use Rattle.line_model.specs.Asks.{AsksRightly}
use Rattle.line_model.specs.OldStoppedOrNew.{OldStoppedOrNew, RunsJob, RunsWhereDone}
use Rattle.line_model.specs.ActedOnce.{ActedOnce}
use Rattle.line_model.specs.Telegrams.{TelegramsActRight, ActsByImage}
use Rattle.line_model.specs.LinkStory.{Story, Untold, Recorded, Full}

-- ---- what the hub keeps to

pub record IsDisciplined (jobs : List Job) (turns : List GroupTurn) (count : ℕ) (places : List Placed) (log : List LogEntry) : Type 0 where
  pub form : IsLog jobs turns count log
  pub alone : OneDownloaderPerDevice jobs log
  pub truly : ToldTruly jobs turns places log
  pub renews : RenewsRightly (entries places)
  pub sends : SendsRightly (entries places)
  pub writes : AllWritten (entries places)
  pub asks : AsksRightly jobs turns log places

-- what its type keeps over its link's story and its log
pub record KeepsFull (jobs : List Job) (turns : List GroupTurn) (start : World) (events : List Event) (log : List LogEntry) : Type 0 where
  pub fresh : IsFresh start
  pub legal : IsLegal Commissions start events
  pub disciplined : IsDisciplined jobs turns (length events) (placed start events) log

abbrev pub Keeps : List Job → List GroupTurn → Story → List LogEntry → Type 0
Keeps jobs turns Untold log = Unit {0}
Keeps jobs turns (Recorded clock r) log = IsDisciplined jobs turns (length r) (counted r) log
Keeps jobs turns (Full start events) log = KeepsFull jobs turns start events log

-- ---- the jobs

-- a plan that checks changes nothing, and a device whose memories have their lengths and that answers all of it as wanted runs the image: where an
-- image fills a memory, no read tells what a longer one has behind it
pub record GoodCheck (plan : Plan) (image : Image) : Type 0 where
  pub changes_nothing : (frames : FrameSupport) (start end : NonVolatile) → Beginning (answer_in frames) plan start end → end ≡ start
  pub tells : (frames : FrameSupport) (start end : NonVolatile) → HasCapacities start → WholeRun (answer_in frames) plan start end → runs start ≡ Some image

pub record IsGoodJob (job : Job) : Type 0 where
  pub sendable : IsSendable job.plan
  pub load : job.loads ≡ true → GoodPlan job.plan job.image
  pub check : job.loads ≡ false → GoodCheck job.plan job.image

-- ---- the headline, at the hub's boundary

pub record IsRight (jobs : List Job) (start : World) (events : List Event) (log : List LogEntry) : Type 0 where
  pub devices : OldStoppedOrNew (RunsJob jobs) jobs start events log
  pub telegrams : TelegramsActRight ActsByImage start events
  pub done : RunsWhereDone jobs start events log
  pub once : ActedOnce start events

abbrev pub EveryInterleaving : Type 0
EveryInterleaving =
    (jobs : List Job) (turns : List GroupTurn) (start : World) (events : List Event) (log : List LogEntry)
    → AllByRecursion IsGoodJob jobs → KeepsFull jobs turns start events log → IsRight jobs start events log
