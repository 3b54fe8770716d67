-- What a downloader's step is for the log and for the turn of its worker (this project's own): an entry that tells the job's end by it is true, and the
-- turn waits exactly where the step says so, or says to send and the one place in flight can't be had. Where no attempt runs it sends T_Connect alone.
use Rattle.std.specs.Prelude.{◌≡◌, ◌↔◌, ℕ, true, false, List, Option, Some, None}
use Rattle.line_model.specs.declared.group.GroupTurn.{GroupTurn}
use Rattle.line_model.specs.declared.log.LogEntry.{LogEntry}
use Rattle.line_model.specs.declared.log.LogWhat.{LogWhat}
use Rattle.line_model.specs.declared.log.LogWhat.TheVariants as log
use Rattle.line_model.specs.Record.{Placed, entries}
use Rattle.line_model.specs.ClientView.{channel}
use Rattle.knx_model.specs.Connection.{frame_in}
use Rattle.line_model.specs.Moments.{Moment, moments, between, is_connect}
use Rattle.line_model.specs.Attempts.{attempts}
use Rattle.line_model.specs.Log.{Job}
use Rattle.line_model.specs.Told.{IsTrue}
use Rattle.line_model.specs.Asks.{HasPlace}
use Rattle.line_model.specs.Waiting.{IsHeldJob, TurnWaits, IsResting}
use Rattle.download_core.specs.declared.did.Did.{Did}
use Rattle.download_core.specs.declared.did.Did.TheVariants as did
use Rattle.download_core.specs.Attempt.{DownloaderState}
use Rattle.download_core.specs.Steps.{next_did, is_send}
use Rattle.download_core.specs.Record.{FitsRecord}
use Rattle.download_core.specs.Tells.{is_end}

-- job k is held, and this is its downloader, which fits the record since the job was taken
pub record IsDownloaderOf (s : DownloaderState) (now : ℕ) (jobs : List Job) (told : List LogEntry) (places : List Placed) (at k : ℕ) : Type 0 where
  pub job : Job
  pub since : ℕ
  pub holds : IsHeldJob jobs told k job since
  pub device : s.device ≡ job.device
  pub plan : s.plan ≡ job.plan
  pub fits : FitsRecord s now (between since at (moments places))

-- ---- the log

-- what is told of job k
abbrev pub entry_of : ℕ → Did → Option LogWhat
entry_of k (did.Send tpdu) = None
entry_of k did.Wait = None
entry_of k did.Done = Some (log.Done k)
entry_of k (did.Failed signs) = Some (log.Failed k signs)
entry_of k (did.Refused op got expected) = Some (log.Refused k op got expected)

abbrev pub LogsTruly : Type 0
LogsTruly =
    (s : DownloaderState) (now : ℕ) (jobs : List Job) (turns : List GroupTurn) (told : List LogEntry) (places : List Placed) (at k : ℕ) (what : LogWhat) → IsDownloaderOf s now jobs told places at k → entry_of k (next_did s now) ≡ Some what
    → IsTrue jobs turns places told at what

-- ---- the turn, where nothing that came waits for it

pub record StepWaits (answer : Did) (Place : Type 0) : Type 0 where
  pub no_end : is_end answer ≡ false
  pub cannot_send : is_send answer ≡ true → ¬ Place

abbrev pub TurnWaitsExactly : Type 0
TurnWaitsExactly =
    (s : DownloaderState) (now : ℕ) (jobs : List Job) (turns : List GroupTurn) (told : List LogEntry) (places : List Placed) (at k : ℕ) → IsDownloaderOf s now jobs told places at k
    → TurnWaits jobs turns told places at now k 0 ↔ StepWaits (next_did s now) (HasPlace (channel (entries places)))

-- ---- whether an attempt runs: what is sent else is a T_Connect

abbrev pub ConnectsAtRest : Type 0
ConnectsAtRest =
    (s : DownloaderState) (now : ℕ) (tpdu : List ℕ) (l : List Moment) → FitsRecord s now l → next_did s now ≡ did.Send tpdu → (is_connect (Some (frame_in tpdu)) ≡ true) ↔ IsResting (attempts s.device s.plan l)
