-- What a moment is to all jobs and group telegrams of a run: nothing, a confirmation, a frame of a device, the loss of the channel, or a request
-- that was put; and how a hub's work follows each.
use Rattle.std.specs.Prelude.{◌≡◌, ◌≢◌, ℕ, Bool, true, false, List, ◌∷◌, ◌==◌, if◌then◌else◌, Option, Some, None}
use Rattle.knx_model.specs.declared.address.IndAddr.{IndAddr}
use Rattle.knx_model.specs.declared.frames.cemi.Ldata.{Ldata}
use Rattle.knx_model.specs.Connection.{frame_in}
use Rattle.line_model.specs.declared.log.LogWhat.{LogWhat}
use Rattle.line_model.specs.Record.{Placed}
use Rattle.line_model.specs.Moments.{Moment, moments}
use Rattle.line_model.specs.Log.{Job}
use Rattle.line_model.specs.Told.{IsTrue, PutsNoGroup}
use Rattle.line_model.specs.Ends.{EndsSo}
use Rattle.download_core.specs.Attempt.{DownloaderState}
use Rattle.download_core.specs.Calls.{lost}
use Rattle.download_core.specs.Follows.{IsMoment}
use Rattle.hub_work.specs.declared.crew.Held.{Held}
use Rattle.hub_work.specs.declared.work.Sender.{Sender}
use Rattle.hub_work.specs.declared.work.Sender.TheVariants.{Nobody, Worker, GroupThread}
use Rattle.hub_work.specs.declared.work.Work.{Work}
use Rattle.hub_work.specs.Downloaders.{changed}
use Rattle.hub_work.specs.Fits.{Fits, in_flight}
use Rattle.hub_work.specs.Follows.{IsNew, TellsTruly}
use Rattle.hub_work.specs.Works.{KeepsBooks}

-- ---- nothing to anyone

pub record IsNothing (m : Moment) : Type 0 where
  pub to : (device : IndAddr) → IsMoment device None None None m
  pub still : (l : List Moment) → in_flight (m ∷ l) ≡ in_flight l
  pub alone : PutsNoGroup m

-- ---- a confirmation

pub record Confirms (error : Bool) (m : Moment) : Type 0 where
  pub to : (device : IndAddr) → IsMoment device None None (Some error) m
  pub lands : (l : List Moment) → in_flight (m ∷ l) ≡ false
  pub alone : PutsNoGroup m

abbrev pub ConfirmationFollows : Work → Work → Bool → ℕ → Type 0
ConfirmationFollows old new error now =
    (jobs : List Job) (before at later : ℕ) (m : Moment) (l : List Moment) → KeepsBooks at old → Fits jobs old before at l → IsNew m now at later → Confirms error m → Fits jobs new now later (m ∷ l)

-- ---- a frame of a device

pub record Hears (source : ℕ) (tpdu : List ℕ) (m : Moment) : Type 0 where
  pub to : (device : IndAddr) → device.raw ≡ source → IsMoment device None (Some (frame_in tpdu)) None m
  pub others : (device : IndAddr) → device.raw ≢ source → IsMoment device None None None m
  pub still : (l : List Moment) → in_flight (m ∷ l) ≡ in_flight l
  pub alone : PutsNoGroup m

abbrev pub HearingFollows : Work → Work → Ldata → ℕ → Type 0
HearingFollows old new frame now =
    (jobs : List Job) (before at later : ℕ) (m : Moment) (l : List Moment) → KeepsBooks at old → Fits jobs old before at l → IsNew m now at later → Hears frame.source frame.tpdu m → Fits jobs new now later (m ∷ l)

-- ---- the loss of the channel, for the worker at a place

abbrev pub lost_for : Option Held → List DownloaderState → List DownloaderState
lost_for None all = all
lost_for (Some held) all = changed lost held.job all

-- ---- a request to a device

pub record PutsTo (destination : ℕ) (tpdu : List ℕ) (m : Moment) : Type 0 where
  pub to : (device : IndAddr) → device.raw ≡ destination → IsMoment device (Some (frame_in tpdu)) None None m
  pub others : (device : IndAddr) → device.raw ≢ destination → IsMoment device None None None m
  pub flies : (l : List Moment) → in_flight (m ∷ l) ≡ true
  pub alone : PutsNoGroup m

-- ---- entries of the log

-- a job was taken
abbrev pub TookFollows : ℕ → Work → Work → Type 0
TookFollows at old new = (jobs : List Job) (places : List Placed) (now : ℕ) → Fits jobs old now at (moments places) → Fits jobs new now at (moments places) × TellsTruly jobs places old new

-- what a worker put for a job that has ended is nobody's
abbrev pub after_end : ℕ → Sender → Sender
after_end worker Nobody = Nobody
after_end worker (Worker by) = if by == worker then Nobody else Worker by
after_end worker GroupThread = GroupThread

-- a job has ended so
abbrev pub EndFollows : ℕ → LogWhat → Work → Work → Type 0
EndFollows at what old new =
    (jobs : List Job) (places : List Placed) (now : ℕ) → Fits jobs old now at (moments places)
    → Fits jobs new now at (moments places) × (IsTrue jobs old.telegrams.turns places old.journal.entries at what → EndsSo jobs places old.journal.entries at what → TellsTruly jobs places old new)
