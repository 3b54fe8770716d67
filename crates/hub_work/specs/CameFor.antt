-- For which workers something came, by the place of each, from 0: the frame of a device is for one that holds a job of it, a confirmation for the one
-- that put last, and the loss of the channel for each whose attempt runs. And the same by record and log.
use Rattle.std.specs.Prelude.{◌≡◌, ℕ, ◌+◌, ◌<◌, Bool, true, false, not, ◌&&◌, ◌==◌, List, [], ◌∷◌, Option, Some, None}
use Rattle.knx_model.specs.declared.address.IndAddr.{IndAddr}
use Rattle.knx_model.specs.declared.connection.TransportFrame.{TransportFrame}
use Rattle.knx_model.specs.declared.frames.cemi.Ldata.{Ldata}
use Rattle.knx_model.specs.declared.frames.cemi.LdataCode.{LdataCode}
use Rattle.knx_model.specs.declared.frames.cemi.LdataCode.TheVariants.{Req, Con, Ind}
use Rattle.line_model.specs.declared.log.LogEntry.{LogEntry}
use Rattle.line_model.specs.Reading.{ldata_in}
use Rattle.line_model.specs.ClientView.{Deed, Takes, Loses}
use Rattle.line_model.specs.Moments.{Moment, between, heard_from, confirmation_in}
use Rattle.line_model.specs.Log.{Job}
use Rattle.line_model.specs.Attempts.{Attempt, Attempts, Running, attempts}
use Rattle.line_model.specs.Waiting.{IsHeldJob}
use Rattle.download_core.specs.declared.did.Did.{Did}
use Rattle.download_core.specs.declared.did.Did.TheVariants as did
use Rattle.download_core.specs.Attempt.{DownloaderState}
use Rattle.hub_work.specs.declared.crew.Held.{Held}
use Rattle.hub_work.specs.declared.work.Sender.{Sender}
use Rattle.hub_work.specs.declared.work.Sender.TheVariants.{Nobody, Worker, GroupThread}
use Rattle.hub_work.specs.declared.work.Work.{Work}
use Rattle.hub_work.specs.Books.{held_at, is_of_device}
use Rattle.hub_work.specs.Came.{waiting_at, holds_at, RisesWhere}
use Rattle.hub_work.specs.Closes.{counted}
use Rattle.hub_work.specs.Downloaders.{states}
use Rattle.hub_work.specs.Fits.{Fits}
use Rattle.hub_work.specs.Polls.{next_of_job}
use Rattle.hub_work.specs.Works.{KeepsBooks}

-- ---- a frame of a device

pub data ComesFrom (device : IndAddr) (old new : List (Option Held)) : Type 0 where
  ForHolder : (holder : ℕ) → is_of_device device (held_at old holder) ≡ true → RisesWhere (λ place. place == holder) old new → ComesFrom device old new
  ForNobody : ((place : ℕ) → is_of_device device (held_at old place) ≡ false) → new ≡ old → ComesFrom device old new

-- ---- a confirmation, of what was put last: its worker may hold no job any longer

abbrev pub has_put : Sender → ℕ → Bool
has_put Nobody place = false
has_put (Worker by) place = place + 1 == by
has_put GroupThread place = false

abbrev pub IsConfirmed : Sender → List (Option Held) → List (Option Held) → Type 0
IsConfirmed sender old new = RisesWhere (λ place. has_put sender place && holds_at old place) old new

-- ---- a frame, by its code, and whether it is to a group

abbrev pub FrameComes : Sender → LdataCode → Bool → ℕ → List (Option Held) → List (Option Held) → Type 0
FrameComes sender Req group source old new = new ≡ old
FrameComes sender Con group source old new = IsConfirmed sender old new
FrameComes sender Ind false source old new = ComesFrom (record { raw = source }) old new
FrameComes sender Ind true source old new = new ≡ old

abbrev pub Comes : Ldata → Work → List (Option Held) → Type 0
Comes frame old new = FrameComes old.sender frame.code frame.group frame.source old.crew new

-- ---- the loss of the channel

-- T_Connect (ISO/IEC 14543-3-2, transport layer)
abbrev pub is_connect : List ℕ → Bool
is_connect (octet ∷ []) = octet == 128
is_connect _ = false

-- an attempt runs: what is next is to wait, or to send anything but the T_Connect of the next one
abbrev pub runs : Option Did → Bool
runs None = false
runs (Some did.Wait) = true
runs (Some (did.Send tpdu)) = not (is_connect tpdu)
runs (Some did.Done) = false
runs (Some (did.Failed signs)) = false
runs (Some (did.Refused op got expected)) = false

abbrev pub runs_in : List DownloaderState → ℕ → Option Held → Bool
runs_in all now None = false
runs_in all now (Some held) = runs (next_of_job all now held.job)

-- an attempt of the job that the worker at a place holds
abbrev pub runs_at : Work → ℕ → ℕ → Bool
runs_at w now place = runs_in (states w.downloaders) now (held_at w.crew place)

abbrev pub LossComes : ℕ → Work → List (Option Held) → Type 0
LossComes now old new = (at : ℕ) → KeepsBooks at old → RisesWhere (runs_at old now) old.crew new

-- ---- by record: what a moment did is for a job with this device, of which so much was done before it

pub data IsFor (device : ℕ) (t : Attempts) (what : Deed) : Type 0 where
  OfDevice : (frame : TransportFrame) → heard_from device what ≡ Some frame → IsFor device t what
  OfConfirmation : (k : ℕ) (a : Attempt) (frame : TransportFrame) (error : Bool) → t ≡ Running k a → a.flying ≡ Some frame → confirmation_in what ≡ Some error → IsFor device t what
  OfLoss : (k : ℕ) (a : Attempt) → t ≡ Running k a → what ≡ Loses → IsFor device t what

-- this moment, after those, is for the job that the worker at a place holds
pub record IsForHolder (jobs : List Job) (log : List LogEntry) (crew : List (Option Held)) (place : ℕ) (m : Moment) (l : List Moment) : Type 0 where
  pub held : Held
  pub there : Some held ≡ held_at crew place
  pub job : Job
  pub since : ℕ
  pub holds : IsHeldJob jobs log held.job job since
  pub is_for : IsFor job.device.raw (attempts job.device job.plan (between since m.at l)) m.what

-- it is counted
abbrev pub Counts : Work → List (Option Held) → Deed → Type 0
Counts old new what =
    (jobs : List Job) (now at place : ℕ) (m : Moment) (l : List Moment) → KeepsBooks at old → Fits jobs old now at l → m.what ≡ what → at < m.at → IsForHolder jobs old.journal.entries old.crew place m l
    → waiting_at new place ≡ counted (waiting_at old.crew place)

abbrev pub CountsFrame : Work → List (Option Held) → Ldata → Type 0
CountsFrame old new frame = (octets : List ℕ) → ldata_in octets ≡ Some frame → Counts old new (Takes octets)
