-- Each call of a downloader follows the record: where it fits the moments since its job was taken, it fits them after the call too, with the moment
-- that the call stands for; and what it gives to be sent is a frame that may be put. No link is named: it holds of every record.
use Rattle.std.specs.Prelude.{◌≡◌, ◌≢◌, ℕ, Bool, true, false, List, [], ◌∷◌, Option, Some, None}
use Rattle.knx_model.specs.declared.address.IndAddr.{IndAddr}
use Rattle.knx_model.specs.declared.connection.TransportFrame.{TransportFrame}
use Rattle.knx_model.specs.Connection.{frame_in}
use Rattle.knx_model.specs.Plans.{Plan, Over}
use Rattle.knx_model.specs.GoodPlan.{IsSendable}
use Rattle.line_model.specs.Moments.{Moment, is_loss, put_to, heard_from, confirmation_in}
use Rattle.line_model.specs.Attempts.{attempts, MayPut}
use Rattle.download_core.specs.declared.flight.Flight.{Flight}
use Rattle.download_core.specs.declared.flight.Flight.TheVariants.{Nothing, Frame, Reply}
use Rattle.download_core.specs.declared.signs.Signs.TheVariants.{Zero}
use Rattle.download_core.specs.declared.did.Did.TheVariants as did
use Rattle.download_core.specs.Attempt.{Phase, Resting, Running, Closing, Leaving, Ended, DownloaderState}
use Rattle.download_core.specs.Calls.{confirmed, taken, lost}
use Rattle.download_core.specs.Steps.{next_did, is_send, stepped}
use Rattle.download_core.specs.Record.{FitsRecord}

-- what a moment is to a device
pub record IsMoment (device : IndAddr) (put heard : Option TransportFrame) (confirmation : Option Bool) (m : Moment) : Type 0 where
  pub lasts : is_loss m.what ≡ false
  pub put_is : put_to device.raw m.what ≡ put
  pub heard_is : heard_from device.raw m.what ≡ heard
  pub confirmed_is : confirmation_in m.what ≡ confirmation

-- ---- what was put and isn't confirmed

abbrev pub is_in_flight : Flight → Bool
is_in_flight Nothing = false
is_in_flight Frame = true
is_in_flight Reply = true

-- something of the downloader is in flight
abbrev pub flies : Phase → Bool
flies Resting = false
flies (Running a) = is_in_flight a.flight
flies (Closing flight outcome) = is_in_flight flight
flies (Leaving outcome) = true
flies (Ended outcome) = false

-- ---- each call

-- a job of which nothing is done
abbrev pub BeginsRightly : Type 0
BeginsRightly = (device : IndAddr) (plan : Plan) (now : ℕ) → IsSendable plan → plan ≢ Over → FitsRecord (record { device = device; plan = plan; signs = Zero; phase = Resting }) now []

-- what is nothing to the device changes nothing
abbrev pub AsideFollows : Type 0
AsideFollows = (s : DownloaderState) (now : ℕ) (m : Moment) (l : List Moment) → FitsRecord s now l → IsMoment s.device None None None m → FitsRecord s m.now (m ∷ l)

abbrev pub ConfirmedFollows : Type 0
ConfirmedFollows =
    (s : DownloaderState) (now : ℕ) (error : Bool) (m : Moment) (l : List Moment) → FitsRecord s now l → IsMoment s.device None None (Some error) m → FitsRecord (confirmed s error m.now) m.now (m ∷ l)

-- nor does the confirmation of a frame that isn't its own
abbrev pub OthersFollow : Type 0
OthersFollow =
    (s : DownloaderState) (now : ℕ) (error : Bool) (m : Moment) (l : List Moment) → FitsRecord s now l → flies s.phase ≡ false → IsMoment s.device None None (Some error) m → FitsRecord s m.now (m ∷ l)

abbrev pub HeardFollows : Type 0
HeardFollows =
    (s : DownloaderState) (now : ℕ) (tpdu : List ℕ) (m : Moment) (l : List Moment) → FitsRecord s now l → IsMoment s.device None (Some (frame_in tpdu)) None m → FitsRecord (taken s tpdu m.now) m.now (m ∷ l)

abbrev pub LostFollows : Type 0
LostFollows = (s : DownloaderState) (now : ℕ) (m : Moment) (l : List Moment) → FitsRecord s now l → is_loss m.what ≡ true → FitsRecord (lost s) m.now (m ∷ l)

-- what it gives to be sent may be put
abbrev pub SendsRightly : Type 0
SendsRightly = (s : DownloaderState) (now : ℕ) (tpdu : List ℕ) (l : List Moment) → FitsRecord s now l → next_did s now ≡ did.Send tpdu → MayPut (attempts s.device s.plan l) now tpdu (frame_in tpdu)

-- it is put before time goes on
abbrev pub SentFollows : Type 0
SentFollows =
    (s : DownloaderState) (now : ℕ) (tpdu : List ℕ) (m : Moment) (l : List Moment) → FitsRecord s now l → next_did s now ≡ did.Send tpdu → m.now ≡ now → IsMoment s.device (Some (frame_in tpdu)) None None m
    → FitsRecord (stepped s now) now (m ∷ l)

-- a step that gives nothing to be sent changes nothing
abbrev pub StepsStill : Type 0
StepsStill = (s : DownloaderState) (now : ℕ) → is_send (next_did s now) ≡ false → stepped s now ≡ s

-- ---- whose the confirmation is: something of it is in flight exactly from its sending to its confirmation, or until nothing depends on that any longer

pub record FliesRightly (s : DownloaderState) (now : ℕ) : Type 0 where
  pub sent : is_send (next_did s now) ≡ true → flies (stepped s now).phase ≡ true
  pub confirmed_is : (error : Bool) → flies (confirmed s error now).phase ≡ false
  pub lost_is : flies (lost s).phase ≡ false
  pub heard_is : (tpdu : List ℕ) → flies s.phase ≡ false → flies (taken s tpdu now).phase ≡ false

abbrev pub FlightsAreKnown : Type 0
FlightsAreKnown = (s : DownloaderState) (now : ℕ) → FliesRightly s now
