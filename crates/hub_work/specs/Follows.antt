-- Each call of a hub's work follows the record: where it fits the moments of a link it fits them after the call too, with the moment that the call
-- stands for; what it gives to be put is a right request; and each entry that it adds to the log is true. No link is named: it holds of every
-- record.
use Rattle.std.specs.Prelude.{◌≡◌, ℕ, ◌<◌, ◌≤◌, false, List, [], ◌∷◌, map, Some, None}
use Rattle.knx_model.specs.declared.frames.cemi.Ldata.{Ldata}
use Rattle.line_model.specs.declared.log.LogWhat.{LogWhat}
use Rattle.line_model.specs.declared.log.LogWhat.TheVariants as log
use Rattle.line_model.specs.Reading.{ldata_in}
use Rattle.line_model.specs.Record.{Placed, entries}
use Rattle.line_model.specs.ClientView.{Deed, Puts, Takes, Loses, Nothing, channel}
use Rattle.line_model.specs.Moments.{Moment, moments}
use Rattle.line_model.specs.Log.{Job}
use Rattle.line_model.specs.Told.{ToldTruly}
use Rattle.line_model.specs.Asks.{HasPlace, IsRightRequest}
use Rattle.line_model.specs.Renews.{RenewsRightly}
use Rattle.line_model.specs.Ends.{EndsAtRest, BeginsSo}
use Rattle.hub_work.specs.declared.job.HubJob.{HubJob}
use Rattle.hub_work.specs.declared.telegrams.Stage.{Stage}
use Rattle.hub_work.specs.declared.telegrams.Stage.TheVariants as stage
use Rattle.hub_work.specs.declared.work.Work.{Work}
use Rattle.hub_work.specs.declared.work.turn.Turn.{Turn}
use Rattle.hub_work.specs.declared.work.turn.Turn.TheVariants as turn
use Rattle.hub_work.specs.Downloaders.{AreJobsWith, task_of_hub_job}
use Rattle.hub_work.specs.Fits.{Fits, in_flight}
use Rattle.hub_work.specs.Telegrams.{IsNextRequest}
use Rattle.hub_work.specs.Works.{KeepsBooks}

-- ---- the moment that a call stands for: it has this time, and comes after so many events, among those up to a later one

pub record IsNew (m : Moment) (now at later : ℕ) : Type 0 where
  pub time : m.now ≡ now
  pub after : at < m.at
  pub within : m.at ≤ later

-- ---- it begins

abbrev pub BeginsRightly : List HubJob → Work → Type 0
BeginsRightly hub_jobs w = (jobs : List Job) (now at : ℕ) → AreJobsWith (map task_of_hub_job hub_jobs) jobs → Fits jobs w now at []

-- ---- what comes

-- a frame that was taken
abbrev pub FrameFollows : Work → Work → Ldata → ℕ → Type 0
FrameFollows old new frame now =
    (jobs : List Job) (before at later : ℕ) (octets : List ℕ) (m : Moment) (l : List Moment) → KeepsBooks at old → Fits jobs old before at l → IsNew m now at later → m.what ≡ Takes octets → ldata_in octets ≡ Some frame
    → Fits jobs new now later (m ∷ l)

-- the loss of the channel
abbrev pub LossFollows : Work → Work → ℕ → Type 0
LossFollows old new now = (jobs : List Job) (before at later : ℕ) (m : Moment) (l : List Moment) → KeepsBooks at old → Fits jobs old before at l → IsNew m now at later → m.what ≡ Loses → Fits jobs new now later (m ∷ l)

-- nothing: nothing was put, taken or lost, or what was taken isn't a frame
pub data IsAside (what : Deed) : Type 0 where
  Does : what ≡ Nothing → IsAside what
  Unread : (octets : List ℕ) → what ≡ Takes octets → ldata_in octets ≡ None → IsAside what

abbrev pub AsideFollows : Type 0
AsideFollows = (jobs : List Job) (w : Work) (before now at later : ℕ) (m : Moment) (l : List Moment) → KeepsBooks at w → Fits jobs w before at l → IsNew m now at later → IsAside m.what → Fits jobs w now later (m ∷ l)

-- and where there are more events, none of which the record tells
abbrev pub StaysFitting : Type 0
StaysFitting = (jobs : List Job) (w : Work) (now at later : ℕ) (l : List Moment) → KeepsBooks at w → Fits jobs w now at l → at ≤ later → Fits jobs w now later l

-- ---- what it gives to be put

-- it may be put where there is a place, it begins an attempt only where the last one is undecided, and the work fits once it is put
pub record PutFollows (jobs : List Job) (places : List Placed) (now at : ℕ) (w : Work) (cemi : List ℕ) : Type 0 where
  pub asks : (m : Moment) → m.now ≡ now → at ≤ m.at → HasPlace (channel (entries places)) → IsRightRequest jobs w.telegrams.turns w.journal.entries places m cemi
  pub begins : (m : Moment) → at ≤ m.at → m.what ≡ Puts cemi → BeginsSo jobs w.journal.entries places m
  pub fits : (m : Moment) (later : ℕ) → m.what ≡ Puts cemi → IsNew m now at later → Fits jobs w now later (m ∷ moments places)

-- where nothing is unconfirmed
abbrev pub TurnFits : List Job → List Placed → ℕ → ℕ → Work → Turn → Type 0
TurnFits jobs places now at w (turn.Did turned) = Fits jobs w now at (moments places)
TurnFits jobs places now at w (turn.Puts cemi) = in_flight (moments places) ≡ false → PutFollows jobs places now at w cemi

-- what is told stays true, and each end is told where no attempt of its job runs
pub record TellsTruly (jobs : List Job) (places : List Placed) (old new : Work) : Type 0 where
  pub truly : ToldTruly jobs old.telegrams.turns places old.journal.entries → ToldTruly jobs new.telegrams.turns places new.journal.entries
  pub rests : EndsAtRest jobs places old.journal.entries → EndsAtRest jobs places new.journal.entries

-- a worker's turn at this time, when there were so many events
abbrev pub TurnFollows : ℕ → ℕ → Work → Work → Turn → Type 0
TurnFollows now at old new did = (jobs : List Job) (places : List Placed) → Fits jobs old now at (moments places) → TurnFits jobs places now at new did × TellsTruly jobs places old new

-- ---- the next group telegram

-- what is given to be put for it, where it isn't put, may be put where there is a place
abbrev pub TelegramIsRight : Work → List ℕ → Type 0
TelegramIsRight w cemi =
    (jobs : List Job) (places : List Placed) (now at : ℕ) (m : Moment) → KeepsBooks at w → Fits jobs w now at (moments places) → w.telegrams.stage ≡ stage.Unput → m.what ≡ Puts cemi → at ≤ m.at → HasPlace (channel (entries places))
    → IsRightRequest jobs w.telegrams.turns w.journal.entries places m cemi

-- it is put where nothing is unconfirmed
abbrev pub TelegramFollows : Work → Work → Type 0
TelegramFollows old new =
    (jobs : List Job) (now at later : ℕ) (cemi : List ℕ) (m : Moment) (l : List Moment) → KeepsBooks at old → Fits jobs old now at l → in_flight l ≡ false → old.telegrams.stage ≡ stage.Unput → IsNextRequest old.telegrams cemi
    → m.what ≡ Puts cemi → IsNew m now at later → Fits jobs new now later (m ∷ l)

-- what is told of it is what became of it
pub data IsToldOf (k : ℕ) (s : Stage) (what : LogWhat) : Type 0 where
  WasSent : s ≡ stage.Confirmed → what ≡ log.Sent k → IsToldOf k s what
  WasLost : s ≡ stage.Lost → what ≡ log.Lost k → IsToldOf k s what

abbrev pub TellingFollows : ℕ → ℕ → LogWhat → Work → Work → Type 0
TellingFollows at k what old new =
    (jobs : List Job) (places : List Placed) (now : ℕ) → Fits jobs old now at (moments places) → IsToldOf k old.telegrams.stage what → Fits jobs new now at (moments places) × TellsTruly jobs places old new

-- ---- where there is a place, nothing is unconfirmed

abbrev pub PlaceIsFree : Type 0
PlaceIsFree = (places : List Placed) → RenewsRightly (entries places) → HasPlace (channel (entries places)) → in_flight (moments places) ≡ false
