-- Which requests the client puts, by record and log alone: one at a time, and each is the least group telegram without an entry, put once, or
-- a frame that the attempt of a job may put, of a job that is taken and not ended. With the discipline of the channel this is all that the
-- promises of the line need of the client.
use Rattle.std.specs.Prelude.{◌≡◌, ℕ, ◌-◌, ◌⊎◌, true, false, List, [], ◌∷◌, Some}
use Rattle.knx_model.specs.declared.frames.cemi.Ldata.{Ldata}
use Rattle.knx_model.specs.Connection.{frame_in}
use Rattle.line_model.specs.declared.group.GroupTurn.{GroupTurn}
use Rattle.line_model.specs.declared.log.LogEntry.{LogEntry}
use Rattle.line_model.specs.Reading.{ldata_in, is_req}
use Rattle.line_model.specs.Record.{Entry, Placed, entries}
use Rattle.line_model.specs.ChannelLost.{own, confirmed}
use Rattle.line_model.specs.ClientView.{ClientChannel, Open, Deed, Puts, channel, deed}
use Rattle.line_model.specs.Moments.{Moment, moments, between}
use Rattle.line_model.specs.Signs.{Every}
use Rattle.line_model.specs.Log.{Job, Held, job_of, turn_of, state_of, turn_place, log_before, AllOver, JobUnfinished, TurnUnfinished, IsNextTurn}
use Rattle.line_model.specs.Told.{PutsTurn, PutsNoGroup}
use Rattle.line_model.specs.Attempts.{attempts, MayPut}
use Rattle.line_model.specs.Renews.{AcknowledgesRightly, PollsPromptly}

-- ---- the place in flight is free: every request in the open channel is acknowledged and confirmed

pub record IsQuiet (c : ℕ) (l : List Entry) : Type 0 where
  pub acknowledged : (own c l).sent ≡ []
  pub has_confirmation : confirmed c l ≡ true

abbrev pub HasPlace : ClientChannel → Type 0
HasPlace (Open c l) = IsQuiet c l
HasPlace _ = ⊥

-- ---- a group telegram: the least without an entry, put once since the entry before it, and one for after the jobs only then

pub record IsTurn (jobs : List Job) (turns : List GroupTurn) (log : List LogEntry) (older : List Placed) (m : Moment) : Type 0 where
  pub k : ℕ
  pub turn : GroupTurn
  pub there : turn_of turns k ≡ Some turn
  pub next : IsNextTurn turns log k
  pub in_time : turn.after ≡ true → AllOver jobs log
  pub is_its : PutsTurn turn m
  pub once : Every PutsNoGroup (between (turn_place (k - 1) log) m.at (moments older))

-- ---- a frame to the device of a job

pub record IsOfJob (jobs : List Job) (log : List LogEntry) (older : List Placed) (m : Moment) (frame : Ldata) : Type 0 where
  pub k : ℕ
  pub job : Job
  pub there : job_of jobs k ≡ Some job
  pub worker : ℕ
  pub since : ℕ
  pub held : state_of k log ≡ Held worker since
  pub alone : frame.group ≡ false
  pub to : frame.destination ≡ job.device.raw
  pub may : MayPut (attempts job.device job.plan (between since m.at (moments older))) m.now frame.tpdu (frame_in frame.tpdu)

-- ---- each request that is put

pub record IsRightRequest (jobs : List Job) (turns : List GroupTurn) (log : List LogEntry) (older : List Placed) (m : Moment) (octets : List ℕ) : Type 0 where
  pub frame : Ldata
  pub reads : ldata_in octets ≡ Some frame
  pub request : is_req frame.code ≡ true
  pub place : HasPlace (channel (entries older))
  pub why : IsTurn jobs turns log older m ⊎ IsOfJob jobs log older m frame

abbrev pub IsRightDeed : List Job → List GroupTurn → List LogEntry → List Placed → Moment → Deed → Type 0
IsRightDeed jobs turns log older m (Puts octets) = IsRightRequest jobs turns log older m octets
IsRightDeed jobs turns log older m _ = Unit {0}

-- ---- all of it

abbrev pub moment_of : List Placed → Placed → Moment
moment_of older p = record { what = deed (channel (entries older)) p.what; now = p.what.now; at = p.at }

pub record IsRightEntry (jobs : List Job) (turns : List GroupTurn) (log : List LogEntry) (older : List Placed) (p : Placed) : Type 0 where
  pub asks : IsRightDeed jobs turns log older (moment_of older p) (moment_of older p).what
  pub prompt : JobUnfinished jobs log ⊎ TurnUnfinished turns log → PollsPromptly (entries older) p.what

abbrev pub EachRight : List Job → List GroupTurn → List LogEntry → List Placed → Type 0
EachRight jobs turns log [] = Unit {0}
EachRight jobs turns log (p ∷ older) = IsRightEntry jobs turns (log_before p.at log) older p × EachRight jobs turns log older

pub record AsksRightly (jobs : List Job) (turns : List GroupTurn) (log : List LogEntry) (places : List Placed) : Type 0 where
  pub each : EachRight jobs turns log places
  pub acknowledges : AcknowledgesRightly (entries places)
