-- That a client loses no time (this project's own), by record and log alone. A poll lasts at most 100 ms; a heartbeat that is due is sent before the
-- second poll after; no time passes while a job that has begun has something to send that can be sent; and the end of the open channel is asked
-- for once, where all is over, after which no new endpoint is taken. What of this is said of time needs an exact clock. And that it goes on only where
-- there is no cause to end.
use Rattle.std.specs.Prelude.{◌≡◌, ℕ, ◌+◌, ◌≤◌, Bool, true, false, ◌&&◌, ◌==◌, nat_lt, List, [], ◌∷◌}
use Rattle.line_model.specs.declared.group.GroupTurn.{GroupTurn}
use Rattle.line_model.specs.declared.log.LogEntry.{LogEntry}
use Rattle.line_model.specs.Record.{Item, Quiet, Entry, Placed, entries, is_renewal, is_poll}
use Rattle.line_model.specs.ClientView.{ClientChannel, Open, channel}
use Rattle.line_model.specs.Renews.{is_beat_due, to_poll_before}
use Rattle.line_model.specs.LinkStory.{Clock, Exact, Running, newest_time}
use Rattle.line_model.specs.Closing.{asks_to_end, is_open}
use Rattle.line_model.specs.Faults.{HasNoCause}
use Rattle.line_model.specs.Leaves.{StaysOpen, IsFinished}
use Rattle.line_model.specs.Log.{Job, log_before}
use Rattle.line_model.specs.Attempts.{begun}
use Rattle.line_model.specs.Asks.{HasPlace}
use Rattle.line_model.specs.Waiting.{IsHeldJob, attempts_of, NextIsSending, longest_poll}

-- ---- the channel, by the record alone

-- a heartbeat was due already at the end of the record before
abbrev pub is_beat_overdue : ClientChannel → List Entry → Bool
is_beat_overdue (Open c l) (x ∷ old) = is_beat_due c l x.now
is_beat_overdue _ _ = false

pub record KeepsPace (r : List Entry) (x : Entry) : Type 0 where
  pub short : x.now ≤ newest_time r + longest_poll
  pub beats : is_poll x.what ≡ true → is_beat_overdue (channel r) (to_poll_before r) ≡ false
  pub ends_once : asks_to_end x ≡ true → is_open (channel r) ≡ true → StaysOpen r
  pub seeks : is_renewal x.what ≡ true → StaysOpen r

abbrev pub KeepsPaces : List Entry → Type 0
KeepsPaces [] = Unit {0}
KeepsPaces (x ∷ r) = KeepsPace r x × KeepsPaces r

-- ---- the jobs

abbrev pub is_wait : Item → Bool
is_wait Quiet = true
is_wait _ = false

-- a wait in which time passes
abbrev pub takes_time : List Entry → Entry → Bool
takes_time r x = is_wait x.what && nat_lt (newest_time r) x.now

-- the newest entry is one
abbrev pub has_just_waited : List Entry → Bool
has_just_waited [] = false
has_just_waited (x ∷ r) = takes_time r x

-- what each held job sends next, where its attempt has begun, can't be sent: the place in flight isn't free
abbrev pub HasSent : List Job → List LogEntry → List Placed → ℕ → Type 0
HasSent jobs log places at =
    (k since : ℕ) (job : Job) → IsHeldJob jobs log k job since → 1 ≤ begun (attempts_of job since at places) → NextIsSending (attempts_of job since at places) (newest_time (entries places))
    → ¬ HasPlace (channel (entries places))

-- of several waits in turn the first one is meant: between two of them nothing changes but the time
pub record LosesNoTime (jobs : List Job) (turns : List GroupTurn) (log : List LogEntry) (older : List Placed) (p : Placed) : Type 0 where
  pub busy : takes_time (entries older) p.what ≡ true → has_just_waited (entries older) ≡ false → HasSent jobs log older p.at
  pub ends : asks_to_end p.what ≡ true → is_open (channel (entries older)) ≡ true → IsFinished jobs turns log
  pub pace : KeepsPace (entries older) p.what

abbrev pub LosesNoTimes : List Job → List GroupTurn → List LogEntry → List Placed → Type 0
LosesNoTimes jobs turns log [] = Unit {0}
LosesNoTimes jobs turns log (p ∷ older) = LosesNoTime jobs turns (log_before p.at log) older p × LosesNoTimes jobs turns log older

-- ---- over a link whose clock runs a poll lasts as long as it likes; the order in which the client acts is the same

pub record ActsInOrder (jobs : List Job) (turns : List GroupTurn) (log : List LogEntry) (older : List Placed) (p : Placed) : Type 0 where
  pub beats : is_poll p.what.what ≡ true → is_beat_overdue (channel (entries older)) (to_poll_before (entries older)) ≡ false
  pub ends : asks_to_end p.what ≡ true → is_open (channel (entries older)) ≡ true → IsFinished jobs turns log × StaysOpen (entries older)
  pub seeks : is_renewal p.what.what ≡ true → StaysOpen (entries older)

abbrev pub ActInOrder : List Job → List GroupTurn → List LogEntry → List Placed → Type 0
ActInOrder jobs turns log [] = Unit {0}
ActInOrder jobs turns log (p ∷ older) = ActsInOrder jobs turns (log_before p.at log) older p × ActInOrder jobs turns log older

-- ---- it goes on: a poll is made only where there is no cause to end, by the record before it and the log then

-- With an exact clock a poll is several entries where something fell into its wait. What comes just when the wait before it ends may belong to the same
-- poll, which began before that end brought a cause.
abbrev pub is_at_end_of_wait : Clock → List Entry → Entry → Bool
is_at_end_of_wait Exact r x = has_just_waited r && (x.now == newest_time r)
is_at_end_of_wait Running r x = false

abbrev pub GoesOnRightly : Clock → List Job → List LogEntry → List Entry → Entry → Type 0
GoesOnRightly clock jobs log r x = is_poll x.what ≡ true → is_at_end_of_wait clock r x ≡ false → HasNoCause jobs log r

abbrev pub GoOnRightly : Clock → List Job → List LogEntry → List Placed → Type 0
GoOnRightly clock jobs log [] = Unit {0}
GoOnRightly clock jobs log (p ∷ older) = GoesOnRightly clock jobs (log_before p.at log) (entries older) p.what × GoOnRightly clock jobs log older

-- ---- all of it

abbrev pub HastenBy : Clock → List Job → List GroupTurn → List LogEntry → List Placed → Type 0
HastenBy Exact jobs turns log places = LosesNoTimes jobs turns log places × GoOnRightly Exact jobs log places
HastenBy Running jobs turns log places = ActInOrder jobs turns log places × GoOnRightly Running jobs log places
