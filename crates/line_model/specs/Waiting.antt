-- When a worker's turn waits, when the group thread does, and how long a poll may last (this project's own), by record and log. What came for a
-- worker, a frame of its device, a confirmation of one of its frames or the loss of its channel, waits for it until one of its turns takes it in;
-- a turn that takes something in sends nothing.
use Rattle.std.specs.Prelude.{◌≡◌, ◌≢◌, ℕ, ◌+◌, ◌-◌, ◌<◌, ◌≤◌, ◌⊎◌, Bool, true, false, List, [], ◌∷◌, ◌++◌, Contains, Option, Some, None}
use Rattle.knx_model.specs.Connection.{last_time}
use Rattle.knx_model.specs.ClientConnection.{client_deadline}
use Rattle.line_model.specs.declared.group.GroupTurn.{GroupTurn}
use Rattle.line_model.specs.declared.log.LogEntry.{LogEntry}
use Rattle.line_model.specs.declared.log.LogWhat.{LogWhat}
use Rattle.line_model.specs.Gateway.{acknowledgement_wait}
use Rattle.line_model.specs.Record.{Placed, entries}
use Rattle.line_model.specs.ChannelLost.{answer_wait, confirmation_wait, heartbeat_pause, own, acknowledged, confirmed, beats}
use Rattle.line_model.specs.ClientView.{ClientChannel, Sought, Open, Loses, channel}
use Rattle.line_model.specs.Moments.{Moment, moments, between}
use Rattle.line_model.specs.Signs.{Every, IsntConfirmation}
use Rattle.line_model.specs.Log.{Job, Held, job_of, turn_of, state_of, ends_it, turn_place, JobUnfinished, IsNextTurn}
use Rattle.line_model.specs.Told.{IsTrue, PutsTurn, PutsNoGroup}
use Rattle.line_model.specs.Renews.{last_beat}
use Rattle.line_model.specs.Attempts.{Attempt, Attempts, Resting, Running, begun, attempts, most_attempts, MayAsk, MayDisconnect, Owes}
use Rattle.line_model.specs.Asks.{HasPlace}
use Rattle.line_model.specs.Closing.{Closing, Listening, Leaving, listening_wait}

-- ---- a job that a worker holds, and its attempts from its taking up to a place

pub record IsHeldJob (jobs : List Job) (log : List LogEntry) (k : ℕ) (job : Job) (since : ℕ) : Type 0 where
  pub there : job_of jobs k ≡ Some job
  pub worker : ℕ
  pub held : state_of k log ≡ Held worker since

abbrev pub attempts_of : Job → ℕ → ℕ → List Placed → Attempts
attempts_of job since at places = attempts job.device job.plan (between since at (moments places))

-- ---- what is to be sent next for it, whether or not it can be sent

-- a T_ACK or T_NAK that is owed, an operation, for the first time or again, or the T_Disconnect that ends the attempt
pub data HasToSend (a : Attempt) (now : ℕ) : Type 0 where
  ToAcknowledge : (tpdu : List ℕ) → Owes tpdu a → HasToSend a now
  ToAsk : (apdu tpdu : List ℕ) → MayAsk a now apdu tpdu → HasToSend a now
  ToDisconnect : MayDisconnect a now → HasToSend a now

-- where no attempt runs, the T_Connect of the next one; and nothing while a frame of the attempt has no confirmation
abbrev pub NextIsSending : Attempts → ℕ → Type 0
NextIsSending (Resting k) now = k < most_attempts
NextIsSending (Running k a) now = (a.flying ≡ None) × HasToSend a now

-- ---- a worker's turn

abbrev pub IsResting : Attempts → Type 0
IsResting (Resting k) = Unit {0}
IsResting (Running k a) = ⊥

-- the job's end is to be told: no attempt of it runs, and an entry that ends it would be true
pub record IsEnding (jobs : List Job) (turns : List GroupTurn) (log : List LogEntry) (places : List Placed) (at k : ℕ) (t : Attempts) : Type 0 where
  pub rests : IsResting t
  pub what : LogWhat
  pub ends : ends_it k what ≡ true
  pub is_true : IsTrue jobs turns places log at what

-- The turn of the worker that holds job k waits exactly where nothing that came waits for it, the job's end isn't to be told, and it has nothing to
-- send or can't: the place in flight is used, or there is no channel.
pub record TurnWaits (jobs : List Job) (turns : List GroupTurn) (log : List LogEntry) (places : List Placed) (at now k came : ℕ) : Type 0 where
  pub job : Job
  pub since : ℕ
  pub holds : IsHeldJob jobs log k job since
  pub all_taken_in : came ≡ 0
  pub goes_on : ¬ IsEnding jobs turns log places at k (attempts_of job since at places)
  pub sends_nothing : NextIsSending (attempts_of job since at places) now → ¬ HasPlace (channel (entries places))

-- ---- the group thread

-- the telegram was put, and neither its confirmation came since nor was its channel lost
pub record IsUnderWay (turn : GroupTurn) (l : List Moment) : Type 0 where
  pub flown : List Moment
  pub put : Moment
  pub before : List Moment
  pub split : l ≡ flown ++ put ∷ before
  pub put_is : PutsTurn turn put
  pub unlost : Every (λ m. m.what ≢ Loses) flown
  pub unconfirmed : Every IsntConfirmation flown

-- it isn't put, and can't be: the place in flight is used or there is no channel, or it stands after the jobs and one is unfinished
pub record IsHeldBack (jobs : List Job) (log : List LogEntry) (ch : ClientChannel) (turn : GroupTurn) (l : List Moment) : Type 0 where
  pub unput : Every PutsNoGroup l
  pub why : ¬ HasPlace ch ⊎ ((turn.after ≡ true) × JobUnfinished jobs log)

abbrev pub moments_of_turn : ℕ → List LogEntry → ℕ → List Placed → List Moment
moments_of_turn k log at places = between (turn_place (k - 1) log) at (moments places)

pub record GroupWaits (jobs : List Job) (turns : List GroupTurn) (log : List LogEntry) (places : List Placed) (at k : ℕ) : Type 0 where
  pub turn : GroupTurn
  pub there : turn_of turns k ≡ Some turn
  pub next : IsNextTurn turns log k
  pub why : IsUnderWay turn (moments_of_turn k log at places) ⊎ IsHeldBack jobs log (channel (entries places)) turn (moments_of_turn k log at places)

-- ---- deadlines: the times at which a wait will have passed

-- of a request that isn't acknowledged, the newest sending first
abbrev pub request_deadlines : List ℕ → List ℕ
request_deadlines [] = []
request_deadlines (t ∷ ts) = (t + acknowledgement_wait) ∷ []

abbrev pub confirmation_deadlines : Option ℕ → Bool → List ℕ
confirmation_deadlines (Some since) false = (since + confirmation_wait) ∷ []
confirmation_deadlines _ _ = []

-- of three heartbeats in turn without answer
abbrev pub death_deadlines : List ℕ → List ℕ
death_deadlines (third ∷ second ∷ first ∷ older) = (third + answer_wait) ∷ []
death_deadlines _ = []

-- of the channel, or of the connect request that seeks one
abbrev pub channel_deadlines : ClientChannel → List ℕ
channel_deadlines (Sought since) = (since + answer_wait) ∷ []
channel_deadlines (Open c l) =
    request_deadlines (own c l).sent ++ (confirmation_deadlines (acknowledged c l) (confirmed c l) ++ (death_deadlines (beats c l) ++ (last_beat c l + heartbeat_pause) ∷ []))
channel_deadlines _ = []

-- of the running attempt of a job
abbrev pub attempt_deadline : Attempts → Option ℕ
attempt_deadline (Resting k) = None
attempt_deadline (Running k a) = client_deadline a.end

-- of the closing
abbrev pub closing_deadline : Option Closing → Option ℕ
closing_deadline None = None
closing_deadline (Some (Listening since n)) = Some (since + listening_wait)
closing_deadline (Some (Leaving since n)) = Some (since + answer_wait)

pub data IsDeadline (jobs : List Job) (log : List LogEntry) (places : List Placed) (at : ℕ) (closing : Option Closing) (deadline : ℕ) : Type 0 where
  OfChannel : Contains (channel_deadlines (channel (entries places))) deadline → IsDeadline jobs log places at closing deadline
  OfJob : (k since : ℕ) (job : Job) → IsHeldJob jobs log k job since → attempt_deadline (attempts_of job since at places) ≡ Some deadline → IsDeadline jobs log places at closing deadline
  OfClosing : closing_deadline closing ≡ Some deadline → IsDeadline jobs log places at closing deadline

-- ---- a poll

-- how long it lasts at most, in milliseconds
abbrev pub longest_poll : ℕ
longest_poll = 100

-- what ends it: it has lasted as long as it may, the nearest deadline is reached, or there is no later time
pub data PollEnds (longest : ℕ) (IsDue : ℕ → Type 0) (now wait : ℕ) : Type 0 where
  AsLongAsItMay : wait ≡ longest → PollEnds longest IsDue now wait
  AtDeadline : (deadline : ℕ) → IsDue deadline → now < deadline → now + wait ≡ deadline → PollEnds longest IsDue now wait
  AtLastTime : now + wait ≡ last_time → PollEnds longest IsDue now wait

-- at most so long, until the nearest deadline that isn't reached yet; one that is reached and can't be acted on counts as none
pub record LastsUntil (longest : ℕ) (IsDue : ℕ → Type 0) (now wait : ℕ) : Type 0 where
  pub at_most : wait ≤ longest
  pub in_range : now + wait ≤ last_time
  pub no_longer : (deadline : ℕ) → IsDue deadline → now < deadline → now + wait ≤ deadline
  pub as_long : PollEnds longest IsDue now wait

-- for job k, of which so much came and waits: something came that waits for its worker, or an attempt of it has sent its T_Connect and the
-- worker's turn wouldn't wait
pub record HasWork (jobs : List Job) (turns : List GroupTurn) (log : List LogEntry) (places : List Placed) (at now k came : ℕ) : Type 0 where
  pub job : Job
  pub since : ℕ
  pub holds : IsHeldJob jobs log k job since
  pub why : (came ≢ 0) ⊎ ((1 ≤ begun (attempts_of job since at places)) × ¬ TurnWaits jobs turns log places at now k came)

-- At this time, where `came k` of what came for job k waits for its worker: where a worker has work the poll only looks; else it lasts until the
-- nearest deadline, and not past the last time that there is.
pub record PollsSo (jobs : List Job) (turns : List GroupTurn) (log : List LogEntry) (places : List Placed) (at now : ℕ) (closing : Option Closing) (came : ℕ → ℕ) (wait : ℕ) : Type 0 where
  pub looks : (k : ℕ) → HasWork jobs turns log places at now k (came k) → wait ≡ 0
  pub waits : ((k : ℕ) → ¬ HasWork jobs turns log places at now k (came k)) → LastsUntil longest_poll (IsDeadline jobs log places at closing) now wait
