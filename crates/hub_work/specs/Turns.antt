-- What a worker's turn comes to, and which entries of the log end a job.
use Rattle.std.specs.Prelude.{◌≡◌, ◌≢◌, ℕ, Bool, true, List, ◌∷◌, Option, Some, None}
use Rattle.knx_model.specs.declared.log.Sign.{Sign}
use Rattle.line_model.specs.declared.log.LogEntry.{LogEntry}
use Rattle.line_model.specs.declared.log.LogWhat.{LogWhat}
use Rattle.line_model.specs.declared.log.LogWhat.TheVariants.{Took, Done, Failed, Refused, Sent, Lost}
use Rattle.line_model.specs.ClientEnd.{IsCemi}
use Rattle.knx_model.specs.declared.address.IndAddr.{IndAddr}
use Rattle.line_model.specs.Log.{Job, Untaken, HoldsNone, job_of, state_of}
use Rattle.device_reservation.specs.Reservation.{Reservation, IsFirstFree, AllWait, AllTaken}
use Rattle.device_reservation.specs.Reserved.{reservation_after}
use Rattle.hub_work.specs.Books.{AreJobsOf}
use Rattle.hub_work.specs.declared.answers.Turned.{Turned}
use Rattle.hub_work.specs.declared.answers.Turned.TheVariants as answer
use Rattle.hub_work.specs.declared.crew.Held.{Held}
use Rattle.hub_work.specs.declared.work.turn.Turn.{Turn}
use Rattle.hub_work.specs.declared.work.turn.Turn.TheVariants.{Did, Puts}

-- what it puts is a cEMI frame that a request can carry
abbrev pub PutsCemi : Turn → Type 0
PutsCemi (Did turned) = Unit {0}
PutsCemi (Puts cemi) = IsCemi cemi

-- and it puts only where this is so
abbrev pub PutsWhere : Bool → Turn → Type 0
PutsWhere b (Did turned) = Unit {0}
PutsWhere b (Puts cemi) = b ≡ true

-- the entry ends this job
abbrev pub EndsJob : ℕ → LogWhat → Type 0
EndsJob job (Took k) = ⊥
EndsJob job (Done k) = k ≡ job
EndsJob job (Failed k signs) = k ≡ job
EndsJob job (Refused k op got expected) = k ≡ job
EndsJob job (Sent turn) = ⊥
EndsJob job (Lost turn) = ⊥

-- the entry tells of this group telegram
abbrev pub TellsTurn : ℕ → LogWhat → Type 0
TellsTurn turn (Took k) = ⊥
TellsTurn turn (Done k) = ⊥
TellsTurn turn (Failed k signs) = ⊥
TellsTurn turn (Refused k op got expected) = ⊥
TellsTurn turn (Sent k) = k ≡ turn
TellsTurn turn (Lost k) = k ≡ turn

-- ---- what an answer says of the log, the newest entry first

abbrev pub Adds : ℕ → ℕ → LogWhat → List LogEntry → List LogEntry → Type 0
Adds at worker what old new = new ≡ record { at = at; worker = worker; what = what } ∷ old

-- a turn of this worker, when there were so many events: it answers so exactly where it made this entry
abbrev pub TurnTells : ℕ → ℕ → Turned → List LogEntry → List LogEntry → Type 0
TurnTells at worker (answer.Took job) old new = Adds at worker (Took job) old new
TurnTells at worker answer.Moved old new = new ≡ old
TurnTells at worker answer.Wait old new = new ≡ old
TurnTells at worker (answer.Done job) old new = Adds at worker (Done job) old new
TurnTells at worker (answer.Failed job) old new = (signs : List Sign) × Adds at worker (Failed job signs) old new
TurnTells at worker (answer.Refused job) old new = (op : ℕ) × (got : List ℕ) × (expected : List ℕ) × Adds at worker (Refused job op got expected) old new
TurnTells at worker answer.Later old new = new ≡ old
TurnTells at worker answer.NoMore old new = new ≡ old

abbrev pub TurnTold : ℕ → ℕ → Turn → List LogEntry → List LogEntry → Type 0
TurnTold at worker (Did turned) old new = TurnTells at worker turned old new
TurnTold at worker (Puts cemi) old new = new ≡ old

-- ---- which answers go with what a worker holds

-- without a job it takes one, or is told that it gets none
abbrev pub SuitsFree : Turned → Type 0
SuitsFree (answer.Took job) = Unit {0}
SuitsFree answer.Moved = ⊥
SuitsFree answer.Wait = ⊥
SuitsFree (answer.Done job) = ⊥
SuitsFree (answer.Failed job) = ⊥
SuitsFree (answer.Refused job) = ⊥
SuitsFree answer.Later = Unit {0}
SuitsFree answer.NoMore = Unit {0}

-- with this job it goes on with it, waits, or is told of its end, and of no other job's
abbrev pub SuitsHolder : ℕ → Turned → Type 0
SuitsHolder job (answer.Took k) = ⊥
SuitsHolder job answer.Moved = Unit {0}
SuitsHolder job answer.Wait = Unit {0}
SuitsHolder job (answer.Done k) = k ≡ job
SuitsHolder job (answer.Failed k) = k ≡ job
SuitsHolder job (answer.Refused k) = k ≡ job
SuitsHolder job answer.Later = ⊥
SuitsHolder job answer.NoMore = ⊥

abbrev pub Suits : Option Held → Turned → Type 0
Suits None turned = SuitsFree turned
Suits (Some held) turned = SuitsHolder held.job turned

-- and only one with a job puts something
abbrev pub TurnSuits : Turn → Option Held → Type 0
TurnSuits (Did turned) held = Suits held turned
TurnSuits (Puts cemi) held = held ≢ None

-- ---- which job a worker gets, and why it gets none

abbrev pub WhyFree : Reservation → Turned → Type 0
WhyFree r (answer.Took job) = IsFirstFree r job
WhyFree r answer.Moved = Unit {0}
WhyFree r answer.Wait = Unit {0}
WhyFree r (answer.Done job) = Unit {0}
WhyFree r (answer.Failed job) = Unit {0}
WhyFree r (answer.Refused job) = Unit {0}
WhyFree r answer.Later = AllWait r
WhyFree r answer.NoMore = AllTaken r

abbrev pub WaitsFree : Reservation → Turn → Type 0
WaitsFree r (Did turned) = WhyFree r turned
WaitsFree r (Puts cemi) = Unit {0}

abbrev pub IsEnd : Turned → Type 0
IsEnd (answer.Took job) = ⊥
IsEnd answer.Moved = ⊥
IsEnd answer.Wait = ⊥
IsEnd (answer.Done job) = Unit {0}
IsEnd (answer.Failed job) = Unit {0}
IsEnd (answer.Refused job) = Unit {0}
IsEnd answer.Later = ⊥
IsEnd answer.NoMore = ⊥

-- by the log, of any jobs of these devices
abbrev pub WhyFreeByLog : List IndAddr → List LogEntry → Turned → Type 0
WhyFreeByLog devices log turned = (jobs : List Job) → AreJobsOf devices jobs → WhyFree (reservation_after jobs log) turned

-- ---- a worker has finished: all jobs are taken, and those that it took have their ends

pub record HasFinished (worker : ℕ) (jobs : List Job) (log : List LogEntry) : Type 0 where
  pub all_taken : (k : ℕ) → job_of jobs k ≢ None → state_of k log ≢ Untaken
  pub holds_none : HoldsNone worker log
