-- The log of a run: which worker took which job, how each job ended, and which group telegrams were sent (this project's own). A job is seen as
-- its device, its image, its plan and whether it loads; jobs and group telegrams are numbered from 1, and the group thread is worker 0. An
-- entry's place is the number of events, or of the record's entries, when it was made. The newest entry first.
use Rattle.std.specs.Prelude.{◌≡◌, ◌≢◌, ℕ, ◌-◌, ◌<◌, ◌≤◌, Bool, true, false, ◌==◌, nat_lt, List, [], ◌∷◌, if◌then◌else◌, Option, Some, None, slice_get}
use Rattle.std.specs.List.{filter, list_any}
use Rattle.knx_model.specs.declared.address.IndAddr.{IndAddr}
use Rattle.knx_model.specs.declared.config.Image.{Image}
use Rattle.knx_model.specs.Plans.{Plan}
use Rattle.line_model.specs.declared.group.GroupTurn.{GroupTurn}
use Rattle.line_model.specs.declared.log.LogEntry.{LogEntry}
use Rattle.line_model.specs.declared.log.LogWhat.{LogWhat}
use Rattle.line_model.specs.declared.log.LogWhat.TheVariants.{Took, Done, Failed, Refused, Sent, Lost}

pub record Job : Type 0 where
  pub device : IndAddr
  pub image : Image
  pub plan : Plan
  pub loads : Bool

-- the job and the telegram of a number
abbrev pub numbered_from_one : {X : Type 0} → List X → ℕ → Option X
numbered_from_one xs k = if k == 0 then None else slice_get xs (k - 1)

abbrev pub job_of : List Job → ℕ → Option Job
job_of jobs k = numbered_from_one jobs k

abbrev pub turn_of : List GroupTurn → ℕ → Option GroupTurn
turn_of turns k = numbered_from_one turns k

-- the entries that were made before an event or an entry of the record
abbrev pub log_before : ℕ → List LogEntry → List LogEntry
log_before at log = filter (λ (e : LogEntry). nat_lt e.at at) log

-- ---- which entries are of which job, and of which telegram

abbrev pub takes_it : ℕ → LogWhat → Bool
takes_it job (Took k) = k == job
takes_it job _ = false

abbrev pub ends_it : ℕ → LogWhat → Bool
ends_it job (Done k) = k == job
ends_it job (Failed k signs) = k == job
ends_it job (Refused k op got expected) = k == job
ends_it job _ = false

abbrev pub is_turn : ℕ → LogWhat → Bool
is_turn turn (Sent k) = k == turn
is_turn turn (Lost k) = k == turn
is_turn turn _ = false

abbrev pub has_entry : ℕ → List LogEntry → Bool
has_entry turn log = list_any (λ (e : LogEntry). is_turn turn e.what) log

-- the place of a telegram's entry, and 0 before the first
abbrev pub turn_place : ℕ → List LogEntry → ℕ
turn_place turn [] = 0
turn_place turn (e ∷ log) = if is_turn turn e.what then e.at else turn_place turn log

-- ---- one job, by the entries up to a moment

pub data JobState : Type 0 where
  Untaken : JobState
  Held : ℕ → ℕ → JobState  -- by this worker, from this place on
  Over : JobState

abbrev pub state_after : ℕ → LogEntry → JobState → JobState
state_after job e s = if takes_it job e.what then Held e.worker e.at else (if ends_it job e.what then Over else s)

abbrev pub state_of : ℕ → List LogEntry → JobState
state_of job [] = Untaken
state_of job (e ∷ log) = state_after job e (state_of job log)

-- ---- what is finished

abbrev pub AllOver : List Job → List LogEntry → Type 0
AllOver jobs log = (k : ℕ) → job_of jobs k ≢ None → state_of k log ≡ Over

abbrev pub JobUnfinished : List Job → List LogEntry → Type 0
JobUnfinished jobs log = (k : ℕ) × (job_of jobs k ≢ None) × (state_of k log ≢ Over)

abbrev pub TurnUnfinished : List GroupTurn → List LogEntry → Type 0
TurnUnfinished turns log = (k : ℕ) × (turn_of turns k ≢ None) × (has_entry k log ≡ false)

-- the telegram is the least without an entry
pub record IsNextTurn (turns : List GroupTurn) (log : List LogEntry) (k : ℕ) : Type 0 where
  pub there : turn_of turns k ≢ None
  pub untold : has_entry k log ≡ false
  pub least : (j : ℕ) → j < k → turn_of turns j ≢ None → has_entry j log ≡ true

-- ---- the form of a log

-- a worker holds no job
abbrev pub HoldsNone : ℕ → List LogEntry → Type 0
HoldsNone worker log = (job since : ℕ) → state_of job log ≢ Held worker since

-- a job is taken once, by a worker that holds none, and ends once, by the worker that holds it; a telegram is told once, after those before it, by the
-- group thread
abbrev pub EndsHeld : ℕ → JobState → Type 0
EndsHeld worker Untaken = ⊥
EndsHeld worker (Held by since) = by ≡ worker
EndsHeld worker Over = ⊥

abbrev pub MayFollow : List Job → List GroupTurn → ℕ → List LogEntry → LogWhat → Type 0
MayFollow jobs turns worker log (Took job) = (job_of jobs job ≢ None) × (state_of job log ≡ Untaken) × (1 ≤ worker) × HoldsNone worker log
MayFollow jobs turns worker log (Done job) = EndsHeld worker (state_of job log)
MayFollow jobs turns worker log (Failed job signs) = EndsHeld worker (state_of job log)
MayFollow jobs turns worker log (Refused job op got expected) = EndsHeld worker (state_of job log)
MayFollow jobs turns worker log (Sent turn) = IsNextTurn turns log turn × (worker ≡ 0)
MayFollow jobs turns worker log (Lost turn) = IsNextTurn turns log turn × (worker ≡ 0)

abbrev pub latest : List LogEntry → ℕ
latest [] = 0
latest (e ∷ log) = e.at

-- places never fall, and are at most the number of events
pub record IsEntry (jobs : List Job) (turns : List GroupTurn) (count : ℕ) (e : LogEntry) (log : List LogEntry) : Type 0 where
  pub so_far : e.at ≤ count
  pub later : latest log ≤ e.at
  pub follows : MayFollow jobs turns e.worker log e.what

abbrev pub IsLog : List Job → List GroupTurn → ℕ → List LogEntry → Type 0
IsLog jobs turns count [] = Unit {0}
IsLog jobs turns count (e ∷ log) = IsEntry jobs turns count e log × IsLog jobs turns count log

-- ---- one downloader per device: between the beginning and the end of a job no other job of its device is taken, and an earlier job of a
-- device is taken first

abbrev pub SameDevice : Option Job → Option Job → Type 0
SameDevice (Some one) (Some other) = one.device.raw ≡ other.device.raw
SameDevice _ _ = ⊥

pub record IsFree (jobs : List Job) (log : List LogEntry) (job : ℕ) : Type 0 where
  pub alone : (other worker since : ℕ) → SameDevice (job_of jobs job) (job_of jobs other) → state_of other log ≢ Held worker since
  pub in_order : (other : ℕ) → other < job → SameDevice (job_of jobs job) (job_of jobs other) → state_of other log ≢ Untaken

abbrev pub TakesFree : List Job → List LogEntry → LogWhat → Type 0
TakesFree jobs log (Took job) = IsFree jobs log job
TakesFree jobs log _ = Unit {0}

abbrev pub OneDownloaderPerDevice : List Job → List LogEntry → Type 0
OneDownloaderPerDevice jobs [] = Unit {0}
OneDownloaderPerDevice jobs (e ∷ log) = TakesFree jobs log e.what × OneDownloaderPerDevice jobs log

-- ---- in order: a job that is taken is the first that is free

pub record IsFirstFree (jobs : List Job) (log : List LogEntry) (job : ℕ) : Type 0 where
  pub free : IsFree jobs log job
  pub first : (other : ℕ) → other < job → job_of jobs other ≢ None → state_of other log ≡ Untaken → ¬ IsFree jobs log other

abbrev pub TakesFirst : List Job → List LogEntry → LogWhat → Type 0
TakesFirst jobs log (Took job) = IsFirstFree jobs log job
TakesFirst jobs log _ = Unit {0}

abbrev pub TakenInOrder : List Job → List LogEntry → Type 0
TakenInOrder jobs [] = Unit {0}
TakenInOrder jobs (e ∷ log) = TakesFirst jobs log e.what × TakenInOrder jobs log
