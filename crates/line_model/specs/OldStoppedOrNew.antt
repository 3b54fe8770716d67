-- What a run promises of each device, whatever is lost, repeated or cut. At every moment it keeps its starting content, or is stopped, or runs
-- what is meant for it; it is untouched before its first load job is taken, and from `done` to its next load job. And `done` is told only where
-- what is meant runs. What is meant is the image of a load job or, where the project is known, what the project says.
use Rattle.std.specs.Prelude.{◌≡◌, ℕ, ◌≤◌, ◌⊎◌, ◌++◌, Bool, true, false, ◌&&◌, ◌==◌, nat_le, nat_lt, List, [], ◌∷◌, length, if◌then◌else◌, Option, Some, None}
use Rattle.std.specs.List.{list_any}
use Rattle.knx_model.specs.Device.{NonVolatile, runs}
use Rattle.knx_model.specs.DeviceState.{DeviceState}
use Rattle.knx_model.specs.Meaning.{Installation}
use Rattle.knx_model.specs.Promises.{RunsProject}
use Rattle.line_model.specs.declared.log.LogEntry.{LogEntry}
use Rattle.line_model.specs.declared.log.LogWhat.{LogWhat}
use Rattle.line_model.specs.declared.log.LogWhat.TheVariants.{Took, Done}
use Rattle.line_model.specs.World.{World, Event, replay}
use Rattle.line_model.specs.Legal.{OfDevice, AtEveryMoment}
use Rattle.line_model.specs.Log.{Job, job_of}

-- ---- moments

-- the first so many events
abbrev pub first_events : ℕ → List Event → List Event
first_events k [] = []
first_events k (e ∷ events) = if nat_le (length (e ∷ events)) k then e ∷ events else first_events k events

abbrev pub world_at : World → List Event → ℕ → World
world_at start events k = replay start (first_events k events)

-- P of what a device kept and keeps, where it is on the bus
abbrev pub Both : (NonVolatile → NonVolatile → Type 0) → Option DeviceState → Option DeviceState → Type 0
Both P (Some old) (Some new) = P old.kept new.kept
Both P None None = Unit {0}
Both P _ _ = ⊥

-- ---- what is meant for a device, by its address

abbrev pub Meant : Type 1
Meant = ℕ → NonVolatile → Type 0

-- at the hub's boundary: the image of a load job of the device
pub record RunsJob (jobs : List Job) (device : ℕ) (nv : NonVolatile) : Type 0 where
  pub number : ℕ
  pub job : Job
  pub there : job_of jobs number ≡ Some job
  pub load : job.loads ≡ true
  pub of_device : job.device.raw ≡ device
  pub runs_it : runs nv ≡ Some job.image

-- where the project is known
abbrev pub RunsMeaning : Installation → ℕ → NonVolatile → Type 0
RunsMeaning project device nv = RunsProject project (record { raw = device }) nv

-- ---- old, stopped or new

abbrev pub OldStoppedOr : (NonVolatile → Type 0) → NonVolatile → NonVolatile → Type 0
OldStoppedOr IsNew start nv = (nv ≡ start) ⊎ ((runs nv ≡ None) ⊎ IsNew nv)

abbrev pub IsCase : Meant → World → List Event → Type 0
IsCase IsNew start events = (device : ℕ) → Both (OldStoppedOr (IsNew device)) (start.devices device) ((replay start events).devices device)

-- ---- untouched before its first load job, and from done on

abbrev pub loads_device : ℕ → Option Job → Bool
loads_device device None = false
loads_device device (Some job) = job.loads && (job.device.raw == device)

abbrev pub takes_load : List Job → ℕ → LogWhat → Bool
takes_load jobs device (Took k) = loads_device device (job_of jobs k)
takes_load jobs device _ = false

-- a load job of the device was taken before this moment
abbrev pub load_taken : List Job → ℕ → ℕ → List LogEntry → Bool
load_taken jobs device k log = list_any (λ (e : LogEntry). nat_lt e.at k && takes_load jobs device e.what) log

abbrev pub IsUntouched : List Job → World → List Event → List LogEntry → Type 0
IsUntouched jobs start events log =
    (device k : ℕ) → load_taken jobs device k log ≡ false → Both (λ old new. new ≡ old) (start.devices device) ((world_at start events k).devices device)

abbrev pub IsDoneOf : List Job → ℕ → LogWhat → Type 0
IsDoneOf jobs device (Done k) = (job : Job) × (job_of jobs k ≡ Some job) × (job.device.raw ≡ device)
IsDoneOf jobs device _ = ⊥

abbrev pub StaysDone : List Job → World → List Event → List LogEntry → Type 0
StaysDone jobs start events log =
    (device k : ℕ) (newer older : List LogEntry) (e : LogEntry) → log ≡ newer ++ e ∷ older → IsDoneOf jobs device e.what → e.at ≤ k → k ≤ length events
    → load_taken jobs device k newer ≡ false → Both (λ done now. now ≡ done) ((world_at start events e.at).devices device) ((world_at start events k).devices device)

pub record OldStoppedOrNew (IsNew : Meant) (jobs : List Job) (start : World) (events : List Event) (log : List LogEntry) : Type 0 where
  pub case : AtEveryMoment (IsCase IsNew start) events
  pub untouched : IsUntouched jobs start events log
  pub stays : StaysDone jobs start events log

-- ---- done is told only where what is meant runs

-- the device of a job that was told done, at the moment of that entry
abbrev pub DoneSo : (Job → NonVolatile → Type 0) → List Job → World → List Event → LogEntry → LogWhat → Type 0
DoneSo IsMeant jobs start events e (Done k) = (job : Job) → job_of jobs k ≡ Some job → OfDevice (λ d. IsMeant job d.kept) ((world_at start events e.at).devices job.device.raw)
DoneSo IsMeant jobs start events e _ = Unit {0}

abbrev pub EachDoneSo : (Job → NonVolatile → Type 0) → List Job → World → List Event → List LogEntry → Type 0
EachDoneSo IsMeant jobs start events [] = Unit {0}
EachDoneSo IsMeant jobs start events (e ∷ log) = DoneSo IsMeant jobs start events e e.what × EachDoneSo IsMeant jobs start events log

-- at the hub's boundary the image of that job, and where the project is known what it says
abbrev pub RunsWhereDone : List Job → World → List Event → List LogEntry → Type 0
RunsWhereDone jobs start events log = EachDoneSo (λ job nv. runs nv ≡ Some job.image) jobs start events log

abbrev pub MeansWhereDone : Installation → List Job → World → List Event → List LogEntry → Type 0
MeansWhereDone project jobs start events log = EachDoneSo (λ job nv. RunsProject project job.device nv) jobs start events log
