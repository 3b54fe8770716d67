-- Who watches, and what a site keeps of him: since the run began he was told each entry of the log, and true reports of its jobs, each of them no sooner than a second
-- after the last one of the same job; where the link tells its record, it shows what was reported.
use Rattle.std.specs.Prelude.{◌≡◌, ℕ, ◌+◌, ◌-◌, ◌≤◌, Bool, true, false, nat_le, List, [], ◌∷◌, Option, Some, None, slice_set}
use Rattle.knx_model.specs.declared.address.IndAddr.{IndAddr}
use Rattle.line_model.specs.declared.log.LogEntry.{LogEntry}
use Rattle.line_model.specs.declared.outside.watcher.JobProgress.{JobProgress}
use Rattle.line_model.specs.LinkStory.{Story}
use Rattle.line_model.specs.Log.{Job, numbered_from_one}
use Rattle.line_model.specs.Watched.{EachShown, Logged, Notice, Reported, SinceThen, Tells, Watch, Watches, last_told, second}
use Rattle.tunnel_link.specs.Adds.{place_of}
use Rattle.tunnel_link.specs.Rights.{WhereTold}
use Rattle.hub_work.specs.Downloaders.{AreJobsWith, Task}
use Rattle.hub_core.specs.Seen.{Seen, tasks_seen}
use Rattle.shared_hub.specs.declared.site.Step.{Step}
use Rattle.shared_hub.specs.declared.site.Step.TheVariants.{Took, Told}

-- what he tells of himself, and of each job when he was told of it last
pub record WatcherSeen : Type 0 where
  pub watch : Watch
  pub told : List (Option ℕ)

-- ---- he may be told of a job that is there a second after the last time, or where he wasn't told of it yet

abbrev pub is_time : ℕ → Option (Option ℕ) → Bool
is_time now None = false
is_time now (Some None) = true
is_time now (Some (Some before)) = nat_le (before + second) now

abbrev pub TellsOrNot : Bool → JobProgress → WatcherSeen → WatcherSeen → Type 0
TellsOrNot true p old new = Tells (Reported p) old.watch new.watch × (new.told ≡ slice_set old.told (p.job - 1) (Some p.now))
TellsOrNot false p old new = new ≡ old

abbrev pub TellsInTime : JobProgress → WatcherSeen → WatcherSeen → Type 0
TellsInTime p old new = TellsOrNot (is_time p.now (numbered_from_one old.told p.job)) p old new

-- ---- what is kept

abbrev pub KeepsTimes : List (Option ℕ) → List Notice → Type 0
KeepsTimes told notices = (job : ℕ) (before : Option ℕ) → numbered_from_one told job ≡ Some before → before ≡ last_told job notices

-- the places of the reports have been
abbrev pub EachUpto : ℕ → List Notice → Type 0
EachUpto place [] = Unit {0}
EachUpto place (Logged e ∷ notices) = EachUpto place notices
EachUpto place (Reported p ∷ notices) = (p.at ≤ place) × EachUpto place notices

-- of jobs with these devices and plans, over a link that tells this
pub record IsWatchedSo (tasks : List Task) (story : Story) (devices : List IndAddr) (log : List LogEntry) (told : List (Option ℕ)) (notices : List Notice) : Type 0 where
  pub watches : Watches devices log notices
  pub times : KeepsTimes told notices
  pub shown : (jobs : List Job) → AreJobsWith tasks jobs → WhereTold (λ places. EachShown jobs places notices) story
  pub upto : WhereTold (λ places. EachUpto (place_of story) notices) story

abbrev pub IsWatched : List Task → Story → List IndAddr → List LogEntry → Watch → WatcherSeen → Type 0
IsWatched tasks story devices log before now = SinceThen (IsWatchedSo tasks story devices log now.told) before now.watch

-- the same of a hub, before it added to the log or after that
abbrev pub IsWatchedAt : {L : Type 0} → (L → Story) → Seen L → List LogEntry → Watch → WatcherSeen → Type 0
IsWatchedAt story_of hub log before now = IsWatched (tasks_seen hub.jobs) (story_of hub.link) hub.devices log before now

-- ---- what a turn adds to the log, by what it came to

abbrev pub AddsOne : List LogEntry → List LogEntry → Type 0
AddsOne old new = (e : LogEntry) × (new ≡ e ∷ old)

abbrev pub LogsBy : Step → List LogEntry → List LogEntry → Type 0
LogsBy (Took job) old new = AddsOne old new
LogsBy Told old new = AddsOne old new
LogsBy _ old new = new ≡ old
