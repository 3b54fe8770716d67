-- How long the poll of a call lasts, by record and log, where the link tells them.
use Rattle.std.specs.Prelude.{◌≡◌, ◌⊎◌, ℕ, false, Bool, List, ◌++◌, Option, Some, None}
use Rattle.std.specs.List.{list_any}
use Rattle.line_model.specs.declared.group.GroupTurn.{GroupTurn}
use Rattle.line_model.specs.declared.log.LogEntry.{LogEntry}
use Rattle.line_model.specs.Record.{Placed, entries, is_poll}
use Rattle.line_model.specs.LinkStory.{Story, Clock, clock_of, newest_time}
use Rattle.line_model.specs.Log.{Job}
use Rattle.line_model.specs.Closing as line
use Rattle.line_model.specs.Waiting.{HasWork, PollsSo}
use Rattle.tunnel_link.specs.Adds.{Growing, place_of}
use Rattle.tunnel_link.specs.Lasts.{PollsFor}
use Rattle.tunnel_link.specs.Rights.{WhereTold}
use Rattle.hub_work.specs.declared.closing.Closing.{Closing}
use Rattle.hub_work.specs.declared.crew.Held.{Held}
use Rattle.hub_work.specs.declared.job.HubJob.{HubJob}
use Rattle.hub_work.specs.Closes.{closing_of}
use Rattle.hub_work.specs.Polls.{TellsWork, came_for, closing_so_far}
use Rattle.hub_core.specs.Seen.{AreJobs}

-- ---- what is no poll

abbrev pub has_poll : List Placed → Bool
has_poll added = list_any (λ (p : Placed). is_poll p.what.what) added

abbrev pub SendsOnly : List Placed → List Placed → Type 0
SendsOnly old added = has_poll added ≡ false

-- ---- one poll, of a hub whose workers hold this and whose closing is so far, after what was sent before it

pub record PollsOnce (clock : Clock) (jobs : List Job) (turns : List GroupTurn) (log : List LogEntry) (crew : List (Option Held)) (closing : Option line.Closing) (at : ℕ) (old added : List Placed) : Type 0 where
  pub sent : List Placed
  pub polled : List Placed
  pub parts : added ≡ polled ++ sent
  pub sends : has_poll sent ≡ false
  pub wait : ℕ
  pub rightly : PollsSo jobs turns log (sent ++ old) at (newest_time (entries (sent ++ old))) closing (came_for crew) wait
  pub polls : PollsFor clock wait (sent ++ old) polled

-- for any jobs with these devices and plans, of the moments up to the call's end, of which those before the poll are told
abbrev pub Polls : List HubJob → List GroupTurn → List LogEntry → List (Option Held) → Option Closing → Story → Story → Type 0
Polls hub_jobs turns log crew closing s t = (jobs : List Job) → AreJobs hub_jobs jobs → Growing (PollsOnce (clock_of t) jobs turns log crew (closing_so_far closing) (place_of t)) s t

-- ---- whether a worker has work

abbrev pub TellsBusy : List HubJob → List GroupTurn → List LogEntry → List (Option Held) → Bool → Story → Type 0
TellsBusy hub_jobs turns log crew busy s =
    (jobs : List Job) → AreJobs hub_jobs jobs → WhereTold (λ places. TellsWork busy (λ k. HasWork jobs turns log places (place_of s) (newest_time (entries places)) k (came_for crew k))) s

-- ---- a step of the closing, which begins now where it hasn't begun, polls once or not at all

abbrev pub closing_at : ℕ → Option Closing → line.Closing
closing_at now None = line.Listening now 0
closing_at now (Some c) = closing_of c

abbrev pub PollsOrNot : Clock → List Job → List GroupTurn → List LogEntry → List (Option Held) → Option Closing → ℕ → List Placed → List Placed → Type 0
PollsOrNot clock jobs turns log crew closing at old added = SendsOnly old added ⊎ PollsOnce clock jobs turns log crew (Some (closing_at (newest_time (entries old)) closing)) at old added

abbrev pub PollsInClosing : List HubJob → List GroupTurn → List LogEntry → List (Option Held) → Option Closing → Story → Story → Type 0
PollsInClosing hub_jobs turns log crew closing s t = (jobs : List Job) → AreJobs hub_jobs jobs → Growing (PollsOrNot (clock_of t) jobs turns log crew closing (place_of t)) s t
