-- How a hub leaves its channel: until all jobs are over and all group telegrams told the open one isn't asked to end, and then it
-- closes rightly, from the last entry of the log on.
use Rattle.std.specs.Prelude.{◌≡◌, ◌≤◌, List, [], ◌++◌, Option, Some, None}
use Rattle.line_model.specs.declared.log.LogEntry.{LogEntry}
use Rattle.line_model.specs.Record.{Placed, entries}
use Rattle.line_model.specs.LinkStory.{Story, newest_time}
use Rattle.line_model.specs.Log.{Job, latest}
use Rattle.line_model.specs.Closing as line
use Rattle.line_model.specs.Leaves.{StaysOpen, IsFinished, up_to_last, since_last, Closes}
use Rattle.tunnel_link.specs.Adds.{place_of}
use Rattle.tunnel_link.specs.Rights.{WhereTold}
use Rattle.hub_work.specs.declared.closing.Closing.{Closing}
use Rattle.hub_work.specs.Books.{AreJobsOf}
use Rattle.hub_core.specs.Closes.{HasCome}
use Rattle.hub_core.specs.Seen.{Seen}
use Rattle.hub_core.specs.Closed.{WaitsSince}

-- ---- while jobs and group telegrams are gone through

-- the open channel isn't asked to end, and nothing came after the entry of the log by which all was over
pub record GoesThrough {L : Type 0} (hub : Seen L) (story : Story) : Type 0 where
  pub unbegun : hub.closing ≡ None
  pub stays : WhereTold (λ places. StaysOpen (entries places)) story
  pub placed : WhereTold (λ places. latest hub.log ≤ place_of story) story
  pub punctual : (all : List Job) → AreJobsOf hub.devices all → IsFinished all hub.turns hub.log → WhereTold (λ places. since_last hub.log places ≡ []) story

-- ---- while it closes

-- the record closes rightly, which is told up to the last entry of the log, and since then
pub record ClosesSo {L : Type 0} (hub : Seen L) (story : Story) : Type 0 where
  pub placed : WhereTold (λ places. latest hub.log ≤ place_of story) story
  pub parts : WhereTold (λ places. places ≡ since_last hub.log places ++ up_to_last hub.log places) story
  pub closes : WhereTold (Closes hub.log) story

-- and the hub knows how far it is, and has waited no longer than it should
abbrev pub IsAt : Option Closing → List LogEntry → List Placed → Type 0
IsAt None log places = since_last log places ≡ []
IsAt (Some c) log places = HasCome (Some c) (line.closing (newest_time (entries (up_to_last log places))) (entries (since_last log places)))

abbrev pub KnowsHowFar : {L : Type 0} → Seen L → Story → Type 0
KnowsHowFar hub story = WhereTold (λ places. IsAt hub.closing hub.log places × WaitsSince hub.log places) story
