-- What a hub promises at every moment, for any jobs with its devices and plans: over a link that tells its events and good jobs, what the line's law
-- says; and where the link tells something, that it has ended exactly where there is a cause.
use Rattle.std.specs.Prelude.{◌≡◌, ℕ, ◌^◌, ◌-◌, min, length, List, Option, Some, None}
use Rattle.line_model.specs.declared.fault.HubFault.{HubFault}
use Rattle.line_model.specs.declared.group.GroupTurn.{GroupTurn}
use Rattle.line_model.specs.declared.log.LogEntry.{LogEntry}
use Rattle.line_model.specs.Record.{Entry, entries, placed, counted}
use Rattle.line_model.specs.LinkStory.{Story, Untold, Recorded, Full, clock_of}
use Rattle.line_model.specs.Log.{Job}
use Rattle.line_model.specs.Dropped.{dropped}
use Rattle.line_model.specs.Faults.{FaultRight}
use Rattle.line_model.specs.Haste.{HastenBy}
use Rattle.line_model.specs.Headline.{IsRight}
use Rattle.line_model.specs.Leaves.{LeavesRightly, parting_of}
use Rattle.line_law.specs.Safe.{IsSafe, KeepsSafe}
use Rattle.tunnel_link.specs.Adds.{place_of}
use Rattle.tunnel_link.specs.Rights.{WhereTold}
use Rattle.hub_core.specs.Discipline.{TellsAndAsks}

abbrev pub IsRightOver : List Job → Story → List LogEntry → Type 0
IsRightOver jobs Untold log = Unit {0}
IsRightOver jobs (Recorded clock r) log = Unit {0}
IsRightOver jobs (Full start events) log = IsRight jobs start events log

-- all that the line's promises need of the client
abbrev pub IsSafeOver : List Job → List GroupTurn → Story → List LogEntry → Type 0
IsSafeOver jobs turns Untold log = Unit {0}
IsSafeOver jobs turns (Recorded clock r) log = IsSafe jobs turns (length r) (counted r) log
IsSafeOver jobs turns (Full start events) log = KeepsSafe jobs turns start events log

-- the open channel isn't asked to end before all is over, and then rightly
abbrev pub LeavesOver : List Job → List GroupTurn → Story → List LogEntry → Type 0
LeavesOver jobs turns Untold log = Unit {0}
LeavesOver jobs turns (Recorded clock r) log = LeavesRightly jobs turns log (counted r)
LeavesOver jobs turns (Full start events) log = LeavesRightly jobs turns log (placed start events)

-- the log is one of its jobs and telegrams, what it tells is true, and each request was right
abbrev pub TellsIn : List Job → List GroupTurn → List LogEntry → Story → Type 0
TellsIn jobs turns log story = WhereTold (TellsAndAsks jobs turns log (place_of story)) story

-- it lost no time, of which is said what its link's clock allows; and it went on only where there was no cause to end
abbrev pub HastensIn : List Job → List GroupTurn → List LogEntry → Story → Type 0
HastensIn jobs turns log story = WhereTold (HastenBy (clock_of story) jobs turns log) story

-- the gateway was told of each loss of the channel
abbrev pub HasParted : Story → Type 0
HasParted story = WhereTold (λ places. parting_of (entries places) ≡ None) story

-- of the record, where it is told
abbrev pub FaultRightIn : List Job → List LogEntry → Option HubFault → Option (List Entry) → Type 0
FaultRightIn jobs log fault None = Unit {0}
FaultRightIn jobs log fault (Some r) = FaultRight jobs log r fault

-- how many datagrams were dropped, at most the greatest number of 64 bits
abbrev pub DropsIn : ℕ → Option (List Entry) → Type 0
DropsIn count None = Unit {0}
DropsIn count (Some r) = count ≡ min (dropped r) (2 ^ 64 - 1)
