-- What is asked of a client so that nothing fails where nothing disturbs the line: it keeps to what the promises of the line need, it is thorough in what it
-- ends, it acknowledges each request of the gateway at once, and it loses no time. And of the line, that each device has power and each job's device is there.
use Rattle.std.specs.Prelude.{◌≡◌, ℕ, true, List, Some}
use Rattle.knx_model.specs.DeviceState.{DeviceState}
use Rattle.line_model.specs.declared.group.GroupTurn.{GroupTurn}
use Rattle.line_model.specs.declared.log.LogEntry.{LogEntry}
use Rattle.line_model.specs.World.{World, Event}
use Rattle.line_model.specs.Record.{entries, placed}
use Rattle.line_model.specs.Log.{Job}
use Rattle.line_model.specs.Renews.{AcknowledgesRightly}
use Rattle.line_model.specs.Ends.{EndsAtRest, BeginsUndecided}
use Rattle.line_model.specs.Haste.{LosesNoTimes}
use Rattle.line_law.specs.Safe.{KeepsSafe}

-- ---- the client, by record and log alone

pub record IsPromptClient (jobs : List Job) (turns : List GroupTurn) (start : World) (events : List Event) (log : List LogEntry) : Type 0 where
  pub safe : KeepsSafe jobs turns start events log
  pub ends : EndsAtRest jobs (placed start events) log
  pub begins : BeginsUndecided jobs log (placed start events)
  pub acknowledges : AcknowledgesRightly (entries (placed start events))
  pub hastens : LosesNoTimes jobs turns log (placed start events)

-- ---- the line

-- each of its devices has power
abbrev pub HavePower : World → Type 0
HavePower start = (a : ℕ) (d : DeviceState) → start.devices a ≡ Some d → d.power ≡ true
