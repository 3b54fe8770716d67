-- How thorough a hub is in what it ends: a job's end is told only where no attempt of it runs, no attempt begins once the last one has decided the job,
-- and each loss of the channel is followed by what is due to the gateway then, and by nothing more.
use Rattle.std.specs.Prelude.{List}
use Rattle.line_model.specs.declared.log.LogEntry.{LogEntry}
use Rattle.line_model.specs.Record.{Placed, entries, placed, counted}
use Rattle.line_model.specs.LinkStory.{Story, Untold, Recorded, Full}
use Rattle.line_model.specs.Log.{Job}
use Rattle.line_model.specs.Ends.{EndsAtRest, BeginsUndecided}
use Rattle.line_model.specs.Leaves.{PartsRightly}

pub record IsThorough (jobs : List Job) (places : List Placed) (log : List LogEntry) : Type 0 where
  pub ends : EndsAtRest jobs places log
  pub begins : BeginsUndecided jobs log places
  pub parts : PartsRightly (entries places)

-- where the link tells something
abbrev pub IsThoroughOver : List Job → Story → List LogEntry → Type 0
IsThoroughOver jobs Untold log = Unit {0}
IsThoroughOver jobs (Recorded clock r) log = IsThorough jobs (counted r) log
IsThoroughOver jobs (Full start events) log = IsThorough jobs (placed start events) log
