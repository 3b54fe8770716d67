-- What is left for a hub to do: a job that has no end yet, or a group telegram that isn't told.
use Rattle.std.specs.Prelude.{List}
use Rattle.line_model.specs.Leaves.{IsFinished}
use Rattle.line_model.specs.Log.{Job, AllOver, TurnUnfinished}
use Rattle.hub_work.specs.Books.{AreJobsOf}
use Rattle.hub_core.specs.Seen.{Seen}

-- each job, any that has its device, has its end, and each group telegram is told
pub record AllDone {L : Type 0} (hub : Seen L) : Type 0 where
  pub jobs : (all : List Job) → AreJobsOf hub.devices all → AllOver all hub.log
  pub telegrams : ¬ TurnUnfinished hub.turns hub.log

-- something is left
abbrev pub IsLeft : {L : Type 0} → Seen L → Type 0
IsLeft hub = (all : List Job) → AreJobsOf hub.devices all → ¬ IsFinished all hub.turns hub.log
