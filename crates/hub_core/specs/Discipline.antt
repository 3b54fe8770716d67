-- What a hub keeps of what its link tells: the log is one of its jobs and telegrams, what it tells is true, an end is told only where no attempt runs,
-- each request was asked rightly, and each entry came promptly, without a loss of time and, where it is a poll, while there was no cause to end. An entry of
-- the record is judged by those before it and by the entries of the log that were made before it.
use Rattle.std.specs.Prelude.{ℕ, ◌⊎◌, List, [], ◌∷◌}
use Rattle.line_model.specs.declared.group.GroupTurn.{GroupTurn}
use Rattle.line_model.specs.declared.log.LogEntry.{LogEntry}
use Rattle.line_model.specs.Record.{Placed, entries}
use Rattle.line_model.specs.Log.{Job, IsLog, log_before, JobUnfinished, TurnUnfinished}
use Rattle.line_model.specs.Told.{ToldTruly}
use Rattle.line_model.specs.Renews.{PollsPromptly}
use Rattle.line_model.specs.Haste.{LosesNoTime, ActsInOrder, GoesOnRightly}
use Rattle.line_model.specs.LinkStory.{Clock, Exact, Running}
use Rattle.line_model.specs.Asks.{IsRightDeed, moment_of}
use Rattle.line_model.specs.Ends.{EndsAtRest, BeginsSo}

-- P of each entry of the record, of what was before it, and of the log then
abbrev pub EachSo : (List LogEntry → List Placed → Placed → Type 0) → List LogEntry → List Placed → Type 0
EachSo P log [] = Unit {0}
EachSo P log (p ∷ older) = P (log_before p.at log) older p × EachSo P log older

-- what it puts it may put, and an attempt begins only where the last one is undecided
pub record Asks (jobs : List Job) (turns : List GroupTurn) (log : List LogEntry) (older : List Placed) (p : Placed) : Type 0 where
  pub right : IsRightDeed jobs turns log older (moment_of older p) (moment_of older p).what
  pub begins : BeginsSo jobs log older (moment_of older p)

-- while there is something to do, no deadline of the channel is passed over
abbrev pub IsPrompt : List Job → List GroupTurn → List LogEntry → List Placed → Placed → Type 0
IsPrompt jobs turns log older p = JobUnfinished jobs log ⊎ TurnUnfinished turns log → PollsPromptly (entries older) p.what

-- and no time is lost, so far as the link's clock allows to say
abbrev pub LosesNone : Clock → List Job → List GroupTurn → List LogEntry → List Placed → Placed → Type 0
LosesNone Exact jobs turns log older p = LosesNoTime jobs turns log older p
LosesNone Running jobs turns log older p = ActsInOrder jobs turns log older p

pub record Hastens (clock : Clock) (jobs : List Job) (turns : List GroupTurn) (log : List LogEntry) (older : List Placed) (p : Placed) : Type 0 where
  pub prompt : IsPrompt jobs turns log older p
  pub loses_none : LosesNone clock jobs turns log older p
  pub goes_on : GoesOnRightly clock jobs log (entries older) p.what

pub record TellsAndAsks (jobs : List Job) (turns : List GroupTurn) (log : List LogEntry) (count : ℕ) (places : List Placed) : Type 0 where
  pub form : IsLog jobs turns count log
  pub truly : ToldTruly jobs turns places log
  pub rests : EndsAtRest jobs places log
  pub asks : EachSo (Asks jobs turns) log places
