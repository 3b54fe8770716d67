-- How long a poll lasts, by what it adds to the record: waits into which something fell, then what it got or the quiet wait, which ends with the poll,
-- and what is sent at once for it. Its wait doesn't go on past the channel's nearest deadline; it lasts so long with an exact clock.
use Rattle.std.specs.Prelude.{◌≡◌, ℕ, ◌≤◌, min, true, false, List, ◌∷◌, ◌++◌, Contains}
use Rattle.std.specs.List.{list_any}
use Rattle.line_model.specs.Record.{Placed, entries, is_poll}
use Rattle.line_model.specs.LinkStory.{Clock, newest_time, AreWaits, EndsBy}
use Rattle.line_model.specs.ClientView.{channel}
use Rattle.line_model.specs.Waiting.{channel_deadlines, longest_poll, LastsUntil}

-- a poll of so many milliseconds: with an exact clock a quiet one lasts just as long
pub record PollsFor (clock : Clock) (wait : ℕ) (old added : List Placed) : Type 0 where
  pub waits : List Placed
  pub last : Placed
  pub sent : List Placed
  pub parts : added ≡ sent ++ (last ∷ waits)
  pub times : AreWaits (newest_time (entries old)) (entries waits)
  pub later : newest_time (entries (waits ++ old)) ≤ last.what.now
  pub polls : is_poll last.what.what ≡ true
  pub ends : EndsBy clock last.what.what wait (newest_time (entries old)) last.what.now (entries waits)
  pub sends : list_any (λ (p : Placed). is_poll p.what.what) sent ≡ false

-- a poll of at most so many milliseconds
pub record LastsRightly (clock : Clock) (longest : ℕ) (old added : List Placed) : Type 0 where
  pub wait : ℕ
  pub until : LastsUntil (min longest longest_poll) (Contains (channel_deadlines (channel (entries old)))) (newest_time (entries old)) wait
  pub polls : PollsFor clock wait old added
