-- At which pace a call goes on, by the entries that it adds. But for a poll none of them takes time. A poll is made of waits, whatever comes of it, then
-- at most one more poll, and at most one sending after that; with an exact clock it lasts so long at most, and a heartbeat that is due isn't passed over in it,
-- nor a third failed try.
use Rattle.std.specs.Prelude.{◌≡◌, ℕ, ◌+◌, ◌<◌, ◌≤◌, min, true, false, List, [], ◌∷◌, ◌++◌, length}
use Rattle.std.specs.List.{AllByRecursion}
use Rattle.line_model.specs.Record.{Entry, Placed, entries, is_poll}
use Rattle.line_model.specs.ClientView.{channel}
use Rattle.line_model.specs.Renews.{to_poll_before}
use Rattle.line_model.specs.LinkStory.{Clock, Exact, newest_time, AreWaits}
use Rattle.line_model.specs.Faults.{tries}
use Rattle.line_model.specs.Haste.{is_beat_overdue, is_at_end_of_wait}
use Rattle.line_model.specs.Waiting.{longest_poll}
use Rattle.tunnel_link.specs.Alone.{Each}

-- no poll, at the time that was told before
pub record TakesNoTime (r : List Entry) (x : Entry) : Type 0 where
  pub polls_not : is_poll x.what ≡ false
  pub still : x.now ≡ newest_time r

-- ---- a poll, which may fail

-- what comes after its waits: nothing, one more poll, or that and what is sent at once for it
pub data PollsOnce : List Placed → Type 0 where
  NoPoll : PollsOnce []
  Polls : (p : Placed) → PollsOnce (p ∷ [])
  PollsAndSends : (s p : Placed) → is_poll s.what.what ≡ false → PollsOnce (s ∷ p ∷ [])

-- with an exact clock it lasts so many milliseconds at most, and no entry comes later than the longest poll after the one before it
pub record PollsWithin (clock : Clock) (longest : ℕ) (old added : List Placed) : Type 0 where
  pub rest : List Placed
  pub waits : List Placed
  pub parts : added ≡ rest ++ waits
  pub once : PollsOnce rest
  pub times : AreWaits (newest_time (entries old)) (entries waits)
  pub in_time : clock ≡ Exact → AllByRecursion (λ (p : Placed). p.what.now ≤ newest_time (entries old) + min longest longest_poll) added
  pub short : clock ≡ Exact → Each (λ r x. x.now ≤ newest_time r + longest_poll) old added

-- where it is a poll, no heartbeat was due already at the end of the poll before the last
abbrev pub BeatsInTime : List Entry → Entry → Type 0
BeatsInTime r x = is_poll x.what ≡ true → is_beat_overdue (channel r) (to_poll_before r) ≡ false

-- where it is a poll, fewer than three tries failed before it, unless it comes just when the wait before it ends
abbrev pub HasTriesLeft : Clock → List Entry → Entry → Type 0
HasTriesLeft clock r x = is_poll x.what ≡ true → is_at_end_of_wait clock r x ≡ false → length (tries r) < 3
