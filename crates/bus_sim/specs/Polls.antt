-- What a poll of a run does: events that are not the client's, and then the datagram that it gets, within the wait, or the end of the
-- wait, at which nothing is due.
use Rattle.std.specs.Prelude.{◌≡◌, ℕ, ◌+◌, ◌≤◌, List, length, Option, Some, None}
use Rattle.line_model.specs.declared.outside.link.Polled.{Polled}
use Rattle.line_model.specs.LinkStory.{GoesOn, Polls}
use Rattle.line_model.specs.Record.{Got, Quiet}
use Rattle.line_model.specs.Polled.{PollsAs}
use Rattle.bus_sim.specs.RunNow.{RunNow, RunState, seen, start, story, time}

-- the same run, with more events that are not the client's
pub record GoesOnFrom (old new : RunState) : Type 0 where
  pub same : new.begun ≡ old.begun
  pub goes : GoesOn (start (seen old)) (seen old).events (seen new).events

-- it stops within the wait, and the client got nothing
pub record StopsWithin (wait : ℕ) (old new : RunState) : Type 0 where
  pub goes : GoesOnFrom old new
  pub in_time : time (seen new) ≤ time (seen old) + wait

-- the same of runs as they are told
pub record StopsRun (wait : ℕ) (old new : RunNow) : Type 0 where
  pub same : new.begun ≡ old.begun
  pub goes : GoesOn (start old) old.events new.events
  pub in_time : time new ≤ time old + wait

abbrev pub PolledSo : Polled → List ℕ → ℕ → RunState → RunState → Type 0
PolledSo polled into wait old new = PollsAs polled into wait (time (seen new)) (story (seen old)) (story (seen new))

-- what the client got within the wait, if anything
abbrev pub EndedSo : Option (List ℕ) → ℕ → RunState → RunState → Type 0
EndedSo (Some octets) wait old new = (length octets ≤ 300) × Polls (Got octets) wait (time (seen new)) (story (seen old)) (story (seen new))
EndedSo None wait old new = Polls Quiet wait (time (seen new)) (story (seen old)) (story (seen new))

-- what it got within some time it got within each longer wait
abbrev pub GotWithin : ℕ → List ℕ → RunState → RunState → Type 0
GotWithin left octets old new = (wait : ℕ) → left ≤ wait → EndedSo (Some octets) wait old new
