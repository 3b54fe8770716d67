-- What a port tells of itself: nothing, as a socket, or its record: what was taken, and from whom, the quiet waits and how long each was, and what was given, and to
-- whom, in order, the newest first. A port serves clients that it doesn't know; each is named by a number.
use Rattle.std.specs.Prelude.{◌≡◌, ℕ, ◌≤◌, ◌⊎◌, List, [], ◌∷◌, take, Result, Ok, Err}
use Rattle.knx_model.specs.Outside.{one_more}
use Rattle.line_model.specs.declared.outside.port.PortFault.{PortFault}
use Rattle.line_model.specs.declared.outside.port.PortFault.TheVariants as fault
use Rattle.line_model.specs.declared.outside.port.PortPolled.{PortPolled}
use Rattle.line_model.specs.declared.outside.port.PortPolled.TheVariants as answer
use Rattle.line_model.specs.Record.{longest_got}

pub data PortItem : Type 0 where
  Took : ℕ → List ℕ → PortItem  -- a datagram of this client
  Quiet : ℕ → PortItem  -- none came in so many milliseconds
  Gave : ℕ → List ℕ → PortItem  -- a datagram to this client

pub data PortStory : Type 0 where
  Untold : PortStory
  Recorded : List PortItem → PortStory

-- nothing was done at it
abbrev pub IsNewPort : PortStory → Type 0
IsNewPort Untold = Unit {0}
IsNewPort (Recorded items) = items ≡ []

abbrev pub Adds : PortItem → PortStory → PortStory → Type 0
Adds item before Untold = before ≡ Untold
Adds item before (Recorded items) = (older : List PortItem) × (before ≡ Recorded older) × (items ≡ item ∷ older)

-- ---- what the answers say

-- a call that waits at most so many milliseconds: a quiet one has waited them all
abbrev pub TakesAs : PortPolled → List ℕ → ℕ → PortStory → PortStory → Type 0
TakesAs (answer.Got n from) into wait before after = (n ≤ longest_got) × Adds (Took from (take n into)) before after
TakesAs answer.Quiet into wait before after = Adds (Quiet wait) before after

abbrev pub TakesSo : Result PortPolled PortFault → List ℕ → ℕ → PortStory → PortStory → Type 0
TakesSo (Ok polled) into wait before after = TakesAs polled into wait before after
TakesSo (Err fault) into wait before after = after ≡ before

abbrev pub GivesOrNot : ℕ → List ℕ → PortStory → PortStory → Type 0
GivesOrNot to octets before after = Adds (Gave to octets) before after ⊎ (after ≡ before)

-- how many calls failed, after one that answered so; want of memory isn't counted
abbrev pub after_port_fault : PortFault → ℕ → ℕ
after_port_fault (fault.NoMemory want) count = count
after_port_fault fault.Failed count = one_more count

abbrev pub after_call : {X : Type 0} → Result X PortFault → ℕ → ℕ
after_call (Ok x) count = count
after_call (Err why) count = after_port_fault why count
