-- What links, ports and dialers of fixed data do: which datagram is given next, which calls fail, and what a call leaves. Calls are numbered
-- from 1; a count stands still at the greatest number of 64 bits.
use Rattle.std.specs.Prelude.{◌≡◌, ◌≢◌, ℕ, ◌<◌, ◌⊎◌, List, [], ◌∷◌, length, min, take, slice_get, Contains, Option, Some, None, Result, Ok, Err}
use Rattle.std.specs.Option.{option_or}
use Rattle.knx_model.specs.Outside.{one_more, greatest_count}
use Rattle.line_model.specs.declared.outside.fault_counts.FaultCounts.{FaultCounts}
use Rattle.line_model.specs.declared.outside.link.Polled.{Polled}
use Rattle.line_model.specs.declared.outside.link.Polled.TheVariants as link_answer
use Rattle.line_model.specs.declared.outside.port.PortPolled.{PortPolled}
use Rattle.line_model.specs.declared.outside.port.PortPolled.TheVariants as port_answer
use Rattle.line_model.specs.LinkStory.{Clock, Exact, Running}
use Rattle.line_model.specs.Polled.{none_failed}
use Rattle.line_model.specs.PortStory as of_port
use Rattle.line_model.specs.PortStory.{PortItem}
use Rattle.line_model.specs.Record.{Entry, Got, Quiet, entry, longest_got}

-- ---- what a call leaves

-- a list after a call that adds to it, or fails and leaves it
abbrev pub with_entry : {A X E : Type 0} → Result X E → A → List A → List A
with_entry (Ok x) new entries = new ∷ entries
with_entry (Err why) new entries = entries

-- how many polls were answered after one
abbrev pub with_answer : {X E : Type 0} → Result X E → ℕ → ℕ
with_answer (Ok x) answered = one_more answered
with_answer (Err why) answered = answered

-- ---- a link

-- the datagram that the next poll brings: those of the list in order, and then the last one for ever
abbrev pub next_of : List (List ℕ) → Option (List ℕ) → ℕ → Option (List ℕ)
next_of gives last answered = option_or (slice_get gives answered) last

-- its clock runs where it is told how long its polls last
abbrev pub clock_by : List ℕ → Clock
clock_by [] = Exact
clock_by (ms ∷ lasting) = Running

-- how many milliseconds a poll lasts: as many as are told of it; else none where a datagram comes, and its wait where none does
abbrev pub lasts : Option ℕ → Option (List ℕ) → ℕ → ℕ
lasts (Some ms) next wait = ms
lasts None (Some octets) wait = 0
lasts None None wait = wait

-- the entry of a poll that ends then: the datagram that it brings, cut off after 512 octets, or a quiet wait
abbrev pub brought : Option (List ℕ) → ℕ → Entry
brought (Some octets) until = entry (Got (take longest_got octets)) until
brought None until = entry Quiet until

-- and its answer, with the octets of the buffer
abbrev pub Answers : Polled → List ℕ → Option (List ℕ) → Type 0
Answers (link_answer.Got n) into (Some octets) = (n ≡ min longest_got (length octets)) × (take n into ≡ take longest_got octets)
Answers link_answer.Quiet into None = Unit {0}
Answers polled into next = ⊥

-- a call fails behind one that failed or found no memory, where it is listed, or where the record has no room for its entry: its place or its time would pass
-- the greatest number
abbrev pub Fails : FaultCounts → List ℕ → ℕ → List Entry → ℕ → Type 0
Fails faults listed call entries time = (faults ≢ none_failed) ⊎ (Contains listed call ⊎ ((length entries ≡ greatest_count) ⊎ (greatest_count < time)))

-- ---- a port

-- a call fails behind one that failed, or where it is listed
abbrev pub FailsAtPort : ℕ → List ℕ → ℕ → Type 0
FailsAtPort faults listed call = (faults ≢ 0) ⊎ Contains listed call

-- the item of a taking, as the entry of a poll
abbrev pub took : Option (ℕ × List ℕ) → ℕ → PortItem
took (Some given) wait = of_port.Took given.0 (take longest_got given.1)
took None wait = of_port.Quiet wait

abbrev pub AnswersPort : PortPolled → List ℕ → Option (ℕ × List ℕ) → Type 0
AnswersPort (port_answer.Got n from) into (Some given) = (from ≡ given.0) × (n ≡ min longest_got (length given.1)) × (take n into ≡ take longest_got given.1)
AnswersPort port_answer.Quiet into None = Unit {0}
AnswersPort polled into next = ⊥
