-- A line that serves clients at a port, turn by turn (this project's own). A turn takes one datagram, which a client at its endpoint sends then,
-- and no time passes on the line; or it is a quiet wait of 100 ms at the port, and 100 ms pass there. In each turn the line goes on until nothing but time can go on,
-- and what a client gets, the port is given, each datagram to its own endpoint. The serving ends where a channel was made, none is open and the
-- last ten turns were quiet, or with its last turn.
use Rattle.std.specs.Prelude.{◌≡◌, ◌⊎◌, ℕ, ◌+◌, ◌≤◌, false, List, [], ◌∷◌, ◌++◌, Option, Some, None, Result, Ok, Err, slice_get}
use Rattle.knx_model.specs.Outside.{one_more}
use Rattle.line_model.specs.declared.outside.fault_counts.FaultCounts.{FaultCounts}
use Rattle.line_model.specs.declared.outside.port.PortFault.{PortFault}
use Rattle.line_model.specs.declared.outside.port.PortFault.TheVariants as fault
use Rattle.line_model.specs.Fresh.{Settled}
use Rattle.line_model.specs.Gateway.{Gateway}
use Rattle.line_model.specs.Network.{Sent}
use Rattle.line_model.specs.Owed.{is_clients}
use Rattle.line_model.specs.Polled.{one_failed}
use Rattle.line_model.specs.PortStory.{PortItem, Took, Quiet, Gave, PortStory, Untold, Recorded, after_port_fault}
use Rattle.line_model.specs.Serving.{HasEnded, turns}
use Rattle.line_model.specs.Tunnel as tunnel
use Rattle.line_model.specs.World.{World, Event, From, Down, Pass, now, replay}
use Rattle.bus_sim.specs.declared.beginning.Beginning.{Beginning}
use Rattle.bus_sim.specs.declared.clients.Clients.{Clients}
use Rattle.bus_sim.specs.declared.clients.Clients.TheVariants.{One, Any}
use Rattle.bus_sim.specs.declared.stopped.Broken.{Broken}
use Rattle.bus_sim.specs.declared.stopped.Broken.TheVariants as broken
use Rattle.bus_sim.specs.declared.serve.Served.{Served}
use Rattle.bus_sim.specs.declared.serve.Served.TheVariants.{Ended, OpenTurns}
use Rattle.bus_sim.specs.Ended.{IsAtEnd}
use Rattle.bus_sim.specs.RunNow.{RunNow, start, world}

abbrev pub quiet_ms : ℕ
quiet_ms = 100

-- ---- the run that is served

abbrev pub served_beginning : Beginning → Beginning
served_beginning b = record b { clients = Any }

-- one that was driven as a link begins anew
abbrev pub served_before : Clients → List Event → List Event
served_before One events = []
served_before Any events = events

-- ---- what the port tells of it

-- these items are told behind those that were told before
abbrev pub AddsAll : List PortItem → PortStory → PortStory → Type 0
AddsAll items before Untold = before ≡ Untold
AddsAll items before (Recorded all) = (older : List PortItem) × (before ≡ Recorded older) × (all ≡ items ++ older)

-- a datagram that a client gets is given to it
abbrev pub gave : Option Sent → List PortItem
gave None = []
gave (Some s) = Gave s.endpoint s.octets ∷ []

abbrev pub given : World → Event → List PortItem
given w (Down age) = gave (slice_get w.tunnel.network.down age)
given w e = []

-- ---- a turn

-- how it begins: with a datagram that is taken, or a quiet wait; and so long it lasts on the line
pub data Begins (events : List Event) (items : List PortItem) : ℕ → List Event → List PortItem → Type 0 where
  Takes : (from : ℕ) (octets : List ℕ) → Begins events items 0 (From from octets ∷ events) (Took from octets ∷ items)
  Waits : Begins events items quiet_ms events (Quiet quiet_ms ∷ items)

-- the line goes on by itself, and the port is given what its clients get
pub data GoesOn (start : World) (events0 : List Event) (items0 : List PortItem) : List Event → List PortItem → Type 0 where
  Same : GoesOn start events0 items0 events0 items0
  More : {events : List Event} {items : List PortItem} (e : Event) → is_clients e ≡ false → GoesOn start events0 items0 events items
      → GoesOn start events0 items0 (e ∷ events) (given (replay start events) e ++ items)

-- until nothing but time can go on, which then passes, be it none
abbrev pub EndsSettled : World → List Event → Type 0
EndsSettled start (Pass ms ∷ events) = Settled tunnel.Serves (replay start events)
EndsSettled start events = ⊥

pub record Turn (start : World) (events : List Event) (items : List PortItem) (events' : List Event) (items' : List PortItem) : Type 0 where
  pub ms : ℕ
  pub first_events : List Event
  pub first_items : List PortItem
  pub begins : Begins events items ms first_events first_items
  pub goes : GoesOn start first_events first_items events' items'
  pub settled : EndsSettled start events'
  pub lasts : now (replay start events') ≡ now (replay start events) + ms

-- whole turns, before each of which the serving hadn't ended
pub data Turns (start : World) (events0 : List Event) : List Event → List PortItem → Type 0 where
  NoTurn : Turns start events0 events0 []
  OneMore : {events events' : List Event} {items items' : List PortItem} → Turns start events0 events items → ¬ HasEnded (replay start events).tunnel.gateway items
      → Turn start events items events' items' → Turns start events0 events' items'

-- ---- how a serving of at most so many turns ends

abbrev pub EndsAs : Served → ℕ → Gateway → List PortItem → Type 0
EndsAs Ended n g items = HasEnded g items
EndsAs OpenTurns n g items = (¬ HasEnded g items) × (turns items ≡ n)

pub record ServedSo (served : Served) (n : ℕ) (old new : RunNow) (before after : PortStory) : Type 0 where
  pub begun : new.begun ≡ served_beginning old.begun
  pub items : List PortItem  -- what the port had of it, the newest first
  pub told : AddsAll items before after
  pub whole : Turns (start new) (served_before old.begun.clients old.events) new.events items
  pub few : turns items ≤ n
  pub ends : EndsAs served n (world new).tunnel.gateway items

-- ---- how it breaks off

-- before a turn; or the datagram that was taken, or the one that a client got, found no memory or a port that failed; or between events
pub data Breaks (start : World) (events : List Event) (items : List PortItem) : List Event → List PortItem → Type 0 where
  BeforeTurn : Breaks start events items events items
  NotTaken : (from : ℕ) (octets : List ℕ) → Breaks start events items events (Took from octets ∷ items)
  InTurn : {ms : ℕ} {first_events now_events : List Event} {first_items now_items : List PortItem} → Begins events items ms first_events first_items
      → GoesOn start first_events first_items now_events now_items → Breaks start events items now_events now_items
  NotGiven : {ms : ℕ} {first_events now_events : List Event} {first_items now_items : List PortItem} (age : ℕ) → Begins events items ms first_events first_items
      → GoesOn start first_events first_items now_events now_items → Breaks start events items (Down age ∷ now_events) now_items

pub record BrokenOff (n : ℕ) (old new : RunNow) (before after : PortStory) : Type 0 where
  pub begun : new.begun ≡ served_beginning old.begun
  pub items : List PortItem
  pub told : AddsAll items before after
  pub whole_events : List Event
  pub whole_items : List PortItem
  pub whole : Turns (start new) (served_before old.begun.clients old.events) whole_events whole_items
  pub breaks : Breaks (start new) whole_events whole_items new.events items
  pub few : turns items ≤ n

-- for want of memory it may not begin
abbrev pub BreaksOff : ℕ → RunNow → RunNow → PortStory → PortStory → Type 0
BreaksOff n old new before after = ((new ≡ old) × (after ≡ before)) ⊎ BrokenOff n old new before after

-- ---- and why

-- the run has come to its end, where that is why
abbrev pub StandsAt : Broken → RunNow → Type 0
StandsAt (broken.NoMemory want) r = Unit {0}
StandsAt broken.AtEnd r = IsAtEnd r
StandsAt (broken.Port why) r = Unit {0}

-- how many calls of the port failed, once it broke off so: one more, where one of them is why
abbrev pub after_broken : Broken → ℕ → ℕ
after_broken (broken.NoMemory want) count = count
after_broken broken.AtEnd count = count
after_broken (broken.Port why) count = after_port_fault why count

abbrev pub after_turns : {X : Type 0} → Result X Broken → ℕ → ℕ
after_turns (Ok x) count = count
after_turns (Err why) count = after_broken why count

-- A serving answers that it failed exactly where one call of the port did, or one of the line, whose run has then come to its end. Of the calls of the line those
-- are counted, and no want of memory.
abbrev pub FailsAt : PortFault → ℕ → ℕ → FaultCounts → FaultCounts → RunNow → Type 0
FailsAt (fault.NoMemory want) port port' line line' r = (port' ≡ port) × (line' ≡ line)
FailsAt fault.Failed port port' line line' r = ((port' ≡ one_more port) × (line' ≡ line)) ⊎ ((port' ≡ port) × (line' ≡ one_failed line) × IsAtEnd r)

abbrev pub CountsServing : {X : Type 0} → Result X PortFault → ℕ → ℕ → FaultCounts → FaultCounts → RunNow → Type 0
CountsServing (Ok x) port port' line line' r = (port' ≡ port) × (line' ≡ line)
CountsServing (Err why) port port' line line' r = FailsAt why port port' line line' r
