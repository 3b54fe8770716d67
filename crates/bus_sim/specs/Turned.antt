-- What the calls of a run that serves at a port do, one after another: whatever the port had of the serving before, so many items are more.
use Rattle.std.specs.Prelude.{◌≡◌, ◌⊎◌, ◌↔◌, ℕ, suc, ◌+◌, ◌≤◌, List, ◌∷◌, ◌++◌}
use Rattle.line_model.specs.PortStory.{PortItem, PortStory}
use Rattle.line_model.specs.Serving.{WereQuiet, quiet_turns, turns}
use Rattle.line_model.specs.World.{Event, Down}
use Rattle.bus_sim.specs.RunNow.{RunState, seen, start, time}
use Rattle.bus_sim.specs.Serving.{AddsAll, Breaks, EndsSettled, GoesOn, Turn}

-- so many of the last turns were quiet, the number of the end where there were more
pub record CountsQuiet (quiet : ℕ) (items : List PortItem) : Type 0 where
  pub most : quiet ≤ quiet_turns
  pub counts : (n : ℕ) → n ≤ quiet_turns → (WereQuiet n items ↔ n ≤ quiet)

-- ---- within a turn

-- the line went on by itself, and the port was given what clients got
pub record PlaysOn (old new : RunState) (before after : PortStory) : Type 0 where
  pub same : new.begun ≡ old.begun
  pub added : List PortItem
  pub told : AddsAll added before after
  pub goes : (items : List PortItem) → GoesOn (start (seen old)) old.events items new.events (added ++ items)

-- until nothing but time could go on, and so many milliseconds have passed
pub record PlaysFor (ms : ℕ) (old new : RunState) (before after : PortStory) : Type 0 where
  pub plays : PlaysOn old new before after
  pub settled : EndsSettled (start (seen old)) new.events
  pub lasts : time (seen new) ≡ time (seen old) + ms

-- a client got a datagram that the port wasn't given
pub record PlaysUngiven (old new : RunState) (before after : PortStory) : Type 0 where
  pub same : new.begun ≡ old.begun
  pub age : ℕ
  pub events : List Event
  pub last : new.events ≡ Down age ∷ events
  pub added : List PortItem
  pub told : AddsAll added before after
  pub goes : (items : List PortItem) → GoesOn (start (seen old)) old.events items events (added ++ items)

abbrev pub StopsPlaying : RunState → RunState → PortStory → PortStory → Type 0
StopsPlaying old new before after = PlaysOn old new before after ⊎ PlaysUngiven old new before after

-- ---- a turn

pub record Turned (quiet quiet' : ℕ) (old new : RunState) (before after : PortStory) : Type 0 where
  pub same : new.begun ≡ old.begun
  pub added : List PortItem
  pub told : AddsAll added before after
  pub turn : (items : List PortItem) → Turn (start (seen old)) old.events items new.events (added ++ items)
  pub one : (items : List PortItem) → turns (added ++ items) ≡ suc (turns items)
  pub counts : (items : List PortItem) → CountsQuiet quiet items → CountsQuiet quiet' (added ++ items)

pub record StopsTurn (old new : RunState) (before after : PortStory) : Type 0 where
  pub same : new.begun ≡ old.begun
  pub added : List PortItem
  pub told : AddsAll added before after
  pub breaks : (items : List PortItem) → Breaks (start (seen old)) old.events items new.events (added ++ items)
  pub few : (items : List PortItem) → turns (added ++ items) ≤ suc (turns items)
