-- A run of the simulated line: what it began with, and its events, the newest first. The world at each moment is what both give; and what the type
-- of a run keeps of it: the start is fresh, and the events are legal and follow the script.
use Rattle.std.specs.Prelude.{◌≡◌, ℕ, List, ◌∷◌, Some, None}
use Rattle.line_model.specs.Tunnel.{Mode}
use Rattle.line_model.specs.World.{World, Event, now as time_of, replay}
use Rattle.line_model.specs.Legal.{MayHappen, IsLegal}
use Rattle.line_model.specs.Fresh.{IsFresh}
use Rattle.line_model.specs.Lines.{Script}
use Rattle.line_model.specs.Owed.{Owed, owed}
use Rattle.line_model.specs.Follows.{Follows, IsNext}
use Rattle.line_model.specs.LinkStory.{Story, Untold, Full}
use Rattle.line_sim.specs.Line.{LineNow}
use Rattle.bus_sim.specs.Owing.{first_of}
use Rattle.bus_sim.specs.Begun.{said, start_of, mode_in}
use Rattle.bus_sim.specs.declared.beginning.Beginning.{Beginning}
use Rattle.bus_sim.specs.declared.clients.Clients.{Clients}
use Rattle.bus_sim.specs.declared.clients.Clients.TheVariants.{One, Any}

pub record RunNow : Type 0 where
  pub begun : Beginning
  pub events : List Event

-- a run with the line as it is held
pub record RunState : Type 0 where
  pub begun : Beginning
  pub events : List Event
  pub line : LineNow

abbrev pub seen : RunState → RunNow
seen r = record { begun = r.begun; events = r.events }

abbrev pub start : RunNow → World
start r = start_of r.begun

abbrev pub script : RunNow → Script
script r = said r.begun

abbrev pub mode : RunNow → Mode
mode r = mode_in r.begun

abbrev pub world : RunNow → World
world r = replay (start r) r.events

abbrev pub time : RunNow → ℕ
time r = time_of (world r)

-- as a link it tells its events, but where it serves at a port: then it is no link
abbrev pub story_of : Clients → World → List Event → Story
story_of One start events = Full start events
story_of Any start events = Untold

abbrev pub story : RunNow → Story
story r = story_of r.begun.clients (start r) r.events

-- one event more
abbrev pub happened : RunNow → Event → RunNow
happened r e = record r { events = e ∷ r.events }

-- what the script calls for before anything else
abbrev pub owed_in : RunNow → List Owed
owed_in r = owed (script r) (mode r) (start r) r.events

-- the first that it calls for; or it calls for nothing
abbrev pub Calls : RunNow → Owed → Type 0
Calls r what = first_of (owed_in r) ≡ Some what

abbrev pub NothingCalled : RunNow → Type 0
NothingCalled r = first_of (owed_in r) ≡ None

-- ---- what is kept

pub record Keeps (r : RunNow) : Type 0 where
  pub fresh : IsFresh (start r)
  pub legal : IsLegal (mode r) (start r) r.events
  pub follows : Follows (script r) (mode r) (start r) r.events

-- the event may happen now, and it is the one that the script wants, or one of the client's own
pub record IsRight (r : RunNow) (e : Event) : Type 0 where
  pub may : MayHappen (mode r) (world r) e
  pub next : IsNext (script r) (mode r) (start r) r.events (owed_in r) e
