-- What the simulated bus tells: what it began with, and its events, the newest first. The world at each moment is what both give.
use Rattle.std.specs.Prelude.{ℕ, Bool, ◌&&◌, ◌==◌, List, [], ◌∷◌, map}
use Rattle.knx_model.specs.declared.address.IndAddr.{IndAddr}
use Rattle.knx_model.specs.declared.frames.cemi.Ldata.{Ldata}
use Rattle.line_model.specs.LinkStory.{Story, Recorded, Exact}
use Rattle.line_model.specs.Tunnel.{fresh}
use Rattle.address_world.specs.declared.unit.Unit.{Unit as BusUnit}
use Rattle.address_world.specs.declared.unit.UnitLoss.{UnitLoss}
use Rattle.address_world.specs.AddressWorld.{AddressWorld, AddressEvent, UnitState, replay}
use Rattle.address_world.specs.Shown.{shown}
use Rattle.address_world.specs.AddressStory.{AddressStory, Told, record_of}

pub record Begun : Type 0 where
  pub tunnel : IndAddr  -- the tunnel's address
  pub units : List BusUnit
  pub losses : List UnitLoss

pub record RunNow : Type 0 where
  pub begun : Begun
  pub events : List AddressEvent

abbrev pub at_rest : BusUnit → UnitState
at_rest u = record { address = u.address; programming = u.prog; unsent = [] }

abbrev pub start_of : Begun → AddressWorld
start_of b = record { tunnel = fresh b.tunnel; units = map at_rest b.units }

abbrev pub start : RunNow → AddressWorld
start r = start_of r.begun

abbrev pub world : RunNow → AddressWorld
world r = replay (start r) r.events

abbrev pub time : RunNow → ℕ
time r = (world r).tunnel.now

abbrev pub story : RunNow → Story
story r = Recorded Exact (record_of (start r) r.events)

abbrev pub told : RunNow → AddressStory
told r = Told (start r) r.events

-- the units as they now are
abbrev pub units_now : RunNow → List BusUnit
units_now r = map shown (world r).units

-- one event more
abbrev pub happened : RunNow → AddressEvent → RunNow
happened r e = record r { events = e ∷ r.events }

-- ---- frames

abbrev pub is_broadcast : Ldata → Bool
is_broadcast frame = frame.group && (frame.destination == 0)
