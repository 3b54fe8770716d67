-- What the calls of a run do to it: nothing, or one event more; or two, a torn write and the return of power.
use Rattle.std.specs.Prelude.{◌≡◌}
use Rattle.knx_model.specs.declared.frames.cemi.Ldata.{Ldata}
use Rattle.line_model.specs.World.{Event, BusTorn, On, World}
use Rattle.bus_sim.specs.RunNow.{RunState, happened, seen, world as world_of, IsRight as IsRightIn}

abbrev pub world : RunState → World
world r = world_of (seen r)

abbrev pub Stays : RunState → RunState → Type 0
Stays old new = seen new ≡ seen old

abbrev pub Went : RunState → Event → RunState → Type 0
Went old e new = seen new ≡ happened (seen old) e

-- a frame of the client goes over the bus by this event; after a torn write the power of its device returns at once
abbrev pub Carries : Ldata → RunState → Event → RunState → Type 0
Carries frame old (BusTorn fresh octets) new = seen new ≡ happened (happened (seen old) (BusTorn fresh octets)) (On frame.destination)
Carries frame old e new = Went old e new

abbrev pub IsRight : RunState → Event → Type 0
IsRight r e = IsRightIn (seen r) e
