-- The events of a run as the code names them.
use Rattle.std.specs.Prelude.{[], option_to_list}
use Rattle.line_model.specs.World as world
use Rattle.line_model.specs.World.{Event}
use Rattle.tunnel_sim.specs.Tunnels.{at_gateway}
use Rattle.bus_sim.specs.declared.happened.Happened.{Happened}
use Rattle.bus_sim.specs.declared.happened.Happened.TheVariants as named

abbrev pub event_of : Happened → Event
event_of (named.Send octets) = world.Send octets.now
event_of (named.From endpoint octets) = world.From endpoint octets.now
event_of named.Renew = world.Renew
event_of (named.Up age) = world.Up age
event_of (named.UpRefused age status) = world.UpRefused age status
event_of (named.Down age) = world.Down age
event_of (named.LoseUp age) = world.LoseUp age
event_of (named.LoseDown age) = world.LoseDown age
event_of (named.Bus lost) = world.Bus (option_to_list lost)
event_of (named.BusTorn fresh octets) = world.BusTorn fresh octets.now
event_of (named.BusWorn octets) = world.BusWorn octets.now
event_of (named.BusAgain device) = world.BusAgain device
event_of (named.DevSend device at) = world.DevSend device (at_gateway at) []
event_of (named.DevRepeat device at) = world.DevRepeat device (at_gateway at)
event_of (named.DevClose device) = world.DevClose device
event_of named.GwRepeat = world.GwRepeat
event_of named.GwClose = world.GwClose
event_of (named.On device) = world.On device
event_of (named.Pass ms) = world.Pass ms
