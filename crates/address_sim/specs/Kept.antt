-- Which event something that happened is.
use Rattle.std.specs.Prelude.{[]}
use Rattle.tunnel_sim.specs.Tunnels.{at_gateway}
use Rattle.address_world.specs.AddressWorld as address
use Rattle.address_world.specs.AddressWorld.{AddressEvent}
use Rattle.address_sim.specs.declared.happened.Happened.{Happened}
use Rattle.address_sim.specs.declared.happened.Happened.TheVariants as named
use Rattle.address_sim.specs.Losses.{without}

abbrev pub event_of : Happened → AddressEvent
event_of (named.Send octets) = address.Send octets.now
event_of named.Renew = address.Renew
event_of (named.Up age) = address.Up age
event_of (named.Down age) = address.Down age
event_of (named.Broadcast losses n) = address.Bus (without losses.now n)
event_of named.Single = address.Bus []
event_of (named.Respond place at) = address.Respond place (at_gateway at)
event_of named.GwRepeat = address.GwRepeat
event_of named.GwClose = address.GwClose
event_of (named.Pass ms) = address.Pass ms
