-- Where a gateway serves clients that it doesn't know, each client is a number of 32 bits at its port, and its endpoint is that number; so every
-- datagram of the gateway goes to such a number.
use Rattle.std.specs.Prelude.{ℕ, ◌<◌, ◌^◌, IfSome}
use Rattle.std.specs.List.{AllByRecursion}
use Rattle.line_model.specs.Gateway.{Channel}
use Rattle.line_model.specs.Network.{Sent}
use Rattle.line_model.specs.Tunnel.{Tunnel}
use Rattle.bus_sim.specs.declared.clients.Clients.{Clients}
use Rattle.bus_sim.specs.declared.clients.Clients.TheVariants.{One, Any}

-- the number of a client at a port
abbrev pub IsClient : ℕ → Type 0
IsClient endpoint = endpoint < 2 ^ 32

abbrev pub IsNumber : Clients → ℕ → Type 0
IsNumber One endpoint = Unit {0}
IsNumber Any endpoint = IsClient endpoint

-- all datagrams come from clients and go to clients, and the channel is a client's
pub record AreClients (t : Tunnel) : Type 0 where
  pub up : AllByRecursion (λ (s : Sent). IsClient s.endpoint) t.network.up
  pub down : AllByRecursion (λ (s : Sent). IsClient s.endpoint) t.network.down
  pub channel : IfSome t.gateway.channel (λ (c : Channel). IsClient c.endpoint)

abbrev pub AreNumbered : Clients → Tunnel → Type 0
AreNumbered One t = Unit {0}
AreNumbered Any t = AreClients t
