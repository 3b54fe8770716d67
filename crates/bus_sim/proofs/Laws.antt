-- The line's laws, as they are cited here, and that few events leave few datagrams and requests.
use Rattle.std.proofs.Common.{ℕ, ◌-◌, ◌^◌, ◌<◌, ◌≤◌, List, length, arith}
use Rattle.line_model.specs.Fresh.{IsFresh}
use Rattle.line_model.specs.Legal.{IsLegal, MayHappen}
use Rattle.line_model.specs.Tunnel.{Commissions, Mode}
use Rattle.line_model.specs.World.{World, Event, replay}
use Rattle.line_sim.proofs.Allowing.{may_happen}
use Rattle.line_sim.proofs.Counting.{endpoint_bounded, run_bounded}
use Rattle.line_sim.specs.Allowed.{Allows}
use Rattle.tunnel_sim.specs.Gateways.{CanCount}
use Rattle.line_sim.specs.Line.{LineNow, IsNow, AreCounted}
use Rattle.tunnel_sim.specs.Tunnels.{greatest_endpoint}

pub allowed : (mode : Mode) (n : LineNow) (w : World) (e : Event) → IsNow n w → Allows mode n e → MayHappen mode w e
allowed mode n w e is allows = may_happen mode n w e is allows

pub requests : (start : World) (events : List Event) → IsFresh start → length (replay start events).tunnel.gateway.acted ≤ length events
requests start events fresh = (run_bounded start events fresh).requests

-- of few events all counts are exact
pub counted : (start : World) (events : List Event) → IsFresh start → length events < 2 ^ 63 → AreCounted (replay start events)
counted start events fresh few =
    let all = run_bounded start events fresh in
    record { up = omega (arith, all.up); down = omega (arith, all.down); acted = omega (arith, all.requests) }

-- and one endpoint of the one client, and one channel, can be counted more
pub endpoints : (n : LineNow) (start : World) (events : List Event) → IsNow n (replay start events) → IsFresh start → IsLegal Commissions start events → length events < 2 ^ 63 → n.tunnel.present < greatest_endpoint
endpoints n start events is fresh legal few =
    let all : (replay start events).tunnel.present ≤ length events = endpoint_bounded start events fresh legal in
    omega (arith, all, is.tunnel.present)

pub channels : (n : LineNow) (start : World) (events : List Event) → IsNow n (replay start events) → IsFresh start → length events < 2 ^ 63 → CanCount n.tunnel.gateway
channels n start events is fresh few =
    let all = run_bounded start events fresh in
    omega (arith, all.channels, is.tunnel.gateway.made)

pub fewer : (n : ℕ) → n < 2 ^ 64 - 1 → n < 2 ^ 64
fewer n few = omega (arith, few)
