-- How far a run brings what is counted on a line.
use Rattle.std.proofs.Common.{◌≡◌, ℕ, ◌*◌, ◌≤◌, List, [], ◌∷◌, length, sym, subst, arith}
use Rattle.knx_model.specs.declared.address.IndAddr.{IndAddr}
use Rattle.line_model.specs.Fresh.{IsFresh}
use Rattle.line_model.specs.Legal.{IsLegal}
use Rattle.line_model.specs.Tunnel.{Tunnel, Commissions, fresh, made}
use Rattle.line_model.specs.World.{World, Event, me, replay, tunnel_event}
use Rattle.line_sim.specs.Line.{IsCounted}
use Rattle.tunnel_sim.proofs.Counting.{farthest, one_on, step_within}

-- ---- a run, of any clients

pub record IsBounded (events : ℕ) (t : Tunnel) : Type 0 where
  pub channels : made t ≤ events
  pub requests : length t.gateway.acted ≤ events
  pub up : length t.network.up ≤ events
  pub down : length t.network.down ≤ 2 * events

at_first : (t : Tunnel) (address : IndAddr) → t ≡ fresh address → IsBounded 0 t
at_first t address is = subst (IsBounded 0) (sym is) (record { channels = omega arith; requests = omega arith; up = omega arith; down = omega arith })

pub run_bounded : (start : World) (events : List Event) → IsFresh start → IsBounded (length events) (replay start events).tunnel
run_bounded start [] is = at_first start.tunnel (me start) is.tunnel
run_bounded start (e ∷ events) is =
    let before : IsBounded (length events) (replay start events).tunnel = run_bounded start events is in
    let more = step_within (replay start events).tunnel (tunnel_event (replay start events) e) in
    record {
      channels = omega (arith, before.channels, more.made);
      requests = omega (arith, before.requests, more.acted);
      up = omega (arith, before.up, more.up);
      down = omega (arith, before.down, more.down);
    }

-- ---- a run of one client, which takes one endpoint after another

at_zero : (t : Tunnel) (address : IndAddr) → t ≡ fresh address → t.present ≤ 0
at_zero t address is = subst (λ (t : Tunnel). t.present ≤ 0) (sym is) (omega arith)

pub endpoint_bounded : (start : World) (events : List Event) → IsFresh start → IsLegal Commissions start events → (replay start events).tunnel.present ≤ length events
endpoint_bounded start [] is legal = at_zero start.tunnel (me start) is.tunnel
endpoint_bounded start (e ∷ events) is legal =
    let t : Tunnel = (replay start events).tunnel in
    let before : t.present ≤ length events = endpoint_bounded start events is legal.1 in
    let more = step_within t (tunnel_event (replay start events) e) in
    let one : farthest (tunnel_event (replay start events) e) ≡ 1 = one_on t (tunnel_event (replay start events) e) legal.0.tunnel in
    omega (arith, before, more.present, one)

pub run_counted : (start : World) (events : List Event) → IsFresh start → IsLegal Commissions start events → IsCounted (length events) (replay start events).tunnel
run_counted start events is legal =
    let few : IsBounded (length events) (replay start events).tunnel = run_bounded start events is in
    record { endpoint = endpoint_bounded start events is legal; channels = few.channels; requests = few.requests; up = few.up; down = few.down }
