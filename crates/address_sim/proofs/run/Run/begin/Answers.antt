use Rattle.std.proofs.Common.{List, map, subst}
use Rattle.tunnel_sim.specs.Tunnels.{tunnel_now}
use Rattle.address_world.specs.declared.unit.Unit.{Unit as BusUnit}
use Rattle.address_sim.specs.Told.{at_rest}
use Rattle.address_sim.specs.Turns.{begun_of}
use Rattle.address_sim.specs.Units.{AreUnits}
use Rattle.address_sim.proofs.Held.{held_first}
use Rattle.address_sim.proofs.run.Run.begin.Goals as goal

pub invariant_of-result : goal.invariant_of-result
invariant_of-result c = held_first (begun_of c.args.begun) _ (tunnel_now c.in_ok-tunnel.tunnel) c.in_ok-units.units c.new-3.ensures c.in_ok-tunnel.ensures
    (subst (λ (us : List BusUnit). AreUnits c.in_ok-units.units (map at_rest us)) c.as_slice.ensures c.in_ok-units.ensures.units) c.in_ok-units.ensures.counted
