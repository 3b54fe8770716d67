use Rattle.std.proofs.Common.{◌≡◌, ◌≤◌, List, Option, ap, subst, arith}
use Rattle.knx_model.specs.DeviceState.{DeviceState}
use Rattle.line_sim.specs.Places.{DevicesNow}
use Rattle.line_sim.proofs.Nearest.{AllQuiet, nearest_at_end, nearest_of_all, nearest_with, quiet_between}
use Rattle.line_sim.proofs.devices.Devices.deadline.Goals as goal

pub loop-next-preserved : goal.loop-next-preserved
loop-next-preserved c =
    let places : c.self.inside.places.items ≡ c.args.self.now.places = ap (λ (n : DevicesNow). n.places) c.self.view_is in
    let end : c.in-Some.next ≤ 256 = omega (arith, c.in-Some.ensures.within.1) in
    let quiet : AllQuiet c.args.self.now.places c.loop-next.part c.in-Some.next
    = subst (λ (there : List (Option DeviceState)). AllQuiet there c.loop-next.part c.in-Some.next) places (quiet_between c.self.inside.line c.self.inside.places.items c.self.inside.busy _ _ c.self.invariant end c.in-Some.ensures.none_between) in
    record {
      within = omega (arith, c.in-Some.ensures.within.1);
      nearest = nearest_with c.args.self.now.places c.in-Some.next c.loop-next.nearest c.deadline_in.result c.nearer-nearest.result c.deadline_in.ensures c.nearer-nearest.ensures
          (nearest_at_end c.args.self.now.places c.loop-next.part c.in-Some.next c.loop-next.nearest c.in-Some.ensures.within.0 quiet c.loop-next.invariant.nearest);
    }

pub returns : goal.returns
returns c =
    let places : c.self.inside.places.items ≡ c.args.self.now.places = ap (λ (n : DevicesNow). n.places) c.self.view_is in
    let quiet : AllQuiet c.args.self.now.places c.loop-next.part 256
    = subst (λ (there : List (Option DeviceState)). AllQuiet there c.loop-next.part 256) places (quiet_between c.self.inside.line c.self.inside.places.items c.self.inside.busy _ _ c.self.invariant (omega arith) c.in_default.ensures.none) in
    nearest_of_all c.args.self.now c.loop-next.nearest (nearest_at_end c.args.self.now.places c.loop-next.part 256 c.loop-next.nearest c.loop-next.invariant.within quiet c.loop-next.invariant.nearest)
