use Rattle.std.proofs.Common.{◌≡◌, ℕ, suc, ◌-◌, ◌<◌, length, drop, sym, ap, subst, ◌∙◌, arith}
use Rattle.line_model.specs.StartOf.{line_of}
use Rattle.line_sim.specs.Places.{AreDevices}
use Rattle.bus_sim.specs.Begun.{device_begun}
use Rattle.bus_sim.proofs.Begins.{can_at, one_put}
use Rattle.bus_sim.proofs.beginning.begin_all.Goals as goal

pub device_of-requires : goal.device_of-requires
device_of-requires c = let below : c.loop-at.at - 1 < length c.args.devices.now = omega (arith, c.loop-at.invariant.within) in (can_at c.args.tunnel c.args.devices.now (c.loop-at.at - 1) c.index-devices-at.result below c.index-devices-at.is c.requires).image

pub put-requires : goal.put-requires
put-requires c =
    let below : c.loop-at.at - 1 < length c.args.devices.now = omega (arith, c.loop-at.invariant.within) in
    ap (λ a. line_of a.raw) c.in_ok-device_of.ensures.address ∙ (can_at c.args.tunnel c.args.devices.now (c.loop-at.at - 1) c.index-devices-at.result below c.index-devices-at.is c.requires).line ∙ sym c.loop-at.invariant.line

pub loop-at-preserved : goal.loop-at-preserved
loop-at-preserved c =
    let below : c.loop-at.at - 1 < length c.args.devices.now = omega (arith, c.loop-at.invariant.within) in
    let next : suc (c.loop-at.at - 1) ≡ c.loop-at.at = omega arith in
    record {
      within = omega (arith, c.loop-at.invariant.within);
      line = c.put.ensures.line ∙ c.loop-at.invariant.line;
      devices = λ script stands. one_put script c.args.devices.now (c.loop-at.at - 1) c.index-devices-at.result c.in_ok-device_of.field-0 c.put.new.self below c.index-devices-at.is (c.in_ok-device_of.ensures.begins script stands)
          (c.put.ensures.next _ (subst (λ (k : ℕ). AreDevices c.loop-at.made (device_begun script (drop k c.args.devices.now))) (sym next) (c.loop-at.invariant.devices script stands)));
    }
