use Rattle.std.proofs.Common.{Option, sym, subst}
use Rattle.std.specs.Prelude.{IsSome}
use Rattle.bus_sim.specs.RunNow.{world}
use Rattle.knx_model.specs.declared.address.IndAddr.{IndAddr}
use Rattle.knx_model.specs.declared.config.Image.{Image}
use Rattle.knx_top.specs.Shown.{IsShownIn}
use Rattle.call_parts.proofs.Pairs.{AllZip_more}
use Rattle.knx_top.proofs.shown.all_shown.Goals as goal

pub shown_at-requires : goal.shown_at-requires
shown_at-requires c =
    subst (λ (d : IndAddr × Option Image). IsSome ((world c.args.line.now.run).devices d.0.raw)) (sym c.device-item.is) (c.requires c.loop-device.device-index c.device-item.result c.loop-device-test.true)

pub loop-device-preserved : goal.loop-device-preserved
loop-device-preserved c =
    let shows : IsShownIn (world c.args.line.now.run) c.in_ok-shown_at.field-0 c.device-item.result = c.in_ok-shown_at.ensures in
    AllZip_more (IsShownIn (world c.args.line.now.run)) c.loop-device.all c.push.new.self c.args.devices.now c.loop-device.device-index c.in_ok-shown_at.field-0 c.device-item.result c.loop-device-test.true c.in_ok-push.ensures.ok c.loop-device.invariant
    (subst (λ (d : IndAddr × Option Image). IsShownIn (world c.args.line.now.run) c.in_ok-shown_at.field-0 d) c.device-item.is shows)
