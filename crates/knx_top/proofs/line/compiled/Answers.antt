use Rattle.std.proofs.Common.{refl}
use Rattle.call_parts.specs.OnLine.{IsCompiled}
use Rattle.call_parts.proofs.Pairs.{AllZip_more}
use Rattle.knx_top.proofs.line.compiled.Goals as goal

pub loop-device-preserved : goal.loop-device-preserved
loop-device-preserved c =
    AllZip_more (IsCompiled c.args.checked.now) c.loop-device.listed c.push.new.self c.args.devices.now c.loop-device.device-index _ _ c.loop-device-test.true c.in_ok-push.ensures.ok c.loop-device.invariant
    (record { device = refl; image = c.in_ok-image.ensures })
