use Rattle.knx_top.proofs.Values.{one_value_more}
use Rattle.knx_top.proofs.shown.values_of.Goals as goal

pub loop-before-preserved : goal.loop-before-preserved
loop-before-preserved c = one_value_more c.args.device.now c.loop-before.before _ _ c.loop-before.invariant c.in_ok-push_value.ensures
