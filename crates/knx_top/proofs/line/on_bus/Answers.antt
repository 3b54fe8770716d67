use Rattle.std.proofs.Common.{arith}
use Rattle.knx_top.proofs.OnBus.{bus_step, bus_whole}
use Rattle.knx_top.proofs.line.on_bus.Goals as goal

pub loop-part-preserved : goal.loop-part-preserved
loop-part-preserved c =
    bus_step c.args.new.now c.args.old.now c.loop-part.part c.is_in_either.result c.loop-part.devices _ c.loop-part-test.true
    (rw c.tunnel_address-line.ensures at c.is_in_either.ensures) c.loop-part.invariant (rw c.tunnel_address-line.ensures at c.in_ok-push_where.ensures)

pub returns : goal.returns
returns c = bus_whole c.args.new.now c.args.old.now c.loop-part.part _ (omega (arith, c.loop-part-test.false)) c.loop-part.invariant
