use Rattle.std.proofs.Common.{arith, length-drop}
use Rattle.knx_edge.proofs.Writes.{taken_more}
use Rattle.knx_edge.proofs.output.write_out.Goals as goal

pub loop-preserved : goal.loop-preserved
loop-preserved g c = (
  omega (arith, length-drop c.loop.taken c.args.octets.now, c.in_ok-taken.ensures.within),
  taken_more _ _ _ c.args.octets.now c.loop.taken c.in_ok-taken.field-0 c.loop.invariant.1 c.in_ok-taken.ensures.front,
)
