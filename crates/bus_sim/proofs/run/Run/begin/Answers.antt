use Rattle.std.proofs.Common.{subst}
use Rattle.line_model.specs.Lines.{script_of}
use Rattle.script_index.specs.Stands.{StandsFor}
use Rattle.bus_sim.specs.Begun.{said, device_begun}
use Rattle.bus_sim.proofs.Starts.{held_start}
use Rattle.bus_sim.proofs.run.Run.begin.Goals as goal

pub invariant_of-result : goal.invariant_of-result
invariant_of-result c =
    let stands : StandsFor c.in_ok-index.index (said c.args.begun) = subst (λ ls. StandsFor c.in_ok-index.index (script_of ls)) c.as_slice.ensures c.in_ok-index.ensures in
    held_start c.args.begun c.new-4.result.list c.in_ok-index.index c.in_ok-line.line c.in_ok-counts.counts c.new-5.result.list c.requires c.new-4.ensures stands
    (c.in_ok-line.ensures (device_begun (said c.args.begun) c.args.begun.devices) (c.in_ok-begin.ensures.devices (said c.args.begun) stands)) c.in_ok-counts.ensures c.new-5.ensures
