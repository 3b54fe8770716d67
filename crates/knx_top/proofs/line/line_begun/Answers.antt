use Rattle.knx_top.proofs.Begins.{begins_line, can_load, strange}
use Rattle.knx_top.proofs.line.line_begun.Goals as goal

pub load-requires : goal.load-requires
load-requires g c = rw (c.tunnel_address.ensures, c.as_slice-3.ensures) (can_load c.args.new.now c.args.old.now c.in_ok-devices.devices (rw (c.as_slice-2.ensures, c.in_ok-bus.ensures) at c.in_ok-devices.ensures))

pub returns-in-Ok-clause-begun : goal.returns-in-Ok-clause-begun
returns-in-Ok-clause-begun g c =
    begins_line c.args.new.now c.args.old.now c.args.script.now.lines c.tunnel_address.result c.as_slice-3.result.now _ c.in-Ok.ensures.loaded c.tunnel_address.ensures
    (rw c.as_slice-3.ensures (rw (c.as_slice-2.ensures, c.in_ok-bus.ensures) at c.in_ok-devices.ensures)) c.in-Ok.ensures.known

pub returns-clause-refused : goal.returns-clause-refused
returns-clause-refused g c =
    strange c.args.new.now c.args.old.now c.args.script.now.lines c.as_slice-3.result.now c.in-Err.refused c.refusal.result
    (rw c.as_slice-3.ensures (rw (c.as_slice-2.ensures, c.in_ok-bus.ensures) at c.in_ok-devices.ensures)) c.in-Err.ensures.refused c.refusal.ensures.memory c.refusal.ensures.other
