use Rattle.std.proofs.Common.{◌≡◌, filter, map}
use Rattle.std.specs.List.{range_with_len}
use Rattle.knx_model.specs.declared.address.IndAddr.{IndAddr}
use Rattle.line_model.specs.StartOf.{line_of, tunnel_address, is_on_bus}
use Rattle.call_parts.specs.OnLine.{address_at}
use Rattle.knx_top.proofs.line.on_bus.Given as goal

-- the devices so far
abbrev pub invariant-loop-part : goal.invariant-loop-part
invariant-loop-part l = l.devices ≡ filter (λ (d : IndAddr). is_on_bus l.new l.old d.raw) (map (address_at (line_of (tunnel_address l.new).raw)) (range_with_len 0 l.part))
