use Rattle.std.proofs.Common.{take}
use Rattle.call_parts.specs.OnLine.{AreCompiled}
use Rattle.knx_top.proofs.line.compiled.Given as goal

-- each device so far has its image
abbrev pub invariant-loop-device : goal.invariant-loop-device
invariant-loop-device l = AreCompiled l.checked l.listed (take l.device-index l.devices)
