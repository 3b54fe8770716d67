use Rattle.std.proofs.Common.{◌≡◌, ◌++◌, length}
use Rattle.frame_text.specs.GatewayText.{printed}
use Rattle.frame_text.proofs.gateway.put_printed.Given as goal

abbrev pub invariant-loop-rest : goal.invariant-loop-rest
invariant-loop-rest l = l.out ++ printed l.rest ≡ l.initial.out ++ printed l.name

abbrev pub decreases-loop-rest : goal.decreases-loop-rest
decreases-loop-rest l = length l.rest
