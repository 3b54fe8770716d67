use Rattle.std.proofs.Common.{◌≡◌, ◌++◌, length}
use Rattle.frame_text.specs.GatewayText.{found_text}
use Rattle.frame_text.proofs.gateway.put_findings.Given as goal

abbrev pub invariant-loop-rest : goal.invariant-loop-rest
invariant-loop-rest l = l.out ++ found_text l.rest ≡ l.initial.out ++ found_text l.found

abbrev pub decreases-loop-rest : goal.decreases-loop-rest
decreases-loop-rest l = length l.rest
