use Rattle.std.proofs.Common.{◌≡◌, ◌++◌, length, map}
use Rattle.frame_text.specs.GatewayText.{family_text}
use Rattle.frame_text.specs.Spaced.{spaced}
use Rattle.frame_text.proofs.gateway.put_pairs.Given as goal

abbrev pub invariant-loop-rest : goal.invariant-loop-rest
invariant-loop-rest l = l.out ++ spaced (map family_text l.rest) ≡ l.initial.out ++ spaced (map family_text l.pairs)

abbrev pub decreases-loop-rest : goal.decreases-loop-rest
decreases-loop-rest l = length l.rest
