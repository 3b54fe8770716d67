use Rattle.std.proofs.Common.{length}
use Rattle.discovery.specs.Sorts.{sort_of}
use Rattle.discovery.proofs.Walking.{Along}
use Rattle.discovery.proofs.blocks.walk.only.Given as goal

abbrev pub invariant-loop-rest : goal.invariant-loop-rest
invariant-loop-rest l = Along (sort_of l.sort) l.fn.octets l.rest l.found

abbrev pub decreases-loop-rest : goal.decreases-loop-rest
decreases-loop-rest l = length l.rest
