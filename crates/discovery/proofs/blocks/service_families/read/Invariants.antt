use Rattle.std.proofs.Common.{◌≡◌, ◌+◌, ◌*◌, ◌++◌, length}
use Rattle.discovery.specs.Discovery.{pair_octets}
use Rattle.discovery.proofs.blocks.service_families.read.Given as goal

abbrev pub invariant-loop-rest : goal.invariant-loop-rest
invariant-loop-rest l = record {
  so_far : pair_octets l.families ++ l.rest ≡ l.content;
  lengths : 2 * length l.families + length l.rest ≡ length l.content;
}

abbrev pub decreases-loop-rest : goal.decreases-loop-rest
decreases-loop-rest l = length l.rest
