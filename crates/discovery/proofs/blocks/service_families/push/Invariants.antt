use Rattle.std.proofs.Common.{◌≡◌, ◌+◌, ◌*◌, ◌++◌, take, length}
use Rattle.discovery.specs.Discovery.{pair_octets}
use Rattle.discovery.proofs.blocks.service_families.push.Given as goal

abbrev pub invariant-loop-pair : goal.invariant-loop-pair
invariant-loop-pair l = record {
  so_far : l.out ≡ l.initial.out ++ pair_octets (take l.pair-index l.pairs);
  lengths : length l.out ≡ length l.initial.out + 2 * l.pair-index;
}
