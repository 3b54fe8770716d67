use Rattle.std.proofs.Common.{◌≡◌, ◌+◌, ◌*◌, length}
use Rattle.knx_model.specs.Values.{hex_octets}
use Rattle.knx_model.proofs.Values.{before}
use Rattle.knx_model.proofs.words.value.octets_in.Given as goal

abbrev pub invariant-loop-high : goal.invariant-loop-high
invariant-loop-high l = record {
  so_far : hex_octets l.digits ≡ before l.octets.items (hex_octets l.rest);
  lengths : length l.octets.items * 2 + length l.rest ≡ length l.digits;
}

abbrev pub decreases-loop-high : goal.decreases-loop-high
decreases-loop-high l = length l.rest
