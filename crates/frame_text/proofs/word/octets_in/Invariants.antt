use Rattle.std.proofs.Common.{◌≡◌, length}
use Rattle.knx_model.specs.Values.{hex_octets}
use Rattle.knx_model.proofs.Values.{before}
use Rattle.frame_text.proofs.word.octets_in.Given as goal

-- the octets so far, before those of the digits that are left
abbrev pub invariant-loop-high : goal.invariant-loop-high
invariant-loop-high l = hex_octets l.digits ≡ before l.octets (hex_octets l.rest)

abbrev pub decreases-loop-high : goal.decreases-loop-high
decreases-loop-high l = length l.rest
