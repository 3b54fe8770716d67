use Rattle.std.proofs.Common.{◌≡◌, ◌++◌, length, drop, take}
use Rattle.knx_model.specs.TextLines.{hex_text}
use Rattle.report_text.proofs.pieces.put_all_digits.Given as goal

-- the digits so far and those of the octets that are left are all digits, behind what stood before
abbrev pub invariant-loop-rest : goal.invariant-loop-rest
invariant-loop-rest l = record {
  all : l.out ++ hex_text l.rest ≡ l.fn.out ++ hex_text l.octets;
  stood : take (length l.fn.out) l.out ≡ l.fn.out;
}

abbrev pub decreases-loop-rest : goal.decreases-loop-rest
decreases-loop-rest l = length l.rest

-- the same, where fewer than eight are left
abbrev pub invariant-loop-octet : goal.invariant-loop-octet
invariant-loop-octet l = record {
  all : l.out ++ hex_text (drop l.octet-index l.octet-items) ≡ l.fn.out ++ hex_text l.octets;
  stood : take (length l.fn.out) l.out ≡ l.fn.out;
}
