use Rattle.std.proofs.Common.{◌≡◌, ◌+◌, ◌-◌}
use Rattle.knx_model.specs.Parameters.{bits_of}
use Rattle.parameter_memory.specs.Bits.{AreOctets, value_bits, overwrite}
use Rattle.parameter_memory.proofs.bits.write_value.Given as goal

-- the bits that are left, over those so far
abbrev pub invariant-loop-place : goal.invariant-loop-place
invariant-loop-place l = record {
  octets : AreOctets l.fn.memory → AreOctets l.memory;
  bits : overwrite (bits_of l.memory) (l.at + l.place) (value_bits (l.width - l.place) l.value) ≡ overwrite (bits_of l.fn.memory) l.at (value_bits l.width l.value);
}
