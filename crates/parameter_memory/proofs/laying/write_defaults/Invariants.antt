use Rattle.std.proofs.Common.{[], take}
use Rattle.knx_model.specs.Parameters.{bits_of, set_value}
use Rattle.parameter_memory.specs.Bits.{AreOctets, HoldsFields}
use Rattle.parameter_memory.proofs.laying.write_defaults.Given as goal

-- the fields so far hold their defaults
abbrev pub invariant-loop-field : goal.invariant-loop-field
invariant-loop-field l = record {
  octets : AreOctets l.fn.memory → AreOctets l.memory;
  holds : HoldsFields (bits_of l.memory) (take l.field-index l.fields) (set_value []);
}
