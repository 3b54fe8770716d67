use Rattle.std.proofs.Common.{◌≡◌, ◌<◌, ◌^◌, take, drop}
use Rattle.knx_model.specs.Parameters.{bits_of, bits_value}
use Rattle.parameter_memory.proofs.reading.number_at.Given as goal

-- the number of the bits so far
abbrev pub invariant-loop-place : goal.invariant-loop-place
invariant-loop-place l = record {
  value : l.number ≡ bits_value (take l.place (drop l.at (bits_of l.memory)));
  small : l.number < 2 ^ l.place;
}
