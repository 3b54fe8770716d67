use Rattle.std.proofs.Common.{◌≡◌, [], length, take}
use Rattle.knx_model.specs.declared.catalogue.model.Model.{Model}
use Rattle.knx_model.specs.Models.{IsModel}
use Rattle.knx_model.specs.Parameters.{bits_of, set_value, AreSettings}
use Rattle.parameter_memory.specs.Bits.{AreOctets, HoldsFields}
use Rattle.parameter_memory.proofs.laying.write_settings.Given as goal

-- the settings so far are written over the defaults
abbrev pub invariant-loop-setting : goal.invariant-loop-setting
invariant-loop-setting l = record {
  octets : AreOctets l.fn.memory → AreOctets l.memory;
  holds : (m : Model) → IsModel m → AreSettings m l.settings → length l.memory ≡ m.params → HoldsFields (bits_of l.fn.memory) m.parameters (set_value []) → HoldsFields (bits_of l.memory) m.parameters (set_value (take l.setting-index l.settings));
}
