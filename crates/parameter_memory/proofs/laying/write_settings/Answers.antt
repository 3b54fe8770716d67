use Rattle.std.proofs.Common.{◌≡◌, ◌*◌, length, take, subst, arith}
use Rattle.std.proofs.lemmas.List.{take_all}
use Rattle.knx_model.specs.declared.config.ParamValue.{ParamValue}
use Rattle.knx_model.specs.Parameters.{bits_of, set_value}
use Rattle.parameter_memory.specs.Bits.{HoldsFields}
use Rattle.parameter_memory.proofs.Digits.{length-bits_of}
use Rattle.parameter_memory.proofs.Holds.{sets}
use Rattle.parameter_memory.proofs.laying.write_settings.Goals as goal

pub loop-setting-preserved : goal.loop-setting-preserved
loop-setting-preserved c = record {
  octets = λ before. c.write_value.ensures.octets (c.loop-setting.invariant.octets before);
  holds = λ m model settings size before.
      let d : ParamValue = record { bit = 0; width = 0; value = 0 } in
      let memory = c.loop-setting.memory in
      let same : length memory ≡ m.params = omega (arith, size, c.write_value.auto.memory) in
      let len : length (bits_of memory) ≡ 8 * m.params = omega (arith, same, length-bits_of memory) in
      let next = sets m c.args.settings.now c.loop-setting.setting-index d (bits_of memory) model settings c.loop-setting-test.true len (c.loop-setting.invariant.holds m model settings same before) in
      rw (c.write_value.ensures.bits, c.from.ensures) next;
}

pub returns-clause-holds : goal.returns-clause-holds
returns-clause-holds c m model settings size before =
    let same : length c.loop-setting.memory ≡ m.params = omega (arith, size, c.loop-setting.auto.memory) in
    let all : take c.loop-setting.setting-index c.args.settings.now ≡ c.args.settings.now = take_all c.loop-setting.setting-index c.args.settings.now c.loop-setting-test.false in
    subst (λ s. HoldsFields (bits_of c.loop-setting.memory) m.parameters (set_value s)) all (c.loop-setting.invariant.holds m model settings same before)
