use Rattle.std.proofs.Common.{◌≡◌, ◌+◌, ◌<◌, ◌≤◌, ◌^◌, ◌++◌, ◌∷◌, [], length, get_or, take, All, sym, ap, ◌∙◌, subst, arith}
use Rattle.std.proofs.lemmas.List.{take_more}
use Rattle.knx_model.specs.Models.{AreApart, IsField}
use Rattle.knx_model.specs.Parameters.{bits_of, set_value}
use Rattle.parameter_memory.specs.Bits.{overwrite, value_bits, HoldsFields}
use Rattle.parameter_memory.proofs.Digits.{length-bits_of}
use Rattle.parameter_memory.proofs.Holds.{next_default, before_apart}
use Rattle.parameter_memory.proofs.laying.write_defaults.Goals as goal

pub loop-field-preserved : goal.loop-field-preserved
loop-field-preserved c =
    let i = c.loop-field.field-index in
    let fields = c.args.fields.now in
    let f = c.field-item.result in
    let is : f ≡ get_or fields i f = c.field-item.is in
    let good : IsField (length c.args.memory.now) f = subst (IsField (length c.args.memory.now)) (sym is) (c.requires.fields i f c.loop-field-test.true) in
    let bits = bits_of c.loop-field.memory in
    let within : f.bit + f.width ≤ length bits = omega (arith, good.within, c.loop-field.auto.memory, length-bits_of c.loop-field.memory) in
    let small : f.default < 2 ^ f.width = omega (arith, good.greatest, good.holds) in
    let far : All (λ g. AreApart g f) (take i fields) = subst (λ h. All (λ g. AreApart g h) (take i fields)) (sym is) (before_apart fields i f c.requires.apart c.loop-field-test.true) in
    let next : HoldsFields (overwrite bits f.bit (value_bits f.width f.default)) (take i fields ++ f ∷ []) (set_value []) = next_default bits (take i fields) f (set_value []) c.loop-field.invariant.holds within small far in
    let more : take (i + 1) fields ≡ take i fields ++ f ∷ [] = take_more fields i f c.loop-field-test.true ∙ ap (λ g. take i fields ++ g ∷ []) (sym is) in
    record {
      octets = λ before. c.write_value.ensures.octets (c.loop-field.invariant.octets before);
      holds = rw (more, c.write_value.ensures.bits, c.from.ensures) next;
    }
