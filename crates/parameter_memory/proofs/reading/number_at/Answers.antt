use Rattle.std.proofs.Common.{◌≡◌, ℕ, ◌<◌, List, length, get_or, drop, refl, sym, ◌∙◌, arith}
use Rattle.std.proofs.lemmas.List.{length-drop, get_or-drop}
use Rattle.knx_model.specs.Parameters.{bits_of}
use Rattle.parameter_memory.proofs.Digits.{value_more, doubled, length-bits_of}
use Rattle.parameter_memory.proofs.reading.number_at.Goals as goal

pub loop-place-preserved : goal.loop-place-preserved
loop-place-preserved c =
    let bits : List ℕ = drop c.args.at (bits_of c.args.memory.now) in
    let place = c.loop-place.place in
    let lt : place < length bits = omega (arith, length-drop c.args.at (bits_of c.args.memory.now), length-bits_of c.args.memory.now, c.requires.within) in
    let bit : get_or bits place 0 ≡ c.from.result = get_or-drop c.args.at (bits_of c.args.memory.now) place 0 ∙ sym c.bit_at.ensures.value ∙ grind (arith, c.from.ensures) in
    record {
      value = sym (value_more bits place lt ∙ rw (bit, ← c.loop-place.invariant.value) refl);
      small = doubled c.loop-place.number c.from.result place c.loop-place.invariant.small (grind (arith, c.bit_at.ensures.small, c.from.ensures));
    }
