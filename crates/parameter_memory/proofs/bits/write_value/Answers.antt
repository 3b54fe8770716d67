use Rattle.std.proofs.Common.{◌≡◌, ℕ, ◌+◌, ◌-◌, ◌*◌, ◌/◌, ◌%◌, ◌^◌, ◌<◌, length, set, nat_eq, ap, ◌∙◌, arith}
use Rattle.std.proofs.lemmas.List.Elements.{All-set}
use Rattle.std.specs.Int.Bits.{bit_and}
use Rattle.knx_model.specs.Parameters.{bits_of}
use Rattle.parameter_memory.specs.Bits.{digit}
use Rattle.parameter_memory.proofs.Digits.{bit_written, digit_of}
use Rattle.parameter_memory.proofs.Written.{one_more}
use Rattle.parameter_memory.proofs.bits.write_value.Goals as goal

pub loop-place-preserved : goal.loop-place-preserved
loop-place-preserved c =
    let p = c.loop-place.place in
    let bit : ℕ = c.args.at + p in
    let memory = c.loop-place.memory in
    let left : ℕ = c.args.width - p - 1 in
    let within : bit < 8 * length memory = omega (arith, c.requires.within, c.loop-place.auto.memory, c.loop-place-test.true) in
    let one = bit_written memory bit c.with_bit.result (digit (nat_eq (bit_and (c.args.value / 2 ^ left) 1) 1)) within c.with_bit.ensures in
    let here : bits_of (set memory (bit / 8) c.with_bit.result) ≡ set (bits_of memory) bit (c.args.value / 2 ^ left % 2) = one ∙ ap (λ (b : ℕ). set (bits_of memory) bit b) (digit_of c.args.value left) in
    record {
      octets = λ before. All-set (λ (o : ℕ). o < 256) memory (bit / 8) c.with_bit.result c.with_bit.type_inv (c.loop-place.invariant.octets before);
      bits = rw here (one_more (bits_of memory) bit (c.args.at + (p + 1)) left (c.args.width - p) (c.args.width - (p + 1)) c.args.value (omega arith) (omega arith) (omega arith) ∙ c.loop-place.invariant.bits);
    }
