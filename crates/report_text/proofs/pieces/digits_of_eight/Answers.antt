use Rattle.std.proofs.Common.{◌≡◌, ◌∙◌, [], ◌∷◌, length, sym, ap, arith}
use Rattle.knx_model.specs.TextLines.{hex_text}
use Rattle.report_text.proofs.Lists.{eight}
use Rattle.report_text.proofs.pieces.digits_of_eight.Goals as goal

pub returns : goal.returns
returns c =
    let long : length c.args.octets ≡ 8 = omega arith in
    (λ i. c.hex_digit.ensures i ∷ c.hex_digit-2.ensures i ∷ c.hex_digit-3.ensures i ∷ c.hex_digit-4.ensures i ∷ c.hex_digit-5.ensures i ∷ c.hex_digit-6.ensures i ∷ c.hex_digit-7.ensures i ∷ c.hex_digit-8.ensures i ∷ c.hex_digit-9.ensures i ∷ c.hex_digit-10.ensures i ∷ c.hex_digit-11.ensures i ∷ c.hex_digit-12.ensures i ∷ c.hex_digit-13.ensures i ∷ c.hex_digit-14.ensures i ∷ c.hex_digit-15.ensures i ∷ c.hex_digit-16.ensures i ∷ []) ∙ sym (ap hex_text (eight c.args.octets long))
