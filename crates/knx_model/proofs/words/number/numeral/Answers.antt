use Rattle.std.proofs.Common.{◌∙◌, arith}
use Rattle.std.proofs.lemmas.Bool.{and_from, lt-ltb}
use Rattle.std.proofs.lemmas.Int.Digits.{digits_value_more}
use Rattle.std.proofs.lemmas.List.Folds.{list_all_more}
use Rattle.knx_model.specs.Numbers.{is_digit}
use Rattle.knx_model.proofs.words.number.numeral.Goals as goal

-- one more digit
pub loop-c-preserved : goal.loop-c-preserved
loop-c-preserved c = record {
  number = grind (arith, digits_value_more c.args.radix c.args.digits.now c.loop-c.c-index c.loop-c-test.true);
  digits = list_all_more (is_digit c.args.radix) c.args.digits.now c.loop-c.c-index 0 c.loop-c-test.true ∙ and_from _ _ c.loop-c.invariant.digits (lt-ltb _ _ (omega arith));
}
