use Rattle.std.proofs.Common.{◌∙◌, ◌++◌, ap}
use Rattle.report_text.proofs.Lists.{eight_more, stood_more}
use Rattle.report_text.proofs.pieces.put_all_digits.Goals as goal

pub loop-rest-preserved : goal.loop-rest-preserved
loop-rest-preserved c = record {
  all = eight_more c.loop-rest.out c.append.new.self _ c.loop-rest.rest.now c.in-len8-up.len_at_least (c.in_ok-append.ensures.ok ∙ ap (λ ds. c.loop-rest.out ++ ds) c.digits_of_eight.ensures) c.loop-rest.invariant.all;
  stood = stood_more _ c.loop-rest.out _ c.append.new.self c.loop-rest.invariant.stood c.in_ok-append.ensures.ok;
}
