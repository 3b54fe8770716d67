use Rattle.std.proofs.Common.{sym}
use Rattle.knx_model.proofs.Values.{short_many}
use Rattle.knx_model.proofs.words.value.short_in.Goals as goal

-- more than two digits
pub returns-then-not-is_empty : goal.returns-then-not-is_empty
returns-then-not-is_empty c = sym (short_many c.args.digits.now c.in_ok-high.after.now _ _ c.in_ok-high.ensures.some (sym c.if-not-is_empty.ensures))
