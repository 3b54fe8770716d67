use Rattle.parameter_memory.proofs.Digits.{bit_is_set, bit_is_cleared}
use Rattle.parameter_memory.proofs.bits.with_bit.Goals as goal

pub returns-then-is_set : goal.returns-then-is_set
returns-then-is_set c = rw (c.if-is_set.true) (bit_is_set c.args.octet c.args.place c.requires)

pub returns-else-is_set : goal.returns-else-is_set
returns-else-is_set c = rw (c.if-is_set.false) (bit_is_cleared c.args.octet c.args.place c.requires)
