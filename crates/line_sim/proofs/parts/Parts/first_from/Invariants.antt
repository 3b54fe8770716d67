use Rattle.std.proofs.Common.{◌*◌}
use Rattle.line_sim.proofs.Bits.{NoneFrom}
use Rattle.line_sim.proofs.parts.Parts.first_from.Given as goal

abbrev pub invariant-loop-word : goal.invariant-loop-word
invariant-loop-word l = NoneFrom l.self l.from (l.word * 64)
