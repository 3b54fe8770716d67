use Rattle.std.proofs.Common.{length}
use Rattle.project_text.proofs.Steps.{ReadsOn}
use Rattle.project_text.proofs.read.read_lines.Given as goal

abbrev pub invariant-loop-text : goal.invariant-loop-text
invariant-loop-text l = ReadsOn l.grammar l.is_plain l.first l.octets l.statements l.line l.rest

abbrev pub decreases-loop-text : goal.decreases-loop-text
decreases-loop-text l = length l.rest
