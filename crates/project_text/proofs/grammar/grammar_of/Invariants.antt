use Rattle.std.proofs.Common.{length}
use Rattle.project_text.proofs.FirstLine.{GrammarOn}
use Rattle.project_text.proofs.grammar.grammar_of.Given as goal

abbrev pub invariant-loop-text : goal.invariant-loop-text
invariant-loop-text l = GrammarOn l.octets l.first l.rest

abbrev pub decreases-loop-text : goal.decreases-loop-text
decreases-loop-text l = length l.rest
