use Rattle.std.proofs.Common.{◌≡◌, drop}
use Rattle.knx_model.specs.Statements.{are_numbered}
use Rattle.project_text.proofs.project.are_numbered.Given as goal

abbrev pub invariant-loop-statement : goal.invariant-loop-statement
invariant-loop-statement l = are_numbered 0 l.statements ≡ are_numbered l.above (drop l.statement-index l.statements)
