use Rattle.std.proofs.Common.{length}
use Rattle.std.specs.Prelude.{min}
use Rattle.project_check.specs.Links.{IsLeastRepeat}
use Rattle.project_check.proofs.links.least_repeat.Given as goal

abbrev pub invariant-loop-i : goal.invariant-loop-i
invariant-loop-i l = IsLeastRepeat l.links l.least (min l.i (length l.links))
