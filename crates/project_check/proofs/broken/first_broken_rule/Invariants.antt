use Rattle.std.proofs.Common.{◌≡◌, drop}
use Rattle.project_check.specs.Broken.{first_broken_rule}
use Rattle.project_check.proofs.broken.first_broken_rule.Given as goal

-- the first broken one is that of the rules that are left
abbrev pub invariant-loop-is_broken : goal.invariant-loop-is_broken
invariant-loop-is_broken l = first_broken_rule (drop l.is_broken-index l.rules) ≡ first_broken_rule l.rules
