use Rattle.std.proofs.Common.{◌≡◌, length}
use Rattle.knx_model.specs.Rules.{repeats_group}
use Rattle.project_check.proofs.rules.repeats_group.Given as goal

-- a group of those that are left stands twice there, just where one stands twice at all
abbrev pub invariant-loop-rest : goal.invariant-loop-rest
invariant-loop-rest l = repeats_group l.rest ≡ repeats_group l.groups

abbrev pub decreases-loop-rest : goal.decreases-loop-rest
decreases-loop-rest l = length l.rest
