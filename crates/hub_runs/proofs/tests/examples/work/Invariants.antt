use Rattle.std.proofs.Common.{◌≤◌, length}
use Rattle.hub_runs.proofs.tests.examples.work.Given as goal

-- its worker is there
abbrev pub invariant-loop : goal.invariant-loop
invariant-loop g l = 1 ≤ length l.hub.crew
