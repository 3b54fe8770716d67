use Rattle.std.proofs.Common.{◌≤◌, length}
use Rattle.hub_runs.proofs.tests.polls.ends_at.Given as goal

-- its worker is there
abbrev pub invariant-loop-call : goal.invariant-loop-call
invariant-loop-call l = 1 ≤ length l.hub.crew
