use Rattle.std.proofs.Common.{◌≡◌, length}
use Rattle.std.specs.List.{AllByRecursion}
use Rattle.hub_work.specs.Requests.{IsTurnInRange}
use Rattle.hub_runs.proofs.tests.group_turns.Given as goal

-- those so far are in range, and one came of each telegram so far
abbrev pub invariant-loop-telegram : goal.invariant-loop-telegram
invariant-loop-telegram l = record {
  range : AllByRecursion IsTurnInRange l.turns;
  each : length l.turns ≡ l.telegram-index;
}
