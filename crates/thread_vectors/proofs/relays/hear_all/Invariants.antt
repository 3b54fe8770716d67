use Rattle.std.proofs.Common.{◌≡◌}
use Rattle.thread_vectors.proofs.relays.hear_all.Given as goal

abbrev pub invariant-loop-number : goal.invariant-loop-number
invariant-loop-number g l = l.feed.router ≡ l.initial.feed.router
