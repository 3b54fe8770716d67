use Rattle.std.proofs.Common.{◌+◌, ◌-◌}
use Rattle.thread_vectors.proofs.cells.+fn-run-join+arg2+run.Given as goal

abbrev pub decreases-join+arg2 : goal.decreases-join+arg2
decreases-join+arg2 g l = l.count + l.count - 1

abbrev pub decreases-run : goal.decreases-run
decreases-run g l = l.count + l.count
