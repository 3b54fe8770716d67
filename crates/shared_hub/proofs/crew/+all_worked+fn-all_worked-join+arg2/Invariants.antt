use Rattle.std.proofs.Common.{◌+◌, ◌-◌}
use Rattle.shared_hub.proofs.crew.+all_worked+fn-all_worked-join+arg2.Given as goal

abbrev pub decreases-all_worked : goal.decreases-all_worked
decreases-all_worked g l = l.count + l.count

abbrev pub decreases-join+arg2 : goal.decreases-join+arg2
decreases-join+arg2 g l = l.count + l.count - 1
