use Rattle.std.proofs.Common.{arith}
use Rattle.hub_work.proofs.CameFor.{for_worker, for_worker_0}
use Rattle.hub_work.proofs.crew.Crew.came.Goals as goal

pub returns-then-worker-ne0-clause-came : goal.returns-then-worker-ne0-clause-came
returns-then-worker-ne0-clause-came c = for_worker _ _ c.args.worker c.place_of.result (omega (arith, c.if-worker-ne0.true)) (c.place_of.ensures (omega (arith, c.if-worker-ne0.true))) c.came_at.ensures.came

pub returns-else-worker-ne0-clause-came : goal.returns-else-worker-ne0-clause-came
returns-else-worker-ne0-clause-came c = for_worker_0 _ c.args.worker (omega (arith, c.if-worker-ne0.false))
