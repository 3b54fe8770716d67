use Rattle.hub_work.proofs.Lasting.{LooksSoFar}
use Rattle.hub_work.proofs.work.Work.wait_ms.Given as goal

abbrev pub invariant-loop-place : goal.invariant-loop-place
invariant-loop-place l = LooksSoFar l.self l.now l.has_place l.place l.wait
