use Rattle.hub_work.proofs.Lasting.{NoneBusyBefore}
use Rattle.hub_work.proofs.work.Work.is_busy.Given as goal

-- none of the workers at the places before this one has something to do
abbrev pub invariant-loop-place : goal.invariant-loop-place
invariant-loop-place l = NoneBusyBefore l.self l.now l.has_place l.place
