use Rattle.shared_hub.specs.Relays.{SameButMissed}
use Rattle.shared_hub.proofs.Missing.{Missed}
use Rattle.shared_hub.proofs.listener.miss_all.Given as goal

-- each that was taken out of the queue is missed
abbrev pub invariant-loop : goal.invariant-loop
invariant-loop g l = record {
  next : (goal.iterator-loop g).can_next l.iterator';
  finite : (goal.iterator-loop g).is_finite l.iterator';
  missed : Missed l.fn.ear l.ear l.fn.hub.missed l.hub.missed;
  hub : SameButMissed l.fn.hub l.hub;
}
