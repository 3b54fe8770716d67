use Rattle.shared_hub.specs.Works.{Stays, Got}
use Rattle.shared_hub.proofs.seated.work.Given as goal

-- the seat stays, and what it got is its worker's
abbrev pub invariant-loop : goal.invariant-loop
invariant-loop g l = record {
  next : (goal.iterator-loop g).can_next l.iterator';
  finite : (goal.iterator-loop g).is_finite l.iterator';
  stays : Stays l.initial.seat l.seat;
  got : Got l.worker l.initial.seat l.seat;
}
