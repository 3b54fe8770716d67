use Rattle.std.proofs.Common.{◌≡◌}
use Rattle.shared_hub.specs.Works.{Stays, Got}
use Rattle.shared_hub.proofs.seated.send_groups.Given as goal

-- the seat stays, what it got is the group thread's, and the listener stays at its relay
abbrev pub invariant-loop : goal.invariant-loop
invariant-loop g l = record {
  next : (goal.iterator-loop g).can_next l.iterator';
  finite : (goal.iterator-loop g).is_finite l.iterator';
  stays : Stays l.initial.seat l.seat;
  got : Got 0 l.initial.seat l.seat;
  listens : l.listener.router ≡ l.initial.listener.router;
}
