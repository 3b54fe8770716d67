use Rattle.std.proofs.Common.{◌≡◌}
use Rattle.shared_hub.proofs.seated.listen.Given as goal

-- the listener stays at its relay
abbrev pub invariant-loop : goal.invariant-loop
invariant-loop g l = record {
  next : (goal.iterator-loop g).can_next l.iterator';
  finite : (goal.iterator-loop g).is_finite l.iterator';
  of : l.listener.router ≡ l.initial.listener.router;
}
