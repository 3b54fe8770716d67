use Rattle.std.proofs.Common.{◌≡◌}
use Rattle.shared_hub.proofs.heard.Heard.collect.Given as goal

-- what is kept is what the ear got
abbrev pub invariant-loop : goal.invariant-loop
invariant-loop g l = record {
  next : (goal.iterator-loop g).can_next l.iterator';
  finite : (goal.iterator-loop g).is_finite l.iterator';
  of : l.ear.router ≡ l.fn.ear.router;
  pushed : l.ear.pushed ≡ l.fn.ear.pushed;
  all : l.self ≡ l.ear.got;
}
