use Rattle.std.proofs.Common.{◌≡◌, None, Ok}
use Rattle.address_commission.specs.Calls.{TalkGoes}
use Rattle.address_talk.specs.Rounds.{SameRounds}
use Rattle.address_commission.proofs.open.open.Given as goal

-- the talk goes on, and no request is put
abbrev pub invariant-loop : goal.invariant-loop
invariant-loop g l = record {
  next : (goal.iterator-loop g).can_next l.iterator';
  finite : (goal.iterator-loop g).is_finite l.iterator';
  goes : TalkGoes {X = Unit {0}} SameRounds l.fn.ear l.ear (g.L.Link.story l.fn.tunnel.link) (g.L.Link.story l.tunnel.link) (Ok tt);
  stands : l.tunnel.known.fault ≡ None;
  counts : g.L.Link.faults l.tunnel.link ≡ g.L.Link.faults l.fn.tunnel.link;
  script : g.L.Link.script l.tunnel.link ≡ g.L.Link.script l.fn.tunnel.link;
}
