use Rattle.std.proofs.Common.{◌≡◌, None, Ok}
use Rattle.address_commission.specs.Calls.{TalkGoes}
use Rattle.address_talk.specs.Rounds.{SameRounds, rounds}
use Rattle.address_commission.specs.Listening.{ListensFor}
use Rattle.line_model.specs.Moments.{moments}
use Rattle.tunnel_link.specs.Rights.{WhereTold}
use Rattle.address_commission.proofs.wait.wait_out.Given as goal

-- the talk goes on, and no request is put
abbrev pub invariant-loop : goal.invariant-loop
invariant-loop g l = record {
  next : (goal.iterator-loop g).can_next l.iterator';
  finite : (goal.iterator-loop g).is_finite l.iterator';
  goes : TalkGoes {X = Unit {0}} SameRounds l.fn.ear l.ear (g.L.Link.story l.fn.tunnel.link) (g.L.Link.story l.tunnel.link) (Ok tt);
  for_it : WhereTold (λ places. ListensFor l.fn.quiet_ms (rounds (moments places))) (g.L.Link.story l.tunnel.link);
  stands : l.tunnel.known.fault ≡ None;
  counts : g.L.Link.faults l.tunnel.link ≡ g.L.Link.faults l.fn.tunnel.link;
  script : g.L.Link.script l.tunnel.link ≡ g.L.Link.script l.fn.tunnel.link;
}
