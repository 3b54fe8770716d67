use Rattle.std.proofs.Common.{◌≡◌, List, None}
use Rattle.knx_model.specs.declared.address.IndAddr.{IndAddr as Address}
use Rattle.line_model.specs.LinkStory.{newest_time}
use Rattle.line_model.specs.Record.{Placed, entries}
use Rattle.tunnel_link.specs.Adds.{Growing}
use Rattle.tunnel_link.specs.Alone.{Each, EndsNone}
use Rattle.tunnel_link.specs.Goes.{GoesOn}
use Rattle.address_commission.specs.Going.{Going, GoingExact}
use Rattle.address_commission.specs.Calls.{ClosesSo, LeavesSince, PaceKept}
use Rattle.address_commission.specs.Exact.{WhereClock}
use Rattle.address_commission.proofs.close.await_response.Given as goal

-- no request is put, and the response is still awaited
abbrev pub invariant-loop : goal.invariant-loop
invariant-loop g l = record {
  next : (goal.iterator-loop g).can_next l.iterator';
  finite : (goal.iterator-loop g).is_finite l.iterator';
  closes : (wanted : Address) → Going (ClosesSo wanted) (g.L.Link.story l.fn.tunnel.link) (g.L.Link.story l.tunnel.link);
  paces : GoingExact PaceKept (g.L.Link.story l.fn.tunnel.link) (g.L.Link.story l.tunnel.link);
  awaits : (talk : List Placed) → newest_time (entries talk) ≡ l.fn.began → WhereClock (LeavesSince 64 talk) (g.L.Link.story l.fn.tunnel.link) → WhereClock (LeavesSince l.left talk) (g.L.Link.story l.tunnel.link);
  stands : l.tunnel.known.fault ≡ None;
  grows : GoesOn (g.L.Link.story l.fn.tunnel.link) (g.L.Link.story l.tunnel.link);
  alone : Growing (Each EndsNone) (g.L.Link.story l.fn.tunnel.link) (g.L.Link.story l.tunnel.link);
  counts : g.L.Link.faults l.tunnel.link ≡ g.L.Link.faults l.fn.tunnel.link;
  script : g.L.Link.script l.tunnel.link ≡ g.L.Link.script l.fn.tunnel.link;
}
