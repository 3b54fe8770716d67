use Rattle.std.proofs.Common.{◌≡◌, None}
use Rattle.line_model.specs.LinkStory.{record_in}
use Rattle.hub_core.specs.Left.{AllDone}
use Rattle.hub_core.specs.Heard.{HeardIn}
use Rattle.shared_hub.specs.Leaving.{ClosesSo, KnowsHowFar}
use Rattle.shared_hub.specs.Relays.{GoesOnFrom}
use Rattle.shared_hub.proofs.ending.Ending.closes.Given as goal

-- the hub goes on without a fault, the log stays, all is done, and all that was taken is told or missed
abbrev pub invariant-loop : goal.invariant-loop
invariant-loop g l = record {
  next : (goal.iterator-loop g).can_next l.iterator';
  finite : (goal.iterator-loop g).is_finite l.iterator';
  since : GoesOnFrom g.L.Link.story g.L.Link.script g.L.Link.faults l.fn.self.hub l.self.hub;
  done : AllDone l.self.hub;
  log : l.self.hub.log ≡ l.fn.self.hub.log;
  closes : ClosesSo l.self.hub (g.L.Link.story l.self.hub.link);
  far : KnowsHowFar l.self.hub (g.L.Link.story l.self.hub.link);
  stands : l.self.hub.fault ≡ None;
  heard : HeardIn l.self.hub.fault l.self.hub.missed l.self.heard (record_in (g.L.Link.story l.self.hub.link));
}
