use Rattle.std.proofs.Common.{refl, ◌∙◌}
use Rattle.hub_core.proofs.Since.{since_itself}
use Rattle.shared_hub.proofs.Leaving.{closing_leaves, closing_begins, how_far_first}
use Rattle.shared_hub.proofs.Still.{called, going}
use Rattle.shared_hub.proofs.Telling.{stays_done}
use Rattle.shared_hub.proofs.ending.Ending.closes.Goals.{in-None, in-Some+in_ok-finishes+then-branch}
use Rattle.shared_hub.proofs.ending.Ending.closes.Goals as goal

pub returns-in_err-finishes-clause-since : goal.returns-in_err-finishes-clause-since
returns-in_err-finishes-clause-since g c = going g.L.Link.story g.L.Link.script g.L.Link.faults c.args.self.now.hub c.loop.self.hub c.finishes.new.self.hub c.loop.invariant.since c.finishes.ensures.since

pub returns-clause-since : goal.returns-clause-since
returns-clause-since g c = elim c.match-next.branch [
  | in-None w ↦ rw w.self-is c.loop.invariant.since
  | in-Some+in_ok-finishes+then-branch w ↦ rw w.self-is (going g.L.Link.story g.L.Link.script g.L.Link.faults c.args.self.now.hub c.loop.self.hub w.finishes.new.self.hub c.loop.invariant.since w.finishes.ensures.since)
]

pub loop-preserved : goal.loop-preserved
loop-preserved g c = record {
  next = tt;
  finite = tt;
  since = going g.L.Link.story g.L.Link.script g.L.Link.faults c.args.self.now.hub c.loop.self.hub c.finishes.new.self.hub c.loop.invariant.since c.finishes.ensures.since;
  done = c.in_ok-finishes.ensures.done;
  log = c.finishes.ensures.log ∙ c.loop.invariant.log;
  closes = c.finishes.ensures.closes;
  far = c.in_ok-finishes.ensures.far;
  stands = c.in_ok-finishes.ensures.stands;
  heard = c.finishes.ensures.heard;
}

pub returns-clause-heard : goal.returns-clause-heard
returns-clause-heard g c = elim c.match-next.branch [
  | in-None w ↦ rw w.self-is c.loop.invariant.heard
  | in-Some+in_ok-finishes+then-branch w ↦ rw w.self-is w.finishes.ensures.heard
]

pub returns-clause-done : goal.returns-clause-done
returns-clause-done g c = elim c.match-next.branch [
  | in-None w ↦ rw w.self-is c.loop.invariant.done
  | in-Some+in_ok-finishes+then-branch w ↦ rw w.self-is w.in_ok-finishes.ensures.done
]

pub returns-in_err-finishes-clause-leaves : goal.returns-in_err-finishes-clause-leaves
returns-in_err-finishes-clause-leaves g c = closing_leaves c.finishes.new.self.hub (g.L.Link.story c.finishes.new.self.hub.link) c.finishes.ensures.closes (stays_done c.loop.self.hub c.finishes.new.self.hub c.finishes.ensures.since.run.devices c.finishes.ensures.since.run.turns c.finishes.ensures.log c.loop.invariant.done)

pub returns-clause-leaves : goal.returns-clause-leaves
returns-clause-leaves g c = elim c.match-next.branch [
  | in-None w ↦ rw w.self-is (closing_leaves _ _ c.loop.invariant.closes c.loop.invariant.done)
  | in-Some+in_ok-finishes+then-branch w ↦ rw w.self-is (closing_leaves _ _ w.finishes.ensures.closes w.in_ok-finishes.ensures.done)
]

pub loop-init : goal.loop-init
loop-init g c = record {
  next = tt;
  finite = tt;
  since = called g.L.Link.story g.L.Link.script g.L.Link.faults since_itself;
  done = c.requires.done;
  log = refl;
  closes = closing_begins c.args.self.now.hub (g.L.Link.story c.args.self.now.hub.link) c.requires.done c.requires.through;
  far = how_far_first c.args.self.now.hub (g.L.Link.story c.args.self.now.hub.link) c.requires.done c.requires.through;
  stands = c.requires.stands;
  heard = c.requires.heard;
}

pub returns-clause-stands : goal.returns-clause-stands
returns-clause-stands g c = elim c.match-next.branch [
  | in-None w ↦ rw w.self-is c.loop.invariant.stands
  | in-Some+in_ok-finishes+then-branch w ↦ rw w.self-is w.in_ok-finishes.ensures.stands
]
