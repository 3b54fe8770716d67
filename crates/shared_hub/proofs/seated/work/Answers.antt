use Rattle.std.proofs.Common.{◌∙◌}
use Rattle.shared_hub.specs.Items.{HasFinished}
use Rattle.shared_hub.proofs.Works.{stays_itself, got_none, stays_again, got_again, leads_after, comes_done}
use Rattle.shared_hub.proofs.seated.work.Goals as goal

pub loop-init : goal.loop-init
loop-init g c = record { next = tt; finite = tt; stays = stays_itself c.args.seat.now c.requires.free; got = got_none c.args.worker c.args.seat.now }

pub turn-requires-clause-of : goal.turn-requires-clause-of
turn-requires-clause-of g c = c.loop.invariant.stays.cell ∙ c.requires.of

pub turn-requires-clause-free : goal.turn-requires-clause-free
turn-requires-clause-free g c = c.loop.invariant.stays.free

pub turn-requires-clause-leads : goal.turn-requires-clause-leads
turn-requires-clause-leads g c = leads_after c.args.worker c.args.relay.now _ _ c.loop.invariant.stays.sees c.requires.leads

pub loop-preserved : goal.loop-preserved
loop-preserved g c = record {
  next = tt;
  finite = tt;
  stays = stays_again _ _ _ c.loop.invariant.stays c.turn.ensures.seat;
  got = got_again c.args.worker _ _ _ c.loop.invariant.got c.turn.ensures.got c.turn.ensures.seat.sees;
}

pub returns-in-Ready-clause-seat : goal.returns-in-Ready-clause-seat
returns-in-Ready-clause-seat g c = stays_again _ _ _ c.loop.invariant.stays c.turn.ensures.seat

pub returns-in-Ready-clause-mine : goal.returns-in-Ready-clause-mine
returns-in-Ready-clause-mine g c = got_again c.args.worker _ _ _ c.loop.invariant.got c.turn.ensures.got c.turn.ensures.seat.sees

pub returns-in-Ready-clause-done : goal.returns-in-Ready-clause-done
returns-in-Ready-clause-done g c = comes_done (HasFinished c.args.worker) c.turn.result _ c.in-Ready.is c.turn.ensures.comes

pub loop-preserved-in-Took : goal.loop-preserved-in-Took
loop-preserved-in-Took g c = record {
  next = tt;
  finite = tt;
  stays = stays_again _ _ _ c.loop.invariant.stays c.turn.ensures.seat;
  got = got_again c.args.worker _ _ _ c.loop.invariant.got c.turn.ensures.got c.turn.ensures.seat.sees;
}

pub loop-preserved-in-Told : goal.loop-preserved-in-Told
loop-preserved-in-Told g c = record {
  next = tt;
  finite = tt;
  stays = stays_again _ _ _ c.loop.invariant.stays c.turn.ensures.seat;
  got = got_again c.args.worker _ _ _ c.loop.invariant.got c.turn.ensures.got c.turn.ensures.seat.sees;
}
