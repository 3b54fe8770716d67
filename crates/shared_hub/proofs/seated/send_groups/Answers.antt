use Rattle.std.proofs.Common.{refl, ◌∙◌}
use Rattle.shared_hub.specs.Items.{HasTold}
use Rattle.shared_hub.proofs.Works.{leads_after, stays_itself, got_none, stays_again, got_again, comes_done}
use Rattle.shared_hub.proofs.seated.send_groups.Goals as goal

pub loop-init : goal.loop-init
loop-init g c = record { next = tt; finite = tt; stays = stays_itself c.args.seat.now c.requires.free; got = got_none 0 c.args.seat.now; listens = refl }

pub collect-requires : goal.collect-requires
collect-requires g c = record { of = c.loop.invariant.listens ∙ c.requires.listens }

pub group_turn-requires-clause-leads : goal.group_turn-requires-clause-leads
group_turn-requires-clause-leads g c = leads_after 0 c.args.relay.now _ _ c.loop.invariant.stays.sees c.requires.leads

pub group_turn-requires-clause-of : goal.group_turn-requires-clause-of
group_turn-requires-clause-of g c = c.loop.invariant.stays.cell ∙ c.requires.of

pub group_turn-requires-clause-free : goal.group_turn-requires-clause-free
group_turn-requires-clause-free g c = c.loop.invariant.stays.free

pub loop-preserved : goal.loop-preserved
loop-preserved g c = record {
  next = tt;
  finite = tt;
  stays = stays_again _ _ _ c.loop.invariant.stays c.group_turn.ensures.seat;
  got = got_again 0 _ _ _ c.loop.invariant.got c.group_turn.ensures.got c.group_turn.ensures.seat.sees;
  listens = c.collect.ensures.of ∙ c.loop.invariant.listens;
}

pub returns-in-Ready-clause-seat : goal.returns-in-Ready-clause-seat
returns-in-Ready-clause-seat g c = stays_again _ _ _ c.loop.invariant.stays c.group_turn.ensures.seat

pub returns-in-Ready-clause-mine : goal.returns-in-Ready-clause-mine
returns-in-Ready-clause-mine g c = got_again 0 _ _ _ c.loop.invariant.got c.group_turn.ensures.got c.group_turn.ensures.seat.sees

pub returns-in-Ready-clause-done : goal.returns-in-Ready-clause-done
returns-in-Ready-clause-done g c = comes_done HasTold c.group_turn.result _ c.in-Ready.is c.group_turn.ensures.comes

pub loop-preserved-in-Took : goal.loop-preserved-in-Took
loop-preserved-in-Took g c = record {
  next = tt;
  finite = tt;
  stays = stays_again _ _ _ c.loop.invariant.stays c.group_turn.ensures.seat;
  got = got_again 0 _ _ _ c.loop.invariant.got c.group_turn.ensures.got c.group_turn.ensures.seat.sees;
  listens = c.collect.ensures.of ∙ c.loop.invariant.listens;
}
