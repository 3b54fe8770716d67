use Rattle.std.proofs.Common.{◌≡◌, subst, sym}
use Rattle.shared_hub.specs.Items.{HasTold}
use Rattle.shared_hub.specs.Sites.{items_of}
use Rattle.shared_hub.specs.Steps.{Steps}
use Rattle.shared_hub.proofs.Works.{leads_after, relays_site, turn_grows, turn_stays, turn_gets, turn_comes}
use Rattle.shared_hub.proofs.seated.group_turn.Goals as goal

pub give-requires-clause-grown : goal.give-requires-clause-grown
give-requires-clause-grown g c = turn_grows HasTold 0 c.args.seat.now c.take-site.new.seat (items_of c.take-site.result.value) (items_of c.tell-came.new.self) c.tell-came.result c.take-site.ensures.seat (subst (λ s. Steps HasTold 0 (items_of s) (items_of c.tell-came.new.self) c.tell-came.result) c.deref_mut.ensures.value c.tell-came.ensures)

pub returns-clause-seat : goal.returns-clause-seat
returns-clause-seat g c = turn_stays HasTold 0 c.args.seat.now c.take-site.new.seat c.give.new.seat (items_of c.take-site.result.value) (items_of c.tell-came.new.self) c.tell-came.result c.take-site.ensures.begins c.take-site.ensures.seat (subst (λ s. Steps HasTold 0 (items_of s) (items_of c.tell-came.new.self) c.tell-came.result) c.deref_mut.ensures.value c.tell-came.ensures) c.give.ensures

pub returns-clause-got : goal.returns-clause-got
returns-clause-got g c = turn_gets HasTold 0 c.args.seat.now c.take-site.new.seat c.give.new.seat (items_of c.take-site.result.value) (items_of c.tell-came.new.self) c.tell-came.result c.take-site.ensures.begins c.take-site.ensures.seat (subst (λ s. Steps HasTold 0 (items_of s) (items_of c.tell-came.new.self) c.tell-came.result) c.deref_mut.ensures.value c.tell-came.ensures) c.give.ensures

pub returns-clause-comes : goal.returns-clause-comes
returns-clause-comes g c = turn_comes HasTold 0 c.args.seat.now c.take-site.new.seat c.give.new.seat (items_of c.take-site.result.value) (items_of c.tell-came.new.self) c.tell-came.result c.take-site.ensures.begins c.take-site.ensures.seat (subst (λ s. Steps HasTold 0 (items_of s) (items_of c.tell-came.new.self) c.tell-came.result) c.deref_mut.ensures.value c.tell-came.ensures) c.give.ensures

pub tell-came-requires : goal.tell-came-requires
tell-came-requires g c = record { of = subst (λ s. s.relay.value ≡ c.args.relay.now) (sym c.deref_mut.ensures.value) (relays_site 0 c.args.relay.now c.take-site.result.value (leads_after 0 c.args.relay.now c.args.seat.now.seen (items_of c.take-site.result.value) c.take-site.ensures.begins c.requires.leads)) }
