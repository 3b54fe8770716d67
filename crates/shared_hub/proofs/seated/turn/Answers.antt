use Rattle.std.proofs.Common.{◌≡◌, ◌≤◌, length, subst, sym}
use Rattle.shared_hub.specs.Items.{HasFinished}
use Rattle.shared_hub.specs.Sites.{items_of}
use Rattle.shared_hub.specs.Steps.{Steps}
use Rattle.shared_hub.proofs.Works.{leads_after, leads_site, relays_site, turn_grows, turn_stays, turn_gets, turn_comes}
use Rattle.shared_hub.proofs.seated.turn.Goals as goal

pub give-requires-clause-grown : goal.give-requires-clause-grown
give-requires-clause-grown g c = turn_grows (HasFinished c.args.worker) c.args.worker c.args.seat.now c.take-site.new.seat (items_of c.take-site.result.value) (items_of c.step-came.new.self) c.step-came.result c.take-site.ensures.seat (subst (λ s. Steps (HasFinished c.args.worker) c.args.worker (items_of s) (items_of c.step-came.new.self) c.step-came.result) c.deref_mut.ensures.value c.step-came.ensures)

pub returns-clause-seat : goal.returns-clause-seat
returns-clause-seat g c = turn_stays (HasFinished c.args.worker) c.args.worker c.args.seat.now c.take-site.new.seat c.give.new.seat (items_of c.take-site.result.value) (items_of c.step-came.new.self) c.step-came.result c.take-site.ensures.begins c.take-site.ensures.seat (subst (λ s. Steps (HasFinished c.args.worker) c.args.worker (items_of s) (items_of c.step-came.new.self) c.step-came.result) c.deref_mut.ensures.value c.step-came.ensures) c.give.ensures

pub returns-clause-got : goal.returns-clause-got
returns-clause-got g c = turn_gets (HasFinished c.args.worker) c.args.worker c.args.seat.now c.take-site.new.seat c.give.new.seat (items_of c.take-site.result.value) (items_of c.step-came.new.self) c.step-came.result c.take-site.ensures.begins c.take-site.ensures.seat (subst (λ s. Steps (HasFinished c.args.worker) c.args.worker (items_of s) (items_of c.step-came.new.self) c.step-came.result) c.deref_mut.ensures.value c.step-came.ensures) c.give.ensures

pub returns-clause-comes : goal.returns-clause-comes
returns-clause-comes g c = turn_comes (HasFinished c.args.worker) c.args.worker c.args.seat.now c.take-site.new.seat c.give.new.seat (items_of c.take-site.result.value) (items_of c.step-came.new.self) c.step-came.result c.take-site.ensures.begins c.take-site.ensures.seat (subst (λ s. Steps (HasFinished c.args.worker) c.args.worker (items_of s) (items_of c.step-came.new.self) c.step-came.result) c.deref_mut.ensures.value c.step-came.ensures) c.give.ensures

pub step-came-requires-clause-within : goal.step-came-requires-clause-within
step-came-requires-clause-within g c = subst (λ s. c.args.worker ≤ length s.opening.value.crew) (sym c.deref_mut.ensures.value) (leads_site c.args.worker c.args.relay.now c.take-site.result.value (leads_after c.args.worker c.args.relay.now c.args.seat.now.seen (items_of c.take-site.result.value) c.take-site.ensures.begins c.requires.leads))

pub step-came-requires-clause-of : goal.step-came-requires-clause-of
step-came-requires-clause-of g c = subst (λ s. s.relay.value ≡ c.args.relay.now) (sym c.deref_mut.ensures.value) (relays_site c.args.worker c.args.relay.now c.take-site.result.value (leads_after c.args.worker c.args.relay.now c.args.seat.now.seen (items_of c.take-site.result.value) c.take-site.ensures.begins c.requires.leads))
