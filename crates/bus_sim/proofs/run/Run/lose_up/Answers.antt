use Rattle.std.proofs.Common.{[], refl, subst, sym}
use Rattle.line_model.specs.World.{LoseUp}
use Rattle.bus_sim.specs.Went.{IsRight}
use Rattle.bus_sim.proofs.Counting.{uncounted, takes_nothing, writes_nothing}
use Rattle.bus_sim.proofs.Holds.{after_own}
use Rattle.bus_sim.proofs.run.Run.lose_up.Goals as goal

pub invariant_of-self-2 : goal.invariant_of-self-2
invariant_of-self-2 c =
    after_own c.self.inside.begun c.self.inside.events.list c.make_room.new.events.list c.push.new.self.list c.self.inside.index c.self.inside.line c.lose_up.new.self c.self.inside.counts c.self.inside.counts
    c.self.inside.owed.list c.make_room.new.owed.list c.meet.new.self.list [] (LoseUp c.args.age) refl c.self.invariant c.lose_up.ensures (subst (λ v. IsRight v (LoseUp c.args.age)) (sym c.self.view_is) c.requires.right) c.make_room.ensures.events c.push.ensures.list c.in_ok-make_room.ensures.few
    c.make_room.ensures.owed c.meet.ensures refl
    (uncounted c.self.inside.counts _ c.self.inside.events.list (LoseUp c.args.age) (record { to = λ a. refl; from = λ a. refl; taken = λ a. takes_nothing _; wrote = λ a. writes_nothing _; connect = refl }) c.self.invariant.counted) refl
