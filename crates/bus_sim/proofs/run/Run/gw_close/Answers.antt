use Rattle.std.proofs.Common.{[], refl, subst, sym}
use Rattle.line_model.specs.World.{GwClose}
use Rattle.bus_sim.specs.Went.{IsRight}
use Rattle.bus_sim.proofs.Counting.{uncounted, takes_nothing, writes_nothing}
use Rattle.bus_sim.proofs.Holds.{after_own}
use Rattle.bus_sim.proofs.run.Run.gw_close.Goals as goal

pub invariant_of-self-2 : goal.invariant_of-self-2
invariant_of-self-2 c =
    after_own c.self.inside.begun c.self.inside.events.list c.make_room.new.events.list c.push.new.self.list c.self.inside.index c.self.inside.line c.gateway_close.new.self c.self.inside.counts c.self.inside.counts
    c.self.inside.owed.list c.make_room.new.owed.list c.meet.new.self.list [] (GwClose) refl c.self.invariant c.gateway_close.ensures (subst (λ v. IsRight v (GwClose)) (sym c.self.view_is) c.requires) c.make_room.ensures.events c.push.ensures.list c.in_ok-make_room.ensures.few
    c.make_room.ensures.owed c.meet.ensures refl
    (uncounted c.self.inside.counts _ c.self.inside.events.list (GwClose) (record { to = λ a. refl; from = λ a. refl; taken = λ a. takes_nothing _; wrote = λ a. writes_nothing _; connect = refl }) c.self.invariant.counted) refl
