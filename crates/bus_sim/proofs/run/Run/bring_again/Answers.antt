use Rattle.std.proofs.Common.{◌≡◌, ◌∷◌, refl, subst, sym, ap, ◌∙◌, is_some}
use Rattle.line_model.specs.World.{BusAgain, replay}
use Rattle.line_model.specs.Counts.{takes_alone}
use Rattle.line_sim.specs.Line.{last_at}
use Rattle.bus_sim.specs.Begun.{said, start_of}
use Rattle.bus_sim.specs.Counted.{CountsNow, AreCounts}
use Rattle.bus_sim.specs.Went.{IsRight}
use Rattle.bus_sim.proofs.AtDevices.{again_closes}
use Rattle.bus_sim.proofs.Calls.{again_one, one_called}
use Rattle.bus_sim.proofs.Counting.{counted}
use Rattle.bus_sim.proofs.Holds.{after_own}
use Rattle.bus_sim.proofs.run.Run.bring_again.Goals as goal

pub invariant_of-self-2 : goal.invariant_of-self-2
invariant_of-self-2 c =
    let w = replay (start_of c.self.inside.begun) c.self.inside.events.list in
    let taken : c.would_be_taken_again-taken.result ≡ takes_alone (w.devices c.args.device) (last_at w c.args.device) = c.would_be_taken_again-taken.ensures w c.self.invariant.pictured in
    after_own c.self.inside.begun c.self.inside.events.list c.make_room.new.events.list c.push.new.self.list c.self.inside.index c.self.inside.line c.bus_again.new.self c.self.inside.counts c.add.new.self c.self.inside.owed.list c.make_room.new.owed.list c.meet.new.self.list _ (BusAgain c.args.device) refl c.self.invariant c.in_ok-bus_again.ensures.next
    (subst (λ v. IsRight v (BusAgain c.args.device)) (sym c.self.view_is) c.requires) c.make_room.ensures.events c.push.ensures.list c.in_ok-make_room.ensures.few c.make_room.ensures.owed c.meet.ensures
    (one_called _ _ (c.connection_closes-first.ensures (said c.self.inside.begun) c.self.invariant.indexed
    ∙ again_closes c.self.inside.begun c.self.inside.events.list c.self.inside.index c.self.inside.line c.self.inside.counts c.self.inside.owed.list c.self.invariant c.args.device c.would_be_taken_again-taken.result c.saturating_add-n.result c.of.result taken c.saturating_add-n.ensures c.of.ensures))
    (subst (λ (x : CountsNow). AreCounts x (start_of c.self.inside.begun) (BusAgain c.args.device ∷ c.self.inside.events.list)) (sym c.add.ensures.value)
    (counted c.self.inside.counts (start_of c.self.inside.begun) c.self.inside.events.list (BusAgain c.args.device) c.args.device _ (again_one _ c.args.device c.would_be_taken_again-taken.result _ taken (c.is_some-wrote.ensures ∙ ap is_some (c.would_write_again.ensures w c.self.invariant.pictured)))
    c.add.ensures.places c.in_ok-make_room.ensures.few c.self.invariant.counted))
    c.add.ensures.line
