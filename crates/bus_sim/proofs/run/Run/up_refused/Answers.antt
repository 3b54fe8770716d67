use Rattle.std.proofs.Common.{ℕ, true, ◌∷◌, refl, subst, sym, ap, ◌∙◌}
use Rattle.std.specs.Prelude.{slice_get}
use Rattle.line_model.specs.Lines.{repeats_up}
use Rattle.line_model.specs.Owed.{DeliverAgain, owed_if}
use Rattle.line_model.specs.World.{UpRefused, replay}
use Rattle.bus_sim.specs.Begun.{said, start_of}
use Rattle.bus_sim.specs.Counted.{CountsNow, AreCounts}
use Rattle.bus_sim.specs.RunNow.{IsRight as IsRightIn}
use Rattle.bus_sim.specs.Went.{IsRight}
use Rattle.bus_sim.proofs.Calls.{connect_there, one_called}
use Rattle.bus_sim.proofs.Counting.{asked, takes_nothing, writes_nothing}
use Rattle.bus_sim.proofs.Holds.{after_own, run}
use Rattle.bus_sim.proofs.Laws.{fewer, counted}
use Rattle.bus_sim.proofs.run.Run.up_refused.Goals as goal

pub invariant_of-self-2 : goal.invariant_of-self-2
invariant_of-self-2 c =
    let b = c.self.inside.begun in
    let es = c.self.inside.events.list in
    let w = replay (start_of b) es in
    let e = UpRefused c.args.age c.args.status in
    let few = c.in_ok-make_room.ensures.few in
    let exact = counted (start_of b) es c.self.invariant.keeps.fresh c.self.invariant.few in
    let right : IsRightIn (run b es) (UpRefused c.args.age c.args.status) = subst (λ v. IsRight v (UpRefused c.args.age c.args.status)) (sym c.self.view_is) c.requires.right in
    after_own c.self.inside.begun c.self.inside.events.list c.make_room.new.events.list c.push.new.self.list c.self.inside.index c.self.inside.line c.up_refused.new.self c.self.inside.counts c.connect_if.new.self c.self.inside.owed.list c.make_room.new.owed.list c.meet.new.self.list _ (UpRefused c.args.age c.args.status) refl c.self.invariant c.up_refused.ensures
    right c.make_room.ensures.events c.push.ensures.list few c.make_room.ensures.owed c.meet.ensures
    (one_called _ _ (c.comes_again-first.ensures (said b) c.self.invariant.indexed ∙ ap (λ (k : ℕ). owed_if (repeats_up (said b) k) (DeliverAgain k)) (c.number_up.ensures.exact w c.self.invariant.pictured (fewer _ exact.up))))
    (subst (λ (x : CountsNow). AreCounts x (start_of b) (UpRefused c.args.age c.args.status ∷ es)) (sym c.connect_if.ensures)
    (asked c.self.inside.counts (start_of b) es (UpRefused c.args.age c.args.status) true (λ a. refl) (λ a. refl) (λ a. takes_nothing _) (λ a. writes_nothing _) (connect_there (slice_get w.tunnel.network.up c.args.age) right.may.tunnel.1) few c.self.invariant.counted))
    (ap (λ (x : CountsNow). x.line) c.connect_if.ensures)
