use Rattle.std.proofs.Common.{◌≡◌, ℕ, ◌&&◌, is_some, ◌∷◌, Some, refl, subst, sym, ap, ◌∙◌, List}
use Rattle.std.specs.Prelude.{option_to_list}
use Rattle.line_model.specs.Counts.{takes_alone, write_of}
use Rattle.line_model.specs.World.{World, Bus, next_frame, replay}
use Rattle.line_sim.specs.Line.{taken_in, write_in}
use Rattle.bus_sim.specs.Begun.{mode_in, said, start_of}
use Rattle.bus_sim.specs.Counted.{CountsNow, AreCounts}
use Rattle.bus_sim.specs.Went.{world}
use Rattle.bus_sim.proofs.Calls.{two_called}
use Rattle.bus_sim.proofs.Carried.{AreNamed, bus_one, comes}
use Rattle.bus_sim.proofs.CarriedCalls.{bus_calls}
use Rattle.bus_sim.proofs.Counting.{counted}
use Rattle.bus_sim.proofs.Holds.{after_own, run}
use Rattle.bus_sim.proofs.Carriages.{carried_right}
use Rattle.bus_sim.proofs.NextEvents.{carried_so_right, goes_over}
use Rattle.bus_sim.proofs.Laws.{allowed}
use Rattle.bus_sim.specs.Choices.{carried}
use Rattle.bus_sim.specs.RunNow.{RunState, NothingCalled, seen}
use Rattle.bus_sim.proofs.run.Run.bus.Goals as goal

pub invariant_of-self-2 : goal.invariant_of-self-2
invariant_of-self-2 c =
    let b = c.self.inside.begun in
    let es = c.self.inside.events.list in
    let w : World = replay (start_of c.self.inside.begun) c.self.inside.events.list in
    let due : Some c.args.frame.now ≡ next_frame w = subst (λ (v : RunState). Some c.args.frame.now ≡ next_frame (world v)) (sym c.self.view_is) c.requires.due in
    let named : AreNamed w = λ a d at. c.names.ensures a d (sym (c.self.invariant.pictured.devices a) ∙ at) in
    let l : List ℕ = option_to_list c.args.lost in
    let taken : (c.comes_to-comes.result && c.would_be_taken.result) ≡ (comes (option_to_list c.args.lost) c.args.frame.now && takes_alone (w.devices c.args.frame.now.destination) (Some c.args.frame.now))
    = ap (λ t. t && c.would_be_taken.result) c.comes_to-comes.ensures ∙ ap (λ t. comes (option_to_list c.args.lost) c.args.frame.now && t) (c.would_be_taken.ensures w c.self.invariant.pictured ∙ sym (ap (taken_in w) due)) in
    let wrote : (c.comes_to-comes.result && c.is_some.result) ≡ (comes (option_to_list c.args.lost) c.args.frame.now && is_some (write_of (w.devices c.args.frame.now.destination) (Some c.args.frame.now)))
    = ap (λ t. t && c.is_some.result) c.comes_to-comes.ensures
    ∙ ap (λ t. comes (option_to_list c.args.lost) c.args.frame.now && t) (c.is_some.ensures ∙ ap is_some (c.would_write.ensures.simulates w c.self.invariant.pictured ∙ sym (ap (write_in w) due))) in
    after_own c.self.inside.begun c.self.inside.events.list c.make_room.new.events.list c.push.new.self.list c.self.inside.index c.self.inside.line c.bus.new.self c.self.inside.counts c.add.new.self c.self.inside.owed.list c.make_room.new.owed.list c.meet.new.self.list _ (Bus (option_to_list c.args.lost)) refl c.self.invariant c.in_ok-bus.ensures.next
    (carried_right (run b es) c.args.frame.now (Bus (option_to_list c.args.lost)) (subst (λ (v : RunState). NothingCalled (seen v)) (sym c.self.view_is) c.requires.free) due (subst (λ (v : RunState). Bus (option_to_list c.args.lost) ≡ carried v c.args.frame.now) (sym c.self.view_is) c.requires.so) (allowed (mode_in c.self.inside.begun) c.self.inside.line w (Bus (option_to_list c.args.lost)) c.self.invariant.pictured (goes_over c.self.inside.line w c.args.frame.now c.self.invariant.pictured due))) c.make_room.ensures.events c.push.ensures.list c.in_ok-make_room.ensures.few c.make_room.ensures.owed c.meet.ensures
    (two_called _ _ _ _ (c.frame_again-first.ensures (said b) c.self.invariant.indexed) (c.connection_closes-second.ensures (said b) c.self.invariant.indexed)
    ∙ bus_calls c.self.inside.begun c.self.inside.events.list c.self.inside.index c.self.inside.line c.self.inside.counts c.self.inside.owed.list c.self.invariant c.args.frame.now due (option_to_list c.args.lost) (c.comes_to-comes.result && c.would_be_taken.result) c.saturating_add-n.result c.saturating_add-k.result c.of-counts.result named taken c.saturating_add-n.ensures c.saturating_add-k.ensures c.of-counts.ensures)
    (subst (λ (x : CountsNow). AreCounts x (start_of b) (Bus (option_to_list c.args.lost) ∷ es)) (sym c.add.ensures.value)
    (counted c.self.inside.counts (start_of b) es (Bus (option_to_list c.args.lost)) c.args.frame.now.destination _ (bus_one w (option_to_list c.args.lost) c.args.frame.now (c.comes_to-comes.result && c.would_be_taken.result) (c.comes_to-comes.result && c.is_some.result) due named taken wrote)
    c.add.ensures.places c.in_ok-make_room.ensures.few c.self.invariant.counted))
    c.add.ensures.line

pub returns-clause-right : goal.returns-clause-right
returns-clause-right c = carried_so_right c.self.inside.begun c.self.inside.events.list c.self.inside.index c.self.inside.line c.self.inside.counts c.self.inside.owed.list c.self.invariant c.args.frame.now (λ (v : RunState). Bus (option_to_list c.args.lost)) c.args.self.now c.self.view_is c.requires.free c.requires.due c.requires.so (goes_over c.self.inside.line (replay (start_of c.self.inside.begun) c.self.inside.events.list) c.args.frame.now c.self.invariant.pictured (subst (λ (v : RunState). Some c.args.frame.now ≡ next_frame (world v)) (sym c.self.view_is) c.requires.due))
