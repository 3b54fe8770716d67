use Rattle.std.proofs.Common.{◌≡◌, ◌+◌, ◌^◌, ◌<◌, true, is_some, nat_lt, [], ◌∷◌, length, Some, refl, subst, sym, ap, ◌∙◌, arith}
use Rattle.knx_model.specs.Device.{written_front}
use Rattle.line_model.specs.Counts.{write_of}
use Rattle.line_model.specs.Owed.{PowerReturns}
use Rattle.line_model.specs.World.{World, BusTorn, next_frame, replay}
use Rattle.line_sim.specs.Line.{effect_due, write_due}
use Rattle.bus_sim.specs.Begun.{mode_in, said, start_of}
use Rattle.bus_sim.specs.Counted.{CountsNow, AreCounts}
use Rattle.bus_sim.specs.Went.{world}
use Rattle.bus_sim.proofs.Calls.{two_called}
use Rattle.bus_sim.proofs.Carried.{AreNamed, IsWritten, is_written, torn_one}
use Rattle.bus_sim.proofs.CarriedCalls.{write_calls}
use Rattle.bus_sim.proofs.Counting.{counted}
use Rattle.bus_sim.proofs.Holds.{run}
use Rattle.bus_sim.proofs.Powers.{after_torn}
use Rattle.bus_sim.proofs.Wants.{write_alike}
use Rattle.bus_sim.proofs.Carriages.{carried_right}
use Rattle.bus_sim.proofs.NextEvents.{carried_so_right}
use Rattle.line_sim.specs.Allowed.{Allows}
use Rattle.bus_sim.proofs.Laws.{allowed}
use Rattle.bus_sim.specs.Choices.{carried}
use Rattle.bus_sim.specs.RunNow.{RunState, NothingCalled, seen}
use Rattle.bus_sim.proofs.run.Run.bus_torn.Goals as goal

pub invariant_of-self-2 : goal.invariant_of-self-2
invariant_of-self-2 c =
    let b = c.self.inside.begun in
    let es = c.self.inside.events.list in
    let w : World = replay (start_of c.self.inside.begun) c.self.inside.events.list in
    let due : Some c.args.frame.now ≡ next_frame w = subst (λ (v : RunState). Some c.args.frame.now ≡ next_frame (world v)) (sym c.self.view_is) c.requires.due in
    let named : AreNamed w = λ a d at. c.names.ensures a d (sym (c.self.invariant.pictured.devices a) ∙ at) in
    let some : is_some (write_of (w.devices c.args.frame.now.destination) (Some c.args.frame.now)) ≡ true
    = ap is_some (sym (write_alike c.self.inside.line w c.args.frame.now c.self.invariant.pictured due)) ∙ ap (λ (v : RunState). is_some (write_due v.line)) c.self.view_is ∙ c.requires.write in
    let is : IsWritten w c.args.frame.now = is_written w c.args.frame.now some in
    let free : NothingCalled (run b es) = subst (λ (v : RunState). NothingCalled (seen v)) (sym c.self.view_is) c.requires.free in
    let some_room : length es + 1 < 2 ^ 63 = let few = c.in_ok-make_room_for.ensures.few in omega (arith, few) in
    after_torn b es c.make_room_for.new.events.list c.push.new.self.list c.push-2.new.self.list c.self.inside.index c.self.inside.line c.bus_torn.new.self c.on.new.self c.self.inside.counts c.add.new.self c.self.inside.owed.list c.make_room_for.new.owed.list c.meet.new.self.list c.wait.new.self.list _ c.args.frame.now (nat_lt 0 c.args.k) (written_front (effect_due c.self.inside.line) c.args.k)
    c.self.invariant c.in_ok-bus_torn.ensures.next c.on.ensures due
    (carried_right (run b es) c.args.frame.now (BusTorn (nat_lt 0 c.args.k) (written_front (effect_due c.self.inside.line) c.args.k)) free due (subst (λ (v : RunState). BusTorn (nat_lt 0 c.args.k) (written_front (effect_due v.line) c.args.k) ≡ carried v c.args.frame.now) (sym c.self.view_is) c.requires.so) (allowed (mode_in b) c.self.inside.line w (BusTorn (nat_lt 0 c.args.k) (written_front (effect_due c.self.inside.line) c.args.k)) c.self.invariant.pictured (subst (λ l. Allows (mode_in b) c.self.inside.line (BusTorn (nat_lt 0 c.args.k) l)) c.in_ok-octets.ensures.value (c.in_ok-octets.ensures.allowed (mode_in b) (subst (λ (v : RunState). is_some (write_due v.line) ≡ true) (sym c.self.view_is) c.requires.write)))))
    free c.make_room_for.ensures.events (c.push.ensures.list ∙ ap (λ x. BusTorn (nat_lt 0 c.args.k) x ∷ c.make_room_for.new.events.list) (c.as_slice.ensures ∙ c.in_ok-octets.ensures.value)) c.push-2.ensures.list c.in_ok-make_room_for.ensures.few c.make_room_for.ensures.owed c.meet.ensures c.wait.ensures.list
    (ap (λ l. PowerReturns c.args.frame.now.destination ∷ l) (two_called _ _ _ _ (c.frame_again-first.ensures (said b) c.self.invariant.indexed) (c.connection_closes-second.ensures (said b) c.self.invariant.indexed))
    ∙ write_calls b es c.self.inside.index c.self.inside.line c.self.inside.counts c.self.inside.owed.list c.self.invariant c.args.frame.now due (BusTorn (nat_lt 0 c.args.k) (written_front (effect_due c.self.inside.line) c.args.k)) (PowerReturns c.args.frame.now.destination ∷ []) c.saturating_add-n.result c.saturating_add-m.result c.of-counts.result (sym due) refl refl is c.saturating_add-n.ensures c.saturating_add-m.ensures c.of-counts.ensures)
    (subst (λ (x : CountsNow). AreCounts x (start_of b) (BusTorn (nat_lt 0 c.args.k) (written_front (effect_due c.self.inside.line) c.args.k) ∷ es)) (sym c.add.ensures.value)
    (counted c.self.inside.counts (start_of b) es (BusTorn (nat_lt 0 c.args.k) (written_front (effect_due c.self.inside.line) c.args.k)) c.args.frame.now.destination _ (torn_one w c.args.frame.now (nat_lt 0 c.args.k) (written_front (effect_due c.self.inside.line) c.args.k) due named is)
    c.add.ensures.places some_room c.self.invariant.counted))
    c.add.ensures.line

pub returns-clause-right : goal.returns-clause-right
returns-clause-right c = carried_so_right c.self.inside.begun c.self.inside.events.list c.self.inside.index c.self.inside.line c.self.inside.counts c.self.inside.owed.list c.self.invariant c.args.frame.now (λ (v : RunState). BusTorn (nat_lt 0 c.args.k) (written_front (effect_due v.line) c.args.k)) c.args.self.now c.self.view_is c.requires.free c.requires.due c.requires.so (subst (λ l. Allows (mode_in c.self.inside.begun) c.self.inside.line (BusTorn (nat_lt 0 c.args.k) l)) c.in_ok-octets.ensures.value (c.in_ok-octets.ensures.allowed (mode_in c.self.inside.begun) (subst (λ (v : RunState). is_some (write_due v.line) ≡ true) (sym c.self.view_is) c.requires.write)))
