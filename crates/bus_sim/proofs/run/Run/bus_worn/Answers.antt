use Rattle.std.proofs.Common.{◌≡◌, true, is_some, [], ◌∷◌, Some, refl, subst, sym, ap, ◌∙◌}
use Rattle.knx_model.specs.DeviceFrames.{worn_octets}
use Rattle.line_model.specs.Counts.{write_of}
use Rattle.line_model.specs.World.{World, BusWorn, next_frame, replay}
use Rattle.line_sim.specs.Line.{effect_due, write_due}
use Rattle.bus_sim.specs.Begun.{mode_in, said, start_of}
use Rattle.bus_sim.specs.Counted.{CountsNow, AreCounts}
use Rattle.bus_sim.specs.Went.{world}
use Rattle.bus_sim.proofs.Calls.{two_called}
use Rattle.bus_sim.proofs.Carried.{AreNamed, IsWritten, is_written, worn_one}
use Rattle.bus_sim.proofs.CarriedCalls.{write_calls}
use Rattle.bus_sim.proofs.Counting.{counted}
use Rattle.bus_sim.proofs.Holds.{after_own, run}
use Rattle.bus_sim.proofs.Wants.{write_alike}
use Rattle.bus_sim.proofs.Carriages.{carried_right}
use Rattle.bus_sim.proofs.NextEvents.{carried_so_right}
use Rattle.knx_model.specs.declared.device.WriteKind.TheVariants.{Memory}
use Rattle.line_sim.specs.Allowed.{Allows}
use Rattle.bus_sim.proofs.Laws.{allowed}
use Rattle.bus_sim.specs.Choices.{carried}
use Rattle.bus_sim.specs.RunNow.{RunState, NothingCalled, seen}
use Rattle.bus_sim.proofs.run.Run.bus_worn.Goals as goal

pub invariant_of-self-2 : goal.invariant_of-self-2
invariant_of-self-2 c =
    let b = c.self.inside.begun in
    let es = c.self.inside.events.list in
    let w : World = replay (start_of c.self.inside.begun) c.self.inside.events.list in
    let due : Some c.args.frame.now ≡ next_frame w = subst (λ (v : RunState). Some c.args.frame.now ≡ next_frame (world v)) (sym c.self.view_is) c.requires.due in
    let named : AreNamed w = λ a d at. c.names.ensures a d (sym (c.self.invariant.pictured.devices a) ∙ at) in
    let some : is_some (write_of (w.devices c.args.frame.now.destination) (Some c.args.frame.now)) ≡ true
    = ap is_some (sym (write_alike c.self.inside.line w c.args.frame.now c.self.invariant.pictured due) ∙ ap (λ (v : RunState). write_due v.line) c.self.view_is ∙ c.requires.write) in
    let is : IsWritten w c.args.frame.now = is_written w c.args.frame.now some in
    after_own c.self.inside.begun c.self.inside.events.list c.make_room.new.events.list c.push.new.self.list c.self.inside.index c.self.inside.line c.bus_worn.new.self c.self.inside.counts c.add.new.self c.self.inside.owed.list c.make_room.new.owed.list c.meet.new.self.list _ (BusWorn (worn_octets (effect_due c.self.inside.line))) refl c.self.invariant c.in_ok-bus_worn.ensures.next
    (carried_right (run b es) c.args.frame.now (BusWorn (worn_octets (effect_due c.self.inside.line))) (subst (λ (v : RunState). NothingCalled (seen v)) (sym c.self.view_is) c.requires.free) due (subst (λ (v : RunState). BusWorn (worn_octets (effect_due v.line)) ≡ carried v c.args.frame.now) (sym c.self.view_is) c.requires.so) (allowed (mode_in c.self.inside.begun) c.self.inside.line w (BusWorn (worn_octets (effect_due c.self.inside.line))) c.self.invariant.pictured (subst (λ l. Allows (mode_in c.self.inside.begun) c.self.inside.line (BusWorn l)) c.worn_octets-octets.ensures.value (c.worn_octets-octets.ensures.allowed (mode_in c.self.inside.begun) (subst (λ (v : RunState). write_due v.line ≡ Some Memory) (sym c.self.view_is) c.requires.write))))) c.make_room.ensures.events (c.push.ensures.list ∙ ap (λ x. BusWorn x ∷ c.make_room.new.events.list) (c.as_slice.ensures.value ∙ c.worn_octets-octets.ensures.value)) c.in_ok-make_room.ensures.few c.make_room.ensures.owed c.meet.ensures
    (two_called _ _ _ _ (c.frame_again-first.ensures (said b) c.self.invariant.indexed) (c.connection_closes-second.ensures (said b) c.self.invariant.indexed)
    ∙ write_calls c.self.inside.begun c.self.inside.events.list c.self.inside.index c.self.inside.line c.self.inside.counts c.self.inside.owed.list c.self.invariant c.args.frame.now due (BusWorn (worn_octets (effect_due c.self.inside.line))) ([]) c.saturating_add-n.result c.saturating_add-m.result c.of-counts.result (sym due) refl refl is c.saturating_add-n.ensures c.saturating_add-m.ensures c.of-counts.ensures)
    (subst (λ (x : CountsNow). AreCounts x (start_of b) (BusWorn (worn_octets (effect_due c.self.inside.line)) ∷ es)) (sym c.add.ensures.value)
    (counted c.self.inside.counts (start_of b) es (BusWorn (worn_octets (effect_due c.self.inside.line))) c.args.frame.now.destination _ (worn_one w c.args.frame.now (worn_octets (effect_due c.self.inside.line)) due named is)
    c.add.ensures.places c.in_ok-make_room.ensures.few c.self.invariant.counted))
    c.add.ensures.line

pub returns-clause-right : goal.returns-clause-right
returns-clause-right c = carried_so_right c.self.inside.begun c.self.inside.events.list c.self.inside.index c.self.inside.line c.self.inside.counts c.self.inside.owed.list c.self.invariant c.args.frame.now (λ (v : RunState). BusWorn (worn_octets (effect_due v.line))) c.args.self.now c.self.view_is c.requires.free c.requires.due c.requires.so (subst (λ l. Allows (mode_in c.self.inside.begun) c.self.inside.line (BusWorn l)) c.worn_octets-octets.ensures.value (c.worn_octets-octets.ensures.allowed (mode_in c.self.inside.begun) (subst (λ (v : RunState). write_due v.line ≡ Some Memory) (sym c.self.view_is) c.requires.write)))
