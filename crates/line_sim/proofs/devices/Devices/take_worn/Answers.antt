use Rattle.std.proofs.Common.{◌≡◌, ◌==◌, Option, Some, None, ap, sym, subst, ◌∙◌, if◌then◌else◌}
use Rattle.knx_model.specs.declared.frames.cemi.Ldata.{Ldata}
use Rattle.knx_model.specs.DeviceState.{DeviceState}
use Rattle.knx_model.specs.DeviceFrames.{Worn, effect_of_frame, takes, worn_octets}
use Rattle.line_model.specs.Deliveries.{effect_at}
use Rattle.line_sim.specs.Places.{DevicesNow, AreDevices, device_part, line_part}
use Rattle.line_sim.proofs.Named.{takes_named}
use Rattle.line_sim.proofs.Places.{changed_keeps, changes, stands}
use Rattle.line_sim.proofs.devices.Devices.take_worn.Goals as goal

pub invariant_of-self-in-Some-index_mut : goal.invariant_of-self-in-Some-index_mut
invariant_of-self-in-Some-index_mut c =
    changed_keeps c.self.inside.line c.self.inside.places.items c.self.inside.busy c.mark.new.busy c.in-Some.place c.args.frame.now.destination _ c.index_mut.result.now c.in-Some-index_mut.device c.take_worn.new.self c.self.invariant
    c.in-Some.ensures c.index_mut.ensures.value c.in-Some-index_mut.is (ap (λ (d : DeviceState). d.address.raw) c.in_ok-take_worn-in-Some-index_mut.ensures.next ∙ takes_named c.in-Some-index_mut.device c.args.frame.now c.args.now (Worn (worn_octets (effect_of_frame c.in-Some-index_mut.device c.args.frame.now)))) c.mark.ensures.here c.mark.ensures.others

pub returns-in_ok-take_worn-in-Some-index_mut-clause-next : goal.returns-in_ok-take_worn-in-Some-index_mut-clause-next
returns-in_ok-take_worn-in-Some-index_mut-clause-next c devices are a =
    let frame : Ldata = c.args.frame.now in
    let before : DevicesNow = record { line = c.self.inside.line; places = c.self.inside.places.items } in
    let held : AreDevices before devices = subst (λ (n : DevicesNow). AreDevices n devices) (sym c.self.view_is) are in
    let placed : Some c.in-Some.place ≡ (if line_part frame.destination == before.line then Some (device_part frame.destination) else None)
    = subst (λ (n : DevicesNow). Some c.in-Some.place ≡ (if line_part frame.destination == n.line then Some (device_part frame.destination) else None)) (sym c.self.view_is) c.in-Some.ensures in
    let there : Some c.in-Some-index_mut.device ≡ devices frame.destination
    = sym (held frame.destination ∙ stands before.line before.places c.in-Some.place frame.destination c.index_mut.result.now c.in-Some-index_mut.device c.self.invariant.count placed c.index_mut.ensures.value c.in-Some-index_mut.is) in
    changes before.line before.places c.in-Some.place frame.destination c.index_mut.result.now c.in-Some-index_mut.device c.take_worn.new.self
    (λ d. takes d frame c.args.now (Worn (worn_octets (effect_at (devices frame.destination) frame)))) devices c.self.invariant.count placed c.index_mut.ensures.value c.in-Some-index_mut.is
    (c.in_ok-take_worn-in-Some-index_mut.ensures.next ∙ ap (λ (o : Option DeviceState). takes c.in-Some-index_mut.device frame c.args.now (Worn (worn_octets (effect_at o frame)))) there) held a
