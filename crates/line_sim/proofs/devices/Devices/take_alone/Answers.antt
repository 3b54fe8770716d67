use Rattle.std.proofs.Common.{ap, ◌∙◌}
use Rattle.knx_model.specs.DeviceState.{DeviceState}
use Rattle.knx_model.specs.DeviceFrames.{Whole}
use Rattle.line_sim.proofs.Named.{takes_named}
use Rattle.line_sim.proofs.Places.{changed_keeps}
use Rattle.line_sim.proofs.devices.Devices.take_alone.Goals as goal

pub invariant_of-self-in-Some-index_mut : goal.invariant_of-self-in-Some-index_mut
invariant_of-self-in-Some-index_mut c =
    changed_keeps c.self.inside.line c.self.inside.places.items c.self.inside.busy c.mark.new.busy c.in-Some.place c.args.frame.now.destination _ c.index_mut.result.now c.in-Some-index_mut.device c.take.new.self c.self.invariant
    c.in-Some.ensures c.index_mut.ensures.value c.in-Some-index_mut.is (ap (λ (d : DeviceState). d.address.raw) c.in_ok-took-in-Some-index_mut.ensures.next ∙ takes_named c.in-Some-index_mut.device c.args.frame.now c.args.now Whole) c.mark.ensures.here c.mark.ensures.others
