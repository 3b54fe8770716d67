use Rattle.std.proofs.Common.{ap, ◌∙◌}
use Rattle.knx_model.specs.DeviceState.{DeviceState}
use Rattle.line_sim.proofs.Named.{again_named}
use Rattle.line_sim.proofs.Places.{changed_keeps}
use Rattle.line_sim.proofs.devices.Devices.take_again.Goals as goal

pub invariant_of-self-in-Some-index_mut : goal.invariant_of-self-in-Some-index_mut
invariant_of-self-in-Some-index_mut c =
    changed_keeps c.self.inside.line c.self.inside.places.items c.self.inside.busy c.mark.new.busy c.in-Some.place c.args.address _ c.index_mut.result.now c.in-Some-index_mut.device c.get_again.new.device c.self.invariant
    c.in-Some.ensures c.index_mut.ensures.value c.in-Some-index_mut.is (ap (λ (d : DeviceState). d.address.raw) c.in_ok-get_again-in-Some-index_mut.ensures.next ∙ again_named c.in-Some-index_mut.device c.args.now) c.mark.ensures.here c.mark.ensures.others
