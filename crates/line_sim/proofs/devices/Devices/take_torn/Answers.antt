use Rattle.std.proofs.Common.{ap, ◌∙◌, nat_lt}
use Rattle.knx_model.specs.Device.{written_front}
use Rattle.knx_model.specs.DeviceState.{DeviceState}
use Rattle.knx_model.specs.DeviceFrames.{Torn, effect_of_frame}
use Rattle.line_sim.proofs.Named.{takes_named}
use Rattle.line_sim.proofs.Places.{changed_keeps}
use Rattle.line_sim.proofs.devices.Devices.take_torn.Goals as goal

pub invariant_of-self : goal.invariant_of-self
invariant_of-self c =
    changed_keeps c.self.inside.line c.self.inside.places.items c.self.inside.busy c.mark.new.busy c.in-Some.place c.args.frame.now.destination _ c.index_mut.result.now c.in-Some-index_mut.device c.take_torn.new.self c.self.invariant
    c.in-Some.ensures c.index_mut.ensures.value c.in-Some-index_mut.is (ap (λ (d : DeviceState). d.address.raw) c.take_torn.ensures ∙ takes_named c.in-Some-index_mut.device c.args.frame.now c.args.now (Torn (nat_lt 0 c.args.k) (written_front (effect_of_frame c.in-Some-index_mut.device c.args.frame.now) c.args.k))) c.mark.ensures.here c.mark.ensures.others
