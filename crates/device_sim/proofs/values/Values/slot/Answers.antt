use Rattle.std.proofs.Common.{◌≡◌, List, Option, None, ap, sym, ◌∙◌, arith}
use Rattle.std.proofs.lemmas.Grind.{common_steps}
use Rattle.knx_model.specs.declared.frames.value.Value.{Value}
use Rattle.knx_model.specs.DeviceState.{slot}
use Rattle.device_sim.proofs.Slots.{slot_of_padded}
use Rattle.device_sim.proofs.values.Values.slot.Goals as goal

pub returns-then-object-len-clause-value : goal.returns-then-object-len-clause-value
returns-then-object-len-clause-value c =
    let here : c.copied_slot.result ≡ slot c.self.inside.slots.items c.args.object = grind (arith, common_steps) in
    here ∙ (sym (slot_of_padded c.self.inside.slots.items c.args.object c.requires) ∙ ap (λ (v : List (Option Value)). slot v c.args.object) c.self.view_is)

pub returns-else-object-len-clause-value : goal.returns-else-object-len-clause-value
returns-else-object-len-clause-value c =
    let here : ◌≡◌ {A = Option Value} None (slot c.self.inside.slots.items c.args.object) = grind (arith, common_steps) in
    here ∙ (sym (slot_of_padded c.self.inside.slots.items c.args.object c.requires) ∙ ap (λ (v : List (Option Value)). slot v c.args.object) c.self.view_is)
