use Rattle.std.proofs.Common.{◌≡◌, ◌∙◌, ℕ, ◌==◌, List, Option, Some, ap, sym, subst}
use Rattle.std.proofs.Math.ListN.{set}
use Rattle.knx_model.specs.declared.address.IndAddr.{IndAddr}
use Rattle.knx_model.specs.DeviceState.{DeviceState}
use Rattle.line_sim.specs.Places.{DevicesNow, AreDevices, device_at, device_part, line_part, with_device}
use Rattle.line_sim.proofs.Places.{placed, place_is, put_keeps}
use Rattle.line_sim.proofs.devices.Devices.put.Goals as goal

pub returns-clause-next : goal.returns-clause-next
returns-clause-next c devices are a =
    let on = c.requires in
    let lines = ap (λ (n : DevicesNow). n.line) c.self.view_is in
    let rows = ap (λ (n : DevicesNow). n.places) c.self.view_is in
    let line : c.args.self.now.line ≡ c.self.inside.line = cc in
    let places : c.args.self.now.places ≡ c.self.inside.places.items = cc in
    let here : line_part c.args.device.address.raw ≡ c.self.inside.line = on ∙ line in
    let by_line : AreDevices (record { line = c.self.inside.line; places = c.args.self.now.places }) devices = subst (λ (k : ℕ). AreDevices (record { line = k; places = c.args.self.now.places }) devices) line are in
    let all : AreDevices (record { line = c.self.inside.line; places = c.self.inside.places.items }) devices = subst (λ (k : List (Option DeviceState)). AreDevices (record { line = c.self.inside.line; places = k }) devices) places by_line in
    let at : c.in-Some.place ≡ device_part c.args.device.address.raw = place_is (line_part c.address.result.raw == c.args.self.now.line) _ _ c.in-Some.ensures ∙ ap (λ (x : IndAddr). device_part x.raw) c.address.ensures in
    let P : ℕ → Type 0 = λ i. with_device c.args.device devices a ≡ device_at (record { line = c.self.inside.line; places = set c.self.inside.places.items i (Some c.args.device) }) a in
    subst P (sym at) (placed c.self.inside.line c.self.inside.places.items c.args.device devices c.self.invariant.count here all a)

pub invariant_of-self : goal.invariant_of-self
invariant_of-self c =
    let line : c.args.self.now.line ≡ c.self.inside.line = sym (ap (λ (n : DevicesNow). n.line) c.self.view_is) in
    let here : line_part c.args.device.address.raw ≡ c.self.inside.line = c.requires ∙ line in
    let at : c.in-Some.place ≡ device_part c.args.device.address.raw = place_is (line_part c.address.result.raw == c.args.self.now.line) _ _ c.in-Some.ensures ∙ ap (λ (x : IndAddr). device_part x.raw) c.address.ensures in
    put_keeps c.self.inside.line c.self.inside.places.items c.self.inside.busy c.mark.new.busy c.in-Some.place c.args.device c.self.invariant here at c.mark.ensures.here c.mark.ensures.others
