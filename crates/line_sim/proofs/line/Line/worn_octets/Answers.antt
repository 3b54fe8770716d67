use Rattle.std.proofs.Common.{◌≡◌, ℕ, List, Option, ap, sym, subst, ◌∙◌}
use Rattle.knx_model.specs.declared.frames.cemi.Ldata.{Ldata}
use Rattle.knx_model.specs.DeviceFrames.{Worn, worn_octets}
use Rattle.line_model.specs.Deliveries.{effect_at}
use Rattle.line_sim.specs.Allowed.{MayGoSo}
use Rattle.line_sim.specs.Line.{LineNow, effect_due, effect_on, frame_due}
use Rattle.line_sim.specs.Places.{DevicesNow, device_at}
use Rattle.line_sim.proofs.line.Line.worn_octets.Goals as goal

pub returns-in-Some-clause-allowed : goal.returns-in-Some-clause-allowed
returns-in-Some-clause-allowed c mode h =
    let frame : Ldata = c.in-Some.frame in
    let devices : c.self.inside.devices ≡ c.args.self.now.devices = ap (λ (n : LineNow). n.devices) c.self.view_is in
    let is : c.worn_octets.result ≡ worn_octets (effect_due c.args.self.now)
    = c.worn_octets.ensures ∙ ap (λ (n : DevicesNow). worn_octets (effect_at (device_at n frame.destination) frame)) devices ∙ ap (λ (o : Option Ldata). worn_octets (effect_on c.args.self.now.devices o)) c.in-Some.ensures.value in
    subst (λ (octets : List ℕ). MayGoSo c.args.self.now (Worn octets) (frame_due c.args.self.now)) (sym is) (c.what_is_due_is_allowed.ensures.worn mode c.args.self.now h)
