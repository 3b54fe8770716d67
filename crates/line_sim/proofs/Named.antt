-- A frame leaves a device its address.
use Rattle.std.proofs.Common.{◌≡◌, ℕ, Bool, true, false, Option, Some, None, refl, ap, ◌∙◌, if◌then◌else◌}
use Rattle.knx_model.specs.declared.device.Took.{Took}
use Rattle.knx_model.specs.declared.device.Took.TheVariants.{NotMine, TooLong, Taken, Off}
use Rattle.knx_model.specs.declared.frames.cemi.Ldata.{Ldata}
use Rattle.knx_model.specs.DeviceState.{DeviceState}
use Rattle.knx_model.specs.DeviceFrames.{Outcome, Whole, Torn, Worn, took_of, takes, takes_so, after_outcome, after_frame, taken_alone, taken_group, taken_again, taken_last}
use Rattle.device_sim.proofs.Taken.{alone_fixed, group_keeps}

abbrev raw : DeviceState → ℕ
raw d = d.address.raw

outcome_named : (d : DeviceState) (outcome : Outcome) → raw (after_outcome d outcome) ≡ raw d
outcome_named d Whole = refl
outcome_named d (Torn fresh octets) = refl
outcome_named d (Worn octets) = refl

either_named : (d : DeviceState) (frame : Ldata) (now : ℕ) (outcome : Outcome) (g : Bool) → raw (if g then taken_group d frame else taken_alone d frame now outcome) ≡ raw d
either_named d frame now outcome true = ap raw (group_keeps d frame)
either_named d frame now outcome false = ap (λ a. a.raw) (alone_fixed d frame now outcome).address

so_named : (d : DeviceState) (frame : Ldata) (now : ℕ) (outcome : Outcome) (t : Took) → raw (takes_so d frame now outcome t) ≡ raw d
so_named d frame now outcome Taken = outcome_named (after_frame d frame now outcome) outcome ∙ either_named d frame now outcome frame.group
so_named d frame now outcome NotMine = refl
so_named d frame now outcome TooLong = refl
so_named d frame now outcome Off = refl

pub takes_named : (d : DeviceState) (frame : Ldata) (now : ℕ) (outcome : Outcome) → (takes d frame now outcome).address.raw ≡ d.address.raw
takes_named d frame now outcome = so_named d frame now outcome (took_of d frame)

last_named : (d : DeviceState) (now : ℕ) (o : Option Ldata) → raw (taken_last d now o) ≡ raw d
last_named d now None = refl
last_named d now (Some frame) = takes_named d frame now Whole

pub again_named : (d : DeviceState) (now : ℕ) → (taken_again d now).address.raw ≡ d.address.raw
again_named d now = last_named d now d.last
