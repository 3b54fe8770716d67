-- What a frame to a group brings to the places of a line.
use Rattle.std.specs.Prelude.{◌≡◌, ℕ, ◌+◌, ◌*◌, ◌<◌, List, length, Option, slice_index_or, if◌then◌else◌}
use Rattle.knx_model.specs.declared.frames.cemi.Ldata.{Ldata}
use Rattle.knx_model.specs.ApduReading.{option_map}
use Rattle.knx_model.specs.DeviceState.{DeviceState}
use Rattle.knx_model.specs.DeviceFrames.{Whole, takes}
use Rattle.device_sim.specs.declared.brought.Brought.{Brought}
use Rattle.device_sim.specs.declared.brought.Brought.TheVariants.{NotTaken}
use Rattle.device_sim.specs.Brought.{brought_to}
use Rattle.line_model.specs.World.{is_among}
use Rattle.line_sim.specs.Places.{DevicesNow, device_in}

abbrev pub brought_there : Ldata → Option DeviceState → Brought → Option DeviceState
brought_there frame there brought = option_map (λ d. brought_to d frame brought) there

-- it brings the device of a place what this takes of the frame, and nothing where it is left out
abbrev pub IsBroughtAt : DevicesNow → List ℕ → Ldata → ℕ → Brought → Type 0
IsBroughtAt n left_out frame part brought = (now : ℕ) → brought_there frame (device_in n.places part) brought
    ≡ (if is_among left_out (n.line * 256 + part) then device_in n.places part else option_map (λ d. takes d frame now Whole) (device_in n.places part))

pub record AreBrought (n : DevicesNow) (left_out : List ℕ) (frame : Ldata) (brought : List Brought) : Type 0 where
  pub count : length brought ≡ 256
  pub each : (part : ℕ) → part < 256 → IsBroughtAt n left_out frame part (slice_index_or brought part NotTaken)
