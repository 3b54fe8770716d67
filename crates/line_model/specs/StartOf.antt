-- How the simulated line begins (this project's own): the tunnel's address has the area and line of the project's first device and device part
-- 255, or is 1.1.255; on the bus are the devices of the new and of the old project on that line, those of the old one loaded with its compiled
-- image, the others blank, all with power but those that the script switches off; those that it says so of are standard devices. No channel,
-- nothing sent, and no frame that waits. Where it is told what a device kept, it begins with that instead.
use Rattle.std.specs.Prelude.{◌≡◌, ℕ, ◌+◌, ◌*◌, ◌/◌, Bool, true, false, not, ◌&&◌, ◌||◌, ◌==◌, List, [], ◌∷◌, Option, Some, None}
use Rattle.knx_model.specs.declared.address.IndAddr.{IndAddr}
use Rattle.knx_model.specs.declared.device.FrameSupport.{FrameSupport}
use Rattle.knx_model.specs.declared.device.FrameSupport.TheVariants.{Standard, Extended}
use Rattle.knx_model.specs.Device.{NonVolatile}
use Rattle.knx_model.specs.DeviceState.{DeviceState, device_with, framed}
use Rattle.knx_model.specs.Meaning.{Installation}
use Rattle.knx_model.specs.Promises.{StartOf}
use Rattle.knx_model.specs.Rules.{has_device, devices_of}
use Rattle.line_model.specs.Lines.{Script, is_off, is_standard}
use Rattle.line_model.specs.Tunnel as tunnel
use Rattle.line_model.specs.World.{World}

-- ---- the tunnel's address

abbrev pub line_of : ℕ → ℕ
line_of raw = raw / 256

abbrev pub default_tunnel : IndAddr
default_tunnel = record { raw = 0x11FF }

abbrev pub on_line_of_first : List IndAddr → IndAddr
on_line_of_first [] = default_tunnel
on_line_of_first (first ∷ rest) = record { raw = line_of first.raw * 256 + 255 }

abbrev pub tunnel_address : Installation → IndAddr
tunnel_address project = on_line_of_first (devices_of project.statements)

-- ---- the devices

abbrev pub is_on_bus : Installation → Installation → ℕ → Bool
is_on_bus new old device =
    (line_of device == line_of (tunnel_address new).raw) && (has_device new.statements device || has_device old.statements device)

-- with power or without
abbrev pub powered : Bool → DeviceState → DeviceState
powered power d = record d { power = power }

-- the frames that a standard device takes, and another
abbrev pub frames_for : Bool → FrameSupport
frames_for true = Standard
frames_for false = Extended

-- of no device it is told what it kept
abbrev pub nothing_kept : ℕ → Option NonVolatile
nothing_kept device = None

-- with what it kept, where that is told, and else loaded or blank, as the old project says
abbrev pub StartFrom : Installation → ℕ → Option NonVolatile → DeviceState → Type 0
StartFrom old device None start = StartOf old (record { raw = device }) start
StartFrom old device (Some kept) start = start ≡ device_with (record { raw = device }) kept

pub record BeginsAs (old : Installation) (script : Script) (device : ℕ) (had : Option NonVolatile) (d : DeviceState) : Type 0 where
  pub loaded : DeviceState
  pub start : StartFrom old device had loaded
  pub is : d ≡ powered (not (is_off script device)) (framed (frames_for (is_standard script device)) loaded)

abbrev pub DeviceBegins : Installation → Script → ℕ → Option NonVolatile → Bool → Option DeviceState → Type 0
DeviceBegins old script device had true (Some d) = BeginsAs old script device had d
DeviceBegins old script device had true None = ⊥
DeviceBegins old script device had false d = d ≡ None

-- where had tells of a device's address what it kept
pub record BusOf (new old : Installation) (script : Script) (had : ℕ → Option NonVolatile) (w : World) : Type 0 where
  pub tunnel : w.tunnel ≡ tunnel.fresh (tunnel_address new)
  pub echo : w.echo ≡ None
  pub devices : (device : ℕ) → DeviceBegins old script device (had device) (is_on_bus new old device) (w.devices device)
