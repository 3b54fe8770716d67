-- What a run of the simulated line begins with: whose it is, the tunnel's address, the devices with the images that they are loaded with, and the
-- lines of a script; and the world that this is: no channel, nothing sent, no frame that waits, and each listed device as the script says, with power or
-- without, a standard one or not.
use Rattle.std.specs.Prelude.{◌≡◌, ℕ, ◌==◌, not, List, [], ◌∷◌, map, Option, Some, None, IfSome, if◌then◌else◌}
use Rattle.std.specs.List.{AllByRecursion}
use Rattle.knx_model.specs.declared.address.IndAddr.{IndAddr}
use Rattle.knx_model.specs.declared.config.Image.{Image}
use Rattle.knx_model.specs.Device.{Fits}
use Rattle.knx_model.specs.DeviceState.{DeviceState, blank, loaded_with, framed}
use Rattle.line_model.specs.Lines.{Script, script_of, is_off, is_standard}
use Rattle.line_model.specs.StartOf.{powered, frames_for, default_tunnel, line_of}
use Rattle.line_model.specs.Tunnel.{Mode, Commissions, Serves, fresh}
use Rattle.line_model.specs.World.{World}
use Rattle.bus_sim.specs.declared.beginning.Beginning.{Beginning}
use Rattle.bus_sim.specs.declared.clients.Clients.{Clients}
use Rattle.bus_sim.specs.declared.clients.Clients.TheVariants.{One, Any}

-- nothing was loaded: no device, and the address of a tunnel without a project
abbrev pub nothing_loaded : Beginning
nothing_loaded = record { clients = One; tunnel = default_tunnel; devices = []; script = [] }

-- ---- whose it is

abbrev pub mode_of : Clients → Mode
mode_of One = Commissions
mode_of Any = Serves

abbrev pub mode_in : Beginning → Mode
mode_in b = mode_of b.clients

-- ---- the devices

abbrev pub loaded_or_blank : IndAddr → Option Image → DeviceState
loaded_or_blank address None = blank address
loaded_or_blank address (Some image) = loaded_with address image

abbrev pub begins : Script → IndAddr → Option Image → DeviceState
begins script address image = powered (not (is_off script address.raw)) (framed (frames_for (is_standard script address.raw)) (loaded_or_blank address image))

-- the device at an address: the first that is listed with it
abbrev pub device_begun : Script → List (IndAddr × Option Image) → ℕ → Option DeviceState
device_begun script [] address = None
device_begun script (d ∷ rest) address = if address == d.0.raw then Some (begins script d.0 d.1) else device_begun script rest address

-- the addresses that are listed
abbrev pub addresses : List (IndAddr × Option Image) → List IndAddr
addresses devices = map (λ (d : IndAddr × Option Image). d.0) devices

-- ---- the world

abbrev pub said : Beginning → Script
said b = script_of b.script

abbrev pub start_of : Beginning → World
start_of b = record { tunnel = fresh b.tunnel; devices = device_begun (said b) b.devices; echo = None }

-- ---- what may be loaded: devices of the tunnel's line, whose images fit their segments

pub record CanBegin (tunnel : IndAddr) (d : IndAddr × Option Image) : Type 0 where
  pub line : line_of d.0.raw ≡ line_of tunnel.raw
  pub image : IfSome d.1 Fits

abbrev pub CanLoad : IndAddr → List (IndAddr × Option Image) → Type 0
CanLoad tunnel devices = AllByRecursion (CanBegin tunnel) devices
