-- The devices of the simulated line: those of the new and of the old project on the line of the new project's first device. Each begins loaded with
-- the old project's compiled image where that has it, and else blank.
use Rattle.std.specs.Prelude.{◌≡◌, ℕ, ◌+◌, ◌*◌, true, false, List, map, filter, Option, Some, None}
use Rattle.std.specs.List.{AllZip, range_with_len}
use Rattle.knx_model.specs.declared.address.IndAddr.{IndAddr}
use Rattle.knx_model.specs.declared.config.Image.{Image}
use Rattle.knx_model.specs.Meaning.{Installation}
use Rattle.knx_model.specs.Rules.{has_device}
use Rattle.line_model.specs.StartOf.{line_of, tunnel_address, is_on_bus}
use Rattle.table_compiler.specs.Images.{IsImage}

-- the addresses of a line, ascending
abbrev pub address_at : ℕ → ℕ → IndAddr
address_at line part = record { raw = line * 256 + part }

abbrev pub addresses_of_line : ℕ → List IndAddr
addresses_of_line line = map (address_at line) (range_with_len 0 256)

-- the devices on the bus, ascending
unfoldable pub on_bus : Installation → Installation → List IndAddr
on_bus new old = filter (λ (device : IndAddr). is_on_bus new old device.raw) (addresses_of_line (line_of (tunnel_address new).raw))

-- ---- compiled images

-- the image of the device where the project has it
abbrev pub IsImageWhere : Installation → IndAddr → Option Image → Type 0
IsImageWhere project device None = has_device project.statements device.raw ≡ false
IsImageWhere project device (Some image) = (has_device project.statements device.raw ≡ true) × IsImage project device image

-- a device, with its image where the project has it
pub record IsCompiled (project : Installation) (d : IndAddr × Option Image) (address : IndAddr) : Type 0 where
  pub device : d.0 ≡ address
  pub image : IsImageWhere project address d.1

-- these devices, each with its image where the project has it
abbrev pub AreCompiled : Installation → List (IndAddr × Option Image) → List IndAddr → Type 0
AreCompiled project listed devices = AllZip (IsCompiled project) listed devices
