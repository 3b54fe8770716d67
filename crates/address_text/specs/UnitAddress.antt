-- The address of a unit as a word: as a device's, but that its last part may be 255, which a unit has that got no address yet.
use Rattle.std.specs.Prelude.{ℕ, ◌+◌, ◌*◌, ◌==◌, List, Option, Some, None, if◌then◌else◌}
use Rattle.std.specs.List.{slice_split}
use Rattle.knx_model.specs.declared.address.IndAddr.{IndAddr}
use Rattle.knx_model.specs.Addresses.{three, ◌>>=◌}
use Rattle.knx_model.specs.Numbers.{part_value}

-- three numbers of 1 to 3 digits joined by dots: area, line and part
unfoldable pub unit_address : List ℕ → Option IndAddr
unit_address word = do
  parts ← three (slice_split (λ b. b == 46) word)
  area ← part_value 15 parts.0
  line ← part_value 15 parts.1
  part ← part_value 255 parts.2
  if part == 0 then None else Some (record { raw = area * 4096 + line * 256 + part })
