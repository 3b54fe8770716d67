-- The nearest of the times at which the waits of a line have passed (ISO/IEC 14543-3-2, transport layer, and ISO 22510, Tunnelling).
use Rattle.std.specs.Prelude.{◌≡◌, ℕ, ◌≤◌, Option, Some, None}
use Rattle.knx_model.specs.DeviceConnection.{device_deadline}
use Rattle.knx_model.specs.DeviceState.{DeviceState}

-- the time at which the connection of a device has something due
abbrev pub deadline_at : Option DeviceState → Option ℕ
deadline_at None = None
deadline_at (Some d) = device_deadline d.connection

-- the least of the times that are named by numbers; None where none is
pub record IsNearest (times : ℕ → Option ℕ) (nearest : Option ℕ) : Type 0 where
  pub never : nearest ≡ None → (a : ℕ) → times a ≡ None
  pub least : (end : ℕ) → nearest ≡ Some end → (a t : ℕ) → times a ≡ Some t → end ≤ t
  pub named : (end : ℕ) → nearest ≡ Some end → (a : ℕ) × (times a ≡ Some end)
