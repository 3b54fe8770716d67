-- The bits of a parameter memory that earlier fields have.
use Rattle.std.specs.Prelude.{◌≡◌, ℕ, ◌+◌, ◌*◌, ◌<◌, ◌≤◌, ◌&&◌, nat_le, nat_lt, Bool, false, List, length, get_or, All}
use Rattle.std.specs.List.{list_any}
use Rattle.knx_model.specs.declared.catalogue.model.ModelField.{ModelField}

abbrev pub is_within : ℕ → ℕ → ℕ → Bool
is_within bit width b = nat_le bit b && nat_lt b (bit + width)

abbrev pub has_bit : ℕ → ModelField → Bool
has_bit b f = is_within f.bit f.width b

abbrev pub HasBits : ModelField → Type 0
HasBits f = 1 ≤ f.width

-- just the bits of the fields are taken
pub record Takes (taken : List Bool) (octets : ℕ) (fields : List ModelField) : Type 0 where
  pub size : length taken ≡ 8 * octets
  pub bits : (b : ℕ) → b < length taken → get_or taken b false ≡ list_any (has_bit b) fields
  pub widths : All HasBits fields
