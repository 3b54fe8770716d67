-- The parameter memory of a device: bit 0 is the highest bit of the first octet, and a field holds its value with the highest bit
-- first. Its layout is this project's own.
use Rattle.std.specs.Prelude.{◌≡◌, ◌⊎◌, ℕ, ◌+◌, ◌*◌, ◌/◌, ◌%◌, ◌<◌, ◌≤◌, Bool, true, ◌&&◌, ◌==◌, List, [], ◌∷◌, length, map, take, drop, fold, All, Contains, nat_eq, slice_index, if◌then◌else◌}
use Rattle.std.specs.List.{flat_map, IsDistinct}
use Rattle.knx_model.specs.declared.catalogue.model.Model.{Model}
use Rattle.knx_model.specs.declared.catalogue.model.ModelField.{ModelField}
use Rattle.knx_model.specs.declared.config.ParamValue.{ParamValue}

-- the bits of an octet, the highest first
abbrev pub octet_bits : ℕ → List ℕ
octet_bits o = o / 128 % 2 ∷ o / 64 % 2 ∷ o / 32 % 2 ∷ o / 16 % 2 ∷ o / 8 % 2 ∷ o / 4 % 2 ∷ o / 2 % 2 ∷ o % 2 ∷ []

unfoldable pub bits_of : List ℕ → List ℕ
bits_of octets = flat_map octet_bits octets

-- the number that bits write, the highest first
abbrev pub bits_value : List ℕ → ℕ
bits_value bits = fold (λ n bit. n * 2 + bit) 0 bits

-- what a field of so many bits from this bit on holds
unfoldable pub field_value : List ℕ → ℕ → ℕ → ℕ
field_value octets bit width = bits_value (take width (drop bit (bits_of octets)))

-- the field doesn't have the bit
abbrev pub IsOutside : ℕ → ParamValue → Type 0
IsOutside bit p = (bit < p.bit) ⊎ (p.bit + p.width ≤ bit)

-- a memory of so many octets, in which each field holds its value and the bits of no field are 0
pub record HoldsParameters (memory : List ℕ) (len : ℕ) (params : List ParamValue) : Type 0 where
  pub length : length memory ≡ len
  pub octets : All (λ o. o < 256) memory
  pub fields : All (λ p. field_value memory p.bit p.width ≡ p.value) params
  pub others : (bit : ℕ) → bit < 8 * len → All (IsOutside bit) params → slice_index (bits_of memory) bit ≡ 0

-- ---- what is laid from settings

abbrev pub is_of_field : ModelField → ParamValue → Bool
is_of_field f p = (p.bit == f.bit) && (p.width == f.width)

-- the value that is set for a field, or its default
abbrev pub set_value : List ParamValue → ModelField → ℕ
set_value [] f = f.default
set_value (p ∷ ps) f = if is_of_field f p then p.value else set_value ps f

abbrev pub laid_field : List ParamValue → ModelField → ParamValue
laid_field settings f = record { bit = f.bit; width = f.width; value = set_value settings f }

-- the fields of a model, each with the value that is set or its default
unfoldable pub laid : Model → List ParamValue → List ParamValue
laid m settings = map (laid_field settings) m.parameters

-- a field of the model with a value in its range
pub record IsSetting (m : Model) (p : ParamValue) : Type 0 where
  pub field : ModelField
  pub member : Contains m.parameters field
  pub same : is_of_field field p ≡ true
  pub least : field.min ≤ p.value
  pub greatest : p.value ≤ field.max

abbrev pub first_bit : ParamValue → ℕ
first_bit p = p.bit

-- settings of the model, in which no field is set twice
pub record AreSettings (m : Model) (settings : List ParamValue) : Type 0 where
  pub each : All (IsSetting m) settings
  pub once : IsDistinct nat_eq (map first_bit settings)
