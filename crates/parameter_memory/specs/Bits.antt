-- A parameter memory as bits, while fields are written into it.
use Rattle.std.specs.Prelude.{◌≡◌, ◌⊎◌, ℕ, zero, suc, ◌+◌, ◌/◌, ◌%◌, ◌^◌, ◌<◌, ◌≤◌, Bool, true, false, List, [], ◌∷◌, length, take, drop, set, All, slice_index}
use Rattle.knx_model.specs.declared.catalogue.model.ModelField.{ModelField}
use Rattle.knx_model.specs.declared.config.ParamValue.{ParamValue}
use Rattle.knx_model.specs.Parameters.{bits_value}

abbrev pub AreBits : List ℕ → Type 0
AreBits bits = All (λ b. b < 2) bits

abbrev pub AreOctets : List ℕ → Type 0
AreOctets octets = All (λ o. o < 256) octets

-- a bit that is set or not
abbrev pub digit : Bool → ℕ
digit true = 1
digit false = 0

-- the bits of a value, the highest first
abbrev pub value_bits : ℕ → ℕ → List ℕ
value_bits zero value = []
value_bits (suc width) value = value / 2 ^ width % 2 ∷ value_bits width value

-- bits with others in their place from here on
abbrev pub overwrite : List ℕ → ℕ → List ℕ → List ℕ
overwrite bits at [] = bits
overwrite bits at (x ∷ xs) = overwrite (set bits at x) (at + 1) xs

-- the field doesn't have the bit
abbrev pub IsBeside : ℕ → ModelField → Type 0
IsBeside b f = (b < f.bit) ⊎ (f.bit + f.width ≤ b)

-- each field holds its value, and the bits of no field are 0
pub record HoldsFields (bits : List ℕ) (fields : List ModelField) (value : ModelField → ℕ) : Type 0 where
  pub fields_hold : All (λ f. bits_value (take f.width (drop f.bit bits)) ≡ value f) fields
  pub others : (b : ℕ) → b < length bits → All (IsBeside b) fields → slice_index bits b ≡ 0

-- a setting of at most 32 bits that ends at this bit or before
abbrev pub LiesWithin : ℕ → ParamValue → Type 0
LiesWithin end p = (p.width ≤ 32) × (p.bit + p.width ≤ end)
