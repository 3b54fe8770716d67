-- Words that are addresses (ISO/IEC 14543-3-2, network layer): three numbers of 1 to 3 decimal digits. That 0 and 255 are no device's
-- part is this project's own: 0 is left to couplers, and 255 to tunnels and to devices without an address.
use Rattle.std.specs.Prelude.{ℕ, ◌+◌, ◌*◌, ◌/◌, ◌%◌, ◌==◌, List, [], ◌∷◌, Option, Some, None, if◌then◌else◌}
use Rattle.std.specs.List.{slice_split, join_with_byte}
use Rattle.std.specs.Option.{option_or}
use Rattle.std.specs.Fmt.{decimal}
use Rattle.knx_model.specs.declared.address.GroupAddr.{GroupAddr}
use Rattle.knx_model.specs.declared.address.IndAddr.{IndAddr}
use Rattle.knx_model.specs.declared.project.TextVersion.{TextVersion}
use Rattle.knx_model.specs.declared.project.TextVersion.TheVariants.{One, Two}
use Rattle.knx_model.specs.Numbers.{numeral, part_value, up_to}

infixl 10 ◌>>=◌
abbrev pub ◌>>=◌ : {A B : Type 0} → Option A → (A → Option B) → Option B
(Some x) >>= f = f x
None >>= f = None

-- just three parts
abbrev pub three : List (List ℕ) → Option (List ℕ × List ℕ × List ℕ)
three (a ∷ b ∷ c ∷ []) = Some (a, b, c)
three _ = None

-- three numbers of 1 to 3 digits joined by dots: area, line and device
unfoldable pub ind_value : List ℕ → Option IndAddr
ind_value word = do
  parts ← three (slice_split (λ b. b == 46) word)
  area ← part_value 15 parts.0
  line ← part_value 15 parts.1
  device ← part_value 254 parts.2
  if device == 0 then None else Some (record { raw = area * 4096 + line * 256 + device })

-- three numbers of 1 to 3 digits joined by slashes: main, middle and sub. 0/0/0 is broadcast
unfoldable pub group_value : List ℕ → Option GroupAddr
group_value word = do
  parts ← three (slice_split (λ b. b == 47) word)
  main ← part_value 31 parts.0
  middle ← part_value 7 parts.1
  sub ← part_value 255 parts.2
  if main * 2048 + middle * 256 + sub == 0 then None else Some (record { raw = main * 2048 + middle * 256 + sub })

-- just two parts
abbrev pub two : List (List ℕ) → Option (List ℕ × List ℕ)
two (a ∷ b ∷ []) = Some (a, b)
two _ = None

-- a group of two levels: main in 1 to 3 digits and sub in 1 to 4, joined by a slash. 0/0 is broadcast
unfoldable pub two_levels_value : List ℕ → Option GroupAddr
two_levels_value word = do
  parts ← two (slice_split (λ b. b == 47) word)
  main ← part_value 31 parts.0
  sub ← up_to 2047 (numeral 10 4 parts.1)
  if main * 2048 + sub == 0 then None else Some (record { raw = main * 2048 + sub })

-- a free group: one number of 1 to 5 digits. 0 is broadcast
unfoldable pub free_value : List ℕ → Option GroupAddr
free_value word = do
  raw ← up_to 65535 (numeral 10 5 word)
  if raw == 0 then None else Some (record { raw = raw })

-- a group as a project text of this version writes it: in three levels; from version 2 on in two levels or free too
abbrev pub group_by : TextVersion → List ℕ → Option GroupAddr
group_by One word = group_value word
group_by Two word = option_or (group_value word) (option_or (two_levels_value word) (free_value word))

-- addresses as they are printed, a group in three levels, without leading zeros
abbrev pub device_text : IndAddr → List ℕ
device_text d = join_with_byte 46 (decimal (d.raw / 4096) ∷ decimal (d.raw / 256 % 16) ∷ decimal (d.raw % 256) ∷ [])

abbrev pub group_text : GroupAddr → List ℕ
group_text g = join_with_byte 47 (decimal (g.raw / 2048) ∷ decimal (g.raw / 256 % 8) ∷ decimal (g.raw % 256) ∷ [])
