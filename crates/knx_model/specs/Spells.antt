-- What spells an address, a number, a size, flags, a name and a group value, as the grammar writes it.
use Rattle.std.specs.Prelude.{◌≡◌, ℕ, ◌+◌, ◌*◌, ◌<◌, ◌≤◌, true, codes, nat_eq, List, [], ◌∷◌, ◌++◌, length, map, sum, All, Contains, slice_get, Some}
use Rattle.std.specs.List.{list_all, IsDistinct}
use Rattle.std.specs.Char.{digit_value}
use Rattle.std.specs.Str.Parse.{digits_value}
use Rattle.knx_model.specs.declared.address.GroupAddr.{GroupAddr}
use Rattle.knx_model.specs.declared.address.IndAddr.{IndAddr}
use Rattle.knx_model.specs.declared.project.TextVersion.{TextVersion}
use Rattle.knx_model.specs.declared.project.TextVersion.TheVariants.{Two}
use Rattle.knx_model.specs.declared.frames.value.Value.{Value}
use Rattle.knx_model.specs.declared.frames.value.Value.TheVariants.{Short, Long}
use Rattle.knx_model.specs.Numbers.{is_digit}
use Rattle.knx_model.specs.Sizes.{sizes}
use Rattle.knx_model.specs.Flags.{flag_bit}

-- 1 to 3 decimal digits, of a number up to `most`
pub record SpellsPart (most : ℕ) (word : List ℕ) (n : ℕ) : Type 0 where
  pub digits : list_all (is_digit 10) word ≡ true
  pub some : 0 < length word
  pub short : length word ≤ 3
  pub value : digits_value 10 word ≡ n
  pub small : n ≤ most

-- main/middle/sub, and not 0/0/0
pub record SpellsGroup (word : List ℕ) (g : GroupAddr) : Type 0 where
  pub main : List ℕ
  pub middle : List ℕ
  pub sub : List ℕ
  pub a : ℕ
  pub b : ℕ
  pub c : ℕ
  pub main_is : SpellsPart 31 main a
  pub middle_is : SpellsPart 7 middle b
  pub sub_is : SpellsPart 255 sub c
  pub joined : word ≡ main ++ 47 ∷ (middle ++ 47 ∷ sub)
  pub raw : g.raw ≡ a * 2048 + b * 256 + c
  pub some : 0 < g.raw

-- area.line.device, with a device from 1 to 254
pub record SpellsDevice (word : List ℕ) (d : IndAddr) : Type 0 where
  pub area : List ℕ
  pub line : List ℕ
  pub device : List ℕ
  pub a : ℕ
  pub b : ℕ
  pub c : ℕ
  pub area_is : SpellsPart 15 area a
  pub line_is : SpellsPart 15 line b
  pub device_is : SpellsPart 254 device c
  pub joined : word ≡ area ++ 46 ∷ (line ++ 46 ∷ device)
  pub raw : d.raw ≡ a * 4096 + b * 256 + c
  pub some : 0 < c

-- 1 to `most` digits of a base
pub record SpellsDigits (base : ℕ) (most : ℕ) (digits : List ℕ) (n : ℕ) : Type 0 where
  pub are_digits : list_all (is_digit base) digits ≡ true
  pub some : 0 < length digits
  pub short : length digits ≤ most
  pub value : digits_value base digits ≡ n

-- main/sub, of 1 to 3 and of 1 to 4 digits, and not 0/0
pub record SpellsTwoLevels (word : List ℕ) (g : GroupAddr) : Type 0 where
  pub main : List ℕ
  pub sub : List ℕ
  pub a : ℕ
  pub b : ℕ
  pub main_is : SpellsPart 31 main a
  pub sub_is : SpellsDigits 10 4 sub b
  pub sub_fits : b ≤ 2047
  pub joined : word ≡ main ++ 47 ∷ sub
  pub raw : g.raw ≡ a * 2048 + b
  pub some : 0 < g.raw

-- one number of 1 to 5 digits, from 1 to 65,535
pub record SpellsFree (word : List ℕ) (g : GroupAddr) : Type 0 where
  pub number : SpellsDigits 10 5 word g.raw
  pub some : 0 < g.raw
  pub fits : g.raw ≤ 65535

-- a group in a project text of this version
pub data SpellsGroupBy (version : TextVersion) (word : List ℕ) (g : GroupAddr) : Type 0 where
  ThreeLevels : SpellsGroup word g → SpellsGroupBy version word g
  TwoLevels : version ≡ Two → SpellsTwoLevels word g → SpellsGroupBy version word g
  Free : version ≡ Two → SpellsFree word g → SpellsGroupBy version word g

-- 1 to 10 decimal digits, or 0x and 1 to 8 hexadecimal digits, up to 4,294,967,295
pub data SpellsNumber (word : List ℕ) (n : ℕ) : Type 0 where
  Decimal : SpellsDigits 10 10 word n → n ≤ 4294967295 → SpellsNumber word n
  Hexadecimal : (digits : List ℕ) → word ≡ codes "0x" ++ digits → SpellsDigits 16 8 digits n → SpellsNumber word n

-- a number of bits, which is that of the size code
pub record SpellsSize (word : List ℕ) (code : ℕ) : Type 0 where
  pub bits : ℕ
  pub number : SpellsNumber word bits
  pub of_code : slice_get sizes code ≡ Some bits

-- a dash, or distinct letters of C R W T U I in any order, each of which sets its bit
pub data SpellsFlags (word : List ℕ) (octet : ℕ) : Type 0 where
  NoFlags : word ≡ codes "-" → octet ≡ 3 → SpellsFlags word octet
  Letters : 0 < length word → All (Contains (codes "CRWTUI")) word → IsDistinct nat_eq word → octet ≡ 3 + sum (map flag_bit word) → SpellsFlags word octet

-- 1 to 32 letters, digits, underscores, dashes and dots
pub record SpellsName (word : List ℕ) : Type 0 where
  pub some : 0 < length word
  pub short : length word ≤ 32
  pub octets : All (Contains (codes "ABCDEFGHIJKLMNOPQRSTUVWXYZabcdefghijklmnopqrstuvwxyz0123456789_-.")) word

-- octets, each as two hexadecimal digits in either case, the high one first
pub data SpellsOctets : List ℕ → List ℕ → Type 0 where
  NoOctets : SpellsOctets [] []
  OneMore : (high below : ℕ) (digits octets : List ℕ) → is_digit 16 high ≡ true → is_digit 16 below ≡ true → SpellsOctets digits octets
      → SpellsOctets (high ∷ (below ∷ digits)) ((digit_value high * 16 + digit_value below) ∷ octets)

-- `s` and one octet up to 3F, or 1 to 14 octets
pub data SpellsValue : List ℕ → Value → Type 0 where
  ShortWord : (digits : List ℕ) (octet : ℕ) → SpellsOctets digits (octet ∷ []) → octet ≤ 0x3F → SpellsValue (115 ∷ digits) (Short octet)
  LongWord : (digits octets : List ℕ) → SpellsOctets digits octets → 1 ≤ length octets → length octets ≤ 14 → SpellsValue digits (Long octets)
