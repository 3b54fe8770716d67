-- Which octets are which TPDU (ISO/IEC 14543-3-2 and 3-1, transport and application layer): the forms of the first octet, the ten bits
-- that name the service (APCI), and what follows the second octet.
use Rattle.std.specs.Prelude.{◌≡◌, ◌≢◌, ℕ, ◌+◌, ◌*◌, ◌/◌, ◌%◌, ◌<◌, ◌≤◌, ◌⊎◌, codes, List, [], ◌∷◌, ◌++◌, length, Option, Some, None}
use Rattle.knx_model.specs.declared.frames.value.Value.{Value}
use Rattle.knx_model.specs.declared.frames.value.Value.TheVariants.{Short, Long}
use Rattle.knx_model.specs.declared.frames.tpdu.Apdu.{Apdu}
use Rattle.knx_model.specs.declared.frames.tpdu.Apdu.TheVariants.{GroupRead, GroupResponse, GroupWrite, AddressWrite, AddressRead, AddressResponse, MemoryRead, MemoryResponse, MemoryWrite, DescriptorRead, DescriptorResponse, PropertyRead, PropertyResponse, PropertyWrite}
use Rattle.knx_model.specs.declared.frames.tpdu.Tpdu.{Tpdu}
use Rattle.knx_model.specs.declared.frames.tpdu.Tpdu.TheVariants.{Unnumbered, Numbered, Connect, Disconnect, Ack, Nak}
use Rattle.knx_model.specs.declared.frames.tpdu.TpduRefused.{TpduRefused}
use Rattle.knx_model.specs.declared.frames.tpdu.TpduRefused.TheVariants as refused

-- ---- the limits

-- the most octets of a TPDU, and of one in a standard frame
abbrev pub most_octets : ℕ
most_octets = 64

abbrev pub most_standard_octets : ℕ
most_standard_octets = 16

-- the most octets that a memory service carries
abbrev pub most_memory_octets : ℕ
most_memory_octets = 60

-- the most octets of a property's value in one service
abbrev pub most_property_octets : ℕ
most_property_octets = 10

-- the most octets of a group value
abbrev pub most_value_octets : ℕ
most_value_octets = 14

-- ---- the parts of a service's row

-- the service of a code of ten bits: the code with its low six bits 0
abbrev pub service : ℕ → ℕ
service code = code / 64 * 64

-- what its low six bits carry
abbrev pub low : ℕ → ℕ
low code = code % 64

-- a number of two octets, the high one first
abbrev pub IsWord : List ℕ → ℕ → Type 0
IsWord (high ∷ below ∷ []) n = n ≡ 256 * high + below
IsWord _ n = ⊥

-- an address, and then the octets
abbrev pub IsAddressed : List ℕ → ℕ → List ℕ → Type 0
IsAddressed (high ∷ below ∷ rest) address octets = (address ≡ 256 * high + below) × (octets ≡ rest)
IsAddressed _ address octets = ⊥

-- object, property, count of 4 bits and start of 12, and then the octets
abbrev pub IsOfProperty : List ℕ → ℕ → ℕ → ℕ → ℕ → List ℕ → Type 0
IsOfProperty (o ∷ p ∷ high ∷ below ∷ rest) object property count start octets =
    (object ≡ o) × (property ≡ p) × (count ≡ high / 16) × (start ≡ 256 * (high % 16) + below) × (octets ≡ rest)
IsOfProperty _ object property count start octets = ⊥

-- a short value stands in the low six bits, and a long one is 1 to 14 octets
abbrev pub IsValue : ℕ → List ℕ → Value → Type 0
IsValue code rest (Short value) = (rest ≡ []) × (value ≡ low code)
IsValue code rest (Long octets) = (octets ≡ rest) × (1 ≤ length rest) × (length rest ≤ most_value_octets)

-- a descriptor of two octets, and none for type 3F
abbrev pub IsDescriptor : ℕ → List ℕ → Option ℕ → Type 0
IsDescriptor kind rest None = (kind ≡ 0x3F) × (rest ≡ [])
IsDescriptor kind rest (Some value) = (kind ≢ 0x3F) × IsWord rest value

-- ---- the table: the code of ten bits, and what follows the second octet

abbrev pub ReadsApdu : ℕ → List ℕ → Apdu → Type 0
ReadsApdu code rest GroupRead = (service code ≡ 0x000) × (rest ≡ [])
ReadsApdu code rest (GroupResponse value) = (service code ≡ 0x040) × IsValue code rest value
ReadsApdu code rest (GroupWrite value) = (service code ≡ 0x080) × IsValue code rest value
ReadsApdu code rest (AddressWrite address) = (service code ≡ 0x0C0) × IsWord rest address.raw
ReadsApdu code rest AddressRead = (service code ≡ 0x100) × (rest ≡ [])
ReadsApdu code rest AddressResponse = (service code ≡ 0x140) × (rest ≡ [])
ReadsApdu code rest (MemoryRead count address) =
    (service code ≡ 0x200) × IsWord rest address × (count ≡ low code) × (1 ≤ count) × (count ≤ most_memory_octets)
ReadsApdu code rest (MemoryResponse address octets) =
    (service code ≡ 0x240) × IsAddressed rest address octets × (length octets ≡ low code) × (length octets ≤ most_memory_octets)
ReadsApdu code rest (MemoryWrite address octets) =
    (service code ≡ 0x280) × IsAddressed rest address octets × (length octets ≡ low code) × (1 ≤ length octets) × (length octets ≤ most_memory_octets)
ReadsApdu code rest (DescriptorRead kind) = (service code ≡ 0x300) × (rest ≡ []) × (kind ≡ low code)
ReadsApdu code rest (DescriptorResponse kind value) =
    (service code ≡ 0x340) × IsDescriptor kind rest value × (kind ≡ low code)
ReadsApdu code rest (PropertyRead object property count start) =
    (code ≡ 0x3D5) × IsOfProperty rest object property count start []
ReadsApdu code rest (PropertyResponse object property count start octets) =
    (code ≡ 0x3D6) × IsOfProperty rest object property count start octets × (length octets ≤ most_property_octets)
ReadsApdu code rest (PropertyWrite object property count start octets) =
    (code ≡ 0x3D7) × IsOfProperty rest object property count start octets × (length octets ≤ most_property_octets)

-- ---- the forms of the first octet

-- one octet: T_Connect 80, T_Disconnect 81, T_ACK 11ssss10, T_NAK 11ssss11
abbrev pub ReadsControl : ℕ → Tpdu → Type 0
ReadsControl first Connect = first ≡ 0x80
ReadsControl first Disconnect = first ≡ 0x81
ReadsControl first (Ack number) = (first ≡ 0xC2 + 4 * number) × (number < 16)
ReadsControl first (Nak number) = (first ≡ 0xC3 + 4 * number) × (number < 16)
ReadsControl first _ = ⊥

-- the ten bits: the upper two in the first octet, the lower eight are the second
abbrev pub code_of : ℕ → ℕ → ℕ
code_of first second = 256 * (first % 4) + second

-- two octets and more: unnumbered 000000aa, numbered 01ssssaa
abbrev pub ReadsData : ℕ → ℕ → List ℕ → Tpdu → Type 0
ReadsData first second rest (Unnumbered apdu) = (first < 4) × ReadsApdu (code_of first second) rest apdu
ReadsData first second rest (Numbered number apdu) =
    (number < 16) × (first / 4 ≡ 16 + number) × ReadsApdu (code_of first second) rest apdu
ReadsData first second rest _ = ⊥

abbrev pub Reads : List ℕ → Tpdu → Type 0
Reads [] frame = ⊥
Reads (first ∷ []) frame = ReadsControl first frame
Reads (first ∷ second ∷ rest) frame = ReadsData first second rest frame

-- ---- the refusals

abbrev pub IsControlForm : ℕ → Type 0
IsControlForm first = (first ≡ 0x80) ⊎ (first ≡ 0x81) ⊎ ((0xC0 ≤ first) × (2 ≤ first % 4))

abbrev pub IsDataForm : ℕ → Type 0
IsDataForm first = (first < 4) ⊎ ((0x40 ≤ first) × (first < 0x80))

-- a service of the table
abbrev pub IsService : ℕ → Type 0
IsService code =
    (service code ≡ 0x000) ⊎ (service code ≡ 0x040) ⊎ (service code ≡ 0x080) ⊎ (service code ≡ 0x0C0)
    ⊎ (service code ≡ 0x100) ⊎ (service code ≡ 0x140)
    ⊎ (service code ≡ 0x200) ⊎ (service code ≡ 0x240) ⊎ (service code ≡ 0x280)
    ⊎ (service code ≡ 0x300) ⊎ (service code ≡ 0x340)
    ⊎ (code ≡ 0x3D5) ⊎ (code ≡ 0x3D6) ⊎ (code ≡ 0x3D7)

-- how many octets the table allows after the second one, counted octets aside
pub record AllowsLength (code n : ℕ) : Type 0 where
  pub group_read : service code ≡ 0x000 → n ≡ 0
  pub group_response : service code ≡ 0x040 → n ≤ most_value_octets
  pub group_write : service code ≡ 0x080 → n ≤ most_value_octets
  pub address_write : service code ≡ 0x0C0 → n ≡ 2
  pub address_read : service code ≡ 0x100 → n ≡ 0
  pub address_response : service code ≡ 0x140 → n ≡ 0
  pub memory_read : service code ≡ 0x200 → n ≡ 2
  pub memory_response : service code ≡ 0x240 → 2 ≤ n
  pub memory_write : service code ≡ 0x280 → 2 ≤ n
  pub descriptor_read : service code ≡ 0x300 → n ≡ 0
  pub descriptor_response : service code ≡ 0x340 → code ≢ 0x37F → n ≡ 2
  pub no_descriptor : code ≡ 0x37F → n ≡ 0
  pub property_read : code ≡ 0x3D5 → n ≡ 4
  pub property_response : code ≡ 0x3D6 → (4 ≤ n) × (n ≤ 4 + most_property_octets)
  pub property_write : code ≡ 0x3D7 → (4 ≤ n) × (n ≤ 4 + most_property_octets)

-- the count of a memory service
pub record AllowsCount (code n : ℕ) : Type 0 where
  pub memory_read : service code ≡ 0x200 → (1 ≤ low code) × (low code ≤ most_memory_octets)
  pub memory_response : service code ≡ 0x240 → (low code ≤ most_memory_octets) × (n ≡ 2 + low code)
  pub memory_write : service code ≡ 0x280 → (1 ≤ low code) × (low code ≤ most_memory_octets) × (n ≡ 2 + low code)

abbrev pub HasNoCode : List ℕ → Type 0
HasNoCode [] = ⊥
HasNoCode (first ∷ []) = ¬ IsControlForm first
HasNoCode (first ∷ second ∷ rest) = ¬ IsControlForm first × (IsDataForm first → ¬ IsService (code_of first second))

abbrev pub HasWrongLength : List ℕ → Type 0
HasWrongLength [] = ⊥
HasWrongLength (first ∷ []) = ⊥
HasWrongLength (first ∷ second ∷ rest) =
    IsControlForm first ⊎ (IsDataForm first × ¬ AllowsLength (code_of first second) (length rest))

abbrev pub HasWrongCount : List ℕ → Type 0
HasWrongCount [] = ⊥
HasWrongCount (first ∷ []) = ⊥
HasWrongCount (first ∷ second ∷ rest) = IsDataForm first × ¬ AllowsCount (code_of first second) (length rest)

-- what a refusal says of the octets
abbrev pub Breaks : TpduRefused → List ℕ → Type 0
Breaks refused.Empty octets = octets ≡ []
Breaks refused.Code octets = HasNoCode octets
Breaks refused.Length octets = HasWrongLength octets
Breaks refused.Count octets = HasWrongCount octets

-- its number, from 1
abbrev pub refusal_number : TpduRefused → ℕ
refusal_number refused.Empty = 1
refusal_number refused.Code = 2
refusal_number refused.Length = 3
refusal_number refused.Count = 4

-- its word, as it is printed
abbrev pub refusal_word : TpduRefused → List ℕ
refusal_word refused.Empty = codes "Empty"
refusal_word refused.Code = codes "Code"
refusal_word refused.Length = codes "Length"
refusal_word refused.Count = codes "Count"

-- the least number whose rule the octets break
pub record IsLeastBroken (why : TpduRefused) (octets : List ℕ) : Type 0 where
  pub broken : Breaks why octets
  pub least : (other : TpduRefused) → refusal_number other < refusal_number why → ¬ Breaks other octets

-- ---- what is written

abbrev pub word : ℕ → List ℕ
word n = n / 256 ∷ n % 256 ∷ []

abbrev pub short : Value → ℕ
short (Short value) = value
short (Long octets) = 0

abbrev pub long : Value → List ℕ
long (Short value) = []
long (Long octets) = octets

abbrev pub optional_word : Option ℕ → List ℕ
optional_word None = []
optional_word (Some n) = word n

abbrev pub property_head : ℕ → ℕ → ℕ → ℕ → List ℕ
property_head object property count start = object ∷ property ∷ (16 * count + start / 256) ∷ start % 256 ∷ []

-- the ten bits
abbrev pub apdu_code : Apdu → ℕ
apdu_code GroupRead = 0x000
apdu_code (GroupResponse value) = 0x040 + short value
apdu_code (GroupWrite value) = 0x080 + short value
apdu_code (AddressWrite address) = 0x0C0
apdu_code AddressRead = 0x100
apdu_code AddressResponse = 0x140
apdu_code (MemoryRead count address) = 0x200 + count
apdu_code (MemoryResponse address octets) = 0x240 + length octets
apdu_code (MemoryWrite address octets) = 0x280 + length octets
apdu_code (DescriptorRead kind) = 0x300 + kind
apdu_code (DescriptorResponse kind value) = 0x340 + kind
apdu_code (PropertyRead object property count start) = 0x3D5
apdu_code (PropertyResponse object property count start octets) = 0x3D6
apdu_code (PropertyWrite object property count start octets) = 0x3D7

-- what follows the second octet
abbrev pub rest_of : Apdu → List ℕ
rest_of (GroupResponse value) = long value
rest_of (GroupWrite value) = long value
rest_of (AddressWrite address) = word address.raw
rest_of (MemoryRead count address) = word address
rest_of (MemoryResponse address octets) = word address ++ octets
rest_of (MemoryWrite address octets) = word address ++ octets
rest_of (DescriptorResponse kind value) = optional_word value
rest_of (PropertyRead object p count start) = property_head object p count start
rest_of (PropertyResponse object p count start octets) = property_head object p count start ++ octets
rest_of (PropertyWrite object p count start octets) = property_head object p count start ++ octets
rest_of _ = []

abbrev pub WrittenApdu : ℕ → Apdu → List ℕ
WrittenApdu upper apdu = (4 * upper + apdu_code apdu / 256) ∷ apdu_code apdu % 256 ∷ rest_of apdu

abbrev pub Written : Tpdu → List ℕ
Written (Unnumbered apdu) = WrittenApdu 0 apdu
Written (Numbered number apdu) = WrittenApdu (0x10 + number) apdu
Written Connect = 0x80 ∷ []
Written Disconnect = 0x81 ∷ []
Written (Ack number) = (0xC2 + 4 * number) ∷ []
Written (Nak number) = (0xC3 + 4 * number) ∷ []

-- ---- the ranges

abbrev pub IsValueInRange : Value → Type 0
IsValueInRange (Short value) = value < 64
IsValueInRange (Long octets) = (1 ≤ length octets) × (length octets ≤ most_value_octets)

abbrev pub IsDescriptorInRange : ℕ → Option ℕ → Type 0
IsDescriptorInRange kind None = kind ≡ 0x3F
IsDescriptorInRange kind (Some value) = kind < 0x3F

abbrev pub IsApduInRange : Apdu → Type 0
IsApduInRange (GroupResponse value) = IsValueInRange value
IsApduInRange (GroupWrite value) = IsValueInRange value
IsApduInRange (MemoryRead count address) = (1 ≤ count) × (count ≤ most_memory_octets)
IsApduInRange (MemoryResponse address octets) = length octets ≤ most_memory_octets
IsApduInRange (MemoryWrite address octets) = (1 ≤ length octets) × (length octets ≤ most_memory_octets)
IsApduInRange (DescriptorRead kind) = kind < 64
IsApduInRange (DescriptorResponse kind value) = IsDescriptorInRange kind value
IsApduInRange (PropertyRead object p count start) = (count < 16) × (start < 4096)
IsApduInRange (PropertyResponse object p count start octets) = (count < 16) × (start < 4096) × (length octets ≤ most_property_octets)
IsApduInRange (PropertyWrite object p count start octets) = (count < 16) × (start < 4096) × (length octets ≤ most_property_octets)
IsApduInRange _ = Unit {0}

abbrev pub IsInRange : Tpdu → Type 0
IsInRange (Unnumbered apdu) = IsApduInRange apdu
IsInRange (Numbered number apdu) = (number < 16) × IsApduInRange apdu
IsInRange (Ack number) = number < 16
IsInRange (Nak number) = number < 16
IsInRange _ = Unit {0}
