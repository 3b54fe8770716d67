-- Which octets are which frame of the link layer (KNX standard 3/6/3, common EMI): message code, length of the additional
-- information, that information, two control octets, source, destination, length, TPDU. Octets are named by their place.
use Rattle.std.specs.Prelude.{◌≡◌, ◌≢◌, ℕ, ◌+◌, ◌-◌, ◌/◌, ◌%◌, ◌<◌, ◌≤◌, ◌⊎◌, ◌&&◌, ◌==◌, Bool, true, false, nat_lt, codes, List, ◌∷◌, length, drop, slice_index, IsTrue}
use Rattle.knx_model.specs.declared.frames.cemi.Ldata.{Ldata}
use Rattle.knx_model.specs.declared.frames.cemi.LdataCode.{LdataCode}
use Rattle.knx_model.specs.declared.frames.cemi.LdataCode.TheVariants.{Req, Con, Ind}
use Rattle.knx_model.specs.declared.frames.cemi.CemiRefused.{CemiRefused}
use Rattle.knx_model.specs.declared.frames.cemi.CemiRefused.TheVariants as refused
use Rattle.knx_model.specs.Apdu.{most_octets, most_standard_octets}
use Rattle.knx_model.specs.Octets.{word_at}

-- L_Data.req, L_Data.con, L_Data.ind
abbrev pub code_octet : LdataCode → ℕ
code_octet Req = 0x11
code_octet Con = 0x2E
code_octet Ind = 0x29

abbrev pub IsCode : ℕ → Type 0
IsCode octet = (octet ≡ 0x11) ⊎ (octet ≡ 0x2E) ⊎ (octet ≡ 0x29)

-- ---- what is read

-- bit 7 of the first control octet is 1 for a standard frame and 0 for an extended one
abbrev pub IsStandard : ℕ → Type 0
IsStandard first = 0x80 ≤ first

-- the frame format in the low four bits of the second control octet is that of L_Data
abbrev pub HasNoFormat : ℕ → Type 0
HasNoFormat second = second % 16 ≡ 0

-- what follows the additional information, after this message code. The first control octet: bit 7 is 1 for a standard frame, bits
-- 3 and 2 are the priority, bit 0 of a con is 1 for an error. The second: bit 7 is 1 for a group destination, bits 6 to 4 are the
-- hop count, and the low four bits of an extended frame are 0. The length counts the TPDU's octets after the first
pub record ReadsBody (first : ℕ) (body : List ℕ) (frame : Ldata) : Type 0 where
  pub long : 8 ≤ length body
  pub code : first ≡ code_octet frame.code
  pub format : ¬ IsStandard (slice_index body 0) → HasNoFormat (slice_index body 1)
  pub error : frame.error ≡ ((first == 0x2E) && (slice_index body 0 % 2 == 1))
  pub priority : frame.priority ≡ slice_index body 0 / 4 % 4
  pub group : frame.group ≡ (slice_index body 1 / 128 == 1)
  pub hops : frame.hops ≡ slice_index body 1 / 16 % 8
  pub source : frame.source ≡ word_at body 2
  pub destination : frame.destination ≡ word_at body 4
  pub length_octet : length frame.tpdu ≡ slice_index body 6 + 1
  pub short : IsStandard (slice_index body 0) → length frame.tpdu ≤ most_standard_octets
  pub fits : length frame.tpdu ≤ most_octets
  pub tpdu : frame.tpdu ≡ drop 7 body

-- code, length of the additional information, that information, and the body
pub record Reads (octets : List ℕ) (frame : Ldata) : Type 0 where
  pub long : 10 + slice_index octets 1 ≤ length octets
  pub body : ReadsBody (slice_index octets 0) (drop (2 + slice_index octets 1) octets) frame

-- ---- the refusals

-- the control octets and the length, behind the additional information
abbrev pub first_control : List ℕ → ℕ
first_control octets = slice_index octets (2 + slice_index octets 1)

abbrev pub second_control : List ℕ → ℕ
second_control octets = slice_index octets (3 + slice_index octets 1)

abbrev pub length_octet : List ℕ → ℕ
length_octet octets = slice_index octets (8 + slice_index octets 1)

-- what a refusal says of the octets
abbrev pub Breaks : CemiRefused → List ℕ → Type 0
Breaks refused.Short octets = length octets < 10 + slice_index octets 1
Breaks refused.Code octets = ¬ IsCode (slice_index octets 0)
Breaks refused.Extended octets = ¬ IsStandard (first_control octets) × ¬ HasNoFormat (second_control octets)
Breaks refused.Length octets =
    (length octets ≢ 10 + slice_index octets 1 + length_octet octets) ⊎ (IsStandard (first_control octets) × (most_standard_octets ≤ length_octet octets))
Breaks refused.Long octets = ¬ IsStandard (first_control octets) × (most_octets ≤ length_octet octets)

-- its number, from 1
abbrev pub refusal_number : CemiRefused → ℕ
refusal_number refused.Short = 1
refusal_number refused.Code = 2
refusal_number refused.Extended = 3
refusal_number refused.Length = 4
refusal_number refused.Long = 5

-- its word, as it is printed
abbrev pub refusal_word : CemiRefused → List ℕ
refusal_word refused.Short = codes "Short"
refusal_word refused.Code = codes "Code"
refusal_word refused.Extended = codes "Extended"
refusal_word refused.Length = codes "Length"
refusal_word refused.Long = codes "Long"

-- the least number whose rule the octets break
pub record IsLeastBroken (why : CemiRefused) (octets : List ℕ) : Type 0 where
  pub broken : Breaks why octets
  pub least : (other : CemiRefused) → refusal_number other < refusal_number why → ¬ Breaks other octets

-- ---- what is written

-- a frame is extended exactly where its TPDU doesn't fit into a standard one
abbrev pub is_extended : Ldata → Bool
is_extended frame = nat_lt most_standard_octets (length frame.tpdu)

-- the first control octet of an extended frame or a standard one, with an error or without
abbrev pub first_written : Bool → Bool → ℕ
first_written true true = 0x3D
first_written true false = 0x3C
first_written false true = 0xBD
first_written false false = 0xBC

-- the second, of a frame to a group or to one device
abbrev pub second_written : Bool → ℕ
second_written true = 0xE0
second_written false = 0x60

-- no additional information; low priority; hop count 6. That all frames are written with low priority, those of the transport layer
-- too, is this project's own.
abbrev pub Written : Ldata → List ℕ
Written frame =
    code_octet frame.code ∷ 0x00 ∷ first_written (is_extended frame) frame.error ∷ second_written frame.group
    ∷ frame.source / 256 ∷ frame.source % 256 ∷ frame.destination / 256 ∷ frame.destination % 256
    ∷ (length frame.tpdu - 1) ∷ frame.tpdu

-- the frames that are written: a request leaves its source to the gateway, and only a con tells of an error
pub record IsInRange (frame : Ldata) : Type 0 where
  pub some : 1 ≤ length frame.tpdu
  pub fits : length frame.tpdu ≤ most_octets
  pub priority : frame.priority ≡ 3
  pub hops : frame.hops ≡ 6
  pub error : IsTrue frame.error → frame.code ≡ Con
  pub source : frame.code ≡ Req → frame.source ≡ 0
