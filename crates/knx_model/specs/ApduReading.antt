-- The TPDU that octets are, as a function: the same grammar as `Reads` of `Apdu`, row by row, so that what a device does at some
-- octets is a function too. `apdu_frames` proves that it is that relation.
use Rattle.std.specs.Prelude.{ℕ, ◌+◌, ◌-◌, ◌*◌, ◌/◌, ◌%◌, Bool, ◌&&◌, ◌==◌, nat_lt, nat_le, List, [], ◌∷◌, length, Option, Some, None, if◌then◌else◌}
use Rattle.knx_model.specs.declared.frames.value.Value.{Value}
use Rattle.knx_model.specs.declared.frames.value.Value.TheVariants.{Short, Long}
use Rattle.knx_model.specs.declared.frames.tpdu.Apdu.{Apdu}
use Rattle.knx_model.specs.declared.frames.tpdu.Apdu.TheVariants.{GroupRead, GroupResponse, GroupWrite, AddressWrite, AddressRead, AddressResponse, MemoryRead, MemoryResponse, MemoryWrite, DescriptorRead, DescriptorResponse, PropertyRead, PropertyResponse, PropertyWrite}
use Rattle.knx_model.specs.declared.frames.tpdu.Tpdu.{Tpdu}
use Rattle.knx_model.specs.declared.frames.tpdu.Tpdu.TheVariants.{Unnumbered, Numbered, Connect, Disconnect, Ack, Nak}
use Rattle.knx_model.specs.Apdu.{service, low, code_of, Written, most_memory_octets, most_property_octets, most_value_octets}

abbrev pub where_it : {X : Type 0} → Bool → X → Option X
where_it test x = if test then Some x else None

abbrev pub option_map : {X Y : Type 0} → (X → Y) → Option X → Option Y
option_map f None = None
option_map f (Some x) = Some (f x)

-- nothing follows
abbrev pub bare : Apdu → List ℕ → Option Apdu
bare apdu [] = Some apdu
bare apdu (x ∷ xs) = None

-- a number of two octets follows
abbrev pub word_in : List ℕ → Option ℕ
word_in (high ∷ below ∷ []) = Some (256 * high + below)
word_in _ = None

-- a short value, or 1 to 14 octets
abbrev pub value_in : ℕ → List ℕ → Option Value
value_in code [] = Some (Short (low code))
value_in code (x ∷ xs) = where_it (nat_le (length (x ∷ xs)) most_value_octets) (Long (x ∷ xs))

-- an address of two octets, and what a service makes of it and of the octets after it
abbrev pub addressed : (ℕ → List ℕ → Option Apdu) → List ℕ → Option Apdu
addressed make (high ∷ below ∷ octets) = make (256 * high + below) octets
addressed make _ = None

-- object, property, count and start, and what a service makes of these and of the octets after them
abbrev pub of_property : (ℕ → ℕ → ℕ → ℕ → List ℕ → Option Apdu) → List ℕ → Option Apdu
of_property make (object ∷ property ∷ high ∷ below ∷ octets) = make object property (high / 16) (256 * (high % 16) + below) octets
of_property make _ = None

abbrev pub descriptor_in : ℕ → List ℕ → Option Apdu
descriptor_in kind rest = if kind == 0x3F then bare (DescriptorResponse kind None) rest else option_map (λ value. DescriptorResponse kind (Some value)) (word_in rest)

-- the service that the ten bits name, with what follows the second octet
unfoldable pub apdu_in : ℕ → List ℕ → Option Apdu
apdu_in code rest =
    if service code == 0x000 then bare GroupRead rest
    else (if service code == 0x040 then option_map GroupResponse (value_in code rest)
    else (if service code == 0x080 then option_map GroupWrite (value_in code rest)
    else (if service code == 0x0C0 then option_map (λ raw. AddressWrite (record { raw = raw })) (word_in rest)
    else (if service code == 0x100 then bare AddressRead rest
    else (if service code == 0x140 then bare AddressResponse rest
    else (if service code == 0x200 then option_map (λ address. MemoryRead (low code) address) (if nat_le 1 (low code) && nat_le (low code) most_memory_octets then word_in rest else None)
    else (if service code == 0x240 then addressed (λ address octets. where_it ((length octets == low code) && nat_le (length octets) most_memory_octets) (MemoryResponse address octets)) rest
    else (if service code == 0x280 then addressed (λ address octets. where_it ((length octets == low code) && nat_le 1 (length octets) && nat_le (length octets) most_memory_octets) (MemoryWrite address octets)) rest
    else (if service code == 0x300 then bare (DescriptorRead (low code)) rest
    else (if service code == 0x340 then descriptor_in (low code) rest
    else (if code == 0x3D5 then of_property (λ object property count start octets. bare (PropertyRead object property count start) octets) rest
    else (if code == 0x3D6 then of_property (λ object property count start octets. where_it (nat_le (length octets) most_property_octets) (PropertyResponse object property count start octets)) rest
    else (if code == 0x3D7 then of_property (λ object property count start octets. where_it (nat_le (length octets) most_property_octets) (PropertyWrite object property count start octets)) rest
    else None)))))))))))))

-- one octet
abbrev pub control_in : ℕ → Option Tpdu
control_in first =
    if first == 0x80 then Some Connect
    else (if first == 0x81 then Some Disconnect
    else (if nat_le 0xC0 first && (first % 4 == 2) && nat_lt first 256 then Some (Ack ((first - 0xC0) / 4))
    else (if nat_le 0xC0 first && (first % 4 == 3) && nat_lt first 256 then Some (Nak ((first - 0xC0) / 4))
    else None)))

-- the TPDU that octets are
unfoldable pub tpdu_in : List ℕ → Option Tpdu
tpdu_in [] = None
tpdu_in (first ∷ []) = control_in first
tpdu_in (first ∷ second ∷ rest) =
    if nat_lt first 4 then option_map Unnumbered (apdu_in (code_of first second) rest)
    else (if nat_le 0x40 first && nat_lt first 0x80 then option_map (Numbered (first / 4 - 16)) (apdu_in (code_of first second) rest)
    else None)

abbrev pub unnumbered : Option Tpdu → Option Apdu
unnumbered None = None
unnumbered (Some (Unnumbered apdu)) = Some apdu
unnumbered (Some _) = None

-- the service that octets with transport bits 0 ask for
unfoldable pub service_in : List ℕ → Option Apdu
service_in octets = unnumbered (tpdu_in octets)

-- a service as octets with transport bits 0
abbrev pub apdu_octets : Apdu → List ℕ
apdu_octets apdu = Written (Unnumbered apdu)
