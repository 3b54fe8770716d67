-- The text of a datagram of KNXnet/IP, in up to three lines: the frame of KNXnet/IP, one of discovery among them, the frame of the link layer in a tunnelling
-- request, and the TPDU in that one. Where octets are no frame, the last line has the number and the word of the least rule that
-- they break. Numbers are decimal, but a memory address is four hexadecimal digits; octets are two each, with capital letters.
use Rattle.std.specs.Prelude.{◌≡◌, ℕ, Bool, ◌&&◌, ◌⊎◌, nat_le, codes, List, [], ◌∷◌, ◌++◌, length, Option, Some, None, if◌then◌else◌}
use Rattle.std.specs.Fmt.{decimal}
use Rattle.knx_model.specs.declared.address.IndAddr.{IndAddr}
use Rattle.knx_model.specs.declared.frames.tpdu.Apdu.{Apdu}
use Rattle.knx_model.specs.declared.frames.tpdu.Apdu.TheVariants.{GroupRead, GroupResponse, GroupWrite, AddressWrite, AddressRead, AddressResponse, MemoryRead, MemoryResponse, MemoryWrite, DescriptorRead, DescriptorResponse, PropertyRead, PropertyResponse, PropertyWrite}
use Rattle.knx_model.specs.declared.frames.tpdu.Tpdu.{Tpdu}
use Rattle.knx_model.specs.declared.frames.tpdu.Tpdu.TheVariants.{Unnumbered, Numbered, Connect, Disconnect, Ack, Nak}
use Rattle.knx_model.specs.declared.frames.tpdu.TpduRefused.{TpduRefused}
use Rattle.knx_model.specs.declared.frames.cemi.Ldata.{Ldata}
use Rattle.knx_model.specs.declared.frames.cemi.LdataCode.{LdataCode}
use Rattle.knx_model.specs.declared.frames.cemi.LdataCode.TheVariants.{Req, Con, Ind}
use Rattle.knx_model.specs.declared.frames.cemi.CemiRefused.{CemiRefused}
use Rattle.knx_model.specs.declared.frames.ip.IpFrame.{IpFrame}
use Rattle.knx_model.specs.declared.frames.ip.IpFrame.TheVariants.{ConnectRequest, ConnectResponse, StateRequest, StateResponse, DisconnectRequest, DisconnectResponse, TunnellingRequest, TunnellingAck}
use Rattle.knx_model.specs.declared.frames.ip.IpRefused.{IpRefused}
use Rattle.knx_model.specs.declared.frames.ip.IpRefused.TheVariants as refused
use Rattle.discovery.specs.declared.find_frame.FindFrame.{FindFrame}
use Rattle.discovery.specs.Discovery as find
use Rattle.frame_text.specs.GatewayText.{find_line}
use Rattle.knx_model.specs.Apdu as tpdu
use Rattle.knx_model.specs.Cemi as cemi
use Rattle.knx_model.specs.KnxNetIp as ip
use Rattle.knx_model.specs.Addresses.{device_text, group_text}
use Rattle.knx_model.specs.TextLines.{line, hex_octet, hex_text, octets_text, value_text}
use Rattle.knx_model.specs.Values.{hex_octets}

-- ---- addresses

abbrev pub group_word : ℕ → List ℕ
group_word raw = group_text (record { raw = raw })

abbrev pub individual_word : ℕ → List ℕ
individual_word raw = device_text (record { raw = raw })

-- ---- the services of the application layer

abbrev pub property_words : ℕ → ℕ → ℕ → ℕ → List ℕ → List (List ℕ)
property_words object property count start octets =
    decimal object ∷ decimal property ∷ decimal count ∷ decimal start ∷ octets_text octets ∷ []

abbrev pub apdu_name : Apdu → List ℕ
apdu_name GroupRead = codes "group-read"
apdu_name (GroupResponse value) = codes "group-response"
apdu_name (GroupWrite value) = codes "group-write"
apdu_name (AddressWrite address) = codes "individual-address-write"
apdu_name AddressRead = codes "individual-address-read"
apdu_name AddressResponse = codes "individual-address-response"
apdu_name (MemoryRead count address) = codes "memory-read"
apdu_name (MemoryResponse address octets) = codes "memory-response"
apdu_name (MemoryWrite address octets) = codes "memory-write"
apdu_name (DescriptorRead kind) = codes "descriptor-read"
apdu_name (DescriptorResponse kind value) = codes "descriptor-response"
apdu_name (PropertyRead object property count start) = codes "property-read"
apdu_name (PropertyResponse object property count start octets) = codes "property-response"
apdu_name (PropertyWrite object property count start octets) = codes "property-write"

-- the fields of a service on a property; others have none of these
abbrev pub property_fields : Apdu → List (List ℕ)
property_fields (PropertyRead object property count start) = property_words object property count start []
property_fields (PropertyResponse object property count start octets) = property_words object property count start octets
property_fields (PropertyWrite object property count start octets) = property_words object property count start octets
property_fields _ = []

abbrev pub apdu_fields : Apdu → List (List ℕ)
apdu_fields (GroupResponse value) = value_text value ∷ []
apdu_fields (GroupWrite value) = value_text value ∷ []
apdu_fields (AddressWrite address) = device_text address ∷ []
apdu_fields (MemoryRead count address) = decimal count ∷ hex_text (tpdu.word address) ∷ []
apdu_fields (MemoryResponse address octets) = hex_text (tpdu.word address) ∷ octets_text octets ∷ []
apdu_fields (MemoryWrite address octets) = hex_text (tpdu.word address) ∷ octets_text octets ∷ []
apdu_fields (DescriptorRead kind) = decimal kind ∷ octets_text [] ∷ []
apdu_fields (DescriptorResponse kind value) = decimal kind ∷ octets_text (tpdu.optional_word value) ∷ []
apdu_fields apdu = property_fields apdu

-- a service and its fields
unfoldable pub apdu_words : Apdu → List (List ℕ)
apdu_words apdu = apdu_name apdu ∷ apdu_fields apdu

-- ---- the TPDU

abbrev pub tpdu_name : Tpdu → List ℕ
tpdu_name Connect = codes "connect"
tpdu_name Disconnect = codes "disconnect"
tpdu_name (Ack number) = codes "ack"
tpdu_name (Nak number) = codes "nak"
tpdu_name (Unnumbered apdu) = codes "unnumbered"
tpdu_name (Numbered number apdu) = codes "numbered"

abbrev pub tpdu_fields : Tpdu → List (List ℕ)
tpdu_fields Connect = []
tpdu_fields Disconnect = []
tpdu_fields (Ack number) = decimal number ∷ []
tpdu_fields (Nak number) = decimal number ∷ []
tpdu_fields (Unnumbered apdu) = apdu_words apdu
tpdu_fields (Numbered number apdu) = decimal number ∷ apdu_words apdu

-- a form of TPDU and its fields
abbrev pub tpdu_words : Tpdu → List (List ℕ)
tpdu_words frame = tpdu_name frame ∷ tpdu_fields frame

-- a refusal's number and its word
abbrev pub refusal_words : ℕ → List ℕ → List (List ℕ)
refusal_words number why = codes "refused" ∷ decimal number ∷ why ∷ []

abbrev pub tpdu_line : Tpdu → List ℕ
tpdu_line frame = line (codes "tpdu" ∷ tpdu_words frame)

abbrev pub tpdu_refusal_line : TpduRefused → List ℕ
tpdu_refusal_line why = line (codes "tpdu" ∷ refusal_words (tpdu.refusal_number why) (tpdu.refusal_word why))

-- ---- the frame of the link layer

abbrev pub code_word : LdataCode → List ℕ
code_word Req = codes "req"
code_word Con = codes "con"
code_word Ind = codes "ind"

-- what kind of address the destination is, and that address
abbrev pub destination_word : Bool → List ℕ
destination_word group = if group then codes "group" else codes "individual"

abbrev pub destination_text : Bool → ℕ → List ℕ
destination_text group raw = if group then group_word raw else individual_word raw

abbrev pub error_words : Bool → List (List ℕ)
error_words error = if error then codes "error" ∷ [] else []

-- the kind of the destination, source, destination, priority, hop count and whether a con tells of an error
abbrev pub cemi_words : Ldata → List (List ℕ)
cemi_words frame =
    code_word frame.code ∷ destination_word frame.group ∷ individual_word frame.source ∷ destination_text frame.group frame.destination
    ∷ codes "priority" ∷ decimal frame.priority ∷ codes "hops" ∷ decimal frame.hops ∷ error_words frame.error

abbrev pub cemi_line : Ldata → List ℕ
cemi_line frame = line (codes "cemi" ∷ cemi_words frame)

abbrev pub cemi_refusal_line : CemiRefused → List ℕ
cemi_refusal_line why = line (codes "cemi" ∷ refusal_words (cemi.refusal_number why) (cemi.refusal_word why))

-- ---- the frame of KNXnet/IP

abbrev pub channel_words : ℕ → List (List ℕ)
channel_words channel = codes "channel" ∷ decimal channel ∷ []

abbrev pub number_words : ℕ → List (List ℕ)
number_words number = codes "number" ∷ decimal number ∷ []

abbrev pub status_words : ℕ → List (List ℕ)
status_words status = codes "status" ∷ hex_octet status ∷ []

-- the tunnel's address, which stands there for status 00
abbrev pub tunnel_words : Option IndAddr → List (List ℕ)
tunnel_words None = []
tunnel_words (Some address) = codes "tunnel" ∷ device_text address ∷ []

abbrev pub ip_name : IpFrame → List ℕ
ip_name ConnectRequest = codes "connect-request"
ip_name (ConnectResponse channel status tunnel) = codes "connect-response"
ip_name (StateRequest channel) = codes "connectionstate-request"
ip_name (StateResponse channel status) = codes "connectionstate-response"
ip_name (DisconnectRequest channel) = codes "disconnect-request"
ip_name (DisconnectResponse channel status) = codes "disconnect-response"
ip_name (TunnellingRequest channel number cemi) = codes "tunnelling-request"
ip_name (TunnellingAck channel number status) = codes "tunnelling-ack"

abbrev pub ip_fields : IpFrame → List (List ℕ)
ip_fields ConnectRequest = []
ip_fields (ConnectResponse channel status tunnel) = channel_words channel ++ status_words status ++ tunnel_words tunnel
ip_fields (StateRequest channel) = channel_words channel
ip_fields (StateResponse channel status) = channel_words channel ++ status_words status
ip_fields (DisconnectRequest channel) = channel_words channel
ip_fields (DisconnectResponse channel status) = channel_words channel ++ status_words status
ip_fields (TunnellingRequest channel number cemi) = channel_words channel ++ number_words number
ip_fields (TunnellingAck channel number status) = channel_words channel ++ number_words number ++ status_words status

-- a service and its fields
abbrev pub ip_words : IpFrame → List (List ℕ)
ip_words frame = ip_name frame ∷ ip_fields frame

abbrev pub ip_line : IpFrame → List ℕ
ip_line frame = line (codes "ip" ∷ ip_words frame)

abbrev pub ip_refusal_line : IpRefused → List ℕ
ip_refusal_line why = line (codes "ip" ∷ refusal_words (ip.refusal_number why) (ip.refusal_word why))

-- ---- the text of octets

-- a text of this kind stands behind what stood there
abbrev pub GrowsBy : (List ℕ → Type 0) → List ℕ → List ℕ → Type 0
GrowsBy IsIt old new = (text : List ℕ) × IsIt text × (new ≡ old ++ text)

-- a TPDU's octets: the line of their least refusal, or of the frame that they are read as
unfoldable pub IsTpduText : List ℕ → List ℕ → Type 0
IsTpduText octets text =
    ((why : TpduRefused) × tpdu.IsLeastBroken why octets × (text ≡ tpdu_refusal_line why))
    ⊎ ((frame : Tpdu) × tpdu.Reads octets frame × (text ≡ tpdu_line frame))

-- a frame of the link layer: its line, and behind it a text of its TPDU
abbrev pub IsTextOfLdata : Ldata → List ℕ → Type 0
IsTextOfLdata frame text = (inner : List ℕ) × IsTpduText frame.tpdu inner × (text ≡ cemi_line frame ++ inner)

-- octets of the link layer
unfoldable pub IsCemiText : List ℕ → List ℕ → Type 0
IsCemiText octets text =
    ((why : CemiRefused) × cemi.IsLeastBroken why octets × (text ≡ cemi_refusal_line why))
    ⊎ ((frame : Ldata) × cemi.Reads octets frame × IsTextOfLdata frame text)

-- a frame of KNXnet/IP: its line, and behind that of a tunnelling request a text of the octets that it carries
abbrev pub IsTextOfIpFrame : IpFrame → List ℕ → Type 0
IsTextOfIpFrame (TunnellingRequest channel number cemi) text =
    (inner : List ℕ) × IsCemiText cemi inner × (text ≡ ip_line (TunnellingRequest channel number cemi) ++ inner)
IsTextOfIpFrame frame text = text ≡ ip_line frame

-- the octets of a datagram of another service than those of discovery
unfoldable pub IsTunnelText : List ℕ → List ℕ → Type 0
IsTunnelText octets text =
    ((why : IpRefused) × ip.IsLeastBroken why octets × (text ≡ ip_refusal_line why))
    ⊎ ((frame : IpFrame) × ip.Reads octets frame × IsTextOfIpFrame frame text)

-- octets that discovery refuses so: as another service's, or as a frame of its own that breaks a rule
abbrev pub IsRefusedText : IpRefused → List ℕ → List ℕ → Type 0
IsRefusedText refused.Header octets text = IsTunnelText octets text
IsRefusedText refused.Service octets text = IsTunnelText octets text
IsRefusedText refused.Length octets text = text ≡ ip_refusal_line refused.Length
IsRefusedText refused.Body octets text = text ≡ ip_refusal_line refused.Body

-- the octets of a datagram
unfoldable pub IsFrameText : List ℕ → List ℕ → Type 0
IsFrameText octets text =
    ((why : IpRefused) × find.IsLeastBroken why octets × IsRefusedText why octets text)
    ⊎ ((frame : FindFrame) × find.Reads octets frame × (text ≡ find_line frame))

-- ---- octets as a word

-- 1 to 512 octets
abbrev pub one_to_512 : Option (List ℕ) → Option (List ℕ)
one_to_512 None = None
one_to_512 (Some octets) = if nat_le 1 (length octets) && nat_le (length octets) 512 then Some octets else None

-- two hexadecimal digits an octet, in either case, for 1 to 512 octets
unfoldable pub hex_word : List ℕ → Option (List ℕ)
hex_word word = one_to_512 (hex_octets word)
