-- Which octets are which frame of KNXnet/IP (ISO 22510, Core and Tunnelling): the header `06 10`, the service, the total length,
-- and the body of that service. Octets are named by their place.
use Rattle.std.specs.Prelude.{◌≡◌, ◌≢◌, ℕ, ◌+◌, ◌≤◌, ◌<◌, ◌⊎◌, codes, List, [], ◌∷◌, ◌++◌, length, drop, slice_index, Option, Some, None}
use Rattle.knx_model.specs.declared.address.IndAddr.{IndAddr}
use Rattle.knx_model.specs.declared.frames.ip.IpFrame.{IpFrame}
use Rattle.knx_model.specs.declared.frames.ip.IpFrame.TheVariants.{ConnectRequest, ConnectResponse, StateRequest, StateResponse, DisconnectRequest, DisconnectResponse, TunnellingRequest, TunnellingAck}
use Rattle.knx_model.specs.declared.frames.ip.IpRefused.{IpRefused}
use Rattle.knx_model.specs.declared.frames.ip.IpRefused.TheVariants as refused
use Rattle.knx_model.specs.Apdu.{word}
use Rattle.knx_model.specs.Octets.{word_at}

-- ---- the bodies

-- an endpoint (HPAI) from a place on: `08 01`, and any IPv4 address (4) and port (2)
abbrev pub IsEndpointAt : List ℕ → ℕ → Type 0
IsEndpointAt body i = (slice_index body i ≡ 0x08) × (slice_index body (i + 1) ≡ 0x01)

-- control endpoint, data endpoint, and `04 04 02` for a tunnel on the link layer. The last octet is reserved
abbrev pub IsConnectRequest : List ℕ → Type 0
IsConnectRequest body =
    (length body ≡ 20) × IsEndpointAt body 0 × IsEndpointAt body 8 × (slice_index body 16 ≡ 0x04) × (slice_index body 17 ≡ 0x04) × (slice_index body 18 ≡ 0x02)

-- after channel and status: the data endpoint, and `04 04` with the tunnel's address
abbrev pub HasTunnel : List ℕ → Type 0
HasTunnel body =
    (length body ≡ 14) × IsEndpointAt body 2 × (slice_index body 10 ≡ 0x04) × (slice_index body 11 ≡ 0x04)

-- a tunnel's address where the status is 0; otherwise what follows the status is ignored
abbrev pub IsTunnel : List ℕ → Option IndAddr → Type 0
IsTunnel body None = slice_index body 1 ≢ 0x00
IsTunnel body (Some address) = (slice_index body 1 ≡ 0x00) × HasTunnel body × (address.raw ≡ word_at body 12)

-- channel, a reserved octet, and the control endpoint
abbrev pub IsOfChannel : List ℕ → Type 0
IsOfChannel body = (length body ≡ 10) × IsEndpointAt body 2

-- ---- the table: the service, and its body

abbrev pub ReadsBody : ℕ → List ℕ → IpFrame → Type 0
ReadsBody service body ConnectRequest = (service ≡ 0x0205) × IsConnectRequest body
ReadsBody service body (ConnectResponse channel status tunnel) =
    (service ≡ 0x0206) × (2 ≤ length body) × (channel ≡ slice_index body 0) × (status ≡ slice_index body 1) × IsTunnel body tunnel
ReadsBody service body (StateRequest channel) = (service ≡ 0x0207) × IsOfChannel body × (channel ≡ slice_index body 0)
ReadsBody service body (StateResponse channel status) =
    (service ≡ 0x0208) × (length body ≡ 2) × (channel ≡ slice_index body 0) × (status ≡ slice_index body 1)
ReadsBody service body (DisconnectRequest channel) = (service ≡ 0x0209) × IsOfChannel body × (channel ≡ slice_index body 0)
ReadsBody service body (DisconnectResponse channel status) =
    (service ≡ 0x020A) × (length body ≡ 2) × (channel ≡ slice_index body 0) × (status ≡ slice_index body 1)
ReadsBody service body (TunnellingRequest channel number cemi) =
    (service ≡ 0x0420) × (5 ≤ length body) × (length body ≤ 294) × (slice_index body 0 ≡ 0x04)
    × (channel ≡ slice_index body 1) × (number ≡ slice_index body 2) × (cemi ≡ drop 4 body)
ReadsBody service body (TunnellingAck channel number status) =
    (service ≡ 0x0421) × (length body ≡ 4) × (slice_index body 0 ≡ 0x04)
    × (channel ≡ slice_index body 1) × (number ≡ slice_index body 2) × (status ≡ slice_index body 3)

abbrev pub HasHeader : List ℕ → Type 0
HasHeader octets = (6 ≤ length octets) × (slice_index octets 0 ≡ 0x06) × (slice_index octets 1 ≡ 0x10)

-- header, service, total length, body
pub record Reads (octets : List ℕ) (frame : IpFrame) : Type 0 where
  pub header : HasHeader octets
  pub total : word_at octets 4 ≡ length octets
  pub body : ReadsBody (word_at octets 2) (drop 6 octets) frame

-- ---- the refusals

-- a service of the table
abbrev pub IsService : ℕ → Type 0
IsService service = ((0x0205 ≤ service) × (service ≤ 0x020A)) ⊎ (service ≡ 0x0420) ⊎ (service ≡ 0x0421)

-- what the table wants of a service's body
pub record IsBody (service : ℕ) (body : List ℕ) : Type 0 where
  pub connect_request : service ≡ 0x0205 → IsConnectRequest body
  pub connect_response : service ≡ 0x0206 → (2 ≤ length body) × (slice_index body 1 ≡ 0x00 → HasTunnel body)
  pub state_request : service ≡ 0x0207 → IsOfChannel body
  pub state_response : service ≡ 0x0208 → length body ≡ 2
  pub disconnect_request : service ≡ 0x0209 → IsOfChannel body
  pub disconnect_response : service ≡ 0x020A → length body ≡ 2
  pub tunnelling_request : service ≡ 0x0420 → (5 ≤ length body) × (length body ≤ 294) × (slice_index body 0 ≡ 0x04)
  pub tunnelling_ack : service ≡ 0x0421 → (length body ≡ 4) × (slice_index body 0 ≡ 0x04)

-- what a refusal says of the octets
abbrev pub Breaks : IpRefused → List ℕ → Type 0
Breaks refused.Header octets = ¬ HasHeader octets
Breaks refused.Service octets = ¬ IsService (word_at octets 2)
Breaks refused.Length octets = word_at octets 4 ≢ length octets
Breaks refused.Body octets = ¬ IsBody (word_at octets 2) (drop 6 octets)

-- its number, from 1
abbrev pub refusal_number : IpRefused → ℕ
refusal_number refused.Header = 1
refusal_number refused.Service = 2
refusal_number refused.Length = 3
refusal_number refused.Body = 4

-- its word, as it is printed
abbrev pub refusal_word : IpRefused → List ℕ
refusal_word refused.Header = codes "Header"
refusal_word refused.Service = codes "Service"
refusal_word refused.Length = codes "Length"
refusal_word refused.Body = codes "Body"

-- the least number whose rule the octets break
pub record IsLeastBroken (why : IpRefused) (octets : List ℕ) : Type 0 where
  pub broken : Breaks why octets
  pub least : (other : IpRefused) → refusal_number other < refusal_number why → ¬ Breaks other octets

-- ---- what is written

-- an endpoint of zeros asks for an answer to the sender's address
abbrev pub endpoint : List ℕ
endpoint = 0x08 ∷ 0x01 ∷ 0 ∷ 0 ∷ 0 ∷ 0 ∷ 0 ∷ 0 ∷ []

abbrev pub service_of : IpFrame → ℕ
service_of ConnectRequest = 0x0205
service_of (ConnectResponse channel status tunnel) = 0x0206
service_of (StateRequest channel) = 0x0207
service_of (StateResponse channel status) = 0x0208
service_of (DisconnectRequest channel) = 0x0209
service_of (DisconnectResponse channel status) = 0x020A
service_of (TunnellingRequest channel number cemi) = 0x0420
service_of (TunnellingAck channel number status) = 0x0421

abbrev pub tunnel_octets : Option IndAddr → List ℕ
tunnel_octets None = []
tunnel_octets (Some address) = endpoint ++ 0x04 ∷ 0x04 ∷ word address.raw

abbrev pub body_of : IpFrame → List ℕ
body_of ConnectRequest = endpoint ++ endpoint ++ 0x04 ∷ 0x04 ∷ 0x02 ∷ 0x00 ∷ []
body_of (ConnectResponse channel status tunnel) = channel ∷ status ∷ tunnel_octets tunnel
body_of (StateRequest channel) = channel ∷ 0x00 ∷ endpoint
body_of (StateResponse channel status) = channel ∷ status ∷ []
body_of (DisconnectRequest channel) = channel ∷ 0x00 ∷ endpoint
body_of (DisconnectResponse channel status) = channel ∷ status ∷ []
body_of (TunnellingRequest channel number cemi) = 0x04 ∷ channel ∷ number ∷ 0x00 ∷ cemi
body_of (TunnellingAck channel number status) = 0x04 ∷ channel ∷ number ∷ status ∷ []

abbrev pub Written : IpFrame → List ℕ
Written frame = 0x06 ∷ 0x10 ∷ (word (service_of frame) ++ word (6 + length (body_of frame)) ++ body_of frame)

-- the frames that are written: a connect response has a tunnel's address exactly where its status is 0, and otherwise channel 0
abbrev pub IsInRange : IpFrame → Type 0
IsInRange (ConnectResponse channel status None) = (status ≢ 0) × (channel ≡ 0)
IsInRange (ConnectResponse channel status (Some address)) = status ≡ 0
IsInRange (TunnellingRequest channel number cemi) = (1 ≤ length cemi) × (length cemi ≤ 290)
IsInRange _ = Unit {0}
