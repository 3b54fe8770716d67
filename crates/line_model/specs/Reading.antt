-- The frame of KNXnet/IP that a datagram's octets are (ISO 22510, Core and Tunnelling), and the frame of the link layer that a tunnelling
-- request's octets are (KNX standard 3/6/3, common EMI), as functions: the grammar of the relations `Reads` of `KnxNetIp` and of `Cemi`, row
-- by row. So what gateway and client make of a datagram is a function too. Laws of this crate say that each function is its relation.
use Rattle.std.specs.Prelude.{ℕ, ◌+◌, ◌/◌, ◌%◌, Bool, true, false, ◌&&◌, ◌||◌, ◌==◌, nat_le, List, length, drop, slice_index, Option, Some, None, if◌then◌else◌}
use Rattle.knx_model.specs.declared.address.IndAddr.{IndAddr}
use Rattle.knx_model.specs.declared.frames.cemi.Ldata.{Ldata}
use Rattle.knx_model.specs.declared.frames.cemi.LdataCode.{LdataCode}
use Rattle.knx_model.specs.declared.frames.cemi.LdataCode.TheVariants.{Req, Con, Ind}
use Rattle.knx_model.specs.declared.frames.ip.IpFrame.{IpFrame}
use Rattle.knx_model.specs.declared.frames.ip.IpFrame.TheVariants.{ConnectRequest, ConnectResponse, StateRequest, StateResponse, DisconnectRequest, DisconnectResponse, TunnellingRequest, TunnellingAck}
use Rattle.knx_model.specs.Apdu.{most_octets, most_standard_octets}
use Rattle.knx_model.specs.ApduReading.{where_it}
use Rattle.knx_model.specs.Octets.{word_at}

-- ---- KNXnet/IP

abbrev pub has_header : List ℕ → Bool
has_header octets = nat_le 6 (length octets) && (slice_index octets 0 == 0x06) && (slice_index octets 1 == 0x10) && (word_at octets 4 == length octets)

-- an endpoint (HPAI) from a place on
abbrev pub has_endpoint : List ℕ → ℕ → Bool
has_endpoint body i = (slice_index body i == 0x08) && (slice_index body (i + 1) == 0x01)

abbrev pub asks_tunnel : List ℕ → Bool
asks_tunnel body =
    (length body == 20) && has_endpoint body 0 && has_endpoint body 8 && (slice_index body 16 == 0x04) && (slice_index body 17 == 0x04) && (slice_index body 18 == 0x02)

abbrev pub has_tunnel : List ℕ → Bool
has_tunnel body = (length body == 14) && has_endpoint body 2 && (slice_index body 10 == 0x04) && (slice_index body 11 == 0x04)

-- a tunnel's address where the status is 0; otherwise what follows the status is ignored
abbrev pub connect_response_in : List ℕ → Option IpFrame
connect_response_in body =
    if slice_index body 1 == 0
    then where_it (has_tunnel body) (ConnectResponse (slice_index body 0) 0 (Some (record { raw = word_at body 12 })))
    else where_it (nat_le 2 (length body)) (ConnectResponse (slice_index body 0) (slice_index body 1) None)

abbrev pub is_of_channel : List ℕ → Bool
is_of_channel body = (length body == 10) && has_endpoint body 2

abbrev pub has_request : List ℕ → Bool
has_request body = nat_le 5 (length body) && nat_le (length body) 294 && (slice_index body 0 == 0x04)

abbrev pub has_acknowledgement : List ℕ → Bool
has_acknowledgement body = (length body == 4) && (slice_index body 0 == 0x04)

abbrev pub body_in : ℕ → List ℕ → Option IpFrame
body_in service body =
    if service == 0x0205 then where_it (asks_tunnel body) ConnectRequest
    else (if service == 0x0206 then connect_response_in body
    else (if service == 0x0207 then where_it (is_of_channel body) (StateRequest (slice_index body 0))
    else (if service == 0x0208 then where_it (length body == 2) (StateResponse (slice_index body 0) (slice_index body 1))
    else (if service == 0x0209 then where_it (is_of_channel body) (DisconnectRequest (slice_index body 0))
    else (if service == 0x020A then where_it (length body == 2) (DisconnectResponse (slice_index body 0) (slice_index body 1))
    else (if service == 0x0420 then where_it (has_request body) (TunnellingRequest (slice_index body 1) (slice_index body 2) (drop 4 body))
    else (if service == 0x0421 then where_it (has_acknowledgement body) (TunnellingAck (slice_index body 1) (slice_index body 2) (slice_index body 3))
    else None)))))))

-- the frame that a datagram is
unfoldable pub datagram_in : List ℕ → Option IpFrame
datagram_in octets = if has_header octets then body_in (word_at octets 2) (drop 6 octets) else None

-- ---- what a frame is, asked once

abbrev pub is_connect_request : Option IpFrame → Bool
is_connect_request (Some ConnectRequest) = true
is_connect_request _ = false

-- the tunnel's address that a connect response tells
abbrev pub tunnel_told : Option IpFrame → Option IndAddr
tunnel_told (Some (ConnectResponse channel status tunnel)) = tunnel
tunnel_told _ = None

-- a tunnelling request: its channel, its number and its cEMI octets
pub record RequestFrame : Type 0 where
  pub channel : ℕ
  pub number : ℕ
  pub cemi : List ℕ

abbrev pub request_in : Option IpFrame → Option RequestFrame
request_in (Some (TunnellingRequest channel number cemi)) = Some (record { channel = channel; number = number; cemi = cemi })
request_in _ = None

-- a tunnelling acknowledgement
pub record AckFrame : Type 0 where
  pub channel : ℕ
  pub number : ℕ
  pub status : ℕ

abbrev pub ack_in : Option IpFrame → Option AckFrame
ack_in (Some (TunnellingAck channel number status)) = Some (record { channel = channel; number = number; status = status })
ack_in _ = None

-- a connection state request, a disconnect request and a disconnect response are seen as their channel
abbrev pub state_request_in : Option IpFrame → Option ℕ
state_request_in (Some (StateRequest channel)) = Some channel
state_request_in _ = None

abbrev pub disconnect_request_in : Option IpFrame → Option ℕ
disconnect_request_in (Some (DisconnectRequest channel)) = Some channel
disconnect_request_in _ = None

abbrev pub disconnect_response_in : Option IpFrame → Option ℕ
disconnect_response_in (Some (DisconnectResponse channel status)) = Some channel
disconnect_response_in _ = None

-- a connection state response
pub record StateFrame : Type 0 where
  pub channel : ℕ
  pub status : ℕ

abbrev pub state_response_in : Option IpFrame → Option StateFrame
state_response_in (Some (StateResponse channel status)) = Some (record { channel = channel; status = status })
state_response_in _ = None

-- ---- the link layer

abbrev pub code_in : ℕ → Option LdataCode
code_in octet =
    if octet == 0x11 then Some Req
    else (if octet == 0x2E then Some Con
    else (if octet == 0x29 then Some Ind
    else None))

abbrev pub is_con : LdataCode → Bool
is_con Con = true
is_con _ = false

-- bit 7 of the first control octet is 1 for a standard frame
abbrev pub is_standard : List ℕ → Bool
is_standard body = nat_le 0x80 (slice_index body 0)

abbrev pub most_tpdu : List ℕ → ℕ
most_tpdu body = if is_standard body then most_standard_octets else most_octets

abbrev pub is_ldata : List ℕ → Bool
is_ldata body =
    nat_le 8 (length body) && (is_standard body || (slice_index body 1 % 16 == 0)) && (length (drop 7 body) == slice_index body 6 + 1) && nat_le (length (drop 7 body)) (most_tpdu body)

abbrev pub ldata_of : LdataCode → List ℕ → Ldata
ldata_of code body = record {
  code = code;
  error = is_con code && (slice_index body 0 % 2 == 1);
  group = slice_index body 1 / 128 == 1;
  priority = slice_index body 0 / 4 % 4;
  hops = slice_index body 1 / 16 % 8;
  source = word_at body 2;
  destination = word_at body 4;
  tpdu = drop 7 body;
}

abbrev pub ldata_with : Option LdataCode → List ℕ → Option Ldata
ldata_with None body = None
ldata_with (Some code) body = where_it (is_ldata body) (ldata_of code body)

-- the frame of the link layer that a request's octets are; the additional information is skipped
unfoldable pub ldata_in : List ℕ → Option Ldata
ldata_in octets =
    if nat_le (10 + slice_index octets 1) (length octets) then ldata_with (code_in (slice_index octets 0)) (drop (2 + slice_index octets 1) octets) else None

abbrev pub is_req : LdataCode → Bool
is_req Req = true
is_req _ = false

abbrev pub is_ind : LdataCode → Bool
is_ind Ind = true
is_ind _ = false
