-- The octets that the client sends (ISO 22510, Core and Tunnelling; ISO/IEC 14543-3-7, cEMI). Each datagram is its frame's, octet for octet: its endpoints are of
-- zeros, so that the gateway answers the sender's address. A request carries a frame of low priority and hop count 6, whose source the gateway puts in.
use Rattle.std.specs.Prelude.{◌≡◌, ℕ, false, List, [], ◌∷◌}
use Rattle.knx_model.specs.declared.frames.cemi.Ldata.{Ldata}
use Rattle.knx_model.specs.declared.frames.cemi.LdataCode.TheVariants.{Req}
use Rattle.knx_model.specs.declared.frames.ip.IpFrame.{IpFrame}
use Rattle.knx_model.specs.declared.frames.ip.IpFrame.TheVariants.{ConnectRequest, ConnectResponse, StateRequest, StateResponse, DisconnectRequest, DisconnectResponse, TunnellingRequest, TunnellingAck}
use Rattle.knx_model.specs.Cemi as cemi
use Rattle.knx_model.specs.KnxNetIp.{Written}
use Rattle.line_model.specs.Record.{Item, Put, Renewed, Got, Quiet, Entry}

-- the cEMI octets of a request of the client
pub record IsRequest (octets : List ℕ) : Type 0 where
  pub frame : Ldata
  pub asks : frame.code ≡ Req
  pub sound : frame.error ≡ false
  pub unnamed : frame.source ≡ 0
  pub is : octets ≡ cemi.Written frame

abbrev pub CarriesRequest : IpFrame → Type 0
CarriesRequest ConnectRequest = Unit {0}
CarriesRequest (ConnectResponse channel status tunnel) = Unit {0}
CarriesRequest (StateRequest channel) = Unit {0}
CarriesRequest (StateResponse channel status) = Unit {0}
CarriesRequest (DisconnectRequest channel) = Unit {0}
CarriesRequest (DisconnectResponse channel status) = Unit {0}
CarriesRequest (TunnellingRequest channel number octets) = IsRequest octets
CarriesRequest (TunnellingAck channel number status) = Unit {0}

-- the octets of a datagram of the client
pub record IsWritten (octets : List ℕ) : Type 0 where
  pub frame : IpFrame
  pub carries : CarriesRequest frame
  pub is : octets ≡ Written frame

abbrev pub IsWrittenItem : Item → Type 0
IsWrittenItem (Put octets) = IsWritten octets
IsWrittenItem Renewed = Unit {0}
IsWrittenItem (Got octets) = Unit {0}
IsWrittenItem Quiet = Unit {0}

abbrev pub AllWritten : List Entry → Type 0
AllWritten [] = Unit {0}
AllWritten (x ∷ r) = IsWrittenItem x.what × AllWritten r
