-- What the client of a run sends is written as the codecs write it.
use Rattle.std.proofs.Common.{ℕ, List, refl}
use Rattle.knx_model.specs.declared.frames.ip.IpFrame.TheVariants.{ConnectRequest, TunnellingRequest, TunnellingAck}
use Rattle.knx_model.specs.Cemi.{Written as cemi_octets}
use Rattle.knx_model.specs.KnxNetIp.{Written}
use Rattle.line_model.specs.Runs.{to_device}
use Rattle.line_model.specs.Written.{IsWritten}

pub connect_written : IsWritten (Written ConnectRequest)
connect_written = record { frame = ConnectRequest; carries = tt; is = refl }

pub ack_written : (number : ℕ) → IsWritten (Written (TunnellingAck 1 number 0))
ack_written number = record { frame = TunnellingAck 1 number 0; carries = tt; is = refl }

pub request_written : (number : ℕ) (tpdu : List ℕ) → IsWritten (Written (TunnellingRequest 1 number (cemi_octets (to_device tpdu))))
request_written number tpdu = record {
  frame = TunnellingRequest 1 number (cemi_octets (to_device tpdu));
  carries = record { frame = to_device tpdu; asks = refl; sound = refl; unnamed = refl; is = refl };
  is = refl;
}
