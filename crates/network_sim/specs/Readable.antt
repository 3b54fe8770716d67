-- What need be kept of a datagram's octets, so that it reads as it did (ISO 22510, Core and Tunnelling): up to 300 all of them. Of the longer ones
-- none is a frame but a connect response with an error, whose octets behind the status are ignored: its frame is kept, and of the others nothing.
use Rattle.std.specs.Prelude.{ℕ, nat_le, List, [], length, if◌then◌else◌, Option, Some, None}
use Rattle.knx_model.specs.declared.frames.ip.IpFrame.{IpFrame}
use Rattle.knx_model.specs.declared.frames.ip.IpFrame.TheVariants.{ConnectResponse}
use Rattle.knx_model.specs.KnxNetIp.{Written}
use Rattle.line_model.specs.Reading.{datagram_in}

abbrev pub most_whole : ℕ
most_whole = 300

abbrev pub shortened : Option IpFrame → List ℕ
shortened (Some (ConnectResponse channel status None)) = Written (ConnectResponse channel status None)
shortened _ = []

abbrev pub readable : List ℕ → List ℕ
readable octets = if nat_le (length octets) most_whole then octets else shortened (datagram_in octets)
