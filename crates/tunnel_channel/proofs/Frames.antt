-- What the client writes is read as the frame that it wrote.
use Rattle.std.proofs.Common.{◌≡◌, ℕ, List, Some, refl, arith}
use Rattle.std.proofs.lemmas.Grind.{common_steps}
use Rattle.knx_model.specs.declared.frames.ip.IpFrame.TheVariants.{ConnectRequest, StateRequest, DisconnectRequest, DisconnectResponse, TunnellingRequest, TunnellingAck}
use Rattle.knx_model.specs.KnxNetIp.{Written}
use Rattle.line_model.specs.Reading.{datagram_in}
use Rattle.line_model.specs.ClientEnd.{IsCemi}

pub connect_read : datagram_in (Written ConnectRequest) ≡ Some ConnectRequest
unfolding datagram_in
connect_read = refl

pub beat_read : (c : ℕ) → datagram_in (Written (StateRequest c)) ≡ Some (StateRequest c)
unfolding datagram_in
beat_read c = refl

pub leave_read : (c : ℕ) → datagram_in (Written (DisconnectRequest c)) ≡ Some (DisconnectRequest c)
unfolding datagram_in
leave_read c = refl

pub left_read : (c : ℕ) → datagram_in (Written (DisconnectResponse c 0)) ≡ Some (DisconnectResponse c 0)
unfolding datagram_in
left_read c = refl

pub ack_read : (c n : ℕ) → datagram_in (Written (TunnellingAck c n 0)) ≡ Some (TunnellingAck c n 0)
unfolding datagram_in
ack_read c n = refl

pub request_read : (c n : ℕ) (cemi : List ℕ) → IsCemi cemi → datagram_in (Written (TunnellingRequest c n cemi)) ≡ Some (TunnellingRequest c n cemi)
unfolding datagram_in
request_read c n cemi h = let some = h.some in let fits = h.fits in grind (arith, common_steps)
