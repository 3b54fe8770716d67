-- The frames of the gateway, as the client reads them.
use Rattle.std.specs.Prelude.{take}
use Rattle.std.proofs.Common.{◌≡◌, ◌≢◌, ℕ, List, Bool, true, false, cond, Option, Some, None, refl, arith}
use Rattle.std.proofs.lemmas.Grind.{common_steps}
use Rattle.knx_model.specs.declared.address.IndAddr.{IndAddr}
use Rattle.knx_model.specs.declared.frames.ip.IpFrame.{IpFrame}
use Rattle.knx_model.specs.declared.frames.ip.IpFrame.TheVariants.{ConnectRequest, ConnectResponse, StateRequest, StateResponse, DisconnectRequest, DisconnectResponse, TunnellingRequest, TunnellingAck}
use Rattle.knx_model.specs.KnxNetIp.{Written}
use Rattle.line_model.specs.Reading.{datagram_in}
use Rattle.line_model.specs.Record.{Got, got_in}

-- neither an acknowledgement nor a connect response
abbrev pub IsOther : Option IpFrame → Type 0
IsOther None = Unit {0}
IsOther (Some ConnectRequest) = Unit {0}
IsOther (Some (ConnectResponse c s t)) = ⊥
IsOther (Some (StateRequest c)) = Unit {0}
IsOther (Some (StateResponse c s)) = Unit {0}
IsOther (Some (DisconnectRequest c)) = Unit {0}
IsOther (Some (DisconnectResponse c s)) = Unit {0}
IsOther (Some (TunnellingRequest c n p)) = Unit {0}
IsOther (Some (TunnellingAck c n s)) = ⊥

abbrev pub seen_of : List ℕ → Option IpFrame
seen_of octets = got_in (Got (take 512 octets))

pub ack_seen : (c n : ℕ) → seen_of (Written (TunnellingAck c n 0)) ≡ Some (TunnellingAck c n 0)
unfolding datagram_in
ack_seen c n = refl

pub response_seen : (c : ℕ) (a : IndAddr) → (t : Option IndAddr) × (seen_of (Written (ConnectResponse c 0 (Some a))) ≡ Some (ConnectResponse c 0 t))
unfolding datagram_in
response_seen c a = (_, refl)

pub state_seen : (c s : ℕ) → seen_of (Written (StateResponse c s)) ≡ Some (StateResponse c s)
unfolding datagram_in
state_seen c s = refl

pub disconnect_seen : (c : ℕ) → seen_of (Written (DisconnectRequest c)) ≡ Some (DisconnectRequest c)
unfolding datagram_in
disconnect_seen c = refl

pub disconnected_seen : (c s : ℕ) → seen_of (Written (DisconnectResponse c s)) ≡ Some (DisconnectResponse c s)
unfolding datagram_in
disconnected_seen c s = refl

pub refusal_seen : (s : ℕ) → s ≢ 0 → seen_of (Written (ConnectResponse 0 s None)) ≡ Some (ConnectResponse 0 s None)
unfolding datagram_in
refusal_seen s n = grind (arith, common_steps)

other_by : (t u : Bool) (c n : ℕ) (p : List ℕ) → IsOther (cond t (cond u (Some (TunnellingRequest c n p)) None) None)
other_by true true c n p = tt
other_by true false c n p = tt
other_by false u c n p = tt

pub request_seen : (c n : ℕ) (p : List ℕ) → IsOther (seen_of (Written (TunnellingRequest c n p)))
unfolding datagram_in
request_seen c n p = other_by _ _ _ _ _
