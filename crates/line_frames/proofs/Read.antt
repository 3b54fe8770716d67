-- What the decoders read is what a datagram and a request's octets are, and a connect response that reads has a tunnel's address where it is one.
use Rattle.std.proofs.Common.{◌≡◌, ◌≢◌, ℕ, ◌↔◌, true, false, eqb, arith, List, Option, Some, None, Ok, Err, refl, sym}
use Rattle.knx_model.specs.declared.frames.cemi.Ldata.{Ldata}
use Rattle.knx_model.specs.declared.frames.cemi.CemiRefused.{CemiRefused}
use Rattle.knx_model.specs.declared.frames.ip.IpFrame.{IpFrame}
use Rattle.knx_model.specs.declared.frames.ip.IpFrame.TheVariants.{ConnectRequest, ConnectResponse, StateRequest, StateResponse, DisconnectRequest, DisconnectResponse, TunnellingRequest, TunnellingAck}
use Rattle.knx_model.specs.declared.frames.ip.IpRefused.{IpRefused}
use Rattle.line_model.specs.ClientFrames.{HasTunnelIfUp}
use Rattle.knx_model.specs.Cemi.{Reads as ReadsLdata}
use Rattle.knx_model.specs.KnxNetIp.{Reads}
use Rattle.line_model.specs.Reading.{datagram_in, ldata_in}
use Rattle.std.proofs.lemmas.Bool.Decides.{nat_tests}

-- what has no value is None
nothing : {X : Type 0} (o wanted : Option X) → o ≡ wanted → ((x : X) → o ≡ Some x → ⊥) → None ≡ o
nothing o None e none = sym e
nothing o (Some x) e none = absurd (none x e)

pub datagram_read : ((octets : List ℕ) (frame : IpFrame) → (datagram_in octets ≡ Some frame) ↔ Reads octets frame) → (octets : List ℕ) (frame : IpFrame) → Reads octets frame → Some frame ≡ datagram_in octets
datagram_read law octets frame reads = sym ((law octets frame).1 reads)

pub datagram_unread : ((octets : List ℕ) (frame : IpFrame) → (datagram_in octets ≡ Some frame) ↔ Reads octets frame) → (octets : List ℕ) (why : IpRefused) → ((frame : IpFrame) → Reads octets frame → Err why ≡ Ok frame) → None ≡ datagram_in octets
datagram_unread law octets why only = nothing (datagram_in octets) _ refl (λ frame e. refuted frame (only frame ((law octets frame).0 e)))
  where
    refuted : (frame : IpFrame) → Err why ≡ Ok frame → ⊥
    refuted frame e = cc

pub frame_read : ((octets : List ℕ) (frame : Ldata) → (ldata_in octets ≡ Some frame) ↔ ReadsLdata octets frame) → (octets : List ℕ) (frame : Ldata) → ReadsLdata octets frame → Some frame ≡ ldata_in octets
frame_read law octets frame reads = sym ((law octets frame).1 reads)

pub frame_unread : ((octets : List ℕ) (frame : Ldata) → (ldata_in octets ≡ Some frame) ↔ ReadsLdata octets frame) → (octets : List ℕ) (why : CemiRefused) → ((frame : Ldata) → ReadsLdata octets frame → Err why ≡ Ok frame) → None ≡ ldata_in octets
frame_unread law octets why only = nothing (ldata_in octets) _ refl (λ frame e. refuted frame (only frame ((law octets frame).0 e)))
  where
    refuted : (frame : Ldata) → Err why ≡ Ok frame → ⊥
    refuted frame e = cc

-- a connect response that reads has a tunnel's address exactly where its status is 0
pub has_tunnel : (octets : List ℕ) (frame : IpFrame) → Reads octets frame → HasTunnelIfUp frame
has_tunnel octets ConnectRequest reads = tt
has_tunnel octets (ConnectResponse channel status None) reads = none_is status _ reads.body.3 reads.body.4
  where
    none_is : (status other : ℕ) → status ≡ other → other ≢ 0 → false ≡ eqb status 0
    none_is status other e unequal = grind (arith, nat_tests)
has_tunnel octets (ConnectResponse channel status (Some tunnel)) reads = some_is status _ reads.body.3 reads.body.4.0
  where
    some_is : (status other : ℕ) → status ≡ other → other ≡ 0 → true ≡ eqb status 0
    some_is status other e zero = grind (arith, nat_tests)
has_tunnel octets (StateRequest channel) reads = tt
has_tunnel octets (StateResponse channel status) reads = tt
has_tunnel octets (DisconnectRequest channel) reads = tt
has_tunnel octets (DisconnectResponse channel status) reads = tt
has_tunnel octets (TunnellingRequest channel number cemi) reads = tt
has_tunnel octets (TunnellingAck channel number status) reads = tt

-- the same of each datagram
pub has_tunnels : ((octets : List ℕ) (frame : IpFrame) → (datagram_in octets ≡ Some frame) ↔ Reads octets frame) → (octets : List ℕ) (frame : IpFrame) → datagram_in octets ≡ Some frame → HasTunnelIfUp frame
has_tunnels law octets frame is = has_tunnel octets frame ((law octets frame).0 is)
