-- A datagram of more than 300 octets is a connect response with an error, or no frame. So it reads as what is kept of it.
use Rattle.std.proofs.Common.{◌≡◌, ℕ, ◌<◌, ◌≤◌, Bool, true, false, ◌&&◌, ◌==◌, List, [], length, drop, refl, arith, Option, Some, None, if◌then◌else◌, length-drop}
use Rattle.std.specs.Prelude.{nat_le, slice_index}
use Rattle.knx_model.specs.declared.frames.ip.IpFrame.{IpFrame}
use Rattle.knx_model.specs.declared.frames.ip.IpFrame.TheVariants.{ConnectRequest, ConnectResponse, StateRequest, StateResponse, DisconnectRequest, DisconnectResponse, TunnellingRequest, TunnellingAck}
use Rattle.knx_model.specs.ApduReading.{where_it}
use Rattle.knx_model.specs.KnxNetIp.{Written, IsInRange}
use Rattle.knx_model.specs.Octets.{word_at}
use Rattle.line_model.specs.Reading.{has_header, asks_tunnel, has_tunnel, is_of_channel, has_request, has_acknowledgement, connect_response_in, body_in, datagram_in}
use Rattle.network_sim.specs.Readable.{readable, shortened}

-- ---- what a long datagram is

-- a connect response with an error
abbrev pub IsRefusal : IpFrame → Type 0
IsRefusal (ConnectResponse channel status None) = (status == 0) ≡ false
IsRefusal _ = ⊥

abbrev pub IsRefusalIfAny : Option IpFrame → Type 0
IsRefusalIfAny None = Unit {0}
IsRefusalIfAny (Some frame) = IsRefusal frame

either : (test : Bool) (x y : Option IpFrame) → (test ≡ true → IsRefusalIfAny x) → (test ≡ false → IsRefusalIfAny y) → IsRefusalIfAny (if test then x else y)
either true x y p q = p refl
either false x y p q = q refl

nothing : (test : Bool) (frame : IpFrame) → test ≡ false → IsRefusalIfAny (where_it test frame)
nothing true frame e = cc
nothing false frame e = tt

where_there : (test : Bool) (frame : IpFrame) → IsRefusal frame → IsRefusalIfAny (where_it test frame)
where_there true frame p = p
where_there false frame p = tt

not_so_long : (n : ℕ) (body : List ℕ) → 294 < length body → n ≤ 294 → (length body == n) ≡ false
not_so_long n body long few = grind arith

no_tunnel : (body : List ℕ) → 294 < length body → asks_tunnel body ≡ false
no_tunnel body long = rw (not_so_long 20 body long (omega arith)) refl

no_address : (body : List ℕ) → 294 < length body → has_tunnel body ≡ false
no_address body long = rw (not_so_long 14 body long (omega arith)) refl

no_channel : (body : List ℕ) → 294 < length body → is_of_channel body ≡ false
no_channel body long = rw (not_so_long 10 body long (omega arith)) refl

second_fails : (a b c : Bool) → b ≡ false → (a && b && c) ≡ false
second_fails true b c e = rw e refl
second_fails false b c e = refl

no_request : (body : List ℕ) → 294 < length body → has_request body ≡ false
no_request body long = let few : nat_le (length body) 294 ≡ false = grind arith in second_fails (nat_le 5 (length body)) _ _ few

no_acknowledgement : (body : List ℕ) → 294 < length body → has_acknowledgement body ≡ false
no_acknowledgement body long = rw (not_so_long 4 body long (omega arith)) refl

long_response : (body : List ℕ) → 294 < length body → IsRefusalIfAny (connect_response_in body)
long_response body long = either (slice_index body 1 == 0) _ _ (λ zero. nothing _ _ (no_address body long)) (λ other. where_there _ _ other)

long_body : (service : ℕ) (body : List ℕ) → 294 < length body → IsRefusalIfAny (body_in service body)
long_body service body long =
    either (service == 0x0205) _ _ (λ s. nothing _ _ (no_tunnel body long)) (λ n.
    either (service == 0x0206) _ _ (λ s. long_response body long) (λ n.
    either (service == 0x0207) _ _ (λ s. nothing _ _ (no_channel body long)) (λ n.
    either (service == 0x0208) _ _ (λ s. nothing _ _ (not_so_long 2 body long (omega arith))) (λ n.
    either (service == 0x0209) _ _ (λ s. nothing _ _ (no_channel body long)) (λ n.
    either (service == 0x020A) _ _ (λ s. nothing _ _ (not_so_long 2 body long (omega arith))) (λ n.
    either (service == 0x0420) _ _ (λ s. nothing _ _ (no_request body long)) (λ n.
    either (service == 0x0421) _ _ (λ s. nothing _ _ (no_acknowledgement body long)) (λ n. tt))))))))

long_datagram : (octets : List ℕ) → 300 < length octets → IsRefusalIfAny (datagram_in octets)
unfolding datagram_in
long_datagram octets long = either (has_header octets) _ _ (λ h. long_body (word_at octets 2) (drop 6 octets) (rw length-drop (omega arith))) (λ n. tt)

-- ---- it reads as what is kept of it

nothing_reads : datagram_in [] ≡ None
unfolding datagram_in
nothing_reads = refl

refusal_reads : (channel status : ℕ) → (status == 0) ≡ false → datagram_in (Written (ConnectResponse channel status None)) ≡ Some (ConnectResponse channel status None)
unfolding datagram_in
refusal_reads channel status other = rw other refl

shortened_reads : (o : Option IpFrame) → IsRefusalIfAny o → datagram_in (shortened o) ≡ o
shortened_reads None p = nothing_reads
shortened_reads (Some (ConnectResponse channel status None)) p = refusal_reads channel status p
shortened_reads (Some (ConnectResponse channel status (Some address))) p = absurd p
shortened_reads (Some ConnectRequest) p = absurd p
shortened_reads (Some (StateRequest channel)) p = absurd p
shortened_reads (Some (StateResponse channel status)) p = absurd p
shortened_reads (Some (DisconnectRequest channel)) p = absurd p
shortened_reads (Some (DisconnectResponse channel status)) p = absurd p
shortened_reads (Some (TunnellingRequest channel number cemi)) p = absurd p
shortened_reads (Some (TunnellingAck channel number status)) p = absurd p

reads_if : (octets : List ℕ) (short : Bool) → nat_le (length octets) 300 ≡ short → datagram_in (if short then octets else shortened (datagram_in octets)) ≡ datagram_in octets
reads_if octets true e = refl
reads_if octets false e = shortened_reads (datagram_in octets) (long_datagram octets (grind arith))

pub reads_alike : (octets : List ℕ) → datagram_in (readable octets) ≡ datagram_in octets
reads_alike octets = reads_if octets (nat_le (length octets) 300) refl

-- ---- how many octets are kept

length_shortened : (o : Option IpFrame) → length (shortened o) ≤ 300
length_shortened None = omega arith
length_shortened (Some (ConnectResponse channel status None)) = omega arith
length_shortened (Some (ConnectResponse channel status (Some address))) = omega arith
length_shortened (Some ConnectRequest) = omega arith
length_shortened (Some (StateRequest channel)) = omega arith
length_shortened (Some (StateResponse channel status)) = omega arith
length_shortened (Some (DisconnectRequest channel)) = omega arith
length_shortened (Some (DisconnectResponse channel status)) = omega arith
length_shortened (Some (TunnellingRequest channel number cemi)) = omega arith
length_shortened (Some (TunnellingAck channel number status)) = omega arith

fits_if : (octets : List ℕ) (short : Bool) → nat_le (length octets) 300 ≡ short → length (if short then octets else shortened (datagram_in octets)) ≤ 300
fits_if octets true e = grind arith
fits_if octets false e = length_shortened (datagram_in octets)

pub readable_fits : (octets : List ℕ) → length (readable octets) ≤ 300
readable_fits octets = fits_if octets (nat_le (length octets) 300) refl

pub whole : (octets : List ℕ) → length octets ≤ 300 → readable octets ≡ octets
whole octets few = let short : nat_le (length octets) 300 ≡ true = grind arith in rw short refl

length_written : (frame : IpFrame) → IsInRange frame → length (Written frame) ≤ 300
length_written ConnectRequest p = omega arith
length_written (ConnectResponse channel status None) p = omega arith
length_written (ConnectResponse channel status (Some address)) p = omega arith
length_written (StateRequest channel) p = omega arith
length_written (StateResponse channel status) p = omega arith
length_written (DisconnectRequest channel) p = omega arith
length_written (DisconnectResponse channel status) p = omega arith
length_written (TunnellingRequest channel number cemi) p = omega arith
length_written (TunnellingAck channel number status) p = omega arith

pub whole_written : (frame : IpFrame) → IsInRange frame → readable (Written frame) ≡ Written frame
whole_written frame p = whole (Written frame) (length_written frame p)
