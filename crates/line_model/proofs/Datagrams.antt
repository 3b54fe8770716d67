-- The frame that a datagram is, as a function, is the one that it reads as.
use Rattle.std.proofs.Common.{◌≡◌, ℕ, ◌≤◌, Bool, true, ◌==◌, List, drop, length, refl, sym, ap, subst, ◌∙◌, arith, Option, Some, None}
use Rattle.std.specs.Prelude.{slice_index, ◌↔◌}
use Rattle.std.proofs.lemmas.Bool.{and_parts, and_from, eqb-true, eq-eqb, eqb-false, leb-true, le-leb}
use Rattle.knx_model.specs.declared.address.IndAddr.{IndAddr}
use Rattle.knx_model.specs.declared.frames.ip.IpFrame.{IpFrame}
use Rattle.knx_model.specs.declared.frames.ip.IpFrame.TheVariants.{ConnectRequest, ConnectResponse, StateRequest, StateResponse, DisconnectRequest, DisconnectResponse, TunnellingRequest, TunnellingAck}
use Rattle.knx_model.specs.ApduReading.{where_it}
use Rattle.knx_model.specs.KnxNetIp.{Reads, ReadsBody, HasHeader, HasTunnel, IsConnectRequest, IsOfChannel, IsTunnel, IsEndpointAt}
use Rattle.knx_model.specs.Octets.{word_at}
use Rattle.line_model.specs.Reading.{has_header, has_endpoint, asks_tunnel, has_tunnel, connect_response_in, is_of_channel, has_request, has_acknowledgement, body_in, datagram_in}
use Rattle.line_model.proofs.Tests.{is_unequal, where_is, is_where, branch, is_left, is_right}

-- ---- parts

endpoint_is : (body : List ℕ) (i : ℕ) → has_endpoint body i ≡ true → IsEndpointAt body i
endpoint_is body i e = let p = and_parts _ _ e in (eqb-true _ _ p.0, eqb-true _ _ p.1)

is_endpoint : (body : List ℕ) (i : ℕ) → IsEndpointAt body i → has_endpoint body i ≡ true
is_endpoint body i h = and_from _ _ (eq-eqb _ _ h.0) (eq-eqb _ _ h.1)

header_is : (octets : List ℕ) → has_header octets ≡ true → HasHeader octets × (word_at octets 4 ≡ length octets)
header_is octets e =
    let p = and_parts _ _ e in let q = and_parts _ _ p.0 in let r = and_parts _ _ q.0 in
    ((leb-true _ _ r.0, eqb-true _ _ r.1, eqb-true _ _ q.1), eqb-true _ _ p.1)

is_header : (octets : List ℕ) → HasHeader octets → word_at octets 4 ≡ length octets → has_header octets ≡ true
is_header octets h total = and_from _ _ (and_from _ _ (and_from _ _ (le-leb _ _ h.0) (eq-eqb _ _ h.1)) (eq-eqb _ _ h.2)) (eq-eqb _ _ total)

asks_is : (body : List ℕ) → asks_tunnel body ≡ true → IsConnectRequest body
asks_is body e =
    let a = and_parts _ _ e in let b = and_parts _ _ a.0 in let c = and_parts _ _ b.0 in let d = and_parts _ _ c.0 in let f = and_parts _ _ d.0 in
    (eqb-true _ _ f.0, endpoint_is body 0 f.1, endpoint_is body 8 d.1, eqb-true _ _ c.1, eqb-true _ _ b.1, eqb-true _ _ a.1)

is_asks : (body : List ℕ) → IsConnectRequest body → asks_tunnel body ≡ true
is_asks body h =
    and_from _ _ (and_from _ _ (and_from _ _ (and_from _ _ (and_from _ _ (eq-eqb _ _ h.0) (is_endpoint body 0 h.1)) (is_endpoint body 8 h.2)) (eq-eqb _ _ h.3)) (eq-eqb _ _ h.4)) (eq-eqb _ _ h.5)

tunnel_is : (body : List ℕ) → has_tunnel body ≡ true → HasTunnel body
tunnel_is body e = let a = and_parts _ _ e in let b = and_parts _ _ a.0 in let c = and_parts _ _ b.0 in (eqb-true _ _ c.0, endpoint_is body 2 c.1, eqb-true _ _ b.1, eqb-true _ _ a.1)

is_tunnel : (body : List ℕ) → HasTunnel body → has_tunnel body ≡ true
is_tunnel body h = and_from _ _ (and_from _ _ (and_from _ _ (eq-eqb _ _ h.0) (is_endpoint body 2 h.1)) (eq-eqb _ _ h.2)) (eq-eqb _ _ h.3)

channel_is : (body : List ℕ) → is_of_channel body ≡ true → IsOfChannel body
channel_is body e = let a = and_parts _ _ e in (eqb-true _ _ a.0, endpoint_is body 2 a.1)

is_channel : (body : List ℕ) → IsOfChannel body → is_of_channel body ≡ true
is_channel body h = and_from _ _ (eq-eqb _ _ h.0) (is_endpoint body 2 h.1)

-- ---- from the function to the relation

two_octets : (body : List ℕ) → length body ≡ 14 → 2 ≤ length body
two_octets body e = omega arith

reads_response : (service : ℕ) (body : List ℕ) (frame : IpFrame) → service ≡ 0x0206 → connect_response_in body ≡ Some frame → ReadsBody service body frame
reads_response service body frame s =
    branch (ReadsBody service body frame) (slice_index body 1 == 0) _ _ frame
    (λ zero e. let w = where_is _ _ _ e in
    subst (ReadsBody service body) w.1
    (s, two_octets body (tunnel_is body w.0).0, refl, sym (eqb-true _ _ zero), (eqb-true _ _ zero, tunnel_is body w.0, refl)))
    (λ other e. let w = where_is _ _ _ e in subst (ReadsBody service body) w.1 (s, leb-true _ _ w.0, refl, refl, eqb-false _ _ other))

reads_request : (service : ℕ) (body : List ℕ) → service ≡ 0x0420 → has_request body ≡ true → ReadsBody service body (TunnellingRequest (slice_index body 1) (slice_index body 2) (drop 4 body))
reads_request service body s t = let a = and_parts _ _ t in let b = and_parts _ _ a.0 in (s, leb-true _ _ b.0, leb-true _ _ b.1, eqb-true _ _ a.1, refl, refl, refl)

reads_ack : (service : ℕ) (body : List ℕ) → service ≡ 0x0421 → has_acknowledgement body ≡ true → ReadsBody service body (TunnellingAck (slice_index body 1) (slice_index body 2) (slice_index body 3))
reads_ack service body s t = let a = and_parts _ _ t in (s, eqb-true _ _ a.0, eqb-true _ _ a.1, refl, refl, refl)

-- what a test lets through
through : (service : ℕ) (body : List ℕ) (frame f : IpFrame) (number : ℕ) (test : Bool) → (service ≡ number → test ≡ true → ReadsBody service body f)
    → (service == number) ≡ true → where_it test f ≡ Some frame → ReadsBody service body frame
through service body frame f number test law s e = let w = where_is _ _ _ e in subst (ReadsBody service body) w.1 (law (eqb-true _ _ s) w.0)

body_reads : (service : ℕ) (body : List ℕ) (frame : IpFrame) → body_in service body ≡ Some frame → ReadsBody service body frame
body_reads service body frame =
    branch (ReadsBody service body frame) (service == 0x0205) _ _ frame (through service body frame _ 0x0205 _ (λ s t. (s, asks_is body t))) (λ n.
    branch (ReadsBody service body frame) (service == 0x0206) _ _ frame (λ s. reads_response service body frame (eqb-true _ _ s)) (λ n.
    branch (ReadsBody service body frame) (service == 0x0207) _ _ frame (through service body frame _ 0x0207 _ (λ s t. (s, channel_is body t, refl))) (λ n.
    branch (ReadsBody service body frame) (service == 0x0208) _ _ frame (through service body frame _ 0x0208 _ (λ s t. (s, eqb-true _ _ t, refl, refl))) (λ n.
    branch (ReadsBody service body frame) (service == 0x0209) _ _ frame (through service body frame _ 0x0209 _ (λ s t. (s, channel_is body t, refl))) (λ n.
    branch (ReadsBody service body frame) (service == 0x020A) _ _ frame (through service body frame _ 0x020A _ (λ s t. (s, eqb-true _ _ t, refl, refl))) (λ n.
    branch (ReadsBody service body frame) (service == 0x0420) _ _ frame (through service body frame _ 0x0420 _ (reads_request service body)) (λ n.
    branch (ReadsBody service body frame) (service == 0x0421) _ _ frame (through service body frame _ 0x0421 _ (reads_ack service body)) (λ n e. cc))))))))

-- ---- from the relation to the function

-- at the number of a service the table is that service's row
at_row : (service number : ℕ) (body : List ℕ) (frame : IpFrame) → service ≡ number → body_in number body ≡ Some frame → body_in service body ≡ Some frame
at_row service number body frame s e = subst (λ (n : ℕ). body_in n body ≡ Some frame) (sym s) e

same_tunnel : (body : List ℕ) (address : IndAddr) → address.raw ≡ word_at body 12 → record { raw = word_at body 12 } ≡ address
same_tunnel body address e = ap (λ (n : ℕ). let a : IndAddr = record { raw = n } in a) (sym e)

response_in : (body : List ℕ) (channel status : ℕ) (tunnel : Option IndAddr) → 2 ≤ length body → channel ≡ slice_index body 0 → status ≡ slice_index body 1 → IsTunnel body tunnel
    → connect_response_in body ≡ Some (ConnectResponse channel status tunnel)
response_in body channel status None long c s h =
    is_right (slice_index body 1 == 0) _ _ (is_unequal _ _ h) ∙ is_where _ _ (le-leb _ _ long) ∙ cc
response_in body channel status (Some address) long c s h =
    let a = same_tunnel body address h.2 in
    is_left (slice_index body 1 == 0) _ _ (eq-eqb _ _ h.0) ∙ is_where _ _ (is_tunnel body h.1) ∙ cc

reads_body : (service : ℕ) (body : List ℕ) (frame : IpFrame) → ReadsBody service body frame → body_in service body ≡ Some frame
reads_body service body ConnectRequest h = at_row service 0x0205 body ConnectRequest h.0 (is_where _ _ (is_asks body h.1))
reads_body service body (ConnectResponse channel status tunnel) h = at_row service 0x0206 body _ h.0 (response_in body channel status tunnel h.1 h.2 h.3 h.4)
reads_body service body (StateRequest channel) h = at_row service 0x0207 body _ h.0 (is_where _ _ (is_channel body h.1) ∙ ap (λ (c : ℕ). Some (StateRequest c)) (sym h.2))
reads_body service body (StateResponse channel status) h =
    let c = h.2 in let s = h.3 in at_row service 0x0208 body _ h.0 (is_where _ _ (eq-eqb _ _ h.1) ∙ cc)
reads_body service body (DisconnectRequest channel) h = at_row service 0x0209 body _ h.0 (is_where _ _ (is_channel body h.1) ∙ ap (λ (c : ℕ). Some (DisconnectRequest c)) (sym h.2))
reads_body service body (DisconnectResponse channel status) h =
    let c = h.2 in let s = h.3 in at_row service 0x020A body _ h.0 (is_where _ _ (eq-eqb _ _ h.1) ∙ cc)
reads_body service body (TunnellingRequest channel number cemi) h =
    let c = h.4 in let n = h.5 in let o = h.6 in
    at_row service 0x0420 body _ h.0 (is_where _ _ (and_from _ _ (and_from _ _ (le-leb _ _ h.1) (le-leb _ _ h.2)) (eq-eqb _ _ h.3)) ∙ cc)
reads_body service body (TunnellingAck channel number status) h =
    let c = h.3 in let n = h.4 in let s = h.5 in
    at_row service 0x0421 body _ h.0 (is_where _ _ (and_from _ _ (eq-eqb _ _ h.1) (eq-eqb _ _ h.2)) ∙ cc)

-- ---- the whole datagram

reads : (octets : List ℕ) (frame : IpFrame) → datagram_in octets ≡ Some frame → Reads octets frame
unfolding datagram_in
reads octets frame =
    branch (Reads octets frame) (has_header octets) _ _ frame
    (λ h e. let p = header_is octets h in record { header = p.0; total = p.1; body = body_reads (word_at octets 2) (drop 6 octets) frame e }) (λ h e. cc)

is_read : (octets : List ℕ) (frame : IpFrame) → Reads octets frame → datagram_in octets ≡ Some frame
unfolding datagram_in
is_read octets frame r = is_left (has_header octets) _ _ (is_header octets r.header r.total) ∙ reads_body (word_at octets 2) (drop 6 octets) frame r.body

pub datagram_reads : (octets : List ℕ) (frame : IpFrame) → (datagram_in octets ≡ Some frame) ↔ Reads octets frame
datagram_reads octets frame = (reads octets frame, is_read octets frame)
