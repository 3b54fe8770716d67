-- A request that the gateway puts is read by the client as it was written.
use Rattle.std.proofs.Common.{◌≡◌, ℕ, ◌≤◌, List, ◌∷◌, length, Bool, true, cond, ◌&&◌, Option, Some, None, refl, ◌∙◌, ap, arith, take_all}
use Rattle.std.specs.Prelude.{take, nat_le, ◌==◌}
use Rattle.std.proofs.lemmas.Bool.{eq-eqb, le-leb}
use Rattle.knx_model.specs.Octets.{word_at}
use Rattle.knx_model.specs.declared.frames.ip.IpFrame.{IpFrame}
use Rattle.knx_model.specs.declared.frames.ip.IpFrame.TheVariants.{TunnellingRequest}
use Rattle.knx_model.specs.KnxNetIp.{Written}
use Rattle.line_model.specs.Reading.{datagram_in, has_header, has_request}
use Rattle.calm_law.proofs.Tokens.{read_down}

both : (t u : Bool) (x : Option IpFrame) → t ≡ true → u ≡ true → cond t (cond u x None) None ≡ x
both t u x h g = rw (h, g) refl

four : (a d : Bool) → a ≡ true → d ≡ true → (a && true && true && d) ≡ true
four a d h g = rw (h, g) refl

two : (a b : Bool) → a ≡ true → b ≡ true → (a && b && true) ≡ true
two a b h g = rw (h, g) refl

header_is : (n : ℕ) (p : List ℕ) → has_header (Written (TunnellingRequest 1 n p)) ≡ true
header_is n p =
    let o : List ℕ = Written (TunnellingRequest 1 n p) in
    let long : nat_le 6 (length o) ≡ true = le-leb 6 (length o) (omega arith) in
    let same : word_at o 4 ≡ length o = omega arith in
    let total : (word_at o 4 == length o) ≡ true = eq-eqb (word_at o 4) (length o) same in
    four (nat_le 6 (length o)) (word_at o 4 == length o) long total

request_is : (n : ℕ) (p : List ℕ) → 1 ≤ length p → length p ≤ 290 → has_request (4 ∷ 1 ∷ n ∷ 0 ∷ p) ≡ true
request_is n p some short =
    let body : List ℕ = 4 ∷ 1 ∷ n ∷ 0 ∷ p in
    let long : nat_le 5 (length body) ≡ true = le-leb 5 (length body) (omega arith) in
    let fits : nat_le (length body) 294 ≡ true = le-leb (length body) 294 (omega arith) in
    two (nat_le 5 (length body)) (nat_le (length body) 294) long fits

reads : (n : ℕ) (p : List ℕ) → 1 ≤ length p → length p ≤ 290 → datagram_in (Written (TunnellingRequest 1 n p)) ≡ Some (TunnellingRequest 1 n p)
unfolding datagram_in
reads n p some short = both (has_header (Written (TunnellingRequest 1 n p))) (has_request (4 ∷ 1 ∷ n ∷ 0 ∷ p)) (Some (TunnellingRequest 1 n p)) (header_is n p) (request_is n p some short)

-- no more than 512 octets
whole : (n : ℕ) (p : List ℕ) → length p ≤ 290 → take 512 (Written (TunnellingRequest 1 n p)) ≡ Written (TunnellingRequest 1 n p)
whole n p short = take_all 512 (Written (TunnellingRequest 1 n p)) (omega arith)

pub request_read : (n : ℕ) (p : List ℕ) → 1 ≤ length p → length p ≤ 290 → read_down (Written (TunnellingRequest 1 n p)) ≡ Some (TunnellingRequest 1 n p)
request_read n p some short = ap datagram_in (whole n p short) ∙ reads n p some short
