-- The mirror, of the gateway's requests: what the client takes in a channel is a prefix of what the gateway put there. The invariant of an
-- endpoint and its parts that matter: a request is put, taken, acknowledged, and settled.
use Rattle.std.proofs.Common.{◌≡◌, ℕ, suc, ◌+◌, ◌-◌, ◌%◌, ◌<◌, ◌≤◌, ◌⊎◌, List, [], ◌∷◌, length, drop, Bool, true, false, cond, ◌&&◌, Option, Some, None, refl, sym, ◌∙◌, ap, subst, arith, inl, inr}
use Rattle.std.specs.Prelude.{slice_index, take, nat_le, ◌==◌}
use Rattle.std.proofs.lemmas.List.{take_all, length-take}
use Rattle.std.proofs.lemmas.Bool.{and_parts}
use Rattle.knx_model.specs.declared.frames.ip.IpFrame.{IpFrame}
use Rattle.knx_model.specs.declared.frames.ip.IpFrame.TheVariants.{TunnellingRequest, TunnellingAck}
use Rattle.knx_model.specs.KnxNetIp.{Written}
use Rattle.line_model.specs.Reading.{datagram_in}
use Rattle.line_model.specs.Network.{Sent}
use Rattle.line_model.specs.Gateway.{number_of, next_number}
use Rattle.line_model.specs.ActedOnce.{Has, in_channel, IsPrefix}
use Rattle.tunnel_law.proofs.Numbers as numbers
use Rattle.tunnel_law.proofs.Numbers.{Near}
use Rattle.tunnel_law.proofs.Read.{seen_of}
use Rattle.tunnel_law.proofs.Inside.{has_newest, tail_length, tail_by_one}
use Rattle.tunnel_law.proofs.Fits.{IsAck, IsTell}

-- ---- a request of the gateway, as the client reads it: a long one is cut off, and is no frame then

abbrev pub IsThis : ℕ → ℕ → List ℕ → Option IpFrame → Type 0
IsThis c n p g = (g ≡ None) ⊎ (g ≡ Some (TunnellingRequest c n p))

this_by : (t u : Bool) (c n : ℕ) (p q : List ℕ) → (u ≡ true → q ≡ p) → IsThis c n p (cond t (cond u (Some (TunnellingRequest c n q)) None) None)
this_by true true c n p q h = inr (ap (λ z. Some (TunnellingRequest c n z)) (h refl))
this_by true false c n p q h = inl refl
this_by false u c n p q h = inl refl

short : (p : List ℕ) → nat_le (suc (suc (suc (suc (length (take 502 p)))))) 294 ≡ true → take 502 p ≡ p
short p h = take_all 502 p (let e = length-take 502 p in grind (arith, e, h))

-- ---- what is under way

pub record ReqOf (makers : List ℕ) (puts : List (List ℕ)) (k a : ℕ) (octets : List ℕ) (made endpoint : ℕ) : Type 0 where
  pub content : List ℕ
  pub is : octets ≡ Written (TunnellingRequest (number_of k) (a % 256) content)
  pub place : made - 1 ≡ k
  pub maker : Has makers k endpoint
  pub put : Has puts a content

abbrev pub ReqIs : List ℕ → List (ℕ × List ℕ) → ℕ → ℕ → Sent → Type 0
ReqIs makers puts k a s = ReqOf makers (in_channel k puts) k a s.octets s.made s.endpoint

abbrev pub NotReq : ℕ → Sent → Type 0
NotReq k s = IsTell (seen_of s.octets) → s.made - 1 ≡ k → ⊥

-- an acknowledgement of the client
pub record AckUpOf (number : Option ℕ) (a : ℕ) (f : Option IpFrame) : Type 0 where
  pub channel : ℕ
  pub is : f ≡ Some (TunnellingAck channel (a % 256) 0)
  pub named : number ≡ Some channel

abbrev pub AckUp : Option ℕ → ℕ → Sent → Type 0
AckUp number a s = AckUpOf number a (datagram_in s.octets)

abbrev pub NotAckUp : ℕ → Sent → Type 0
NotAckUp e s = IsAck (datagram_in s.octets) → s.endpoint ≡ e → ⊥

-- ---- the numbers of one channel at a moment: taken, acknowledged and settled requests, and those put

pub record Between (takes puts : List (List ℕ)) (acks settled : ℕ) : Type 0 where
  pub prefix : IsPrefix takes puts
  pub acked : acks ≤ length takes
  pub owes : length takes ≤ suc acks
  pub told : settled ≤ acks
  pub one : length puts ≤ suc settled

-- a request that comes with the expected number is the first that isn't taken
pub take_next : (makers : List ℕ) (puts takes : List (List ℕ)) (acks settled k d expected : ℕ) (octets p : List ℕ) (made endpoint n : ℕ) → d < 128 → Between takes puts acks settled → expected ≡ length takes % 256
    → (near : Near (λ a (o : List ℕ). ReqOf makers puts k a o made endpoint) (length puts) d octets) → n ≡ near.place % 256 → p ≡ near.is.content → n ≡ expected → puts ≡ p ∷ takes
take_next makers puts takes acks settled k d expected octets p made endpoint n young b e near n_is p_is h =
    let below : near.place < length puts = near.below in
    let close : length puts ≤ suc (near.place + d) = near.close in
    let c0 : length takes ≤ length puts = tail_length takes puts b.prefix in
    let acked : acks ≤ length takes = b.acked in
    let told : settled ≤ acks = b.told in
    let one : length puts ≤ suc settled = b.one in
    let a_is : near.place ≡ length takes = numbers.same_number near.place (length takes) (omega arith) (omega arith) (sym n_is ∙ h ∙ e) in
    let last : (y : List ℕ) × (puts ≡ y ∷ takes) = tail_by_one takes puts b.prefix (omega arith) in
    let has : Has (last.0 ∷ takes) near.place p = subst (λ l. Has l near.place p) last.1 (subst (λ y. Has puts near.place y) (sym p_is) near.is.put) in
    let y_is : last.0 ≡ p = has_newest last.0 takes near.place p a_is has in
    last.1 ∙ ap (λ y. y ∷ takes) y_is

pub taken : (takes puts : List (List ℕ)) (acks settled : ℕ) (p : List ℕ) → Between takes puts acks settled → puts ≡ p ∷ takes → Between (p ∷ takes) puts acks settled
taken takes puts acks settled p b is =
    let acked : acks ≤ length takes = b.acked in
    let told : settled ≤ acks = b.told in
    let one : length puts ≤ suc settled = b.one in
    let len : length puts ≡ suc (length takes) = ap (λ l. length l) is in
    record { prefix = ([], is); acked = omega arith; owes = omega arith; told = b.told; one = b.one }

-- the one before is owed again: its place is the last that was taken
pub before_is : (makers : List ℕ) (puts takes : List (List ℕ)) (acks settled k d expected : ℕ) (octets : List ℕ) (made endpoint n : ℕ) → d < 128 → Between takes puts acks settled → expected ≡ length takes % 256
    → (near : Near (λ a (o : List ℕ). ReqOf makers puts k a o made endpoint) (length puts) d octets) → n ≡ near.place % 256 → next_number n ≡ expected → near.place + 1 ≡ length takes
before_is makers puts takes acks settled k d expected octets made endpoint n young b e near n_is h =
    let below : near.place < length puts = near.below in
    let close : length puts ≤ suc (near.place + d) = near.close in
    let c0 : length takes ≤ length puts = tail_length takes puts b.prefix in
    let acked : acks ≤ length takes = b.acked in
    let told : settled ≤ acks = b.told in
    let one : length puts ≤ suc settled = b.one in
    numbers.number_before near.place (length takes) (omega arith) (omega arith) (ap next_number (sym n_is) ∙ h ∙ e)

-- an acknowledgement of the outstanding number settles it
pub settled_by : (takes puts : List (List ℕ)) (acks settled own d : ℕ) (f : Option IpFrame) (number : Option ℕ) (channel n : ℕ) → d < 128 → Between takes puts acks settled → own ≡ settled % 256 → length puts ≡ suc settled
    → Near (λ a (g : Option IpFrame). AckUpOf number a g) acks d f → f ≡ Some (TunnellingAck channel n 0) → n ≡ own → Between takes puts acks (suc settled)
settled_by takes puts acks settled own d f number channel n young b own_is out near is h =
    let same : Some (TunnellingAck channel n 0) ≡ Some (TunnellingAck near.is.channel (near.place % 256) 0) = sym is ∙ near.is.is in
    let n_is : n ≡ near.place % 256 = cc in
    let below : near.place < acks = near.below in
    let close : acks ≤ suc (near.place + d) = near.close in
    let c0 : length takes ≤ length puts = tail_length takes puts b.prefix in
    let acked : acks ≤ length takes = b.acked in
    let told : settled ≤ acks = b.told in
    let a_is : near.place ≡ settled = numbers.same_number near.place settled (omega arith) (omega arith) (sym n_is ∙ h ∙ own_is) in
    record { prefix = b.prefix; acked = b.acked; owes = b.owes; told = omega arith; one = omega arith }

-- the gateway puts its next request, where none is outstanding
pub put_next : (takes puts : List (List ℕ)) (acks settled : ℕ) (p : List ℕ) → Between takes puts acks settled → length puts ≡ settled → Between takes (p ∷ puts) acks settled
put_next takes puts acks settled p b none =
    record { prefix = (p ∷ b.prefix.0, ap (λ l. p ∷ l) b.prefix.1); acked = b.acked; owes = b.owes; told = b.told; one = omega arith }

pub request_this : (c n : ℕ) (p : List ℕ) → IsThis c n p (seen_of (Written (TunnellingRequest c n p)))
unfolding datagram_in
request_this c n p =
    let body : List ℕ = drop 6 (take 512 (Written (TunnellingRequest c n p))) in
    this_by _ _ c n p (take 502 p) (λ h. short p (and_parts (nat_le 5 (length body)) (nat_le (length body) 294) (and_parts (nat_le 5 (length body) && nat_le (length body) 294) (slice_index body 0 == 4) h).0).1)
