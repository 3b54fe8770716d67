-- The client's side of the gateway's requests.
use Rattle.std.proofs.Common.{◌≡◌, ℕ, suc, ◌+◌, ◌%◌, ◌<◌, ◌≤◌, List, [], ◌∷◌, ◌++◌, length, Option, Some, None, refl, sym, ◌∙◌, ap, subst, arith, inl, inr}
use Rattle.knx_model.specs.declared.frames.ip.IpFrame.{IpFrame}
use Rattle.knx_model.specs.declared.frames.ip.IpFrame.TheVariants.{TunnellingAck}
use Rattle.line_model.specs.Reading.{datagram_in}
use Rattle.line_model.specs.Network.{Sent}
use Rattle.line_model.specs.Gateway.{Channel, number_of, next_number}
use Rattle.line_model.specs.Record.{Entry}
use Rattle.line_model.specs.ChannelLost.{expected}
use Rattle.line_model.specs.ClientView.{ClientChannel, Open}
use Rattle.line_model.specs.ActedOnce.{Has, in_channel}
use Rattle.tunnel_law.proofs.Numbers as numbers
use Rattle.tunnel_law.proofs.Numbers.{Near}
use Rattle.tunnel_law.proofs.Inside.{Next, Other, inside_map, again_at, split}
use Rattle.tunnel_law.proofs.Down.{ReqOf, AckUp, NotAckUp, Between, take_next, taken, before_is}
use Rattle.tunnel_law.proofs.Mirror.{At, Ends, Expects}

-- what the client owes
pub record OwesOf (number : Option ℕ) (takes : List (List ℕ)) (f : IpFrame) : Type 0 where
  pub channel : ℕ
  pub place : ℕ
  pub is : f ≡ TunnellingAck channel (place % 256) 0
  pub last : place + 1 ≡ length takes
  pub named : number ≡ Some channel

abbrev pub Owing : Option ℕ → List (List ℕ) → Option IpFrame → Type 0
Owing number takes None = Unit {0}
Owing number takes (Some f) = OwesOf number takes f

more_acked : (makers : List ℕ) (channel : Option Channel) (number : Option ℕ) (takes puts : List (List ℕ)) (k acks : ℕ) → acks < length takes → At makers channel number takes puts k acks → At makers channel number takes puts k (suc acks)
more_acked makers channel number takes puts k acks less a =
    record {
      settled = a.settled;
      joined = λ j. (let b : Between takes puts acks a.settled = a.joined j in let owes : length takes ≤ suc acks = b.owes in let told : a.settled ≤ acks = b.told in
          record { prefix = b.prefix; acked = omega arith; owes = omega arith; told = omega arith; one = b.one });
      other = a.other;
      one = a.one;
      gate = a.gate;
    }

-- the acknowledgement that is owed is sent
pub owed_sent : (up : List Sent) (makers : List ℕ) (channel : Option Channel) (puts : List (ℕ × List ℕ)) (e : ℕ) (number : Option ℕ) (takes : List (List ℕ)) (state : ClientChannel) (s : Sent) (f : IpFrame) → Ends up makers channel puts e number takes state
    → OwesOf number takes f → datagram_in s.octets ≡ Some f → Ends (s ∷ up) makers channel puts e number takes state
owed_sent up makers channel puts e number takes state s f n o is =
    let ack : AckUp number o.place s = record { channel = o.channel; is = is ∙ ap (λ z. Some z) o.is; named = o.named } in
    let last : o.place + 1 ≡ length takes = o.last in
    let owes : length takes ≤ suc n.acks = n.owes in
    elim (split n.acks (length takes) n.acked) [
      | inl all ↦
          record { acks = n.acks; sent = again_at (AckUp number) (NotAckUp e) up s o.place n.acks (last ∙ sym all) ack n.sent; acked = n.acked; owes = n.owes; none = n.none; each = n.each; expects = n.expects }
      | inr less ↦
          (let at : n.acks ≡ o.place = omega arith in
          record {
            acks = suc n.acks;
            sent = Next (subst (λ z. AckUp number z s) (sym at) ack) n.sent;
            acked = omega arith;
            owes = omega arith;
            none = n.none;
            each = λ k g. more_acked makers channel number takes (in_channel k puts) k n.acks less (n.each k g);
            expects = n.expects;
          })
    ]

-- another is sent
pub other_sent : (up : List Sent) (makers : List ℕ) (channel : Option Channel) (puts : List (ℕ × List ℕ)) (e : ℕ) (number : Option ℕ) (takes : List (List ℕ)) (state : ClientChannel) (s : Sent) → Ends up makers channel puts e number takes state
    → NotAckUp e s → Ends (s ∷ up) makers channel puts e number takes state
other_sent up makers channel puts e number takes state s n o =
    record { acks = n.acks; sent = Other o n.sent; acked = n.acked; owes = n.owes; none = n.none; each = n.each; expects = n.expects }

-- the state changes
pub state_kept : (up : List Sent) (makers : List ℕ) (channel : Option Channel) (puts : List (ℕ × List ℕ)) (e : ℕ) (number : Option ℕ) (takes : List (List ℕ)) (state other : ClientChannel) → Ends up makers channel puts e number takes state
    → Expects other number takes → Ends up makers channel puts e number takes other
state_kept up makers channel puts e number takes state other n x =
    record { acks = n.acks; sent = n.sent; acked = n.acked; owes = n.owes; none = n.none; each = n.each; expects = x }

append_none : (xs : List (List ℕ)) → xs ≡ xs ++ []
append_none [] = refl
append_none (x ∷ xs) = ap (λ l. x ∷ l) (append_none xs)

-- the channel opens
pub opened : (up : List Sent) (makers : List ℕ) (channel : Option Channel) (puts : List (ℕ × List ℕ)) (e : ℕ) (number : Option ℕ) (takes : List (List ℕ)) (state other : ClientChannel) (c : ℕ) → Ends up makers channel puts e number takes state
    → number ≡ None → Expects other (Some c) takes → Ends up makers channel puts e (Some c) takes other
opened up makers channel puts e (Some m) takes state other c n unnamed x = absurd (cc)
opened up makers channel puts e None takes state other c n unnamed x =
    let empty : takes ≡ [] = n.none refl in
    let len : length takes ≡ 0 = ap (λ l. length l) empty in
    let acked : n.acks ≤ length takes = n.acked in
    record {
      acks = n.acks;
      sent = inside_map (AckUp None) (AckUp (Some c)) (NotAckUp e) (λ a s g. absurd (let h : None ≡ Some g.channel = g.named in cc)) n.sent;
      acked = n.acked;
      owes = n.owes;
      none = λ h. empty;
      each = λ k g. (let a : At makers channel None takes (in_channel k puts) k n.acks = n.each k g in
          let zeroth : a.settled ≡ 0 = a.other (λ h. cc) in
          record {
            settled = a.settled;
            joined = λ j. record { prefix = (in_channel k puts, append_none (in_channel k puts) ∙ ap (λ l. in_channel k puts ++ l) (sym empty)); acked = n.acked; owes = n.owes; told = omega arith; one = a.one };
            other = λ o. zeroth;
            one = a.one;
            gate = a.gate;
          });
      expects = x;
    }

-- ---- a request is got in the open channel

pub record Asked (makers : List ℕ) (puts : List (ℕ × List ℕ)) (e d : ℕ) (c n : ℕ) (p : List ℕ) : Type 0 where
  pub k : ℕ
  pub octets : List ℕ
  pub made : ℕ
  pub near : Near (λ a (o : List ℕ). ReqOf makers (in_channel k puts) k a o made e) (length (in_channel k puts)) d octets
  pub channel : c ≡ number_of k
  pub number : n ≡ near.place % 256
  pub content : p ≡ near.is.content

module _ (up : List Sent) (makers : List ℕ) (channel : Option Channel) (puts : List (ℕ × List ℕ)) (e d : ℕ) (young : d < 128) (unique : (j k : ℕ) → Has makers j e → Has makers k e → number_of j ≡ number_of k → j ≡ k) where
  pub taken_ends : (c : ℕ) (l more : List Entry) (takes : List (List ℕ)) (n : ℕ) (p : List ℕ) → Ends up makers channel puts e (Some c) takes (Open c l) → Asked makers puts e d c n p → n ≡ expected c l → expected c more ≡ next_number (expected c l)
      → Ends up makers channel puts e (Some c) (p ∷ takes) (Open c more)
  taken_ends c l more takes n p old q h after =
      let maker : Has makers q.k e = q.near.is.maker in
      let a : At makers channel (Some c) takes (in_channel q.k puts) q.k old.acks = old.each q.k maker in
      let named : Some c ≡ Some (number_of q.k) = ap (λ z. Some z) q.channel in
      let puts_is : in_channel q.k puts ≡ p ∷ takes = take_next makers (in_channel q.k puts) takes old.acks a.settled q.k d (expected c l) q.octets p q.made e n young (a.joined named) old.expects.1 q.near q.number q.content h in
      let b : Between (p ∷ takes) (in_channel q.k puts) old.acks a.settled = taken takes (in_channel q.k puts) old.acks a.settled p (a.joined named) puts_is in
      let acked : old.acks ≤ length takes = old.acked in
      record {
        acks = old.acks;
        sent = old.sent;
        acked = omega arith;
        owes = b.owes;
        none = λ z. cc;
        each = λ k g. (let x : At makers channel (Some c) takes (in_channel k puts) k old.acks = old.each k g in
            record {
              settled = x.settled;
              joined = λ j. (let nums : number_of q.k ≡ number_of k = (let z : Some (number_of q.k) ≡ Some (number_of k) = sym named ∙ j in cc) in
                  let k_is : q.k ≡ k = unique q.k k maker g nums in
                  taken takes (in_channel k puts) old.acks x.settled p (x.joined j) (subst (λ z. in_channel z puts ≡ p ∷ takes) k_is puts_is));
              other = x.other;
              one = x.one;
              gate = x.gate;
            });
        expects = (refl, after ∙ ap next_number old.expects.1 ∙ numbers.next_number (length takes));
      }

  pub owes_new : (c : ℕ) (l : List Entry) (takes : List (List ℕ)) (n : ℕ) (p : List ℕ) → Ends up makers channel puts e (Some c) takes (Open c l) → n ≡ expected c l → OwesOf (Some c) (p ∷ takes) (TunnellingAck c n 0)
  owes_new c l takes n p old h = record { channel = c; place = length takes; is = ap (λ z. TunnellingAck c z 0) (h ∙ old.expects.1); last = omega arith; named = refl }

  pub owes_old : (c : ℕ) (l : List Entry) (takes : List (List ℕ)) (n : ℕ) (p : List ℕ) → Ends up makers channel puts e (Some c) takes (Open c l) → Asked makers puts e d c n p → next_number n ≡ expected c l → OwesOf (Some c) takes (TunnellingAck c n 0)
  owes_old c l takes n p old q h =
      let a : At makers channel (Some c) takes (in_channel q.k puts) q.k old.acks = old.each q.k q.near.is.maker in
      let last : q.near.place + 1 ≡ length takes = before_is makers (in_channel q.k puts) takes old.acks a.settled q.k d (expected c l) q.octets q.made e n young (a.joined (ap (λ z. Some z) q.channel)) old.expects.1 q.near q.number h in
      record { channel = c; place = q.near.place; is = ap (λ z. TunnellingAck c z 0) q.number; last = last; named = refl }
