-- The gateway's side of its own requests.
use Rattle.std.proofs.Common.{◌≡◌, ℕ, suc, ◌%◌, ◌<◌, ◌≤◌, List, [], ◌∷◌, length, Bool, true, false, cond, Option, Some, None, refl, sym, ◌∙◌, ap, subst, arith, inl, inr}
use Rattle.std.specs.Prelude.{slice_get, ◌==◌}
use Rattle.std.proofs.lemmas.Bool.{eq-eqb}
use Rattle.knx_model.specs.declared.frames.ip.IpFrame.{IpFrame}
use Rattle.knx_model.specs.declared.frames.ip.IpFrame.TheVariants.{TunnellingAck}
use Rattle.line_model.specs.Reading.{datagram_in}
use Rattle.line_model.specs.Network.{Sent, new_datagram}
use Rattle.line_model.specs.Gateway.{Channel, Request, number_of, next_number, hears, new_channel}
use Rattle.line_model.specs.ChannelLost.{expected}
use Rattle.line_model.specs.ClientView.{ClientChannel, Fresh, Sought, RefusedBy, Unanswered, Open, Lost}
use Rattle.line_model.specs.ActedOnce.{Has, in_channel}
use Rattle.tunnel_law.proofs.Numbers as numbers
use Rattle.tunnel_law.proofs.Numbers.{Near}
use Rattle.tunnel_law.proofs.Read.{seen_of}
use Rattle.tunnel_law.proofs.Inside.{CountedIn, Other, near_in, inside_map, has_below, has_one}
use Rattle.tunnel_law.proofs.Fits.{Book, IsTell, IsAck}
use Rattle.tunnel_law.proofs.Makes.{dec}
use Rattle.tunnel_law.proofs.Down.{ReqIs, NotReq, AckUpOf, AckUp, NotAckUp, Between, settled_by}

-- the gateway's channel, with what it settled and what it put there
abbrev pub Gate : ℕ → Option Request → ℕ → List (List ℕ) → Type 0
Gate own None settled puts = (own ≡ settled % 256) × (length puts ≡ settled)
Gate own (Some r) settled puts = (own ≡ settled % 256) × ((older : List (List ℕ)) × (puts ≡ r.frame ∷ older) × (length older ≡ settled))

abbrev pub GateFor : List ℕ → Option Channel → ℕ → ℕ → List (List ℕ) → Type 0
GateFor makers None k settled puts = Unit {0}
GateFor makers (Some c) k settled puts = suc k ≡ length makers → Gate c.own c.outstanding settled puts

pub record At (makers : List ℕ) (channel : Option Channel) (number : Option ℕ) (takes puts : List (List ℕ)) (k acks : ℕ) : Type 0 where
  pub settled : ℕ
  pub joined : number ≡ Some (number_of k) → Between takes puts acks settled
  pub other : (number ≡ Some (number_of k) → ⊥) → settled ≡ 0
  pub one : length puts ≤ suc settled
  pub gate : GateFor makers channel k settled puts

abbrev pub Expects : ClientChannel → Option ℕ → List (List ℕ) → Type 0
Expects Fresh number takes = number ≡ None
Expects (Sought since) number takes = number ≡ None
Expects (RefusedBy s) number takes = Unit {0}
Expects Unanswered number takes = Unit {0}
Expects (Open c l) number takes = (number ≡ Some c) × (expected c l ≡ length takes % 256)
Expects (Lost c) number takes = Unit {0}

pub record Ends (up : List Sent) (makers : List ℕ) (channel : Option Channel) (puts : List (ℕ × List ℕ)) (e : ℕ) (number : Option ℕ) (takes : List (List ℕ)) (state : ClientChannel) : Type 0 where
  pub acks : ℕ
  pub sent : CountedIn (AckUp number) (NotAckUp e) up acks
  pub acked : acks ≤ length takes
  pub owes : length takes ≤ suc acks
  pub none : number ≡ None → takes ≡ []
  pub each : (k : ℕ) → Has makers k e → At makers channel number takes (in_channel k puts) k acks
  pub expects : Expects state number takes

pub record Dn (bs : List Book) (up down : List Sent) (makers : List ℕ) (channel : Option Channel) (puts : List (ℕ × List ℕ)) : Type 0 where
  pub requests : (k : ℕ) → CountedIn (ReqIs makers puts k) (NotReq k) down (length (in_channel k puts))
  pub ends : (e : ℕ) (b : Book) → Has bs e b → Ends up makers channel puts e b.view.number b.view.takes b.state
  pub unmade : (k : ℕ) → length makers ≤ k → in_channel k puts ≡ []

-- ---- another datagram of the gateway, and another channel with the same numbers

pub dn_other : (bs : List Book) (up down : List Sent) (makers : List ℕ) (channel : Option Channel) (puts : List (ℕ × List ℕ)) → Dn bs up down makers channel puts → (octets : List ℕ) (e made : ℕ) → (IsTell (seen_of octets) → ⊥)
    → Dn bs up (new_datagram octets e made ∷ down) makers channel puts
dn_other bs up down makers channel puts dn octets e made plain =
    record { requests = λ k. Other (λ i f. plain i) (dn.requests k); ends = dn.ends; unmade = dn.unmade }

pub dn_channel : (bs : List Book) (up down : List Sent) (makers : List ℕ) (channel other : Option Channel) (puts : List (ℕ × List ℕ)) → Dn bs up down makers channel puts
    → ((k settled : ℕ) (xs : List (List ℕ)) → GateFor makers channel k settled xs → GateFor makers other k settled xs) → Dn bs up down makers other puts
dn_channel bs up down makers channel other puts dn same =
    record {
      requests = dn.requests;
      ends = λ e b h. let n : Ends up makers channel puts e b.view.number b.view.takes b.state = dn.ends e b h in
          record {
            acks = n.acks;
            sent = n.sent;
            acked = n.acked;
            owes = n.owes;
            none = n.none;
            each = λ k g. (let a : At makers channel b.view.number b.view.takes (in_channel k puts) k n.acks = n.each k g in
                record { settled = a.settled; joined = a.joined; other = a.other; one = a.one; gate = same k a.settled (in_channel k puts) a.gate });
            expects = n.expects;
          };
      unmade = dn.unmade;
    }

gate_by : (makers : List ℕ) (c c2 : Channel) (b : Bool) (k settled : ℕ) (xs : List (List ℕ)) → GateFor makers (Some c) k settled xs → GateFor makers (Some c2) k settled xs → GateFor makers (cond b (Some c2) (Some c)) k settled xs
gate_by makers c c2 true k settled xs h h2 = h2
gate_by makers c c2 false k settled xs h h2 = h

pub hears_gate : (makers : List ℕ) (channel : Option Channel) (from now k settled : ℕ) (xs : List (List ℕ)) → GateFor makers channel k settled xs → GateFor makers (hears channel from now) k settled xs
hears_gate makers None from now k settled xs h = h
hears_gate makers (Some c) from now k settled xs h = gate_by makers c (record c { heard = now }) (c.endpoint == from) k settled xs h h

-- ---- a channel is made

pub dn_make : (bs : List Book) (up down : List Sent) (makers : List ℕ) (channel : Option Channel) (puts : List (ℕ × List ℕ)) (e number now : ℕ) → Dn bs up down makers channel puts
    → ((b : Book) → Has bs e b → b.view.number ≡ Some (number_of (length makers)) → ⊥) → Dn bs up down (e ∷ makers) (Some (new_channel e number now)) puts
dn_make bs up down makers channel puts e number now dn apart =
    record {
      requests = λ k. inside_map (ReqIs makers puts k) (ReqIs (e ∷ makers) puts k) (NotReq k) (λ a s g. record { content = g.content; is = g.is; place = g.place; maker = inr g.maker; put = g.put }) (dn.requests k);
      ends = λ a b h. let n : Ends up makers channel puts a b.view.number b.view.takes b.state = dn.ends a b h in
          record {
            acks = n.acks;
            sent = n.sent;
            acked = n.acked;
            owes = n.owes;
            none = n.none;
            each = λ k g. elim g [
              | inl q ↦
                  (let k_is : k ≡ length makers = q.0 in
                  let empty : in_channel k puts ≡ [] = dn.unmade k (omega arith) in
                  let len : length (in_channel k puts) ≡ 0 = ap (λ l. length l) empty in
                  record {
                    settled = 0;
                    joined = λ j. absurd (apart b (subst (λ z. Has bs z b) (sym q.1) h) (j ∙ ap (λ z. Some (number_of z)) k_is));
                    other = λ o. refl;
                    one = omega arith;
                    gate = λ i. (refl, len);
                  })
              | inr q ↦
                  (let x : At makers channel b.view.number b.view.takes (in_channel k puts) k n.acks = n.each k q in
                  let below : k < length makers = has_below makers k a q in
                  record { settled = x.settled; joined = x.joined; other = x.other; one = x.one; gate = λ i. absurd (omega arith) })
            ];
            expects = n.expects;
          };
      unmade = λ k le. dn.unmade k (omega arith);
    }

-- ---- the gateway settles its request

pub record Names (makers : List ℕ) (c : Channel) : Type 0 where
  pub k : ℕ
  pub newest : suc k ≡ length makers
  pub maker : Has makers k c.endpoint
  pub number : c.number ≡ number_of k

has_same : (makers : List ℕ) (k a b : ℕ) → Has makers k a → Has makers k b → a ≡ b
has_same makers k a b h g = has_one makers k a b h g

module _ (bs : List Book) (up down : List Sent) (makers : List ℕ) (c : Channel) (puts : List (ℕ × List ℕ)) (dn : Dn bs up down makers (Some c) puts) (nm : Names makers c)
    (s : Sent) (d : ℕ) (young : d < 128) (at : slice_get up d ≡ Some s) (from : c.endpoint ≡ s.endpoint) (r : Request) (out : c.outstanding ≡ Some r)
    (is : datagram_in s.octets ≡ Some (TunnellingAck c.number c.own 0)) where
  settle_at : (e : ℕ) (number : Option ℕ) (takes : List (List ℕ)) (acks k : ℕ) → CountedIn (AckUp number) (NotAckUp e) up acks → Has makers k e → At makers (Some c) number takes (in_channel k puts) k acks
      → At makers (Some (record c { own = next_number c.own; outstanding = None })) number takes (in_channel k puts) k acks
  settle_at e number takes acks k sent maker a =
      elim (dec k nm.k) [
        | inl k_is ↦
            (let last : suc k ≡ length makers = (let h : suc nm.k ≡ length makers = nm.newest in omega arith) in
            let P : Option Request → Type 0 = λ o. Gate c.own o a.settled (in_channel k puts) in
            let g : (c.own ≡ a.settled % 256) × ((older : List (List ℕ)) × (in_channel k puts ≡ r.frame ∷ older) × (length older ≡ a.settled)) = subst P out (a.gate last) in
            let e_is : e ≡ c.endpoint = has_same makers nm.k e c.endpoint (subst (λ z. Has makers z e) k_is maker) nm.maker in
            let len : length (in_channel k puts) ≡ suc a.settled = ap (λ l. length l) g.1.1 ∙ ap (λ n. suc n) g.1.2 in
            let near : Near (AckUp number) acks d s = elim (near_in (AckUp number) (NotAckUp e) sent d s at) [ inl x ↦ x | inr o ↦ absurd (o (subst IsAck (sym is) tt) (sym from ∙ sym e_is)) ] in
            let near2 : Near (λ x (f : Option IpFrame). AckUpOf number x f) acks d (datagram_in s.octets) = record { place = near.place; below = near.below; close = near.close; is = near.is } in
            let ch : near.is.channel ≡ c.number = (let h : Some (TunnellingAck near.is.channel (near.place % 256) 0) ≡ Some (TunnellingAck c.number c.own 0) = sym near.is.is ∙ is in cc) in
            let named : number ≡ Some (number_of k) = near.is.named ∙ ap (λ z. Some z) (ch ∙ nm.number ∙ ap number_of (sym k_is)) in
            let b : Between takes (in_channel k puts) acks (suc a.settled) = settled_by takes (in_channel k puts) acks a.settled c.own d (datagram_in s.octets) number c.number c.own young (a.joined named) g.0 len near2 is refl in
            record {
              settled = suc a.settled;
              joined = λ j. b;
              other = λ o. absurd (o named);
              one = omega arith;
              gate = λ i. (ap next_number g.0 ∙ numbers.next_number a.settled, len);
            })
        | inr apart ↦
            record {
              settled = a.settled;
              joined = a.joined;
              other = a.other;
              one = a.one;
              gate = λ i. absurd (let h : suc nm.k ≡ length makers = nm.newest in let q : k ≡ nm.k = omega arith in let t : (k == nm.k) ≡ true = eq-eqb k nm.k q in cc);
            }
      ]

  pub dn_settle : Dn bs up down makers (Some (record c { own = next_number c.own; outstanding = None })) puts
  dn_settle =
      record {
        requests = dn.requests;
        ends = λ e b h. let n : Ends up makers (Some c) puts e b.view.number b.view.takes b.state = dn.ends e b h in
            record {
              acks = n.acks;
              sent = n.sent;
              acked = n.acked;
              owes = n.owes;
              none = n.none;
              each = λ k g. settle_at e b.view.number b.view.takes n.acks k n.sent g (n.each k g);
              expects = n.expects;
            };
        unmade = dn.unmade;
      }
