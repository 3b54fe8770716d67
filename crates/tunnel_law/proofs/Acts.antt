-- A request that comes in its channel keeps the invariant: it is acted on, or the one before is acknowledged again.
use Rattle.std.proofs.Common.{◌≡◌, ℕ, suc, ◌+◌, ◌-◌, ◌%◌, ◌<◌, ◌≤◌, List, [], ◌∷◌, length, Bool, true, false, cond, Option, Some, None, refl, sym, ◌∙◌, ap, subst, arith, inl, inr}
use Rattle.std.specs.Prelude.{slice_get, ◌==◌}
use Rattle.std.proofs.lemmas.Bool.{eq-eqb, ne_eqb, eqb-false}
use Rattle.knx_model.specs.declared.frames.ip.IpFrame.{IpFrame}
use Rattle.knx_model.specs.declared.frames.ip.IpFrame.TheVariants.{TunnellingRequest, TunnellingAck}
use Rattle.line_model.specs.Reading.{datagram_in}
use Rattle.line_model.specs.Network.{Sent, new_datagram}
use Rattle.line_model.specs.Gateway.{Channel, number_of, next_number}
use Rattle.line_model.specs.ChannelLost.{own}
use Rattle.line_model.specs.ClientView.{ClientChannel, Fresh, Sought, RefusedBy, Unanswered, Open, Lost}
use Rattle.line_model.specs.ActedOnce.{Has, in_channel, IsPrefix}
use Rattle.tunnel_law.proofs.Numbers as numbers
use Rattle.tunnel_law.proofs.Numbers.{Near}
use Rattle.tunnel_law.proofs.Read.{seen_of}
use Rattle.tunnel_law.proofs.Inside.{CountedIn, Next, Other, near_in, again_at, every_at, has_newest, Found, has_at, tail_length, tail_by_one}
use Rattle.tunnel_law.proofs.Fits.{Book, BookIs, IsTell, TellIs, NotTell, Member, JoinedFits, BookFits, Phase, AckIs, NotAck, ResponseIn, SentIs, Inv}
use Rattle.tunnel_law.proofs.Takes.{same_channel}
use Rattle.tunnel_law.proofs.Makes.{dec}

-- ---- a request comes in its channel

pub record Ready (acted : List (ℕ × List ℕ)) (k n d : ℕ) (p : List ℕ) (joined : Option ℕ) (puts : List (List ℕ)) : Type 0 where
  pub is_joined : joined ≡ Some k
  pub tail : IsPrefix (in_channel k acted) puts
  pub one : length puts ≤ suc (length (in_channel k acted))
  pub x : ℕ
  pub number : n ≡ x % 256
  pub put : Has puts x p
  pub below : x < length puts
  pub close : length puts ≤ suc (x + d)

ready_near : (up : List Sent) (makers : List ℕ) (acted : List (ℕ × List ℕ)) (e k n d : ℕ) (p : List ℕ) (joined : Option ℕ) (puts : List (List ℕ)) (asked : Option ℕ) (s : Sent)
    → BookFits up makers acted e joined puts asked → Has makers k e → datagram_in s.octets ≡ Some (TunnellingRequest (number_of k) n p)
    → Near (TellIs e joined puts) (length puts) d s → Ready acted k n d p joined puts
ready_near up makers acted e k n d p None puts asked s old has is near = absurd near.is.to_joined
ready_near up makers acted e k n d p (Some j) puts asked s old has is near =
    let same : Some (TunnellingRequest (number_of k) n p) ≡ Some (TunnellingRequest near.is.channel (near.place % 256) near.is.content) = sym is ∙ near.is.is in
    let c_is : number_of k ≡ near.is.channel = cc in
    let n_is : n ≡ near.place % 256 = cc in
    let p_is : p ≡ near.is.content = cc in
    let to : near.is.channel ≡ number_of j = near.is.to_joined in
    let m : Member makers acted e j puts = old.member in
    let j_is : j ≡ k = same_channel asked j k (old.range j m.maker) (old.range k has) (sym to ∙ sym c_is) in
    record {
      is_joined = ap (λ x. Some x) j_is;
      tail = subst (λ x. IsPrefix (in_channel x acted) puts) j_is m.tail;
      one = subst (λ x. length puts ≤ suc (length (in_channel x acted))) j_is m.one;
      x = near.place;
      number = n_is;
      put = subst (λ y. Has puts near.place y) (sym p_is) near.is.put;
      below = near.below;
      close = near.close;
    }

pub acted_same : (k : ℕ) (p : List ℕ) (acted : List (ℕ × List ℕ)) → in_channel k ((k, p) ∷ acted) ≡ p ∷ in_channel k acted
acted_same k p acted = ap (λ t. cond t (p ∷ in_channel k acted) (in_channel k acted)) (eq-eqb k k refl)

pub acted_other : (k j : ℕ) (p : List ℕ) (acted : List (ℕ × List ℕ)) → (k == j) ≡ false → in_channel j ((k, p) ∷ acted) ≡ in_channel j acted
acted_other k j p acted h = ap (λ t. cond t (p ∷ in_channel j acted) (in_channel j acted)) h

grows_by : (t : Bool) (p : List ℕ) (xs : List (List ℕ)) → length xs ≤ length (cond t (p ∷ xs) xs)
grows_by true p xs = omega arith
grows_by false p xs = omega arith

grows : (k j : ℕ) (p : List ℕ) (acted : List (ℕ × List ℕ)) → length (in_channel j acted) ≤ length (in_channel j ((k, p) ∷ acted))
grows k j p acted = grows_by (k == j) p (in_channel j acted)

phase_more : (k : ℕ) (p : List ℕ) (acted : List (ℕ × List ℕ)) (joined asked : Option ℕ) (puts : List (List ℕ)) (state : ClientChannel) → Phase acted joined asked puts state → Phase ((k, p) ∷ acted) joined asked puts state
phase_more k p acted joined asked puts Fresh h = h
phase_more k p acted joined asked puts (Sought since) h = h
phase_more k p acted joined asked puts (RefusedBy s) h = h
phase_more k p acted joined asked puts Unanswered h = h
phase_more k p acted joined asked puts (Lost d) h = h
phase_more k p acted joined asked puts (Open c l) h =
    let told : h.done ≤ length (in_channel h.place acted) = h.told in
    let more : length (in_channel h.place acted) ≤ length (in_channel h.place ((k, p) ∷ acted)) = grows k h.place p acted in
    record { place = h.place; joined_is = h.joined_is; numbered = h.numbered; done = h.done; number_is = h.number_is; told = omega arith; last_is = h.last_is }

module _ (bs : List Book) (present : ℕ) (up down : List Sent) (owner : ℕ) (rest : List ℕ) (c : Channel) (acted : List (ℕ × List ℕ)) (inv : Inv bs present up down (owner ∷ rest) (Some c) acted)
    (s : Sent) (d : ℕ) (young : d < 128) (at : slice_get up d ≡ Some s) (n : ℕ) (p : List ℕ) (is : datagram_in s.octets ≡ Some (TunnellingRequest (number_of (length rest)) n p)) (from : s.endpoint ≡ owner) where
  expects : c.expected ≡ length (in_channel (length rest) acted) % 256
  expects = inv.serving.2

  ready : (a : ℕ) (joined : Option ℕ) (puts : List (List ℕ)) (asked : Option ℕ) → BookFits up (owner ∷ rest) acted a joined puts asked → owner ≡ a → Ready acted (length rest) n d p joined puts
  ready a joined puts asked old own =
      elim (near_in (TellIs a joined puts) (NotTell a) old.tells d s at) [
        | inl near ↦ ready_near up (owner ∷ rest) acted a (length rest) n d p joined puts asked s old (inl (refl, own)) is near
        | inr other ↦ absurd (other (subst IsTell (sym is) tt) (from ∙ own))
      ]

  -- what is put is what was acted on and this
  puts_are : (joined : Option ℕ) (puts : List (List ℕ)) → Ready acted (length rest) n d p joined puts → n ≡ c.expected → puts ≡ p ∷ in_channel (length rest) acted
  puts_are joined puts r h =
      let below : r.x < length puts = r.below in
      let close : length puts ≤ suc (r.x + d) = r.close in
      let c0 : length (in_channel (length rest) acted) ≤ length puts = tail_length (in_channel (length rest) acted) puts r.tail in
      let c1 : length puts ≤ suc (length (in_channel (length rest) acted)) = r.one in
      let x_is : r.x ≡ length (in_channel (length rest) acted) = numbers.same_number r.x (length (in_channel (length rest) acted)) (omega arith) (omega arith) (sym r.number ∙ h ∙ expects) in
      let last : (y : List ℕ) × (puts ≡ y ∷ in_channel (length rest) acted) = tail_by_one (in_channel (length rest) acted) puts r.tail (omega arith) in
      let has : Has (last.0 ∷ in_channel (length rest) acted) r.x p = subst (λ l. Has l r.x p) last.1 r.put in
      let y_is : last.0 ≡ p = has_newest last.0 (in_channel (length rest) acted) r.x p x_is has in
      last.1 ∙ ap (λ y. y ∷ in_channel (length rest) acted) y_is

  owner_is : (a : ℕ) → Has (owner ∷ rest) (length rest) a → owner ≡ a
  owner_is a h = has_newest owner rest (length rest) a refl h

  member_acts : n ≡ c.expected → (a : ℕ) (joined : Option ℕ) (puts : List (List ℕ)) (asked : Option ℕ) → BookFits up (owner ∷ rest) acted a joined puts asked → JoinedFits (owner ∷ rest) ((length rest, p) ∷ acted) a joined puts
  member_acts h a None puts asked old = old.member
  member_acts h a (Some j) puts asked old =
      let m : Member (owner ∷ rest) acted a j puts = old.member in
      elim (dec (length rest) j) [
        | inl k_is ↦
            (let own : owner ≡ a = owner_is a (subst (λ z. Has (owner ∷ rest) z a) (sym k_is) m.maker) in
            let puts_is : puts ≡ p ∷ in_channel (length rest) acted = puts_are (Some j) puts (ready a (Some j) puts asked old own) h in
            let then : in_channel j ((length rest, p) ∷ acted) ≡ p ∷ in_channel (length rest) acted = subst (λ z. in_channel z ((length rest, p) ∷ acted) ≡ p ∷ in_channel (length rest) acted) k_is (acted_same (length rest) p acted) in
            let len : length puts ≡ length (in_channel j ((length rest, p) ∷ acted)) = ap (λ l. length l) (puts_is ∙ sym then) in
            record { maker = m.maker; tail = ([], puts_is ∙ sym then); one = omega arith })
        | inr other ↦
            (let same : in_channel j acted ≡ in_channel j ((length rest, p) ∷ acted) = sym (acted_other (length rest) j p acted other) in
            record { maker = m.maker; tail = subst (λ l. IsPrefix l puts) same m.tail; one = subst (λ l. length puts ≤ suc (length l)) same m.one })
      ]

  alone_acts : (a : ℕ) (joined : Option ℕ) (puts : List (List ℕ)) (asked : Option ℕ) → BookFits up (owner ∷ rest) acted a joined puts asked
      → (k : ℕ) → Has (owner ∷ rest) k a → (joined ≡ Some k → ⊥) → in_channel k ((length rest, p) ∷ acted) ≡ []
  alone_acts a joined puts asked old k maker other =
      elim (dec (length rest) k) [
        | inl k_is ↦
            (let own : owner ≡ a = owner_is a (subst (λ z. Has (owner ∷ rest) z a) (sym k_is) maker) in
            let r : Ready acted (length rest) n d p joined puts = ready a joined puts asked old own in
            absurd (other (r.is_joined ∙ ap (λ z. Some z) k_is)))
        | inr apart ↦ acted_other (length rest) k p acted apart ∙ old.alone k maker other
      ]

  module _ (octets : List ℕ) (made : ℕ) (ack_is : seen_of octets ≡ Some (TunnellingAck (number_of (length rest)) n 0)) (made_is : made - 1 ≡ length rest) where
    not_response : ResponseIn (owner ∷ rest) s.endpoint (seen_of octets)
    not_response = (let P : Option IpFrame → Type 0 = λ g. ResponseIn (owner ∷ rest) s.endpoint g in subst P (sym ack_is) tt)

    the_ack : (x : ℕ) → n ≡ x % 256 → AckIs (owner ∷ rest) (length rest) x (new_datagram octets s.endpoint made)
    the_ack x number = record { is = ack_is ∙ ap (λ z. Some (TunnellingAck (number_of (length rest)) z 0)) number; place = made_is; maker = inl (refl, sym from) }

    acks_acts : n ≡ c.expected → (k : ℕ) → CountedIn (AckIs (owner ∷ rest) k) (NotAck k) (new_datagram octets s.endpoint made ∷ down) (length (in_channel k ((length rest, p) ∷ acted)))
    acks_acts h k =
        elim (dec (length rest) k) [
          | inl k_is ↦
              (let P : ℕ → Type 0 = λ z. CountedIn (AckIs (owner ∷ rest) z) (NotAck z) (new_datagram octets s.endpoint made ∷ down) (length (in_channel z ((length rest, p) ∷ acted))) in
              let len : suc (length (in_channel (length rest) acted)) ≡ length (in_channel (length rest) ((length rest, p) ∷ acted)) = ap (λ l. length l) (sym (acted_same (length rest) p acted)) in
              subst P k_is (subst (λ z. CountedIn (AckIs (owner ∷ rest) (length rest)) (NotAck (length rest)) (new_datagram octets s.endpoint made ∷ down) z) len
              (Next (the_ack (length (in_channel (length rest) acted)) (h ∙ expects)) (inv.acks (length rest)))))
          | inr apart ↦
              (let same : in_channel k acted ≡ in_channel k ((length rest, p) ∷ acted) = sym (acted_other (length rest) k p acted apart) in
              subst (λ l. CountedIn (AckIs (owner ∷ rest) k) (NotAck k) (new_datagram octets s.endpoint made ∷ down) (length l)) same
              (Other (λ i f. eqb-false (length rest) k apart (sym made_is ∙ f)) (inv.acks k)))
        ]

    pub acts_kept : n ≡ c.expected → (c2 : Channel) → c2.endpoint ≡ owner → c2.number ≡ number_of (length rest) → c2.expected ≡ next_number c.expected
        → Inv bs present up (new_datagram octets s.endpoint made ∷ down) (owner ∷ rest) (Some c2) ((length rest, p) ∷ acted)
    acts_kept h c2 c_end c_num c_exp =
        record {
          endpoints = inv.endpoints;
          sent = inv.sent;
          made = inv.made;
          unmade = λ k le. acted_other (length rest) k p acted (ne_eqb (length rest) k (λ q. omega arith)) ∙ inv.unmade k le;
          each = λ a y g. let old : BookIs up (owner ∷ rest) acted a y = inv.each a y g in
              record {
                joined = old.joined;
                asked = old.asked;
                fits = record {
                  tells = old.fits.tells;
                  asks = old.fits.asks;
                  range = old.fits.range;
                  member = member_acts h a old.joined y.view.puts old.asked old.fits;
                  alone = alone_acts a old.joined y.view.puts old.asked old.fits;
                };
                named = old.named;
                phase = phase_more (length rest) p acted old.joined old.asked y.view.puts y.state old.phase;
              };
          serving = (c_end, c_num, c_exp ∙ ap next_number expects ∙ numbers.next_number (length (in_channel (length rest) acted)) ∙ ap (λ l. length l % 256) (sym (acted_same (length rest) p acted)));
          acks = acks_acts h;
          responses = (not_response, inv.responses);
        }

    -- the one before is acknowledged again
    acks_again : next_number n ≡ c.expected → (k : ℕ) → CountedIn (AckIs (owner ∷ rest) k) (NotAck k) (new_datagram octets s.endpoint made ∷ down) (length (in_channel k acted))
    acks_again h k =
        elim (dec (length rest) k) [
          | inl k_is ↦
              (let sent : SentIs (length bs) (suc (length rest)) s = every_at (SentIs (length bs) (suc (length rest))) up d s at inv.sent in
              let f : Found bs s.endpoint = has_at bs s.endpoint sent.0 in
              let old : BookIs up (owner ∷ rest) acted s.endpoint f.what = inv.each s.endpoint f.what f.at in
              let r : Ready acted (length rest) n d p old.joined f.what.view.puts = ready s.endpoint old.joined f.what.view.puts old.asked old.fits (sym from) in
              let puts : List (List ℕ) = f.what.view.puts in
              let c0 : length (in_channel (length rest) acted) ≤ length puts = tail_length (in_channel (length rest) acted) puts r.tail in
              let c1 : length puts ≤ suc (length (in_channel (length rest) acted)) = r.one in
              let below : r.x < length puts = r.below in
              let close : length puts ≤ suc (r.x + d) = r.close in
              let x_is : r.x + 1 ≡ length (in_channel (length rest) acted) = numbers.number_before r.x (length (in_channel (length rest) acted)) (omega arith) (omega arith) (ap (λ z. (z + 1) % 256) (sym r.number) ∙ h ∙ expects) in
              let P : ℕ → Type 0 = λ z. CountedIn (AckIs (owner ∷ rest) z) (NotAck z) (new_datagram octets s.endpoint made ∷ down) (length (in_channel z acted)) in
              subst P k_is (again_at (AckIs (owner ∷ rest) (length rest)) (NotAck (length rest)) down (new_datagram octets s.endpoint made) r.x (length (in_channel (length rest) acted)) x_is (the_ack r.x r.number) (inv.acks (length rest))))
          | inr apart ↦ Other (λ i f. eqb-false (length rest) k apart (sym made_is ∙ f)) (inv.acks k)
        ]

    pub again_kept : next_number n ≡ c.expected → Inv bs present up (new_datagram octets s.endpoint made ∷ down) (owner ∷ rest) (Some c) acted
    again_kept h =
        record {
          endpoints = inv.endpoints;
          sent = inv.sent;
          made = inv.made;
          unmade = inv.unmade;
          each = inv.each;
          serving = inv.serving;
          acks = acks_again h;
          responses = (not_response, inv.responses);
        }
