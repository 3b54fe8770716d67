-- What the gateway sends, and the channels that it makes, keep the invariant.
use Rattle.std.proofs.Common.{◌≡◌, ℕ, suc, ◌+◌, ◌%◌, ◌<◌, ◌≤◌, ◌⊎◌, List, ◌∷◌, length, Bool, true, false, Option, Some, None, refl, sym, ◌∙◌, ap, subst, arith, inl, inr}
use Rattle.std.specs.Prelude.{slice_get, ◌==◌}
use Rattle.std.proofs.lemmas.Bool.{eqb-true}
use Rattle.knx_model.specs.declared.address.IndAddr.{IndAddr}
use Rattle.knx_model.specs.declared.frames.ip.IpFrame.{IpFrame}
use Rattle.knx_model.specs.declared.frames.ip.IpFrame.TheVariants.{ConnectRequest, ConnectResponse, StateRequest, StateResponse, DisconnectRequest, DisconnectResponse, TunnellingRequest, TunnellingAck}
use Rattle.line_model.specs.Reading.{datagram_in}
use Rattle.line_model.specs.Network.{Sent, new_datagram}
use Rattle.line_model.specs.Gateway.{Channel, number_of}
use Rattle.line_model.specs.ActedOnce.{Has}
use Rattle.tunnel_law.proofs.Read.{IsOther, seen_of}
use Rattle.tunnel_law.proofs.Inside.{Other, inside_map, every_map, every_at}
use Rattle.tunnel_law.proofs.Fits.{Book, BookIs, IsAsk, AskIs, InRange, JoinedFits, AckIs, NotAck, IsAck, ResponseOf, ResponseIn, ResponseIs, Serving, SentIs, Inv, seen}

dec_by : (a b : ℕ) (t : Bool) → (a == b) ≡ t → (a ≡ b) ⊎ ((a == b) ≡ false)
dec_by a b true h = inl (eqb-true a b h)
dec_by a b false h = inr h

pub dec : (a b : ℕ) → (a ≡ b) ⊎ ((a == b) ≡ false)
dec a b = dec_by a b (a == b) refl

-- ---- a datagram that is neither an acknowledgement nor a response

other_ack : (g : Option IpFrame) → IsOther g → IsAck g → ⊥
other_ack None o i = i
other_ack (Some ConnectRequest) o i = i
other_ack (Some (ConnectResponse c s t)) o i = i
other_ack (Some (StateRequest c)) o i = i
other_ack (Some (StateResponse c s)) o i = i
other_ack (Some (DisconnectRequest c)) o i = i
other_ack (Some (DisconnectResponse c s)) o i = i
other_ack (Some (TunnellingRequest c n p)) o i = i
other_ack (Some (TunnellingAck c n s)) o i = o

other_response : (makers : List ℕ) (e : ℕ) (g : Option IpFrame) → IsOther g → ResponseIn makers e g
other_response makers e None o = tt
other_response makers e (Some ConnectRequest) o = tt
other_response makers e (Some (ConnectResponse c s t)) o = absurd o
other_response makers e (Some (StateRequest c)) o = tt
other_response makers e (Some (StateResponse c s)) o = tt
other_response makers e (Some (DisconnectRequest c)) o = tt
other_response makers e (Some (DisconnectResponse c s)) o = tt
other_response makers e (Some (TunnellingRequest c n p)) o = tt
other_response makers e (Some (TunnellingAck c n s)) o = tt

response_more : (makers : List ℕ) (m e : ℕ) (g : Option IpFrame) → ResponseIn makers e g → ResponseIn (m ∷ makers) e g
response_more makers m e None h = tt
response_more makers m e (Some ConnectRequest) h = tt
response_more makers m e (Some (ConnectResponse c s t)) h = λ z. (let r : ResponseOf makers c e = h z in record { place = r.place; number = r.number; maker = inr r.maker })
response_more makers m e (Some (StateRequest c)) h = tt
response_more makers m e (Some (StateResponse c s)) h = tt
response_more makers m e (Some (DisconnectRequest c)) h = tt
response_more makers m e (Some (DisconnectResponse c s)) h = tt
response_more makers m e (Some (TunnellingRequest c n p)) h = tt
response_more makers m e (Some (TunnellingAck c n s)) h = tt

pub other_down : (bs : List Book) (present : ℕ) (up down : List Sent) (makers : List ℕ) (channel : Option Channel) (acted : List (ℕ × List ℕ)) → Inv bs present up down makers channel acted
    → (octets : List ℕ) (endpoint made : ℕ) → IsOther (seen_of octets) → Inv bs present up (new_datagram octets endpoint made ∷ down) makers channel acted
other_down bs present up down makers channel acted inv octets endpoint made o =
    record {
      endpoints = inv.endpoints;
      sent = inv.sent;
      made = inv.made;
      unmade = inv.unmade;
      each = inv.each;
      serving = inv.serving;
      acks = λ k. Other (λ i f. other_ack (seen_of octets) o i) (inv.acks k);
      responses = (other_response makers endpoint (seen_of octets) o, inv.responses);
    }

-- a response
pub response_down : (bs : List Book) (present : ℕ) (up down : List Sent) (makers : List ℕ) (channel : Option Channel) (acted : List (ℕ × List ℕ)) → Inv bs present up down makers channel acted
    → (octets : List ℕ) (endpoint made c s : ℕ) (t : Option IndAddr) → seen_of octets ≡ Some (ConnectResponse c s t) → (s ≡ 0 → ResponseOf makers c endpoint)
    → Inv bs present up (new_datagram octets endpoint made ∷ down) makers channel acted
response_down bs present up down makers channel acted inv octets endpoint made c s t is r =
    record {
      endpoints = inv.endpoints;
      sent = inv.sent;
      made = inv.made;
      unmade = inv.unmade;
      each = inv.each;
      serving = inv.serving;
      acks = λ k. Other (λ i f. subst IsAck is i) (inv.acks k);
      responses = ((let P : Option IpFrame → Type 0 = λ g. ResponseIn makers endpoint g in subst P (sym is) r), inv.responses);
    }

-- ---- the channel changes, but for its endpoint and its numbers

pub channel_kept : (bs : List Book) (present : ℕ) (up down : List Sent) (makers : List ℕ) (channel other : Option Channel) (acted : List (ℕ × List ℕ)) → Inv bs present up down makers channel acted → Serving makers acted other
    → Inv bs present up down makers other acted
channel_kept bs present up down makers channel other acted inv s =
    record { endpoints = inv.endpoints; sent = inv.sent; made = inv.made; unmade = inv.unmade; each = inv.each; serving = s; acks = inv.acks; responses = inv.responses }

-- ---- a channel is made

member_more : (e : ℕ) (makers : List ℕ) (acted : List (ℕ × List ℕ)) (a : ℕ) (joined : Option ℕ) (puts : List (List ℕ)) → JoinedFits makers acted a joined puts → JoinedFits (e ∷ makers) acted a joined puts
member_more e makers acted a None puts m = m
member_more e makers acted a (Some j) puts m = record { maker = inr m.maker; tail = m.tail; one = m.one }

module _ (bs : List Book) (present : ℕ) (up down : List Sent) (makers : List ℕ) (channel : Option Channel) (acted : List (ℕ × List ℕ)) (inv : Inv bs present up down makers channel acted)
    (s : Sent) (d : ℕ) (at : slice_get up d ≡ Some s) (is : datagram_in s.octets ≡ Some ConnectRequest) (soon : length makers < s.made + 255) where
  the_ask : SentIs (length bs) (length makers) s
  the_ask = every_at (SentIs (length bs) (length makers)) up d s at inv.sent

  made_each : (a : ℕ) (x : Book) → Has bs a x → BookIs up (s.endpoint ∷ makers) acted a x
  made_each a x h =
      let old : BookIs up makers acted a x = inv.each a x h in
      let sent : SentIs (length bs) (length makers) s = the_ask in
      let asked : s.endpoint ≡ a → old.asked ≡ Some s.made = every_at (AskIs a old.asked) up d s at old.fits.asks (subst IsAsk (sym is) tt) in
      record {
        joined = old.joined;
        asked = old.asked;
        fits = record {
          tells = old.fits.tells;
          asks = old.fits.asks;
          range = λ k g. elim g [ inl q ↦ subst (λ o. InRange o k) (sym (asked q.1)) (let k_is : k ≡ length makers = q.0 in let le : s.made ≤ length makers = sent.1 in (omega arith, omega arith)) | inr q ↦ old.fits.range k q ];
          member = member_more s.endpoint makers acted a old.joined x.view.puts old.fits.member;
          alone = λ k g other. elim g [ inl q ↦ inv.unmade k (let k_is : k ≡ length makers = q.0 in omega arith) | inr q ↦ old.fits.alone k q other ];
        };
        named = old.named;
        phase = old.phase;
      }

  pub make_kept : (c : Channel) → c.endpoint ≡ s.endpoint → c.number ≡ number_of (length makers) → c.expected ≡ 0 → Inv bs present up down (s.endpoint ∷ makers) (Some c) acted
  make_kept c c_end c_num c_exp =
      record {
        endpoints = inv.endpoints;
        sent = every_map (SentIs (length bs) (length makers)) (SentIs (length bs) (suc (length makers))) (λ t h. (h.0, let le : t.made ≤ length makers = h.1 in omega arith)) up inv.sent;
        made = λ k a g. elim g [ inl q ↦ (let lt : s.endpoint < length bs = the_ask.0 in let e_is : s.endpoint ≡ a = q.1 in omega arith) | inr q ↦ inv.made k a q ];
        unmade = λ k le. inv.unmade k (omega arith);
        each = made_each;
        serving = (c_end, c_num, c_exp ∙ sym (ap (λ l. length l % 256) (inv.unmade (length makers) (omega arith))));
        acks = λ k. inside_map (AckIs makers k) (AckIs (s.endpoint ∷ makers) k) (NotAck k) (λ a t g. record { is = g.is; place = g.place; maker = inr g.maker }) (inv.acks k);
        responses = every_map (ResponseIs makers) (ResponseIs (s.endpoint ∷ makers)) (λ t g. response_more makers s.endpoint t.endpoint (seen t) g) down inv.responses;
      }
