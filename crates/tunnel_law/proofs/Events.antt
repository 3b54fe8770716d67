-- The client's events, and what a datagram's delivery or loss changes, keep the invariant.
use Rattle.std.proofs.Common.{◌≡◌, ℕ, suc, ◌-◌, ◌<◌, List, [], ◌∷◌, length, Bool, Option, Some, None, refl, sym, ◌∙◌, ap, subst, arith, inl, inr}
use Rattle.std.specs.Prelude.{slice_get, take}
use Rattle.line_model.specs.Reading.{datagram_in}
use Rattle.line_model.specs.Network.{Sent, new_datagram, changed_at}
use Rattle.line_model.specs.Gateway.{Channel}
use Rattle.line_model.specs.Record.{Put, Got, Quiet, entry}
use Rattle.line_model.specs.ActedOnce.{Has, in_channel}
use Rattle.tunnel_law.proofs.Inside.{CountedIn, near_in, inside_changed, every_changed, none_inside, every_map, every_at, has_below}
use Rattle.tunnel_law.proofs.Fits.{Book, new_book, book_after, BookIs, TellIs, NotTell, AskIs, AckOf, AckIs, NotAck, IsAck, ResponseIn, ResponseIs, SentIs, Inv, seen}
use Rattle.tunnel_law.proofs.Client.{other_fits}
use Rattle.tunnel_law.proofs.Sends.{MaySend, send_head}
use Rattle.tunnel_law.proofs.Takes.{Acked, take_head, quiet_head}

-- the book of the present endpoint changes
module _ (b b2 : Book) (rest : List Book) (present : ℕ) (up down : List Sent) (makers : List ℕ) (channel : Option Channel) (acted : List (ℕ × List ℕ)) (inv : Inv (b ∷ rest) present up down makers channel acted)
    (fits : BookIs up makers acted (length rest) b2) where
  head_each : (e : ℕ) (x : Book) → Has (b2 ∷ rest) e x → BookIs up makers acted e x
  head_each e x (inl q) =
      let here : BookIs up makers acted e b2 = subst (λ a. BookIs up makers acted a b2) (sym q.0) fits in
      subst (λ y. BookIs up makers acted e y) q.1 here
  head_each e x (inr q) = inv.each e x (inr q)

  pub head_kept : Inv (b2 ∷ rest) present up down makers channel acted
  head_kept = record { endpoints = inv.endpoints; sent = inv.sent; made = inv.made; unmade = inv.unmade; each = head_each; serving = inv.serving; acks = inv.acks; responses = inv.responses }

-- the client sends a datagram
module _ (b : Book) (rest : List Book) (present : ℕ) (up down : List Sent) (makers : List ℕ) (channel : Option Channel) (acted : List (ℕ × List ℕ)) (inv : Inv (b ∷ rest) present up down makers channel acted)
    (octets : List ℕ) (now : ℕ) (may : MaySend (entry (Put octets) now) b.state (datagram_in octets)) where
  send_each : (e : ℕ) (x : Book) → Has (book_after b (entry (Put octets) now) ∷ rest) e x → BookIs (new_datagram octets present (length makers) ∷ up) makers acted e x
  send_each e x (inl q) =
      let at : e ≡ length rest = q.0 in
      let ends : suc (length rest) ≡ suc present = inv.endpoints in
      let is : present ≡ e = omega arith in
      let old : BookIs up makers acted e b = inv.each e b (inl (q.0, refl)) in
      let sent : BookIs (new_datagram octets e (length makers) ∷ up) makers acted e (book_after b (entry (Put octets) now)) = send_head up makers acted e octets (length makers) now b old may in
      let here : BookIs (new_datagram octets present (length makers) ∷ up) makers acted e (book_after b (entry (Put octets) now))
      = subst (λ a. BookIs (new_datagram octets a (length makers) ∷ up) makers acted e (book_after b (entry (Put octets) now))) (sym is) sent in
      subst (λ y. BookIs (new_datagram octets present (length makers) ∷ up) makers acted e y) q.1 here
  send_each e x (inr q) =
      let old : BookIs up makers acted e x = inv.each e x (inr q) in
      let below : e < length rest = has_below rest e x q in
      let ends : suc (length rest) ≡ suc present = inv.endpoints in
      let apart : present ≡ e → ⊥ = λ f. omega arith in
      record {
        joined = old.joined;
        asked = old.asked;
        fits = other_fits up makers acted e old.joined x.view.puts old.asked octets present (length makers) (λ t f. apart f) (λ t f. apart f) old.fits;
        named = old.named;
        phase = old.phase;
      }

  pub send_kept : Inv (book_after b (entry (Put octets) now) ∷ rest) present (new_datagram octets present (length makers) ∷ up) down makers channel acted
  send_kept =
      let ends : suc (length rest) ≡ suc present = inv.endpoints in
      record {
        endpoints = inv.endpoints;
        sent = ((omega arith, omega arith), inv.sent);
        made = inv.made;
        unmade = inv.unmade;
        each = send_each;
        serving = inv.serving;
        acks = inv.acks;
        responses = inv.responses;
      }

-- the client takes the next endpoint
module _ (bs : List Book) (present : ℕ) (up down : List Sent) (makers : List ℕ) (channel : Option Channel) (acted : List (ℕ × List ℕ)) (inv : Inv bs present up down makers channel acted) where
  renew_each : (e : ℕ) (x : Book) → Has (new_book ∷ bs) e x → BookIs up makers acted e x
  renew_each e x (inl q) =
      let at : e ≡ length bs = q.0 in
      let here : BookIs up makers acted e new_book
      = record {
        joined = None;
        asked = None;
        fits = record {
          tells = none_inside (TellIs e None []) (NotTell e) up (every_map (SentIs (length bs) (length makers)) (NotTell e) (λ s h t f. let g : s.endpoint ≡ e = f in let lt : s.endpoint < length bs = h.0 in omega arith) up inv.sent);
          asks = every_map (SentIs (length bs) (length makers)) (AskIs e None) (λ s h i f. absurd (let g : s.endpoint ≡ e = f in let lt : s.endpoint < length bs = h.0 in omega arith)) up inv.sent;
          range = λ k h. absurd (let lt : e < length bs = inv.made k e h in omega arith);
          member = refl;
          alone = λ k h other. absurd (let lt : e < length bs = inv.made k e h in omega arith);
        };
        named = refl;
        phase = (refl, refl);
      } in
      subst (λ y. BookIs up makers acted e y) q.1 here
  renew_each e x (inr q) = inv.each e x q

  pub renew_kept : Inv (new_book ∷ bs) (suc present) up down makers channel acted
  renew_kept =
      record {
        endpoints = ap (λ n. suc n) inv.endpoints;
        sent = every_map (SentIs (length bs) (length makers)) (SentIs (suc (length bs)) (length makers)) (λ s h. (let lt : s.endpoint < length bs = h.0 in omega arith, h.1)) up inv.sent;
        made = λ k e h. let lt : e < length bs = inv.made k e h in omega arith;
        unmade = inv.unmade;
        each = renew_each;
        serving = inv.serving;
        acks = inv.acks;
        responses = inv.responses;
      }

-- the client gets a datagram, or waits
acked_at : (makers : List ℕ) (acted : List (ℕ × List ℕ)) (down : List Sent) (d e : ℕ) (s : Sent) → slice_get down d ≡ Some s → s.endpoint ≡ e
    → ((k : ℕ) → CountedIn (AckIs makers k) (NotAck k) down (length (in_channel k acted))) → IsAck (seen s) → Acked makers acted e d (seen s)
acked_at makers acted down d e s at to acks i =
    elim (near_in (AckIs makers (s.made - 1)) (NotAck (s.made - 1)) (acks (s.made - 1)) d s at) [
      | inl near ↦
          (let a : AckOf makers (s.made - 1) near.place (seen s) s.made s.endpoint = near.is in
          record { mark = s.made - 1; place = near.place; is = a.is; below = near.below; close = near.close; maker = subst (λ z. Has makers (s.made - 1) z) to a.maker })
      | inr other ↦ absurd (other i refl)
    ]

pub take_kept : (b : Book) (rest : List Book) (present : ℕ) (up down : List Sent) (makers : List ℕ) (channel : Option Channel) (acted : List (ℕ × List ℕ)) → Inv (b ∷ rest) present up down makers channel acted
    → (d now : ℕ) (s : Sent) → slice_get down d ≡ Some s → d < 128 → s.endpoint ≡ present
    → Inv (book_after b (entry (Got (take 512 s.octets)) now) ∷ rest) present up down makers channel acted
take_kept b rest present up down makers channel acted inv d now s at young to =
    let ends : suc (length rest) ≡ suc present = inv.endpoints in
    let is : present ≡ length rest = omega arith in
    let r : ResponseIs makers s = every_at (ResponseIs makers) down d s at inv.responses in
    let r2 : ResponseIn makers (length rest) (seen s) = subst (λ z. ResponseIn makers z (seen s)) (to ∙ is) r in
    head_kept b (book_after b (entry (Got (take 512 s.octets)) now)) rest present up down makers channel acted inv
    (take_head up makers acted (length rest) d young (take 512 s.octets) now b (inv.each (length rest) b (inl (refl, refl))) r2 (acked_at makers acted down d (length rest) s at (to ∙ is) inv.acks))

pub quiet_kept : (b : Book) (rest : List Book) (present : ℕ) (up down : List Sent) (makers : List ℕ) (channel : Option Channel) (acted : List (ℕ × List ℕ)) (now : ℕ) → Inv (b ∷ rest) present up down makers channel acted
    → Inv (book_after b (entry Quiet now) ∷ rest) present up down makers channel acted
quiet_kept b rest present up down makers channel acted now inv =
    head_kept b (book_after b (entry Quiet now)) rest present up down makers channel acted inv (quiet_head up makers acted (length rest) now b (inv.each (length rest) b (inl (refl, refl))))

-- a datagram is delivered once more, or lost
module _ (bs : List Book) (present : ℕ) (up down : List Sent) (makers : List ℕ) (channel : Option Channel) (acted : List (ℕ × List ℕ)) (inv : Inv bs present up down makers channel acted) (age : ℕ) (delivered : Sent → ℕ) (lost : Sent → Bool) where
  abbrev change : Sent → Sent
  change s = record { octets = s.octets; endpoint = s.endpoint; delivered = delivered s; lost = lost s; made = s.made }

  pub up_changed : Inv bs present (changed_at age change up) down makers channel acted
  up_changed =
      record {
        endpoints = inv.endpoints;
        sent = every_changed (SentIs (length bs) (length makers)) change (λ s h. h) age up inv.sent;
        made = inv.made;
        unmade = inv.unmade;
        each = λ e b h. let old : BookIs up makers acted e b = inv.each e b h in
            record {
              joined = old.joined;
              asked = old.asked;
              fits = record {
                tells = inside_changed (TellIs e old.joined b.view.puts) (NotTell e) change (λ a s g. g) (λ s g. g) age old.fits.tells;
                asks = every_changed (AskIs e old.asked) change (λ s g. g) age up old.fits.asks;
                range = old.fits.range;
                member = old.fits.member;
                alone = old.fits.alone;
              };
              named = old.named;
              phase = old.phase;
            };
        serving = inv.serving;
        acks = inv.acks;
        responses = inv.responses;
      }

  pub down_changed : Inv bs present up (changed_at age change down) makers channel acted
  down_changed =
      record {
        endpoints = inv.endpoints;
        sent = inv.sent;
        made = inv.made;
        unmade = inv.unmade;
        each = inv.each;
        serving = inv.serving;
        acks = λ k. inside_changed (AckIs makers k) (NotAck k) change (λ a s g. g) (λ s g. g) age (inv.acks k);
        responses = every_changed (ResponseIs makers) change (λ s g. g) age down inv.responses;
      }
