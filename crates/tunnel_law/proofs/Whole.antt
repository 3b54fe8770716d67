-- The lists: what is left of the client's events.
use Rattle.std.proofs.Common.{◌≡◌, ℕ, ◌<◌, List, ◌∷◌, length, Bool, Option, None, refl, subst, arith, inl, inr}
use Rattle.line_model.specs.Network.{Sent, changed_at}
use Rattle.line_model.specs.Gateway.{Channel}
use Rattle.line_model.specs.Record.{Quiet, entry}
use Rattle.line_model.specs.ActedOnce.{Has}
use Rattle.tunnel_law.proofs.Inside.{Every, every_map, none_inside, inside_changed}
use Rattle.tunnel_law.proofs.Fits.{Book, new_book, book_after, SentIs}
use Rattle.tunnel_law.proofs.Down.{ReqIs, NotReq, AckUp, NotAckUp}
use Rattle.tunnel_law.proofs.Mirror.{Ends, Dn}
use Rattle.tunnel_law.proofs.Books.{EndsOf, quiet_by}

-- a new endpoint
module _ (bs : List Book) (up down : List Sent) (makers : List ℕ) (channel : Option Channel) (puts : List (ℕ × List ℕ)) (dn : Dn bs up down makers channel puts)
    (made : (k e : ℕ) → Has makers k e → e < length bs) (sent : Every (SentIs (length bs) (length makers)) up) where
  renew_ends : (e : ℕ) (x : Book) → Has (new_book ∷ bs) e x → Ends up makers channel puts e x.view.number x.view.takes x.state
  renew_ends e x (inl q) =
      let at : e ≡ length bs = q.0 in
      let here : EndsOf up makers channel puts e new_book
      = record {
        acks = 0;
        sent = none_inside (AckUp None) (NotAckUp e) up (every_map (SentIs (length bs) (length makers)) (NotAckUp e) (λ s h t f. let g : s.endpoint ≡ e = f in let lt : s.endpoint < length bs = h.0 in omega arith) up sent);
        acked = omega arith;
        owes = omega arith;
        none = λ h. refl;
        each = λ k h. absurd (let lt : e < length bs = made k e h in omega arith);
        expects = refl;
      } in
      subst (λ y. EndsOf up makers channel puts e y) q.1 here
  renew_ends e x (inr q) = dn.ends e x q

  pub dn_renew : Dn (new_book ∷ bs) up down makers channel puts
  dn_renew = record { requests = dn.requests; ends = renew_ends; unmade = dn.unmade }

-- a datagram is delivered once more, or lost
module _ (bs : List Book) (up down : List Sent) (makers : List ℕ) (channel : Option Channel) (puts : List (ℕ × List ℕ)) (dn : Dn bs up down makers channel puts) (age : ℕ) (delivered : Sent → ℕ) (lost : Sent → Bool) where
  abbrev change : Sent → Sent
  change s = record { octets = s.octets; endpoint = s.endpoint; delivered = delivered s; lost = lost s; made = s.made }

  pub dn_up_changed : Dn bs (changed_at age change up) down makers channel puts
  dn_up_changed =
      record {
        requests = dn.requests;
        ends = λ e b h. let n : Ends up makers channel puts e b.view.number b.view.takes b.state = dn.ends e b h in
            record { acks = n.acks; sent = inside_changed (AckUp b.view.number) (NotAckUp e) change (λ a s g. g) (λ s g. g) age n.sent; acked = n.acked; owes = n.owes; none = n.none; each = n.each; expects = n.expects };
        unmade = dn.unmade;
      }

  pub dn_down_changed : Dn bs up (changed_at age change down) makers channel puts
  dn_down_changed = record { requests = λ k. inside_changed (ReqIs makers puts k) (NotReq k) change (λ a s g. g) (λ s g. g) age (dn.requests k); ends = dn.ends; unmade = dn.unmade }

-- a quiet wait
module _ (b : Book) (rest : List Book) (up down : List Sent) (makers : List ℕ) (channel : Option Channel) (puts : List (ℕ × List ℕ)) (dn : Dn (b ∷ rest) up down makers channel puts) (now : ℕ) where
  quiet_ends : (e : ℕ) (x : Book) → Has (book_after b (entry Quiet now) ∷ rest) e x → Ends up makers channel puts e x.view.number x.view.takes x.state
  quiet_ends e x (inl q) =
      let next : EndsOf up makers channel puts e (book_after b (entry Quiet now)) = (quiet_by up makers channel puts e b.view b.state now (dn.ends e b (inl (q.0, refl)))).0 in
      subst (λ y. EndsOf up makers channel puts e y) q.1 next
  quiet_ends e x (inr q) = dn.ends e x (inr q)

  pub dn_quiet : Dn (book_after b (entry Quiet now) ∷ rest) up down makers channel puts
  dn_quiet = record { requests = dn.requests; ends = quiet_ends; unmade = dn.unmade }
