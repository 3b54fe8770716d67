-- What the law of the tunnel says of a run of the line, a moment at a time.
use Rattle.std.proofs.Common.{◌≡◌, ℕ, ◌<◌, List, [], ◌∷◌, length, Option, Some, None, refl, sym, ◌∙◌, ap, subst, inl, inr, arith}
use Rattle.knx_model.specs.declared.frames.cemi.Ldata.{Ldata}
use Rattle.line_model.specs.ActedOnce.{Has, in_channel, IsPrefix, IsActedOnce}
use Rattle.line_model.specs.ClientView.{View}
use Rattle.line_model.specs.Fresh.{IsFresh}
use Rattle.line_model.specs.Gateway.{Channel, number_of, next_put}
use Rattle.line_model.specs.Legal.{IsLegal, MayHappen}
use Rattle.line_model.specs.Record.{Entry, noted, item_at, record_of}
use Rattle.line_model.specs.Renews.{RenewsRightly}
use Rattle.line_model.specs.Sendings.{SendsRightly}
use Rattle.line_model.specs.Tunnel.{Tunnel, Commissions, puts, puts_next, after}
use Rattle.line_model.specs.World.{World, Event, me, now, replay, step, tunnel_event}
use Rattle.tunnel_law.proofs.Both.{unique}
use Rattle.tunnel_law.proofs.Fits.{new_book, books, BookIs, Named, JoinedFits, Member}
use Rattle.tunnel_law.proofs.Inside.{has_below}
use Rattle.tunnel_law.proofs.Law.{Booked, booked, views_are, may_do, renews_before, sends_before, books_noted, first}
use Rattle.tunnel_law.proofs.Steps.{after_kept, step_kept}
use Rattle.tunnel_law.proofs.Took.{InvT}
use Rattle.line_law.proofs.Acting.{UpOnce}
use Rattle.line_law.proofs.Gates.{IsNew}

-- ---- the invariant of the client's requests

pub inv_always : (start : World) (events : List Event) → IsFresh start → IsLegal Commissions start events → RenewsRightly (record_of start events) → SendsRightly (record_of start events) → InvT (books (record_of start events)) (replay start events).tunnel
inv_always start [] f legal a b = subst (InvT (new_book ∷ [])) (sym f.tunnel) (first (me start))
inv_always start (e ∷ events) f legal a b =
    let w : World = replay start events in
    let r : List Entry = record_of start events in
    let t : ℕ = now (replay start (e ∷ events)) in
    let i : InvT (books r) w.tunnel = inv_always start events f legal.1 (renews_before (item_at w e) t r a) (sends_before (item_at w e) t r b) in
    books_noted (item_at w e) t r (step w e).tunnel (step_kept (books r) w.tunnel (tunnel_event w e) t i legal.0.tunnel (may_do r w.tunnel (tunnel_event w e) t a b))

-- and before the gateway puts its next frame
pub inv_after : (w : World) (r : List Entry) (e : Event) (t : ℕ) → InvT (books r) w.tunnel → MayHappen Commissions w e → RenewsRightly (noted (item_at w e) t r) → SendsRightly (noted (item_at w e) t r)
    → InvT (books (noted (item_at w e) t r)) (after w.tunnel (tunnel_event w e))
inv_after w r e t i may a b = books_noted (item_at w e) t r (after w.tunnel (tunnel_event w e)) (after_kept (books r) w.tunnel (tunnel_event w e) t i may.tunnel (may_do r w.tunnel (tunnel_event w e) t a b))

-- ---- what was acted on, before the gateway puts its next frame

next_makers : (t : Tunnel) (o : Option (Channel × Ldata)) → (puts t o).gateway.makers ≡ t.gateway.makers
next_makers t None = refl
next_makers t (Some (c, f)) = refl

next_acted : (t : Tunnel) (o : Option (Channel × Ldata)) → (puts t o).gateway.acted ≡ t.gateway.acted
next_acted t None = refl
next_acted t (Some (c, f)) = refl

pub once_after : (t : Tunnel) (r : List Entry) → IsActedOnce (puts_next t).gateway r → UpOnce t.gateway r
once_after t r h =
    let o : Option (Channel × Ldata) = next_put t.gateway.channel t.gateway.waiting in
    record {
      up = λ k v c.
          subst (λ (z : List (ℕ × List ℕ)). IsPrefix (in_channel k z) v.puts) (next_acted t o)
          (h.up k v (record { endpoint = c.endpoint; made_by = subst (λ z. Has z k c.endpoint) (sym (next_makers t o)) c.made_by; view = c.view; number = c.number }));
      alone = λ k none.
          subst (λ (z : List (ℕ × List ℕ)). in_channel k z ≡ []) (next_acted t o)
          (h.alone k (λ v c. none v (record { endpoint = c.endpoint; made_by = subst (λ z. Has z k c.endpoint) (next_makers t o) c.made_by; view = c.view; number = c.number })));
    }

-- ---- a channel that is made has another number than its endpoint's one

number_apart : (makers : List ℕ) (acted : List (ℕ × List ℕ)) (e : ℕ) (joined number : Option ℕ) (puts : List (List ℕ)) → Named joined number → JoinedFits makers acted e joined puts → number ≡ Some (number_of (length makers))
    → ((j : ℕ) → Has makers j e → number_of j ≡ number_of (length makers) → j ≡ length makers) → ⊥
number_apart makers acted e None number puts named fits is one = let h : None ≡ Some (number_of (length makers)) = sym named ∙ is in cc
number_apart makers acted e (Some j) number puts named fits is one =
    let m : Member makers acted e j puts = fits in
    let h : Some (number_of j) ≡ Some (number_of (length makers)) = sym named ∙ is in
    let same : number_of j ≡ number_of (length makers) = cc in
    let at : j ≡ length makers = one j m.maker same in
    let below : j < length makers = has_below makers j e m.maker in
    omega arith

pub new_place : (r : List Entry) (t n : Tunnel) (e : ℕ) → InvT (books r) t → InvT (books r) n → n.gateway.makers ≡ e ∷ t.gateway.makers → IsNew t.gateway.makers r e
new_place r t n e i k m v at is =
    let f : Booked (books r) e v = booked (books r) e v (subst (λ z. Has z e v) (views_are r) at) in
    let old : BookIs t.network.up t.gateway.makers t.gateway.acted e f.book = i.each e f.book f.at in
    let new : BookIs n.network.up n.gateway.makers n.gateway.acted e f.book = k.each e f.book f.at in
    number_apart t.gateway.makers t.gateway.acted e old.joined f.book.view.number f.book.view.puts old.named old.fits.member (ap (λ (z : View). z.number) f.is ∙ is)
    (λ j q same.
    unique n.network.up n.gateway.makers n.gateway.acted e f.book new j (length t.gateway.makers) (subst (λ z. Has z j e) (sym m) (inr q)) (subst (λ z. Has z (length t.gateway.makers) e) (sym m) (inl (refl, refl))) same)
