-- An entry of the client's record by which nothing comes or goes, the loss of the channel, and a new endpoint.
use Rattle.std.proofs.Common.{◌≡◌, ℕ, suc, ◌+◌, ◌≤◌, List, [], ◌∷◌, length, false, Some, None, refl, sym, ◌∙◌, ap, subst, inl, inr, arith}
use Rattle.line_model.specs.ActedOnce.{Has, IsChannelOf}
use Rattle.line_model.specs.ChannelLost.{confirmed, last_frame}
use Rattle.line_model.specs.ClientView.{ClientChannel, Fresh, Sought, RefusedBy, Unanswered, Open, Lost, View, unused, view_after, first_view_after, channel, traffic, views}
use Rattle.line_model.specs.Gateway.{Gateway, number_of}
use Rattle.line_model.specs.Record.{Entry, is_renewal}
use Rattle.line_model.specs.Tunnel.{Tunnel}
use Rattle.line_model.specs.World.{World}
use Rattle.session_law.specs.World.{World as SessionWorld}
use Rattle.session_law.specs.Client.{loses}
use Rattle.session_law.specs.Events.{step, Pass}
use Rattle.tunnel_law.proofs.Fits.{Book, books}
use Rattle.tunnel_law.proofs.Inside.{has_newest}
use Rattle.tunnel_law.proofs.Law.{views_of, views_are}
use Rattle.tunnel_law.proofs.Took.{InvT}
use Rattle.line_law.proofs.Queue.{Items}
use Rattle.line_law.proofs.Coupled.{Flight, Last, Never, Since, IsOut, IsLater, ChannelIs, OpenIs, LastIs, is_open, Coupled}

-- ---- the present endpoint's view

pub record HeadView (r : List Entry) (present : ℕ) : Type 0 where
  pub view : View
  pub rest : List View
  pub is : views r ≡ view ∷ rest
  pub length_is : length rest ≡ present

length_views : (bs : List Book) → length (views_of bs) ≡ length bs
length_views [] = refl
length_views (b ∷ bs) = ap (λ n. suc n) (length_views bs)

head_by : (vs : List View) (present : ℕ) (r : List Entry) → views r ≡ vs → length vs ≡ suc present → HeadView r present
head_by [] present r is len = absurd (omega arith)
head_by (v ∷ rest) present r is len = record { view = v; rest = rest; is = is; length_is = omega arith }

pub head_view : (r : List Entry) (t : Tunnel) → InvT (books r) t → HeadView r t.present
head_view r t i =
    let len : length (views r) ≡ suc t.present = ap (λ (z : List View). length z) (views_are r) ∙ length_views (books r) ∙ i.endpoints in
    head_by (views r) t.present r refl len

pub at_head : (r : List Entry) (present : ℕ) (v : View) → (h : HeadView r present) → Has (views r) present v → h.view ≡ v
at_head r present v h at = has_newest h.view h.rest present v (sym h.length_is) (subst (λ (z : List View). Has z present v) h.is at)

-- without a renewal the present endpoint's view goes on
pub views_go : (r : List Entry) (present : ℕ) (x : Entry) (h : HeadView r present) → is_renewal x.what ≡ false → views (x ∷ r) ≡ view_after h.view (channel (x ∷ r)) (traffic (channel r) x) ∷ h.rest
views_go r present x h n = rw n (ap (λ z. first_view_after z (channel (x ∷ r)) (traffic (channel r) x)) h.is)

-- ---- the views stay

-- how the present endpoint's channel may go on then
pub data Moves : ClientChannel → ClientChannel → Type 0 where
  Outside : {c d : ClientChannel} → ((base e present : ℕ) (makers : List ℕ) (flight : Flight) → ChannelIs base e present makers flight c → IsLater base e present makers) → ((base e present : ℕ) (makers : List ℕ) (flight : Flight) → IsLater base e present makers → ChannelIs base e present makers flight d)
      → IsOut d → is_open c ≡ false → is_open d ≡ false → Moves c d
  Goes : {c : ℕ} {l more : List Entry} → confirmed c more ≡ confirmed c l → last_frame c more ≡ last_frame c l → Moves (Open c l) (Open c more)
  Stays : {c : ℕ} → Moves (Lost c) (Lost c)

moves_channel : {c d : ClientChannel} → Moves c d → (base e present : ℕ) (makers : List ℕ) (flight : Flight) → ChannelIs base e present makers flight c → ChannelIs base e present makers flight d
moves_channel (Outside f g o p q) base e present makers flight h = g base e present makers flight (f base e present makers flight h)
moves_channel (Goes {c} {l} {more} same last) base e present makers flight h = (h.0, h.1, subst (λ y. OpenIs (confirmed c more) y flight) (sym last) (subst (λ z. OpenIs z (last_frame c l) flight) (sym same) h.2))
moves_channel Stays base e present makers flight h = h

moves_out : {c d : ClientChannel} → Moves c d → IsOut c → IsOut d
moves_out (Outside f g o p q) h = o
moves_out (Goes same last) h = absurd h
moves_out Stays h = absurd h

moves_open : {c d : ClientChannel} → Moves c d → is_open d ≡ is_open c
moves_open (Outside f g o p q) = q ∙ sym p
moves_open (Goes same last) = refl
moves_open Stays = refl

same_channel : (g : Gateway) (r k : List Entry) (n : ℕ) (other : View) → views k ≡ views r → IsChannelOf g k n other → IsChannelOf g r n other
same_channel g r k n other e c = record { endpoint = c.endpoint; made_by = c.made_by; view = subst (λ (z : List View). Has z c.endpoint other) e c.view; number = c.number }

still_last : (last : Last) (g : Gateway) (present : ℕ) (r k : List Entry) (items : Items) (older : List (ℕ × List ℕ)) → views k ≡ views r → Moves (channel r) (channel k) → LastIs last g present r items older → LastIs last g present k items older
still_last Never g present r k items older e m h = record { none = λ n other c. h.none n other (same_channel g r k n other e c); out = moves_out m h.out; bus = h.bus; quiet = h.quiet; empty = h.empty }
still_last (Since base n v flight) g present r k items older e m h =
    record {
      made = h.made;
      view = subst (λ (z : List View). Has z n v) (sym e) h.view;
      number = h.number;
      late = λ q other c. h.late q other (same_channel g r k q other e c);
      low = h.low;
      taken = h.taken;
      olds = h.olds;
      channel_is = moves_channel m base n present g.makers flight h.channel_is;
      con_items = h.con_items;
      serving = h.serving;
      flight_is = h.flight_is;
    }

pub still_kept : (a : ℕ) (w : World) (r k : List Entry) (s : SessionWorld) → views k ≡ views r → Moves (channel r) (channel k) → Coupled a w r s → Coupled a w k s
still_kept a w r k s e m h =
    let p = h.by.pipe in
    record {
      items = h.items;
      older = h.older;
      last = h.last;
      by = record {
        side = h.by.side;
        pipe = record { puts_are = p.puts_are; sorted = p.sorted; newest = p.newest; frames = p.frames; last_is = still_last h.last w.tunnel.gateway w.tunnel.present r k h.items h.older e m p.last_is };
        coming = h.by.coming;
        flying = h.by.flying;
        pending = h.by.pending;
        joined = h.by.joined ∙ sym (moves_open m);
      };
    }

-- ---- the channel is lost

lost_last : (last : Last) (g : Gateway) (present : ℕ) (r k : List Entry) (items : Items) (older : List (ℕ × List ℕ)) (c : ℕ) (l : List Entry) → views k ≡ views r → channel r ≡ Open c l → channel k ≡ Lost c → LastIs last g present r items older → LastIs last g present k items older
lost_last Never g present r k items older c l e is next h = absurd (let o : IsOut (Open c l) = subst IsOut is h.out in o)
lost_last (Since base n v flight) g present r k items older c l e is next h =
    record {
      made = h.made;
      view = subst (λ (z : List View). Has z n v) (sym e) h.view;
      number = h.number;
      late = λ q other x. h.late q other (same_channel g r k q other e x);
      low = h.low;
      taken = h.taken;
      olds = h.olds;
      channel_is = subst (ChannelIs base n present g.makers flight) (sym next) (subst (ChannelIs base n present g.makers flight) is h.channel_is).0;
      con_items = h.con_items;
      serving = h.serving;
      flight_is = h.flight_is;
    }

pub lost_kept : (a : ℕ) (w : World) (r k : List Entry) (s : SessionWorld) (c : ℕ) (l : List Entry) → views k ≡ views r → channel r ≡ Open c l → channel k ≡ Lost c → Coupled a w r s → Coupled a w k (loses s)
lost_kept a w r k s c l e is next h =
    let p = h.by.pipe in
    record {
      items = h.items;
      older = h.older;
      last = h.last;
      by = record {
        side = record { device = h.by.side.device; same_me = h.by.side.same_me; same_now = h.by.side.same_now; echo = h.by.side.echo };
        pipe = record { puts_are = p.puts_are; sorted = p.sorted; newest = p.newest; frames = p.frames; last_is = lost_last h.last w.tunnel.gateway w.tunnel.present r k h.items h.older c l e is next p.last_is };
        coming = h.by.coming;
        flying = h.by.flying;
        pending = λ q. absurd (cc);
        joined = sym (ap is_open next);
      };
    }

-- ---- a new endpoint

later_than : (base e present : ℕ) (makers : List ℕ) (flight : Flight) (c : ClientChannel) → ChannelIs base e present makers flight c → e ≤ present
later_than base e present makers flight Fresh h = omega (arith, h.0)
later_than base e present makers flight (Sought since) h = omega (arith, h.0)
later_than base e present makers flight (RefusedBy status) h = omega (arith, h.0)
later_than base e present makers flight Unanswered h = omega (arith, h.0)
later_than base e present makers flight (Open c l) h = let q : e ≡ present = h.0 in omega arith
later_than base e present makers flight (Lost c) h = let q : e ≡ present = h in omega arith

renewed_channel : (g : Gateway) (r : List Entry) (x : Entry) (n : ℕ) (other : View) → views (x ∷ r) ≡ unused ∷ views r → IsChannelOf g (x ∷ r) n other → IsChannelOf g r n other
renewed_channel g r x n other e c = by_place (subst (λ (z : List View). Has z c.endpoint other) e c.view) where
  by_place : Has (unused ∷ views r) c.endpoint other → IsChannelOf g r n other
  by_place (inl q) = absurd (let none : None ≡ Some (number_of n) = ap (λ (z : View). z.number) q.1 ∙ c.number in cc)
  by_place (inr q) = record { endpoint = c.endpoint; made_by = c.made_by; view = q; number = c.number }

renewed_last : (last : Last) (g : Gateway) (present : ℕ) (r : List Entry) (x : Entry) (items : Items) (older : List (ℕ × List ℕ)) → views (x ∷ r) ≡ unused ∷ views r → channel (x ∷ r) ≡ Fresh → ((k : ℕ) → Has g.makers k (suc present) → ⊥) → LastIs last g present r items older
    → LastIs last g (suc present) (x ∷ r) items older
renewed_last Never g present r x items older e f none h = record { none = λ n other c. h.none n other (renewed_channel g r x n other e c); out = subst IsOut (sym f) tt; bus = h.bus; quiet = h.quiet; empty = h.empty }
renewed_last (Since base n v flight) g present r x items older e f none h =
    record {
      made = h.made;
      view = subst (λ (z : List View). Has z n v) (sym e) (inr h.view);
      number = h.number;
      late = λ q other c. h.late q other (renewed_channel g r x q other e c);
      low = h.low;
      taken = h.taken;
      olds = h.olds;
      channel_is = (let le : n ≤ present = later_than base n present g.makers flight (channel r) h.channel_is in subst (ChannelIs base n (suc present) g.makers flight) (sym f) (omega arith, λ k q. absurd (none k q)));
      con_items = h.con_items;
      serving = h.serving;
      flight_is = h.flight_is;
    }

abbrev pub renewed_world : World → World
renewed_world w = record { tunnel = record w.tunnel { present = suc w.tunnel.present }; devices = w.devices; echo = w.echo }

pub renewed_kept : (a : ℕ) (w : World) (r : List Entry) (x : Entry) (s : SessionWorld) → views (x ∷ r) ≡ unused ∷ views r → channel (x ∷ r) ≡ Fresh → is_open (channel r) ≡ false → ((k : ℕ) → Has w.tunnel.gateway.makers k (suc w.tunnel.present) → ⊥) → Coupled a w r s
    → Coupled a (renewed_world w) (x ∷ r) s
renewed_kept a w r x s e f shut none h =
    let p = h.by.pipe in
    record {
      items = h.items;
      older = h.older;
      last = h.last;
      by = record {
        side = record { device = h.by.side.device; same_me = h.by.side.same_me; same_now = h.by.side.same_now; echo = h.by.side.echo };
        pipe = record { puts_are = p.puts_are; sorted = p.sorted; newest = p.newest; frames = p.frames; last_is = renewed_last h.last w.tunnel.gateway w.tunnel.present r x h.items h.older e f none p.last_is };
        coming = h.by.coming;
        flying = h.by.flying;
        pending = h.by.pending;
        joined = h.by.joined ∙ shut ∙ sym (ap is_open f);
      };
    }

-- ---- the time

abbrev pub later_world : World → ℕ → World
later_world w ms = record { tunnel = record w.tunnel { now = w.tunnel.now + ms }; devices = w.devices; echo = w.echo }

pub pass_kept : (a : ℕ) (w : World) (r : List Entry) (s : SessionWorld) (ms : ℕ) → Coupled a w r s → Coupled a (later_world w ms) r (step s (Pass ms))
pass_kept a w r s ms h =
    record {
      items = h.items;
      older = h.older;
      last = h.last;
      by = record {
        side = record { device = h.by.side.device; same_me = h.by.side.same_me; same_now = ap (λ n. n + ms) h.by.side.same_now; echo = h.by.side.echo };
        pipe = h.by.pipe;
        coming = h.by.coming;
        flying = h.by.flying;
        pending = h.by.pending;
        joined = h.by.joined;
      };
    }
