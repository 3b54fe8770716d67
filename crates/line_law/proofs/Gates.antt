-- What happens at the gateway alone: it closes its channel, makes the next one, acts on a request, and puts its oldest frame for the client.
use Rattle.std.proofs.Common.{◌≡◌, ℕ, ◌<◌, ◌≤◌, ◌⊎◌, List, [], ◌∷◌, length, Some, None, refl, sym, ◌∙◌, ap, subst, inl, inr, arith}
use Rattle.knx_model.specs.declared.frames.cemi.Ldata.{Ldata}
use Rattle.line_model.specs.ActedOnce.{Has, IsChannelOf}
use Rattle.line_model.specs.ClientView.{ClientChannel, Fresh, Sought, RefusedBy, Unanswered, Open, Lost, View, channel, views}
use Rattle.line_model.specs.Gateway.{Channel, Gateway, number_of, newest_place}
use Rattle.line_model.specs.Record.{Entry}
use Rattle.line_model.specs.World.{World}
use Rattle.session_law.specs.World.{World as SessionWorld}
use Rattle.tunnel_law.proofs.Inside.{every_map, has_below}
use Rattle.line_law.proofs.Queue.{Items, cons, back}
use Rattle.line_law.proofs.Coupled.{Flight, Serves, Last, Never, Since, IsLater, ChannelIs, LastIs, Coupled}
use Rattle.line_law.proofs.GateCloses.{gate_world, flight_to}

-- ---- it makes the next channel

below_newest : (makers : List ℕ) → newest_place makers ≤ length makers
below_newest [] = omega arith
below_newest (m ∷ rest) = omega arith

pub newest_least : (makers : List ℕ) (base e : ℕ) → Has makers base e → base ≤ newest_place makers
newest_least [] base e h = absurd h
newest_least (m ∷ rest) base e h = let b : base < length (m ∷ rest) = has_below (m ∷ rest) base e h in omega arith

abbrev pub made_gate : Gateway → Channel → ℕ → Gateway
made_gate g ch e = record g { channel = Some ch; makers = e ∷ g.makers }

-- the client has no channel of this number at that endpoint
abbrev pub IsNew : List ℕ → List Entry → ℕ → Type 0
IsNew makers r e = (v : View) → Has (views r) e v → v.number ≡ Some (number_of (length makers)) → ⊥

old_channel : (g : Gateway) (r : List Entry) (ch : Channel) (e k : ℕ) (other : View) → IsNew g.makers r e → IsChannelOf (made_gate g ch e) r k other → IsChannelOf g r k other
old_channel g r ch e k other new c = by_maker c.made_by where
  by_maker : ((k ≡ length g.makers) × (e ≡ c.endpoint)) ⊎ Has g.makers k c.endpoint → IsChannelOf g r k other
  by_maker (inl q) = absurd (new other (subst (λ z. Has (views r) z other) (sym q.1) c.view) (c.number ∙ ap (λ z. Some (number_of z)) q.0))
  by_maker (inr q) = record { endpoint = c.endpoint; made_by = q; view = c.view; number = c.number }

later_makes : (base n present e : ℕ) (makers : List ℕ) → base < length makers → IsLater base n present makers → IsLater base n present (e ∷ makers)
later_makes base n present e makers below h =
    (h.0, λ k q. elim q [ inl new ↦ (let at : k ≡ length makers = new.0 in omega arith) | inr old ↦ h.1 k old ])

channel_makes : (base n present e : ℕ) (makers : List ℕ) (flight : Flight) (c : ClientChannel) → base < length makers → ChannelIs base n present makers flight c → ChannelIs base n present (e ∷ makers) flight c
channel_makes base n present e makers flight Fresh below h = later_makes base n present e makers below h
channel_makes base n present e makers flight (Sought since) below h = later_makes base n present e makers below h
channel_makes base n present e makers flight (RefusedBy status) below h = later_makes base n present e makers below h
channel_makes base n present e makers flight Unanswered below h = later_makes base n present e makers below h
channel_makes base n present e makers flight (Open c l) below h = h
channel_makes base n present e makers flight (Lost c) below h = h

closed_serving : (base : ℕ) (g : Gateway) → g.channel ≡ None → Serves base g ⊎ ((cons g.waiting ≡ []) × (g.bus ≡ [])) → (cons g.waiting ≡ []) × (g.bus ≡ [])
closed_serving base g n (inl h) = absurd (let e : None ≡ Some h.c = sym n ∙ h.is_up in cc)
closed_serving base g n (inr h) = h

makes_last : (last : Last) (g : Gateway) (present : ℕ) (r : List Entry) (items : Items) (older : List (ℕ × List ℕ)) (ch : Channel) (e : ℕ) → g.channel ≡ None → IsNew g.makers r e → LastIs last g present r items older → LastIs last (made_gate g ch e) present r items older
makes_last Never g present r items older ch e none new h = record { none = λ k other c. h.none k other (old_channel g r ch e k other new c); out = h.out; bus = h.bus; quiet = h.quiet; empty = h.empty }
makes_last (Since base n v flight) g present r items older ch e none new h =
    let below : base < length g.makers = has_below g.makers base n h.made in
    record {
      made = inr h.made;
      view = h.view;
      number = h.number;
      late = λ k other c. h.late k other (old_channel g r ch e k other new c);
      low = h.low;
      taken = h.taken;
      olds = h.olds;
      channel_is = channel_makes base n present e g.makers flight (channel r) below h.channel_is;
      con_items = h.con_items;
      serving = inr (closed_serving base g none h.serving);
      flight_is = flight_to base g (made_gate g ch e) (back items g.waiting) (back items g.waiting) v.puts flight refl refl refl (λ z. inr (λ q. let same : length g.makers ≡ base = q in omega (arith, below, same))) h.flight_is;
    }

pub makes_kept : (a : ℕ) (w : World) (r : List Entry) (s : SessionWorld) (ch : Channel) (e : ℕ) → w.tunnel.gateway.channel ≡ None → IsNew w.tunnel.gateway.makers r e → Coupled a w r s → Coupled a (gate_world w (made_gate w.tunnel.gateway ch e)) r s
makes_kept a w r s ch e none new c =
    let g : Gateway = w.tunnel.gateway in
    let p = c.by.pipe in
    record {
      items = c.items;
      older = c.older;
      last = c.last;
      by = record {
        side = record { device = c.by.side.device; same_me = c.by.side.same_me; same_now = c.by.side.same_now; echo = c.by.side.echo };
        pipe = record {
          puts_are = p.puts_are;
          sorted = p.sorted;
          newest = every_map (λ (x : ℕ × Ldata). x.0 ≤ newest_place g.makers) (λ (x : ℕ × Ldata). x.0 ≤ length g.makers) (λ x q. let b : newest_place g.makers ≤ length g.makers = below_newest g.makers in omega arith) c.items p.newest;
          frames = p.frames;
          last_is = makes_last c.last g w.tunnel.present r c.items c.older ch e none new p.last_is;
        };
        coming = c.by.coming;
        flying = c.by.flying;
        pending = c.by.pending;
        joined = c.by.joined;
      };
    }
