-- The gateway puts its oldest frame for the client: what is on its way to the client stays the same.
use Rattle.std.proofs.Common.{◌≡◌, ℕ, ◌≤◌, ◌⊎◌, List, [], ◌∷◌, drop, Bool, true, false, cond, Option, Some, None, refl, sym, ◌∙◌, ap, subst, inl, inr, arith}
use Rattle.knx_model.specs.declared.frames.cemi.Ldata.{Ldata}
use Rattle.knx_model.specs.Cemi.{Written as cemi_octets}
use Rattle.line_model.specs.Gateway.{Channel, Gateway, newest_place, place, put_after, next_put, is_put}
use Rattle.line_model.specs.Reading.{is_con}
use Rattle.line_model.specs.Record.{Entry}
use Rattle.line_model.specs.Tunnel.{Tunnel, puts, puts_next}
use Rattle.line_model.specs.World.{World}
use Rattle.session_law.specs.World.{World as SessionWorld}
use Rattle.tunnel_law.proofs.Inside.{Every}
use Rattle.line_law.proofs.Queue.{Items, messages, cons, back}
use Rattle.line_law.proofs.Coupled.{IsTold, Serves, Last, Never, Since, ConAt, LastIs, Coupled}
use Rattle.line_law.proofs.Gates.{newest_least}
use Rattle.line_law.proofs.GateCloses.{gate_world, flight_to}

-- the gateway after it put the frame
abbrev put_gate : Gateway → Channel → Ldata → ℕ → Gateway
put_gate g c f t = put_after g c f (drop 1 g.waiting) t

waiting_same : (waiting : List Ldata) (f : Ldata) (rest : List Ldata) → waiting ≡ f ∷ rest → f ∷ drop 1 waiting ≡ waiting
waiting_same waiting f rest e = ap (λ z. f ∷ drop 1 z) e ∙ sym e

back_same : (items : Items) (place : ℕ) (waiting : List Ldata) (f : Ldata) (rest : List Ldata) → waiting ≡ f ∷ rest → back ((place, f) ∷ items) (drop 1 waiting) ≡ back items waiting
back_same items place waiting f rest e = ap (back items) (waiting_same waiting f rest e)

con_first : (f : Ldata) (rest : List Ldata) → is_con f.code ≡ true → cons (f ∷ rest) ≡ [] → ⊥
con_first f rest h e = let q : f ∷ cons rest ≡ [] = sym (let z : cons (f ∷ rest) ≡ f ∷ cons rest = rw h refl in z) ∙ e in cc

-- a confirmation is of the channel that the client got last
con_place : (base : ℕ) (g : Gateway) (f : Ldata) (rest : List Ldata) → g.waiting ≡ f ∷ rest → Serves base g ⊎ ((cons g.waiting ≡ []) × (g.bus ≡ [])) → ConAt base (place g, f)
con_place base g f rest e (inl s) = λ h. s.place
con_place base g f rest e (inr q) = λ h. absurd (con_first f rest h (ap cons (sym e) ∙ q.0))

rest_none : (waiting : List Ldata) (f : Ldata) (rest : List Ldata) → waiting ≡ f ∷ rest → cons waiting ≡ [] → cons (drop 1 waiting) ≡ []
rest_none waiting f rest e h = ap (λ z. cons (drop 1 z)) e ∙ by_code (is_con f.code) (ap cons (sym e) ∙ h) where
  by_code : (b : Bool) → ◌≡◌ {A = List Ldata} (cond b (f ∷ cons rest) (cons rest)) [] → cons rest ≡ []
  by_code true q = absurd (let z : f ∷ cons rest ≡ [] = q in cc)
  by_code false q = q

put_serving : (base : ℕ) (g : Gateway) (c : Channel) (f : Ldata) (rest : List Ldata) (t : ℕ) → g.waiting ≡ f ∷ rest → Serves base g ⊎ ((cons g.waiting ≡ []) × (g.bus ≡ [])) → Serves base (put_gate g c f t) ⊎ ((cons (drop 1 g.waiting) ≡ []) × (g.bus ≡ []))
put_serving base g c f rest t e (inl s) = inl (record { place = s.place; c = _; is_up = refl })
put_serving base g c f rest t e (inr q) = inr (rest_none g.waiting f rest e q.0, q.1)

put_last : (last : Last) (g : Gateway) (present : ℕ) (r : List Entry) (items : Items) (older : List (ℕ × List ℕ)) (c : Channel) (f : Ldata) (rest : List Ldata) (t : ℕ) → g.channel ≡ Some c → g.waiting ≡ f ∷ rest → LastIs last g present r items older
    → LastIs last (put_gate g c f t) present r ((place g, f) ∷ items) older
put_last Never g present r items older c f rest t is e h =
    record { none = λ k other q. h.none k other (record { endpoint = q.endpoint; made_by = q.made_by; view = q.view; number = q.number }); out = h.out; bus = h.bus; quiet = ap cons (back_same items (place g) g.waiting f rest e) ∙ h.quiet; empty = h.empty }
put_last (Since base n v flight) g present r items older c f rest t is e h =
    record {
      made = h.made;
      view = h.view;
      number = h.number;
      late = λ k other q. h.late k other (record { endpoint = q.endpoint; made_by = q.made_by; view = q.view; number = q.number });
      low = (newest_least g.makers base n h.made, h.low);
      taken = h.taken;
      olds = h.olds;
      channel_is = h.channel_is;
      con_items = (con_place base g f rest e h.serving, h.con_items);
      serving = put_serving base g c f rest t e h.serving;
      flight_is = flight_to base g (put_gate g c f t) (back items g.waiting) (back ((place g, f) ∷ items) (drop 1 g.waiting)) v.puts flight refl refl (ap cons (back_same items (place g) g.waiting f rest e))
          (λ z. elim z [ inl none ↦ absurd (let q : None ≡ Some c = sym none ∙ is in cc) | inr other ↦ inr other ]) h.flight_is;
    }

put_kept : (a : ℕ) (w : World) (r : List Entry) (s : SessionWorld) (c : Channel) (f : Ldata) (rest : List Ldata) (t : ℕ) → w.tunnel.gateway.channel ≡ Some c → w.tunnel.gateway.waiting ≡ f ∷ rest → Coupled a w r s → Coupled a (gate_world w (put_gate w.tunnel.gateway c f t)) r s
put_kept a w r s c f rest t is e h =
    let g : Gateway = w.tunnel.gateway in
    let p = h.by.pipe in
    record {
      items = (place g, f) ∷ h.items;
      older = h.older;
      last = h.last;
      by = record {
        side = record { device = h.by.side.device; same_me = h.by.side.same_me; same_now = h.by.side.same_now; echo = h.by.side.echo };
        pipe = record {
          puts_are = ap (λ z. (place g, cemi_octets f) ∷ z) p.puts_are;
          sorted = (p.newest, p.sorted);
          newest = (same_place (newest_place g.makers), p.newest);
          frames = subst (Every IsTold) (sym (back_same h.items (place g) g.waiting f rest e)) p.frames;
          last_is = put_last h.last g w.tunnel.present r h.items h.older c f rest t is e p.last_is;
        };
        coming = h.by.coming ∙ ap (messages a) (sym (back_same h.items (place g) g.waiting f rest e));
        flying = h.by.flying;
        pending = h.by.pending;
        joined = h.by.joined;
      };
    }
  where
    same_place : (n : ℕ) → n ≤ n
    same_place n = omega arith

-- ---- after each event

-- the session sees neither the network nor anything else of the tunnel
pub tunnel_kept : (a : ℕ) (w : World) (r : List Entry) (s : SessionWorld) (t : Tunnel) → t.gateway ≡ w.tunnel.gateway → t.present ≡ w.tunnel.present → t.now ≡ w.tunnel.now → Coupled a w r s → Coupled a (record { tunnel = t; devices = w.devices; echo = w.echo }) r s
tunnel_kept a w r s t g p n h =
    let P : Gateway → Type 0 = λ z. Coupled a (record { tunnel = record { present = t.present; network = t.network; gateway = z; now = t.now }; devices = w.devices; echo = w.echo }) r s in
    let Q : ℕ → Type 0 = λ z. Coupled a (record { tunnel = record { present = z; network = t.network; gateway = w.tunnel.gateway; now = t.now }; devices = w.devices; echo = w.echo }) r s in
    let R : ℕ → Type 0 = λ z. Coupled a (record { tunnel = record { present = w.tunnel.present; network = t.network; gateway = w.tunnel.gateway; now = z }; devices = w.devices; echo = w.echo }) r s in
    subst P (sym g) (subst Q (sym p) (subst R (sym n) (record {
      items = h.items;
      older = h.older;
      last = h.last;
      by = record {
        side = record { device = h.by.side.device; same_me = h.by.side.same_me; same_now = h.by.side.same_now; echo = h.by.side.echo };
        pipe = h.by.pipe;
        coming = h.by.coming;
        flying = h.by.flying;
        pending = h.by.pending;
        joined = h.by.joined;
      };
    })))

next_by : (a : ℕ) (w : World) (r : List Entry) (s : SessionWorld) (o : Option Channel) (waiting : List Ldata) → w.tunnel.gateway.channel ≡ o → w.tunnel.gateway.waiting ≡ waiting → Coupled a w r s
    → Coupled a (record { tunnel = puts w.tunnel (next_put o waiting); devices = w.devices; echo = w.echo }) r s
next_by a w r s None waiting is e h = h
next_by a w r s (Some c) [] is e h = h
next_by a w r s (Some c) (f ∷ rest) is e h = by_put (is_put c.outstanding) where
  by_put : (b : Bool) → Coupled a (record { tunnel = puts w.tunnel (cond b None (Some (c, f))); devices = w.devices; echo = w.echo }) r s
  by_put true = h
  by_put false = tunnel_kept a (gate_world w (put_gate w.tunnel.gateway c f w.tunnel.now)) r s (puts w.tunnel (Some (c, f))) refl refl refl (put_kept a w r s c f rest w.tunnel.now is e h)

pub next_kept : (a : ℕ) (w : World) (r : List Entry) (s : SessionWorld) → Coupled a w r s → Coupled a (record { tunnel = puts_next w.tunnel; devices = w.devices; echo = w.echo }) r s
next_kept a w r s h = next_by a w r s w.tunnel.gateway.channel w.tunnel.gateway.waiting refl refl h
