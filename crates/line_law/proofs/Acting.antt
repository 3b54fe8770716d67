-- The gateway acts on a request, and puts its oldest frame for the client.
use Rattle.std.proofs.Common.{◌≡◌, ℕ, suc, ◌+◌, ◌<◌, ◌≤◌, ◌⊎◌, List, [], ◌∷◌, ◌++◌, length, true, Some, None, refl, sym, ◌∙◌, ap, subst, inl, inr, length-append, arith}
use Rattle.std.specs.Prelude.{◌==◌}
use Rattle.knx_model.specs.declared.frames.cemi.Ldata.{Ldata}
use Rattle.line_model.specs.ActedOnce.{in_channel, IsPrefix, IsChannelOf}
use Rattle.line_model.specs.ClientView.{View, channel}
use Rattle.line_model.specs.Gateway.{Channel, Gateway, place, to_bus}
use Rattle.line_model.specs.Reading.{ldata_in, is_req}
use Rattle.line_model.specs.Record.{Entry}
use Rattle.line_model.specs.World.{World}
use Rattle.session_law.specs.World.{World as SessionWorld}
use Rattle.line_law.proofs.Queue.{Items, back}
use Rattle.line_law.proofs.Coupled.{Waits, OnBus, Told, Gone, Flight, Landed, Flies, FliesSo, Last, Never, Since, JoinedIs, CoupledBy, Coupled}
use Rattle.line_law.proofs.OnBus.{channel_flies}
use Rattle.line_law.proofs.Gates.{newest_least}
use Rattle.line_law.proofs.GateCloses.{gate_world}

-- ---- it acts on a request

abbrev pub acted_gate : Gateway → Channel → List ℕ → Gateway
acted_gate g ch frame = record g { channel = Some ch; bus = g.bus ++ to_bus (ldata_in frame); acted = (place g, frame) ∷ g.acted }

-- what the law of the tunnel says of this
pub record UpOnce (g : Gateway) (r : List Entry) : Type 0 where
  pub up : (k : ℕ) (v : View) → IsChannelOf g r k v → IsPrefix (in_channel k g.acted) v.puts
  pub alone : (k : ℕ) → ((v : View) → ¬ IsChannelOf g r k v) → in_channel k g.acted ≡ []

pub in_same : (k : ℕ) (x : List ℕ) (l : List (ℕ × List ℕ)) → in_channel k ((k, x) ∷ l) ≡ x ∷ in_channel k l
in_same k x l = let e : (k == k) ≡ true = grind arith in rw e refl

not_alone : (k : ℕ) (x : List ℕ) (l : List (ℕ × List ℕ)) → in_channel k ((k, x) ∷ l) ≡ [] → ⊥
not_alone k x l e = let h : x ∷ in_channel k l ≡ [] = sym (in_same k x l) ∙ e in cc

one_put : (newer : List (List ℕ)) (x : List ℕ) (l : List (List ℕ)) (y : List ℕ) → y ∷ l ≡ newer ++ x ∷ l → x ≡ y
one_put [] x l y e = cc
one_put (z ∷ newer) x l y e =
    absurd (let h : suc (length l) ≡ suc (length newer + suc (length l)) = ap (λ (q : List (List ℕ)). length q) e ∙ ap (λ n. suc n) (length-append newer (x ∷ l)) in omega arith)

no_put : (newer : List (List ℕ)) (x : List ℕ) (l : List (List ℕ)) → l ≡ newer ++ x ∷ l → ⊥
no_put newer x l e = let h : length l ≡ length newer + suc (length l) = ap (λ (q : List (List ℕ)). length q) e ∙ length-append newer (x ∷ l) in omega arith

req_bus : (f : Ldata) → is_req f.code ≡ true → to_bus (Some f) ≡ f ∷ []
req_bus f h = rw h refl

which : (n base : ℕ) → base ≤ n → (n ≡ base) ⊎ (base < n)
which n base h = grind (arith, h)

-- in the channel that the client got last
acts_here : (a : ℕ) (w : World) (r : List Entry) (s : SessionWorld) (items : Items) (older : List (ℕ × List ℕ)) (base e : ℕ) (v : View) (flight : Flight) (c ch : Channel) (frame : List ℕ) → w.tunnel.gateway.channel ≡ Some c → place w.tunnel.gateway ≡ base
    → IsPrefix (frame ∷ in_channel base w.tunnel.gateway.acted) v.puts → CoupledBy a w r s items older (Since base e v flight) → Coupled a (gate_world w (acted_gate w.tunnel.gateway ch frame)) r s
acts_here a w r s items older base e v Landed c ch frame is at up h =
    absurd (no_put up.0 frame v.puts (up.1 ∙ ap (λ z. up.0 ++ frame ∷ z) h.pipe.last_is.flight_is.0))
acts_here a w r s items older base e v (Flies f OnBus) c ch frame is at up h =
    absurd (no_put up.0 frame v.puts (up.1 ∙ ap (λ z. up.0 ++ frame ∷ z) h.pipe.last_is.flight_is.stage_is.0))
acts_here a w r s items older base e v (Flies f Told) c ch frame is at up h =
    absurd (no_put up.0 frame v.puts (up.1 ∙ ap (λ z. up.0 ++ frame ∷ z) h.pipe.last_is.flight_is.stage_is.0))
acts_here a w r s items older base e v (Flies f Gone) c ch frame is at up h =
    absurd (elim h.pipe.last_is.flight_is.stage_is.0 [ inl none ↦ (let q : None ≡ Some c = sym none ∙ is in cc) | inr other ↦ other at ])
acts_here a w r s items older base e v (Flies f Waits) c ch frame is at up h =
    let g : Gateway = w.tunnel.gateway in
    let p = h.pipe in
    let j : JoinedIs base e v (Flies f Waits) g w.tunnel.present r items older = p.last_is in
    let fl : FliesSo base g (back items g.waiting) v.puts f Waits = j.flight_is in
    let same : frame ≡ fl.octets = one_put up.0 frame fl.before fl.octets (sym fl.newest ∙ up.1 ∙ ap (λ z. up.0 ++ frame ∷ z) fl.stage_is.0) in
    let acted : in_channel base ((place g, frame) ∷ g.acted) ≡ v.puts
    = ap (λ z. in_channel base ((z, frame) ∷ g.acted)) at ∙ in_same base frame g.acted ∙ ap (λ z. z ∷ in_channel base g.acted) same ∙ ap (λ z. fl.octets ∷ z) fl.stage_is.0 ∙ sym fl.newest in
    let bus : g.bus ++ to_bus (ldata_in frame) ≡ f ∷ [] = ap (λ z. z ++ to_bus (ldata_in frame)) fl.stage_is.1 ∙ ap (λ z. to_bus (ldata_in z)) same ∙ ap to_bus fl.reads ∙ req_bus f fl.request in
    record {
      items = items;
      older = older;
      last = Since base e v (Flies f OnBus);
      by = record {
        side = record { device = h.side.device; same_me = h.side.same_me; same_now = h.side.same_now; echo = h.side.echo };
        pipe = record {
          puts_are = p.puts_are;
          sorted = p.sorted;
          newest = p.newest;
          frames = p.frames;
          last_is = record {
            made = j.made;
            view = j.view;
            number = j.number;
            late = λ k other q. j.late k other (record { endpoint = q.endpoint; made_by = q.made_by; view = q.view; number = q.number });
            low = j.low;
            taken = j.taken;
            olds = j.olds;
            channel_is = channel_flies base e w.tunnel.present g.makers f Waits OnBus (channel r) j.channel_is;
            con_items = j.con_items;
            serving = inl (record { place = at; c = ch; is_up = refl });
            flight_is = record { octets = fl.octets; before = fl.before; newest = fl.newest; reads = fl.reads; request = fl.request; stage_is = (acted, bus, fl.stage_is.2) };
          };
        };
        coming = h.coming;
        flying = h.flying;
        pending = h.pending;
        joined = h.joined;
      };
    }

acts_by : (a : ℕ) (w : World) (r : List Entry) (s : SessionWorld) (items : Items) (older : List (ℕ × List ℕ)) (last : Last) (c ch : Channel) (frame : List ℕ) → w.tunnel.gateway.channel ≡ Some c → UpOnce (acted_gate w.tunnel.gateway ch frame) r
    → CoupledBy a w r s items older last → Coupled a (gate_world w (acted_gate w.tunnel.gateway ch frame)) r s
acts_by a w r s items older Never c ch frame is once h =
    let g : Gateway = w.tunnel.gateway in
    absurd (not_alone (place g) frame g.acted (once.alone (place g) (λ v q. h.pipe.last_is.none (place g) v (record { endpoint = q.endpoint; made_by = q.made_by; view = q.view; number = q.number }))))
acts_by a w r s items older (Since base e v flight) c ch frame is once h =
    let g : Gateway = w.tunnel.gateway in
    let j : JoinedIs base e v flight g w.tunnel.present r items older = h.pipe.last_is in
    elim (which (place g) base (newest_least g.makers base e j.made)) [
      | inl at ↦
          (let up : IsPrefix (in_channel base ((place g, frame) ∷ g.acted)) v.puts = once.up base v (record { endpoint = e; made_by = j.made; view = j.view; number = j.number }) in
          let here : in_channel base ((place g, frame) ∷ g.acted) ≡ frame ∷ in_channel base g.acted = ap (λ z. in_channel base ((z, frame) ∷ g.acted)) at ∙ in_same base frame g.acted in
          acts_here a w r s items older base e v flight c ch frame is at (subst (λ z. IsPrefix z v.puts) here up) h)
      | inr later ↦
          absurd (not_alone (place g) frame g.acted (once.alone (place g) (λ other q.
          let most : place g ≤ base = j.late (place g) other (record { endpoint = q.endpoint; made_by = q.made_by; view = q.view; number = q.number }) in
          omega (arith, most, later))))
    ]

pub acts_kept : (a : ℕ) (w : World) (r : List Entry) (s : SessionWorld) (c ch : Channel) (frame : List ℕ) → w.tunnel.gateway.channel ≡ Some c → UpOnce (acted_gate w.tunnel.gateway ch frame) r → Coupled a w r s → Coupled a (gate_world w (acted_gate w.tunnel.gateway ch frame)) r s
acts_kept a w r s c ch frame is once h = acts_by a w r s h.items h.older h.last c ch frame is once h.by
