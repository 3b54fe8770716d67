-- The gateway's channel goes on, or is closed.
use Rattle.std.proofs.Common.{◌≡◌, ℕ, suc, ◌⊎◌, List, [], ◌∷◌, ◌++◌, take, length, Option, Some, None, refl, sym, ◌∙◌, ap, subst, inl, inr, arith}
use Rattle.knx_model.specs.declared.address.IndAddr.{IndAddr}
use Rattle.knx_model.specs.declared.frames.cemi.Ldata.{Ldata}
use Rattle.line_model.specs.ActedOnce.{in_channel}
use Rattle.line_model.specs.ClientView.{ClientChannel, View, channel}
use Rattle.line_model.specs.Gateway.{Channel, Gateway}
use Rattle.line_model.specs.Record.{Entry}
use Rattle.line_model.specs.Tunnel.{with_gateway}
use Rattle.line_model.specs.World.{World, me}
use Rattle.session_law.specs.World.{World as SessionWorld, Message}
use Rattle.session_law.specs.Device.{drops}
use Rattle.session_law.specs.Events.{Drops}
use Rattle.tunnel_law.proofs.Inside.{Every}
use Rattle.line_law.proofs.Queue.{Items, messages, messages_append, cons, cons_append, back, back_none, take_front, none_front}
use Rattle.line_law.proofs.Coupled.{IsTold, Stage, Waits, OnBus, Told, Gone, Flight, Landed, Flies, NotServing, Serves, FliesSo, FlightIs, Last, Never, Since, ChannelIs, JoinedIs, NeverIs, LastIs, FlyFor, InFlight, CoupledBy, Coupled, Goes}
use Rattle.line_law.proofs.Owned.{every_front}
use Rattle.line_law.proofs.OnBus.{goes_one, channel_flies}

-- ---- the gateway is another, and the tunnel as it was

abbrev pub gate_world : World → Gateway → World
gate_world w g = record { tunnel = with_gateway w.tunnel g; devices = w.devices; echo = w.echo }

-- the frame in flight, where the gateway acted on the same, and has the same for the bus
pub flight_to : (base : ℕ) (g n : Gateway) (q k : List Ldata) (puts : List (List ℕ)) (flight : Flight) → in_channel base n.acted ≡ in_channel base g.acted → n.bus ≡ g.bus → cons k ≡ cons q → (NotServing base g → NotServing base n)
    → FlightIs base g q puts flight → FlightIs base n k puts flight
flight_to base g n q k puts Landed a b c f h = (a ∙ h.0, b ∙ h.1, c ∙ h.2)
flight_to base g n q k puts (Flies x Waits) a b c f h = record { octets = h.octets; before = h.before; newest = h.newest; reads = h.reads; request = h.request; stage_is = (a ∙ h.stage_is.0, b ∙ h.stage_is.1, c ∙ h.stage_is.2) }
flight_to base g n q k puts (Flies x OnBus) a b c f h = record { octets = h.octets; before = h.before; newest = h.newest; reads = h.reads; request = h.request; stage_is = (a ∙ h.stage_is.0, b ∙ h.stage_is.1, c ∙ h.stage_is.2) }
flight_to base g n q k puts (Flies x Told) a b c f h =
    record { octets = h.octets; before = h.before; newest = h.newest; reads = h.reads; request = h.request; stage_is = (a ∙ h.stage_is.0, b ∙ h.stage_is.1, h.stage_is.2, c ∙ h.stage_is.3, h.stage_is.4, h.stage_is.5, h.stage_is.6) }
flight_to base g n q k puts (Flies x Gone) a b c f h = record { octets = h.octets; before = h.before; newest = h.newest; reads = h.reads; request = h.request; stage_is = (f h.stage_is.0, b ∙ h.stage_is.1, c ∙ h.stage_is.2) }

-- ---- its channel goes on

-- both are open or both aren't
abbrev pub SameOpen : Option Channel → Option Channel → Type 0
SameOpen None None = Unit {0}
SameOpen (Some c) (Some d) = Unit {0}
SameOpen _ _ = ⊥

pub stays_open : (o p : Option Channel) (c : Channel) → SameOpen o p → o ≡ Some c → (d : Channel) × (p ≡ Some d)
stays_open None p c h e = absurd (cc)
stays_open (Some x) None c h e = absurd h
stays_open (Some x) (Some d) c h e = (d, refl)

pub stays_none : (o p : Option Channel) → SameOpen o p → o ≡ None → p ≡ None
stays_none None None h e = refl
stays_none None (Some d) h e = absurd h
stays_none (Some x) p h e = absurd (cc)

abbrev pub with_channel : Gateway → Option Channel → Gateway
with_channel g o = record g { channel = o }

pub channel_serving : (base : ℕ) (g : Gateway) (o : Option Channel) → SameOpen g.channel o → Serves base g ⊎ ((cons g.waiting ≡ []) × (g.bus ≡ [])) → Serves base (with_channel g o) ⊎ ((cons g.waiting ≡ []) × (g.bus ≡ []))
channel_serving base g o h (inl s) = let d = stays_open g.channel o s.c h s.is_up in inl (record { place = s.place; c = d.0; is_up = d.1 })
channel_serving base g o h (inr q) = inr q

pub channel_last : (last : Last) (g : Gateway) (present : ℕ) (r : List Entry) (items : Items) (older : List (ℕ × List ℕ)) (o : Option Channel) → SameOpen g.channel o → LastIs last g present r items older → LastIs last (with_channel g o) present r items older
channel_last Never g present r items older o s h =
    record { none = λ k other c. h.none k other (record { endpoint = c.endpoint; made_by = c.made_by; view = c.view; number = c.number }); out = h.out; bus = h.bus; quiet = h.quiet; empty = h.empty }
channel_last (Since base e v flight) g present r items older o s h =
    record {
      made = h.made;
      view = h.view;
      number = h.number;
      late = λ k other c. h.late k other (record { endpoint = c.endpoint; made_by = c.made_by; view = c.view; number = c.number });
      low = h.low;
      taken = h.taken;
      olds = h.olds;
      channel_is = h.channel_is;
      con_items = h.con_items;
      serving = channel_serving base g o s h.serving;
      flight_is = flight_to base g (with_channel g o) (back items g.waiting) (back items g.waiting) v.puts flight refl refl refl (λ z. elim z [ inl n ↦ inl (stays_none g.channel o s n) | inr n ↦ inr n ]) h.flight_is;
    }

pub channel_kept : (a : ℕ) (w : World) (r : List Entry) (s : SessionWorld) (o : Option Channel) → SameOpen w.tunnel.gateway.channel o → Coupled a w r s → Coupled a (gate_world w (with_channel w.tunnel.gateway o)) r s
channel_kept a w r s o h c =
    let p = c.by.pipe in
    record {
      items = c.items;
      older = c.older;
      last = c.last;
      by = record {
        side = record { device = c.by.side.device; same_me = c.by.side.same_me; same_now = c.by.side.same_now; echo = c.by.side.echo };
        pipe = record { puts_are = p.puts_are; sorted = p.sorted; newest = p.newest; frames = p.frames; last_is = channel_last c.last w.tunnel.gateway w.tunnel.present r c.items c.older o h p.last_is };
        coming = c.by.coming;
        flying = c.by.flying;
        pending = c.by.pending;
        joined = c.by.joined;
      };
    }

-- ---- it closes its channel

abbrev pub shut_gate : Gateway → Gateway
shut_gate g = record g { channel = None; bus = []; waiting = [] }

pub front_cons : (items : Items) (waiting : List Ldata) → cons (back items waiting) ≡ [] → cons (back items []) ≡ []
front_cons items waiting h = none_front (back items []) waiting (ap cons (sym (back_none items waiting)) ∙ h)

-- what the closing leaves of the frame in flight
pub record ShutFlight (base : ℕ) (g : Gateway) (items : Items) (puts : List (List ℕ)) (flight : Flight) : Type 0 where
  pub after : Flight
  pub is : FlightIs base (shut_gate g) (back items []) puts after
  pub same : (a : ℕ) (e : ℕ) (v : View) → InFlight a (Since base e v flight) → InFlight a (Since base e v after)
  pub flies : (a : ℕ) (address : IndAddr) (e : ℕ) (v : View) (flying : Option Ldata) → FlyFor a address (Since base e v after) flying
  pub channel : (e present : ℕ) (makers : List ℕ) (c : ClientChannel) → ChannelIs base e present makers flight c → ChannelIs base e present makers after c

pub gone : (base : ℕ) (g : Gateway) (items : Items) (puts : List (List ℕ)) (f : Ldata) (stage : Stage) → FliesSo base g (back items g.waiting) puts f stage → cons (back items []) ≡ [] → ShutFlight base g items puts (Flies f stage)
gone base g items puts f stage h q =
    record {
      after = Flies f Gone;
      is = record { octets = h.octets; before = h.before; newest = h.newest; reads = h.reads; request = h.request; stage_is = (inl refl, refl, q) };
      same = λ a e v x. x;
      flies = λ a address e v flying. tt;
      channel = λ e present makers c x. channel_flies base e present makers f stage Gone c x;
    }

pub one_or_none : (l k : List Ldata) (con : Ldata) → l ++ k ≡ con ∷ [] → (l ≡ []) ⊎ (l ≡ con ∷ [])
one_or_none [] k con e = inl refl
one_or_none (x ∷ []) k con e = inr (let h : x ≡ con = cc in ap (λ z. z ∷ []) h)
one_or_none (x ∷ y ∷ l) k con e = absurd (let h : suc (suc (length (l ++ k))) ≡ 1 = ap (λ (z : List Ldata). length z) e in omega arith)

pub shut_flight : (base : ℕ) (g : Gateway) (items : Items) (puts : List (List ℕ)) (flight : Flight) → FlightIs base g (back items g.waiting) puts flight → ShutFlight base g items puts flight
shut_flight base g items puts Landed h =
    record { after = Landed; is = (h.0, refl, front_cons items g.waiting h.2); same = λ a e v x. x; flies = λ a address e v flying. tt; channel = λ e present makers c x. x }
shut_flight base g items puts (Flies f Waits) h = gone base g items puts f Waits h (front_cons items g.waiting h.stage_is.2)
shut_flight base g items puts (Flies f OnBus) h = gone base g items puts f OnBus h (front_cons items g.waiting h.stage_is.2)
shut_flight base g items puts (Flies f Gone) h = gone base g items puts f Gone h (front_cons items g.waiting h.stage_is.2)
shut_flight base g items puts (Flies f Told) h =
    let con : Ldata = h.stage_is.2 in
    let parts : cons (back items []) ++ cons g.waiting ≡ con ∷ [] = sym (cons_append (back items []) g.waiting) ∙ ap cons (sym (back_none items g.waiting)) ∙ h.stage_is.3 in
    elim (one_or_none (cons (back items [])) (cons g.waiting) con parts) [
      | inl none ↦ gone base g items puts f Told h none
      | inr one ↦
          record {
            after = Flies f Told;
            is = record { octets = h.octets; before = h.before; newest = h.newest; reads = h.reads; request = h.request; stage_is = (h.stage_is.0, refl, con, one, h.stage_is.4, h.stage_is.5, h.stage_is.6) };
            same = λ a e v x. x;
            flies = λ a address e v flying. tt;
            channel = λ e present makers c x. x;
          }
    ]

-- the session gets so many messages at most
pub shut_coming : (a : ℕ) (items : Items) (waiting : List Ldata) (coming : List Message) → coming ≡ messages a (back items waiting) → take (length (messages a (back items []))) coming ≡ messages a (back items [])
shut_coming a items waiting coming e =
    ap (take (length (messages a (back items [])))) (e ∙ ap (messages a) (back_none items waiting) ∙ messages_append a (back items []) waiting)
    ∙ take_front (messages a (back items [])) (messages a waiting)

pub shut_told : (items : Items) (waiting : List Ldata) → Every IsTold (back items waiting) → Every IsTold (back items [])
shut_told items waiting h = every_front IsTold (back items []) waiting (subst (Every IsTold) (back_none items waiting) h)

pub shut_by : (a : ℕ) (w : World) (r : List Entry) (s : SessionWorld) (items : Items) (older : List (ℕ × List ℕ)) (last : Last) → CoupledBy a w r s items older last
    → Coupled a (gate_world w (shut_gate w.tunnel.gateway)) r (drops s (length (messages a (back items []))))
shut_by a w r s items older Never h =
    let g : Gateway = w.tunnel.gateway in
    let p = h.pipe in
    let n : NeverIs g r items older = p.last_is in
    record {
      items = items;
      older = older;
      last = Never;
      by = record {
        side = record { device = h.side.device; same_me = h.side.same_me; same_now = h.side.same_now; echo = h.side.echo };
        pipe = record {
          puts_are = p.puts_are;
          sorted = p.sorted;
          newest = p.newest;
          frames = shut_told items g.waiting p.frames;
          last_is = record { none = λ k other c. n.none k other (record { endpoint = c.endpoint; made_by = c.made_by; view = c.view; number = c.number }); out = n.out; bus = refl; quiet = front_cons items g.waiting n.quiet; empty = n.empty };
        };
        coming = shut_coming a items g.waiting s.coming h.coming;
        flying = tt;
        pending = h.pending;
        joined = h.joined;
      };
    }
shut_by a w r s items older (Since base e v flight) h =
    let g : Gateway = w.tunnel.gateway in
    let p = h.pipe in
    let j : JoinedIs base e v flight g w.tunnel.present r items older = p.last_is in
    let f : ShutFlight base g items v.puts flight = shut_flight base g items v.puts flight j.flight_is in
    record {
      items = items;
      older = older;
      last = Since base e v f.after;
      by = record {
        side = record { device = h.side.device; same_me = h.side.same_me; same_now = h.side.same_now; echo = h.side.echo };
        pipe = record {
          puts_are = p.puts_are;
          sorted = p.sorted;
          newest = p.newest;
          frames = shut_told items g.waiting p.frames;
          last_is = record {
            made = j.made;
            view = j.view;
            number = j.number;
            late = λ k other c. j.late k other (record { endpoint = c.endpoint; made_by = c.made_by; view = c.view; number = c.number });
            low = j.low;
            taken = j.taken;
            olds = j.olds;
            channel_is = f.channel e w.tunnel.present g.makers (channel r) j.channel_is;
            con_items = j.con_items;
            serving = inr (refl, refl);
            flight_is = f.is;
          };
        };
        coming = shut_coming a items g.waiting s.coming h.coming;
        flying = f.flies a (me w) e v None;
        pending = λ x y. f.same a e v (h.pending x y);
        joined = h.joined;
      };
    }

pub shut_kept : (a : ℕ) (w : World) (r : List Entry) (s : SessionWorld) → Coupled a w r s → Goes a (gate_world w (shut_gate w.tunnel.gateway)) r s
shut_kept a w r s c =
    goes_one a (gate_world w (shut_gate w.tunnel.gateway)) r s (Drops (length (messages a (back c.items [])))) tt tt (shut_by a w r s c.items c.older c.last c.by)
