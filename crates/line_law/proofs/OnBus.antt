-- A frame goes over the bus: what each session sees of it.
use Rattle.std.proofs.Common.{◌≡◌, ℕ, ◌⊎◌, List, [], ◌∷◌, ◌++◌, drop, Bool, true, false, not, ◌&&◌, Option, Some, None, refl, sym, ◌∙◌, ap, subst, inl, inr, append-nil}
use Rattle.std.specs.Prelude.{◌==◌}
use Rattle.knx_model.specs.declared.frames.cemi.Ldata.{Ldata}
use Rattle.knx_model.specs.declared.frames.cemi.LdataCode.TheVariants.{Con}
use Rattle.knx_model.specs.Cemi.{Written as cemi_octets}
use Rattle.knx_model.specs.DeviceFrames.{Outcome, Whole, took_of, is_taken, takes}
use Rattle.line_model.specs.ClientView.{ClientChannel, Fresh, Sought, RefusedBy, Unanswered, Open, Lost, View, channel}
use Rattle.line_model.specs.Gateway.{Gateway}
use Rattle.line_model.specs.Reading.{ldata_in, is_con}
use Rattle.line_model.specs.Record.{Entry}
use Rattle.line_model.specs.Tunnel.{with_gateway, carried as carried_by}
use Rattle.line_model.specs.World.{World, me, now, Devices, on_bus, is_confirmed, confirmation}
use Rattle.session_law.specs.World.{World as SessionWorld, Con as Confirms}
use Rattle.session_law.specs.Device.{carries, carries_lost, elsewhere, gets}
use Rattle.session_law.specs.Events.{Event as SessionEvent, Bus as Carries, BusLost, Group, Elsewhere, step, MayHappen}
use Rattle.tunnel_law.proofs.Inside.{Every}
use Rattle.line_law.proofs.Queue.{Items, is_its, message, messages, messages_append, cons, cons_append, back, back_more}
use Rattle.line_law.proofs.Coupled.{IsTold, Stage, Waits, OnBus, Told, Gone, Landed, Flies, Serves, FliesSo, Last, Never, Since, ChannelIs, OpenIs, JoinedIs, LastIs, Pipe, DeviceSide, PendFor, CoupledBy, Coupled, IsBus, Goes}
use Rattle.line_law.proofs.Owned.{every_append}
use Rattle.line_law.proofs.ReadBack.{written_in, read_range}

-- ---- session events

pub goes_none : (a : ℕ) (w : World) (r : List Entry) (s : SessionWorld) → Coupled a w r s → Goes a w r s
goes_none a w r s c = record { more = []; legal = tt; silent = tt; coupled = c }

pub goes_one : (a : ℕ) (w : World) (r : List Entry) (s : SessionWorld) (e : SessionEvent) → MayHappen s e → IsBus e → Coupled a w r (step s e) → Goes a w r s
goes_one a w r s e may silent c = record { more = e ∷ []; legal = (may, tt); silent = (silent, tt); coupled = c }

-- ---- a frame that waits for the bus is that in flight

abbrev pub IsOnBus : Last → Ldata → Type 0
IsOnBus (Since base e v (Flies f OnBus)) x = f ≡ x
IsOnBus _ x = ⊥

pub never_full : (bus : List Ldata) (x : Ldata) (rest : List Ldata) → bus ≡ [] → bus ≡ x ∷ rest → ⊥
never_full bus x rest h g = let e : [] ≡ x ∷ rest = sym h ∙ g in cc

pub on_bus_now : (last : Last) (g : Gateway) (present : ℕ) (r : List Entry) (items : Items) (older : List (ℕ × List ℕ)) (x : Ldata) (rest : List Ldata) → LastIs last g present r items older → g.bus ≡ x ∷ rest → IsOnBus last x
on_bus_now Never g present r items older x rest h e = absurd (never_full g.bus x rest h.bus e)
on_bus_now (Since base n v Landed) g present r items older x rest h e = absurd (never_full g.bus x rest h.flight_is.1 e)
on_bus_now (Since base n v (Flies f Waits)) g present r items older x rest h e = absurd (never_full g.bus x rest h.flight_is.stage_is.1 e)
on_bus_now (Since base n v (Flies f OnBus)) g present r items older x rest h e = let same : f ∷ [] ≡ x ∷ rest = sym h.flight_is.stage_is.1 ∙ e in cc
on_bus_now (Since base n v (Flies f Told)) g present r items older x rest h e = absurd (never_full g.bus x rest h.flight_is.stage_is.1 e)
on_bus_now (Since base n v (Flies f Gone)) g present r items older x rest h e = absurd (never_full g.bus x rest h.flight_is.stage_is.1 e)

-- ---- its confirmation waits then

pub channel_flies : (base e present : ℕ) (makers : List ℕ) (f : Ldata) (one other : Stage) (c : ClientChannel) → ChannelIs base e present makers (Flies f one) c → ChannelIs base e present makers (Flies f other) c
channel_flies base e present makers f one other Fresh h = h
channel_flies base e present makers f one other (Sought since) h = h
channel_flies base e present makers f one other (RefusedBy status) h = h
channel_flies base e present makers f one other Unanswered h = h
channel_flies base e present makers f one other (Open c l) h = h
channel_flies base e present makers f one other (Lost c) h = h

-- the confirmation of a frame
pub record ConOf (f con : Ldata) : Type 0 where
  pub code : is_con con.code ≡ true
  pub group : con.group ≡ f.group
  pub destination : con.destination ≡ f.destination
  pub tpdu : con.tpdu ≡ f.tpdu
  pub reads : ldata_in (cemi_octets con) ≡ Some con

pub cons_one : (con : Ldata) → is_con con.code ≡ true → cons (con ∷ []) ≡ con ∷ []
cons_one con h = rw h refl

pub cons_more : (q : List Ldata) (con : Ldata) → cons q ≡ [] → is_con con.code ≡ true → cons (q ++ con ∷ []) ≡ con ∷ []
cons_more q con h c = cons_append q (con ∷ []) ∙ ap (λ z. z ++ cons (con ∷ [])) h ∙ cons_one con c

pub serves_bus : (base : ℕ) (g n : Gateway) (f : Ldata) → g.bus ≡ f ∷ [] → n.makers ≡ g.makers → n.channel ≡ g.channel → Serves base g ⊎ ((cons g.waiting ≡ []) × (g.bus ≡ [])) → Serves base n
serves_bus base g n f e m c (inl h) = record { place = subst (λ (z : List ℕ). Rattle.line_model.specs.Gateway.newest_place z ≡ base) (sym m) h.place; c = h.c; is_up = c ∙ h.is_up }
serves_bus base g n f e m c (inr h) = absurd (never_full g.bus f [] h.1 e)

pub told_pipe : (g : Gateway) (present : ℕ) (r : List Entry) (items : Items) (older : List (ℕ × List ℕ)) (base e : ℕ) (v : View) (f con : Ldata) → ConOf f con → Pipe g present r items older (Since base e v (Flies f OnBus))
    → Pipe (carried_by g con) present r items older (Since base e v (Flies f Told))
told_pipe g present r items older base e v f con is h =
    let j : JoinedIs base e v (Flies f OnBus) g present r items older = h.last_is in
    let fl : FliesSo base g (back items g.waiting) v.puts f OnBus = j.flight_is in
    record {
      puts_are = h.puts_are;
      sorted = h.sorted;
      newest = h.newest;
      frames = subst (Every IsTold) (sym (back_more items g.waiting (con ∷ []))) (every_append IsTold (back items g.waiting) (con ∷ []) h.frames (inr (is.code, is.reads), tt));
      last_is = record {
        made = j.made;
        view = j.view;
        number = j.number;
        late = λ k other c. j.late k other (record { endpoint = c.endpoint; made_by = c.made_by; view = c.view; number = c.number });
        low = j.low;
        taken = j.taken;
        olds = j.olds;
        channel_is = channel_flies base e present g.makers f OnBus Told (channel r) j.channel_is;
        con_items = j.con_items;
        serving = inl (serves_bus base g (carried_by g con) f fl.stage_is.1 refl refl j.serving);
        flight_is = record {
          octets = fl.octets;
          before = fl.before;
          newest = fl.newest;
          reads = fl.reads;
          request = fl.request;
          stage_is = (fl.stage_is.0, ap (λ z. drop 1 z) fl.stage_is.1, con, ap cons (back_more items g.waiting (con ∷ [])) ∙ cons_more (back items g.waiting) con fl.stage_is.2 is.code, is.group, is.destination, is.tpdu);
        };
      };
    }

abbrev pub told_world : World → Ldata → Devices → World
told_world w con devices = record { tunnel = with_gateway w.tunnel (carried_by w.tunnel.gateway con); devices = devices; echo = None }

pub told_kept : (a : ℕ) (w : World) (r : List Entry) (s n : SessionWorld) (items : Items) (older : List (ℕ × List ℕ)) (base e : ℕ) (v : View) (f con : Ldata) (devices : Devices) → ConOf f con → CoupledBy a w r s items older (Since base e v (Flies f OnBus))
    → DeviceSide a (told_world w con devices) n → n.coming ≡ s.coming ++ message a con → n.client ≡ s.client → Coupled a (told_world w con devices) r n
told_kept a w r s n items older base e v f con devices is h side coming client =
    record {
      items = items;
      older = older;
      last = Since base e v (Flies f Told);
      by = record {
        side = side;
        pipe = told_pipe w.tunnel.gateway w.tunnel.present r items older base e v f con is h.pipe;
        coming = coming ∙ ap (λ z. z ++ message a con) h.coming ∙ ap (λ z. messages a (back items w.tunnel.gateway.waiting) ++ z) (sym (append-nil (message a con)))
            ∙ sym (messages_append a (back items w.tunnel.gateway.waiting) (con ∷ [])) ∙ ap (messages a) (sym (back_more items w.tunnel.gateway.waiting (con ∷ [])));
        flying = tt;
        pending = subst (λ c. PendFor a (Since base e v (Flies f Told)) c) (sym client) h.pending;
        joined = ap (λ c. c.joined) client ∙ h.joined;
      };
    }

pub con_of : (w : World) (left_out : List ℕ) (f : Ldata) (octets : List ℕ) → ldata_in octets ≡ Some f → ConOf f (confirmation w left_out (on_bus (me w) f))
con_of w left_out f octets h =
    let range = read_range octets f h in
    record { code = refl; group = refl; destination = refl; tpdu = refl; reads = written_in Con (not (is_confirmed w left_out (on_bus (me w) f))) f.group (me w).raw f.destination f.tpdu range.0 range.1 tt }

-- ---- what each session sees of it

pub con_by : (a : ℕ) (c : Ldata) (b t : Bool) → is_con c.code ≡ b → is_its a c ≡ t → b ≡ true → t ≡ true → message a c ≡ Confirms c.error ∷ []
con_by a c true true p q x y = rw p (rw q refl)
con_by a c true false p q x y = absurd (let z : false ≡ true = y in cc)
con_by a c false t p q x y = absurd (let z : false ≡ true = x in cc)

pub other_con : (a : ℕ) (c : Ldata) (b t : Bool) → is_con c.code ≡ b → is_its a c ≡ t → b ≡ true → t ≡ false → message a c ≡ []
other_con a c true true p q x y = absurd (let z : true ≡ false = y in cc)
other_con a c true false p q x y = rw p (rw q refl)
other_con a c false t p q x y = absurd (let z : false ≡ true = x in cc)

pub same_its : (a : ℕ) (f c : Ldata) → c.group ≡ f.group → c.destination ≡ f.destination → is_its a c ≡ is_its a f
same_its a f c g d = ap (λ z. not z && (c.destination == a)) g ∙ ap (λ z. not f.group && (z == a)) d

pub its_con : (a : ℕ) (f c : Ldata) → is_its a f ≡ true → ConOf f c → message a c ≡ Confirms c.error ∷ []
its_con a f c i k = con_by a c (is_con c.code) (is_its a c) refl refl k.code (same_its a f c k.group k.destination ∙ i)

pub others_con : (a : ℕ) (f c : Ldata) → is_its a f ≡ false → ConOf f c → message a c ≡ []
others_con a f c i k = other_con a c (is_con c.code) (is_its a c) refl refl k.code (same_its a f c k.group k.destination ∙ i)

module _ (a : ℕ) (w : World) (r : List Entry) (s : SessionWorld) (items : Items) (older : List (ℕ × List ℕ)) (base e : ℕ) (v : View) (f con : Ldata) (devices : Devices) (is : ConOf f con)
    (h : CoupledBy a w r s items older (Since base e v (Flies f OnBus))) where
  -- it is for this device, which takes it so
  pub bus_mine : (outcome : Outcome) → is_its a f ≡ true → devices a ≡ Some (takes s.device (on_bus (me w) f) (now w) outcome) → con.error ≡ not (is_taken (took_of s.device (on_bus (me w) f))) → Goes a (told_world w con devices) r s
  bus_mine outcome its d error =
      let flies : s.flying ≡ Some (on_bus (me w) f) = h.flying its in
      let n : SessionWorld = carries s (Some (on_bus (me w) f)) outcome in
      let told : message a con ≡ Confirms con.error ∷ [] = its_con a f con its is in
      let kept : Coupled a (told_world w con devices) r n
      = told_kept a w r s n items older base e v f con devices is h
      (record { device = d ∙ ap (λ t. Some (takes s.device (on_bus (me w) f) t outcome)) (sym h.side.same_now); same_me = h.side.same_me; same_now = h.side.same_now; echo = refl })
      (ap (λ t. s.coming ++ Confirms t ∷ []) (sym error) ∙ ap (λ z. s.coming ++ z) (sym told)) refl in
      goes_one a (told_world w con devices) r s (Carries outcome) tt tt (subst (λ (o : Option Ldata). Coupled a (told_world w con devices) r (carries s o outcome)) (sym flies) kept)

  -- or doesn't get it
  pub bus_lost : is_its a f ≡ true → devices a ≡ Some s.device → con.error ≡ true → Goes a (told_world w con devices) r s
  bus_lost its d error =
      let flies : s.flying ≡ Some (on_bus (me w) f) = h.flying its in
      let n : SessionWorld = carries_lost s (Some (on_bus (me w) f)) in
      let told : message a con ≡ Confirms con.error ∷ [] = its_con a f con its is in
      let kept : Coupled a (told_world w con devices) r n
      = told_kept a w r s n items older base e v f con devices is h (record { device = d; same_me = h.side.same_me; same_now = h.side.same_now; echo = refl })
      (ap (λ t. s.coming ++ Confirms t ∷ []) (sym error) ∙ ap (λ z. s.coming ++ z) (sym told)) refl in
      goes_one a (told_world w con devices) r s BusLost tt tt (subst (λ (o : Option Ldata). Coupled a (told_world w con devices) r (carries_lost s o)) (sym flies) kept)

  -- it is for another, or lost for this device
  pub bus_other : is_its a f ≡ false → devices a ≡ Some s.device → Goes a (told_world w con devices) r s
  bus_other its d =
      goes_one a (told_world w con devices) r s Elsewhere tt tt
      (told_kept a w r s (elsewhere s) items older base e v f con devices is h (record { device = d; same_me = h.side.same_me; same_now = h.side.same_now; echo = refl })
      (sym (append-nil s.coming) ∙ ap (λ z. s.coming ++ z) (sym (others_con a f con its is))) refl)

  -- a group telegram comes to it
  pub bus_group : f.group ≡ true → devices a ≡ Some (takes s.device (on_bus (me w) f) (now w) Whole) → Goes a (told_world w con devices) r s
  bus_group group d =
      goes_one a (told_world w con devices) r s (Group (on_bus (me w) f)) group tt
      (told_kept a w r s (elsewhere (gets s (on_bus (me w) f) Whole)) items older base e v f con devices is h
      (record { device = d ∙ ap (λ t. Some (takes s.device (on_bus (me w) f) t Whole)) (sym h.side.same_now); same_me = h.side.same_me; same_now = h.side.same_now; echo = refl })
      (sym (append-nil s.coming) ∙ ap (λ z. s.coming ++ z) (sym (others_con a f con (ap (λ z. not z && (f.destination == a)) group) is))) refl)
