-- Something happens to devices alone, or the gateway hears a frame of theirs.
use Rattle.std.proofs.Common.{◌≡◌, ℕ, ◌⊎◌, List, [], ◌∷◌, ◌++◌, Bool, true, false, cond, Option, Some, None, refl, sym, ◌∙◌, ap, subst, inl, inr, if◌then◌else◌, append-nil}
use Rattle.std.specs.Prelude.{◌==◌}
use Rattle.knx_model.specs.declared.frames.cemi.Ldata.{Ldata}
use Rattle.knx_model.specs.declared.frames.cemi.LdataCode.TheVariants.{Ind}
use Rattle.knx_model.specs.DeviceState.{DeviceState, cut, switched_on}
use Rattle.knx_model.specs.DeviceFrames.{Whole, takes, taken_again, taken_last}
use Rattle.knx_model.specs.DeviceSending.{shut}
use Rattle.line_model.specs.Gateway.{Gateway}
use Rattle.line_model.specs.Record.{Entry}
use Rattle.line_model.specs.Tunnel.{with_gateway, after, heard as heard_by}
use Rattle.line_model.specs.World.{World, BusAgain, DevClose, GwAgain, Cut, On, Comes, Devices, me, now, changed, heard}
use Rattle.session_law.specs.World.{World as SessionWorld, Ind as Tells}
use Rattle.session_law.specs.Device.{with_device, gets, gets_again, and_told}
use Rattle.session_law.specs.Device as session
use Rattle.session_law.specs.Events as event
use Rattle.tunnel_law.proofs.Inside.{Every}
use Rattle.line_law.proofs.Queue.{Items, is_by, message, messages, messages_append, cons, cons_append, back, back_more}
use Rattle.line_law.proofs.Coupled.{IsOwn, OwnIf, Owned, IsTold, Waits, OnBus, Told, Gone, Flight, Landed, Flies, Serves, FlightIs, Last, Never, Since, LastIs, Pipe, echo_of, DeviceSide, FlyFor, PendFor, Coupled, Goes}
use Rattle.line_law.proofs.Owned.{every_append}
use Rattle.line_law.proofs.Bus.{after_world, changed_at}
use Rattle.line_law.proofs.OnBus.{goes_none, goes_one}

-- ---- frames of devices come to the gateway

pub own_ind : (f : Ldata) → IsOwn f → f.code ≡ Ind
own_ind f e = ap (λ (z : Ldata). z.code) e

pub own_con : (f : Ldata) → IsOwn f → cons (f ∷ []) ≡ []
own_con f e = rw (own_ind f e) refl

pub own_its : (a : ℕ) (f : Ldata) → IsOwn f → (b : Bool) → is_by a f ≡ b → message a f ≡ (if b then Tells f ∷ [] else [])
own_its a f e true h = rw (own_ind f e) (rw h refl)
own_its a f e false h = rw (own_ind f e) (rw h refl)

pub flight_cons : (base : ℕ) (g : Gateway) (q k : List Ldata) (puts : List (List ℕ)) (flight : Flight) → cons k ≡ cons q → FlightIs base g q puts flight → FlightIs base g k puts flight
flight_cons base g q k puts Landed e h = (h.0, h.1, e ∙ h.2)
flight_cons base g q k puts (Flies f Waits) e h = record { octets = h.octets; before = h.before; newest = h.newest; reads = h.reads; request = h.request; stage_is = (h.stage_is.0, h.stage_is.1, e ∙ h.stage_is.2) }
flight_cons base g q k puts (Flies f OnBus) e h = record { octets = h.octets; before = h.before; newest = h.newest; reads = h.reads; request = h.request; stage_is = (h.stage_is.0, h.stage_is.1, e ∙ h.stage_is.2) }
flight_cons base g q k puts (Flies f Told) e h =
    record { octets = h.octets; before = h.before; newest = h.newest; reads = h.reads; request = h.request; stage_is = (h.stage_is.0, h.stage_is.1, h.stage_is.2, e ∙ h.stage_is.3, h.stage_is.4, h.stage_is.5, h.stage_is.6) }
flight_cons base g q k puts (Flies f Gone) e h = record { octets = h.octets; before = h.before; newest = h.newest; reads = h.reads; request = h.request; stage_is = (h.stage_is.0, h.stage_is.1, e ∙ h.stage_is.2) }

pub no_more : (l : List Ldata) (f : Ldata) → IsOwn f → cons (l ++ f ∷ []) ≡ cons l
no_more l f e = cons_append l (f ∷ []) ∙ ap (λ z. cons l ++ z) (own_con f e) ∙ append-nil (cons l)

pub heard_serving : (base : ℕ) (g : Gateway) (f : Ldata) → IsOwn f → Serves base g ⊎ ((cons g.waiting ≡ []) × (g.bus ≡ [])) → Serves base (heard_by g (f ∷ [])) ⊎ ((cons (g.waiting ++ f ∷ []) ≡ []) × (g.bus ≡ []))
heard_serving base g f e (inl h) = inl (record { place = h.place; c = h.c; is_up = h.is_up })
heard_serving base g f e (inr h) = inr (no_more g.waiting f e ∙ h.0, h.1)

pub heard_flight : (base : ℕ) (g : Gateway) (f : Ldata) (q : List Ldata) (puts : List (List ℕ)) (flight : Flight) → FlightIs base g q puts flight → FlightIs base (heard_by g (f ∷ [])) q puts flight
heard_flight base g f q puts Landed h = h
heard_flight base g f q puts (Flies x Waits) h = record { octets = h.octets; before = h.before; newest = h.newest; reads = h.reads; request = h.request; stage_is = h.stage_is }
heard_flight base g f q puts (Flies x OnBus) h = record { octets = h.octets; before = h.before; newest = h.newest; reads = h.reads; request = h.request; stage_is = h.stage_is }
heard_flight base g f q puts (Flies x Told) h = record { octets = h.octets; before = h.before; newest = h.newest; reads = h.reads; request = h.request; stage_is = h.stage_is }
heard_flight base g f q puts (Flies x Gone) h = record { octets = h.octets; before = h.before; newest = h.newest; reads = h.reads; request = h.request; stage_is = h.stage_is }

pub heard_last : (last : Last) (g : Gateway) (present : ℕ) (r : List Entry) (items : Items) (older : List (ℕ × List ℕ)) (f : Ldata) → IsOwn f → LastIs last g present r items older → LastIs last (heard_by g (f ∷ [])) present r items older
heard_last Never g present r items older f e h =
    record {
      none = λ k other c. h.none k other (record { endpoint = c.endpoint; made_by = c.made_by; view = c.view; number = c.number });
      out = h.out;
      bus = h.bus;
      quiet = ap cons (back_more items g.waiting (f ∷ [])) ∙ no_more (back items g.waiting) f e ∙ h.quiet;
      empty = h.empty;
    }
heard_last (Since base n v flight) g present r items older f e h =
    record {
      made = h.made;
      view = h.view;
      number = h.number;
      late = λ k other c. h.late k other (record { endpoint = c.endpoint; made_by = c.made_by; view = c.view; number = c.number });
      low = h.low;
      taken = h.taken;
      olds = h.olds;
      channel_is = h.channel_is;
      con_items = h.con_items;
      serving = heard_serving base g f e h.serving;
      flight_is = heard_flight base g f (back items (g.waiting ++ f ∷ [])) v.puts flight
          (flight_cons base g (back items g.waiting) (back items (g.waiting ++ f ∷ [])) v.puts flight (ap cons (back_more items g.waiting (f ∷ [])) ∙ no_more (back items g.waiting) f e) h.flight_is);
    }

pub heard_pipe : (g : Gateway) (present : ℕ) (r : List Entry) (items : Items) (older : List (ℕ × List ℕ)) (last : Last) (f : Ldata) → IsOwn f → Pipe g present r items older last → Pipe (heard_by g (f ∷ [])) present r items older last
heard_pipe g present r items older last f e h =
    record {
      puts_are = h.puts_are;
      sorted = h.sorted;
      newest = h.newest;
      frames = subst (Every IsTold) (sym (back_more items g.waiting (f ∷ []))) (every_append IsTold (back items g.waiting) (f ∷ []) h.frames (inl e, tt));
      last_is = heard_last last g present r items older f e h.last_is;
    }

abbrev pub heard_world : World → Ldata → Devices → Option Ldata → World
heard_world w f devices echo = record { tunnel = with_gateway w.tunnel (heard_by w.tunnel.gateway (f ∷ [])); devices = devices; echo = echo }

pub heard_kept : (a : ℕ) (w : World) (r : List Entry) (s n : SessionWorld) (f : Ldata) (devices : Devices) (echo : Option Ldata) → IsOwn f → Coupled a w r s → DeviceSide a (heard_world w f devices echo) n → n.coming ≡ s.coming ++ message a f
    → n.client ≡ s.client → n.flying ≡ s.flying → Coupled a (heard_world w f devices echo) r n
heard_kept a w r s n f devices echo e c side coming client flying =
    record {
      items = c.items;
      older = c.older;
      last = c.last;
      by = record {
        side = side;
        pipe = heard_pipe w.tunnel.gateway w.tunnel.present r c.items c.older c.last f e c.by.pipe;
        coming = coming ∙ ap (λ z. z ++ message a f) c.by.coming ∙ ap (λ z. messages a (back c.items w.tunnel.gateway.waiting) ++ z) (sym (append-nil (message a f)))
            ∙ sym (messages_append a (back c.items w.tunnel.gateway.waiting) (f ∷ [])) ∙ ap (messages a) (sym (back_more c.items w.tunnel.gateway.waiting (f ∷ [])));
        flying = subst (FlyFor a (me w) c.last) (sym flying) c.by.flying;
        pending = subst (PendFor a c.last) (sym client) c.by.pending;
        joined = ap (λ z. z.joined) client ∙ c.by.joined;
      };
    }

-- ---- something happens to devices alone

abbrev pub apart_world : World → Devices → Option Ldata → World
apart_world w devices echo = record { tunnel = w.tunnel; devices = devices; echo = echo }

pub apart_kept : (a : ℕ) (w : World) (r : List Entry) (s n : SessionWorld) (devices : Devices) (echo : Option Ldata) → Coupled a w r s → DeviceSide a (apart_world w devices echo) n → n.coming ≡ s.coming
    → n.client ≡ s.client → n.flying ≡ s.flying → Coupled a (apart_world w devices echo) r n
apart_kept a w r s n devices echo c side coming client flying =
    record {
      items = c.items;
      older = c.older;
      last = c.last;
      by = record {
        side = side;
        pipe = c.by.pipe;
        coming = coming ∙ c.by.coming;
        flying = subst (FlyFor a (me w) c.last) (sym flying) c.by.flying;
        pending = subst (PendFor a c.last) (sym client) c.by.pending;
        joined = ap (λ z. z.joined) client ∙ c.by.joined;
      };
    }

-- it is this device
pub apart_mine : (a : ℕ) (w : World) (r : List Entry) (s n : SessionWorld) (device : ℕ) (f : DeviceState → DeviceState) → (a == device) ≡ true → Coupled a w r s → n.device ≡ f s.device → n.me ≡ s.me → n.now ≡ s.now → n.echo ≡ s.echo → n.coming ≡ s.coming
    → n.client ≡ s.client → n.flying ≡ s.flying → Coupled a (apart_world w (changed device f w.devices) w.echo) r n
apart_mine a w r s n device f e c d m t echo coming client flying =
    apart_kept a w r s n (changed device f w.devices) w.echo c
    (record {
      device = changed_at (w.devices a) s.device f (a == device) c.by.side.device ∙ ap (λ z. Some (cond {A = DeviceState} z (f s.device) s.device)) e ∙ ap (λ z. Some z) (sym d);
      same_me = m ∙ c.by.side.same_me;
      same_now = t ∙ c.by.side.same_now;
      echo = echo ∙ c.by.side.echo;
    }) coming client flying

-- it is another one
pub apart_other : (a : ℕ) (w : World) (r : List Entry) (s : SessionWorld) (device : ℕ) (f : DeviceState → DeviceState) → (a == device) ≡ false → Coupled a w r s → Goes a (apart_world w (changed device f w.devices) w.echo) r s
apart_other a w r s device f e c =
    goes_none a (apart_world w (changed device f w.devices) w.echo) r s
    (apart_kept a w r s s (changed device f w.devices) w.echo c
    (record {
      device = changed_at (w.devices a) s.device f (a == device) c.by.side.device ∙ ap (λ z. Some (cond {A = DeviceState} z (f s.device) s.device)) e;
      same_me = c.by.side.same_me;
      same_now = c.by.side.same_now;
      echo = c.by.side.echo;
    }) refl refl refl)

pub again_by : (a : ℕ) (w : World) (r : List Entry) (s : SessionWorld) (device : ℕ) (l : Option Ldata) → s.device.last ≡ l → (a == device) ≡ true → Coupled a w r s → Coupled a (apart_world w (changed device (λ d. taken_again d (now w)) w.devices) w.echo) r (gets_again s l)
again_by a w r s device None l e c = apart_mine a w r s s device (λ d. taken_again d (now w)) e c (sym (ap (taken_last s.device (now w)) l)) refl refl refl refl refl refl
again_by a w r s device (Some f) l e c =
    apart_mine a w r s (gets s f Whole) device (λ d. taken_again d (now w)) e c (ap (λ t. takes s.device f t Whole) c.by.side.same_now ∙ sym (ap (taken_last s.device (now w)) l)) refl refl refl refl refl refl

pub again_kept : (a : ℕ) (w : World) (r : List Entry) (s : SessionWorld) (device : ℕ) (b : Bool) → (a == device) ≡ b → Coupled a w r s → Goes a (after_world w (BusAgain device)) r s
again_kept a w r s device true e c = goes_one a (after_world w (BusAgain device)) r s event.BusAgain tt tt (again_by a w r s device s.device.last refl e c)
again_kept a w r s device false e c = apart_other a w r s device (λ d. taken_again d (now w)) e c

pub close_kept : (a : ℕ) (w : World) (r : List Entry) (s : SessionWorld) (device : ℕ) (b : Bool) → (a == device) ≡ b → Coupled a w r s → Goes a (after_world w (DevClose device)) r s
close_kept a w r s device true e c = goes_one a (after_world w (DevClose device)) r s event.DevClose tt tt (apart_mine a w r s (with_device s (shut s.device)) device shut e c refl refl refl refl refl refl refl)
close_kept a w r s device false e c = apart_other a w r s device shut e c

pub cut_kept : (a : ℕ) (w : World) (r : List Entry) (s : SessionWorld) (device : ℕ) (b : Bool) → (a == device) ≡ b → Coupled a w r s → Goes a (after_world w (Cut device)) r s
cut_kept a w r s device true e c = goes_one a (after_world w (Cut device)) r s event.Cut tt tt (apart_mine a w r s (with_device s (cut s.device)) device cut e c refl refl refl refl refl refl refl)
cut_kept a w r s device false e c = apart_other a w r s device cut e c

pub on_kept : (a : ℕ) (w : World) (r : List Entry) (s : SessionWorld) (device : ℕ) (b : Bool) → (a == device) ≡ b → Coupled a w r s → Goes a (after_world w (On device)) r s
on_kept a w r s device true e c = goes_one a (after_world w (On device)) r s event.On tt tt (apart_mine a w r s (with_device s (switched_on s.device)) device switched_on e c refl refl refl refl refl refl refl)
on_kept a w r s device false e c = apart_other a w r s device switched_on e c

-- ---- the gateway gets the bus's last frame again

pub echo_mine : (a : ℕ) (w : World) (f : Ldata) → w.echo ≡ Some f → is_by a f ≡ true → echo_of a w.echo ≡ Some f
echo_mine a w f e b = ap (echo_of a) e ∙ rw b refl

pub gateway_again : (a : ℕ) (w : World) (r : List Entry) (s : SessionWorld) (o : Option Ldata) (b : Bool) → w.echo ≡ o → OwnIf o → Coupled a w r s → Goes a (record { tunnel = after w.tunnel (heard Comes o); devices = w.devices; echo = w.echo }) r s
gateway_again a w r s None b e own c = goes_none a w r s c
gateway_again a w r s (Some f) b e own c = by_source (is_by a f) refl where
  by_source : (t : Bool) → is_by a f ≡ t → Goes a (record { tunnel = after w.tunnel (heard Comes (Some f)); devices = w.devices; echo = w.echo }) r s
  by_source true q =
      let echo : s.echo ≡ Some f = c.by.side.echo ∙ echo_mine a w f e q in
      let n : SessionWorld = record s { coming = s.coming ++ Tells f ∷ [] } in
      let kept : Coupled a (heard_world w f w.devices w.echo) r n
      = heard_kept a w r s n f w.devices w.echo own c (record { device = c.by.side.device; same_me = c.by.side.same_me; same_now = c.by.side.same_now; echo = c.by.side.echo }) (ap (λ z. s.coming ++ z) (sym (own_its a f own true q))) refl refl in
      goes_one a (heard_world w f w.devices w.echo) r s event.GwAgain tt tt
      (subst (λ (o : Option Ldata). Coupled a (heard_world w f w.devices w.echo) r (record s { coming = and_told session.Comes o s.coming })) (sym echo) kept)
  by_source false q =
      goes_none a (heard_world w f w.devices w.echo) r s
      (heard_kept a w r s s f w.devices w.echo own c (record { device = c.by.side.device; same_me = c.by.side.same_me; same_now = c.by.side.same_now; echo = c.by.side.echo })
      (sym (append-nil s.coming) ∙ ap (λ z. s.coming ++ z) (sym (own_its a f own false q))) refl refl)

pub echo_kept : (a : ℕ) (w : World) (r : List Entry) (s : SessionWorld) → Owned w → Coupled a w r s → Goes a (after_world w GwAgain) r s
echo_kept a w r s own c = gateway_again a w r s w.echo true refl own.echo c
