-- A frame of the client goes over the bus: its confirmation waits for the client, and each session sees it.
use Rattle.std.proofs.Common.{◌≡◌, ℕ, List, [], ◌∷◌, Bool, true, false, not, ◌&&◌, cond, Option, Some, refl, ◌∙◌, ap, subst, arith}
use Rattle.std.specs.Prelude.{◌==◌}
use Rattle.std.proofs.lemmas.Bool.{eqb-true}
use Rattle.knx_model.specs.declared.frames.cemi.Ldata.{Ldata}
use Rattle.knx_model.specs.ApduReading.{option_map}
use Rattle.knx_model.specs.DeviceState.{DeviceState}
use Rattle.knx_model.specs.DeviceFrames.{Outcome, Whole, Torn, Worn, took_of, is_taken, takes}
use Rattle.knx_model.specs.DeviceSending.{first_frame}
use Rattle.line_model.specs.ClientView.{View}
use Rattle.line_model.specs.Legal.{GoesOver, GoesSo}
use Rattle.line_model.specs.Reading.{ldata_in}
use Rattle.line_model.specs.Record.{Entry}
use Rattle.line_model.specs.Tunnel.{after}
use Rattle.line_model.specs.World.{World, Event, Bus, BusTorn, BusWorn, tunnel_event, devices_after, echo_after, me, now, Devices, on_bus, next_frame, is_among, confirmation, carried, all_take, one_takes, none_if}
use Rattle.session_law.specs.World.{World as SessionWorld}
use Rattle.line_law.proofs.Queue.{Items, is_its}
use Rattle.line_law.proofs.Coupled.{Waits, OnBus, Told, Gone, Landed, Flies, Last, Never, Since, CoupledBy, Coupled, Goes}
use Rattle.line_law.proofs.OnBus.{IsOnBus, on_bus_now, told_world, con_of, bus_mine, bus_lost, bus_other, bus_group}

-- ---- which devices take it

-- a device takes no frame that is for another one
not_mine_by : (d : DeviceState) (f : Ldata) (t : ℕ) (outcome : Outcome) (power long : Bool) → d.power ≡ power → f.group ≡ false → (f.destination == d.address.raw) ≡ false → takes d f t outcome ≡ d
not_mine_by d f t outcome true long p g n = rw p (rw g (rw n refl))
not_mine_by d f t outcome false long p g n = rw p refl

pub not_mine : (d : DeviceState) (f : Ldata) (t : ℕ) (outcome : Outcome) → f.group ≡ false → (f.destination == d.address.raw) ≡ false → takes d f t outcome ≡ d
not_mine d f t outcome g n = not_mine_by d f t outcome d.power true refl g n

pub mapped_at : (o : Option DeviceState) (d : DeviceState) (f : DeviceState → DeviceState) (t : Bool) → o ≡ Some d → ◌≡◌ {A = Option DeviceState} (cond t o (option_map f o)) (Some (cond t d (f d)))
mapped_at o d f true e = e
mapped_at o d f false e = ap (option_map f) e

pub changed_at : (o : Option DeviceState) (d : DeviceState) (f : DeviceState → DeviceState) (t : Bool) → o ≡ Some d → ◌≡◌ {A = Option DeviceState} (cond t (option_map f o) o) (Some (cond t (f d) d))
changed_at o d f true e = ap (option_map f) e
changed_at o d f false e = e

error_by : (w : World) (left_out : List ℕ) (frame : Ldata) (d : DeviceState) (b : Bool) → frame.group ≡ false → is_among left_out frame.destination ≡ b → w.devices frame.destination ≡ Some d
    → (confirmation w left_out frame).error ≡ not (not b && is_taken (took_of d frame))
error_by w left_out frame d b g among at = rw g (rw among (rw at refl))

pub eqb_sym : (x y : ℕ) → (x == y) ≡ (y == x)
eqb_sym x y = grind arith

-- ---- it goes over the bus

module _ (a : ℕ) (w : World) (r : List Entry) (s : SessionWorld) (items : Items) (older : List (ℕ × List ℕ)) (base e : ℕ) (v : View) (f : Ldata) (octets : List ℕ) (reads : ldata_in octets ≡ Some f) (named : s.device.address.raw ≡ a)
    (h : CoupledBy a w r s items older (Since base e v (Flies f OnBus))) where
  abbrev frame : Ldata
  frame = on_bus (me w) f

  -- every device but those left out takes it whole
  bus_by : (left_out : List ℕ) (group mine among : Bool) → f.group ≡ group → (f.destination == a) ≡ mine → is_among left_out a ≡ among
      → Goes a (told_world w (confirmation w left_out (on_bus (me w) f)) (all_take (now w) left_out (Some (on_bus (me w) f)) w.devices)) r s
  bus_by left_out true mine true g m l =
      let con : Ldata = confirmation w left_out (on_bus (me w) f) in
      let devices : Devices = all_take (now w) left_out (Some (on_bus (me w) f)) w.devices in
      let its : is_its a f ≡ false = ap (λ z. not z && (f.destination == a)) g in
      let at : devices a ≡ Some s.device = mapped_at (w.devices a) s.device (λ d. takes d (on_bus (me w) f) (now w) Whole) (is_among left_out a) h.side.device ∙ ap (λ z. Some (cond {A = DeviceState} z s.device (takes s.device (on_bus (me w) f) (now w) Whole))) l in
      bus_other a w r s items older base e v f con devices (con_of w left_out f octets reads) h its at
  bus_by left_out true mine false g m l =
      let con : Ldata = confirmation w left_out (on_bus (me w) f) in
      let devices : Devices = all_take (now w) left_out (Some (on_bus (me w) f)) w.devices in
      let at : devices a ≡ Some (takes s.device (on_bus (me w) f) (now w) Whole) = mapped_at (w.devices a) s.device (λ d. takes d (on_bus (me w) f) (now w) Whole) (is_among left_out a) h.side.device ∙ ap (λ z. Some (cond {A = DeviceState} z s.device (takes s.device (on_bus (me w) f) (now w) Whole))) l in
      bus_group a w r s items older base e v f con devices (con_of w left_out f octets reads) h g at
  bus_by left_out false true true g m l =
      let con : Ldata = confirmation w left_out (on_bus (me w) f) in
      let devices : Devices = all_take (now w) left_out (Some (on_bus (me w) f)) w.devices in
      let its : is_its a f ≡ true = ap (λ z. not z && (f.destination == a)) g ∙ m in
      let to : f.destination ≡ a = eqb-true f.destination a m in
      let at : devices a ≡ Some s.device = mapped_at (w.devices a) s.device (λ d. takes d (on_bus (me w) f) (now w) Whole) (is_among left_out a) h.side.device ∙ ap (λ z. Some (cond {A = DeviceState} z s.device (takes s.device (on_bus (me w) f) (now w) Whole))) l in
      let error : con.error ≡ true = error_by w left_out (on_bus (me w) f) s.device true g (ap (is_among left_out) to ∙ l) (ap w.devices to ∙ h.side.device) in
      bus_lost a w r s items older base e v f con devices (con_of w left_out f octets reads) h its at error
  bus_by left_out false true false g m l =
      let con : Ldata = confirmation w left_out (on_bus (me w) f) in
      let devices : Devices = all_take (now w) left_out (Some (on_bus (me w) f)) w.devices in
      let its : is_its a f ≡ true = ap (λ z. not z && (f.destination == a)) g ∙ m in
      let to : f.destination ≡ a = eqb-true f.destination a m in
      let at : devices a ≡ Some (takes s.device (on_bus (me w) f) (now w) Whole) = mapped_at (w.devices a) s.device (λ d. takes d (on_bus (me w) f) (now w) Whole) (is_among left_out a) h.side.device ∙ ap (λ z. Some (cond {A = DeviceState} z s.device (takes s.device (on_bus (me w) f) (now w) Whole))) l in
      let error : con.error ≡ not (is_taken (took_of s.device (on_bus (me w) f))) = error_by w left_out (on_bus (me w) f) s.device false g (ap (is_among left_out) to ∙ l) (ap w.devices to ∙ h.side.device) in
      bus_mine a w r s items older base e v f con devices (con_of w left_out f octets reads) h Whole its at error
  bus_by left_out false false among g m l =
      let con : Ldata = confirmation w left_out (on_bus (me w) f) in
      let devices : Devices = all_take (now w) left_out (Some (on_bus (me w) f)) w.devices in
      let its : is_its a f ≡ false = ap (λ z. not z && (f.destination == a)) g ∙ m in
      let stays : takes s.device (on_bus (me w) f) (now w) Whole ≡ s.device = not_mine s.device (on_bus (me w) f) (now w) Whole g (ap (λ z. f.destination == z) named ∙ m) in
      let at : devices a ≡ Some s.device
      = mapped_at (w.devices a) s.device (λ d. takes d (on_bus (me w) f) (now w) Whole) (is_among left_out a) h.side.device ∙ ap (λ z. Some (cond {A = DeviceState} (is_among left_out a) s.device z)) stays ∙ same_both (is_among left_out a) s.device in
      bus_other a w r s items older base e v f con devices (con_of w left_out f octets reads) h its at
    where
      same_both : (t : Bool) (d : DeviceState) → ◌≡◌ {A = Option DeviceState} (Some (cond {A = DeviceState} t d d)) (Some d)
      same_both true d = refl
      same_both false d = refl

  -- the one device that it is for takes it torn or worn
  one_by : (outcome : Outcome) (mine : Bool) → f.group ≡ false → (f.destination == a) ≡ mine → Goes a (told_world w (confirmation w [] (on_bus (me w) f)) (one_takes (now w) outcome (Some (on_bus (me w) f)) w.devices)) r s
  one_by outcome true g m =
      let con : Ldata = confirmation w [] (on_bus (me w) f) in
      let devices : Devices = one_takes (now w) outcome (Some (on_bus (me w) f)) w.devices in
      let its : is_its a f ≡ true = ap (λ z. not z && (f.destination == a)) g ∙ m in
      let to : f.destination ≡ a = eqb-true f.destination a m in
      let at : devices a ≡ Some (takes s.device (on_bus (me w) f) (now w) outcome)
      = changed_at (w.devices a) s.device (λ d. takes d (on_bus (me w) f) (now w) outcome) (a == f.destination) h.side.device ∙ ap (λ z. Some (cond {A = DeviceState} z (takes s.device (on_bus (me w) f) (now w) outcome) s.device)) (eqb_sym a f.destination ∙ m) in
      let error : con.error ≡ not (is_taken (took_of s.device (on_bus (me w) f))) = error_by w [] (on_bus (me w) f) s.device false g refl (ap w.devices to ∙ h.side.device) in
      bus_mine a w r s items older base e v f con devices (con_of w [] f octets reads) h outcome its at error
  one_by outcome false g m =
      let con : Ldata = confirmation w [] (on_bus (me w) f) in
      let devices : Devices = one_takes (now w) outcome (Some (on_bus (me w) f)) w.devices in
      let its : is_its a f ≡ false = ap (λ z. not z && (f.destination == a)) g ∙ m in
      let at : devices a ≡ Some s.device
      = changed_at (w.devices a) s.device (λ d. takes d (on_bus (me w) f) (now w) outcome) (a == f.destination) h.side.device ∙ ap (λ z. Some (cond {A = DeviceState} z (takes s.device (on_bus (me w) f) (now w) outcome) s.device)) (eqb_sym a f.destination ∙ m) in
      bus_other a w r s items older base e v f con devices (con_of w [] f octets reads) h its at

-- ---- the events

abbrev pub after_world : World → Event → World
after_world w e = record { tunnel = after w.tunnel (tunnel_event w e); devices = devices_after w e; echo = echo_after w e }

bus_last : (a : ℕ) (w : World) (r : List Entry) (s : SessionWorld) (items : Items) (older : List (ℕ × List ℕ)) (last : Last) (x : Ldata) → s.device.address.raw ≡ a → CoupledBy a w r s items older last → IsOnBus last x
    → (left_out : List ℕ) → Goes a (told_world w (confirmation w left_out (on_bus (me w) x)) (all_take (now w) left_out (Some (on_bus (me w) x)) w.devices)) r s
bus_last a w r s items older Never x named h is left_out = absurd is
bus_last a w r s items older (Since base e v Landed) x named h is left_out = absurd is
bus_last a w r s items older (Since base e v (Flies f Waits)) x named h is left_out = absurd is
bus_last a w r s items older (Since base e v (Flies f OnBus)) x named h is left_out =
    let P : Ldata → Type 0 = λ z. Goes a (told_world w (confirmation w left_out (on_bus (me w) z)) (all_take (now w) left_out (Some (on_bus (me w) z)) w.devices)) r s in
    subst P is (bus_by a w r s items older base e v f h.pipe.last_is.flight_is.octets h.pipe.last_is.flight_is.reads named h left_out f.group (f.destination == a) (is_among left_out a) refl refl refl)
bus_last a w r s items older (Since base e v (Flies f Told)) x named h is left_out = absurd is
bus_last a w r s items older (Since base e v (Flies f Gone)) x named h is left_out = absurd is

one_last : (a : ℕ) (w : World) (r : List Entry) (s : SessionWorld) (items : Items) (older : List (ℕ × List ℕ)) (last : Last) (x : Ldata) → s.device.address.raw ≡ a → x.group ≡ false → CoupledBy a w r s items older last → IsOnBus last x
    → (outcome : Outcome) → Goes a (told_world w (confirmation w [] (on_bus (me w) x)) (one_takes (now w) outcome (Some (on_bus (me w) x)) w.devices)) r s
one_last a w r s items older Never x named g h is outcome = absurd is
one_last a w r s items older (Since base e v Landed) x named g h is outcome = absurd is
one_last a w r s items older (Since base e v (Flies f Waits)) x named g h is outcome = absurd is
one_last a w r s items older (Since base e v (Flies f OnBus)) x named g h is outcome =
    let P : Ldata → Type 0 = λ z. Goes a (told_world w (confirmation w [] (on_bus (me w) z)) (one_takes (now w) outcome (Some (on_bus (me w) z)) w.devices)) r s in
    subst P is (one_by a w r s items older base e v f h.pipe.last_is.flight_is.octets h.pipe.last_is.flight_is.reads named h outcome (f.destination == a) (ap (λ (z : Ldata). z.group) is ∙ g) refl)
one_last a w r s items older (Since base e v (Flies f Told)) x named g h is outcome = absurd is
one_last a w r s items older (Since base e v (Flies f Gone)) x named g h is outcome = absurd is

bus_list : (a : ℕ) (w : World) (r : List Entry) (s : SessionWorld) (left_out : List ℕ) (q : List Ldata) → w.tunnel.gateway.bus ≡ q → s.device.address.raw ≡ a → Coupled a w r s → GoesOver (option_map (on_bus (me w)) (first_frame q))
    → Goes a (record { tunnel = after w.tunnel (carried w left_out (option_map (on_bus (me w)) (first_frame q))); devices = all_take (now w) left_out (option_map (on_bus (me w)) (first_frame q)) w.devices; echo = none_if (option_map (on_bus (me w)) (first_frame q)) w.echo }) r s
bus_list a w r s left_out [] e named c over = absurd (over refl)
bus_list a w r s left_out (x ∷ rest) e named c over =
    bus_last a w r s c.items c.older c.last x named c.by (on_bus_now c.last w.tunnel.gateway w.tunnel.present r c.items c.older x rest c.by.pipe.last_is e) left_out

pub bus_kept : (a : ℕ) (w : World) (r : List Entry) (s : SessionWorld) (left_out : List ℕ) → s.device.address.raw ≡ a → Coupled a w r s → GoesOver (next_frame w) → Goes a (after_world w (Bus left_out)) r s
bus_kept a w r s left_out named c over = bus_list a w r s left_out w.tunnel.gateway.bus refl named c over

one_list : (a : ℕ) (w : World) (r : List Entry) (s : SessionWorld) (outcome : Outcome) (q : List Ldata) → w.tunnel.gateway.bus ≡ q → s.device.address.raw ≡ a → Coupled a w r s → GoesSo w outcome (option_map (on_bus (me w)) (first_frame q))
    → Goes a (record { tunnel = after w.tunnel (carried w [] (option_map (on_bus (me w)) (first_frame q))); devices = one_takes (now w) outcome (option_map (on_bus (me w)) (first_frame q)) w.devices; echo = none_if (option_map (on_bus (me w)) (first_frame q)) w.echo }) r s
one_list a w r s outcome [] e named c over = absurd over
one_list a w r s outcome (x ∷ rest) e named c over =
    one_last a w r s c.items c.older c.last x named over.alone c.by (on_bus_now c.last w.tunnel.gateway w.tunnel.present r c.items c.older x rest c.by.pipe.last_is e) outcome

pub torn_kept : (a : ℕ) (w : World) (r : List Entry) (s : SessionWorld) (fresh : Bool) (octets : List ℕ) → s.device.address.raw ≡ a → Coupled a w r s → GoesSo w (Torn fresh octets) (next_frame w) → Goes a (after_world w (BusTorn fresh octets)) r s
torn_kept a w r s fresh octets named c so = one_list a w r s (Torn fresh octets) w.tunnel.gateway.bus refl named c so

pub worn_kept : (a : ℕ) (w : World) (r : List Entry) (s : SessionWorld) (octets : List ℕ) → s.device.address.raw ≡ a → Coupled a w r s → GoesSo w (Worn octets) (next_frame w) → Goes a (after_world w (BusWorn octets)) r s
worn_kept a w r s octets named c so = one_list a w r s (Worn octets) w.tunnel.gateway.bus refl named c so
