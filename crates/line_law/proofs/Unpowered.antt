-- A device without power, put where there is none, beside the devices that are there: one event.
use Rattle.std.proofs.Common.{◌≡◌, ◌≢◌, ℕ, List, [], ◌∷◌, Bool, true, false, not, ◌&&◌, ◌||◌, cond, Option, Some, None, refl, sym, ◌∙◌, ap, subst, arith}
use Rattle.std.specs.Prelude.{◌==◌}
use Rattle.std.proofs.lemmas.Bool.{eqb-true}
use Rattle.knx_model.specs.declared.frames.cemi.Ldata.{Ldata}
use Rattle.knx_model.specs.declared.frames.cemi.LdataCode.TheVariants.{Con}
use Rattle.knx_model.specs.ApduReading.{option_map}
use Rattle.knx_model.specs.DeviceState.{DeviceState, device_with}
use Rattle.knx_model.specs.DeviceFrames.{Outcome, Whole, Torn, Worn, takes}
use Rattle.knx_model.specs.DeviceSending.{waiting_frame, repeat_frame, pops}
use Rattle.line_model.specs.Legal.{OfDevice, GoesSo, DevicesAllow, MayHappen}
use Rattle.line_model.specs.Record.{item_of, item_at}
use Rattle.line_model.specs.Tunnel as tunnel
use Rattle.line_model.specs.Tunnel.{Commissions}
use Rattle.line_model.specs.World.{World, Event, Send, From, Renew, Up, UpRefused, Down, LoseUp, LoseDown, Bus, BusTorn, BusWorn, BusAgain, DevSend, DevRepeat, DevClose, GwAgain, GwRepeat, GwClose, Cut, On, Pass, Devices, now, next_frame, frame_by, waiting_at, is_among, takes_it, carried, heard, tunnel_event, changed, all_take, one_takes, others_take, devices_after, or_before, echo_after, step}
use Rattle.line_law.proofs.Runs.{none_step}
use Rattle.line_law.proofs.Told.{empty_device}

abbrev pub silent : ℕ → DeviceState
silent a = record (device_with (record { raw = a }) empty_device) { power = false }

abbrev pub with_devices : World → Devices → World
with_devices w g = record { tunnel = w.tunnel; devices = g; echo = w.echo }

-- but for the silent device they are the same
pub record Beside (a : ℕ) (g f : Devices) : Type 0 where
  pub others : (b : ℕ) → (b == a) ≡ false → g b ≡ f b
  pub there : g a ≡ Some (silent a)
  pub none : f a ≡ None

module _ (a : ℕ) (w : World) (g : Devices) (h : Beside a g w.devices) where
  -- a device that is there is another one
  pub elsewhere : (P : DeviceState → Type 0) (b : ℕ) → OfDevice P (w.devices b) → (b == a) ≡ false
  elsewhere P b of = by_bool (b == a) refl where
    by_bool : (t : Bool) → (b == a) ≡ t → (b == a) ≡ false
    by_bool true e = absurd (subst (OfDevice P) (ap w.devices (eqb-true b a e) ∙ h.none) of)
    by_bool false e = e

  pub elsewhere_some : (b : ℕ) → w.devices b ≢ None → (b == a) ≡ false
  elsewhere_some b some = by_bool (b == a) refl where
    by_bool : (t : Bool) → (b == a) ≡ t → (b == a) ≡ false
    by_bool true e = absurd (some (ap w.devices (eqb-true b a e) ∙ h.none))
    by_bool false e = e

  pub of_same : (P : DeviceState → Type 0) (b : ℕ) → OfDevice P (w.devices b) → OfDevice P (g b)
  of_same P b of = subst (OfDevice P) (sym (h.others b (elsewhere P b of))) of

  pub some_same : (b : ℕ) → w.devices b ≢ None → g b ≢ None
  some_same b some = λ e. some (sym (h.others b (elsewhere_some b some)) ∙ e)

  pub takes_same : (f : Ldata) (b : ℕ) → takes_it f (g b) ≡ takes_it f (w.devices b)
  takes_same f b = by_bool (b == a) refl where
    by_bool : (t : Bool) → (b == a) ≡ t → takes_it f (g b) ≡ takes_it f (w.devices b)
    by_bool true e = ap (λ z. takes_it f (g z)) (eqb-true b a e) ∙ ap (takes_it f) h.there ∙ sym (ap (λ z. takes_it f (w.devices z)) (eqb-true b a e) ∙ ap (takes_it f) h.none)
    by_bool false e = ap (takes_it f) (h.others b e)

  pub carried_same : (left_out : List ℕ) (o : Option Ldata) → carried (with_devices w g) left_out o ≡ carried w left_out o
  carried_same left_out None = refl
  carried_same left_out (Some f) = ap (λ b. tunnel.Carried (let x : Ldata = record f { code = Con; error = not (f.group || (not (is_among left_out f.destination) && b)) } in x)) (takes_same f f.destination)

  pub waiting_same : (frame : DeviceState → Option Ldata) (P : DeviceState → Type 0) (b : ℕ) → OfDevice P (w.devices b) → frame_by frame (g b) ≡ frame_by frame (w.devices b)
  waiting_same frame P b of = ap (frame_by frame) (h.others b (elsewhere P b of))

  pub event_same : (e : Event) → DevicesAllow w e → tunnel_event (with_devices w g) e ≡ tunnel_event w e
  event_same (Bus left_out) may = carried_same left_out (next_frame w)
  event_same (BusTorn fresh_ octets) may = carried_same [] (next_frame w)
  event_same (BusWorn octets) may = carried_same [] (next_frame w)
  event_same (DevSend device gateway left_out) may = ap (heard gateway) (waiting_same waiting_frame _ device may)
  event_same (DevRepeat device gateway) may = ap (heard gateway) (waiting_same repeat_frame _ device may)
  event_same (Send octets) may = refl
  event_same (From endpoint octets) may = refl
  event_same Renew may = refl
  event_same (Up age) may = refl
  event_same (UpRefused age status) may = refl
  event_same (Down age) may = refl
  event_same (LoseUp age) may = refl
  event_same (LoseDown age) may = refl
  event_same (BusAgain device) may = refl
  event_same (DevClose device) may = refl
  event_same GwAgain may = refl
  event_same GwRepeat may = refl
  event_same GwClose may = refl
  event_same (Cut device) may = refl
  event_same (On device) may = refl
  event_same (Pass ms) may = refl

  pub echo_same : (e : Event) → DevicesAllow w e → echo_after (with_devices w g) e ≡ echo_after w e
  echo_same (DevSend device gateway left_out) may = ap (λ o. or_before o w.echo) (waiting_same waiting_frame _ device may)
  echo_same (DevRepeat device gateway) may = ap (λ o. or_before o w.echo) (waiting_same repeat_frame _ device may)
  echo_same (Bus left_out) may = refl
  echo_same (BusTorn fresh_ octets) may = refl
  echo_same (BusWorn octets) may = refl
  echo_same (Send octets) may = refl
  echo_same (From endpoint octets) may = refl
  echo_same Renew may = refl
  echo_same (Up age) may = refl
  echo_same (UpRefused age status) may = refl
  echo_same (Down age) may = refl
  echo_same (LoseUp age) may = refl
  echo_same (LoseDown age) may = refl
  echo_same (BusAgain device) may = refl
  echo_same (DevClose device) may = refl
  echo_same GwAgain may = refl
  echo_same GwRepeat may = refl
  echo_same GwClose may = refl
  echo_same (Cut device) may = refl
  echo_same (On device) may = refl
  echo_same (Pass ms) may = refl

  pub allowed_by : (o : Outcome) (f : Option Ldata) → GoesSo w o f → GoesSo (with_devices w g) o f
  allowed_by o None q = absurd q
  allowed_by o (Some f) q = record { alone = q.alone; device = of_same _ f.destination q.device }

  pub allowed_same : (e : Event) → DevicesAllow w e → DevicesAllow (with_devices w g) e
  allowed_same (Bus left_out) may = may
  allowed_same (BusTorn fresh_ octets) may = allowed_by (Torn fresh_ octets) (next_frame w) may
  allowed_same (BusWorn octets) may = allowed_by (Worn octets) (next_frame w) may
  allowed_same (BusAgain device) may = of_same _ device may
  allowed_same (DevSend device gateway left_out) may = of_same _ device may
  allowed_same (DevRepeat device gateway) may = of_same _ device may
  allowed_same (DevClose device) may = some_same device may
  allowed_same (Cut device) may = some_same device may
  allowed_same (On device) may = some_same device may
  allowed_same GwAgain may = may
  allowed_same (Send octets) may = tt
  allowed_same (From endpoint octets) may = tt
  allowed_same Renew may = tt
  allowed_same (Up age) may = tt
  allowed_same (UpRefused age status) may = tt
  allowed_same (Down age) may = tt
  allowed_same (LoseUp age) may = tt
  allowed_same (LoseDown age) may = tt
  allowed_same GwRepeat may = tt
  allowed_same GwClose may = tt
  allowed_same (Pass ms) may = tt

  pub may_same : (e : Event) → MayHappen Commissions w e → MayHappen Commissions (with_devices w g) e
  may_same e may = record { tunnel = subst (tunnel.MayHappen Commissions w.tunnel) (sym (event_same e may.devices)) may.tunnel; devices = allowed_same e may.devices }

  pub item_same : (e : Event) → DevicesAllow w e → item_at (with_devices w g) e ≡ item_at w e
  item_same e may = ap (item_of w.tunnel) (event_same e may)

  pub step_same : (e : Event) → DevicesAllow w e → step (with_devices w g) e ≡ with_devices (step w e) (devices_after (with_devices w g) e)
  step_same e may =
      let devices : Devices = devices_after (with_devices w g) e in
      ap (λ t. (let x : World = record { tunnel = tunnel.step w.tunnel t; devices = devices; echo = echo_after (with_devices w g) e } in x)) (event_same e may)
      ∙ ap (λ o. (let x : World = record { tunnel = tunnel.step w.tunnel (tunnel_event w e); devices = devices; echo = o } in x)) (echo_same e may)

  -- ---- what happens to the devices

  pub changed_same : (device : ℕ) (f : DeviceState → DeviceState) (b : ℕ) (x y : Devices) → x b ≡ y b → changed device f x b ≡ changed device f y b
  changed_same device f b x y e = ap (λ z. cond {A = Option DeviceState} (b == device) (option_map f z) z) e

  pub all_same : (t : ℕ) (left_out : List ℕ) (o : Option Ldata) (b : ℕ) → g b ≡ w.devices b → all_take t left_out o g b ≡ all_take t left_out o w.devices b
  all_same t left_out None b e = e
  all_same t left_out (Some f) b e = ap (λ z. cond {A = Option DeviceState} (is_among left_out b) z (option_map (λ d. takes d f t Whole) z)) e

  pub one_same : (t : ℕ) (outcome : Outcome) (o : Option Ldata) (b : ℕ) → g b ≡ w.devices b → one_takes t outcome o g b ≡ one_takes t outcome o w.devices b
  one_same t outcome None b e = e
  one_same t outcome (Some f) b e = changed_same f.destination (λ d. takes d f t outcome) b g w.devices e

  pub others_same : (t : ℕ) (left_out : List ℕ) (o : Option Ldata) (b : ℕ) → g b ≡ w.devices b → others_take t left_out o g b ≡ others_take t left_out o w.devices b
  others_same t left_out None b e = e
  others_same t left_out (Some f) b e = by_group f.group where
    by_group : (c : Bool) → cond {A = Devices} c (all_take t left_out (Some f) g) g b ≡ cond {A = Devices} c (all_take t left_out (Some f) w.devices) w.devices b
    by_group true = all_same t left_out (Some f) b e
    by_group false = e

  pub devices_same : (e : Event) → DevicesAllow w e → (b : ℕ) → g b ≡ w.devices b → devices_after (with_devices w g) e b ≡ devices_after w e b
  devices_same (Bus left_out) may b q = all_same (now w) left_out (next_frame w) b q
  devices_same (BusTorn fresh_ octets) may b q = one_same (now w) (Torn fresh_ octets) (next_frame w) b q
  devices_same (BusWorn octets) may b q = one_same (now w) (Worn octets) (next_frame w) b q
  devices_same (BusAgain device) may b q = changed_same device _ b g w.devices q
  devices_same (DevSend device gateway left_out) may b q =
      changed_same device pops b (others_take (now w) (device ∷ left_out) (waiting_at (with_devices w g) device) g) (others_take (now w) (device ∷ left_out) (waiting_at w device) w.devices)
      (ap (λ o. others_take (now w) (device ∷ left_out) o g b) (waiting_same waiting_frame _ device may) ∙ others_same (now w) (device ∷ left_out) (waiting_at w device) b q)
  devices_same (DevRepeat device gateway) may b q = changed_same device _ b g w.devices q
  devices_same (DevClose device) may b q = changed_same device _ b g w.devices q
  devices_same (Cut device) may b q = changed_same device _ b g w.devices q
  devices_same (On device) may b q = changed_same device _ b g w.devices q
  devices_same (Send octets) may b q = q
  devices_same (From endpoint octets) may b q = q
  devices_same Renew may b q = q
  devices_same (Up age) may b q = q
  devices_same (UpRefused age status) may b q = q
  devices_same (Down age) may b q = q
  devices_same (LoseUp age) may b q = q
  devices_same (LoseDown age) may b q = q
  devices_same GwAgain may b q = q
  devices_same GwRepeat may b q = q
  devices_same GwClose may b q = q
  devices_same (Pass ms) may b q = q

  pub flip : (x y : ℕ) → (x == y) ≡ false → (y == x) ≡ false
  flip x y e = grind (arith, e)

  pub unchanged : (device : ℕ) (f : DeviceState → DeviceState) (x : Devices) → x a ≡ Some (silent a) → (device == a) ≡ false → changed device f x a ≡ Some (silent a)
  unchanged device f x e n = ap (λ b. cond {A = Option DeviceState} b (option_map f (x a)) (x a)) (flip device a n) ∙ e

  pub all_silent : (t : ℕ) (left_out : List ℕ) (o : Option Ldata) → all_take t left_out o g a ≡ Some (silent a)
  all_silent t left_out None = h.there
  all_silent t left_out (Some f) = ap (λ z. cond {A = Option DeviceState} (is_among left_out a) z (option_map (λ d. takes d f t Whole) z)) h.there ∙ by_among (is_among left_out a) where
    by_among : (b : Bool) → cond {A = Option DeviceState} b (Some (silent a)) (Some (silent a)) ≡ Some (silent a)
    by_among true = refl
    by_among false = refl

  pub one_silent : (t : ℕ) (outcome : Outcome) (o : Option Ldata) → one_takes t outcome o g a ≡ Some (silent a)
  one_silent t outcome None = h.there
  one_silent t outcome (Some f) = ap (λ z. cond {A = Option DeviceState} (a == f.destination) (option_map (λ d. takes d f t outcome) z) z) h.there ∙ by_bool (a == f.destination) where
    by_bool : (b : Bool) → cond {A = Option DeviceState} b (Some (silent a)) (Some (silent a)) ≡ Some (silent a)
    by_bool true = refl
    by_bool false = refl

  pub others_silent : (t : ℕ) (left_out : List ℕ) (o : Option Ldata) → others_take t left_out o g a ≡ Some (silent a)
  others_silent t left_out None = h.there
  others_silent t left_out (Some f) = by_group f.group where
    by_group : (c : Bool) → cond {A = Devices} c (all_take t left_out (Some f) g) g a ≡ Some (silent a)
    by_group true = all_silent t left_out (Some f)
    by_group false = h.there

  pub still_silent : (e : Event) → DevicesAllow w e → devices_after (with_devices w g) e a ≡ Some (silent a)
  still_silent (Bus left_out) may = all_silent (now w) left_out (next_frame w)
  still_silent (BusTorn fresh_ octets) may = one_silent (now w) (Torn fresh_ octets) (next_frame w)
  still_silent (BusWorn octets) may = one_silent (now w) (Worn octets) (next_frame w)
  still_silent (BusAgain device) may = unchanged device _ g h.there (elsewhere _ device may)
  still_silent (DevSend device gateway left_out) may =
      unchanged device pops (others_take (now w) (device ∷ left_out) (waiting_at (with_devices w g) device) g) (others_silent (now w) (device ∷ left_out) (waiting_at (with_devices w g) device)) (elsewhere _ device may)
  still_silent (DevRepeat device gateway) may = unchanged device _ g h.there (elsewhere _ device may)
  still_silent (DevClose device) may = unchanged device _ g h.there (elsewhere_some device may)
  still_silent (Cut device) may = unchanged device _ g h.there (elsewhere_some device may)
  still_silent (On device) may = unchanged device _ g h.there (elsewhere_some device may)
  still_silent (Send octets) may = h.there
  still_silent (From endpoint octets) may = h.there
  still_silent Renew may = h.there
  still_silent (Up age) may = h.there
  still_silent (UpRefused age status) may = h.there
  still_silent (Down age) may = h.there
  still_silent (LoseUp age) may = h.there
  still_silent (LoseDown age) may = h.there
  still_silent GwAgain may = h.there
  still_silent GwRepeat may = h.there
  still_silent GwClose may = h.there
  still_silent (Pass ms) may = h.there

  pub beside_step : (e : Event) → DevicesAllow w e → Beside a (devices_after (with_devices w g) e) (step w e).devices
  beside_step e may = record { others = λ b n. devices_same e may b (h.others b n); there = still_silent e may; none = none_step w e a h.none }
