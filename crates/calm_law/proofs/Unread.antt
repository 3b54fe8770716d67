-- Where no group telegram that the client puts asks for a value, each frame that comes to it on a calm line is a confirmation, or is of a device of the line and
-- to one other.
use Rattle.std.proofs.Common.{◌≡◌, ℕ, ◌≤◌, List, [], ◌∷◌, length, drop, Bool, true, false, cond, not, ◌&&◌, Option, Some, None, refl, sym, ◌∙◌, ap, subst, inl}
use Rattle.std.specs.Prelude.{◌==◌, IfSome, is_some}
use Rattle.knx_model.specs.declared.address.IndAddr.{IndAddr}
use Rattle.knx_model.specs.declared.config.Image.{Image}
use Rattle.knx_model.specs.declared.connection.DeviceTook.{DeviceTook}
use Rattle.knx_model.specs.declared.connection.DeviceTook.TheVariants as took
use Rattle.knx_model.specs.declared.device.Took.{Took as TookFrame}
use Rattle.knx_model.specs.declared.device.Took.TheVariants.{NotMine, TooLong, Taken, Off}
use Rattle.knx_model.specs.declared.frames.cemi.Ldata.{Ldata}
use Rattle.knx_model.specs.declared.frames.cemi.LdataCode.TheVariants.{Con, Ind}
use Rattle.knx_model.specs.declared.script.GroupService.{GroupService}
use Rattle.knx_model.specs.declared.script.GroupService.TheVariants.{Read, Write, Response}
use Rattle.knx_model.specs.ApduReading.{option_map, service_in}
use Rattle.knx_model.specs.Cemi.{Written as cemi_octets}
use Rattle.knx_model.specs.Connection.{disconnect}
use Rattle.knx_model.specs.Device.{effect_in, answer_in, runs}
use Rattle.knx_model.specs.DeviceConnection.{DeviceEnd, Closed, Idle, Answering, partner_of, device_after, device_answered, after_answer}
use Rattle.knx_model.specs.DeviceState.{DeviceState, moved}
use Rattle.knx_model.specs.DeviceFrames.{Whole, own_frame, kept_after, queued_to, queued_if, with_answer, acted, took_of, takes, takes_so, taken_alone, taken_group, telegram_taken, group_service, connection_took, sender}
use Rattle.knx_model.specs.DeviceSending.{first_frame, waiting_frame, repeat_frame, outstanding_frame, pops, repeats, shut, shut_from}
use Rattle.line_model.specs.Calm as line
use Rattle.line_model.specs.ChannelLost.{is_confirmation}
use Rattle.line_model.specs.ClientView.{Deed, Puts, Takes, Loses, Nothing, channel, deed}
use Rattle.line_model.specs.Fresh.{IsFresh}
use Rattle.line_model.specs.Leaves.{StaysOpen}
use Rattle.line_model.specs.Legal.{IsLegal}
use Rattle.line_model.specs.Reading.{is_con, is_ind, ldata_in}
use Rattle.line_model.specs.Record.{Entry, Item, Put, Renewed, entry, item_of, noted, record_of}
use Rattle.line_model.specs.Tunnel as tunnel
use Rattle.line_model.specs.Tunnel.{Tunnel, TunnelEvent, Commissions, fresh}
use Rattle.line_model.specs.World.{World, Event, AtGateway, Comes, Devices, Send, From, Renew, Up, UpRefused, Down, LoseUp, LoseDown, Bus, BusTorn, BusWorn, BusAgain, DevSend, DevRepeat, DevClose, GwAgain, GwRepeat, GwClose, Cut, On, Pass, all_take, carried, changed, confirmation, devices_after, frame_by, heard, is_among, is_confirmed, me, on_bus, others_take, repeat_at, replay, tunnel_event, waiting_at}
use Rattle.line_law.proofs.Coupled.{IsFrameOf, Owned}
use Rattle.line_law.proofs.Owned.{every_append, repeat_owned, waiting_owned}
use Rattle.line_law.proofs.ReadBack.{read_range, written_in}
use Rattle.tunnel_law.proofs.Inside.{Every}
use Rattle.calm_law.specs.CalmCounts.{is_of_line, is_stranger, strangers}
use Rattle.calm_law.proofs.Hearing.{Took, took_at}
use Rattle.calm_law.proofs.Joined.{step_now}
use Rattle.calm_law.proofs.Law.{Inv, Keeps, May, RidesOn, begins, keeps_before, may_of, step_kept}
use Rattle.calm_law.proofs.OnLine.{event_calm, owned}
use Rattle.calm_law.proofs.Short.{AreShort, IsShort, SendsShort}
use Rattle.calm_law.proofs.ShortValues.{HasReadCode, RangedService, ranged_group}
use Rattle.calm_law.proofs.OwnFrames.{own_frames}
use Rattle.calm_law.proofs.State.{NoStrays, Steps, none_strays}

-- ---- a frame that asks for no value of a group

abbrev pub AsksNone : Ldata → Type 0
AsksNone f = f.group ≡ true → HasReadCode f.tpdu → ⊥

-- ---- a device: each frame that it has to send is to one other

abbrev AreAlone : List Ldata → Type 0
AreAlone l = Every (λ (f : Ldata). f.group ≡ false) l

queued_alone : (d : DeviceState) (to : IndAddr) (octets : List ℕ) → AreAlone d.unsent → AreAlone (queued_to d to octets).unsent
queued_alone d to octets h = every_append (λ (f : Ldata). f.group ≡ false) d.unsent (own_frame d.address false to.raw octets ∷ []) h (refl, tt)

if_alone : (d : DeviceState) (to : IndAddr) (o : Option (List ℕ)) → AreAlone d.unsent → AreAlone (queued_if d to o).unsent
if_alone d to None h = h
if_alone d to (Some octets) h = queued_alone d to octets h

answer_alone : (d : DeviceState) (to : IndAddr) (now : ℕ) (o : Option (List ℕ)) → AreAlone d.unsent → AreAlone (with_answer d to now o).unsent
answer_alone d to now None h = h
answer_alone d to now (Some octets) h = if_alone (record d { connection = after_answer d.connection octets now }) to (device_answered d.connection octets) h

acted_alone : (d : DeviceState) (from : IndAddr) (now : ℕ) (t : DeviceTook) → AreAlone d.unsent → AreAlone (acted d from now Whole t).unsent
acted_alone d from now took.Dropped h = h
acted_alone d from now took.Connected h = tt
acted_alone d from now (took.Apdu apdu ack) h = answer_alone (moved (queued_to d from ack) (kept_after d.kept (effect_in apdu) Whole)) from now (answer_in d.frames d.kept apdu) (queued_alone d from ack h)
acted_alone d from now (took.Again ack) h = queued_alone d from ack h
acted_alone d from now (took.Nak nak) h = queued_alone d from nak h
acted_alone d from now took.Acked h = h
acted_alone d from now (took.Closed answer) h = if_alone d from answer h

telegram_alone : (d : DeviceState) (group : ℕ) (image : Option Image) (s : Option GroupService) → AreAlone d.unsent → RangedService ⊥ s → AreAlone (telegram_taken d group image s).unsent
telegram_alone d group None s h r = h
telegram_alone d group (Some image) None h r = h
telegram_alone d group (Some image) (Some Read) h r = absurd r
telegram_alone d group (Some image) (Some (Write value)) h r = h
telegram_alone d group (Some image) (Some (Response value)) h r = h

frame_alone : (d : DeviceState) (f : Ldata) (now : ℕ) (group : Bool) → (group ≡ true → HasReadCode f.tpdu → ⊥) → AreAlone d.unsent → AreAlone (cond {A = DeviceState} group (taken_group d f) (taken_alone d f now Whole)).unsent
frame_alone d f now true none h = telegram_alone d f.destination (runs d.kept) (group_service (service_in f.tpdu)) h (ranged_group ⊥ f.tpdu (none refl))
frame_alone d f now false none h = acted_alone (record d { connection = device_after d.connection (sender f) now (connection_took d f) }) (sender f) now (connection_took d f) h

takes_alone : (d : DeviceState) (f : Ldata) (now : ℕ) (t : TookFrame) → AsksNone f → AreAlone d.unsent → AreAlone (takes_so d f now Whole t).unsent
takes_alone d f now NotMine none h = h
takes_alone d f now TooLong none h = h
takes_alone d f now Off none h = h
takes_alone d f now Taken none h = frame_alone d f now f.group none h

rest_alone : (l : List Ldata) → AreAlone l → AreAlone (drop 1 l)
rest_alone [] h = tt
rest_alone (f ∷ l) h = h.1

shut_alone : (d : DeviceState) → AreAlone d.unsent → AreAlone (shut d).unsent
shut_alone d h = by_partner (partner_of d.connection) where
  by_partner : (o : Option IndAddr) → AreAlone (shut_from d o).unsent
  by_partner None = h
  by_partner (Some partner) = queued_alone (record d { connection = Closed }) partner disconnect h

-- ---- what it sends

first_alone : (l : List Ldata) → AreAlone l → IfSome (first_frame l) (λ f. f.group ≡ false)
first_alone [] h = tt
first_alone (f ∷ l) h = h.0

again_alone : (address : IndAddr) (e : DeviceEnd) → IfSome (outstanding_frame address e) (λ f. f.group ≡ false)
again_alone address Closed = tt
again_alone address (Idle s) = tt
again_alone address (Answering s a) = refl

-- ---- what rides on the tunnel of a line that began so

module _ (start : World) where
  -- the devices of the line, and no other; each frame that one has to send is to one other
  abbrev AllAlone : Devices → Type 0
  AllAlone devices = (a : ℕ) (d : DeviceState) → devices a ≡ Some d → (is_some (start.devices a) ≡ true) × AreAlone d.unsent

  abbrev IsKnown : Ldata → Type 0
  IsKnown y = is_stranger start (Takes (cemi_octets y)) ≡ false

  abbrev Flies : Option Ldata → Type 0
  Flies None = Unit {0}
  Flies (Some f) = AsksNone f × (1 ≤ length f.tpdu) × (length f.tpdu ≤ 64)

  record Rides (devices : Devices) (fly : Option Ldata) (q : List Ldata) : Type 0 where
    devices_are : AllAlone devices
    flies : Flies fly
    comes : Every IsKnown q

  -- ---- the devices after an event

  mapped : (a : ℕ) (g : DeviceState → DeviceState) → ((d : DeviceState) → AreAlone d.unsent → AreAlone (g d).unsent) → (o : Option DeviceState) → ((d : DeviceState) → o ≡ Some d → (is_some (start.devices a) ≡ true) × AreAlone d.unsent)
      → (d : DeviceState) → option_map g o ≡ Some d → (is_some (start.devices a) ≡ true) × AreAlone d.unsent
  mapped a g keeps None h d e = absurd (cc)
  mapped a g keeps (Some x) h d e = (let same : g x ≡ d = cc in let old = h x refl in (old.0, subst (λ (z : DeviceState). AreAlone z.unsent) same (keeps x old.1)))

  chosen : (a : ℕ) (b : Bool) (x y : Option DeviceState) → ((d : DeviceState) → x ≡ Some d → (is_some (start.devices a) ≡ true) × AreAlone d.unsent) → ((d : DeviceState) → y ≡ Some d → (is_some (start.devices a) ≡ true) × AreAlone d.unsent)
      → (d : DeviceState) → cond b x y ≡ Some d → (is_some (start.devices a) ≡ true) × AreAlone d.unsent
  chosen a true x y f g d e = f d e
  chosen a false x y f g d e = g d e

  changed_alone : (b : ℕ) (g : DeviceState → DeviceState) (devices : Devices) → ((d : DeviceState) → AreAlone d.unsent → AreAlone (g d).unsent) → AllAlone devices → AllAlone (changed b g devices)
  changed_alone b g devices keeps h a = chosen a (a == b) (option_map g (devices a)) (devices a) (mapped a g keeps (devices a) (h a)) (h a)

  all_alone : (now : ℕ) (out : List ℕ) (f : Ldata) (devices : Devices) → AsksNone f → AllAlone devices → AllAlone (all_take now out (Some f) devices)
  all_alone now out f devices none h a =
      chosen a (is_among out a) (devices a) (option_map (λ d. takes d f now Whole) (devices a)) (h a) (mapped a (λ d. takes d f now Whole) (λ d k. takes_alone d f now (took_of d f) none k) (devices a) (h a))

  others_alone : (now : ℕ) (out : List ℕ) (o : Option Ldata) (devices : Devices) → IfSome o (λ f. f.group ≡ false) → AllAlone devices → AllAlone (others_take now out o devices)
  others_alone now out None devices none h = h
  others_alone now out (Some f) devices none h = subst (λ b. AllAlone (cond {A = Devices} b (all_take now out (Some f) devices) devices)) (sym none) h

  -- ---- the frames that come

  con_known : (address : IndAddr) (f : Ldata) (error : Bool) → 1 ≤ length f.tpdu → length f.tpdu ≤ 64 → IsKnown (record (on_bus address f) { code = Con; error = error })
  con_known address f error some short = ap (λ o. not (is_confirmation o) && not (is_of_line start o)) (written_in Con error f.group address.raw f.destination f.tpdu some short tt)

  tests : (a b c d : Bool) → b ≡ true → c ≡ false → d ≡ true → (not a && not (b && not c && d)) ≡ false
  tests true b c d p q r = refl
  tests false true false true p q r = refl
  tests false true false false p q r = absurd (cc)
  tests false true true d p q r = absurd (cc)
  tests false false c d p q r = absurd (cc)

  sent_known : (b : ℕ) (f : Ldata) → IsFrameOf b f → IsShort (Some f) → f.group ≡ false → is_some (start.devices b) ≡ true → IsKnown f
  sent_known b f own short alone there =
      let reads : ldata_in (cemi_octets f) ≡ Some f = subst (λ (z : Ldata). ldata_in (cemi_octets z) ≡ Some z) (sym own.1) (written_in Ind false f.group f.source f.destination f.tpdu short.0 short.1 refl) in
      let ind : is_ind f.code ≡ true = ap (λ (z : Ldata). is_ind z.code) own.1 in
      let from : is_some (start.devices f.source) ≡ true = ap (λ (a : ℕ). is_some (start.devices a)) own.0 ∙ there in
      ap (λ o. not (is_confirmation o) && not (is_of_line start o)) reads ∙ tests (is_con f.code) (is_ind f.code) f.group (is_some (start.devices f.source)) ind alone from

  -- a frame of a device
  sends_alone : (w : World) (b : ℕ) (frame : DeviceState → Option Ldata) → ((d : DeviceState) → AreAlone d.unsent → IfSome (frame d) (λ f. f.group ≡ false)) → AllAlone w.devices → (o : Option DeviceState) → w.devices b ≡ o → IfSome (frame_by frame o) (λ f. (f.group ≡ false) × (is_some (start.devices b) ≡ true))
  sends_alone w b frame keeps h None is = tt
  sends_alone w b frame keeps h (Some d) is = let both = h b d is in by_frame (frame d) (keeps d both.1) both.0 where
    by_frame : (o : Option Ldata) → IfSome o (λ f. f.group ≡ false) → is_some (start.devices b) ≡ true → IfSome o (λ f. (f.group ≡ false) × (is_some (start.devices b) ≡ true))
    by_frame None k there = tt
    by_frame (Some f) k there = (k, there)

  -- ---- what the client does

  -- what is put asks for no value
  abbrev pub IsUnasked : Deed → Type 0
  IsUnasked (Puts octets) = IfSome (ldata_in octets) AsksNone
  IsUnasked _ = Unit {0}

  steps : (devices : Devices) (what : Deed) → IsUnasked what → Steps (Rides devices) (Rides devices) what
  steps devices (Puts octets) asks = λ f q reads cons h. record { devices_are = h.devices_are; flies = (subst (λ o. IfSome o AsksNone) reads asks, (read_range octets f reads).0, (read_range octets f reads).1); comes = h.comes }
  steps devices (Takes octets) asks = λ fly y q same h. record { devices_are = h.devices_are; flies = h.flies; comes = h.comes.1 }
  steps devices Loses asks = tt
  steps devices Nothing asks = λ fly q h. h

  -- ---- each event

  module _ (w : World) (r : List Entry) where
    abbrev now : ℕ
    now = w.tunnel.now

    abbrev So : Devices → TunnelEvent → Type 0
    So devices te = RidesOn (Rides w.devices) (Rides devices) r w.tunnel te

    over_bus : (left_out : List ℕ) (b : List Ldata) → w.tunnel.gateway.bus ≡ b → So (all_take now left_out (option_map (on_bus (me w)) (first_frame b)) w.devices) (carried w left_out (option_map (on_bus (me w)) (first_frame b)))
    over_bus left_out [] is = λ fly q h. record { devices_are = λ a d there. h.devices_are a d there; flies = h.flies; comes = h.comes }
    over_bus left_out (f ∷ fs) is = λ g q bus h.
        (let same : g ≡ f = (let e : g ∷ [] ≡ f ∷ fs = sym bus ∙ is in cc) in
        let fly : Flies (Some f) = subst (λ z. Flies (Some z)) same h.flies in
        record {
          devices_are = all_alone now left_out (on_bus (me w) f) w.devices fly.0 h.devices_are;
          flies = tt;
          comes = every_append IsKnown q (confirmation w left_out (on_bus (me w) f) ∷ []) h.comes (con_known (me w) f (not (is_confirmed w left_out (on_bus (me w) f))) fly.1 fly.2, tt);
        })

    comes_so : (b : ℕ) (devices : Devices) (o : Option Ldata) → ((f : Ldata) → o ≡ Some f → IsFrameOf b f) → IsShort o → (AllAlone w.devices → IfSome o (λ f. (f.group ≡ false) × (is_some (start.devices b) ≡ true))) → (AllAlone w.devices → AllAlone devices) → So devices (heard Comes o)
    comes_so b devices None own short sends keeps = λ fly q h. record { devices_are = keeps h.devices_are; flies = h.flies; comes = h.comes }
    comes_so b devices (Some f) own short sends keeps = λ fly q h.
        (let s = sends h.devices_are in
        record { devices_are = keeps h.devices_are; flies = h.flies; comes = every_append IsKnown q (f ∷ []) h.comes (sent_known b f (own f refl) short s.0 s.1, tt) })

    rides : NoStrays (channel r) w.tunnel.gateway.channel → (e : Event) → Owned w → line.IsCalm w e → SendsShort w e → ((item : Item) → item_of w.tunnel (tunnel_event w e) ≡ Some item → IsUnasked (deed (channel r) (entry item (tunnel.after w.tunnel (tunnel_event w e)).now))) → So (devices_after w e) (tunnel_event w e)
    rides none (Send octets) own calm short asks = steps w.devices (deed (channel r) (entry (Put octets) now)) (asks (Put octets) refl)
    rides none (From endpoint octets) own calm short asks = absurd calm
    rides none Renew own calm short asks = λ fresh. steps w.devices (deed (channel r) (entry Renewed now)) (asks Renewed refl)
    rides none (Up age) own calm short asks = λ fly q h. h
    rides none (UpRefused age status) own calm short asks = absurd calm
    rides none (Down age) own calm short asks = (λ item is. steps w.devices (deed (channel r) (entry item now)) (asks item is), none_strays (Rides w.devices) (Rides w.devices) (channel r) w.tunnel.gateway.channel none)
    rides none (LoseUp age) own calm short asks = absurd calm
    rides none (LoseDown age) own calm short asks = absurd calm
    rides none (Bus left_out) own calm short asks = over_bus left_out w.tunnel.gateway.bus refl
    rides none (BusTorn fresh octets) own calm short asks = absurd calm
    rides none (BusWorn octets) own calm short asks = absurd calm
    rides none (BusAgain device) own calm short asks = absurd calm
    rides none (DevSend device gateway left_out) own calm short asks =
        let sends : AllAlone w.devices → IfSome (waiting_at w device) (λ f. (f.group ≡ false) × (is_some (start.devices device) ≡ true)) = λ h. sends_alone w device waiting_frame (λ d k. first_alone d.unsent k) h (w.devices device) refl in
        let alone : AllAlone w.devices → IfSome (waiting_at w device) (λ f. f.group ≡ false) = λ h. first_of (waiting_at w device) (sends h) in
        subst (λ (g : AtGateway). So (devices_after w (DevSend device gateway left_out)) (heard g (waiting_at w device))) (sym calm.0)
        (comes_so device (devices_after w (DevSend device gateway left_out)) (waiting_at w device) (λ f is. waiting_owned w device f own is) short sends
        (λ h. changed_alone device pops (others_take now (device ∷ left_out) (waiting_at w device) w.devices) (λ d k. rest_alone d.unsent k) (others_alone now (device ∷ left_out) (waiting_at w device) w.devices (alone h) h)))
      where
        first_of : (o : Option Ldata) → IfSome o (λ f. (f.group ≡ false) × (is_some (start.devices device) ≡ true)) → IfSome o (λ f. f.group ≡ false)
        first_of None k = tt
        first_of (Some f) k = k.0
    rides none (DevRepeat device gateway) own calm short asks =
        subst (λ (g : AtGateway). So (devices_after w (DevRepeat device gateway)) (heard g (repeat_at w device))) (sym calm.0)
        (comes_so device (devices_after w (DevRepeat device gateway)) (repeat_at w device) (λ f is. repeat_owned w device f own is) short (λ h. sends_alone w device repeat_frame (λ d k. again_alone d.address d.connection) h (w.devices device) refl)
        (λ h. changed_alone device (λ d. repeats d now) w.devices (λ d k. k) h))
    rides none (DevClose device) own calm short asks = λ fly q h. record { devices_are = changed_alone device shut w.devices shut_alone h.devices_are; flies = h.flies; comes = h.comes }
    rides none GwAgain own calm short asks = absurd calm
    rides none GwRepeat own calm short asks = λ fly q h. h
    rides none GwClose own calm short asks = λ fly q h. h
    rides none (Cut device) own calm short asks = absurd calm
    rides none (On device) own calm short asks = absurd calm
    rides none (Pass ms) own calm short asks = λ q where_ h. h

  -- ---- the law

  -- no request that is put asks for a value
  abbrev pub AsksNothing : List Entry → Type 0
  AsksNothing [] = Unit {0}
  AsksNothing (x ∷ r) = IsUnasked (deed (channel r) x) × AsksNothing r

  asks_before : (o : Option Item) (n : ℕ) (r : List Entry) → AsksNothing (noted o n r) → AsksNothing r
  asks_before None n r h = h
  asks_before (Some item) n r h = h.1

  asks_of : (o : Option Item) (n : ℕ) (r : List Entry) → AsksNothing (noted o n r) → (item : Item) → o ≡ Some item → IsUnasked (deed (channel r) (entry item n))
  asks_of None n r h item is = absurd (cc)
  asks_of (Some x) n r h item is = (let same : x ≡ item = cc in subst (λ z. IsUnasked (deed (channel r) (entry z n))) same h.0)

  stays_before : (o : Option Item) (n : ℕ) (r : List Entry) → StaysOpen (noted o n r) → StaysOpen r
  stays_before None n r h = h
  stays_before (Some item) n r h = h.1

  known_of : (devices : Devices) (what : Deed) → Took (Rides devices) what → is_stranger start what ≡ false
  known_of devices (Puts octets) h = refl
  known_of devices (Takes octets) h = subst (λ (o : List ℕ). is_stranger start (Takes o) ≡ false) h.same h.so.comes.0
  known_of devices Loses h = refl
  known_of devices Nothing h = refl

  none_more : (o : Option Item) (n : ℕ) (r : List Entry) → ((item : Item) → o ≡ Some item → is_stranger start (deed (channel r) (entry item n)) ≡ false) → strangers start r ≡ 0 → strangers start (noted o n r) ≡ 0
  none_more None n r known none = none
  none_more (Some item) n r known none = rw (known item refl) none

  record Stands (events : List Event) : Type 0 where
    rides_so : Inv (Rides (replay start events).devices) (record_of start events) (replay start events).tunnel
    none : StaysOpen (record_of start events) → strangers start (record_of start events) ≡ 0

  module _ (f : IsFresh start) where
    first_alone_all : AllAlone start.devices
    first_alone_all a d is = (ap is_some is, subst AreAlone (sym (f.devices a d is).nothing_unsent) tt)

    stands : (events : List Event) → IsLegal Commissions start events → line.AreCalm start events → AreShort start events → Keeps (record_of start events) → AsksNothing (record_of start events) → Stands events
    stands [] legal calm short keeps asks =
        let P : Tunnel → Type 0 = λ t. Inv (Rides start.devices) [] t in
        record { rides_so = subst P (sym f.tunnel) (inl (begins (Rides start.devices) (me start) (record { devices_are = first_alone_all; flies = tt; comes = tt }))); none = λ stays. refl }
    stands (e ∷ past) legal calm short keeps asks =
        let w : World = replay start past in
        let r : List Entry = record_of start past in
        let t : Tunnel = w.tunnel in
        let te : TunnelEvent = tunnel_event w e in
        let o : Option Item = item_of t te in
        let n : ℕ = (tunnel.step t te).now in
        let before : Stands past = stands past legal.1 calm.1 short.1 (keeps_before o n r keeps) (asks_before o n r asks) in
        let own : Owned w = owned start past f in
        let none : NoStrays (channel r) t.gateway.channel = own_frames start past f legal.1 in
        let may : May r o n = may_of o n r keeps in
        let asks_now : (item : Item) → o ≡ Some item → IsUnasked (deed (channel r) (entry item (tunnel.after t te).now)) = subst (λ m. (item : Item) → o ≡ Some item → IsUnasked (deed (channel r) (entry item m))) (step_now t te) (asks_of o n r asks) in
        record {
          rides_so = step_kept (Rides w.devices) (Rides (devices_after w e)) r t te before.rides_so legal.0.tunnel (event_calm w e own calm.0 short.0) may (rides w r none e own calm.0 short.0 asks_now);
          none = λ stays.
              none_more o n r (λ item is. known_of w.devices (deed (channel r) (entry item n)) (took_at (Rides w.devices) r t te none before.rides_so legal.0.tunnel (event_calm w e own calm.0 short.0) may item is (subst (λ z. StaysOpen (noted z n r)) is stays)))
              (before.none (stays_before o n r stays));
        }

    pub none_strange : (events : List Event) → IsLegal Commissions start events → line.AreCalm start events → AreShort start events → Keeps (record_of start events) → AsksNothing (record_of start events) → StaysOpen (record_of start events) → strangers start (record_of start events) ≡ 0
    none_strange events legal calm short keeps asks = (stands events legal calm short keeps asks).none
