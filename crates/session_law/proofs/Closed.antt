-- A device without connection acts on nothing until its next T_Connect.
use Rattle.std.proofs.Common.{◌≡◌, ℕ, List, [], ◌∷◌, Bool, true, false, not, ◌&&◌, cond, Option, Some, None, refl, sym, ◌∙◌, ap, subst, if◌then◌else◌}
use Rattle.std.proofs.lemmas.Bool.{false≢true}
use Rattle.knx_model.specs.declared.address.IndAddr.{IndAddr}
use Rattle.knx_model.specs.declared.frames.cemi.Ldata.{Ldata}
use Rattle.knx_model.specs.declared.connection.TransportFrame.{TransportFrame}
use Rattle.knx_model.specs.declared.connection.TransportFrame.TheVariants.{Connect, Disconnect, Ack, Nak, Numbered, Other}
use Rattle.knx_model.specs.declared.connection.DeviceTook.{DeviceTook}
use Rattle.knx_model.specs.declared.connection.DeviceTook.TheVariants as took
use Rattle.knx_model.specs.declared.connection.ClientExpired.{ClientExpired}
use Rattle.knx_model.specs.declared.connection.ClientExpired.TheVariants as over
use Rattle.knx_model.specs.declared.device.Took.{Took}
use Rattle.knx_model.specs.declared.device.Took.TheVariants.{NotMine, TooLong, Taken, Off}
use Rattle.knx_model.specs.ApduReading.{service_in}
use Rattle.knx_model.specs.Connection.{frame_in}
use Rattle.knx_model.specs.ClientConnection.{client_sent, client_expired}
use Rattle.knx_model.specs.DeviceConnection.{DeviceEnd, Closed, partner_of, device_took, device_after, device_repeated}
use Rattle.knx_model.specs.Device.{runs}
use Rattle.knx_model.specs.DeviceState.{DeviceState}
use Rattle.knx_model.specs.DeviceFrames.{Outcome, Whole, Torn, Worn, acted, connection_took, sender, taken_alone, took_of, is_taken, takes_so, takes, group_service}
use Rattle.knx_model.specs.DeviceSending.{shut_from}
use Rattle.session_law.specs.World.{Message, Con, Ind, World}
use Rattle.session_law.specs.Client.{asks_so, waits_so, replies_so, takes_oldest}
use Rattle.session_law.specs.Device.{took_alone, service_of, carries, carries_lost, gets_again}
use Rattle.session_law.specs.Events.{Event, Connects, Asks, Waits, Replies, Leaves, Takes, Loses, Joins, Drops, Bus, BusLost, BusAgain, Group, Elsewhere, DevSend, DevRepeat, DevClose, GwAgain, Cut, On, Pass, step, replay}
use Rattle.session_law.specs.Promises.{service_in_frame, acts_on, frame_by, is_connected, connects_by, TakesNoConnect, ActsOnNothing}
use Rattle.session_law.proofs.Taken.{tells_if}

abbrev IsClosed : DeviceState → Type 0
IsClosed d = ◌≡◌ {A = DeviceEnd} d.connection Closed

-- ---- it acts on no service

closed_service : (from : IndAddr) (s : TransportFrame) → service_of (device_took Closed from s) ≡ None
unfolding device_took
closed_service from Connect = refl
closed_service from Disconnect = refl
closed_service from (Ack m) = refl
closed_service from (Nak m) = refl
closed_service from (Numbered n apdu) = refl
closed_service from Other = refl

alone_service : (b : Bool) (k : DeviceTook) → service_of k ≡ None → service_of (if b then k else took.Dropped) ≡ None
alone_service true k h = h
alone_service false k h = refl

no_service : (d : DeviceState) (frame : Option Ldata) → IsClosed d → service_in_frame d frame ≡ None
no_service d None h = refl
no_service d (Some frame) h =
    let P : DeviceEnd → Type 0 = λ e. service_of (device_took e (sender frame) (frame_in frame.tpdu)) ≡ None in
    alone_service (is_taken (took_of d frame) && not frame.group) (connection_took d frame) (subst P (sym h) (closed_service (sender frame) (frame_in frame.tpdu)))

acts_none : (w : World) (e : Event) → IsClosed w.device → acts_on w e ≡ None
acts_none w e h = no_service w.device (frame_by w e) h

-- ---- it stays closed

closed_by : (d : DeviceState) (from : IndAddr) (now : ℕ) (outcome : Outcome) (s : TransportFrame) → is_connected (device_took Closed from s) ≡ false
    → IsClosed (acted (record d { connection = device_after Closed from now (device_took Closed from s) }) from now outcome (device_took Closed from s))
unfolding device_took device_after
closed_by d from now outcome Connect f = absurd (false≢true (sym f))
closed_by d from now outcome Disconnect f = refl
closed_by d from now outcome (Ack m) f = refl
closed_by d from now outcome (Nak m) f = refl
closed_by d from now outcome (Numbered n apdu) f = refl
closed_by d from now outcome Other f = refl

closed_alone : (d : DeviceState) (frame : Ldata) (now : ℕ) (outcome : Outcome) → IsClosed d → is_connected (connection_took d frame) ≡ false → IsClosed (taken_alone d frame now outcome)
closed_alone d frame now outcome h f =
    let P : DeviceEnd → Type 0 = λ e. is_connected (device_took e (sender frame) (frame_in frame.tpdu)) ≡ false
    → IsClosed (acted (record d { connection = device_after e (sender frame) now (device_took e (sender frame) (frame_in frame.tpdu)) }) (sender frame) now outcome (device_took e (sender frame) (frame_in frame.tpdu))) in
    subst P (sym h) (closed_by d (sender frame) now outcome (frame_in frame.tpdu)) f

abbrev alone_so : DeviceState → Ldata → Took → DeviceTook
alone_so d frame t = if is_taken t && not frame.group then connection_took d frame else took.Dropped

closed_so : (d : DeviceState) (frame : Ldata) (now : ℕ) (outcome : Outcome) (group : Bool) → frame.group ≡ group → IsClosed d → (t : Took) → is_connected (alone_so d frame t) ≡ false → IsClosed (takes_so d frame now outcome t)
closed_so d frame now Whole true g h Taken f = rw g ((tells_if d frame.destination (runs d.kept) (group_service (service_in frame.tpdu))).0 ∙ h)
closed_so d frame now (Torn fresh octets) true g h Taken f = refl
closed_so d frame now (Worn octets) true g h Taken f = rw g ((tells_if d frame.destination (runs d.kept) (group_service (service_in frame.tpdu))).0 ∙ h)
closed_so d frame now Whole false g h Taken f = rw g (closed_alone d frame now Whole h (subst (λ (b : Bool). is_connected (if is_taken Taken && not b then connection_took d frame else took.Dropped) ≡ false) g f))
closed_so d frame now (Torn fresh octets) false g h Taken f = refl
closed_so d frame now (Worn octets) false g h Taken f = rw g (closed_alone d frame now (Worn octets) h (subst (λ (b : Bool). is_connected (if is_taken Taken && not b then connection_took d frame else took.Dropped) ≡ false) g f))
closed_so d frame now outcome group g h NotMine f = h
closed_so d frame now outcome group g h TooLong f = h
closed_so d frame now outcome group g h Off f = h

closed_takes : (d : DeviceState) (frame : Ldata) (now : ℕ) (outcome : Outcome) → IsClosed d → is_connected (took_alone d frame) ≡ false → IsClosed (takes d frame now outcome)
closed_takes d frame now outcome h f = closed_so d frame now outcome frame.group refl h (took_of d frame) f

closed_carries : (w : World) (frame : Option Ldata) (outcome : Outcome) → IsClosed w.device → connects_by w.device frame ≡ false → IsClosed (carries w frame outcome).device
closed_carries w None outcome h f = h
closed_carries w (Some frame) outcome h f = closed_takes w.device frame w.now outcome h f

closed_lost : (w : World) (frame : Option Ldata) → IsClosed w.device → IsClosed (carries_lost w frame).device
closed_lost w None h = h
closed_lost w (Some frame) h = h

closed_again : (w : World) (frame : Option Ldata) → IsClosed w.device → connects_by w.device frame ≡ false → IsClosed (gets_again w frame).device
closed_again w None h f = h
closed_again w (Some frame) h f = closed_takes w.device frame w.now Whole h f

shut_closed : (d : DeviceState) (p : Option IndAddr) → IsClosed d → IsClosed (shut_from d p)
shut_closed d None h = h
shut_closed d (Some to) h = refl

on_closed : (d e : DeviceState) (b : Bool) → IsClosed d → IsClosed e → IsClosed (cond {A = DeviceState} b d e)
on_closed d e true h k = h
on_closed d e false h k = k

asks_closed : (w : World) (apdu : List ℕ) (o : Option (List ℕ)) → IsClosed w.device → IsClosed (asks_so w apdu o).device
asks_closed w apdu None h = h
asks_closed w apdu (Some tpdu) h = h

waits_closed : (w : World) (x : ClientExpired) → IsClosed w.device → IsClosed (waits_so w x).device
waits_closed w over.Nothing h = h
waits_closed w (over.Repeat tpdu) h = h
waits_closed w (over.Silent ms) h = h

replies_closed : (w : World) (l : List (List ℕ)) → IsClosed w.device → IsClosed (replies_so w l).device
replies_closed w [] h = h
replies_closed w (x ∷ l) h = h

takes_closed : (w : World) (l : List Message) → IsClosed w.device → IsClosed (takes_oldest w l).device
takes_closed w [] h = h
takes_closed w (Con error ∷ l) h = h
takes_closed w (Ind frame ∷ l) h = h

closed_step : (w : World) (e : Event) → IsClosed w.device → connects_by w.device (frame_by w e) ≡ false → IsClosed (step w e).device
closed_step w Connects h f = h
closed_step w (Asks apdu) h f = asks_closed w apdu (client_sent w.client.end apdu) h
closed_step w Waits h f = waits_closed w (client_expired w.client.end w.now) h
closed_step w Replies h f = replies_closed w w.client.owed h
closed_step w Leaves h f = h
closed_step w Takes h f = takes_closed w w.coming h
closed_step w Loses h f = h
closed_step w (Joins n) h f = h
closed_step w (Drops n) h f = h
closed_step w (Bus outcome) h f = closed_carries w w.flying outcome h f
closed_step w BusLost h f = closed_lost w w.flying h
closed_step w BusAgain h f = closed_again w w.device.last h f
closed_step w (Group frame) h f = closed_takes w.device frame w.now Whole h f
closed_step w Elsewhere h f = h
closed_step w (DevSend gateway) h f = h
closed_step w (DevRepeat gateway) h f = ap (λ (e : DeviceEnd). device_repeated e w.now) h
closed_step w DevClose h f = shut_closed w.device (partner_of w.device.connection) h
closed_step w GwAgain h f = h
closed_step w Cut h f = refl
closed_step w On h f = on_closed w.device _ w.device.power h refl
closed_step w (Pass ms) h f = h

pub stays_closed : (w : World) (events : List Event) → w.device.connection ≡ Closed → TakesNoConnect w events → (replay w events).device.connection ≡ Closed
stays_closed w [] h f = h
stays_closed w (e ∷ events) h f = closed_step (replay w events) e (stays_closed w events h f.1) f.0

pub acts_on_nothing : (w : World) (events : List Event) → w.device.connection ≡ Closed → TakesNoConnect w events → ActsOnNothing w events
acts_on_nothing w [] h f = tt
acts_on_nothing w (e ∷ events) h f = (acts_none (replay w events) e (stays_closed w events h f.1), acts_on_nothing w events h f.1)
