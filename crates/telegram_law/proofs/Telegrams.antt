-- Whenever a device with power gets a group telegram, it acts right, at every event of the line.
use Rattle.std.proofs.Common.{ℕ, ◌≡◌, List, [], ◌∷◌, Bool, true, false, not, ◌&&◌, ◌==◌, Option, Some, None, refl, sym, ap, subst, ◌∙◌, if◌then◌else◌}
use Rattle.std.proofs.lemmas.Option.{same_Some}
use Rattle.knx_model.specs.declared.frames.cemi.Ldata.{Ldata}
use Rattle.knx_model.specs.ApduReading.{option_map, service_in}
use Rattle.knx_model.specs.Device.{runs}
use Rattle.knx_model.specs.DeviceFrames.{Outcome, Whole, takes, group_service}
use Rattle.knx_model.specs.DeviceState.{DeviceState}
use Rattle.line_model.proofs.Reached.{reached}
use Rattle.line_model.specs.Arrives.{arrives, only_for, taken_as}
use Rattle.line_model.specs.Telegrams.{ActsByImage, EventActsRight, TelegramsActRight}
use Rattle.line_model.specs.World.{World, Event, Send, From, Renew, Up, UpRefused, Down, LoseUp, LoseDown, Bus, BusTorn, BusWorn, BusAgain, DevSend, DevRepeat, DevClose, GwAgain, GwRepeat, GwClose, Cut, On, Pass, next_frame, now, replay}
use Rattle.telegram_law.proofs.Telegram.{acts_right}

-- ---- a group telegram comes whole

none_is : {P : Type 0} (frame : Ldata) → ◌≡◌ {A = Option Ldata} None (Some frame) → P
none_is frame e = cc

isnt_false : {P : Type 0} → false ≡ true → P
isnt_false e = cc

not_alone : {P : Type 0} (g b : Bool) (f frame : Ldata) → f.group ≡ g → (if not g && b then Some f else None) ≡ Some frame → frame.group ≡ true → P
not_alone true b f frame is comes group = none_is frame comes
not_alone false false f frame is comes group = none_is frame comes
not_alone false true f frame is comes group = isnt_false (sym is ∙ ap (λ (x : Ldata). x.group) (same_Some f frame comes) ∙ group)

not_for_one : {P : Type 0} (device : ℕ) (q : Option Ldata) (frame : Ldata) → only_for device q ≡ Some frame → frame.group ≡ true → P
not_for_one device None frame comes group = none_is frame comes
not_for_one device (Some f) frame comes group = not_alone f.group (f.destination == device) f frame refl comes group

whole : (w : World) (device : ℕ) (e : Event) (frame : Ldata) → arrives w device e ≡ Some frame → frame.group ≡ true → taken_as e ≡ Whole
whole w device (BusTorn fresh octets) frame comes group = not_for_one device (next_frame w) frame comes group
whole w device (BusWorn octets) frame comes group = not_for_one device (next_frame w) frame comes group
whole w device (Send octets) frame comes group = refl
whole w device (From endpoint octets) frame comes group = refl
whole w device Renew frame comes group = refl
whole w device (Up age) frame comes group = refl
whole w device (UpRefused age status) frame comes group = refl
whole w device (Down age) frame comes group = refl
whole w device (LoseUp age) frame comes group = refl
whole w device (LoseDown age) frame comes group = refl
whole w device (Bus left_out) frame comes group = refl
whole w device (BusAgain address) frame comes group = refl
whole w device (DevSend from gateway left_out) frame comes group = refl
whole w device (DevRepeat address gateway) frame comes group = refl
whole w device (DevClose address) frame comes group = refl
whole w device GwAgain frame comes group = refl
whole w device GwRepeat frame comes group = refl
whole w device GwClose frame comes group = refl
whole w device (Cut address) frame comes group = refl
whole w device (On address) frame comes group = refl
whole w device (Pass ms) frame comes group = refl

-- ---- every event

taken : (o : Option DeviceState) (old new : DeviceState) (frame : Ldata) (t : ℕ) (outcome : Outcome) → o ≡ Some old → option_map (λ d. takes d frame t outcome) o ≡ Some new → takes old frame t outcome ≡ new
taken o old new frame t outcome there after = same_Some (takes old frame t outcome) new (ap (option_map (λ d. takes d frame t outcome)) (sym there) ∙ after)

event_right : (w : World) (e : Event) → EventActsRight ActsByImage w e
event_right w e device old new frame there after power comes group =
    let so : takes old frame (now w) (taken_as e) ≡ new = taken (w.devices device) old new frame (now w) (taken_as e) there (sym (reached w device e frame comes) ∙ after) in
    let is : takes old frame (now w) Whole ≡ new = ap (takes old frame (now w)) (sym (whole w device e frame comes group)) ∙ so in
    subst (ActsByImage frame.destination (group_service (service_in frame.tpdu)) (runs old.kept) old) is (acts_right old frame (now w) power group)

pub telegrams_act_right : (start : World) (events : List Event) → TelegramsActRight ActsByImage start events
telegrams_act_right start [] = tt
telegrams_act_right start (e ∷ events) = (event_right (replay start events) e, telegrams_act_right start events)
