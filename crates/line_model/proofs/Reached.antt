-- What an event makes of a device by a frame that comes to it, and what stays of one that nothing reaches.
use Rattle.std.proofs.Common.{◌≡◌, ◌≢◌, ℕ, List, ◌∷◌, Bool, true, false, not, ◌&&◌, ◌==◌, refl, sym, ap, ◌∙◌, arith, inl, inr, Option, Some, None, if◌then◌else◌}
use Rattle.std.proofs.lemmas.Bool.{or_left, ne_eqb}
use Rattle.std.proofs.lemmas.Option.{same_Some}
use Rattle.knx_model.specs.declared.frames.cemi.Ldata.{Ldata}
use Rattle.knx_model.specs.ApduReading.{option_map}
use Rattle.knx_model.specs.DeviceState.{DeviceState, switched_on}
use Rattle.knx_model.specs.DeviceFrames.{Outcome, Whole, Torn, Worn, takes, taken_again, taken_last}
use Rattle.knx_model.specs.DeviceSending.{pops, shut}
use Rattle.line_model.specs.Arrives.{arrives, for_others, only_for, taken_as, unless_among}
use Rattle.line_model.specs.Concerns.{Concerns, IsOwn}
use Rattle.line_model.specs.Legal.{DevicesAllow, GoesSo}
use Rattle.line_model.specs.World.{World, Event, Send, From, Renew, Up, UpRefused, Down, LoseUp, LoseDown, Bus, BusTorn, BusWorn, BusAgain, DevSend, DevRepeat, DevClose, GwAgain, GwRepeat, GwClose, Cut, On, Pass, Devices, changed, all_take, one_takes, others_take, frame_by, is_among, next_frame, waiting_at, now, step}

none_is : {P : Type 0} (frame : Ldata) → ◌≡◌ {A = Option Ldata} None (Some frame) → P
none_is frame e = cc

isnt_true : {P : Type 0} → false ≡ true → P
isnt_true e = cc

turned : (a b : ℕ) → (a == b) ≡ true → (b == a) ≡ true
turned a b e = grind arith

other_turned : (a b : ℕ) → (a == b) ≡ false → (b == a) ≡ false
other_turned a b e = grind arith

pub where_not : (b : Bool) (x y : Option DeviceState) → b ≡ false → (if b then x else y) ≡ y
where_not true x y e = cc
where_not false x y e = refl

pub where_lost : (b : Bool) (x y : Option DeviceState) → b ≡ true → (if b then x else y) ≡ x
where_lost true x y e = refl
where_lost false x y e = cc

pub unchanged : (it device : ℕ) (change : DeviceState → DeviceState) (devices : Devices) → (device ≡ it → ⊥) → changed it change devices device ≡ devices device
unchanged it device change devices apart = where_not (device == it) (option_map change (devices device)) (devices device) (ne_eqb device it apart)

pub left_out_of : (at : ℕ) (left_out : List ℕ) (frame : Option Ldata) (devices : Devices) (device : ℕ) → is_among left_out device ≡ true → all_take at left_out frame devices device ≡ devices device
left_out_of at left_out None devices device among = refl
left_out_of at left_out (Some frame) devices device among = where_lost (is_among left_out device) (devices device) _ among

-- ---- a device that nothing reaches

is_lost : (b : Bool) (frame : Ldata) → (if b then None else Some frame) ≡ None → b ≡ true
is_lost true frame e = refl
is_lost false frame e = none_is frame (sym e)

lost_for : (at : ℕ) (left_out : List ℕ) (frame : Option Ldata) (devices : Devices) (device : ℕ) → unless_among left_out device frame ≡ None → all_take at left_out frame devices device ≡ devices device
lost_for at left_out None devices device none = refl
lost_for at left_out (Some frame) devices device none = left_out_of at left_out (Some frame) devices device (is_lost (is_among left_out device) frame none)

is_other : (b c : Bool) (frame : Ldata) → b ≡ false → (if not b && c then Some frame else None) ≡ None → c ≡ false
is_other true c frame alone none = isnt_true (sym alone)
is_other false true frame alone none = none_is frame (sym none)
is_other false false frame alone none = refl

not_for : (w : World) (outcome : Outcome) (frame : Option Ldata) (device : ℕ) → GoesSo w outcome frame → only_for device frame ≡ None → one_takes (now w) outcome frame w.devices device ≡ w.devices device
not_for w outcome None device may none = refl
not_for w outcome (Some frame) device may none =
    where_not (device == frame.destination) (option_map (λ d. takes d frame (now w) outcome) (w.devices device)) (w.devices device)
    (other_turned frame.destination device (is_other frame.group (frame.destination == device) frame may.alone none))

nothing_last : (at : ℕ) (o : Option DeviceState) → frame_by (λ d. d.last) o ≡ None → option_map (λ d. taken_again d at) o ≡ o
nothing_last at None e = refl
nothing_last at (Some d) e = ap (λ (l : Option Ldata). Some (taken_last d at l)) e

not_again : (b c : Bool) (o : Option DeviceState) (at : ℕ) → (c ≡ true → b ≡ true) → (if b then frame_by (λ d. d.last) o else None) ≡ None → (if c then option_map (λ d. taken_again d at) o else o) ≡ o
not_again true true o at same none = nothing_last at o none
not_again false true o at same none = isnt_true (same refl)
not_again b false o at same none = refl

not_heard : (at : ℕ) (left_out : List ℕ) (frame : Option Ldata) (devices : Devices) (device : ℕ) → unless_among left_out device (for_others frame) ≡ None → others_take at left_out frame devices device ≡ devices device
not_heard at left_out None devices device none = refl
not_heard at left_out (Some frame) devices device none = by_group frame.group none
  where
    by_group : (g : Bool) → (if is_among left_out device then None else (if g then Some frame else None)) ≡ None → (if g then all_take at left_out (Some frame) devices else devices) device ≡ devices device
    by_group true lost = left_out_of at left_out (Some frame) devices device (is_lost (is_among left_out device) frame lost)
    by_group false lost = refl

pub unreached : (w : World) (device : ℕ) (e : Event) → DevicesAllow w e → arrives w device e ≡ None → (IsOwn device e → ⊥) → (step w e).devices device ≡ w.devices device
unreached w device (Send octets) may none other = refl
unreached w device (From endpoint octets) may none other = refl
unreached w device Renew may none other = refl
unreached w device (Up age) may none other = refl
unreached w device (UpRefused age status) may none other = refl
unreached w device (Down age) may none other = refl
unreached w device (LoseUp age) may none other = refl
unreached w device (LoseDown age) may none other = refl
unreached w device (Bus left_out) may none other = lost_for (now w) left_out (next_frame w) w.devices device none
unreached w device (BusTorn fresh octets) may none other = not_for w (Torn fresh octets) (next_frame w) device may none
unreached w device (BusWorn octets) may none other = not_for w (Worn octets) (next_frame w) device may none
unreached w device (BusAgain it) may none other = not_again (it == device) (device == it) (w.devices device) (now w) (turned device it) none
unreached w device (DevSend it gateway left_out) may none other =
    unchanged it device pops (others_take (now w) (it ∷ left_out) (waiting_at w it) w.devices) other
    ∙ not_heard (now w) (it ∷ left_out) (waiting_at w it) w.devices device none
unreached w device (DevRepeat it gateway) may none other = unchanged it device _ w.devices other
unreached w device (DevClose it) may none other = unchanged it device shut w.devices other
unreached w device GwAgain may none other = refl
unreached w device GwRepeat may none other = refl
unreached w device GwClose may none other = refl
unreached w device (Cut it) may none other = unchanged it device _ w.devices other
unreached w device (On it) may none other = unchanged it device switched_on w.devices other
unreached w device (Pass ms) may none other = refl

comes_none : (o : Option Ldata) → (◌≢◌ {A = Option Ldata} o None → ⊥) → o ≡ None
comes_none None away = refl
comes_none (Some frame) away = absurd (away (λ e. none_is frame (sym e)))

pub apart : (w : World) (device : ℕ) (e : Event) → DevicesAllow w e → (Concerns w device e → ⊥) → (step w e).devices device ≡ w.devices device
apart w device e may away = unreached w device e may (comes_none (arrives w device e) (λ comes. away (inl comes))) (λ own. away (inr own))

-- ---- a device to which a frame comes

came : (b : Bool) (o : Option DeviceState) (f frame : Ldata) (at : ℕ) → (if b then None else Some f) ≡ Some frame
    → (if b then o else option_map (λ d. takes d f at Whole) o) ≡ option_map (λ d. takes d frame at Whole) o
came true o f frame at comes = none_is frame comes
came false o f frame at comes = ap (λ (x : Ldata). option_map (λ d. takes d x at Whole) o) (same_Some f frame comes)

none_came : {P : Type 0} (b : Bool) (frame : Ldata) → ◌≡◌ {A = Option Ldata} (if b then None else None) (Some frame) → P
none_came true frame comes = none_is frame comes
none_came false frame comes = none_is frame comes

to_all : (at : ℕ) (left_out : List ℕ) (q : Option Ldata) (devices : Devices) (device : ℕ) (frame : Ldata) → unless_among left_out device q ≡ Some frame
    → all_take at left_out q devices device ≡ option_map (λ d. takes d frame at Whole) (devices device)
to_all at left_out None devices device frame comes = none_came (is_among left_out device) frame comes
to_all at left_out (Some f) devices device frame comes = came (is_among left_out device) (devices device) f frame at comes

alone : (g b c : Bool) (o : Option DeviceState) (f frame : Ldata) (at : ℕ) (outcome : Outcome) → (b ≡ true → c ≡ true) → (if not g && b then Some f else None) ≡ Some frame
    → (if c then option_map (λ d. takes d f at outcome) o else o) ≡ option_map (λ d. takes d frame at outcome) o
alone true b c o f frame at outcome same comes = none_is frame comes
alone false false c o f frame at outcome same comes = none_is frame comes
alone false true false o f frame at outcome same comes = isnt_true (same refl)
alone false true true o f frame at outcome same comes = ap (λ (x : Ldata). option_map (λ d. takes d x at outcome) o) (same_Some f frame comes)

to_one : (at : ℕ) (outcome : Outcome) (q : Option Ldata) (devices : Devices) (device : ℕ) (frame : Ldata) → only_for device q ≡ Some frame
    → one_takes at outcome q devices device ≡ option_map (λ d. takes d frame at outcome) (devices device)
to_one at outcome None devices device frame comes = none_is frame comes
to_one at outcome (Some f) devices device frame comes =
    alone f.group (f.destination == device) (device == f.destination) (devices device) f frame at outcome (turned f.destination device) comes

last_again : (o : Option DeviceState) (frame : Ldata) (at : ℕ) → frame_by (λ d. d.last) o ≡ Some frame → option_map (λ d. taken_again d at) o ≡ option_map (λ d. takes d frame at Whole) o
last_again None frame at comes = none_is frame comes
last_again (Some d) frame at comes = ap (λ (l : Option Ldata). Some (taken_last d at l)) comes

again : (b c : Bool) (o : Option DeviceState) (frame : Ldata) (at : ℕ) → (b ≡ true → c ≡ true) → (if b then frame_by (λ d. d.last) o else None) ≡ Some frame
    → (if c then option_map (λ d. taken_again d at) o else o) ≡ option_map (λ d. takes d frame at Whole) o
again false c o frame at same comes = none_is frame comes
again true false o frame at same comes = isnt_true (same refl)
again true true o frame at same comes = last_again o frame at comes

-- the sender is among those to which its telegram doesn't come
first_among : (from device : ℕ) (left_out : List ℕ) → (device == from) ≡ true → is_among (from ∷ left_out) device ≡ true
first_among from device left_out e = or_left (from == device) (is_among left_out device) (turned device from e)

not_left_out : (b : Bool) (q : Option Ldata) (frame : Ldata) → (if b then None else q) ≡ Some frame → b ≡ false
not_left_out true q frame comes = none_is frame comes
not_left_out false q frame comes = refl

isnt : (a b : Bool) → (a ≡ true → b ≡ true) → b ≡ false → a ≡ false
isnt true b same e = isnt_true (sym e ∙ same refl)
isnt false b same e = refl

told : (at : ℕ) (left_out : List ℕ) (q : Option Ldata) (devices : Devices) (device : ℕ) (frame : Ldata) → unless_among left_out device (for_others q) ≡ Some frame
    → others_take at left_out q devices device ≡ option_map (λ d. takes d frame at Whole) (devices device)
told at left_out None devices device frame comes = none_came (is_among left_out device) frame comes
told at left_out (Some f) devices device frame comes = by_group f.group comes
  where
    by_group : (g : Bool) → (if is_among left_out device then None else (if g then Some f else None)) ≡ Some frame
        → (if g then all_take at left_out (Some f) devices else devices) device ≡ option_map (λ d. takes d frame at Whole) (devices device)
    by_group true h = to_all at left_out (Some f) devices device frame h
    by_group false h = none_came (is_among left_out device) frame h

spoke : (at from : ℕ) (left_out : List ℕ) (q : Option Ldata) (devices : Devices) (device : ℕ) (frame : Ldata) → unless_among (from ∷ left_out) device (for_others q) ≡ Some frame
    → changed from pops (others_take at (from ∷ left_out) q devices) device ≡ option_map (λ d. takes d frame at Whole) (devices device)
spoke at from left_out q devices device frame comes =
    let other = isnt (device == from) (is_among (from ∷ left_out) device) (first_among from device left_out) (not_left_out (is_among (from ∷ left_out) device) (for_others q) frame comes) in
    where_not (device == from) _ (others_take at (from ∷ left_out) q devices device) other ∙ told at (from ∷ left_out) q devices device frame comes

pub reached : (w : World) (device : ℕ) (e : Event) (frame : Ldata) → arrives w device e ≡ Some frame → (step w e).devices device ≡ option_map (λ d. takes d frame (now w) (taken_as e)) (w.devices device)
reached w device (Send octets) frame comes = none_is frame comes
reached w device (From endpoint octets) frame comes = none_is frame comes
reached w device Renew frame comes = none_is frame comes
reached w device (Up age) frame comes = none_is frame comes
reached w device (UpRefused age status) frame comes = none_is frame comes
reached w device (Down age) frame comes = none_is frame comes
reached w device (LoseUp age) frame comes = none_is frame comes
reached w device (LoseDown age) frame comes = none_is frame comes
reached w device (Bus left_out) frame comes = to_all (now w) left_out (next_frame w) w.devices device frame comes
reached w device (BusTorn fresh octets) frame comes = to_one (now w) (Torn fresh octets) (next_frame w) w.devices device frame comes
reached w device (BusWorn octets) frame comes = to_one (now w) (Worn octets) (next_frame w) w.devices device frame comes
reached w device (BusAgain it) frame comes = again (it == device) (device == it) (w.devices device) frame (now w) (turned it device) comes
reached w device (DevSend from gateway left_out) frame comes = spoke (now w) from left_out (waiting_at w from) w.devices device frame comes
reached w device (DevRepeat it gateway) frame comes = none_is frame comes
reached w device (DevClose it) frame comes = none_is frame comes
reached w device GwAgain frame comes = none_is frame comes
reached w device GwRepeat frame comes = none_is frame comes
reached w device GwClose frame comes = none_is frame comes
reached w device (Cut it) frame comes = none_is frame comes
reached w device (On it) frame comes = none_is frame comes
reached w device (Pass ms) frame comes = none_is frame comes
