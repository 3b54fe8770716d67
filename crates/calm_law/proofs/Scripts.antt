-- A script that disturbs nothing has calm events alone.
use Rattle.std.proofs.Common.{◌≡◌, ℕ, suc, List, [], ◌∷◌, ◌++◌, Bool, true, false, cond, ◌&&◌, ◌||◌, Option, Some, None, refl, sym, ◌∙◌, ap, subst}
use Rattle.std.specs.List.{list_all, filter}
use Rattle.std.proofs.lemmas.Bool.{and_parts}
use Rattle.knx_model.specs.declared.address.GroupAddr.{GroupAddr}
use Rattle.knx_model.specs.declared.address.IndAddr.{IndAddr}
use Rattle.knx_model.specs.declared.device.WriteKind.{WriteKind}
use Rattle.knx_model.specs.declared.device.WriteKind.TheVariants as kinds
use Rattle.knx_model.specs.declared.frames.cemi.Ldata.{Ldata}
use Rattle.knx_model.specs.declared.script.GroupService.{GroupService}
use Rattle.knx_model.specs.declared.script.ScriptWhat.{ScriptWhat}
use Rattle.knx_model.specs.declared.script.ScriptWhat.TheVariants as line
use Rattle.knx_model.specs.ApduReading.{option_map}
use Rattle.knx_model.specs.Device.{Effect}
use Rattle.line_model.specs.Tunnel.{Commissions}
use Rattle.line_model.specs.World.{World, Event, Send, From, Renew, Up, UpRefused, Down, LoseUp, LoseDown, Bus, BusTorn, BusWorn, BusAgain, DevSend, DevRepeat, DevClose, GwAgain, GwRepeat, GwClose, Cut, On, Pass, next_frame, replay}
use Rattle.line_model.specs.Legal.{MayHappen, IsLegal}
use Rattle.line_model.specs.Counts.{is_connect_at, frames_to, connects_reached}
use Rattle.line_model.specs.Lines.{Script, is_line, has_line, or_later, first_said, cut_at, status_at, loses_up, loses_down, repeats_up, repeats_down, loses_to, loses_from, repeats_to, wears, closes, drops, cuts, refuses}
use Rattle.line_model.specs.Deliveries.{refused_if, delivery, worn_if, write_event, carried_to, carriage_of}
use Rattle.line_model.specs.Owed.{Owed, owed_if, up_again, channel_closes, connection_closes, frame_again, power_returns, owed_of_frame, owed_of_carried, caused, is_possible, is_clients, left_after, owed}
use Rattle.line_model.specs.Follows.{at_gateway, IsInPlace, IsNext, Follows}
use Rattle.line_model.specs.Calm.{IsCalm, AreCalm}
use Rattle.line_model.specs.Undisturbed.{is_undisturbing, IsUndisturbed}

-- ---- its lines

by_line : (P : ScriptWhat → Type 0) → ((d : IndAddr) → P (line.Standard d)) → ((after : Bool) (group : GroupAddr) (service : GroupService) → P (line.Group after group service)) → (w : ScriptWhat) → is_undisturbing w ≡ true → P w
by_line P a b (line.Standard d) h = a d
by_line P a b (line.Group after group service) h = b after group service
by_line P a b w h = absurd (cc)

-- what a line that disturbs says, none of them says
standard_not : (what : ScriptWhat) (d : IndAddr) → is_undisturbing what ≡ false → is_line what (line.Standard d) ≡ false
standard_not (line.Standard a) d h = absurd (cc)
standard_not _ d h = refl

group_not : (what : ScriptWhat) (after : Bool) (group : GroupAddr) (service : GroupService) → is_line what (line.Group after group service) ≡ false
group_not (line.LoseUp n) after group service = refl
group_not _ after group service = refl

pub said_not : (what : ScriptWhat) → is_undisturbing what ≡ false → (script : Script) → IsUndisturbed script → has_line what script ≡ false
said_not what disturbs [] h = refl
said_not what disturbs (w ∷ script) h =
    let two = and_parts (is_undisturbing w) (list_all is_undisturbing script) h in
    either (is_line what w) (has_line what script) (by_line (λ w. is_line what w ≡ false) (λ d. standard_not what d disturbs) (group_not what) w two.0) (said_not what disturbs script two.1)
  where
    either : (a b : Bool) → a ≡ false → b ≡ false → (a || b) ≡ false
    either a b p q = rw (p, q) refl

none_said : (what : ScriptWhat → Option ℕ) → ((w : ScriptWhat) → is_undisturbing w ≡ true → what w ≡ None) → (script : Script) → IsUndisturbed script → first_said what script ≡ None
none_said what not_it [] h = refl
none_said what not_it (w ∷ script) h =
    let two = and_parts (is_undisturbing w) (list_all is_undisturbing script) h in
    later (what w) (first_said what script) (not_it w two.0) (none_said what not_it script two.1)
  where
    later : (a b : Option ℕ) → a ≡ None → b ≡ None → or_later a b ≡ None
    later a b p q = rw (p, q) refl

module _ (script : Script) (nothing : IsUndisturbed script) where
  no_lose_up : (n : ℕ) → loses_up script n ≡ false
  no_lose_up n = said_not (line.LoseUp n) refl script nothing

  no_lose_down : (n : ℕ) → loses_down script n ≡ false
  no_lose_down n = said_not (line.LoseDown n) refl script nothing

  no_repeat_up : (n : ℕ) → repeats_up script n ≡ false
  no_repeat_up n = said_not (line.RepeatUp n) refl script nothing

  no_repeat_down : (n : ℕ) → repeats_down script n ≡ false
  no_repeat_down n = said_not (line.RepeatDown n) refl script nothing

  no_lose_to : (device n : ℕ) → loses_to script device n ≡ false
  no_lose_to device n = said_not (line.LoseTo (record { raw = device }) n) refl script nothing

  no_lose_from : (device n : ℕ) → loses_from script device n ≡ false
  no_lose_from device n = said_not (line.LoseFrom (record { raw = device }) n) refl script nothing

  no_repeat_to : (device n : ℕ) → repeats_to script device n ≡ false
  no_repeat_to device n = said_not (line.RepeatTo (record { raw = device }) n) refl script nothing

  no_worn : (device n : ℕ) → wears script device n ≡ false
  no_worn device n = said_not (line.Worn (record { raw = device }) n) refl script nothing

  no_close : (device n : ℕ) → closes script device n ≡ false
  no_close device n = said_not (line.CloseAfter (record { raw = device }) n) refl script nothing

  no_drop : (n : ℕ) → drops script n ≡ false
  no_drop n = said_not (line.DropChannel n) refl script nothing

  no_cut : (device n : ℕ) → cuts script device n ≡ None
  no_cut device n = none_said (cut_at device n) (by_line (λ w. cut_at device n w ≡ None) (λ d. refl) (λ a g s. refl)) script nothing

  no_refusal : (n : ℕ) → refuses script n ≡ None
  no_refusal n = none_said (status_at n) (by_line (λ w. status_at n w ≡ None) (λ d. refl) (λ a g s. refl)) script nothing

  -- ---- what it calls for

  owes_not : (b : Bool) (what : Owed) → b ≡ false → owed_if b what ≡ []
  owes_not b what h = rw h refl

  and_no : (a b : Bool) → b ≡ false → (a && b) ≡ false
  and_no true b h = h
  and_no false b h = refl

  nothing_and : (xs ys : List Owed) → xs ≡ [] → ys ≡ [] → xs ++ ys ≡ []
  nothing_and xs ys h g = rw (h, g) refl

  module _ (start : World) (past : List Event) where
    abbrev w : World
    w = replay start past

    -- the bus
    written_whole : (device n : ℕ) (kind : Option WriteKind) (effect : Effect) → write_event script device n kind effect ≡ Bus []
    written_whole device n None effect = refl
    written_whole device n (Some kind) effect = rw (no_cut device n, no_worn device n) (plain kind)
      where
        plain : (kind : WriteKind) → worn_if false kind effect ≡ Bus []
        plain kinds.Memory = refl
        plain kind = refl

    carried_whole : (frame : Ldata) → carriage_of script start past frame ≡ Bus []
    carried_whole frame = by_group frame.group refl where
      alone : carried_to script start past frame.destination frame ≡ Bus []
      alone = rw (no_lose_to frame.destination (suc (frames_to frame.destination start past))) (written_whole frame.destination _ _ _)

      by_group : (b : Bool) → frame.group ≡ b → cond b (Bus []) (carried_to script start past frame.destination frame) ≡ Bus []
      by_group true e = refl
      by_group false e = alone

    carried_so : (o : Option Ldata) (e : Event) → option_map (carriage_of script start past) o ≡ Some e → e ≡ Bus []
    carried_so None e h = absurd (cc)
    carried_so (Some frame) e h = (let g : carriage_of script start past frame ≡ e = cc in sym g ∙ carried_whole frame)

    -- connect requests
    delivered : (age : ℕ) → delivery script start past age ≡ Up age
    delivered age = by_request (is_connect_at w.tunnel.network.up age) where
      by_request : (b : Bool) → cond b (refused_if age (refuses script (suc (connects_reached start past)))) (Up age) ≡ Up age
      by_request true = ap (refused_if age) (no_refusal (suc (connects_reached start past)))
      by_request false = refl

    -- ---- each event in its place is calm

    in_place : (e : Event) → MayHappen Commissions w e → IsInPlace script Commissions start past e → IsCalm w e
    in_place (Send octets) may h = tt
    in_place (From endpoint octets) may h = absurd may.tunnel
    in_place Renew may h = tt
    in_place (Up age) may h = h.next.next
    in_place (UpRefused age status) may h = absurd (let e : Up age ≡ UpRefused age status = sym (delivered age) ∙ h.so in cc)
    in_place (Down age) may h = h.next
    in_place (LoseUp age) may h = absurd (let e : false ≡ true = sym (no_lose_up _) ∙ h.says in cc)
    in_place (LoseDown age) may h = absurd (let e : false ≡ true = sym (no_lose_down _) ∙ h.says in cc)
    in_place (Bus left_out) may h = (let e : Bus left_out ≡ Bus [] = carried_so (next_frame w) (Bus left_out) h in cc)
    in_place (BusTorn fresh octets) may h = absurd (let e : BusTorn fresh octets ≡ Bus [] = carried_so (next_frame w) (BusTorn fresh octets) h in cc)
    in_place (BusWorn octets) may h = absurd (let e : BusWorn octets ≡ Bus [] = carried_so (next_frame w) (BusWorn octets) h in cc)
    in_place (BusAgain device) may h = h
    in_place (DevSend device heard left_out) may h = (h.0 ∙ ap at_gateway (no_lose_from device _), h.1)
    in_place (DevRepeat device heard) may h = (h.0 ∙ ap at_gateway (no_lose_from device _), h.1)
    in_place (DevClose device) may h = h
    in_place GwAgain may h = h
    in_place GwRepeat may h = h
    in_place GwClose may h = h
    in_place (Cut device) may h = h
    in_place (On device) may h = h
    in_place (Pass ms) may h = h

    -- ---- and brings nothing about

    abbrev QuietPower : Event → Type 0
    QuietPower e = (device : ℕ) → power_returns e device ≡ []

    frame_not : (e : Event) (frame : Ldata) → QuietPower e → owed_of_frame script start past e frame ≡ []
    frame_not e frame power = by_group frame.group refl where
      alone : power_returns e frame.destination ++ frame_again script start past e frame.destination ++ connection_closes script start past e frame.destination ≡ []
      alone = nothing_and (power_returns e frame.destination ++ frame_again script start past e frame.destination) (connection_closes script start past e frame.destination)
          (nothing_and (power_returns e frame.destination) (frame_again script start past e frame.destination) (power frame.destination) (owes_not _ _ (and_no _ _ (no_repeat_to frame.destination _))))
          (owes_not _ _ (and_no _ _ (no_close frame.destination _)))

      by_group : (b : Bool) → frame.group ≡ b → cond b [] (power_returns e frame.destination ++ frame_again script start past e frame.destination ++ connection_closes script start past e frame.destination) ≡ []
      by_group true q = refl
      by_group false q = alone

    carried_not : (e : Event) (o : Option Ldata) → QuietPower e → owed_of_carried script start past e o ≡ []
    carried_not e None power = refl
    carried_not e (Some frame) power = frame_not e frame power

    caused_not : (e : Event) → IsCalm w e → caused script start past e ≡ []
    caused_not (Send octets) c = refl
    caused_not (From endpoint octets) c = absurd c
    caused_not Renew c = refl
    caused_not (Up age) c = nothing_and (up_again script w.tunnel.network.up age) (channel_closes script start past (Up age)) (owes_not _ _ (no_repeat_up _)) (owes_not _ _ (and_no _ _ (no_drop _)))
    caused_not (UpRefused age status) c = absurd c
    caused_not (Down age) c = owes_not _ _ (no_repeat_down _)
    caused_not (LoseUp age) c = absurd c
    caused_not (LoseDown age) c = absurd c
    caused_not (Bus left_out) c = carried_not (Bus left_out) (next_frame w) (λ device. refl)
    caused_not (BusTorn fresh octets) c = absurd c
    caused_not (BusWorn octets) c = absurd c
    caused_not (BusAgain device) c = absurd c
    caused_not (DevSend device heard left_out) c = refl
    caused_not (DevRepeat device heard) c = refl
    caused_not (DevClose device) c = refl
    caused_not GwAgain c = absurd c
    caused_not GwRepeat c = refl
    caused_not GwClose c = refl
    caused_not (Cut device) c = absurd c
    caused_not (On device) c = absurd c
    caused_not (Pass ms) c = refl

  -- ---- all events

  left_none : (e : Event) (l : List Owed) → l ≡ [] → left_after e l ≡ []
  left_none e l h = by_client (is_clients e) (ap (λ z. left_after e z) h) where
    by_client : (b : Bool) → left_after e l ≡ cond (is_clients e) [] [] → left_after e l ≡ []
    by_client b q = q ∙ same (is_clients e)
      where
        same : (t : Bool) → ◌≡◌ {A = List Owed} (cond t [] []) []
        same true = refl
        same false = refl

  record Goes (start : World) (events : List Event) : Type 0 where
    calm : AreCalm start events
    none : owed script Commissions start events ≡ []

  goes : (start : World) (events : List Event) → IsLegal Commissions start events → Follows script Commissions start events → Goes start events
  goes start [] l f = record { calm = tt; none = refl }
  goes start (e ∷ past) l f =
      let g : Goes start past = goes start past l.1 f.1 in
      let here : IsInPlace script Commissions start past e = subst (λ z. IsNext script Commissions start past z e) g.none f.0 in
      let c : IsCalm (replay start past) e = in_place start past e l.0 here in
      record {
        calm = (c, g.calm);
        none = ap (λ z. filter (is_possible Commissions (replay start (e ∷ past))) z) (nothing_and (left_after e (owed script Commissions start past)) (caused script start past e) (left_none e (owed script Commissions start past) g.none) (caused_not start past e c));
      }

  pub are_calm : (start : World) (events : List Event) → IsLegal Commissions start events → Follows script Commissions start events → AreCalm start events
  are_calm start events l f = (goes start events l f).calm
