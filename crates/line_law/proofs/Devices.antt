-- A device sends, closes, loses its power and has it again; and frames come again.
use Rattle.std.proofs.Common.{◌≡◌, ℕ, List, [], ◌∷◌, ◌++◌, Bool, true, false, cond, Option, Some, None, refl, sym, ◌∙◌, ap, subst, if◌then◌else◌, append-nil}
use Rattle.std.specs.Prelude.{◌==◌}
use Rattle.std.proofs.lemmas.Bool.{eqb-true, eq-eqb}
use Rattle.knx_model.specs.declared.frames.cemi.Ldata.{Ldata}
use Rattle.knx_model.specs.DeviceState.{DeviceState}
use Rattle.knx_model.specs.DeviceFrames.{Whole, takes}
use Rattle.knx_model.specs.DeviceSending.{waiting_frame, pops, repeat_frame, repeats}
use Rattle.line_model.specs.Legal.{OfDevice, CanRepeat}
use Rattle.line_model.specs.Record.{Entry}
use Rattle.line_model.specs.Tunnel.{after}
use Rattle.line_model.specs.World.{World, DevSend, DevRepeat, AtGateway, Comes, IsLost, Devices, now, frame_by, waiting_at, repeat_at, is_among, changed, all_take, others_take, or_before, heard}
use Rattle.session_law.specs.World.{World as SessionWorld}
use Rattle.session_law.specs.Device.{speaks, elsewhere, gets}
use Rattle.session_law.specs.Device as session
use Rattle.session_law.specs.Events as event
use Rattle.line_law.proofs.Queue.{is_by}
use Rattle.line_law.proofs.Coupled.{IsOwn, IsFrameOf, Owned, Coupled, Goes}
use Rattle.line_law.proofs.Owned.{waiting_owned, repeat_owned}
use Rattle.line_law.proofs.Bus.{after_world, mapped_at, changed_at, eqb_sym}
use Rattle.line_law.proofs.OnBus.{goes_one}
use Rattle.line_law.proofs.Changes.{own_its, heard_kept, apart_kept, apart_mine, apart_other}

-- ---- a device sends

abbrev gate : AtGateway → session.AtGateway
gate Comes = session.Comes
gate IsLost = session.IsLost

-- a device's frame came to the gateway, or was lost for it
abbrev sent_world : World → AtGateway → Ldata → Devices → World
sent_world w gateway f devices = record { tunnel = after w.tunnel (heard gateway (Some f)); devices = devices; echo = Some f }

-- the session of the device that sent it
sent_mine : (a : ℕ) (w : World) (r : List Entry) (s : SessionWorld) (gateway : AtGateway) (f : Ldata) (devices : Devices) (d : DeviceState) → IsFrameOf a f → devices a ≡ Some d → Coupled a w r s
    → Coupled a (sent_world w gateway f devices) r (speaks s d (gate gateway) (Some f))
sent_mine a w r s Comes f devices d own at c =
    let by : is_by a f ≡ true = eq-eqb f.source a own.0 in
    heard_kept a w r s (speaks s d session.Comes (Some f)) f devices (Some f) own.1 c (record { device = at; same_me = c.by.side.same_me; same_now = c.by.side.same_now; echo = rw by refl }) (ap (λ z. s.coming ++ z) (sym (own_its a f own.1 true by))) refl refl
sent_mine a w r s IsLost f devices d own at c =
    let by : is_by a f ≡ true = eq-eqb f.source a own.0 in
    apart_kept a w r s (speaks s d session.IsLost (Some f)) devices (Some f) c (record { device = at; same_me = c.by.side.same_me; same_now = c.by.side.same_now; echo = rw by refl }) refl refl refl

-- and of another one
sent_other : (a : ℕ) (w : World) (r : List Entry) (s n : SessionWorld) (gateway : AtGateway) (f : Ldata) (devices : Devices) → IsOwn f → is_by a f ≡ false → devices a ≡ Some n.device → Coupled a w r s → n.me ≡ s.me → n.now ≡ s.now → n.echo ≡ None → n.coming ≡ s.coming → n.client ≡ s.client → n.flying ≡ s.flying
    → Coupled a (sent_world w gateway f devices) r n
sent_other a w r s n Comes f devices own by at c m t echo coming client flying =
    heard_kept a w r s n f devices (Some f) own c (record { device = at; same_me = m ∙ c.by.side.same_me; same_now = t ∙ c.by.side.same_now; echo = echo ∙ rw by refl })
    (coming ∙ sym (append-nil s.coming) ∙ ap (λ z. s.coming ++ z) (sym (own_its a f own false by))) client flying
sent_other a w r s n IsLost f devices own by at c m t echo coming client flying =
    apart_kept a w r s n devices (Some f) c (record { device = at; same_me = m ∙ c.by.side.same_me; same_now = t ∙ c.by.side.same_now; echo = echo ∙ rw by refl }) coming client flying

abbrev others_so : World → ℕ → List ℕ → Option Ldata → Devices
others_so w device left_out o = changed device pops (others_take (now w) (device ∷ left_out) o w.devices)

others_by : (t : ℕ) (left_out : List ℕ) (f : Ldata) (devices : Devices) (a : ℕ) (d : DeviceState) (group among : Bool) → f.group ≡ group → is_among left_out a ≡ among → devices a ≡ Some d
    → others_take t left_out (Some f) devices a ≡ Some (if group then (if among then d else takes d f t Whole) else d)
others_by t left_out f devices a d group among g l e =
    ap (λ b. cond {A = Devices} b (all_take t left_out (Some f) devices) devices a) g ∙ take_by group ∙ ap (λ b. Some (cond {A = DeviceState} group (cond {A = DeviceState} b d (takes d f t Whole)) d)) l
  where
    take_by : (b : Bool) → cond {A = Devices} b (all_take t left_out (Some f) devices) devices a ≡ Some (cond {A = DeviceState} b (cond {A = DeviceState} (is_among left_out a) d (takes d f t Whole)) d)
    take_by true = mapped_at (devices a) d (λ x. takes x f t Whole) (is_among left_out a) e
    take_by false = e

among_first : (device : ℕ) (left_out : List ℕ) (a : ℕ) → (a == device) ≡ true → is_among (device ∷ left_out) a ≡ true
among_first device left_out a e = let h : (device == a) ≡ true = eqb_sym device a ∙ e in rw h refl

same_if : (group : Bool) (d e : DeviceState) → ◌≡◌ {A = Option DeviceState} (Some (cond {A = DeviceState} group (cond {A = DeviceState} true d e) d)) (Some d)
same_if true d e = refl
same_if false d e = refl

-- the sender doesn't take it
sender_at : (w : World) (s : SessionWorld) (device : ℕ) (left_out : List ℕ) (f : Ldata) (a : ℕ) → (a == device) ≡ true → w.devices a ≡ Some s.device → others_so w device left_out (Some f) a ≡ Some (pops s.device)
sender_at w s device left_out f a e d =
    let at : others_take (now w) (device ∷ left_out) (Some f) w.devices a ≡ Some s.device
    = others_by (now w) (device ∷ left_out) f w.devices a s.device f.group true refl (among_first device left_out a e) d ∙ same_if f.group s.device (takes s.device f (now w) Whole) in
    changed_at (others_take (now w) (device ∷ left_out) (Some f) w.devices a) s.device pops (a == device) at ∙ ap (λ z. Some (cond {A = DeviceState} z (pops s.device) s.device)) e

sends_mine : (a : ℕ) (w : World) (r : List Entry) (s : SessionWorld) (device : ℕ) (gateway : AtGateway) (left_out : List ℕ) (o : Option Ldata) → (a == device) ≡ true → waiting_frame s.device ≡ o → ((f : Ldata) → o ≡ Some f → IsFrameOf a f) → Coupled a w r s
    → Coupled a (record { tunnel = after w.tunnel (heard gateway o); devices = others_so w device left_out o; echo = or_before o w.echo }) r (speaks s (pops s.device) (gate gateway) o)
sends_mine a w r s device Comes left_out None e q own c =
    apart_kept a w r s (speaks s (pops s.device) session.Comes None) (others_so w device left_out None) w.echo c
    (record { device = changed_at (w.devices a) s.device pops (a == device) c.by.side.device ∙ ap (λ z. Some (cond {A = DeviceState} z (pops s.device) s.device)) e; same_me = c.by.side.same_me; same_now = c.by.side.same_now; echo = c.by.side.echo }) refl refl refl
sends_mine a w r s device IsLost left_out None e q own c =
    apart_kept a w r s (speaks s (pops s.device) session.IsLost None) (others_so w device left_out None) w.echo c
    (record { device = changed_at (w.devices a) s.device pops (a == device) c.by.side.device ∙ ap (λ z. Some (cond {A = DeviceState} z (pops s.device) s.device)) e; same_me = c.by.side.same_me; same_now = c.by.side.same_now; echo = c.by.side.echo }) refl refl refl
sends_mine a w r s device gateway left_out (Some f) e q own c =
    sent_mine a w r s gateway f (others_so w device left_out (Some f)) (pops s.device) (own f refl) (sender_at w s device left_out f a e c.by.side.device) c

other_at : (w : World) (s : SessionWorld) (device : ℕ) (left_out : List ℕ) (f : Ldata) (a : ℕ) (group among : Bool) → (a == device) ≡ false → f.group ≡ group → is_among (device ∷ left_out) a ≡ among → w.devices a ≡ Some s.device
    → others_so w device left_out (Some f) a ≡ Some (if group then (if among then s.device else takes s.device f (now w) Whole) else s.device)
other_at w s device left_out f a group among e g l d =
    let x : DeviceState = if group then (if among then s.device else takes s.device f (now w) Whole) else s.device in
    changed_at (others_take (now w) (device ∷ left_out) (Some f) w.devices a) x pops (a == device) (others_by (now w) (device ∷ left_out) f w.devices a s.device group among g l d) ∙ ap (λ z. Some (cond {A = DeviceState} z (pops x) x)) e

not_by : (a device : ℕ) (f : Ldata) → (a == device) ≡ false → f.source ≡ device → is_by a f ≡ false
not_by a device f e q = ap (λ z. z == a) q ∙ eqb_sym device a ∙ e

sends_other : (a : ℕ) (w : World) (r : List Entry) (s : SessionWorld) (device : ℕ) (gateway : AtGateway) (left_out : List ℕ) (f : Ldata) (group among : Bool) → (a == device) ≡ false → f.group ≡ group → is_among (device ∷ left_out) a ≡ among → IsFrameOf device f → Coupled a w r s
    → Goes a (sent_world w gateway f (others_so w device left_out (Some f))) r s
sends_other a w r s device gateway left_out f true true e g l own c =
    goes_one a (sent_world w gateway f (others_so w device left_out (Some f))) r s event.Elsewhere tt tt
    (sent_other a w r s (elsewhere s) gateway f (others_so w device left_out (Some f)) own.1 (not_by a device f e own.0) (other_at w s device left_out f a true true e g l c.by.side.device) c refl refl refl refl refl refl)
sends_other a w r s device gateway left_out f true false e g l own c =
    goes_one a (sent_world w gateway f (others_so w device left_out (Some f))) r s (event.Group f) g tt
    (sent_other a w r s (elsewhere (gets s f Whole)) gateway f (others_so w device left_out (Some f)) own.1 (not_by a device f e own.0)
    (other_at w s device left_out f a true false e g l c.by.side.device ∙ ap (λ t. Some (takes s.device f t Whole)) (sym c.by.side.same_now)) c refl refl refl refl refl refl)
sends_other a w r s device gateway left_out f false among e g l own c =
    goes_one a (sent_world w gateway f (others_so w device left_out (Some f))) r s event.Elsewhere tt tt
    (sent_other a w r s (elsewhere s) gateway f (others_so w device left_out (Some f)) own.1 (not_by a device f e own.0) (other_at w s device left_out f a false among e g l c.by.side.device) c refl refl refl refl refl refl)

sends_if : (a : ℕ) (w : World) (r : List Entry) (s : SessionWorld) (device : ℕ) (gateway : AtGateway) (left_out : List ℕ) (o : Option Ldata) → (a == device) ≡ false → ((f : Ldata) → o ≡ Some f → IsFrameOf device f) → Coupled a w r s
    → Goes a (record { tunnel = after w.tunnel (heard gateway o); devices = others_so w device left_out o; echo = or_before o w.echo }) r s
sends_if a w r s device Comes left_out None e own c = apart_other a w r s device pops e c
sends_if a w r s device IsLost left_out None e own c = apart_other a w r s device pops e c
sends_if a w r s device gateway left_out (Some f) e own c = sends_other a w r s device gateway left_out f f.group (is_among (device ∷ left_out) a) e refl refl (own f refl) c

pub sends_kept : (a : ℕ) (w : World) (r : List Entry) (s : SessionWorld) (device : ℕ) (gateway : AtGateway) (left_out : List ℕ) (b : Bool) → (a == device) ≡ b → Owned w → Coupled a w r s → Goes a (after_world w (DevSend device gateway left_out)) r s
sends_kept a w r s device gateway left_out true e own c =
    let to : a ≡ device = eqb-true a device e in
    let at : w.devices device ≡ Some s.device = ap w.devices (sym to) ∙ c.by.side.device in
    let frame : waiting_frame s.device ≡ waiting_at w device = sym (ap (frame_by waiting_frame) at) in
    goes_one a (after_world w (DevSend device gateway left_out)) r s (event.DevSend (gate gateway)) tt tt
    (subst (λ (o : Option Ldata). Coupled a (after_world w (DevSend device gateway left_out)) r (speaks s (pops s.device) (gate gateway) o)) (sym frame)
    (sends_mine a w r s device gateway left_out (waiting_at w device) e frame (λ f q. subst (λ z. IsFrameOf z f) (sym to) (waiting_owned w device f own q)) c))
sends_kept a w r s device gateway left_out false e own c = sends_if a w r s device gateway left_out (waiting_at w device) e (λ f q. waiting_owned w device f own q) c

-- ---- it repeats its answer

repeats_mine : (a : ℕ) (w : World) (r : List Entry) (s : SessionWorld) (device : ℕ) (gateway : AtGateway) (o : Option Ldata) → (a == device) ≡ true → ((f : Ldata) → o ≡ Some f → IsFrameOf a f) → Coupled a w r s
    → Coupled a (record { tunnel = after w.tunnel (heard gateway o); devices = changed device (λ d. repeats d (now w)) w.devices; echo = or_before o w.echo }) r (speaks s (repeats s.device s.now) (gate gateway) o)
repeats_mine a w r s device Comes None e own c =
    apart_mine a w r s (speaks s (repeats s.device s.now) session.Comes None) device (λ d. repeats d (now w)) e c (ap (λ t. repeats s.device t) c.by.side.same_now) refl refl refl refl refl refl
repeats_mine a w r s device IsLost None e own c =
    apart_mine a w r s (speaks s (repeats s.device s.now) session.IsLost None) device (λ d. repeats d (now w)) e c (ap (λ t. repeats s.device t) c.by.side.same_now) refl refl refl refl refl refl
repeats_mine a w r s device gateway (Some f) e own c =
    sent_mine a w r s gateway f (changed device (λ d. repeats d (now w)) w.devices) (repeats s.device s.now) (own f refl)
    (changed_at (w.devices a) s.device (λ d. repeats d (now w)) (a == device) c.by.side.device ∙ ap (λ z. Some (cond {A = DeviceState} z (repeats s.device (now w)) s.device)) e ∙ ap (λ t. Some (repeats s.device t)) (sym c.by.side.same_now)) c

repeats_if : (a : ℕ) (w : World) (r : List Entry) (s : SessionWorld) (device : ℕ) (gateway : AtGateway) (o : Option Ldata) → (a == device) ≡ false → ((f : Ldata) → o ≡ Some f → IsFrameOf device f) → Coupled a w r s
    → Goes a (record { tunnel = after w.tunnel (heard gateway o); devices = changed device (λ d. repeats d (now w)) w.devices; echo = or_before o w.echo }) r s
repeats_if a w r s device Comes None e own c = apart_other a w r s device (λ d. repeats d (now w)) e c
repeats_if a w r s device IsLost None e own c = apart_other a w r s device (λ d. repeats d (now w)) e c
repeats_if a w r s device gateway (Some f) e own c =
    let g : IsFrameOf device f = own f refl in
    goes_one a (sent_world w gateway f (changed device (λ d. repeats d (now w)) w.devices)) r s event.Elsewhere tt tt
    (sent_other a w r s (elsewhere s) gateway f (changed device (λ d. repeats d (now w)) w.devices) g.1 (not_by a device f e g.0)
    (changed_at (w.devices a) s.device (λ d. repeats d (now w)) (a == device) c.by.side.device ∙ ap (λ z. Some (cond {A = DeviceState} z (repeats s.device (now w)) s.device)) e) c refl refl refl refl refl refl)

can_repeat : (o : Option DeviceState) (d : DeviceState) → o ≡ Some d → OfDevice CanRepeat o → d.unsent ≡ []
can_repeat None d e h = absurd h
can_repeat (Some x) d e h = let same : x ≡ d = cc in ap (λ z. z.unsent) (sym same) ∙ h.nothing_older

pub repeats_kept : (a : ℕ) (w : World) (r : List Entry) (s : SessionWorld) (device : ℕ) (gateway : AtGateway) (b : Bool) → (a == device) ≡ b → Owned w → OfDevice CanRepeat (w.devices device) → Coupled a w r s → Goes a (after_world w (DevRepeat device gateway)) r s
repeats_kept a w r s device gateway true e own may c =
    let to : a ≡ device = eqb-true a device e in
    let at : w.devices device ≡ Some s.device = ap w.devices (sym to) ∙ c.by.side.device in
    let frame : repeat_frame s.device ≡ repeat_at w device = sym (ap (frame_by repeat_frame) at) in
    goes_one a (after_world w (DevRepeat device gateway)) r s (event.DevRepeat (gate gateway)) (can_repeat (w.devices device) s.device at may) tt
    (subst (λ (o : Option Ldata). Coupled a (after_world w (DevRepeat device gateway)) r (speaks s (repeats s.device s.now) (gate gateway) o)) (sym frame)
    (repeats_mine a w r s device gateway (repeat_at w device) e (λ f q. subst (λ z. IsFrameOf z f) (sym to) (repeat_owned w device f own q)) c))
repeats_kept a w r s device gateway false e own may c = repeats_if a w r s device gateway (repeat_at w device) e (λ f q. repeat_owned w device f own q) c
