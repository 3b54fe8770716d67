-- What a job's attempt puts to its device.
use Rattle.std.proofs.Common.{◌≡◌, ℕ, ◌+◌, ◌%◌, ◌⊎◌, List, [], ◌∷◌, length, Bool, true, false, ◌&&◌, cond, Option, Some, None, refl, sym, ◌∙◌, ap, inl, inr, arith, if◌then◌else◌}
use Rattle.std.specs.Prelude.{◌==◌, is_some, nat_le, nat_lt}
use Rattle.knx_model.specs.declared.address.IndAddr.{IndAddr}
use Rattle.knx_model.specs.declared.connection.TransportFrame.{TransportFrame}
use Rattle.knx_model.specs.declared.connection.TransportFrame.TheVariants.{Connect, Disconnect, Ack, Nak, Numbered, Other}
use Rattle.knx_model.specs.declared.frames.cemi.Ldata.{Ldata}
use Rattle.knx_model.specs.declared.frames.tpdu.Tpdu.TheVariants as tpdu
use Rattle.knx_model.specs.Apdu.{Written, most_octets}
use Rattle.knx_model.specs.Connection.{control_frame, frame_in, disconnect}
use Rattle.knx_model.specs.DeviceFrames.{own_frame}
use Rattle.knx_model.specs.Plans.{Plan}
use Rattle.line_model.specs.Attempts.{Attempts, Resting, Running, put_so, confirmed_so, heard_so, attempts_after}
use Rattle.line_model.specs.ClientView as view
use Rattle.line_model.specs.Moments.{where_is, transport_of, is_to}
use Rattle.line_model.specs.Reading.{ldata_in, is_req}
use Rattle.line_model.specs.World.{on_bus}
use Rattle.session_law.specs.World.{World as SessionWorld}
use Rattle.session_law.specs.Events.{Event as SessionEvent, step, MayHappen}
use Rattle.load_law.specs.Download.{IsSilent, MayAsk}
use Rattle.line_law.proofs.Opened.{PutBy}
use Rattle.line_law.proofs.Attempting.{AttemptIs}
use Rattle.line_law.proofs.Courses.{NotService}

-- ---- the octets of a T_Connect and of a T_Disconnect

pub by_first : (b c d e : Bool) (x y : ℕ) → b ≡ false → control_frame (if b then Some tpdu.Connect else (if c then Some tpdu.Disconnect else (if d then Some (tpdu.Ack x) else (if e then Some (tpdu.Nak y) else None)))) ≡ Connect → ⊥
by_first true c d e x y h k = let z : true ≡ false = h in cc
by_first false true d e x y h k = let z : Disconnect ≡ Connect = k in cc
by_first false false true e x y h k = let z : Ack x ≡ Connect = k in cc
by_first false false false true x y h k = let z : Nak y ≡ Connect = k in cc
by_first false false false false x y h k = let z : Other ≡ Connect = k in cc

pub by_second : (b c d e : Bool) (x y : ℕ) → c ≡ false → control_frame (if b then Some tpdu.Connect else (if c then Some tpdu.Disconnect else (if d then Some (tpdu.Ack x) else (if e then Some (tpdu.Nak y) else None)))) ≡ Disconnect → ⊥
by_second true c d e x y h k = let z : Connect ≡ Disconnect = k in cc
by_second false true d e x y h k = let z : true ≡ false = h in cc
by_second false false true e x y h k = let z : Ack x ≡ Disconnect = k in cc
by_second false false false true x y h k = let z : Nak y ≡ Disconnect = k in cc
by_second false false false false x y h k = let z : Other ≡ Disconnect = k in cc

pub decided : (n m : ℕ) → (n ≡ m) ⊎ ((n == m) ≡ false)
decided n m = grind arith

pub not_control : (b : Bool) (n : ℕ) (o : List ℕ) (x : TransportFrame) → (if b then Numbered n o else Other) ≡ x → (x ≡ Connect) ⊎ (x ≡ Disconnect) → ⊥
not_control true n o x h (inl e) = let z : Numbered n o ≡ Connect = h ∙ e in cc
not_control true n o x h (inr e) = let z : Numbered n o ≡ Disconnect = h ∙ e in cc
not_control false n o x h (inl e) = let z : Other ≡ Connect = h ∙ e in cc
not_control false n o x h (inr e) = let z : Other ≡ Disconnect = h ∙ e in cc

pub connect_octets : (octets : List ℕ) → frame_in octets ≡ Connect → octets ≡ Written tpdu.Connect
unfolding frame_in
connect_octets [] h = absurd (let z : Other ≡ Connect = h in cc)
connect_octets (n ∷ []) h =
    elim (decided n 0x80) [
      | inl e ↦ ap (λ z. z ∷ []) e
      | inr e ↦ absurd (by_first (n == 0x80) (n == 0x81) (nat_le 0xC0 n && (n % 4 == 2) && nat_lt n 256) (nat_le 0xC0 n && (n % 4 == 3) && nat_lt n 256) _ _ e h)
    ]
connect_octets (n ∷ m ∷ rest) h = absurd (not_control (nat_le 0x40 n && nat_lt n 0x80 && nat_le (2 + length rest) most_octets) _ _ Connect h (inl refl))

pub disconnect_octets : (octets : List ℕ) → frame_in octets ≡ Disconnect → octets ≡ disconnect
unfolding frame_in
disconnect_octets [] h = absurd (let z : Other ≡ Disconnect = h in cc)
disconnect_octets (n ∷ []) h =
    elim (decided n 0x81) [
      | inl e ↦ ap (λ z. z ∷ []) e
      | inr e ↦ absurd (by_second (n == 0x80) (n == 0x81) (nat_le 0xC0 n && (n % 4 == 2) && nat_lt n 256) (nat_le 0xC0 n && (n % 4 == 3) && nat_lt n 256) _ _ e h)
    ]
disconnect_octets (n ∷ m ∷ rest) h = absurd (not_control (nat_le 0x40 n && nat_lt n 0x80 && nat_le (2 + length rest) most_octets) _ _ Disconnect h (inr refl))

-- ---- what was put, in an attempt

pub confirmed_none : (now : ℕ) (t : Attempts) → confirmed_so now t None ≡ t
confirmed_none now (Resting k) = refl
confirmed_none now (Running k t) = refl

pub heard_none : (now : ℕ) (t : Attempts) → heard_so now t None ≡ t
heard_none now (Resting k) = refl
heard_none now (Running k t) = refl

pub put_step : (a : ℕ) (device : IndAddr) (plan : Plan) (t : Attempts) (content : List ℕ) (f : Ldata) (now at : ℕ) → device.raw ≡ a → ldata_in content ≡ Some f → is_req f.code ≡ true → is_to a f ≡ true
    → attempts_after device plan (record { what = view.Puts content; now = now; at = at }) t ≡ put_so device plan now t (Some (frame_in f.tpdu))
put_step a device plan t content f now at e reads req its =
    let put : transport_of (where_is (is_to device.raw) (where_is (λ (x : Ldata). is_req x.code) (ldata_in content))) ≡ Some (frame_in f.tpdu)
    = ap (λ o. transport_of (where_is (is_to device.raw) (where_is (λ (x : Ldata). is_req x.code) o))) reads ∙ rw req (ap (λ b. transport_of (cond {A = Option Ldata} b (Some f) None)) (ap (λ z. is_to z f) e ∙ its)) in
    heard_none now (confirmed_so now (put_so device plan now t (transport_of (where_is (is_to device.raw) (where_is (λ (x : Ldata). is_req x.code) (ldata_in content))))) None)
    ∙ confirmed_none now (put_so device plan now t (transport_of (where_is (is_to device.raw) (where_is (λ (x : Ldata). is_req x.code) (ldata_in content)))))
    ∙ ap (put_so device plan now t) put

-- one that isn't for its device changes nothing
pub other_step : (a : ℕ) (device : IndAddr) (plan : Plan) (t : Attempts) (content : List ℕ) (f : Ldata) (now at : ℕ) → device.raw ≡ a → ldata_in content ≡ Some f → is_req f.code ≡ true → is_to a f ≡ false
    → attempts_after device plan (record { what = view.Puts content; now = now; at = at }) t ≡ t
other_step a device plan t content f now at e reads req its =
    let put : transport_of (where_is (is_to device.raw) (where_is (λ (x : Ldata). is_req x.code) (ldata_in content))) ≡ None
    = ap (λ o. transport_of (where_is (is_to device.raw) (where_is (λ (x : Ldata). is_req x.code) o))) reads ∙ rw req (ap (λ b. transport_of (cond {A = Option Ldata} b (Some f) None)) (ap (λ z. is_to z f) e ∙ its)) in
    heard_none now (confirmed_so now (put_so device plan now t (transport_of (where_is (is_to device.raw) (where_is (λ (x : Ldata). is_req x.code) (ldata_in content))))) None)
    ∙ confirmed_none now (put_so device plan now t (transport_of (where_is (is_to device.raw) (where_is (λ (x : Ldata). is_req x.code) (ldata_in content)))))
    ∙ ap (put_so device plan now t) put

-- ---- what the session puts

pub record PutsGoes (a : ℕ) (address : IndAddr) (IsJob : Plan → Type 0) (device : IndAddr) (plan : Plan) (f : Ldata) (s : SessionWorld) (t : Attempts) : Type 0 where
  pub event : SessionEvent
  pub after : SessionWorld
  pub is : step s event ≡ after
  pub may : MayHappen s event
  pub asks : MayAsk IsJob s event
  pub quiet : NotService (Some (frame_in f.tpdu)) → IsSilent event
  pub by : PutBy a address f s after
  pub attempt : AttemptIs a plan t after.client

-- the frame is the client's, for the device
pub fly_is : (a : ℕ) (address : IndAddr) (f : Ldata) (s : SessionWorld) (octets : List ℕ) → s.me ≡ address → s.device.address.raw ≡ a → f.group ≡ false → f.destination ≡ a → f.tpdu ≡ octets → Some (own_frame s.me false s.device.address.raw octets) ≡ Some (on_bus address f)
fly_is a address f s octets m d g to e =
    ap (λ (z : IndAddr). Some (own_frame z false s.device.address.raw octets)) m ∙ ap (λ z. Some (own_frame address false z octets)) (d ∙ sym to) ∙ ap (λ z. Some (own_frame address false f.destination z)) (sym e) ∙ ap (λ z. Some (own_frame address z f.destination f.tpdu)) (sym g)

pub not_flying : (o : Option TransportFrame) (b : Bool) → is_some o ≡ b → b ≡ false → o ≡ None
not_flying None b h e = refl
not_flying (Some x) b h e = absurd (let z : true ≡ false = h ∙ e in cc)
