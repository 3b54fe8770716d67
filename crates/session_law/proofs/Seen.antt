-- What a session sees of a device, and what the device's end makes of a frame of the client.
use Rattle.std.proofs.Common.{◌≡◌, ℕ, suc, ◌%◌, List, [], ◌∷◌, length, Bool, true, false, cond, Option, Some, None, refl, sym, ◌∙◌, ap, subst, arith}
use Rattle.std.specs.Prelude.{◌==◌}
use Rattle.std.proofs.lemmas.Bool.{eqb-true, eq-eqb, eqb-false}
use Rattle.knx_model.specs.declared.address.IndAddr.{IndAddr}
use Rattle.knx_model.specs.declared.device.FrameSupport.{FrameSupport}
use Rattle.knx_model.specs.declared.frames.tpdu.Tpdu.TheVariants as tpdu
use Rattle.knx_model.specs.declared.connection.TransportFrame.{TransportFrame}
use Rattle.knx_model.specs.declared.connection.TransportFrame.TheVariants.{Connect, Disconnect, Ack, Nak, Numbered, Other}
use Rattle.knx_model.specs.declared.connection.DeviceTook.{DeviceTook}
use Rattle.knx_model.specs.declared.connection.DeviceTook.TheVariants as took
use Rattle.knx_model.specs.Apdu.{Written}
use Rattle.knx_model.specs.Connection.{frame_in, next_number, is_before, disconnect, Session, new_session, at_time, advanced, acknowledged, is_with}
use Rattle.knx_model.specs.DeviceConnection.{Outstanding, DeviceEnd, Closed, Idle, Answering, device_took, device_after, idle_took, answering_took, device_went_on, device_left}
use Rattle.knx_model.specs.Device.{NonVolatile}
use Rattle.session_law.proofs.Arrivals.{Arrival, IsntConnect}

pub record Seen : Type 0 where
  pub frames : FrameSupport
  pub connection : DeviceEnd
  pub unsent : List Arrival  -- its unsent frames
  pub last : Option TransportFrame  -- what it got last
  pub delivered : List (List ℕ)
  pub given : List (List ℕ)
  pub kept : NonVolatile

-- the numbers of an open connection are those of what was delivered and given, and an outstanding answer is the last one
abbrev pub ConnIs : IndAddr → DeviceEnd → List (List ℕ) → List (List ℕ) → Type 0
ConnIs me Closed ds gs = Unit {0}
ConnIs me (Idle t) ds gs = (t.partner.raw ≡ me.raw) × (t.expected ≡ length ds % 16) × (t.number ≡ length gs % 16)
ConnIs me (Answering t a) ds [] = ⊥
ConnIs me (Answering t a) ds (v ∷ gs) = (t.partner.raw ≡ me.raw) × (t.expected ≡ length ds % 16) × (t.number ≡ length gs % 16) × (frame_in a.frame ≡ Numbered (length gs % 16) v)

-- how many answers the client may lack
abbrev pub extra : DeviceEnd → ℕ
extra Closed = 1
extra (Idle t) = 0
extra (Answering t a) = 1

-- a closed end stays closed
abbrev pub Stays : DeviceEnd → DeviceEnd → Type 0
Stays e c = e ≡ Closed → c ≡ Closed

-- what the device's end makes of a frame of the client
pub data EndHears (me : IndAddr) (e : DeviceEnd) (ds gs : List (List ℕ)) (s : TransportFrame) : DeviceTook → DeviceEnd → Type 0 where
  EOpens : (t : Session) → s ≡ Connect → ConnIs me (Idle t) [] [] → EndHears me e ds gs s took.Connected (Idle t)
  EDelivers : (t u : Session) (apdu : List ℕ) → e ≡ Idle t → s ≡ Numbered (length ds % 16) apdu → ConnIs me (Idle u) (apdu ∷ ds) gs → EndHears me e ds gs s (took.Apdu apdu (Written (tpdu.Ack (length ds % 16)))) (Idle u)
  EAgain : (c : DeviceEnd) (n : ℕ) (apdu : List ℕ) → s ≡ Numbered n apdu → (n ≡ length ds % 16 → ⊥) → next_number n ≡ length ds % 16 → extra c ≡ extra e → Stays e c → ConnIs me c ds gs → EndHears me e ds gs s (took.Again (Written (tpdu.Ack n))) c
  ENak : (c : DeviceEnd) (n : ℕ) (apdu : List ℕ) → s ≡ Numbered n apdu → extra c ≡ extra e → Stays e c → ConnIs me c ds gs → EndHears me e ds gs s (took.Nak (Written (tpdu.Nak n))) c
  EAcked : (t u : Session) (a : Outstanding) (v : List ℕ) (older : List (List ℕ)) → e ≡ Answering t a → gs ≡ v ∷ older → s ≡ Ack (length older % 16) → ConnIs me (Idle u) ds gs → EndHears me e ds gs s took.Acked (Idle u)
  EDrops : IsntConnect s → EndHears me e ds gs s took.Dropped e
  ECloses : IsntConnect s → EndHears me e ds gs s (took.Closed None) Closed
  EClosesBy : IsntConnect s → EndHears me e ds gs s (took.Closed (Some disconnect)) Closed

next_is : (n k : ℕ) → n ≡ k % 16 → next_number n ≡ suc k % 16
next_is n k e = omega (arith, e)

went_closed : (e : DeviceEnd) (now : ℕ) → Stays e (device_went_on (λ s. at_time s now) e)
went_closed Closed now h = refl
went_closed (Idle s) now h = absurd (cc)
went_closed (Answering s a) now h = absurd (cc)

module _ (me from : IndAddr) (e : DeviceEnd) (ds gs : List (List ℕ)) (now : ℕ) (shut : device_left e from ≡ Closed) where
  ack_by : (m : ℕ) (b : Bool) → EndHears me e ds gs (Ack m) (cond b took.Dropped (took.Closed (Some disconnect))) (device_after e from now (cond b took.Dropped (took.Closed (Some disconnect))))
  unfolding device_after
  ack_by m true = EDrops tt
  ack_by m false = subst (λ c. EndHears me e ds gs (Ack m) (took.Closed (Some disconnect)) c) (sym shut) (EClosesBy tt)

  gone_by : EndHears me e ds gs Disconnect (took.Closed None) (device_after e from now (took.Closed None))
  unfolding device_after
  gone_by = subst (λ c. EndHears me e ds gs Disconnect (took.Closed None) c) (sym shut) (ECloses tt)

  past_by : (n expected : ℕ) (apdu : List ℕ) → expected ≡ length ds % 16 → (n ≡ expected → ⊥) → extra (device_went_on (λ s. at_time s now) e) ≡ extra e → ConnIs me (device_went_on (λ s. at_time s now) e) ds gs → (b : Bool) → is_before n expected ≡ b
      → EndHears me e ds gs (Numbered n apdu) (cond b (took.Again (Written (tpdu.Ack n))) (took.Nak (Written (tpdu.Nak n)))) (device_after e from now (cond b (took.Again (Written (tpdu.Ack n))) (took.Nak (Written (tpdu.Nak n)))))
  unfolding device_after
  past_by n expected apdu x ne ex on true h = EAgain (device_went_on (λ s. at_time s now) e) n apdu refl (λ q. ne (q ∙ sym x)) (eqb-true (next_number n) expected h ∙ x) ex (went_closed e now) on
  past_by n expected apdu x ne ex on false h = ENak (device_went_on (λ s. at_time s now) e) n apdu refl ex (went_closed e now) on

left_idle : (from : IndAddr) (t : Session) → is_with t from ≡ true → device_left (Idle t) from ≡ Closed
left_idle from t h = rw h refl

left_answering : (from : IndAddr) (t : Session) (a : Outstanding) → is_with t from ≡ true → device_left (Answering t a) from ≡ Closed
left_answering from t a h = rw h refl

module _ (me from : IndAddr) (t : Session) (ds gs : List (List ℕ)) (now : ℕ) (f : from.raw ≡ me.raw) (h : ConnIs me (Idle t) ds gs) (same : is_with t from ≡ true) where
  idle_number : (n : ℕ) (apdu : List ℕ) (b : Bool) → (n == t.expected) ≡ b
      → EndHears me (Idle t) ds gs (Numbered n apdu) (cond b (took.Apdu apdu (Written (tpdu.Ack n))) (cond (is_before n t.expected) (took.Again (Written (tpdu.Ack n))) (took.Nak (Written (tpdu.Nak n)))))
      (device_after (Idle t) from now (cond b (took.Apdu apdu (Written (tpdu.Ack n))) (cond (is_before n t.expected) (took.Again (Written (tpdu.Ack n))) (took.Nak (Written (tpdu.Nak n))))))
  unfolding device_after
  idle_number n apdu true e =
      let at : n ≡ length ds % 16 = eqb-true n t.expected e ∙ h.1 in
      let number : Numbered n apdu ≡ Numbered (length ds % 16) apdu = ap (λ k. Numbered k apdu) at in
      let next_one : next_number t.expected ≡ suc (length ds) % 16 = next_is t.expected (length ds) h.1 in
      subst (λ k. EndHears me (Idle t) ds gs (Numbered n apdu) (took.Apdu apdu (Written (tpdu.Ack k))) (Idle (advanced t now))) (sym at) (EDelivers t (advanced t now) apdu refl number (h.0, next_one, h.2))
  idle_number n apdu false e = past_by me from (Idle t) ds gs now (left_idle from t same) n t.expected apdu h.1 (eqb-false n t.expected e) refl h (is_before n t.expected) refl

  idle_case : (s : TransportFrame) → EndHears me (Idle t) ds gs s (idle_took t s) (device_after (Idle t) from now (idle_took t s))
  unfolding device_after
  idle_case Connect = EOpens (new_session from now) refl (f, refl, refl)
  idle_case Disconnect = gone_by me from (Idle t) ds gs now (left_idle from t same)
  idle_case (Ack m) = ack_by me from (Idle t) ds gs now (left_idle from t same) m (is_before m t.number)
  idle_case (Nak m) = EDrops tt
  idle_case (Numbered n apdu) = idle_number n apdu (n == t.expected) refl
  idle_case Other = EDrops tt

module _ (me from : IndAddr) (t : Session) (a : Outstanding) (ds gs : List (List ℕ)) (v : List ℕ) (now : ℕ) (f : from.raw ≡ me.raw) (h : ConnIs me (Answering t a) ds (v ∷ gs)) (same : is_with t from ≡ true) where
  answering_number : (n : ℕ) (apdu : List ℕ) (b : Bool) → (n == t.expected) ≡ b
      → EndHears me (Answering t a) ds (v ∷ gs) (Numbered n apdu) (cond b took.Dropped (cond (n == t.expected) (took.Apdu apdu (Written (tpdu.Ack n))) (cond (is_before n t.expected) (took.Again (Written (tpdu.Ack n))) (took.Nak (Written (tpdu.Nak n))))))
      (device_after (Answering t a) from now (cond b took.Dropped (cond (n == t.expected) (took.Apdu apdu (Written (tpdu.Ack n))) (cond (is_before n t.expected) (took.Again (Written (tpdu.Ack n))) (took.Nak (Written (tpdu.Nak n)))))))
  unfolding device_after
  answering_number n apdu true e = EDrops tt
  answering_number n apdu false e = rw e (past_by me from (Answering t a) ds (v ∷ gs) now (left_answering from t a same) n t.expected apdu h.1 (eqb-false n t.expected e) refl h (is_before n t.expected) refl)

  answering_ack : (m : ℕ) (b : Bool) → (m == t.number) ≡ b
      → EndHears me (Answering t a) ds (v ∷ gs) (Ack m) (cond b took.Acked (cond (is_before m t.number) took.Dropped (took.Closed (Some disconnect)))) (device_after (Answering t a) from now (cond b took.Acked (cond (is_before m t.number) took.Dropped (took.Closed (Some disconnect)))))
  unfolding device_after
  answering_ack m true e =
      EAcked t (acknowledged t now) a v gs refl refl (ap (λ k. Ack k) (eqb-true m t.number e ∙ h.2)) (h.0, h.1, next_is t.number (length gs) h.2)
  answering_ack m false e = ack_by me from (Answering t a) ds (v ∷ gs) now (left_answering from t a same) m (is_before m t.number)

  answering_case : (s : TransportFrame) → EndHears me (Answering t a) ds (v ∷ gs) s (answering_took t s) (device_after (Answering t a) from now (answering_took t s))
  unfolding device_after
  answering_case Connect = EOpens (new_session from now) refl (f, refl, refl)
  answering_case Disconnect = gone_by me from (Answering t a) ds (v ∷ gs) now (left_answering from t a same)
  answering_case (Ack m) = answering_ack m (m == t.number) refl
  answering_case (Nak m) = EDrops tt
  answering_case (Numbered n apdu) = answering_number n apdu (n == t.expected) refl
  answering_case Other = EDrops tt

closed_case : (me from : IndAddr) (ds gs : List (List ℕ)) (now : ℕ) (s : TransportFrame) → from.raw ≡ me.raw → EndHears me Closed ds gs s (device_took Closed from s) (device_after Closed from now (device_took Closed from s))
unfolding device_took device_after
closed_case me from ds gs now Connect f = EOpens (new_session from now) refl (f, refl, refl)
closed_case me from ds gs now Disconnect f = EDrops tt
closed_case me from ds gs now (Ack m) f = EDrops tt
closed_case me from ds gs now (Nak m) f = EDrops tt
closed_case me from ds gs now (Numbered n apdu) f = EClosesBy tt
closed_case me from ds gs now Other f = EDrops tt

idle_is : (from : IndAddr) (t : Session) (s : TransportFrame) → is_with t from ≡ true → device_took (Idle t) from s ≡ idle_took t s
unfolding device_took
idle_is from t s h = rw h refl

answering_is : (from : IndAddr) (t : Session) (a : Outstanding) (s : TransportFrame) → is_with t from ≡ true → device_took (Answering t a) from s ≡ answering_took t s
unfolding device_took
answering_is from t a s h = rw h refl

-- what the device's end makes of a frame of the client
pub end_hears : (me from : IndAddr) (e : DeviceEnd) (ds gs : List (List ℕ)) (now : ℕ) (s : TransportFrame) → from.raw ≡ me.raw → ConnIs me e ds gs → EndHears me e ds gs s (device_took e from s) (device_after e from now (device_took e from s))
end_hears me from Closed ds gs now s f h = closed_case me from ds gs now s f
end_hears me from (Idle t) ds gs now s f h =
    let same : is_with t from ≡ true = eq-eqb t.partner.raw from.raw (h.0 ∙ sym f) in
    subst (λ k. EndHears me (Idle t) ds gs s k (device_after (Idle t) from now k)) (sym (idle_is from t s same)) (idle_case me from t ds gs now f h same s)
end_hears me from (Answering t a) ds [] now s f h = absurd h
end_hears me from (Answering t a) ds (v ∷ gs) now s f h =
    let same : is_with t from ≡ true = eq-eqb t.partner.raw from.raw (h.0 ∙ sym f) in
    subst (λ k. EndHears me (Answering t a) ds (v ∷ gs) s k (device_after (Answering t a) from now k)) (sym (answering_is from t a s same)) (answering_case me from t a ds gs v now f h same s)
