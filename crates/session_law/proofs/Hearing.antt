-- What the client's end makes of a frame.
use Rattle.knx_model.specs.declared.frames.tpdu.Tpdu.TheVariants as tpdu
use Rattle.knx_model.specs.declared.connection.ClientTook.TheVariants as brought
use Rattle.std.proofs.Common.{◌≡◌, ℕ, ◌%◌, ◌<◌, ◌≤◌, List, ◌∷◌, length, Bool, true, false, cond, Some, None, refl, sym, ap, subst, inl, inr}
use Rattle.knx_model.specs.declared.connection.TransportFrame.{TransportFrame}
use Rattle.knx_model.specs.declared.connection.TransportFrame.TheVariants.{Connect, Disconnect, Ack, Nak, Numbered, Other}
use Rattle.knx_model.specs.Connection.{Session, disconnect, next_number, is_before}
use Rattle.knx_model.specs.ClientConnection.{up_took, asking_took}
use Rattle.session_law.proofs.Arrivals.{Arrival, Frame, IsntAck, IsntData}
use Rattle.session_law.proofs.Invariant.{GivenAt, Acks, Answers}
use Rattle.std.specs.Prelude.{◌==◌}
use Rattle.std.proofs.lemmas.Bool.{eqb-true, eqb-false}
use Rattle.knx_model.specs.declared.connection.ClientTook.{ClientTook}
use Rattle.knx_model.specs.Apdu.{Written}

-- ---- what the client's end makes of a frame

pub data Hearing (waits : Bool) (number expected : ℕ) (t : TransportFrame) : ClientTook → Type 0 where
  CDrops : Hearing waits number expected t brought.Dropped
  CAcked : waits ≡ true → t ≡ Ack number → Hearing waits number expected t brought.Acked
  CAnswer : (apdu : List ℕ) → t ≡ Numbered expected apdu → Hearing waits number expected t (brought.Answer apdu (Written (tpdu.Ack expected)))
  CAgain : (n : ℕ) (apdu : List ℕ) → t ≡ Numbered n apdu → (n ≡ expected → ⊥) → next_number n ≡ expected → Hearing waits number expected t (brought.Again (Written (tpdu.Ack n)))
  CNak : (n : ℕ) (apdu : List ℕ) → t ≡ Numbered n apdu → Hearing waits number expected t (brought.Nak (Written (tpdu.Nak n)))
  CCloses : Hearing waits number expected t (brought.Closed None)
  CClosesBy : Hearing waits number expected t (brought.Closed (Some disconnect))

ack_by : (waits : Bool) (number expected : ℕ) (m : ℕ) (b : Bool) → Hearing waits number expected (Ack m) (cond b brought.Dropped (brought.Closed (Some disconnect)))
ack_by waits number expected m true = CDrops
ack_by waits number expected m false = CClosesBy

past_by : (waits : Bool) (number expected : ℕ) (n : ℕ) (apdu : List ℕ) (b : Bool) → (n ≡ expected → ⊥) → is_before n expected ≡ b → Hearing waits number expected (Numbered n apdu) (cond b (brought.Again (Written (tpdu.Ack n))) (brought.Nak (Written (tpdu.Nak n))))
past_by waits number expected n apdu true ne e = CAgain n apdu refl ne (eqb-true (next_number n) expected e)
past_by waits number expected n apdu false ne e = CNak n apdu refl

number_by : (waits : Bool) (number expected : ℕ) (n : ℕ) (apdu : List ℕ) (b : Bool) → (n == expected) ≡ b
    → Hearing waits number expected (Numbered n apdu) (cond b (brought.Answer apdu (Written (tpdu.Ack n))) (cond (is_before n expected) (brought.Again (Written (tpdu.Ack n))) (brought.Nak (Written (tpdu.Nak n)))))
number_by waits number expected n apdu true e =
    let at : n ≡ expected = eqb-true n expected e in
    let P : ℕ → Type 0 = λ k. Hearing waits number expected (Numbered n apdu) (brought.Answer apdu (Written (tpdu.Ack k))) in
    subst P (sym at) (CAnswer apdu (ap (λ (k : ℕ). Numbered k apdu) at))
number_by waits number expected n apdu false e = past_by waits number expected n apdu (is_before n expected) (eqb-false n expected e) refl

pub up_hearing : (waits : Bool) (s : Session) (t : TransportFrame) → Hearing waits s.number s.expected t (up_took s t)
up_hearing waits s Connect = CDrops
up_hearing waits s Disconnect = CCloses
up_hearing waits s (Ack m) = ack_by waits s.number s.expected m (is_before m s.number)
up_hearing waits s (Nak m) = CDrops
up_hearing waits s (Numbered n apdu) = number_by waits s.number s.expected n apdu (n == s.expected) refl
up_hearing waits s Other = CDrops

acked_by : (s : Session) (m : ℕ) (b : Bool) → (m == s.number) ≡ b → Hearing true s.number s.expected (Ack m) (cond b brought.Acked (up_took s (Ack m)))
acked_by s m true e = CAcked refl (ap (λ k. Ack k) (eqb-true m s.number e))
acked_by s m false e = up_hearing true s (Ack m)

pub asking_hearing : (s : Session) (t : TransportFrame) → Hearing true s.number s.expected t (asking_took s t)
asking_hearing s Connect = CDrops
asking_hearing s Disconnect = CCloses
asking_hearing s (Ack m) = acked_by s m (m == s.number) refl
asking_hearing s (Nak m) = CDrops
asking_hearing s (Numbered n apdu) = up_hearing true s (Numbered n apdu)
asking_hearing s Other = CDrops

-- ---- places

pub record AckPlace (low n m : ℕ) (l : List Arrival) : Type 0 where
  pub a : ℕ
  pub low_le : low ≤ a
  pub below : a < n
  pub number : m ≡ a % 16
  pub others : Acks a l n

pub ack_place : (s : TransportFrame) (low n m : ℕ) (l : List Arrival) → s ≡ Ack m → Acks low (Frame s ∷ l) n → AckPlace low n m l
ack_place s low n m l e (inl q) = absurd (subst (λ (z : TransportFrame). IsntAck z) e q.0)
ack_place s low n m l e (inr q) = record { a = q.0; low_le = q.1; below = q.2; number = (let g : Frame s ≡ Frame (Ack (q.0 % 16)) = q.3 in let g2 : Ack m ≡ Ack (q.0 % 16) = cc in cc); others = q.4 }

pub record AnswerPlace (gs : List (List ℕ)) (low m : ℕ) (apdu : List ℕ) (l : List Arrival) : Type 0 where
  pub a : ℕ
  pub low_le : low ≤ a
  pub below : a < length gs
  pub number : m ≡ a % 16
  pub right : GivenAt gs a apdu
  pub others : Answers gs a l

pub answer_place : (s : TransportFrame) (gs : List (List ℕ)) (low m : ℕ) (apdu : List ℕ) (l : List Arrival) → s ≡ Numbered m apdu → Answers gs low (Frame s ∷ l) → AnswerPlace gs low m apdu l
answer_place s gs low m apdu l e (inl q) = absurd (subst (λ (z : TransportFrame). IsntData z) e q.0)
answer_place s gs low m apdu l e (inr q) =
    let g : Frame s ≡ Frame (Numbered (q.0 % 16) q.3.value) = q.3.is in
    let number : m ≡ q.0 % 16 = let g2 : Numbered m apdu ≡ Numbered (q.0 % 16) q.3.value = cc in cc in
    let same : q.3.value ≡ apdu = let g2 : Numbered m apdu ≡ Numbered (q.0 % 16) q.3.value = cc in cc in
    record { a = q.0; low_le = q.1; below = q.2; number = number; right = subst (λ (z : List ℕ). GivenAt gs q.0 z) same q.3.right; others = q.4 }
