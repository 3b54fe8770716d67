-- The signs of a failed job, as the record shows them (ISO/IEC 14543-3-2, transport layer): how each of its three attempts ended. The k-th
-- stretch runs from the k-th T_Connect to the device on, up to the next one; the third runs to the entry that tells the failure. That the
-- client's end closes after 6,000 ms only while it awaits an answer, and which T_ACK it ignores, is this project's own.
use Rattle.std.specs.Prelude.{◌≡◌, ◌≢◌, ℕ, zero, suc, ◌-◌, ◌≤◌, ◌⊎◌, List, [], ◌∷◌, ◌++◌, length, reverse, Bool, true, false, ◌==◌, Option, Some, None}
use Rattle.knx_model.specs.declared.connection.TransportFrame.{TransportFrame}
use Rattle.knx_model.specs.declared.connection.TransportFrame.TheVariants.{Connect, Ack, Nak, Numbered, Other}
use Rattle.knx_model.specs.declared.log.Sign.{Sign}
use Rattle.knx_model.specs.declared.log.Sign.TheVariants.{Silent, Closed, NoCon, TunnelLost}
use Rattle.knx_model.specs.ClientConnection.{has_answer}
use Rattle.knx_model.specs.Connection.{next_number, ack_wait, idle_wait}
use Rattle.line_model.specs.ClientView.{Loses}
use Rattle.line_model.specs.Moments.{Moment, time, confirmation_in, put_to, heard_from, stretches, WithError, course, session, Next, number, answers, closes_by}

abbrev pub Every : (Moment → Type 0) → List Moment → Type 0
Every P [] = Unit {0}
Every P (m ∷ l) = P m × Every P l

-- P held at some moment of the list, of what there was then
pub data Once (P : List Moment → Type 0) : List Moment → Type 0 where
  Here : {l : List Moment} → P l → Once P l
  Later : {m : Moment} {l : List Moment} → Once P l → Once P (m ∷ l)

-- ---- silence after a frame that was sent four times

abbrev pub IsntAck : ℕ → ℕ → Moment → Type 0
IsntAck device n m = heard_from device m.what ≢ Some (Ack n)

abbrev pub IsntConfirmation : Moment → Type 0
IsntConfirmation m = confirmation_in m.what ≡ None

-- A numbered frame was put. Its confirmation, the first one after it, was taken. From then on 3,000 ms passed. Its T_ACK wasn't taken
-- meanwhile. Before it, all was so
pub record InVain (device n : ℕ) (apdu : List ℕ) (Before : List Moment → Type 0) (l : List Moment) : Type 0 where
  pub waited : List Moment
  pub con : Moment
  pub flown : List Moment
  pub put : Moment
  pub before : List Moment
  pub split : l ≡ waited ++ con ∷ (flown ++ put ∷ before)
  pub put_is : put_to device put.what ≡ Some (Numbered n apdu)
  pub error : Bool
  pub con_is : confirmation_in con.what ≡ Some error
  pub first : Every IsntConfirmation flown
  pub unheard : Every (IsntAck device n) flown
  pub unheard_later : Every (IsntAck device n) waited
  pub passed : ack_wait ≤ time l - con.now
  pub rest : Before before

-- this happened to one frame so many times in turn
abbrev pub SentInVain : ℕ → ℕ → List ℕ → ℕ → List Moment → Type 0
SentInVain device n apdu zero l = Unit {0}
SentInVain device n apdu (suc k) l = InVain device n apdu (SentInVain device n apdu k) l

pub record FourTimes (device : ℕ) (l : List Moment) : Type 0 where
  pub n : ℕ
  pub apdu : List ℕ
  pub all : SentInVain device n apdu 4 l

-- ---- silence in place of an answer

-- A service that has an answer was put for the first time, its T_ACK was taken later, and no answer was accepted since it was put
pub record IsAwaited (device : ℕ) (l : List Moment) : Type 0 where
  pub n : ℕ
  pub apdu : List ℕ
  pub after : List Moment
  pub ack : Moment
  pub flown : List Moment
  pub put : Moment
  pub before : List Moment
  pub split : l ≡ after ++ ack ∷ (flown ++ put ∷ before)
  pub put_is : put_to device put.what ≡ Some (Numbered n apdu)
  pub fresh : number device before ≡ Next n
  pub answered : has_answer apdu ≡ true
  pub ack_is : heard_from device ack.what ≡ Some (Ack n)
  pub unanswered : answers device l ≡ answers device before

-- nothing was put to the device, and nothing of it taken but what a connection whose next number is n ignores
abbrev pub is_ignored : ℕ → Option TransportFrame → Bool
is_ignored n None = true
is_ignored n (Some Connect) = true
is_ignored n (Some (Nak k)) = true
is_ignored n (Some (Ack k)) = next_number k == n
is_ignored n (Some Other) = true
is_ignored n _ = false

pub record IsStill (device n : ℕ) (m : Moment) : Type 0 where
  pub unput : put_to device m.what ≡ None
  pub ignored : is_ignored n (heard_from device m.what) ≡ true

-- The answer to a service is awaited at a moment, and since then 6,000 ms passed in which nothing was put to the device, and nothing of it was
-- taken but what is ignored
pub record Unanswered (device : ℕ) (l : List Moment) : Type 0 where
  pub quiet : List Moment
  pub last : Moment
  pub older : List Moment
  pub split : l ≡ quiet ++ last ∷ older
  pub awaited : IsAwaited device (last ∷ older)
  pub n : ℕ
  pub own : number device (last ∷ older) ≡ Next n
  pub still : Every (IsStill device n) quiet
  pub passed : idle_wait ≤ time l - last.now

-- ---- a T_Disconnect of the device, or a T_ACK of a number that is neither expected nor ignored

abbrev pub ClosesNow : ℕ → List Moment → Type 0
ClosesNow device [] = ⊥
ClosesNow device (m ∷ l) = closes_by (heard_from device m.what) (number device l) ≡ true

abbrev pub LostNow : List Moment → Type 0
LostNow [] = ⊥
LostNow (m ∷ l) = m.what ≡ Loses

-- ---- the signs

-- the waits by which an attempt ends in silence
abbrev pub SilentFor : ℕ → ℕ → List Moment → Type 0
SilentFor device ms l = ((ms ≡ ack_wait) × FourTimes device l) ⊎ ((ms ≡ idle_wait) × Unanswered device l)

abbrev pub Holds : ℕ → Sign → List Moment → Type 0
Holds device (Silent ms) stretch = Once (SilentFor device ms) (session (course device stretch))
Holds device Closed stretch = Once (ClosesNow device) (session (course device stretch))
Holds device NoCon stretch = course device stretch ≡ WithError
Holds device TunnelLost stretch = Once LostNow stretch

-- the signs and the stretches, both the newest first
abbrev pub EachHolds : ℕ → List Sign → List (List Moment) → Type 0
EachHolds device [] [] = Unit {0}
EachHolds device [] (x ∷ xs) = ⊥
EachHolds device (s ∷ ss) [] = ⊥
EachHolds device (s ∷ ss) (x ∷ xs) = Holds device s x × EachHolds device ss xs

-- In these moments, those from the job's beginning to its end, exactly three T_Connects were put to the device, and the k-th sign holds in
-- the k-th stretch. The first sign first
pub record SignsHold (device : ℕ) (signs : List Sign) (l : List Moment) : Type 0 where
  pub three : length signs ≡ 3
  pub each : EachHolds device (reverse signs) (stretches device l)
