-- The invariant of a session.
use Rattle.std.proofs.Common.{◌≡◌, ℕ, suc, ◌+◌, ◌-◌, ◌%◌, ◌≤◌, ◌⊎◌, List, [], ◌∷◌, ◌++◌, length, Bool, true, false, Option, Some, None, ◌∙◌, ap, arith, length-append}
use Rattle.knx_model.specs.declared.address.IndAddr.{IndAddr}
use Rattle.knx_model.specs.declared.connection.TransportFrame.{TransportFrame}
use Rattle.knx_model.specs.declared.connection.TransportFrame.TheVariants.{Connect, Disconnect, Ack, Nak, Numbered, Other}
use Rattle.knx_model.specs.Connection.{frame_in}
use Rattle.knx_model.specs.ClientConnection.{ClientEnd, Asked, Up, Asking, Awaiting, Ended}
use Rattle.knx_model.specs.DeviceConnection.{DeviceEnd, Closed, Idle, Answering}
use Rattle.session_law.specs.World.{Client}
use Rattle.session_law.specs.Promises.{IsFirstOf}
use Rattle.session_law.proofs.Arrivals.{Arrival, NoConfirmation, NotAck, NotAnswer, IsntAck, IsntData, IsntConnect, NoData, Split, arrival_if, owed_arrivals}
use Rattle.session_law.proofs.Placed.{Placed, AckAt, AnswerAt}
use Rattle.session_law.proofs.Seen.{Seen, ConnIs, extra}

-- ---- the invariant

-- an answer of the device, by its place from 0
abbrev pub GivenAt : List (List ℕ) → ℕ → List ℕ → Type 0
GivenAt given a v = (older : List (List ℕ)) × (length older ≡ a) × IsFirstOf (v ∷ older) given

-- the place of a service that the device gets: delivered last, or the next
abbrev pub Place : List (List ℕ) → List (List ℕ) → ℕ → List ℕ → ℕ → Type 0
Place asked delivered n apdu x = (n ≡ x % 16) × ((suc x ≡ length delivered) ⊎ ((x ≡ length delivered) × (asked ≡ apdu ∷ delivered)))

abbrev pub Head : List (List ℕ) → List ℕ → Type 0
Head [] apdu = ⊥
Head (x ∷ l) apdu = x ≡ apdu

-- the frame at hand is that of the last service
abbrev pub FlyFrame : TransportFrame → List (List ℕ) → Type 0
FlyFrame Connect asked = Unit {0}
FlyFrame Disconnect asked = Unit {0}
FlyFrame (Ack n) asked = Unit {0}
FlyFrame (Nak n) asked = Unit {0}
FlyFrame (Numbered n apdu) asked = (x : ℕ) × (suc x ≡ length asked) × (n ≡ x % 16) × Head asked apdu
FlyFrame Other asked = Unit {0}

abbrev pub FlyIs : Option TransportFrame → List (List ℕ) → Type 0
FlyIs None asked = Unit {0}
FlyIs (Some s) asked = FlyFrame s asked

abbrev pub Ready : TransportFrame → List (List ℕ) → List (List ℕ) → Type 0
Ready Connect asked delivered = Unit {0}
Ready Disconnect asked delivered = Unit {0}
Ready (Ack n) asked delivered = Unit {0}
Ready (Nak n) asked delivered = Unit {0}
Ready (Numbered n apdu) asked delivered = (x : ℕ) × Place asked delivered n apdu x
Ready Other asked delivered = Unit {0}

abbrev pub Opening : TransportFrame → List (List ℕ) → List (List ℕ) → Type 0
Opening Connect delivered given = (delivered ≡ []) × (given ≡ [])
Opening Disconnect delivered given = Unit {0}
Opening (Ack n) delivered given = Unit {0}
Opening (Nak n) delivered given = Unit {0}
Opening (Numbered n apdu) delivered given = Unit {0}
Opening Other delivered given = Unit {0}

abbrev pub LastIs : Option TransportFrame → List (List ℕ) → List (List ℕ) → List (List ℕ) → Type 0
LastIs None asked delivered given = Unit {0}
LastIs (Some s) asked delivered given = Ready s asked delivered × Opening s delivered given

-- the device's session
pub record Side (me : IndAddr) (asked : List (List ℕ)) (fly : Option TransportFrame) (o : Seen) : Type 0 where
  pub prefix : IsFirstOf o.delivered asked
  pub one : length asked ≤ suc (length o.delivered)
  pub connection : ConnIs me o.connection o.delivered o.given
  pub fly_is : FlyIs fly asked
  pub last_is : LastIs o.last asked o.delivered o.given

abbrev pub WaitIs : Bool → ℕ → ℕ → Type 0
WaitIs true sent done = sent ≡ suc done
WaitIs false sent done = sent ≡ done

abbrev pub NotOpening : Option TransportFrame → Type 0
NotOpening None = Unit {0}
NotOpening (Some s) = IsntConnect s

-- the frames that are on their way to the device, or that it may get again
abbrev pub ups : Option TransportFrame → Option TransportFrame → List (List ℕ) → List Arrival
ups last fly owed = arrival_if last ++ (arrival_if fly ++ owed_arrivals owed)

-- the client is in the device's session
pub record InSession (asked : List (List ℕ)) (fly : Option TransportFrame) (coming : List Arrival) (owed : List (List ℕ)) (waits : Bool) (number expected : ℕ) (sent accepted : List (List ℕ)) (o : Seen) : Type 0 where
  pub same : asked ≡ sent
  pub done : ℕ  -- how many services were acknowledged
  pub number_is : number ≡ done % 16
  pub expected_is : expected ≡ length accepted % 16
  pub waiting : WaitIs waits (length sent) done
  pub told : done ≤ length o.delivered
  pub acks : Placed AckAt NotAck (done - 1) (coming ++ o.unsent) (length o.delivered)
  pub answers : Placed (AnswerAt (GivenAt o.given)) NotAnswer (length accepted - 1) (coming ++ o.unsent) (length o.given)
  pub heard_is : IsFirstOf accepted o.given
  pub bound : length o.given ≤ extra o.connection + length accepted
  pub ups_are : Placed AckAt NotAck (length o.given - (1 + extra o.connection)) (ups o.last fly owed) (length accepted)
  pub flies : NotOpening fly

abbrev pub LastPlain : Option TransportFrame → Type 0
LastPlain None = Unit {0}
LastPlain (Some s) = IsntAck s × IsntData s

-- the device took the T_Connect
pub record Fresh (newer : List Arrival) (asked : List (List ℕ)) (o : Seen) : Type 0 where
  pub none : asked ≡ []
  pub ds : o.delivered ≡ []
  pub gs : o.given ≡ []
  pub queued : NoData newer
  pub unsent : NoData o.unsent
  pub plain : LastPlain o.last

abbrev pub Opened : Bool → List Arrival → List (List ℕ) → Seen → Type 0
Opened true newer asked o = Unit {0}
Opened false newer asked o = Fresh newer asked o

-- the confirmation of the T_Connect is still to come, or waits, or never comes
abbrev pub AskedIs : List (List ℕ) → Option TransportFrame → List Arrival → Seen → Type 0
AskedIs asked fly coming o =
    ((fly ≡ Some Connect) × NoConfirmation coming)
    ⊎ (((error : Bool) × (newer : List Arrival) × (fly ≡ None) × Split coming error newer × Opened error newer asked o) ⊎ ((fly ≡ None) × NoConfirmation coming))

abbrev pub Pending : Bool → Option TransportFrame → List Arrival → Type 0
Pending false fly coming = (fly ≡ None) × NoConfirmation coming
Pending true fly coming =
    ((s : TransportFrame) × (fly ≡ Some s) × NoConfirmation coming)
    ⊎ (((error : Bool) × (newer : List Arrival) × (fly ≡ None) × Split coming error newer) ⊎ ((fly ≡ None) × NoConfirmation coming))

abbrev pub OwedOk : List (List ℕ) → Type 0
OwedOk [] = Unit {0}
OwedOk (r ∷ l) = (IsntData (frame_in r) × IsntConnect (frame_in r)) × OwedOk l

abbrev pub QuestionIs : List ℕ → ℕ → List (List ℕ) → Type 0
QuestionIs frame number sent = (apdu : List ℕ) × Head sent apdu × (frame_in frame ≡ Numbered number apdu)

abbrev pub PhaseIs : ClientEnd → Bool → Bool → List (List ℕ) → List (List ℕ) → List (List ℕ) → List (List ℕ) → Option TransportFrame → List Arrival → Seen → Type 0
PhaseIs (Asked device) joined pending owed sent accepted asked fly coming o = (pending ≡ true) × (owed ≡ []) × AskedIs asked fly coming o
PhaseIs (Up s) joined pending owed sent accepted asked fly coming o = Pending pending fly coming × InSession asked fly coming owed false s.number s.expected sent accepted o
PhaseIs (Asking s q) joined pending owed sent accepted asked fly coming o = Pending pending fly coming × InSession asked fly coming owed true s.number s.expected sent accepted o × QuestionIs q.frame s.number sent
PhaseIs (Awaiting s) joined pending owed sent accepted asked fly coming o = Pending pending fly coming × InSession asked fly coming owed false s.number s.expected sent accepted o
PhaseIs Ended joined pending owed sent accepted asked fly coming o = joined ≡ true → Pending pending fly coming

pub record Invariant (me : IndAddr) (asked : List (List ℕ)) (c : Client) (fly : Option TransportFrame) (coming : List Arrival) (o : Seen) : Type 0 where
  pub owed_ok : OwedOk c.owed
  pub whole : (asked ≡ c.sent) ⊎ (asked ≡ [])
  pub side : Side me asked fly o
  pub phase : PhaseIs c.end c.joined c.pending c.owed c.sent c.accepted asked fly coming o

-- ---- lists

pub tail_length : (xs ys : List (List ℕ)) → IsFirstOf xs ys → length xs ≤ length ys
tail_length xs ys t = let e : length ys ≡ length t.0 + length xs = ap (λ (l : List (List ℕ)). length l) t.1 ∙ length-append t.0 xs in omega arith

pub one_newer : (newer xs ys : List (List ℕ)) → ys ≡ newer ++ xs → length ys ≡ suc (length xs) → (y : List ℕ) × (ys ≡ y ∷ xs)
one_newer [] xs ys e len = absurd (let h : length ys ≡ length xs = ap (λ (l : List (List ℕ)). length l) e in omega arith)
one_newer (y ∷ []) xs ys e len = (y, e)
one_newer (y ∷ z ∷ newer) xs ys e len = absurd (let h : length ys ≡ suc (suc (length newer + length xs)) = ap (λ (l : List (List ℕ)). length l) e ∙ ap (λ n. suc (suc n)) (length-append newer xs) in omega arith)

pub extra_le : (e : DeviceEnd) → extra e ≤ 1
extra_le Closed = omega arith
extra_le (Idle t) = omega arith
extra_le (Answering t a) = omega arith

abbrev pub Acks : ℕ → List Arrival → ℕ → Type 0
Acks low l n = Placed AckAt NotAck low l n

abbrev pub Answers : List (List ℕ) → ℕ → List Arrival → Type 0
Answers gs low l = Placed (AnswerAt (GivenAt gs)) NotAnswer low l (length gs)
