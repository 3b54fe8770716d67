-- The attempts of a job as the record shows them (ISO/IEC 14543-3-2, transport layer): each begins with a T_Connect to the device, goes through
-- the job's plan from its first operation on, and follows the client's end of the connection, with what was put, confirmed and taken. A frame
-- that was put is in flight until the next confirmation. Where an answer differs from the expected one, or a wrong T_ACK closed the connection,
-- the attempt comes to its end; where a wait has passed and nothing came since, it may. It has ended once its T_Disconnect is confirmed, the
-- device sent one, the T_Connect was confirmed with error, or the channel is lost.
use Rattle.std.specs.Prelude.{◌≡◌, ◌<◌, ◌⊎◌, ℕ, suc, Bool, true, false, ◌&&◌, List, [], ◌∷◌, ◌++◌, length, drop, nat_lt, if◌then◌else◌, Option, Some, None}
use Rattle.knx_model.specs.declared.address.IndAddr.{IndAddr}
use Rattle.knx_model.specs.declared.connection.ClientTook.{ClientTook}
use Rattle.knx_model.specs.declared.connection.ClientTook.TheVariants as heard
use Rattle.knx_model.specs.declared.connection.ClientExpired.{ClientExpired}
use Rattle.knx_model.specs.declared.connection.ClientExpired.TheVariants as over
use Rattle.knx_model.specs.declared.connection.TransportFrame.{TransportFrame}
use Rattle.knx_model.specs.declared.connection.TransportFrame.TheVariants.{Connect, Disconnect, Ack, Nak, Numbered, Other}
use Rattle.knx_model.specs.declared.plan.Expect.{Expect}
use Rattle.knx_model.specs.declared.plan.Expect.TheVariants.{AckOnly}
use Rattle.knx_model.specs.ClientConnection.{ClientEnd, Asked, Up, Asking, Awaiting, Ended, client_sent, after_send, client_took, client_after, client_stayed, client_expired, after_overdue, after_confirmed}
use Rattle.knx_model.specs.Connection.{Session}
use Rattle.knx_model.specs.Plans.{Plan, Over, Asks, followed}
use Rattle.line_model.specs.Moments.{Moment, is_loss, confirmation_in, put_to, heard_from}
use Rattle.line_model.specs.Progress.{suits}

pub record Attempt : Type 0 where
  pub end : ClientEnd  -- the client's end of the connection
  pub left : Plan  -- from the operation whose answer is awaited on or, where none is, from the next one
  pub owed : List (List ℕ)  -- the T_ACKs and T_NAKs that the client owes the device, the oldest first
  pub flying : Option TransportFrame  -- what was put and isn't confirmed
  pub closing : Bool  -- it comes to its end

pub data Attempts : Type 0 where
  Resting : ℕ → Attempts  -- so many began, and none runs
  Running : ℕ → Attempt → Attempts

abbrev pub begun : Attempts → ℕ
begun (Resting k) = k
begun (Running k a) = k

abbrev pub first : IndAddr → Plan → Attempt
first device plan = record { end = Asked device; left = plan; owed = []; flying = Some Connect; closing = false }

-- ---- what was put

-- A T_ACK or T_NAK begins the wait for an answer anew. An operation without answer is over for the plan once it is sent
abbrev pub sent_of : Plan → Plan
sent_of (Asks place apdu AckOnly next) = next None
sent_of plan = plan

abbrev pub sends_numbered : Attempt → List ℕ → ℕ → Option (List ℕ) → Attempt
sends_numbered a apdu now None = record a { end = after_overdue a.end now (over.Repeat []) }
sends_numbered a apdu now (Some frame) = record a { end = after_send a.end apdu now; left = sent_of a.left }

abbrev pub put_attempt : Attempt → ℕ → TransportFrame → Attempt
put_attempt a now Connect = a
put_attempt a now Disconnect = record a { end = Ended; owed = []; closing = true; flying = Some Disconnect }
put_attempt a now (Ack n) = record a { end = client_stayed a.end now; owed = drop 1 a.owed; flying = Some (Ack n) }
put_attempt a now (Nak n) = record a { end = client_stayed a.end now; owed = drop 1 a.owed; flying = Some (Nak n) }
put_attempt a now (Numbered n apdu) = record (sends_numbered a apdu now (client_sent a.end apdu)) { flying = Some (Numbered n apdu) }
put_attempt a now Other = a

abbrev pub put_other : Attempts → ℕ → TransportFrame → Attempts
put_other (Resting k) now frame = Resting k
put_other (Running k a) now frame = Running k (put_attempt a now frame)

abbrev pub put_so : IndAddr → Plan → ℕ → Attempts → Option TransportFrame → Attempts
put_so device plan now t None = t
put_so device plan now t (Some Connect) = Running (suc (begun t)) (first device plan)
put_so device plan now t (Some frame) = put_other t now frame

-- ---- what was confirmed

abbrev pub landed : Attempt → Attempt
landed a = record a { flying = None }

abbrev pub confirmed_attempt : ℕ → Attempt → ℕ → Bool → Option TransportFrame → Attempts
confirmed_attempt k a now error None = Running k a
confirmed_attempt k a now error (Some Connect) = if error then Resting k else Running k (landed (record a { end = after_confirmed a.end error now }))
confirmed_attempt k a now error (Some Disconnect) = Resting k
confirmed_attempt k a now error (Some (Numbered n apdu)) = Running k (landed (record a { end = after_confirmed a.end error now }))
confirmed_attempt k a now error (Some frame) = Running k (landed a)

abbrev pub confirmed_so : ℕ → Attempts → Option Bool → Attempts
confirmed_so now (Resting k) error = Resting k
confirmed_so now (Running k a) None = Running k a
confirmed_so now (Running k a) (Some error) = confirmed_attempt k a now error a.flying

-- ---- what was taken

-- its answer is still to come
abbrev pub awaits : ClientEnd → Bool
awaits (Asked device) = false
awaits (Up s) = false
awaits (Asking s q) = q.awaits
awaits (Awaiting s) = true
awaits Ended = false

-- the answer that is awaited is the one that the plan expects of the operation sent last
abbrev pub answered : Attempt → List ℕ → Attempt
answered a got = if awaits a.end && suits a.left got then record a { left = followed a.left got } else record a { closing = true }

-- so many are owed at most; one more is none, and the device sends its frame again
abbrev pub most_owed : ℕ
most_owed = 64

abbrev pub with_reply : List (List ℕ) → List ℕ → List (List ℕ)
with_reply owed reply = if nat_lt (length owed) most_owed then owed ++ reply ∷ [] else owed

abbrev pub owing : Attempt → ℕ → ClientTook → List ℕ → Attempt
owing a now taken reply = record a { end = client_after a.end now taken; owed = with_reply a.owed reply }

abbrev pub heard_attempt : ℕ → Attempt → ℕ → ClientTook → Attempts
heard_attempt k a now heard.Dropped = Running k a
heard_attempt k a now heard.Acked = Running k (record a { end = client_after a.end now heard.Acked })
heard_attempt k a now (heard.Answer apdu ack) = Running k (owing (answered a apdu) now (heard.Answer apdu ack) ack)
heard_attempt k a now (heard.Again ack) = Running k (owing a now (heard.Again ack) ack)
heard_attempt k a now (heard.Nak nak) = Running k (owing a now (heard.Nak nak) nak)
heard_attempt k a now (heard.Closed None) = Resting k
heard_attempt k a now (heard.Closed (Some disconnect)) = Running k (record a { end = Ended; owed = []; closing = true })

abbrev pub heard_so : ℕ → Attempts → Option TransportFrame → Attempts
heard_so now (Resting k) frame = Resting k
heard_so now (Running k a) None = Running k a
heard_so now (Running k a) (Some frame) = heard_attempt k a now (client_took a.end frame)

-- ---- the loss of the channel

abbrev pub attempts_after : IndAddr → Plan → Moment → Attempts → Attempts
attempts_after device plan m t =
    if is_loss m.what then Resting (begun t)
    else heard_so m.now (confirmed_so m.now (put_so device plan m.now t (put_to device.raw m.what)) (confirmation_in m.what)) (heard_from device.raw m.what)

-- of the moments since the job was taken
abbrev pub attempts : IndAddr → Plan → List Moment → Attempts
attempts device plan [] = Resting 0
attempts device plan (m ∷ l) = attempts_after device plan m (attempts device plan l)

-- ---- which frame may be put next

abbrev pub most_attempts : ℕ
most_attempts = 3

-- the attempt's next operation: nothing is awaited
pub record IsNext (a : Attempt) (apdu tpdu : List ℕ) : Type 0 where
  pub session : Session
  pub up : a.end ≡ Up session
  pub goes_on : a.closing ≡ false
  pub place : ℕ
  pub expect : Expect
  pub next : Option (List ℕ) → Plan
  pub head : a.left ≡ Asks place apdu expect next
  pub as_sent : client_sent a.end apdu ≡ Some tpdu

-- the outstanding operation again, whose wait has passed
abbrev pub IsRepeat : Attempt → ℕ → List ℕ → Type 0
IsRepeat a now tpdu = client_expired a.end now ≡ over.Repeat tpdu

-- what is owed to the device goes first
pub record MayAsk (a : Attempt) (now : ℕ) (apdu tpdu : List ℕ) : Type 0 where
  pub owes_nothing : a.owed ≡ []
  pub which : IsNext a apdu tpdu ⊎ IsRepeat a now tpdu

-- all operations are over
pub record IsDone (a : Attempt) : Type 0 where
  pub session : Session
  pub up : a.end ≡ Up session
  pub all : a.left ≡ Over

abbrev pub is_asking : ClientEnd → Bool
is_asking (Asking s q) = true
is_asking _ = false

-- it comes to its end refused or done, no T_ACK is awaited, and the last answer is acknowledged
pub record IsOver (a : Attempt) : Type 0 where
  pub acknowledged : is_asking a.end ≡ false
  pub owes_nothing : a.owed ≡ []
  pub which : (a.closing ≡ true) ⊎ IsDone a

abbrev pub is_silent : ClientExpired → Bool
is_silent over.Nothing = false
is_silent (over.Repeat frame) = false
is_silent (over.Silent ms) = true

-- or it is silent: a frame that was taken after the wait, before this, counts
abbrev pub MayDisconnect : Attempt → ℕ → Type 0
MayDisconnect a now = IsOver a ⊎ (is_silent (client_expired a.end now) ≡ true)

abbrev pub OfRunning : (Attempt → Type 0) → Attempts → Type 0
OfRunning P (Resting k) = ⊥
OfRunning P (Running k a) = P a

abbrev pub MayBegin : Attempts → Type 0
MayBegin (Resting k) = k < most_attempts
MayBegin (Running k a) = ⊥

abbrev pub Owes : List ℕ → Attempt → Type 0
Owes tpdu a = (rest : List (List ℕ)) × (a.owed ≡ tpdu ∷ rest)

abbrev pub MayPut : Attempts → ℕ → List ℕ → TransportFrame → Type 0
MayPut t now tpdu Connect = MayBegin t
MayPut t now tpdu Disconnect = OfRunning (λ a. MayDisconnect a now) t
MayPut t now tpdu (Ack n) = OfRunning (Owes tpdu) t
MayPut t now tpdu (Nak n) = OfRunning (Owes tpdu) t
MayPut t now tpdu (Numbered n apdu) = OfRunning (λ a. MayAsk a now apdu tpdu) t
MayPut t now tpdu Other = ⊥
