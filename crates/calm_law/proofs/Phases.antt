-- One device of a calm line: where an attempt of its job is, what is on its way, and what the device knows of the connection.
use Rattle.std.proofs.Common.{◌≡◌, ℕ, ◌<◌, List, [], ◌∷◌, Bool, true, false, is_some, Option, Some, None}
use Rattle.knx_model.specs.declared.address.IndAddr.{IndAddr}
use Rattle.knx_model.specs.declared.connection.TransportFrame.{TransportFrame}
use Rattle.knx_model.specs.declared.connection.TransportFrame.TheVariants.{Connect, Disconnect, Ack, Numbered}
use Rattle.knx_model.specs.declared.device.FrameSupport.{FrameSupport}
use Rattle.knx_model.specs.declared.frames.cemi.Ldata.{Ldata}
use Rattle.knx_model.specs.declared.frames.tpdu.Tpdu.TheVariants as tpdu
use Rattle.knx_model.specs.declared.plan.Expect.{Expect}
use Rattle.knx_model.specs.Apdu.{Written}
use Rattle.knx_model.specs.ClientConnection.{ClientEnd, Up, Asking, Awaiting, Ended, Question, has_answer}
use Rattle.knx_model.specs.Connection.{Session, frame_in, next_number, numbered_data}
use Rattle.knx_model.specs.Device.{NonVolatile, answer_in}
use Rattle.knx_model.specs.DeviceConnection.{DeviceEnd, Closed, Idle, Answering, first_answer}
use Rattle.knx_model.specs.GoodPlan.{IsSendable, AnswersAll}
use Rattle.knx_model.specs.Plans.{Plan, Asks, Suits}
use Rattle.knx_model.specs.Served.{IsServed}
use Rattle.line_model.specs.Attempts.{Attempt, Attempts, Resting, Running, first, sent_of}

-- ---- what is on its way to the client: the confirmation of its frame, without error, and frames of the device

pub data Item : Type 0 where
  Told : Item
  Heard : TransportFrame → Item

abbrev pub items_if : Bool → TransportFrame → List Item → List Item
items_if true frame items = items
items_if false frame items = Heard frame ∷ items

-- of the frames that the device has to send those to one other device, which is the client
abbrev pub items_of : List Ldata → List Item
items_of [] = []
items_of (f ∷ l) = items_if f.group (frame_in f.tpdu) (items_of l)

-- ---- phases

pub data Phase : Type 0 where
  Rests : Phase
  Opens : Bool → Phase  -- the T_Connect, with true on its way, and else over the bus
  Ready : Plan → Bool → Phase  -- this is left of the plan; it comes to its end or not
  Sends : ℕ → List ℕ → Expect → (Option (List ℕ) → Plan) → Phase  -- a service is on its way
  Served : Bool → ℕ → List ℕ → Expect → (Option (List ℕ) → Plan) → Option (List ℕ) → Phase  -- the device took it and answers this; with true its confirmation is on its way too
  Awaits : ℕ → List ℕ → Expect → (Option (List ℕ) → Plan) → List ℕ → Phase  -- the answer is on its way
  Owes : Plan → Bool → List ℕ → ℕ → Phase  -- the answer with this number came and isn't acknowledged
  Acks : Bool → Plan → Bool → List ℕ → ℕ → Phase  -- its T_ACK is on its way, or over the bus
  Leaves : Bool → Plan → Phase  -- the T_Disconnect

-- the client's frame that is on its way up or waits for the bus
abbrev pub fly_at : ℕ → Phase → Option TransportFrame
fly_at n Rests = None
fly_at n (Opens true) = Some Connect
fly_at n (Opens false) = None
fly_at n (Ready left closing) = None
fly_at n (Sends place apdu expect next) = Some (Numbered n apdu)
fly_at n (Served told place apdu expect next o) = None
fly_at n (Awaits place apdu expect next v) = None
fly_at n (Owes left closing v m) = None
fly_at n (Acks true left closing v m) = Some (Ack m)
fly_at n (Acks false left closing v m) = None
fly_at n (Leaves true left) = Some Disconnect
fly_at n (Leaves false left) = None

-- ---- what comes to the client

abbrev pub answer_items : ℕ → Option (List ℕ) → List Item
answer_items e None = []
answer_items e (Some v) = Heard (Numbered e v) ∷ []

abbrev pub stream_at : ℕ → ℕ → Phase → List Item
stream_at n e Rests = []
stream_at n e (Opens true) = []
stream_at n e (Opens false) = Told ∷ []
stream_at n e (Ready left closing) = []
stream_at n e (Sends place apdu expect next) = []
stream_at n e (Served true place apdu expect next o) = Told ∷ Heard (Ack n) ∷ answer_items e o
stream_at n e (Served false place apdu expect next o) = Heard (Ack n) ∷ answer_items e o
stream_at n e (Awaits place apdu expect next v) = Heard (Numbered e v) ∷ []
stream_at n e (Owes left closing v m) = []
stream_at n e (Acks true left closing v m) = []
stream_at n e (Acks false left closing v m) = Told ∷ []
stream_at n e (Leaves true left) = []
stream_at n e (Leaves false left) = Told ∷ []

-- ---- both ends: n is the client's number, e the one that it expects

abbrev pub client_at : IndAddr → ℕ → ℕ → ℕ → Session
client_at device n e now = record { partner = device; expected = e; number = n; last = now }

abbrev pub device_at : IndAddr → ℕ → ℕ → ℕ → Session
device_at me n e now = record { partner = me; expected = n; number = e; last = now }

abbrev pub waiting_question : ℕ → List ℕ → Option ℕ → Question
waiting_question n apdu confirmed = record { frame = numbered_data n apdu; awaits = has_answer apdu; repeats = 0; confirmed = confirmed }

abbrev pub flying_if : Bool → TransportFrame → Option TransportFrame
flying_if true frame = Some frame
flying_if false frame = None

abbrev pub confirmed_if : Bool → ℕ → Option ℕ
confirmed_if true now = None
confirmed_if false now = Some now

abbrev pub attempt_of : ClientEnd → Plan → List (List ℕ) → Option TransportFrame → Bool → Attempt
attempt_of end left owed flying closing = record { end = end; left = left; owed = owed; flying = flying; closing = closing }

module _ (me device : IndAddr) (plan : Plan) where
  abbrev pub attempts_at : ℕ → ℕ → ℕ → ℕ → Phase → Attempts
  attempts_at k n e now Rests = Resting k
  attempts_at k n e now (Opens fly) = Running k (first device plan)
  attempts_at k n e now (Ready left closing) = Running k (attempt_of (Up (client_at device n e now)) left [] None closing)
  attempts_at k n e now (Sends place apdu expect next) = Running k (attempt_of (Asking (client_at device n e now) (waiting_question n apdu None)) (sent_of (Asks place apdu expect next)) [] (Some (Numbered n apdu)) false)
  attempts_at k n e now (Served told place apdu expect next o) = Running k (attempt_of (Asking (client_at device n e now) (waiting_question n apdu (confirmed_if told now))) (sent_of (Asks place apdu expect next)) [] (flying_if told (Numbered n apdu)) false)
  attempts_at k n e now (Awaits place apdu expect next v) = Running k (attempt_of (Awaiting (client_at device n e now)) (sent_of (Asks place apdu expect next)) [] None false)
  attempts_at k n e now (Owes left closing v m) = Running k (attempt_of (Up (client_at device n e now)) left (Written (tpdu.Ack m) ∷ []) None closing)
  attempts_at k n e now (Acks fly left closing v m) = Running k (attempt_of (Up (client_at device n e now)) left [] (Some (Ack m)) closing)
  attempts_at k n e now (Leaves fly left) = Running k (attempt_of Ended left [] (Some Disconnect) true)

  abbrev pub answering_at : ℕ → ℕ → ℕ → Option (List ℕ) → DeviceEnd
  answering_at n e now None = Idle (device_at me n e now)
  answering_at n e now (Some v) = Answering (device_at me n e now) (first_answer (numbered_data e v) now)

  abbrev pub connection_at : ℕ → ℕ → ℕ → Phase → DeviceEnd
  connection_at n e now Rests = Closed
  connection_at n e now (Opens true) = Closed
  connection_at n e now (Opens false) = Idle (device_at me 0 0 now)
  connection_at n e now (Ready left closing) = Idle (device_at me n e now)
  connection_at n e now (Sends place apdu expect next) = Idle (device_at me n e now)
  connection_at n e now (Served told place apdu expect next o) = answering_at (next_number n) e now o
  connection_at n e now (Awaits place apdu expect next v) = answering_at n e now (Some v)
  connection_at n e now (Owes left closing v m) = answering_at n m now (Some v)
  connection_at n e now (Acks true left closing v m) = answering_at n m now (Some v)
  connection_at n e now (Acks false left closing v m) = Idle (device_at me n e now)
  connection_at n e now (Leaves true left) = Idle (device_at me n e now)
  connection_at n e now (Leaves false left) = Closed

-- ---- what is left of the plan is served

pub record Goes (left : Plan) (closing : Bool) (frames : FrameSupport) (kept : NonVolatile) : Type 0 where
  pub sendable : IsSendable left
  pub served : closing ≡ false → IsServed frames left kept

pub record Answers (place : ℕ) (apdu : List ℕ) (expect : Expect) (next : Option (List ℕ) → Plan) (o : Option (List ℕ)) (frames : FrameSupport) (kept : NonVolatile) : Type 0 where
  pub sendable : IsSendable (Asks place apdu expect next)
  pub exactly : is_some o ≡ has_answer apdu
  pub served : Suits apdu expect o → IsServed frames (next o) kept

-- the number after one
abbrev pub Follows : ℕ → ℕ → Type 0
Follows m e = (m < 16) × (e ≡ next_number m)

abbrev pub IsGood : Plan → ℕ → Phase → FrameSupport → NonVolatile → Type 0
IsGood plan e Rests frames kept = Unit {0}
IsGood plan e (Opens fly) frames kept = Goes plan false frames kept
IsGood plan e (Ready left closing) frames kept = Goes left closing frames kept
IsGood plan e (Sends place apdu expect next) frames kept = Goes (Asks place apdu expect next) false frames kept
IsGood plan e (Served told place apdu expect next o) frames kept = Answers place apdu expect next o frames kept
IsGood plan e (Awaits place apdu expect next v) frames kept = Answers place apdu expect next (Some v) frames kept
IsGood plan e (Owes left closing v m) frames kept = Goes left closing frames kept × Follows m e
IsGood plan e (Acks fly left closing v m) frames kept = Goes left closing frames kept × Follows m e
IsGood plan e (Leaves fly left) frames kept = Unit {0}

-- ---- where the device gives each wanted answer, from the job's taking on, none is refused: W says so

-- k attempts began
abbrev pub Wants : Type 0 → Plan → ℕ → Phase → FrameSupport → NonVolatile → Type 0
Wants W plan k Rests frames kept = k ≡ 0 → W → AnswersAll (answer_in frames) plan kept
Wants W plan k (Opens fly) frames kept = W → AnswersAll (answer_in frames) plan kept
Wants W plan k (Ready left closing) frames kept = W → (closing ≡ false) × AnswersAll (answer_in frames) left kept
Wants W plan k (Sends place apdu expect next) frames kept = W → AnswersAll (answer_in frames) (Asks place apdu expect next) kept
Wants W plan k (Served told place apdu expect next o) frames kept = W → Suits apdu expect o × AnswersAll (answer_in frames) (next o) kept
Wants W plan k (Awaits place apdu expect next v) frames kept = W → Suits apdu expect (Some v) × AnswersAll (answer_in frames) (next (Some v)) kept
Wants W plan k (Owes left closing v m) frames kept = W → (closing ≡ false) × AnswersAll (answer_in frames) left kept
Wants W plan k (Acks fly left closing v m) frames kept = W → (closing ≡ false) × AnswersAll (answer_in frames) left kept
Wants W plan k (Leaves fly left) frames kept = k ≡ 1

-- one device: the attempts of its job, what is on its way, and the device
pub record Line (me device : IndAddr) (plan : Plan) (k n e : ℕ) (phase : Phase) (t : Attempts) (stream : List Item) (connection : DeviceEnd) (frames : FrameSupport) (kept : NonVolatile) (now : ℕ) : Type 0 where
  pub attempts_are : t ≡ attempts_at me device plan k n e now phase
  pub stream_is : stream ≡ stream_at n e phase
  pub connection_is : connection ≡ connection_at me device plan n e now phase
  pub good : IsGood plan e phase frames kept
  pub numbers : (n < 16) × (e < 16)
