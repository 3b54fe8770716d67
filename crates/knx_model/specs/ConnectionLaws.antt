-- The words in which the laws of numbered connections are said (ISO/IEC 14543-3-2, transport layer).
use Rattle.std.specs.Prelude.{◌≡◌, ◌≢◌, ℕ, ◌+◌, ◌-◌, ◌%◌, ◌<◌, ◌≤◌, List, [], ◌∷◌, Bool, Option, Some, None}
use Rattle.knx_model.specs.declared.address.IndAddr.{IndAddr}
use Rattle.knx_model.specs.declared.frames.tpdu.Tpdu.TheVariants as tpdu
use Rattle.knx_model.specs.declared.connection.TransportFrame.{TransportFrame}
use Rattle.knx_model.specs.declared.connection.TransportFrame.TheVariants.{Connect, Disconnect, Ack, Nak, Numbered, Other}
use Rattle.knx_model.specs.declared.connection.DeviceTook.{DeviceTook}
use Rattle.knx_model.specs.declared.connection.DeviceTook.TheVariants as took
use Rattle.knx_model.specs.declared.connection.ClientTook.{ClientTook}
use Rattle.knx_model.specs.declared.connection.ClientTook.TheVariants as heard
use Rattle.knx_model.specs.Apdu.{Reads, Written}
use Rattle.knx_model.specs.Connection.{IsApdu, IsNumber, next_number, numbered_data, Session}
use Rattle.knx_model.specs.DeviceConnection.{Outstanding, DeviceEnd, Closed, Idle, Answering, device_took, device_after, after_answer, device_expired, after_expiry}
use Rattle.knx_model.specs.ClientConnection.{Question, ClientEnd, Asked, Up, Asking, Awaiting, Ended, after_confirmed, after_send, client_took, client_after, client_expired, after_overdue}

-- which octets carry which frame
abbrev pub Carries : List ℕ → TransportFrame → Type 0
Carries octets Connect = Reads octets tpdu.Connect
Carries octets Disconnect = Reads octets tpdu.Disconnect
Carries octets (Ack number) = Reads octets (tpdu.Ack number)
Carries octets (Nak number) = Reads octets (tpdu.Nak number)
Carries octets (Numbered number apdu) = IsNumber number × IsApdu apdu × (octets ≡ numbered_data number apdu)
Carries octets Other = ⊥

-- a time was reached
abbrev pub Reached : Option ℕ → ℕ → Type 0
Reached None now = ⊥
Reached (Some time) now = time ≤ now

-- a service is delivered: it is the partner's, it has the expected number, and no answer is outstanding
pub record Delivers (e : DeviceEnd) (from : IndAddr) (frame : TransportFrame) (apdu ack : List ℕ) : Type 0 where
  pub session : Session
  pub idle : e ≡ Idle session
  pub partner : session.partner.raw ≡ from.raw
  pub expected : frame ≡ Numbered session.expected apdu
  pub acknowledged : ack ≡ Written (tpdu.Ack session.expected)

-- an outstanding answer is sent again: the same octets, at most three times, each after its wait
pub record Repeats (e : DeviceEnd) (now : ℕ) (frame : List ℕ) : Type 0 where
  pub session : Session
  pub answer : Outstanding
  pub answering : e ≡ Answering session answer
  pub same : frame ≡ answer.frame
  pub fewer : answer.repeats < 3
  pub waited : 3000 ≤ now - answer.sent
  pub recent : now - session.last < 6000

-- the connection is open, with this session
abbrev pub IsOpen : DeviceEnd → Session → Type 0
IsOpen Closed s = ⊥
IsOpen (Idle t) s = s ≡ t
IsOpen (Answering t a) s = s ≡ t

-- an answer of this number is outstanding
abbrev pub IsAnswering : DeviceEnd → ℕ → Type 0
IsAnswering Closed number = ⊥
IsAnswering (Idle s) number = ⊥
IsAnswering (Answering s a) number = number ≡ s.number

-- the connection with the sender is closed, and the sender is answered so: by its T_Disconnect or by its T_ACK that is neither of the
-- outstanding number nor of the number before, by the T_Connect of another sender, or by numbered data where no connection is open
pub data ClosesDevice (e : DeviceEnd) (from : IndAddr) : TransportFrame → Option (List ℕ) → Type 0 where
  ByDisconnect : (s : Session) → IsOpen e s → s.partner.raw ≡ from.raw → ClosesDevice e from Disconnect None
  ByAck : (s : Session) (number : ℕ) → IsOpen e s → s.partner.raw ≡ from.raw → ¬ IsAnswering e number → (number + 1) % 16 ≢ s.number
      → ClosesDevice e from (Ack number) (Some (Written tpdu.Disconnect))
  ByStranger : (s : Session) → IsOpen e s → s.partner.raw ≢ from.raw → ClosesDevice e from Connect (Some (Written tpdu.Disconnect))
  ByService : (number : ℕ) (apdu : List ℕ) → e ≡ Closed → ClosesDevice e from (Numbered number apdu) (Some (Written tpdu.Disconnect))

-- the connection is open, and 6,000 ms passed in which no frame was taken or sent
pub record IsIdle (e : DeviceEnd) (now : ℕ) : Type 0 where
  pub session : Session
  pub open_ : IsOpen e session
  pub idle : 6000 ≤ now - session.last

-- the connection is up, with this session
abbrev pub HasSession : ClientEnd → Session → Type 0
HasSession (Asked device) s = ⊥
HasSession (Up t) s = s ≡ t
HasSession (Asking t q) s = s ≡ t
HasSession (Awaiting t) s = s ≡ t
HasSession Ended s = ⊥

-- an answer is told: the connection is up, and it has the expected number
pub record Hears (e : ClientEnd) (frame : TransportFrame) (apdu ack : List ℕ) : Type 0 where
  pub session : Session
  pub up : HasSession e session
  pub expected : frame ≡ Numbered session.expected apdu
  pub acknowledged : ack ≡ Written (tpdu.Ack session.expected)

-- a service of this number is outstanding
abbrev pub IsAsking : ClientEnd → ℕ → Type 0
IsAsking (Asked device) number = ⊥
IsAsking (Up s) number = ⊥
IsAsking (Asking s q) number = number ≡ s.number
IsAsking (Awaiting s) number = ⊥
IsAsking Ended number = ⊥

-- the frame closes the connection: a T_Disconnect, or a T_ACK that is neither of the outstanding number nor of the number before
pub data ClosesClient (e : ClientEnd) : TransportFrame → Option (List ℕ) → Type 0 where
  HeardDisconnect : (s : Session) → HasSession e s → ClosesClient e Disconnect None
  HeardAck : (s : Session) (number : ℕ) → HasSession e s → ¬ IsAsking e number → (number + 1) % 16 ≢ s.number
      → ClosesClient e (Ack number) (Some (Written tpdu.Disconnect))

-- a service is sent again: the same octets, at most three times, each 3,000 ms after its last confirmation without its T_ACK
pub record AsksAgain (e : ClientEnd) (now : ℕ) (frame : List ℕ) : Type 0 where
  pub session : Session
  pub question : Question
  pub since : ℕ
  pub asking : e ≡ Asking session question
  pub same : frame ≡ question.frame
  pub fewer : question.repeats < 3
  pub confirmed : question.confirmed ≡ Some since
  pub waited : 3000 ≤ now - since

-- a service was sent four times, and 3,000 ms passed after its last confirmation without its T_ACK
pub record IsUnacknowledged (e : ClientEnd) (now : ℕ) : Type 0 where
  pub session : Session
  pub question : Question
  pub since : ℕ
  pub asking : e ≡ Asking session question
  pub often : 3 ≤ question.repeats
  pub confirmed : question.confirmed ≡ Some since
  pub waited : 3000 ≤ now - since

-- the T_ACK of a service came, its answer is awaited, and 6,000 ms passed without a frame
pub record IsUnanswered (e : ClientEnd) (now : ℕ) : Type 0 where
  pub session : Session
  pub awaiting : e ≡ Awaiting session
  pub idle : 6000 ≤ now - session.last

-- the calls of a device's end: frames of a sender, answers, times
pub data DeviceCall : Type 0 where
  Takes : IndAddr → TransportFrame → ℕ → DeviceCall
  Answers : List ℕ → ℕ → DeviceCall
  Expires : ℕ → DeviceCall

abbrev pub after_device_call : DeviceEnd → DeviceCall → DeviceEnd
after_device_call e (Takes from frame now) = device_after e from now (device_took e from frame)
after_device_call e (Answers apdu now) = after_answer e apdu now
after_device_call e (Expires now) = after_expiry e now (device_expired e now)

-- the device's end after its calls, the newest first
abbrev pub device_after_calls : List DeviceCall → DeviceEnd
device_after_calls [] = Closed
device_after_calls (call ∷ calls) = after_device_call (device_after_calls calls) call

-- what is outstanding was sent at most four times
abbrev pub IsSentAtMostFourTimes : DeviceEnd → Type 0
IsSentAtMostFourTimes Closed = Unit {0}
IsSentAtMostFourTimes (Idle s) = Unit {0}
IsSentAtMostFourTimes (Answering s a) = 1 + a.repeats ≤ 4

-- the calls of a client's end: confirmations, services, frames of the device, times
pub data ClientCall : Type 0 where
  Confirms : Bool → ℕ → ClientCall
  Sends : List ℕ → ℕ → ClientCall
  Hearing : TransportFrame → ℕ → ClientCall
  Waits : ℕ → ClientCall

abbrev pub after_client_call : ClientEnd → ClientCall → ClientEnd
after_client_call e (Confirms error now) = after_confirmed e error now
after_client_call e (Sends apdu now) = after_send e apdu now
after_client_call e (Hearing frame now) = client_after e now (client_took e frame)
after_client_call e (Waits now) = after_overdue e now (client_expired e now)

-- the client's end after its calls, the newest first
abbrev pub client_after_calls : IndAddr → List ClientCall → ClientEnd
client_after_calls device [] = Asked device
client_after_calls device (call ∷ calls) = after_client_call (client_after_calls device calls) call

abbrev pub IsAskedAtMostFourTimes : ClientEnd → Type 0
IsAskedAtMostFourTimes (Asked device) = Unit {0}
IsAskedAtMostFourTimes (Up s) = Unit {0}
IsAskedAtMostFourTimes (Asking s q) = 1 + q.repeats ≤ 4
IsAskedAtMostFourTimes (Awaiting s) = Unit {0}
IsAskedAtMostFourTimes Ended = Unit {0}

-- ---- the numbers

-- both numbers are as they were
pub record HasSameNumbers (s t : Session) : Type 0 where
  pub expected : t.expected ≡ s.expected
  pub number : t.number ≡ s.number

-- how the number of the partner's next service goes on: each service that is delivered raises it, a T_Connect begins at 0
abbrev pub device_expected : DeviceTook → ℕ → ℕ
device_expected took.Connected expected = 0
device_expected (took.Apdu apdu ack) expected = next_number expected
device_expected _ expected = expected

-- how the own number goes on: each T_ACK of the outstanding answer raises it, a T_Connect begins at 0
abbrev pub device_number : DeviceTook → ℕ → ℕ
device_number took.Connected number = 0
device_number took.Acked number = next_number number
device_number _ number = number

pub record HasDeviceCounted (answer : DeviceTook) (s t : Session) : Type 0 where
  pub expected : t.expected ≡ device_expected answer s.expected
  pub number : t.number ≡ device_number answer s.number

abbrev pub client_expected : ClientTook → ℕ → ℕ
client_expected (heard.Answer apdu ack) expected = next_number expected
client_expected _ expected = expected

abbrev pub client_number : ClientTook → ℕ → ℕ
client_number heard.Acked number = next_number number
client_number _ number = number

pub record HasClientCounted (answer : ClientTook) (s t : Session) : Type 0 where
  pub expected : t.expected ≡ client_expected answer s.expected
  pub number : t.number ≡ client_number answer s.number

-- a frame is numbered data of this number
abbrev pub CarriesNumber : ℕ → List ℕ → Type 0
CarriesNumber number frame = (apdu : List ℕ) × (frame ≡ numbered_data number apdu)

-- what is outstanding, and so what is sent again, carries the own number
abbrev pub DeviceCarries : DeviceEnd → Type 0
DeviceCarries Closed = Unit {0}
DeviceCarries (Idle s) = Unit {0}
DeviceCarries (Answering s a) = CarriesNumber s.number a.frame

abbrev pub ClientCarries : ClientEnd → Type 0
ClientCarries (Asked device) = Unit {0}
ClientCarries (Up s) = Unit {0}
ClientCarries (Asking s q) = CarriesNumber s.number q.frame
ClientCarries (Awaiting s) = Unit {0}
ClientCarries Ended = Unit {0}
