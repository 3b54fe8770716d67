-- The client's end of a numbered connection (ISO/IEC 14543-3-2, transport layer): what it knows, what it answers to a confirmation, to a
-- service that is to be sent, to a frame and to the time, and what it knows then.
--
--               confirmed                 send
--  +-------+  without error  +----+ ---------------> +--------+ --+ again 3,000 ms after its
--  | Asked | --------------> | Up |                  | Asking |   | confirmation, three times
--  +-------+                 +----+ <--------------- +--------+ <-+
--      |                        ^    its T_ACK, where    ^  |
--      | confirmed              |    no answer is to     |  | its T_ACK, where
--      | with error             |    come                |  | its answer is to come
--      v                        |                  send  |  v
--  +-------+                    |     its answer     +----------+
--  | Ended |                    +------------------- | Awaiting |
--  +-------+                                         +----------+
--
-- This project's own is that a T_NAK is ignored; that the T_ACK of the number before is ignored; that unnumbered data of the
-- device is ignored; and that this end closes after 6,000 ms only while it awaits an answer.
use Rattle.std.specs.Prelude.{ℕ, ◌+◌, Bool, true, false, not, ◌==◌, nat_lt, List, Option, Some, None, if◌then◌else◌}
use Rattle.knx_model.specs.declared.address.IndAddr.{IndAddr}
use Rattle.knx_model.specs.declared.frames.tpdu.Tpdu.TheVariants as tpdu
use Rattle.knx_model.specs.declared.connection.TransportFrame.{TransportFrame}
use Rattle.knx_model.specs.declared.connection.TransportFrame.TheVariants.{Connect, Disconnect, Ack, Nak, Numbered, Other}
use Rattle.knx_model.specs.declared.connection.ClientConfirmed.{ClientConfirmed}
use Rattle.knx_model.specs.declared.connection.ClientConfirmed.TheVariants as told
use Rattle.knx_model.specs.declared.connection.ClientTook.{ClientTook}
use Rattle.knx_model.specs.declared.connection.ClientTook.TheVariants as heard
use Rattle.knx_model.specs.declared.connection.ClientExpired.{ClientExpired}
use Rattle.knx_model.specs.declared.connection.ClientExpired.TheVariants as over
use Rattle.knx_model.specs.declared.frames.tpdu.Apdu.{Apdu}
use Rattle.knx_model.specs.declared.frames.tpdu.Apdu.TheVariants as apdu
use Rattle.knx_model.specs.Apdu.{Written}
use Rattle.knx_model.specs.ApduReading.{service_in}
use Rattle.knx_model.specs.Connection.{Session, HasNumbers, new_session, at_time, advanced, acknowledged, by_number, by_ack, numbered_data, disconnect, ack_wait, idle_wait, most_repeats, has_passed, wait_end}

-- a service that isn't acknowledged
pub record Question : Type 0 where
  pub frame : List ℕ  -- its octets, as they are sent
  pub awaits : Bool  -- its answer is still to come
  pub repeats : ℕ  -- how often it was sent again
  pub confirmed : Option ℕ  -- when its last sending was confirmed, and None until then

pub data ClientEnd : Type 0 where
  Asked : IndAddr → ClientEnd  -- T_Connect isn't confirmed
  Up : Session → ClientEnd  -- no T_ACK and no answer is awaited
  Asking : Session → Question → ClientEnd
  Awaiting : Session → ClientEnd  -- the T_ACK of the last service came, and its answer is awaited
  Ended : ClientEnd

abbrev pub device_of : ClientEnd → Option IndAddr
device_of (Asked device) = Some device
device_of (Up s) = Some s.partner
device_of (Asking s q) = Some s.partner
device_of (Awaiting s) = Some s.partner
device_of Ended = None

-- the connection is up, and neither a T_ACK nor an answer is awaited
abbrev pub awaits_nothing : ClientEnd → Bool
awaits_nothing (Asked device) = false
awaits_nothing (Up s) = true
awaits_nothing (Asking s q) = false
awaits_nothing (Awaiting s) = false
awaits_nothing Ended = false

-- its numbers have four bits
abbrev pub IsClientEnd : ClientEnd → Type 0
IsClientEnd (Asked device) = Unit {0}
IsClientEnd (Up s) = HasNumbers s
IsClientEnd (Asking s q) = HasNumbers s
IsClientEnd (Awaiting s) = HasNumbers s
IsClientEnd Ended = Unit {0}

abbrev pub is_memory_write : Option Apdu → Bool
is_memory_write (Some (apdu.MemoryWrite address octets)) = true
is_memory_write _ = false

-- every service but a memory write has an answer
abbrev pub has_answer : List ℕ → Bool
has_answer octets = not (is_memory_write (service_in octets))

-- ---- confirmations: of the T_Connect, and of a frame that was sent later, with error or without

unfoldable pub client_confirmed : ClientEnd → Bool → ClientConfirmed
client_confirmed (Asked device) error = if error then told.NoCon else told.Up
client_confirmed _ error = told.Timed

-- the wait for a T_ACK begins at the first confirmation after the frame was sent; later ones change nothing
abbrev pub wait_begun : Option ℕ → ℕ → Option ℕ
wait_begun None now = Some now
wait_begun (Some since) now = Some since

abbrev pub question_confirmed : Question → ℕ → Question
question_confirmed q now = record q { confirmed = wait_begun q.confirmed now }

unfoldable pub after_confirmed : ClientEnd → Bool → ℕ → ClientEnd
after_confirmed (Asked device) error now = if error then Ended else Up (new_session device now)
after_confirmed (Up s) error now = Up s
after_confirmed (Asking s q) error now = Asking s (question_confirmed q now)
after_confirmed (Awaiting s) error now = Awaiting s
after_confirmed Ended error now = Ended

-- ---- a service that the client wants to send: its octets where the connection is up and none is outstanding

unfoldable pub client_sent : ClientEnd → List ℕ → Option (List ℕ)
client_sent (Asked device) apdu = None
client_sent (Up s) apdu = Some (numbered_data s.number apdu)
client_sent (Asking s q) apdu = None
client_sent (Awaiting s) apdu = Some (numbered_data s.number apdu)
client_sent Ended apdu = None

abbrev pub first_question : List ℕ → List ℕ → Question
first_question frame apdu = record { frame = frame; awaits = has_answer apdu; repeats = 0; confirmed = None }

abbrev pub client_asked : Session → List ℕ → ℕ → ClientEnd
client_asked s apdu now = Asking (at_time s now) (first_question (numbered_data s.number apdu) apdu)

unfoldable pub after_send : ClientEnd → List ℕ → ℕ → ClientEnd
after_send (Asked device) apdu now = Asked device
after_send (Up s) apdu now = client_asked s apdu now
after_send (Asking s q) apdu now = Asking s q
after_send (Awaiting s) apdu now = client_asked s apdu now
after_send Ended apdu now = Ended

-- ---- frames of the device

-- the expected number is told and acknowledged, the number before is acknowledged, another is answered by T_NAK
abbrev pub answer_heard : Session → ℕ → List ℕ → ClientTook
answer_heard s number apdu = by_number s number (heard.Answer apdu (Written (tpdu.Ack number))) (heard.Again (Written (tpdu.Ack number))) (heard.Nak (Written (tpdu.Nak number)))

-- the T_ACK of the number before is ignored, another closes
abbrev pub ack_heard : Session → ℕ → ClientTook
ack_heard s number = by_ack s number heard.Dropped (heard.Closed (Some disconnect))

-- while no service is outstanding
abbrev pub up_took : Session → TransportFrame → ClientTook
up_took s Connect = heard.Dropped
up_took s Disconnect = heard.Closed None
up_took s (Ack number) = ack_heard s number
up_took s (Nak number) = heard.Dropped
up_took s (Numbered number apdu) = answer_heard s number apdu
up_took s Other = heard.Dropped

-- while one is outstanding its T_ACK is taken, and all else is the same
abbrev pub asking_took : Session → TransportFrame → ClientTook
asking_took s Connect = up_took s Connect
asking_took s Disconnect = up_took s Disconnect
asking_took s (Ack number) = if number == s.number then heard.Acked else up_took s (Ack number)
asking_took s (Nak number) = up_took s (Nak number)
asking_took s (Numbered number apdu) = up_took s (Numbered number apdu)
asking_took s Other = up_took s Other

-- what the client's end answers to a frame of the device: until the connection is up all are discarded
unfoldable pub client_took : ClientEnd → TransportFrame → ClientTook
client_took (Asked device) frame = heard.Dropped
client_took (Up s) frame = up_took s frame
client_took (Asking s q) frame = asking_took s frame
client_took (Awaiting s) frame = up_took s frame
client_took Ended frame = heard.Dropped

-- a frame was taken that brings nothing new
abbrev pub client_stayed : ClientEnd → ℕ → ClientEnd
client_stayed (Asked device) now = Asked device
client_stayed (Up s) now = Up (at_time s now)
client_stayed (Asking s q) now = Asking (at_time s now) q
client_stayed (Awaiting s) now = Awaiting (at_time s now)
client_stayed Ended now = Ended

abbrev pub question_answered : Question → Question
question_answered q = record q { awaits = false }

-- the device's next service came; before the T_ACK of its question that it came is kept until that T_ACK
abbrev pub client_answered : ClientEnd → ℕ → ClientEnd
client_answered (Asked device) now = Asked device
client_answered (Up s) now = Up (advanced s now)
client_answered (Asking s q) now = Asking (advanced s now) (question_answered q)
client_answered (Awaiting s) now = Up (advanced s now)
client_answered Ended now = Ended

-- the outstanding service was acknowledged
abbrev pub client_acknowledged : ClientEnd → ℕ → ClientEnd
client_acknowledged (Asked device) now = Asked device
client_acknowledged (Up s) now = Up s
client_acknowledged (Asking s q) now = if q.awaits then Awaiting (acknowledged s now) else Up (acknowledged s now)
client_acknowledged (Awaiting s) now = Awaiting s
client_acknowledged Ended now = Ended

-- what the client's end knows after it answered a frame so
unfoldable pub client_after : ClientEnd → ℕ → ClientTook → ClientEnd
client_after e now heard.Dropped = e
client_after e now heard.Acked = client_acknowledged e now
client_after e now (heard.Answer apdu ack) = client_answered e now
client_after e now (heard.Again ack) = client_stayed e now
client_after e now (heard.Nak nak) = client_stayed e now
client_after e now (heard.Closed answer) = Ended

-- ---- the time

-- a service that was confirmed is sent again after each wait, at most three times, and then the connection has ended
abbrev pub question_overdue : Question → ClientExpired
question_overdue q = if nat_lt q.repeats most_repeats then over.Repeat q.frame else over.Silent ack_wait

abbrev pub question_expired : Question → Option ℕ → ℕ → ClientExpired
question_expired q None now = over.Nothing
question_expired q (Some since) now = if has_passed ack_wait since now then question_overdue q else over.Nothing

-- what has become due
unfoldable pub client_expired : ClientEnd → ℕ → ClientExpired
client_expired (Asked device) now = over.Nothing
client_expired (Up s) now = over.Nothing
client_expired (Asking s q) now = question_expired q q.confirmed now
client_expired (Awaiting s) now = if has_passed idle_wait s.last now then over.Silent idle_wait else over.Nothing
client_expired Ended now = over.Nothing

abbrev pub question_again : Question → Question
question_again q = record q { repeats = q.repeats + 1; confirmed = None }

abbrev pub client_repeated : ClientEnd → ℕ → ClientEnd
client_repeated (Asked device) now = Asked device
client_repeated (Up s) now = Up s
client_repeated (Asking s q) now = Asking (at_time s now) (question_again q)
client_repeated (Awaiting s) now = Awaiting s
client_repeated Ended now = Ended

-- what the client's end knows after that became due
unfoldable pub after_overdue : ClientEnd → ℕ → ClientExpired → ClientEnd
after_overdue e now over.Nothing = e
after_overdue e now (over.Repeat frame) = client_repeated e now
after_overdue e now (over.Silent ms) = Ended

abbrev pub wait_end_if : ℕ → Option ℕ → Option ℕ
wait_end_if wait None = None
wait_end_if wait (Some since) = Some (wait_end wait since)

-- the nearest time at which a wait has passed
unfoldable pub client_deadline : ClientEnd → Option ℕ
client_deadline (Asked device) = None
client_deadline (Up s) = None
client_deadline (Asking s q) = wait_end_if ack_wait q.confirmed
client_deadline (Awaiting s) = Some (wait_end idle_wait s.last)
client_deadline Ended = None
