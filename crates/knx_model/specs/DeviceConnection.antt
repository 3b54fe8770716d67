-- The device's end of a numbered connection (ISO/IEC 14543-3-2, transport layer): what it knows, what it answers to a frame, to an answer
-- that is to be sent and to the time, and what it knows then.
--
--             T_Connect                 answer
--  +--------+ --------> +------+ --------------------> +-----------+
--  | Closed |           | Idle |                       | Answering | --+ again after 3,000 ms,
--  +--------+ <-------- +------+ <-------------------- +-----------+ <-+ three times
--      ^   T_Disconnect,       its T_ACK, T_Connect          |
--      |   another T_ACK,                                    |
--      |   6,000 ms idle                                     |
--      +-----------------------------------------------------+
--
-- This project's own is that a T_NAK is ignored; how an unacknowledged answer and a T_Connect of another sender are treated; that the T_ACK of
-- the number before is ignored; that unnumbered data to one device is ignored; that a T_Connect of the present partner begins the
-- connection anew and drops the device's unsent frames; and that a closed device answers numbered data by T_Disconnect.
use Rattle.std.specs.Prelude.{ℕ, ◌+◌, Bool, ◌&&◌, ◌==◌, nat_lt, List, Option, Some, None, if◌then◌else◌}
use Rattle.knx_model.specs.declared.address.IndAddr.{IndAddr}
use Rattle.knx_model.specs.declared.frames.tpdu.Tpdu.TheVariants as tpdu
use Rattle.knx_model.specs.declared.connection.TransportFrame.{TransportFrame}
use Rattle.knx_model.specs.declared.connection.TransportFrame.TheVariants.{Connect, Disconnect, Ack, Nak, Numbered, Other}
use Rattle.knx_model.specs.declared.connection.DeviceTook.{DeviceTook}
use Rattle.knx_model.specs.declared.connection.DeviceTook.TheVariants as took
use Rattle.knx_model.specs.declared.connection.DeviceExpired.{DeviceExpired}
use Rattle.knx_model.specs.declared.connection.DeviceExpired.TheVariants as expired
use Rattle.knx_model.specs.Apdu.{Written}
use Rattle.knx_model.specs.Connection.{Session, HasNumbers, new_session, at_time, advanced, acknowledged, is_with, by_number, by_ack, numbered_data, disconnect, ack_wait, idle_wait, most_repeats, has_passed, wait_end, earlier_time}

-- an answer that isn't acknowledged
pub record Outstanding : Type 0 where
  pub frame : List ℕ  -- its octets, as they are sent
  pub repeats : ℕ  -- how often it was sent again
  pub sent : ℕ  -- when it was sent last

pub data DeviceEnd : Type 0 where
  Closed : DeviceEnd
  Idle : Session → DeviceEnd  -- no answer is outstanding
  Answering : Session → Outstanding → DeviceEnd

abbrev pub partner_of : DeviceEnd → Option IndAddr
partner_of Closed = None
partner_of (Idle s) = Some s.partner
partner_of (Answering s a) = Some s.partner

-- its numbers have four bits
abbrev pub IsDeviceEnd : DeviceEnd → Type 0
IsDeviceEnd Closed = Unit {0}
IsDeviceEnd (Idle s) = HasNumbers s
IsDeviceEnd (Answering s a) = HasNumbers s

-- ---- frames

-- what an open end answers to its partner's service while no answer is outstanding: the expected number is delivered and acknowledged,
-- the number before is acknowledged, another is answered by T_NAK
abbrev pub service_took : Session → ℕ → List ℕ → DeviceTook
service_took s number apdu = by_number s number (took.Apdu apdu (Written (tpdu.Ack number))) (took.Again (Written (tpdu.Ack number))) (took.Nak (Written (tpdu.Nak number)))

-- the T_ACK of the number before is ignored, another closes
abbrev pub ack_took : Session → ℕ → DeviceTook
ack_took s number = by_ack s number took.Dropped (took.Closed (Some disconnect))

abbrev pub idle_took : Session → TransportFrame → DeviceTook
idle_took s Connect = took.Connected
idle_took s Disconnect = took.Closed None
idle_took s (Ack number) = ack_took s number
idle_took s (Nak number) = took.Dropped
idle_took s (Numbered number apdu) = service_took s number apdu
idle_took s Other = took.Dropped

-- while an answer is outstanding its T_ACK is taken, the expected number is neither taken nor acknowledged, and all else is the same
abbrev pub answering_took : Session → TransportFrame → DeviceTook
answering_took s Connect = idle_took s Connect
answering_took s Disconnect = idle_took s Disconnect
answering_took s (Ack number) = if number == s.number then took.Acked else idle_took s (Ack number)
answering_took s (Nak number) = idle_took s (Nak number)
answering_took s (Numbered number apdu) = if number == s.expected then took.Dropped else idle_took s (Numbered number apdu)
answering_took s Other = idle_took s Other

-- what it answers another sender
abbrev pub other_sender_took : TransportFrame → DeviceTook
other_sender_took Connect = took.Closed (Some disconnect)
other_sender_took Disconnect = took.Dropped
other_sender_took (Ack number) = took.Dropped
other_sender_took (Nak number) = took.Dropped
other_sender_took (Numbered number apdu) = took.Dropped
other_sender_took Other = took.Dropped

-- what a closed end answers
abbrev pub closed_took : TransportFrame → DeviceTook
closed_took Connect = took.Connected
closed_took Disconnect = took.Dropped
closed_took (Ack number) = took.Dropped
closed_took (Nak number) = took.Dropped
closed_took (Numbered number apdu) = took.Closed (Some disconnect)
closed_took Other = took.Dropped

-- what the device's end answers to a frame of a sender
unfoldable pub device_took : DeviceEnd → IndAddr → TransportFrame → DeviceTook
device_took Closed from frame = closed_took frame
device_took (Idle s) from frame = if is_with s from then idle_took s frame else other_sender_took frame
device_took (Answering s a) from frame = if is_with s from then answering_took s frame else other_sender_took frame

-- an end whose session went on
abbrev pub device_went_on : (Session → Session) → DeviceEnd → DeviceEnd
device_went_on onward Closed = Closed
device_went_on onward (Idle s) = Idle (onward s)
device_went_on onward (Answering s a) = Answering (onward s) a

-- its answer was acknowledged
abbrev pub device_acknowledged : DeviceEnd → ℕ → DeviceEnd
device_acknowledged Closed now = Closed
device_acknowledged (Idle s) now = Idle s
device_acknowledged (Answering s a) now = Idle (acknowledged s now)

-- a connection with this sender is closed, and one with another stays
abbrev pub device_left : DeviceEnd → IndAddr → DeviceEnd
device_left Closed from = Closed
device_left (Idle s) from = if is_with s from then Closed else Idle s
device_left (Answering s a) from = if is_with s from then Closed else Answering s a

-- what the device's end knows after it answered a frame of a sender so
unfoldable pub device_after : DeviceEnd → IndAddr → ℕ → DeviceTook → DeviceEnd
device_after e from now took.Dropped = e
device_after e from now took.Connected = Idle (new_session from now)
device_after e from now (took.Apdu apdu ack) = device_went_on (λ s. advanced s now) e
device_after e from now (took.Again ack) = device_went_on (λ s. at_time s now) e
device_after e from now (took.Nak nak) = device_went_on (λ s. at_time s now) e
device_after e from now took.Acked = device_acknowledged e now
device_after e from now (took.Closed answer) = device_left e from

-- ---- answers

-- an answer that the device wants to send: its octets where the connection is open and none is outstanding
unfoldable pub device_answered : DeviceEnd → List ℕ → Option (List ℕ)
device_answered Closed apdu = None
device_answered (Idle s) apdu = Some (numbered_data s.number apdu)
device_answered (Answering s a) apdu = None

abbrev pub first_answer : List ℕ → ℕ → Outstanding
first_answer frame now = record { frame = frame; repeats = 0; sent = now }

unfoldable pub after_answer : DeviceEnd → List ℕ → ℕ → DeviceEnd
after_answer Closed apdu now = Closed
after_answer (Idle s) apdu now = Answering (at_time s now) (first_answer (numbered_data s.number apdu) now)
after_answer (Answering s a) apdu now = Answering s a

-- ---- the time

-- an outstanding answer that may be sent again waits for its T_ACK
abbrev pub is_due : Outstanding → ℕ → Bool
is_due a now = nat_lt a.repeats most_repeats && has_passed ack_wait a.sent now

-- what has become due: an idle connection closes, else an answer is sent again
unfoldable pub device_expired : DeviceEnd → ℕ → DeviceExpired
device_expired Closed now = expired.Nothing
device_expired (Idle s) now = if has_passed idle_wait s.last now then expired.Closed disconnect else expired.Nothing
device_expired (Answering s a) now =
    if has_passed idle_wait s.last now then expired.Closed disconnect
    else (if is_due a now then expired.Repeat a.frame else expired.Nothing)

abbrev pub answer_again : Outstanding → ℕ → Outstanding
answer_again a now = record a { repeats = a.repeats + 1; sent = now }

abbrev pub device_repeated : DeviceEnd → ℕ → DeviceEnd
device_repeated Closed now = Closed
device_repeated (Idle s) now = Idle s
device_repeated (Answering s a) now = Answering (at_time s now) (answer_again a now)

-- what the device's end knows after that became due
unfoldable pub after_expiry : DeviceEnd → ℕ → DeviceExpired → DeviceEnd
after_expiry e now expired.Nothing = e
after_expiry e now (expired.Repeat frame) = device_repeated e now
after_expiry e now (expired.Closed frame) = Closed

-- the nearest time at which a wait has passed: an answer that may be sent again waits, and the connection must not be idle
abbrev pub outstanding_deadline : Outstanding → ℕ → ℕ
outstanding_deadline a end = if nat_lt a.repeats most_repeats then earlier_time (wait_end ack_wait a.sent) end else end

unfoldable pub device_deadline : DeviceEnd → Option ℕ
device_deadline Closed = None
device_deadline (Idle s) = Some (wait_end idle_wait s.last)
device_deadline (Answering s a) = Some (outstanding_deadline a (wait_end idle_wait s.last))
