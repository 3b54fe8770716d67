-- A numbered connection (ISO/IEC 14543-3-2, transport layer), as either end sees it: the frames, the numbers, the waits, and what an
-- end of an open connection knows. The two ends are `DeviceConnection` and `ClientConnection`.
--
--   client                                     device
--     |  T_Connect                               |     both numbers of either end are 0
--     | ---------------------------------------> |
--     |  numbered data 0, a service              |     the device expects 0
--     | ---------------------------------------> |
--     |  T_ACK 0                                 |     the device expects 1
--     | <--------------------------------------- |     the client's next number is 1
--     |  numbered data 0, its answer             |     the client expects 0
--     | <--------------------------------------- |
--     |  T_ACK 0                                 |     the client expects 1
--     | ---------------------------------------> |     the device's next number is 1
--     |  T_Disconnect                            |
--     | ---------------------------------------> |
use Rattle.std.specs.Prelude.{ℕ, ◌<◌, ◌≤◌, ◌+◌, ◌-◌, ◌*◌, ◌/◌, ◌%◌, Bool, ◌&&◌, ◌==◌, nat_lt, nat_le, List, [], ◌∷◌, length, Option, Some, None, min, if◌then◌else◌}
use Rattle.knx_model.specs.declared.address.IndAddr.{IndAddr}
use Rattle.knx_model.specs.declared.frames.tpdu.Tpdu.{Tpdu}
use Rattle.knx_model.specs.declared.frames.tpdu.Tpdu.TheVariants as tpdu
use Rattle.knx_model.specs.declared.connection.TransportFrame.{TransportFrame}
use Rattle.knx_model.specs.declared.connection.TransportFrame.TheVariants.{Connect, Disconnect, Ack, Nak, Numbered, Other}
use Rattle.knx_model.specs.Apdu.{Written, most_octets}
use Rattle.knx_model.specs.ApduReading.{control_in}

-- ---- frames

abbrev pub control_frame : Option Tpdu → TransportFrame
control_frame (Some tpdu.Connect) = Connect
control_frame (Some tpdu.Disconnect) = Disconnect
control_frame (Some (tpdu.Ack number)) = Ack number
control_frame (Some (tpdu.Nak number)) = Nak number
control_frame _ = Other

-- which frame octets are: one octet is T_Connect, T_Disconnect, T_ACK or T_NAK; 2 to 64 octets whose first is 01ssssaa are numbered
-- data, whatever their service; all else acts on nothing
unfoldable pub frame_in : List ℕ → TransportFrame
frame_in [] = Other
frame_in (first ∷ []) = control_frame (control_in first)
frame_in (first ∷ second ∷ rest) =
    if nat_le 0x40 first && nat_lt first 0x80 && nat_le (2 + length rest) most_octets
    then Numbered (first / 4 - 16) (first % 4 ∷ second ∷ rest)
    else Other

-- an APDU with transport bits 0 as numbered data
abbrev pub numbered_data : ℕ → List ℕ → List ℕ
numbered_data number [] = []
numbered_data number (first ∷ rest) = (0x40 + 4 * number + first) ∷ rest

abbrev pub disconnect : List ℕ
disconnect = Written tpdu.Disconnect

-- an APDU that can be sent: 2 to 64 octets, with transport bits 0
abbrev pub IsApdu : List ℕ → Type 0
IsApdu [] = ⊥
IsApdu (first ∷ rest) = (first < 4) × (1 ≤ length rest) × (1 + length rest ≤ most_octets)

-- ---- numbers

-- a sequence number has four bits
abbrev pub IsNumber : ℕ → Type 0
IsNumber number = number < 16

abbrev pub HasNumber : TransportFrame → Type 0
HasNumber Connect = Unit {0}
HasNumber Disconnect = Unit {0}
HasNumber (Ack number) = IsNumber number
HasNumber (Nak number) = IsNumber number
HasNumber (Numbered number apdu) = IsNumber number
HasNumber Other = Unit {0}

-- the number that follows
abbrev pub next_number : ℕ → ℕ
next_number number = (number + 1) % 16

-- one is the number before another
abbrev pub is_before : ℕ → ℕ → Bool
is_before one other = next_number one == other

-- ---- waits

-- how long a T_ACK is awaited, and how long a connection may be idle, in milliseconds
abbrev pub ack_wait : ℕ
ack_wait = 3000

abbrev pub idle_wait : ℕ
idle_wait = 6000

-- how often a frame is sent again
abbrev pub most_repeats : ℕ
most_repeats = 3

-- a wait has passed where the difference of the two times is at least the wait
abbrev pub has_passed : ℕ → ℕ → ℕ → Bool
has_passed wait since now = nat_le wait (now - since)

-- the last time that there is
abbrev pub last_time : ℕ
last_time = 0xFFFFFFFFFFFFFFFF

-- the time at which a wait has passed; a time stays at the last one
abbrev pub wait_end : ℕ → ℕ → ℕ
wait_end wait since = if nat_le (since + wait) last_time then since + wait else last_time

abbrev pub earlier_time : ℕ → ℕ → ℕ
earlier_time one other = if nat_le one other then one else other

-- the nearer of two times, where there are any
abbrev pub nearer : Option ℕ → Option ℕ → Option ℕ
nearer None other = other
nearer (Some one) None = Some one
nearer (Some one) (Some other) = Some (min one other)

-- ---- an open connection, at either end

pub record Session : Type 0 where
  pub partner : IndAddr  -- who is at the other end
  pub expected : ℕ  -- the number of the partner's next service
  pub number : ℕ  -- the number of the own service that is outstanding or, where none is, of the next one
  pub last : ℕ  -- when this end last sent or took a frame

-- both its numbers have four bits
pub record HasNumbers (s : Session) : Type 0 where
  pub expected : IsNumber s.expected
  pub number : IsNumber s.number

abbrev pub new_session : IndAddr → ℕ → Session
new_session from now = record { partner = from; expected = 0; number = 0; last = now }

-- after a frame was taken or sent
abbrev pub at_time : Session → ℕ → Session
at_time s now = record s { last = now }

-- after a service of the partner was delivered
abbrev pub advanced : Session → ℕ → Session
advanced s now = record s { expected = next_number s.expected; last = now }

-- after an own service was acknowledged
abbrev pub acknowledged : Session → ℕ → Session
acknowledged s now = record s { number = next_number s.number; last = now }

-- its partner is this sender
abbrev pub is_with : Session → IndAddr → Bool
is_with s from = s.partner.raw == from.raw

-- what the number of the partner's service means: it is the expected one, the one before, or another
abbrev pub by_number : {X : Type 0} → Session → ℕ → X → X → X → X
by_number s number expected before other = if number == s.expected then expected else (if is_before number s.expected then before else other)

-- what the number of the partner's T_ACK means where none is awaited: it is the one before, or another
abbrev pub by_ack : {X : Type 0} → Session → ℕ → X → X → X
by_ack s number before other = if is_before number s.number then before else other
