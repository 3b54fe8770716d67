-- What a device sends (ISO/IEC 14543-3-2, transport layer): a frame that waits, its outstanding answer again, or the T_Disconnect of its
-- closing; and what it is after each of these.
use Rattle.std.specs.Prelude.{ℕ, false, List, [], ◌∷◌, drop, Option, Some, None}
use Rattle.knx_model.specs.declared.address.IndAddr.{IndAddr}
use Rattle.knx_model.specs.declared.connection.DeviceExpired.{DeviceExpired}
use Rattle.knx_model.specs.declared.connection.DeviceExpired.TheVariants as expired
use Rattle.knx_model.specs.declared.device.Sending.{Sending}
use Rattle.knx_model.specs.declared.device.Sending.TheVariants.{Waiting, Repeat, Closing}
use Rattle.knx_model.specs.declared.frames.cemi.Ldata.{Ldata}
use Rattle.knx_model.specs.Connection.{disconnect}
use Rattle.knx_model.specs.DeviceConnection.{DeviceEnd, Closed, Idle, Answering, partner_of, device_expired, device_repeated}
use Rattle.knx_model.specs.DeviceState.{DeviceState}
use Rattle.knx_model.specs.DeviceFrames.{own_frame, queued_to}

abbrev pub first_frame : List Ldata → Option Ldata
first_frame [] = None
first_frame (frame ∷ frames) = Some frame

-- the frame that waits longest, and the device after it was sent
abbrev pub waiting_frame : DeviceState → Option Ldata
waiting_frame d = first_frame d.unsent

abbrev pub pops : DeviceState → DeviceState
pops d = record d { unsent = drop 1 d.unsent }

-- the answer that isn't acknowledged, and the device after it was sent again
abbrev pub outstanding_frame : IndAddr → DeviceEnd → Option Ldata
outstanding_frame address Closed = None
outstanding_frame address (Idle s) = None
outstanding_frame address (Answering s a) = Some (own_frame address false s.partner.raw a.frame)

abbrev pub repeat_frame : DeviceState → Option Ldata
repeat_frame d = outstanding_frame d.address d.connection

abbrev pub repeats : DeviceState → ℕ → DeviceState
repeats d now = record d { connection = device_repeated d.connection now }

-- it closes its connection, where one is open: the T_Disconnect to its partner joins the unsent frames
abbrev pub shut_from : DeviceState → Option IndAddr → DeviceState
shut_from d None = d
shut_from d (Some partner) = queued_to (record d { connection = Closed }) partner disconnect

abbrev pub shut : DeviceState → DeviceState
shut d = shut_from d (partner_of d.connection)

-- which it sends next: what waits goes first, and of a connection that was idle for too long, or whose answer is due again, the wait decides
abbrev pub due_sending : DeviceExpired → Option Sending
due_sending expired.Nothing = None
due_sending (expired.Repeat tpdu) = Some Repeat
due_sending (expired.Closed tpdu) = Some Closing

abbrev pub sending_of : List Ldata → DeviceExpired → Option Sending
sending_of [] due = due_sending due
sending_of (frame ∷ frames) due = Some Waiting

abbrev pub next_sending : DeviceState → ℕ → Option Sending
next_sending d now = sending_of d.unsent (device_expired d.connection now)

-- the frame of such a sending, and the device after it
abbrev pub sending_frame : DeviceState → Option Sending → Option Ldata
sending_frame d None = None
sending_frame d (Some Waiting) = waiting_frame d
sending_frame d (Some Repeat) = repeat_frame d
sending_frame d (Some Closing) = waiting_frame (shut d)

abbrev pub after_sending : DeviceState → ℕ → Option Sending → DeviceState
after_sending d now None = d
after_sending d now (Some Waiting) = pops d
after_sending d now (Some Repeat) = repeats d now
after_sending d now (Some Closing) = pops (shut d)
