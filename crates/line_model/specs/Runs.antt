-- Runs of the line that show what the definitions allow: a tunnel comes up, a connection to a device is opened and its descriptor is read,
-- through network, gateway, bus and device and back; a device that takes no T_Connect; a group telegram; a write in which power goes, and one
-- over worn memory; losses and repeats; a channel that closes, and the next one. Each list has its newest event first.
use Rattle.std.specs.Prelude.{ℕ, true, false, ◌==◌, List, [], ◌∷◌, Option, Some, None, if◌then◌else◌}
use Rattle.knx_model.specs.declared.address.IndAddr.{IndAddr}
use Rattle.knx_model.specs.declared.frames.cemi.Ldata.{Ldata}
use Rattle.knx_model.specs.declared.frames.cemi.LdataCode.TheVariants.{Ind, Req}
use Rattle.knx_model.specs.declared.frames.ip.IpFrame.TheVariants.{ConnectRequest, DisconnectResponse, StateRequest, ConnectResponse, TunnellingRequest, TunnellingAck}
use Rattle.knx_model.specs.declared.loading.LoadState.TheVariants.{Unloaded, Loading, Loaded}
use Rattle.knx_model.specs.declared.log.Sign.TheVariants.{NoCon}
use Rattle.knx_model.specs.declared.plan.Expect.TheVariants.{Is}
use Rattle.knx_model.specs.declared.script.GroupService.TheVariants.{Read}
use Rattle.knx_model.specs.Cemi.{Written as cemi_octets}
use Rattle.knx_model.specs.Device.{NonVolatile}
use Rattle.knx_model.specs.DeviceState.{DeviceState, device_with}
use Rattle.knx_model.specs.KnxNetIp.{Written}
use Rattle.knx_model.specs.Loading.{Loadable}
use Rattle.knx_model.specs.Plans.{Plan, Over, Asks}
use Rattle.line_model.specs.declared.group.GroupTurn.{GroupTurn}
use Rattle.line_model.specs.declared.log.LogEntry.{LogEntry}
use Rattle.line_model.specs.declared.log.LogWhat.TheVariants.{Took, Done, Failed, Refused, Sent}
use Rattle.line_model.specs.Log.{Job}
use Rattle.line_model.specs.Record.{Entry, entry, Put, Renewed, Got, Quiet}
use Rattle.line_model.specs.Tunnel.{fresh}
use Rattle.line_model.specs.World.{World, Event, Comes, IsLost, Send, Renew, Up, UpRefused, Down, LoseUp, LoseDown, Bus, BusTorn, BusWorn, BusAgain, DevSend, DevClose, GwAgain, GwClose, On, Pass}

-- ---- the line 1.1 with one device, 1.1.5, whatever it keeps

abbrev pub tunnel : IndAddr
tunnel = record { raw = 0x11FF }

abbrev pub device : IndAddr
device = record { raw = 0x1105 }

abbrev pub one_device : NonVolatile → ℕ → Option DeviceState
one_device kept a = if a == 0x1105 then Some (device_with device kept) else None

abbrev pub begin : NonVolatile → World
begin kept = record { tunnel = fresh tunnel; devices = one_device kept; echo = None }

-- ---- what the client sends

abbrev pub to_device : List ℕ → Ldata
to_device tpdu = record { code = Req; error = false; group = false; priority = 3; hops = 6; source = 0; destination = 0x1105; tpdu = tpdu }

abbrev pub tunnelled : ℕ → ℕ → List ℕ → Event
tunnelled channel number tpdu = Send (Written (TunnellingRequest channel number (cemi_octets (to_device tpdu))))

abbrev pub ack : ℕ → Event
ack number = Send (Written (TunnellingAck 1 number 0))

-- ---- a session

-- the tunnel comes up
abbrev pub up : List Event
up = Down 0 ∷ Up 0 ∷ Send (Written ConnectRequest) ∷ Renew ∷ []

-- the T_Connect is sent
abbrev pub connecting : List Event
connecting = tunnelled 1 0 (0x80 ∷ []) ∷ up

-- and confirmed
abbrev pub connected : List Event
connected = Up 0 ∷ ack 0 ∷ Down 0 ∷ Down 1 ∷ Bus [] ∷ Up 0 ∷ connecting

-- the descriptor is asked for; the T_ACK and the answer are on their way
abbrev pub asked : List Event
asked = Up 0 ∷ ack 1 ∷ Down 0 ∷ Down 1 ∷ Bus [] ∷ Up 0 ∷ tunnelled 1 1 (0x43 ∷ 0x00 ∷ []) ∷ connected

-- the client has taken both
abbrev pub answered : List Event
answered = Up 0 ∷ ack 3 ∷ Down 0 ∷ DevSend 0x1105 Comes [] ∷ Up 0 ∷ ack 2 ∷ Down 0 ∷ DevSend 0x1105 Comes [] ∷ asked

-- and acknowledged the answer
abbrev pub whole : List Event
whole = Up 0 ∷ ack 4 ∷ Down 0 ∷ Down 1 ∷ Bus [] ∷ Up 0 ∷ tunnelled 1 2 (0xC2 ∷ []) ∷ answered

-- the plan that reads the descriptor, a job of it, and what is told
abbrev pub reading : Plan
reading = Asks 0 (3 ∷ 0 ∷ []) (Is (0x03 ∷ 0x40 ∷ 0x07 ∷ 0xB0 ∷ [])) (λ answer. Over)

abbrev pub job : Job
job = record { device = device; image = record { addr = []; assoc = []; objs = []; params = [] }; plan = reading; loads = false }

abbrev pub told_taken : List LogEntry
told_taken = record { at = 4; worker = 1; what = Took 1 } ∷ []

abbrev pub told_done : List LogEntry
told_done = record { at = 33; worker = 1; what = Done 1 } ∷ told_taken

-- a job that wants the descriptor of another mask, and what is told then
abbrev pub other_mask : List ℕ
other_mask = 0x03 ∷ 0x40 ∷ 0x07 ∷ 0x05 ∷ []

abbrev pub other_job : Job
other_job = record job { plan = Asks 0 (3 ∷ 0 ∷ []) (Is other_mask) (λ answer. Over) }

abbrev pub told_refused : List LogEntry
told_refused = record { at = 33; worker = 1; what = Refused 1 0 (0x03 ∷ 0x40 ∷ 0x07 ∷ 0xB0 ∷ []) other_mask } ∷ told_taken

-- ---- a load: the last operation of one, for a device to which all else is loaded

abbrev pub loaded : Loadable
loaded = record { state = Loaded; len = 0; memory = [] }

abbrev pub nearly : NonVolatile
nearly = record {
  address_table = loaded;
  association_table = loaded;
  group_objects = loaded;
  application = record { state = Loading; len = 0; memory = [] };
}

abbrev pub completion : List ℕ
completion = 0xD7 ∷ 4 ∷ 5 ∷ 0x10 ∷ 1 ∷ 2 ∷ 0 ∷ 0 ∷ 0 ∷ 0 ∷ 0 ∷ 0 ∷ 0 ∷ 0 ∷ 0 ∷ []

abbrev pub completing : Plan
completing = Asks 0 (3 ∷ completion) (Is (0x03 ∷ 0xD6 ∷ 4 ∷ 5 ∷ 0x10 ∷ 1 ∷ 1 ∷ [])) (λ answer. Over)

abbrev pub load : Job
load = record job { plan = completing; loads = true }

abbrev pub completed : List Event
completed = Up 0 ∷ ack 1 ∷ Down 0 ∷ Down 1 ∷ Bus [] ∷ Up 0 ∷ tunnelled 1 1 (0x43 ∷ completion) ∷ connected

abbrev pub loads : List Event
loads =
    Up 0 ∷ ack 4 ∷ Down 0 ∷ Down 1 ∷ Bus [] ∷ Up 0 ∷ tunnelled 1 2 (0xC2 ∷ []) ∷ Up 0 ∷ ack 3 ∷ Down 0 ∷ DevSend 0x1105 Comes [] ∷ Up 0 ∷ ack 2 ∷ Down 0
    ∷ DevSend 0x1105 Comes [] ∷ completed

-- ---- a device that gets no T_Connect: three attempts, each confirmed with error

abbrev pub missed : ℕ → List Event → List Event
missed number past = Up 0 ∷ ack number ∷ Down 0 ∷ Down 1 ∷ Bus (0x1105 ∷ []) ∷ Up 0 ∷ tunnelled 1 number (0x80 ∷ []) ∷ past

abbrev pub unheard : List Event
unheard = missed 2 (missed 1 (missed 0 up))

abbrev pub told_failed : List LogEntry
told_failed = record { at = 25; worker = 1; what = Failed 1 (NoCon ∷ NoCon ∷ NoCon ∷ []) } ∷ told_taken

-- ---- a group telegram, put once and confirmed, where there is no device

abbrev pub turn : GroupTurn
turn = record { after = false; group = record { raw = 0x0A03 }; service = Read }

abbrev pub telegram : Ldata
telegram = record { code = Req; error = false; group = true; priority = 3; hops = 6; source = 0; destination = 0x0A03; tpdu = 0 ∷ 0 ∷ [] }

abbrev pub nobody : World
nobody = record { tunnel = fresh tunnel; devices = λ a. None; echo = None }

abbrev pub telegram_sent : List Event
telegram_sent = Up 0 ∷ ack 0 ∷ Down 0 ∷ Down 1 ∷ Bus [] ∷ Up 0 ∷ Send (Written (TunnellingRequest 1 0 (cemi_octets telegram))) ∷ up

abbrev pub told_sent : List LogEntry
told_sent = record { at = 11; worker = 0; what = Sent 1 } ∷ []

-- ---- writes: the application is unloaded, and power goes in that

abbrev pub unloads : List Event
unloads = Up 0 ∷ tunnelled 1 1 (0x43 ∷ 0xD7 ∷ 4 ∷ 5 ∷ 0x10 ∷ 1 ∷ 4 ∷ 0 ∷ 0 ∷ 0 ∷ 0 ∷ 0 ∷ 0 ∷ 0 ∷ 0 ∷ 0 ∷ []) ∷ connected

abbrev pub cut_off : List Event
cut_off = BusTorn true [] ∷ unloads

abbrev pub torn : List Event
torn = On 0x1105 ∷ cut_off

-- a device whose application is being loaded, with two octets
abbrev pub unloaded : Loadable
unloaded = record { state = Unloaded; len = 0; memory = [] }

abbrev pub filling : NonVolatile
filling = record {
  address_table = unloaded;
  association_table = unloaded;
  group_objects = unloaded;
  application = record { state = Loading; len = 2; memory = 0 ∷ 0 ∷ [] };
}

-- two octets are written to its memory, which is worn
abbrev pub writes : List Event
writes = Up 0 ∷ tunnelled 1 1 (0x42 ∷ 0x82 ∷ 0x80 ∷ 0x00 ∷ 1 ∷ 2 ∷ []) ∷ connected

abbrev pub worn : List Event
worn = BusWorn (254 ∷ 253 ∷ []) ∷ writes

-- ---- a loss, and repeats: the connect response never comes; a datagram, and a frame, come twice

abbrev pub response_lost : List Event
response_lost = LoseDown 0 ∷ Up 0 ∷ Send (Written ConnectRequest) ∷ Renew ∷ []

abbrev pub comes_twice : List Event
comes_twice = BusAgain 0x1105 ∷ Bus [] ∷ Up 0 ∷ Up 0 ∷ tunnelled 1 0 (0x80 ∷ []) ∷ up

-- ---- the other lines of a script: a request lost, a try refused, a response that comes twice, a channel and a connection that close, and a
-- device's frame that is lost for the gateway

abbrev pub request_lost : List Event
request_lost = LoseUp 0 ∷ Send (Written ConnectRequest) ∷ Renew ∷ []

abbrev pub try_refused : List Event
try_refused = UpRefused 0 0x24 ∷ Send (Written ConnectRequest) ∷ Renew ∷ []

abbrev pub response_twice : List Event
response_twice = Down 0 ∷ up

-- it is acknowledged between
abbrev pub confirmation_twice : List Event
confirmation_twice = ack 0 ∷ Down 0 ∷ ack 0 ∷ Down 0 ∷ Down 1 ∷ Bus [] ∷ Up 0 ∷ tunnelled 1 0 (0x80 ∷ []) ∷ up

abbrev pub channel_dropped : List Event
channel_dropped = GwClose ∷ Up 0 ∷ tunnelled 1 0 (0x80 ∷ []) ∷ up

abbrev pub connection_closed : List Event
connection_closed = DevClose 0x1105 ∷ Bus [] ∷ Up 0 ∷ tunnelled 1 0 (0x80 ∷ []) ∷ up

abbrev pub answer_lost : List Event
answer_lost = DevSend 0x1105 IsLost [] ∷ asked

-- ---- the gateway gets the device's T_ACK, and then gets it again

abbrev pub acknowledged : List Event
acknowledged = DevSend 0x1105 Comes [] ∷ asked

abbrev pub heard_again : List Event
heard_again = GwAgain ∷ acknowledged

-- the T_ACK as the bus carries it
abbrev pub t_ack_heard : Ldata
t_ack_heard = record { code = Ind; error = false; group = false; priority = 3; hops = 6; source = 0x1105; destination = 0x11FF; tpdu = 0xC2 ∷ [] }

-- ---- the gateway closes the channel, and the client takes another

abbrev pub again : List Event
again = Down 0 ∷ Up 0 ∷ Send (Written ConnectRequest) ∷ Renew ∷ Send (Written (DisconnectResponse 1 0)) ∷ Down 0 ∷ GwClose ∷ connected

abbrev pub second : List Event
second = Up 0 ∷ tunnelled 2 0 (0x80 ∷ []) ∷ again

-- ---- a minute passes in which nothing is under way, and a heartbeat is answered

abbrev pub quiet_minute : List Event
quiet_minute = Pass 60000 ∷ up

abbrev pub beat_answered : List Event
beat_answered = Down 0 ∷ Up 0 ∷ Send (Written (StateRequest 1)) ∷ quiet_minute

-- ---- three heartbeats without answer, each after 60,000 ms

abbrev pub came_up : List Entry
came_up = entry (Got (Written (ConnectResponse 1 0 (Some tunnel)))) 5 ∷ entry (Put (Written ConnectRequest)) 0 ∷ entry Renewed 0 ∷ []

abbrev pub beat : ℕ → Entry
beat now = entry (Put (Written (StateRequest 1))) now

abbrev pub three_beats : List Entry
three_beats = beat 180005 ∷ entry Quiet 180005 ∷ beat 120005 ∷ entry Quiet 120005 ∷ beat 60005 ∷ entry Quiet 60005 ∷ came_up

abbrev pub quiet_until : ℕ → List Entry
quiet_until now = entry Quiet now ∷ three_beats
