-- The states of this crate's code are those of the definitions.
use Rattle.transport_conn.specs.declared.device.State.{State as DeviceState}
use Rattle.transport_conn.specs.declared.device.State.TheVariants as device
use Rattle.transport_conn.specs.declared.client.State.{State as ClientState}
use Rattle.transport_conn.specs.declared.client.State.TheVariants as client
use Rattle.std.specs.Prelude.{◌<◌}
use Rattle.knx_model.specs.Connection.{most_repeats}
use Rattle.knx_model.specs.DeviceConnection.{DeviceEnd, IsDeviceEnd, Closed, Idle, Answering}
use Rattle.knx_model.specs.ClientConnection.{ClientEnd, IsClientEnd, Asked, Up, Asking, Awaiting, Ended}

abbrev pub device_end : DeviceState → DeviceEnd
device_end device.Closed = Closed
device_end (device.Idle s) = Idle s
device_end (device.Answering s a) = Answering s a

abbrev pub client_end : ClientState → ClientEnd
client_end (client.Asked d) = Asked d
client_end (client.Up s) = Up s
client_end (client.Asking s q) = Asking s q
client_end (client.Awaiting s) = Awaiting s
client_end client.Ended = Ended

-- where an answer is outstanding it may be sent again
abbrev pub MayRepeat : DeviceEnd → Type 0
MayRepeat Closed = Unit {0}
MayRepeat (Idle s) = Unit {0}
MayRepeat (Answering s a) = a.repeats < most_repeats

abbrev pub IsntAsked : ClientEnd → Type 0
IsntAsked (Asked device) = ⊥
IsntAsked (Up s) = Unit {0}
IsntAsked (Asking s q) = Unit {0}
IsntAsked (Awaiting s) = Unit {0}
IsntAsked Ended = Unit {0}

-- where a service is outstanding it may be sent again
abbrev pub MayAskAgain : ClientEnd → Type 0
MayAskAgain (Asked device) = Unit {0}
MayAskAgain (Up s) = Unit {0}
MayAskAgain (Asking s q) = q.repeats < most_repeats
MayAskAgain (Awaiting s) = Unit {0}
MayAskAgain Ended = Unit {0}

-- the numbers of an end have four bits
abbrev pub HasDeviceNumbers : DeviceState → Type 0
HasDeviceNumbers s = IsDeviceEnd (device_end s)

abbrev pub HasClientNumbers : ClientState → Type 0
HasClientNumbers s = IsClientEnd (client_end s)
