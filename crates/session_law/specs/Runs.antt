-- Two runs, which show that legal events lead somewhere, and that a client must put one frame at a time. The newest event first.
use Rattle.std.specs.Prelude.{ℕ, List, [], ◌∷◌}
use Rattle.knx_model.specs.Device.{NonVolatile}
use Rattle.knx_model.specs.DeviceState.{device_with}
use Rattle.knx_model.specs.DeviceFrames.{Whole}
use Rattle.session_law.specs.World.{World, fresh}
use Rattle.session_law.specs.Device.{Comes, IsLost}
use Rattle.session_law.specs.Events.{Event, Connects, Asks, Waits, Replies, Takes, Joins, Bus, BusLost, BusAgain, DevSend, DevRepeat, GwAgain, Cut, Pass}

-- the client is 1.1.0, and the device is 1.1.5
abbrev pub start : NonVolatile → World
start kept = fresh (record { raw = 0x1100 }) (device_with (record { raw = 0x1105 }) kept)

abbrev pub descriptor_read : List ℕ
descriptor_read = 0x03 ∷ 0x00 ∷ []

abbrev pub descriptor_response : List ℕ
descriptor_response = 0x03 ∷ 0x40 ∷ 0x07 ∷ 0xB0 ∷ []

-- ---- a descriptor is read through losses

-- the first T_Connect is lost, and the second is confirmed
abbrev pub connected : List Event
connected = Takes ∷ Bus Whole ∷ Connects ∷ Takes ∷ BusLost ∷ Connects ∷ Joins 0 ∷ []

-- the device gets the service twice; its first T_ACK is lost, and so are its answer and its second T_ACK
abbrev pub asked : List Event
asked = DevSend IsLost ∷ DevSend IsLost ∷ DevSend IsLost ∷ Takes ∷ BusAgain ∷ Bus Whole ∷ Asks descriptor_read ∷ connected

-- the device repeats its answer, which comes twice, and each time the client acknowledges it
abbrev pub answered : List Event
answered = Takes ∷ Bus Whole ∷ Replies ∷ Takes ∷ Bus Whole ∷ Replies ∷ Takes ∷ Takes ∷ GwAgain ∷ DevRepeat Comes ∷ Pass 3000 ∷ asked

-- the client repeats the service, and then its T_ACK comes; then the device loses its power
abbrev pub lossy : List Event
lossy = Cut ∷ Takes ∷ DevSend Comes ∷ Takes ∷ Bus Whole ∷ Waits ∷ answered

-- ---- a client that doesn't wait for a confirmation

-- a write of one octet to the memory
abbrev pub writes : ℕ → List ℕ
writes octet = 0x02 ∷ 0x81 ∷ 0x40 ∷ 0x00 ∷ octet ∷ []

-- a service is delivered, and its confirmation is still to come
abbrev pub unconfirmed : List Event
unconfirmed = Bus Whole ∷ Asks (writes 1) ∷ Takes ∷ Bus Whole ∷ Connects ∷ Joins 0 ∷ []

-- a T_Connect is put and lost, and the confirmation of the service is taken for its own
abbrev pub mistaken : List Event
mistaken = Takes ∷ BusLost ∷ Connects ∷ unconfirmed

-- the next service has the number of the one before, so the device acknowledges it and delivers the second one alone
abbrev pub hasty : List Event
hasty = Bus Whole ∷ Asks (writes 3) ∷ Takes ∷ Takes ∷ Takes ∷ DevSend Comes ∷ Bus Whole ∷ Asks (writes 2) ∷ mistaken
