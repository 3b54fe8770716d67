-- What may happen to one numbered connection over the line. An event carries its outcome, so a start and a list of events give one world at each
-- moment. The events of bus and device are those of the whole line, as this device sees them. Which frames may be torn or worn, and which events
-- have nothing to do, makes no difference here, so the premises are fewer than the line's.
use Rattle.std.specs.Prelude.{◌≡◌, ℕ, ◌+◌, true, false, List, [], ◌∷◌, drop}
use Rattle.std.specs.List.{AllByRecursion}
use Rattle.knx_model.specs.declared.frames.cemi.Ldata.{Ldata}
use Rattle.knx_model.specs.Connection.{IsApdu}
use Rattle.knx_model.specs.DeviceState.{cut, switched_on}
use Rattle.knx_model.specs.DeviceFrames.{Outcome, Whole}
use Rattle.knx_model.specs.DeviceSending.{waiting_frame, pops, repeat_frame, repeats, shut}
use Rattle.session_law.specs.World.{Message, Con, Ind, World}
use Rattle.session_law.specs.Client.{connects, asks, waits, replies, leaves, loses, joins, takes_oldest}
use Rattle.session_law.specs.Device.{AtGateway, gets, carries, carries_lost, gets_again, elsewhere, speaks, with_device, echoes, drops}

pub data Event : Type 0 where
  Connects : Event  -- the client puts a T_Connect
  Asks : List ℕ → Event  -- a service
  Waits : Event  -- what has become due
  Replies : Event  -- what it owes
  Leaves : Event  -- a T_Disconnect
  Takes : Event  -- it takes the oldest message
  Loses : Event  -- its channel is lost
  Joins : ℕ → Event  -- it has another channel; so many messages were of the one before
  Drops : ℕ → Event  -- the gateway closes the channel; the client gets so many messages at most
  Bus : Outcome → Event  -- the client's frame goes over the bus, and the device takes it so
  BusLost : Event  -- or the device doesn't get it
  BusAgain : Event  -- the device gets again the frame that it got last
  Group : Ldata → Event  -- a group telegram of others goes over the bus
  Elsewhere : Event  -- another frame goes over the bus
  DevSend : AtGateway → Event  -- the device's oldest unsent frame goes over the bus
  DevRepeat : AtGateway → Event  -- its outstanding answer goes over the bus once more
  DevClose : Event  -- it closes its connection
  GwAgain : Event  -- the gateway gets the bus's last frame again, where the device sent it
  Cut : Event  -- the device loses its power
  On : Event  -- it has power
  Pass : ℕ → Event  -- so many milliseconds pass

abbrev pub step : World → Event → World
step w Connects = connects w
step w (Asks apdu) = asks w apdu
step w Waits = waits w
step w Replies = replies w
step w Leaves = leaves w
step w Takes = takes_oldest w w.coming
step w Loses = loses w
step w (Joins n) = joins w n
step w (Drops n) = drops w n
step w (Bus outcome) = carries w w.flying outcome
step w BusLost = carries_lost w w.flying
step w BusAgain = gets_again w w.device.last
step w (Group frame) = elsewhere (gets w frame Whole)
step w Elsewhere = elsewhere w
step w (DevSend gateway) = speaks w (pops w.device) gateway (waiting_frame w.device)
step w (DevRepeat gateway) = speaks w (repeats w.device w.now) gateway (repeat_frame w.device)
step w DevClose = with_device w (shut w.device)
step w GwAgain = echoes w
step w Cut = with_device w (cut w.device)
step w On = with_device w (switched_on w.device)
step w (Pass ms) = record w { now = w.now + ms }

-- ---- which events may happen

abbrev pub IsInd : Message → Type 0
IsInd (Con error) = ⊥
IsInd (Ind frame) = Unit {0}

-- A client puts one frame at a time, each into a channel. In another channel nothing comes of the one before but what the device has sent since
-- that was closed. The device repeats an answer only where it has nothing older to send.
abbrev pub MayHappen : World → Event → Type 0
MayHappen w Connects = (w.client.pending ≡ false) × (w.client.joined ≡ true)
MayHappen w (Asks apdu) = (w.client.pending ≡ false) × IsApdu apdu
MayHappen w Waits = w.client.pending ≡ false
MayHappen w Replies = w.client.pending ≡ false
MayHappen w Leaves = (w.client.pending ≡ false) × (w.client.joined ≡ true)
MayHappen w (Joins n) = AllByRecursion IsInd (drop n w.coming)
MayHappen w (Group frame) = frame.group ≡ true
MayHappen w (DevRepeat gateway) = w.device.unsent ≡ []
MayHappen w _ = Unit {0}

abbrev pub replay : World → List Event → World
replay start [] = start
replay start (e ∷ events) = step (replay start events) e

abbrev pub IsLegal : World → List Event → Type 0
IsLegal start [] = Unit {0}
IsLegal start (e ∷ events) = MayHappen (replay start events) e × IsLegal start events

-- P of each beginning of the events
abbrev pub AtEveryMoment : (List Event → Type 0) → List Event → Type 0
AtEveryMoment P [] = P []
AtEveryMoment P (e ∷ events) = P (e ∷ events) × AtEveryMoment P events
