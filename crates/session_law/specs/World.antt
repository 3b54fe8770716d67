-- One numbered connection over the line (ISO/IEC 14543-3-2, transport layer), as the client and one device see it: their two ends, the one frame
-- of the client that is on its way, what is on its way to the client, and what came of the session. Of the tunnel it knows only what a client
-- may rely on: what it got is the first of what was put, in order. What is on its way has its oldest element first, histories their newest.
use Rattle.std.specs.Prelude.{ℕ, Bool, false, List, [], Option, None}
use Rattle.knx_model.specs.declared.address.IndAddr.{IndAddr}
use Rattle.knx_model.specs.declared.frames.cemi.Ldata.{Ldata}
use Rattle.knx_model.specs.ClientConnection.{ClientEnd, Ended}
use Rattle.knx_model.specs.DeviceConnection.{Closed}
use Rattle.knx_model.specs.DeviceState.{DeviceState}

-- what is on its way to the client: L_Data.con of its own frame, with error or without, and L_Data.ind of the device's frames
pub data Message : Type 0 where
  Con : Bool → Message
  Ind : Ldata → Message

pub record Client : Type 0 where
  pub end : ClientEnd
  pub joined : Bool  -- it has a channel
  pub pending : Bool  -- a frame that it put isn't confirmed
  pub owed : List (List ℕ)  -- the T_ACKs and T_NAKs that it owes the device, the oldest first
  pub sent : List (List ℕ)  -- the services that it sent since the last T_Connect whose confirmation without error it took
  pub accepted : List (List ℕ)  -- the answers that it accepted since then

pub record World : Type 0 where
  pub me : IndAddr  -- the client's frames have this source
  pub now : ℕ
  pub client : Client
  pub flying : Option Ldata  -- the client's frame that hasn't gone over the bus
  pub coming : List Message
  pub device : DeviceState
  pub echo : Option Ldata  -- the bus's last frame, where this device sent it
  pub delivered : List (List ℕ)  -- the services that the device delivered since the last T_Connect whose confirmation without error the client took
  pub given : List (List ℕ)  -- the answers that the device gave since then

-- a client without channel, and a device without connection that has nothing to send and got no frame
abbrev pub fresh : IndAddr → DeviceState → World
fresh me d = record {
  me = me;
  now = 0;
  client = record { end = Ended; joined = false; pending = false; owed = []; sent = []; accepted = [] };
  flying = None;
  coming = [];
  device = record d { connection = Closed; unsent = []; last = None };
  echo = None;
  delivered = [];
  given = [];
}
