-- The world in which individual addresses are given (ISO/IEC 14543-3-1 and 3-5, application layer and management: A_IndividualAddress_Write, _Read and
-- _Response): a tunnel, and the units on its bus, each with its address and whether it is in programming mode, which doesn't change. The tunnel is that
-- of the line. A broadcast write gives its address to each unit in programming mode for which it isn't lost; to a broadcast read each of these
-- sends a response, whose source is its address then. A T_Connect to an address is confirmed without error exactly where a unit has it.
use Rattle.std.specs.Prelude.{ℕ, zero, suc, Bool, true, not, ◌&&◌, ◌||◌, ◌==◌, List, [], ◌∷◌, ◌++◌, drop, Option, Some, None, if◌then◌else◌}
use Rattle.std.specs.List.{list_any}
use Rattle.knx_model.specs.declared.address.IndAddr.{IndAddr}
use Rattle.knx_model.specs.declared.frames.cemi.Ldata.{Ldata}
use Rattle.knx_model.specs.declared.frames.cemi.LdataCode.TheVariants.{Con}
use Rattle.knx_model.specs.declared.frames.tpdu.Apdu.{Apdu}
use Rattle.knx_model.specs.declared.frames.tpdu.Apdu.TheVariants.{AddressWrite, AddressRead, AddressResponse}
use Rattle.knx_model.specs.ApduReading.{apdu_octets, option_map, service_in}
use Rattle.knx_model.specs.DeviceFrames.{own_frame}
use Rattle.knx_model.specs.DeviceSending.{first_frame}
use Rattle.line_model.specs.Tunnel as tunnel
use Rattle.line_model.specs.Tunnel.{Tunnel, TunnelEvent}
use Rattle.line_model.specs.World.{AtGateway, heard, is_among, on_bus}

-- ---- a unit

pub record UnitState : Type 0 where
  pub address : IndAddr
  pub programming : Bool
  pub unsent : List IndAddr  -- its responses that aren't sent yet, each by its source, the oldest first

pub record AddressWorld : Type 0 where
  pub tunnel : Tunnel
  pub units : List UnitState

pub data AddressEvent : Type 0 where
  Send : List ℕ → AddressEvent  -- the client sends a datagram
  Renew : AddressEvent  -- it takes a new endpoint
  Up : ℕ → AddressEvent  -- the gateway takes the client's datagram of this age
  UpRefused : ℕ → ℕ → AddressEvent  -- it answers a connect request with this status, and changes nothing else
  Down : ℕ → AddressEvent  -- the client gets the gateway's datagram of this age
  LoseUp : ℕ → AddressEvent
  LoseDown : ℕ → AddressEvent
  Bus : List ℕ → AddressEvent  -- the client's oldest frame that waits for the bus goes over it, lost for the units at these places, from 0
  Respond : ℕ → AtGateway → AddressEvent  -- the oldest response of the unit at this place goes over the bus
  GwRepeat : AddressEvent  -- the gateway sends its outstanding request again
  GwClose : AddressEvent  -- it closes its channel
  Pass : ℕ → AddressEvent  -- so many milliseconds pass

abbrev pub me : AddressWorld → IndAddr
me w = w.tunnel.gateway.tunnel

-- ---- frames on the bus

-- the client's frame that goes over the bus next
abbrev pub next_frame : AddressWorld → Option Ldata
next_frame w = option_map (on_bus (me w)) (first_frame w.tunnel.gateway.bus)

-- the service that a frame asks of all: its destination is group address 0
abbrev pub broadcast : Ldata → Option Apdu
broadcast frame = if frame.group && (frame.destination == 0) then service_in frame.tpdu else None

abbrev pub response : IndAddr → Ldata
response source = own_frame source true 0 (apdu_octets AddressResponse)

-- ---- what a unit does

abbrev pub gets : UnitState → Option Apdu → UnitState
gets u (Some (AddressWrite address)) = record u { address = address }
gets u (Some AddressRead) = record u { unsent = u.unsent ++ u.address ∷ [] }
gets u _ = u

-- in programming mode alone
abbrev pub gets_broadcast : Ldata → UnitState → UnitState
gets_broadcast frame u = if u.programming then gets u (broadcast frame) else u

-- all units from this place on, but those left out
abbrev pub all_get : ℕ → List ℕ → Ldata → List UnitState → List UnitState
all_get at left_out frame [] = []
all_get at left_out frame (u ∷ units) = (if is_among left_out at then u else gets_broadcast frame u) ∷ all_get (suc at) left_out frame units

abbrev pub carried_to : List ℕ → Option Ldata → List UnitState → List UnitState
carried_to left_out None units = units
carried_to left_out (Some frame) units = all_get 0 left_out frame units

abbrev pub sends : UnitState → UnitState
sends u = record u { unsent = drop 1 u.unsent }

-- the unit at a place is changed
abbrev pub changed : ℕ → (UnitState → UnitState) → List UnitState → List UnitState
changed at change [] = []
changed zero change (u ∷ units) = change u ∷ units
changed (suc at) change (u ∷ units) = u ∷ changed at change units

-- ---- confirmations

abbrev pub has_address : ℕ → List UnitState → Bool
has_address raw units = list_any (λ (u : UnitState). u.address.raw == raw) units

-- a frame to a group or to all is confirmed, and one to an address where a unit has it
abbrev pub confirmation : AddressWorld → Ldata → Ldata
confirmation w frame = record frame { code = Con; error = not (frame.group || has_address frame.destination w.units) }

-- ---- what an event is to the tunnel

abbrev pub carried : AddressWorld → Option Ldata → TunnelEvent
carried w None = tunnel.Elsewhere
carried w (Some frame) = tunnel.Carried (confirmation w frame)

abbrev pub oldest : List IndAddr → Option Ldata
oldest [] = None
oldest (source ∷ sources) = Some (response source)

abbrev pub oldest_at : ℕ → List UnitState → Option Ldata
oldest_at at [] = None
oldest_at zero (u ∷ units) = oldest u.unsent
oldest_at (suc at) (u ∷ units) = oldest_at at units

abbrev pub tunnel_event : AddressWorld → AddressEvent → TunnelEvent
tunnel_event w (Send octets) = tunnel.Send octets
tunnel_event w Renew = tunnel.Renew
tunnel_event w (Up age) = tunnel.Up age
tunnel_event w (UpRefused age status) = tunnel.UpRefused age status
tunnel_event w (Down age) = tunnel.Down age
tunnel_event w (LoseUp age) = tunnel.LoseUp age
tunnel_event w (LoseDown age) = tunnel.LoseDown age
tunnel_event w (Bus left_out) = carried w (next_frame w)
tunnel_event w (Respond at gateway) = heard gateway (oldest_at at w.units)
tunnel_event w GwRepeat = tunnel.Repeat
tunnel_event w GwClose = tunnel.Close
tunnel_event w (Pass ms) = tunnel.Pass ms

-- ---- the step

abbrev pub units_after : AddressWorld → AddressEvent → List UnitState
units_after w (Bus left_out) = carried_to left_out (next_frame w) w.units
units_after w (Respond at gateway) = changed at sends w.units
units_after w _ = w.units

abbrev pub step : AddressWorld → AddressEvent → AddressWorld
step w e = record { tunnel = tunnel.step w.tunnel (tunnel_event w e); units = units_after w e }

abbrev pub replay : AddressWorld → List AddressEvent → AddressWorld
replay start [] = start
replay start (e ∷ events) = step (replay start events) e

-- what a list of events is to the tunnel
abbrev pub tunnel_events : AddressWorld → List AddressEvent → List TunnelEvent
tunnel_events start [] = []
tunnel_events start (e ∷ events) = tunnel_event (replay start events) e ∷ tunnel_events start events
