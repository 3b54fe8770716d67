-- The gateway's end of a tunnel (ISO 22510, Core and Tunnelling): its one channel, what waits for the bus and what waits for the client, and
-- one case for each service that says what it answers, on which request it acts, and what it knows then. The k-th channel that it makes has
-- the number 1 + (k - 1) mod 255. That any datagram of its client keeps a channel open (CONNECTION_ALIVE_TIME, 120,000 ms), that a connect
-- request of another endpoint closes it, and that a state request of no open channel isn't answered is this project's own.
use Rattle.std.specs.Prelude.{ℕ, ◌+◌, ◌%◌, Bool, true, false, ◌&&◌, ◌==◌, List, [], ◌∷◌, ◌++◌, length, Option, Some, None, if◌then◌else◌}
use Rattle.knx_model.specs.declared.address.IndAddr.{IndAddr}
use Rattle.knx_model.specs.declared.frames.cemi.Ldata.{Ldata}
use Rattle.knx_model.specs.declared.frames.ip.IpFrame.{IpFrame}
use Rattle.knx_model.specs.declared.frames.ip.IpFrame.TheVariants.{ConnectRequest, ConnectResponse, StateRequest, StateResponse, DisconnectRequest, DisconnectResponse, TunnellingRequest, TunnellingAck}
use Rattle.knx_model.specs.Cemi.{Written as cemi_octets}
use Rattle.knx_model.specs.Connection.{has_passed}
use Rattle.line_model.specs.Network.{channel_numbers}
use Rattle.line_model.specs.Reading.{ldata_in, is_req}

-- ---- what it knows

-- a request of the gateway that isn't acknowledged
pub record Request : Type 0 where
  pub frame : List ℕ  -- its cEMI octets
  pub repeated : Bool  -- whether it was sent again
  pub sent : ℕ  -- when it was sent last

pub record Channel : Type 0 where
  pub endpoint : ℕ  -- whose connect request made it
  pub number : ℕ
  pub expected : ℕ  -- the number of the client's next request
  pub own : ℕ  -- the number of the gateway's request that is outstanding or, where none is, of its next one
  pub outstanding : Option Request
  pub heard : ℕ  -- when a datagram of its client came last

pub record Gateway : Type 0 where
  pub tunnel : IndAddr
  pub channel : Option Channel
  pub makers : List ℕ  -- the endpoint of each channel that was made, the newest first
  pub bus : List Ldata  -- the frames that wait for the bus, the oldest first
  pub waiting : List Ldata  -- the frames that wait for the client, the oldest first
  pub acted : List (ℕ × List ℕ)  -- the requests acted on: the channel's place, from 0, and the cEMI octets; the newest first
  pub puts : List (ℕ × List ℕ)  -- the requests that it put, alike

abbrev pub at_rest : IndAddr → Gateway
at_rest tunnel = record { tunnel = tunnel; channel = None; makers = []; bus = []; waiting = []; acted = []; puts = [] }

-- ---- numbers

-- the number of the channel at a place, from 0
abbrev pub number_of : ℕ → ℕ
number_of place = 1 + place % channel_numbers

-- the place of the channel that was made last
abbrev pub newest_place : List ℕ → ℕ
newest_place [] = 0
newest_place (maker ∷ makers) = length makers

abbrev pub place : Gateway → ℕ
place g = newest_place g.makers

-- sequence counters have eight bits
abbrev pub next_number : ℕ → ℕ
next_number number = (number + 1) % 256

-- ---- waits, in milliseconds

abbrev pub acknowledgement_wait : ℕ
acknowledgement_wait = 1000

abbrev pub client_wait : ℕ
client_wait = 120000

-- ---- channels

-- the open channel is this endpoint's
abbrev pub is_of : ℕ → Option Channel → Bool
is_of endpoint None = false
is_of endpoint (Some c) = c.endpoint == endpoint

-- the open channel is this endpoint's and has this number
abbrev pub names : ℕ → ℕ → Option Channel → Bool
names endpoint number None = false
names endpoint number (Some c) = (c.endpoint == endpoint) && (c.number == number)

-- closing drops the frames that wait for the bus and those that wait for the client; what waits while no channel is open stays
abbrev pub closed_if_open : Gateway → Option Channel → Gateway
closed_if_open g None = g
closed_if_open g (Some c) = record g { channel = None; bus = []; waiting = [] }

abbrev pub closed : Gateway → Gateway
closed g = closed_if_open g g.channel

abbrev pub new_channel : ℕ → ℕ → ℕ → Channel
new_channel endpoint number now = record { endpoint = endpoint; number = number; expected = 0; own = 0; outstanding = None; heard = now }

abbrev pub makes : Gateway → ℕ → ℕ → Gateway
makes g endpoint now = record g { channel = Some (new_channel endpoint (number_of (length g.makers)) now); makers = endpoint ∷ g.makers }

-- ---- a datagram of an endpoint that reads: what the gateway answers, the request that it acts on, and what it knows then

pub record GatewayTook : Type 0 where
  pub send : Option IpFrame
  pub acted : Option (List ℕ)
  pub after : Gateway

abbrev pub drops : Gateway → GatewayTook
drops g = record { send = None; acted = None; after = g }

abbrev pub answers : IpFrame → Gateway → GatewayTook
answers frame g = record { send = Some frame; acted = None; after = g }

-- a connect request of the open channel's endpoint is answered as before; one of another closes the open channel and makes the next
abbrev pub connects : Gateway → ℕ → ℕ → Option Channel → GatewayTook
connects g from now None = answers (ConnectResponse (number_of (length g.makers)) 0 (Some g.tunnel)) (makes g from now)
connects g from now (Some c) =
    if c.endpoint == from then answers (ConnectResponse c.number 0 (Some g.tunnel)) g
    else answers (ConnectResponse (number_of (length g.makers)) 0 (Some g.tunnel)) (makes (closed g) from now)

-- a request that reads as L_Data.req waits for the bus
abbrev pub to_bus : Option Ldata → List Ldata
to_bus None = []
to_bus (Some frame) = if is_req frame.code then frame ∷ [] else []

abbrev pub acts_on : Gateway → Channel → List ℕ → Gateway
acts_on g c frame = record g {
  channel = Some (record c { expected = next_number c.expected });
  bus = g.bus ++ to_bus (ldata_in frame);
  acted = (place g, frame) ∷ g.acted;
}

-- the expected number is acted on and acknowledged, the number before it is acknowledged, another is dropped
abbrev pub request_took : Gateway → Option Channel → ℕ → List ℕ → GatewayTook
request_took g None number frame = drops g
request_took g (Some c) number frame =
    if number == c.expected then record { send = Some (TunnellingAck c.number number 0); acted = Some frame; after = acts_on g c frame }
    else (if next_number number == c.expected then answers (TunnellingAck c.number number 0) g else drops g)

-- a request is outstanding
abbrev pub is_put : Option Request → Bool
is_put None = false
is_put (Some r) = true

-- an acknowledgement with status 0 of the outstanding number settles it
abbrev pub settles : Channel → ℕ → ℕ → Channel
settles c number status =
    if is_put c.outstanding && (number == c.own) && (status == 0) then record c { own = next_number c.own; outstanding = None } else c

abbrev pub acknowledged : Gateway → Option Channel → ℕ → ℕ → Gateway
acknowledged g None number status = g
acknowledged g (Some c) number status = record g { channel = Some (settles c number status) }

abbrev pub took : Gateway → ℕ → ℕ → IpFrame → GatewayTook
took g from now ConnectRequest = connects g from now g.channel
took g from now (ConnectResponse channel status tunnel) = drops g
took g from now (StateRequest channel) = if names from channel g.channel then answers (StateResponse channel 0) g else drops g
took g from now (StateResponse channel status) = drops g
took g from now (DisconnectRequest channel) = if names from channel g.channel then answers (DisconnectResponse channel 0) (closed g) else answers (DisconnectResponse channel 0x21) g
took g from now (DisconnectResponse channel status) = drops g
took g from now (TunnellingRequest channel number frame) = if names from channel g.channel then request_took g g.channel number frame else drops g
took g from now (TunnellingAck channel number status) = if names from channel g.channel then drops (acknowledged g g.channel number status) else drops g

-- a datagram of its client came
abbrev pub hears : Option Channel → ℕ → ℕ → Option Channel
hears None from now = None
hears (Some c) from now = if c.endpoint == from then Some (record c { heard = now }) else Some c

unfoldable pub gateway_took : Gateway → ℕ → ℕ → IpFrame → GatewayTook
gateway_took g from now frame = took (record g { channel = hears g.channel from now }) from now frame

-- ---- what it sends of itself

abbrev pub request_of : Channel → List ℕ → IpFrame
request_of c frame = TunnellingRequest c.number c.own frame

-- its oldest frame for the client, where a channel is open and no request is outstanding
abbrev pub next_put : Option Channel → List Ldata → Option (Channel × Ldata)
next_put None frames = None
next_put (Some c) [] = None
next_put (Some c) (frame ∷ frames) = if is_put c.outstanding then None else Some (c, frame)

abbrev pub put_after : Gateway → Channel → Ldata → List Ldata → ℕ → Gateway
put_after g c frame rest now = record g {
  channel = Some (record c { outstanding = Some (record { frame = cemi_octets frame; repeated = false; sent = now }) });
  waiting = rest;
  puts = (place g, cemi_octets frame) ∷ g.puts;
}

-- ---- the time: an unacknowledged request is sent again once, and then the channel closes; it closes without its client too

pub data GatewayExpired : Type 0 where
  Nothing : GatewayExpired
  Repeat : IpFrame → GatewayExpired
  Closing : IpFrame → GatewayExpired

abbrev pub request_expired : Channel → Option Request → ℕ → GatewayExpired
request_expired c None now = Nothing
request_expired c (Some r) now =
    if has_passed acknowledgement_wait r.sent now then (if r.repeated then Closing (DisconnectRequest c.number) else Repeat (request_of c r.frame)) else Nothing

abbrev pub channel_expired : Option Channel → ℕ → GatewayExpired
channel_expired None now = Nothing
channel_expired (Some c) now = if has_passed client_wait c.heard now then Closing (DisconnectRequest c.number) else request_expired c c.outstanding now

unfoldable pub gateway_expired : Gateway → ℕ → GatewayExpired
gateway_expired g now = channel_expired g.channel now
