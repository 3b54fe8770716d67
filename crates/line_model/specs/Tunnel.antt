-- The tunnel: the client's endpoint, the network, the gateway and the time, with what each event does to them. It is a world of its own, so
-- that what holds of it holds of the line whatever happens on the bus: of the bus it knows only that the oldest waiting frame went over it,
-- and which frames of devices came. After every event the gateway puts its oldest frame for the client, where a channel is open and no
-- request is outstanding.
use Rattle.std.specs.Prelude.{◌≡◌, ◌≢◌, ℕ, suc, ◌+◌, true, List, [], ◌∷◌, ◌++◌, length, drop, Option, Some, None, slice_get}
use Rattle.knx_model.specs.declared.address.IndAddr.{IndAddr}
use Rattle.knx_model.specs.declared.frames.cemi.Ldata.{Ldata}
use Rattle.knx_model.specs.declared.frames.ip.IpFrame.{IpFrame}
use Rattle.knx_model.specs.declared.frames.ip.IpFrame.TheVariants.{ConnectRequest, ConnectResponse, DisconnectRequest}
use Rattle.knx_model.specs.Cemi.{Written as cemi_octets}
use Rattle.knx_model.specs.KnxNetIp.{Written}
use Rattle.line_model.specs.Reading.{datagram_in}
use Rattle.line_model.specs.Network as network
use Rattle.line_model.specs.Network.{Sent, Network, OfSent, nothing_sent, new_datagram, changed_at, once_more, gone}
use Rattle.line_model.specs.Gateway.{Gateway, GatewayTook, Channel, Request, at_rest, gateway_took, next_put, put_after, request_of, closed}

pub record Tunnel : Type 0 where
  pub present : ℕ  -- the client's endpoint; the next one has the next number
  pub network : Network
  pub gateway : Gateway
  pub now : ℕ

pub data TunnelEvent : Type 0 where
  Send : List ℕ → TunnelEvent  -- the client sends a datagram
  From : ℕ → List ℕ → TunnelEvent  -- a client at this endpoint, from now on the present one, sends a datagram
  Renew : TunnelEvent  -- the client takes a new endpoint
  Up : ℕ → TunnelEvent  -- the gateway takes the datagram of this age
  UpRefused : ℕ → ℕ → TunnelEvent  -- it answers a connect request with this status, and changes nothing else
  Down : ℕ → TunnelEvent  -- the client gets the datagram of this age
  LoseUp : ℕ → TunnelEvent
  LoseDown : ℕ → TunnelEvent
  Carried : Ldata → TunnelEvent  -- the oldest frame that waits for the bus has gone over it; this is its confirmation
  Heard : List Ldata → TunnelEvent  -- frames of devices come to the gateway
  Repeat : TunnelEvent  -- the gateway sends its outstanding request again
  Close : TunnelEvent  -- it closes its channel
  Pass : ℕ → TunnelEvent  -- so many milliseconds pass
  Elsewhere : TunnelEvent  -- something happens to a device alone

-- ---- datagrams

abbrev pub made : Tunnel → ℕ
made t = length t.gateway.makers

abbrev pub with_gateway : Tunnel → Gateway → Tunnel
with_gateway t g = record t { gateway = g }

abbrev pub with_up : Tunnel → List Sent → Tunnel
with_up t up = record t { network = record { up = up; down = t.network.down } }

abbrev pub with_down : Tunnel → List Sent → Tunnel
with_down t down = record t { network = record { up = t.network.up; down = down } }

abbrev pub sends_up : Tunnel → ℕ → List ℕ → Tunnel
sends_up t endpoint octets = record (with_up t (new_datagram octets endpoint (made t) ∷ t.network.up)) { present = endpoint }

-- the gateway sends a frame to an endpoint
abbrev pub sends_down : Tunnel → ℕ → IpFrame → Tunnel
sends_down t endpoint frame = with_down t (new_datagram (Written frame) endpoint (made t) ∷ t.network.down)

abbrev pub sends_down_if : Tunnel → ℕ → Option IpFrame → Tunnel
sends_down_if t endpoint None = t
sends_down_if t endpoint (Some frame) = sends_down t endpoint frame

-- ---- the gateway takes a datagram

-- it sends what it answers to the endpoint that the frame came from
abbrev pub answers : Tunnel → ℕ → GatewayTook → Tunnel
answers t from took = sends_down_if (with_gateway t took.after) from took.send

abbrev pub takes_frame : Tunnel → ℕ → Option IpFrame → Tunnel
takes_frame t from None = t
takes_frame t from (Some frame) = answers t from (gateway_took t.gateway from t.now frame)

abbrev pub takes_sent : Tunnel → Option Sent → Tunnel
takes_sent t None = t
takes_sent t (Some s) = takes_frame t s.endpoint (datagram_in s.octets)

abbrev pub refuses : Tunnel → ℕ → Option Sent → Tunnel
refuses t status None = t
refuses t status (Some s) = sends_down t s.endpoint (ConnectResponse 0 status None)

-- ---- the gateway sends of itself

abbrev pub puts : Tunnel → Option (Channel × Ldata) → Tunnel
puts t None = t
puts t (Some (c, frame)) = sends_down (with_gateway t (put_after t.gateway c frame (drop 1 t.gateway.waiting) t.now)) c.endpoint (request_of c (cemi_octets frame))

abbrev pub puts_next : Tunnel → Tunnel
puts_next t = puts t (next_put t.gateway.channel t.gateway.waiting)

abbrev pub repeated : Channel → Request → ℕ → Channel
repeated c r now = record c { outstanding = Some (record r { repeated = true; sent = now }) }

abbrev pub repeats_request : Tunnel → Channel → Option Request → Tunnel
repeats_request t c None = t
repeats_request t c (Some r) = sends_down (with_gateway t (record t.gateway { channel = Some (repeated c r t.now) })) c.endpoint (request_of c r.frame)

abbrev pub repeats : Tunnel → Option Channel → Tunnel
repeats t None = t
repeats t (Some c) = repeats_request t c c.outstanding

-- it closes its channel with a disconnect request
abbrev pub closes : Tunnel → Option Channel → Tunnel
closes t None = t
closes t (Some c) = sends_down (with_gateway t (closed t.gateway)) c.endpoint (DisconnectRequest c.number)

-- ---- what an event does

-- the confirmation waits for the client behind all that waits already
abbrev pub carried : Gateway → Ldata → Gateway
carried g confirmation = record g { bus = drop 1 g.bus; waiting = g.waiting ++ confirmation ∷ [] }

-- a frame that arises while no channel is open waits for the next one
abbrev pub heard : Gateway → List Ldata → Gateway
heard g frames = record g { waiting = g.waiting ++ frames }

abbrev pub after : Tunnel → TunnelEvent → Tunnel
after t (Send octets) = sends_up t t.present octets
after t (From endpoint octets) = sends_up t endpoint octets
after t Renew = record t { present = suc t.present }
after t (Up age) = takes_sent (with_up t (changed_at age once_more t.network.up)) (slice_get t.network.up age)
after t (UpRefused age status) = refuses (with_up t (changed_at age once_more t.network.up)) status (slice_get t.network.up age)
after t (Down age) = with_down t (changed_at age once_more t.network.down)
after t (LoseUp age) = with_up t (changed_at age gone t.network.up)
after t (LoseDown age) = with_down t (changed_at age gone t.network.down)
after t (Carried confirmation) = with_gateway t (carried t.gateway confirmation)
after t (Heard frames) = with_gateway t (heard t.gateway frames)
after t Repeat = repeats t t.gateway.channel
after t Close = closes t t.gateway.channel
after t (Pass ms) = record t { now = t.now + ms }
after t Elsewhere = t

abbrev pub step : Tunnel → TunnelEvent → Tunnel
step t event = puts_next (after t event)

abbrev pub replay : Tunnel → List TunnelEvent → Tunnel
replay start [] = start
replay start (e ∷ events) = step (replay start events) e

-- ---- which events may happen. In a run the client has one endpoint at a time and gets what comes to the present one; where the gateway
-- serves clients that it doesn't know, a datagram goes to its own endpoint

pub data Mode : Type 0 where
  Commissions : Mode
  Serves : Mode

abbrev pub IsConnectRequest : Sent → Type 0
IsConnectRequest s = datagram_in s.octets ≡ Some ConnectRequest

abbrev pub IsOpen : Option Channel → Type 0
IsOpen channel = channel ≢ None

abbrev pub HasOutstanding : Option Channel → Type 0
HasOutstanding None = ⊥
HasOutstanding (Some c) = c.outstanding ≢ None

abbrev pub MayHappen : Mode → Tunnel → TunnelEvent → Type 0
MayHappen Commissions t (Send octets) = Unit {0}
MayHappen Serves t (Send octets) = ⊥
MayHappen Commissions t (From endpoint octets) = ⊥
MayHappen Serves t (From endpoint octets) = Unit {0}
MayHappen Commissions t Renew = Unit {0}
MayHappen Serves t Renew = ⊥
MayHappen mode t (Up age) = network.MayArrive (made t) t.network.up age
MayHappen mode t (UpRefused age status) = network.MayArrive (made t) t.network.up age × OfSent IsConnectRequest (slice_get t.network.up age) × (status ≢ 0)
MayHappen Commissions t (Down age) = network.MayReach t.present (made t) t.network.down age
MayHappen Serves t (Down age) = network.MayArrive (made t) t.network.down age
MayHappen mode t (LoseUp age) = network.WasSent t.network.up age
MayHappen mode t (LoseDown age) = network.WasSent t.network.down age
MayHappen mode t (Carried confirmation) = t.gateway.bus ≢ []
MayHappen mode t (Heard frames) = Unit {0}
MayHappen mode t Repeat = HasOutstanding t.gateway.channel
MayHappen mode t Close = IsOpen t.gateway.channel
MayHappen mode t (Pass ms) = Unit {0}
MayHappen mode t Elsewhere = Unit {0}

abbrev pub IsLegal : Mode → Tunnel → List TunnelEvent → Type 0
IsLegal mode start [] = Unit {0}
IsLegal mode start (e ∷ events) = MayHappen mode (replay start events) e × IsLegal mode start events

-- ---- how it begins: no channel, nothing sent, and no frame that waits

abbrev pub fresh : IndAddr → Tunnel
fresh tunnel = record { present = 0; network = nothing_sent; gateway = at_rest tunnel; now = 0 }
