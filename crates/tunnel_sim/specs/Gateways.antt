-- What is held of a gateway (ISO 22510, Core and Tunnelling): its end, the frames that wait for the bus and for the client, and how many
-- channels it made and requests it acted on. Histories aren't held: who made which channel, and which requests were acted on or put.
use Rattle.std.specs.Prelude.{◌≡◌, ℕ, suc, ◌-◌, ◌^◌, ◌<◌, Bool, true, false, not, ◌==◌, List, [], ◌++◌, length, drop, Option, Some, None, option_map}
use Rattle.knx_model.specs.declared.address.IndAddr.{IndAddr}
use Rattle.knx_model.specs.declared.frames.cemi.Ldata.{Ldata}
use Rattle.knx_model.specs.declared.frames.cemi.LdataCode.TheVariants.{Con}
use Rattle.knx_model.specs.declared.frames.ip.IpFrame.{IpFrame}
use Rattle.knx_model.specs.declared.frames.ip.IpFrame.TheVariants.{ConnectRequest, DisconnectRequest}
use Rattle.knx_model.specs.Cemi.{Written as cemi_octets}
use Rattle.knx_model.specs.KnxNetIp.{Written}
use Rattle.line_model.specs.Gateway.{Gateway, Channel, GatewayExpired, Nothing, Repeat, Closing, put_after, request_of, to_bus}
use Rattle.line_model.specs.GatewayEnd.{GatewayEnd, end_of}
use Rattle.network_sim.specs.Window.{capped}
use Rattle.line_model.specs.Reading.{ldata_in}
use Rattle.tunnel_sim.specs.declared.gateway.Gateway.{Gateway as HeldGateway}
use Rattle.tunnel_sim.specs.declared.gateway.Due.{Due}
use Rattle.tunnel_sim.specs.declared.gateway.Due.TheVariants as due
use Rattle.tunnel_sim.specs.declared.gateway.Expired.{Expired}
use Rattle.tunnel_sim.specs.declared.gateway.Expired.TheVariants as expired
use Rattle.tunnel_sim.specs.declared.gateway.Letter.{Letter}

-- ---- what is held

pub record GatewayNow : Type 0 where
  pub address : IndAddr  -- of the tunnel
  pub end : GatewayEnd
  pub bus : List Ldata  -- the frames that wait for the bus, the oldest first
  pub waiting : List Ldata  -- those that wait for the client
  pub made : ℕ  -- how many channels were made
  pub acted : ℕ  -- how many requests were acted on; a number of 64 bits, which stands still at its greatest

abbrev pub gateway_now : HeldGateway → GatewayNow
gateway_now g = record { address = g.address; end = g.end; bus = g.bus.items; waiting = g.waiting.items; made = g.made; acted = g.acted }

-- ---- of which gateways it is a picture

pub record IsGateway (n : GatewayNow) (g : Gateway) : Type 0 where
  pub address : g.tunnel ≡ n.address
  pub end : end_of g ≡ n.end
  pub bus : g.bus ≡ n.bus
  pub waiting : g.waiting ≡ n.waiting
  pub made : length g.makers ≡ n.made
  pub acted : capped (length g.acted) ≡ n.acted

-- ---- the greatest number

abbrev pub greatest_count : ℕ
greatest_count = 2 ^ 64 - 1

-- one channel more can be counted
abbrev pub CanCount : GatewayNow → Type 0
CanCount n = n.made < greatest_count

-- ---- what a frame of the client does to what waits

-- the channel's client is another one, or there is no channel any more
abbrev pub is_left : Option ℕ → Option ℕ → Bool
is_left None after = false
is_left (Some client) None = true
is_left (Some client) (Some other) = not (client == other)

-- a connect request of an endpoint that isn't the open channel's makes a channel
abbrev pub is_another : Option ℕ → ℕ → Bool
is_another None from = true
is_another (Some client) from = not (client == from)

abbrev pub makes_one : IpFrame → Option ℕ → ℕ → Bool
makes_one ConnectRequest client from = is_another client from
makes_one _ client from = false

-- one more, where there is one
abbrev pub and_one : Bool → ℕ → ℕ
and_one true n = suc n
and_one false n = n

-- frames that wait for a channel that was closed are dropped
abbrev pub dropped_if : Bool → List Ldata → List Ldata
dropped_if true frames = []
dropped_if false frames = frames

-- a request that is acted on waits for the bus
abbrev pub joined : List Ldata → Option (List ℕ) → List Ldata
joined frames None = frames
joined frames (Some cemi) = frames ++ to_bus (ldata_in cemi)

-- a frame's confirmation, where it is to a group or the device that it is for took it, or not
abbrev pub confirmed : Ldata → Bool → Ldata
confirmed frame is_confirmed = record frame { code = Con; error = not is_confirmed }

-- ---- what the gateway sends of itself: the octets of a frame, to an endpoint

abbrev pub letter : ℕ → IpFrame → Letter
letter to frame = record { to = to; octets = Written frame }

abbrev pub put_letter : Option (Channel × Ldata) → Option Letter
put_letter None = None
put_letter (Some (c, frame)) = Some (letter c.endpoint (request_of c (cemi_octets frame)))

abbrev pub put_gateway : Gateway → ℕ → Option (Channel × Ldata) → Gateway
put_gateway g now None = g
put_gateway g now (Some (c, frame)) = put_after g c frame (drop 1 g.waiting) now

abbrev pub told_to : ℕ → GatewayExpired → Expired
told_to to Nothing = expired.Nothing
told_to to (Repeat frame) = expired.Repeat (letter to frame)
told_to to (Closing frame) = expired.Closed (letter to frame)

-- only an open channel has something due
abbrev pub told_letter : Option Channel → GatewayExpired → Expired
told_letter None due = expired.Nothing
told_letter (Some c) due = told_to c.endpoint due

-- the disconnect request of an open channel
abbrev pub farewell_letter : Option Channel → Option Letter
farewell_letter channel = option_map (λ c. letter c.endpoint (DisconnectRequest c.number)) channel

-- ---- what was due, and done

abbrev pub due_of : GatewayExpired → Due
due_of Nothing = due.Nothing
due_of (Repeat frame) = due.Repeat
due_of (Closing frame) = due.Closed
