-- The gateway's end of a tunnel by itself (ISO 22510, Core and Tunnelling): of the gateway it has the address, the number of the channel that is
-- made next, and the channel. It knows nothing of what waits, of what was acted on and of who asked for earlier channels. What it answers is
-- what the gateway answers and sends: each answer is read off the gateway's, so nothing of it is said twice.
use Rattle.std.specs.Prelude.{◌≡◌, ℕ, ◌-◌, ◌≤◌, false, List, [], replicate, length, Option, Some, None, option_map, Result, Ok, Err, if◌then◌else◌}
use Rattle.knx_model.specs.declared.address.IndAddr.{IndAddr}
use Rattle.knx_model.specs.declared.frames.ip.IpFrame.{IpFrame}
use Rattle.knx_model.specs.declared.frames.ip.IpFrame.TheVariants.{DisconnectRequest}
use Rattle.knx_model.specs.Connection.{wait_end, earlier_time}
use Rattle.knx_model.specs.KnxNetIp.{Written}
use Rattle.line_model.specs.declared.gateway_end.GatewayTook.{GatewayTook as Took}
use Rattle.line_model.specs.declared.gateway_end.GatewayExpired.{GatewayExpired as Expired}
use Rattle.line_model.specs.declared.gateway_end.GatewayExpired.TheVariants as expired
use Rattle.line_model.specs.declared.put_refused.PutRefused.{PutRefused}
use Rattle.line_model.specs.declared.put_refused.PutRefused.TheVariants.{Busy, NotUp}
use Rattle.line_model.specs.Network.{channel_numbers}
use Rattle.line_model.specs.Gateway.{Gateway, Channel, Request, GatewayTook, GatewayExpired, Nothing, Repeat, Closing, number_of, is_put, gateway_took, request_of, closed, client_wait, acknowledgement_wait}
use Rattle.line_model.specs.Tunnel.{repeated}

pub record GatewayEnd : Type 0 where
  pub tunnel : IndAddr
  pub next : ℕ  -- the number of the channel that is made next
  pub channel : Option Channel

-- the end of a gateway
abbrev pub end_of : Gateway → GatewayEnd
end_of g = record { tunnel = g.tunnel; next = number_of (length g.makers); channel = g.channel }

-- a gateway with this end: it made just so many channels that the next one has this number, and nothing waits
abbrev pub gateway_of : GatewayEnd → Gateway
gateway_of e = record { tunnel = e.tunnel; channel = e.channel; makers = replicate (e.next - 1) 0; bus = []; waiting = []; acted = []; puts = [] }

-- ---- numbers

-- the number of a channel is 1 to 255
abbrev pub IsChannelNumber : ℕ → Type 0
IsChannelNumber number = (1 ≤ number) × (number ≤ channel_numbers)

abbrev pub HasChannelNumber : Option Channel → Type 0
HasChannelNumber None = Unit {0}
HasChannelNumber (Some c) = IsChannelNumber c.number

pub record IsEnd (e : GatewayEnd) : Type 0 where
  pub next : IsChannelNumber e.next
  pub channel : HasChannelNumber e.channel

-- ---- frames

-- a gateway's answer as octets
abbrev pub told : GatewayTook → Took
told t = record { send = option_map Written t.send; acted = t.acted }

-- an end answers a frame as a gateway with this end does
abbrev pub end_took : GatewayEnd → ℕ → ℕ → IpFrame → GatewayTook
end_took e from now frame = gateway_took (gateway_of e) from now frame

-- ---- requests

-- a request that is to be put: its octets where a channel is open and none is outstanding
abbrev pub channel_put : Option Channel → List ℕ → Result (List ℕ) PutRefused
channel_put None cemi = Err NotUp
channel_put (Some c) cemi = if is_put c.outstanding then Err Busy else Ok (Written (request_of c cemi))

abbrev pub first_request : List ℕ → ℕ → Request
first_request cemi now = record { frame = cemi; repeated = false; sent = now }

abbrev pub after_put : Option Channel → List ℕ → ℕ → Option Channel
after_put None cemi now = None
after_put (Some c) cemi now = Some (if is_put c.outstanding then c else record c { outstanding = Some (first_request cemi now) })

-- ---- the time

abbrev pub told_due : GatewayExpired → Expired
told_due Nothing = expired.Nothing
told_due (Repeat frame) = expired.Repeat (Written frame)
told_due (Closing frame) = expired.Closed (Written frame)

-- the request is sent again
abbrev pub repeated_request : Channel → Option Request → ℕ → Channel
repeated_request c None now = c
repeated_request c (Some r) now = repeated c r now

abbrev pub repeated_if_open : Option Channel → ℕ → Option Channel
repeated_if_open None now = None
repeated_if_open (Some c) now = Some (repeated_request c c.outstanding now)

-- what the gateway knows after this was due
abbrev pub after_due : Gateway → ℕ → GatewayExpired → Gateway
after_due g now Nothing = g
after_due g now (Repeat frame) = record g { channel = repeated_if_open g.channel now }
after_due g now (Closing frame) = closed g

-- the nearest time at which a wait has passed: for a datagram of the client, and for an acknowledgement where a request is outstanding
abbrev pub request_deadline : Option Request → ℕ → ℕ
request_deadline None end = end
request_deadline (Some r) end = earlier_time (wait_end acknowledgement_wait r.sent) end

abbrev pub channel_deadline : Option Channel → Option ℕ
channel_deadline None = None
channel_deadline (Some c) = Some (request_deadline c.outstanding (wait_end client_wait c.heard))

-- ---- the channel

abbrev pub endpoint_of : Option Channel → Option ℕ
endpoint_of channel = option_map (λ c. c.endpoint) channel

-- the disconnect request of an open channel
abbrev pub farewell : Option Channel → Option (List ℕ)
farewell channel = option_map (λ c. Written (DisconnectRequest c.number)) channel

-- ---- an end and a gateway do the same

-- what an end answered and has become is what this gateway answers and becomes
pub record TookAs (t : GatewayTook) (took : Took) (e : GatewayEnd) : Type 0 where
  pub answer : took ≡ told t
  pub after : e ≡ end_of t.after
