-- Where the clients are numbers at a port, every endpoint on the line stays one.
use Rattle.std.proofs.Common.{◌≡◌, ℕ, zero, suc, ◌==◌, Bool, true, false, ◌&&◌, List, [], ◌∷◌, Option, Some, None, IfSome, subst, if◌then◌else◌}
use Rattle.std.specs.Prelude.{slice_get}
use Rattle.std.specs.List.{AllByRecursion}
use Rattle.knx_model.specs.declared.address.IndAddr.{IndAddr}
use Rattle.knx_model.specs.declared.frames.cemi.Ldata.{Ldata}
use Rattle.knx_model.specs.declared.frames.ip.IpFrame.{IpFrame}
use Rattle.knx_model.specs.declared.frames.ip.IpFrame.TheVariants.{ConnectRequest, ConnectResponse, StateRequest, StateResponse, DisconnectRequest, DisconnectResponse, TunnellingRequest, TunnellingAck}
use Rattle.line_model.specs.Gateway.{Gateway, GatewayTook, Channel, Request, acknowledged, closed_if_open, connects, gateway_took, hears, is_put, names, next_number, next_put, request_took, settles, took}
use Rattle.line_model.specs.Legal.{MayHappen}
use Rattle.line_model.specs.Network.{Sent, OfSent, changed_at, once_more, gone}
use Rattle.line_model.specs.Owed.{is_clients}
use Rattle.line_model.specs.Reading.{datagram_in}
use Rattle.line_model.specs.Tunnel as tunnel
use Rattle.line_model.specs.Tunnel.{Tunnel, TunnelEvent, after, fresh, with_gateway, with_up, sends_down_if, takes_frame, takes_sent, refuses, puts, puts_next, repeats_request, repeats, closes}
use Rattle.line_model.specs.World.{World, Event, AtGateway, Comes, IsLost, Send, From, Bus, BusTorn, BusWorn, DevSend, DevRepeat, GwAgain, carried, heard, next_frame, waiting_at, repeat_at, tunnel_event, step}
use Rattle.bus_sim.specs.declared.clients.Clients.{Clients}
use Rattle.bus_sim.specs.declared.clients.Clients.TheVariants.{One, Any}
use Rattle.bus_sim.specs.Begun.{mode_of}
use Rattle.bus_sim.specs.Numbers.{IsClient, IsNumber, AreClients, AreNumbered}

-- ---- the channel

abbrev IsTheirs : Option Channel → Type 0
IsTheirs o = IfSome o (λ (c : Channel). IsClient c.endpoint)

heard_theirs : (o : Option Channel) (from now : ℕ) → IsTheirs o → IsTheirs (hears o from now)
heard_theirs None from now h = tt
heard_theirs (Some c) from now h = by_test (c.endpoint == from)
  where
    by_test : (t : Bool) → IsTheirs (if t then Some (record c { heard = now }) else Some c)
    by_test true = h
    by_test false = h

either : (t : Bool) (a b : GatewayTook) → IsTheirs a.after.channel → IsTheirs b.after.channel → IsTheirs (if t then a else b).after.channel
either true a b h k = h
either false a b h k = k

closed_theirs : (g : Gateway) (o : Option Channel) → IsTheirs g.channel → IsTheirs (closed_if_open g o).channel
closed_theirs g None h = h
closed_theirs g (Some c) h = tt

connects_theirs : (g : Gateway) (from now : ℕ) (o : Option Channel) → IsTheirs g.channel → IsClient from → IsTheirs (connects g from now o).after.channel
connects_theirs g from now None h client = client
connects_theirs g from now (Some c) h client = either (c.endpoint == from) _ _ h client

request_theirs : (g : Gateway) (o : Option Channel) (number : ℕ) (frame : List ℕ) → IsTheirs o → IsTheirs g.channel → IsTheirs (request_took g o number frame).after.channel
request_theirs g None number frame k h = h
request_theirs g (Some c) number frame k h = either (number == c.expected) _ _ k (either (next_number number == c.expected) _ _ h h)

settles_theirs : (c : Channel) (number status : ℕ) → IsClient c.endpoint → IsClient (settles c number status).endpoint
settles_theirs c number status h = by_test (is_put c.outstanding && (number == c.own) && (status == 0))
  where
    by_test : (t : Bool) → IsClient (if t then record c { own = next_number c.own; outstanding = None } else c).endpoint
    by_test true = h
    by_test false = h

acknowledged_theirs : (g : Gateway) (o : Option Channel) (number status : ℕ) → IsTheirs o → IsTheirs g.channel → IsTheirs (acknowledged g o number status).channel
acknowledged_theirs g None number status k h = h
acknowledged_theirs g (Some c) number status k h = settles_theirs c number status k

took_theirs : (g : Gateway) (from now : ℕ) (frame : IpFrame) → IsTheirs g.channel → IsClient from → IsTheirs (took g from now frame).after.channel
took_theirs g from now ConnectRequest h client = connects_theirs g from now g.channel h client
took_theirs g from now (ConnectResponse channel status address) h client = h
took_theirs g from now (StateRequest channel) h client = either (names from channel g.channel) _ _ h h
took_theirs g from now (StateResponse channel status) h client = h
took_theirs g from now (DisconnectRequest channel) h client = either (names from channel g.channel) _ _ (closed_theirs g g.channel h) h
took_theirs g from now (DisconnectResponse channel status) h client = h
took_theirs g from now (TunnellingRequest channel number frame) h client = either (names from channel g.channel) _ _ (request_theirs g g.channel number frame h h) h
took_theirs g from now (TunnellingAck channel number status) h client = either (names from channel g.channel) _ _ (acknowledged_theirs g g.channel number status h h) h

gateway_theirs : (g : Gateway) (from now : ℕ) (frame : IpFrame) → IsTheirs g.channel → IsClient from → IsTheirs (gateway_took g from now frame).after.channel
unfolding gateway_took
gateway_theirs g from now frame h client = took_theirs (record g { channel = hears g.channel from now }) from now frame (heard_theirs g.channel from now h) client

-- ---- datagrams

abbrev AreTheirs : List Sent → Type 0
AreTheirs sent = AllByRecursion (λ (s : Sent). IsClient s.endpoint) sent

changed_theirs : (age : ℕ) (change : Sent → Sent) (sent : List Sent) → ((s : Sent) → IsClient s.endpoint → IsClient (change s).endpoint) → AreTheirs sent → AreTheirs (changed_at age change sent)
changed_theirs age change [] keep h = tt
changed_theirs zero change (s ∷ sent) keep h = (keep s h.0, h.1)
changed_theirs (suc age) change (s ∷ sent) keep h = (h.0, changed_theirs age change sent keep h.1)

got_theirs : (sent : List Sent) (age : ℕ) → AreTheirs sent → IfSome (slice_get sent age) (λ s. IsClient s.endpoint)
got_theirs [] age h = tt
got_theirs (s ∷ sent) zero h = h.0
got_theirs (s ∷ sent) (suc age) h = got_theirs sent age h.1

-- ---- what the gateway does

answered : (t : Tunnel) (to : ℕ) (o : Option IpFrame) → IsClient to → AreClients t → AreClients (sends_down_if t to o)
answered t to None client h = h
answered t to (Some frame) client h = record { up = h.up; down = (client, h.down); channel = h.channel }

taken_frame : (t : Tunnel) (from : ℕ) (o : Option IpFrame) → IsClient from → AreClients t → AreClients (takes_frame t from o)
taken_frame t from None client h = h
taken_frame t from (Some frame) client h = answered (with_gateway t (gateway_took t.gateway from t.now frame).after) from (gateway_took t.gateway from t.now frame).send client
    (record { up = h.up; down = h.down; channel = gateway_theirs t.gateway from t.now frame h.channel client })

taken : (t : Tunnel) (o : Option Sent) → IfSome o (λ s. IsClient s.endpoint) → AreClients t → AreClients (takes_sent t o)
taken t None client h = h
taken t (Some s) client h = taken_frame t s.endpoint (datagram_in s.octets) client h

refused : (t : Tunnel) (status : ℕ) (o : Option Sent) → IfSome o (λ s. IsClient s.endpoint) → AreClients t → AreClients (refuses t status o)
refused t status None client h = h
refused t status (Some s) client h = record { up = h.up; down = (client, h.down); channel = h.channel }

put : (t : Tunnel) (o : Option (Channel × Ldata)) → IfSome o (λ (p : Channel × Ldata). IsClient p.0.endpoint) → AreClients t → AreClients (puts t o)
put t None client h = h
put t (Some (c, frame)) client h = record { up = h.up; down = (client, h.down); channel = client }

next_theirs : (o : Option Channel) (frames : List Ldata) → IsTheirs o → IfSome (next_put o frames) (λ (p : Channel × Ldata). IsClient p.0.endpoint)
next_theirs None frames h = tt
next_theirs (Some c) [] h = tt
next_theirs (Some c) (frame ∷ frames) h = by_test (is_put c.outstanding)
  where
    by_test : (t : Bool) → IfSome {T = Channel × Ldata} (if t then None else Some (c, frame)) (λ (p : Channel × Ldata). IsClient p.0.endpoint)
    by_test true = tt
    by_test false = h

repeated_request : (t : Tunnel) (c : Channel) (o : Option Request) → IsClient c.endpoint → AreClients t → AreClients (repeats_request t c o)
repeated_request t c None client h = h
repeated_request t c (Some r) client h = record { up = h.up; down = (client, h.down); channel = client }

repeated : (t : Tunnel) (o : Option Channel) → IsTheirs o → AreClients t → AreClients (repeats t o)
repeated t None client h = h
repeated t (Some c) client h = repeated_request t c c.outstanding client h

closed : (t : Tunnel) (o : Option Channel) → IsTheirs o → AreClients t → AreClients (closes t o)
closed t None client h = h
closed t (Some c) client h = record { up = h.up; down = (client, h.down); channel = closed_theirs t.gateway t.gateway.channel h.channel }

-- ---- one event

abbrev IsTheirEvent : TunnelEvent → Type 0
IsTheirEvent (tunnel.Send octets) = ⊥
IsTheirEvent (tunnel.From endpoint octets) = IsClient endpoint
IsTheirEvent _ = Unit {0}

once_changed : (t : Tunnel) (age : ℕ) (change : Sent → Sent) → ((s : Sent) → IsClient s.endpoint → IsClient (change s).endpoint) → AreClients t → AreClients (with_up t (changed_at age change t.network.up))
once_changed t age change keep h = record { up = changed_theirs age change t.network.up keep h.up; down = h.down; channel = h.channel }

happened : (t : Tunnel) (e : TunnelEvent) → IsTheirEvent e → AreClients t → AreClients (after t e)
happened t (tunnel.Send octets) client h = absurd client
happened t (tunnel.From endpoint octets) client h = record { up = (client, h.up); down = h.down; channel = h.channel }
happened t tunnel.Renew client h = record { up = h.up; down = h.down; channel = h.channel }
happened t (tunnel.Up age) client h = taken (with_up t (changed_at age once_more t.network.up)) (slice_get t.network.up age) (got_theirs t.network.up age h.up) (once_changed t age once_more (λ s k. k) h)
happened t (tunnel.UpRefused age status) client h = refused (with_up t (changed_at age once_more t.network.up)) status (slice_get t.network.up age) (got_theirs t.network.up age h.up) (once_changed t age once_more (λ s k. k) h)
happened t (tunnel.Down age) client h = record { up = h.up; down = changed_theirs age once_more t.network.down (λ s k. k) h.down; channel = h.channel }
happened t (tunnel.LoseUp age) client h = once_changed t age gone (λ s k. k) h
happened t (tunnel.LoseDown age) client h = record { up = h.up; down = changed_theirs age gone t.network.down (λ s k. k) h.down; channel = h.channel }
happened t (tunnel.Carried confirmation) client h = record { up = h.up; down = h.down; channel = h.channel }
happened t (tunnel.Heard frames) client h = record { up = h.up; down = h.down; channel = h.channel }
happened t tunnel.Repeat client h = repeated t t.gateway.channel h.channel h
happened t tunnel.Close client h = closed t t.gateway.channel h.channel h
happened t (tunnel.Pass ms) client h = record { up = h.up; down = h.down; channel = h.channel }
happened t tunnel.Elsewhere client h = h

-- ---- of the line

-- the endpoint that a client sends from is its number
abbrev pub IsFromClient : Event → Type 0
IsFromClient (From endpoint octets) = IsClient endpoint
IsFromClient _ = Unit {0}

-- the line's own events come from no client
pub own_event : (e : Event) → is_clients e ≡ false → IsFromClient e
own_event (From endpoint octets) own = cc
own_event e own = tt

carried_theirs : (w : World) (left_out : List ℕ) (o : Option Ldata) → IsTheirEvent (carried w left_out o)
carried_theirs w left_out None = tt
carried_theirs w left_out (Some frame) = tt

heard_event : (at : AtGateway) (o : Option Ldata) → IsTheirEvent (heard at o)
heard_event Comes None = tt
heard_event Comes (Some frame) = tt
heard_event IsLost o = tt

their_event : (w : World) (e : Event) → MayHappen tunnel.Serves w e → IsFromClient e → IsTheirEvent (tunnel_event w e)
their_event w (Send octets) may client = may.tunnel
their_event w (From endpoint octets) may client = client
their_event w (Bus left_out) may client = carried_theirs w left_out (next_frame w)
their_event w (BusTorn fresh octets) may client = carried_theirs w [] (next_frame w)
their_event w (BusWorn octets) may client = carried_theirs w [] (next_frame w)
their_event w (DevSend device gateway left_out) may client = heard_event gateway (waiting_at w device)
their_event w (DevRepeat device gateway) may client = heard_event gateway (repeat_at w device)
their_event w GwAgain may client = heard_event Comes w.echo
their_event w e may client = tt

next_put_theirs : (t : Tunnel) → AreClients t → AreClients (puts_next t)
next_put_theirs t h = put t (next_put t.gateway.channel t.gateway.waiting) (next_theirs t.gateway.channel t.gateway.waiting h.channel) h

pub stay_numbered : (clients : Clients) (w : World) (e : Event) → MayHappen (mode_of clients) w e → IsFromClient e → AreNumbered clients w.tunnel → AreNumbered clients (step w e).tunnel
stay_numbered One w e may client h = tt
stay_numbered Any w e may client h = next_put_theirs (after w.tunnel (tunnel_event w e)) (happened w.tunnel (tunnel_event w e) (their_event w e may client) h)

-- ---- what goes down

of_sent : (o : Option Sent) (to : ℕ) → IfSome o (λ s. IsClient s.endpoint) → OfSent (λ s. s.endpoint ≡ to) o → IsClient to
of_sent None to h e = absurd e
of_sent (Some s) to h e = subst IsClient e h

pub down_numbered : (clients : Clients) (t : Tunnel) (age to : ℕ) → AreNumbered clients t → OfSent (λ s. s.endpoint ≡ to) (slice_get t.network.down age) → IsNumber clients to
down_numbered One t age to h e = tt
down_numbered Any t age to h e = of_sent (slice_get t.network.down age) to (got_theirs t.network.down age h.down) e

-- ---- how it begins

pub begin_numbered : (clients : Clients) (address : IndAddr) → AreNumbered clients (fresh address)
begin_numbered One address = tt
begin_numbered Any address = record { up = tt; down = tt; channel = tt }
