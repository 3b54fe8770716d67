-- The frame is that of the arm, and what is done about it doesn't depend on the time.
use Rattle.tunnel_gateway.proofs.end.GatewayEnd.act.Goals as goal

pub returns-in-StateRequest : goal.returns-in-StateRequest
returns-in-StateRequest c = rw c.in-StateRequest.is (c.state_request.ensures c.args.now)

pub returns-in-DisconnectRequest : goal.returns-in-DisconnectRequest
returns-in-DisconnectRequest c = rw c.in-DisconnectRequest.is (c.disconnect.ensures c.args.now)

pub returns-in-TunnellingRequest : goal.returns-in-TunnellingRequest
returns-in-TunnellingRequest c = rw c.in-TunnellingRequest.is (c.request.ensures c.args.now)

pub returns-in-TunnellingAck : goal.returns-in-TunnellingAck
returns-in-TunnellingAck c = rw c.in-TunnellingAck.is (c.ack.ensures c.args.now)
