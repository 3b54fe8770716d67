-- The identifiers of the services that are read (ISO 22510, Core and Tunnelling).
use Rattle.std.specs.Prelude.{ℕ}
use Rattle.knxnetip_frames.specs.declared.service.Service.{Service}
use Rattle.knxnetip_frames.specs.declared.service.Service.TheVariants.{ConnectRequest, ConnectResponse, StateRequest, StateResponse, DisconnectRequest, DisconnectResponse, TunnellingRequest, TunnellingAck}

abbrev pub identifier_of : Service → ℕ
identifier_of ConnectRequest = 0x0205
identifier_of ConnectResponse = 0x0206
identifier_of StateRequest = 0x0207
identifier_of StateResponse = 0x0208
identifier_of DisconnectRequest = 0x0209
identifier_of DisconnectResponse = 0x020A
identifier_of TunnellingRequest = 0x0420
identifier_of TunnellingAck = 0x0421
