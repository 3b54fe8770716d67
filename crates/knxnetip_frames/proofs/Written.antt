-- What is written is read as the frame that was written.
use Rattle.std.proofs.Common.{Some, None, arith}
use Rattle.std.proofs.lemmas.Grind.{common_steps}
use Rattle.knx_model.specs.declared.frames.ip.IpFrame.{IpFrame}
use Rattle.knx_model.specs.declared.frames.ip.IpFrame.TheVariants.{ConnectRequest, ConnectResponse, StateRequest, StateResponse, DisconnectRequest, DisconnectResponse, TunnellingRequest, TunnellingAck}
use Rattle.knx_model.specs.KnxNetIp.{Reads, Written, IsInRange}

pub written_reads : (frame : IpFrame) → IsInRange frame → Reads (Written frame) frame
written_reads ConnectRequest h = grind (arith, common_steps)
written_reads (ConnectResponse channel status None) h = grind (arith, common_steps)
written_reads (ConnectResponse channel status (Some address)) h = grind (arith, common_steps)
written_reads (StateRequest channel) h = grind (arith, common_steps)
written_reads (StateResponse channel status) h = grind (arith, common_steps)
written_reads (DisconnectRequest channel) h = grind (arith, common_steps)
written_reads (DisconnectResponse channel status) h = grind (arith, common_steps)
written_reads (TunnellingRequest channel number cemi) h = grind (arith, common_steps)
written_reads (TunnellingAck channel number status) h = grind (arith, common_steps)
