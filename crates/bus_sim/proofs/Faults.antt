-- Where a call of a port failed, the line's counts stay.
use Rattle.std.proofs.Common.{◌≡◌, ℕ, inl}
use Rattle.line_model.specs.declared.outside.fault_counts.FaultCounts.{FaultCounts}
use Rattle.line_model.specs.declared.outside.port.PortFault.{PortFault}
use Rattle.line_model.specs.declared.outside.port.PortFault.TheVariants as fault
use Rattle.line_model.specs.PortStory.{after_port_fault}
use Rattle.bus_sim.specs.RunNow.{RunNow}
use Rattle.bus_sim.specs.Serving.{FailsAt}

pub port_failed : (why : PortFault) (before after : ℕ) (line line' : FaultCounts) (r : RunNow) → after ≡ after_port_fault why before → line' ≡ line → FailsAt why before after line line' r
port_failed (fault.NoMemory want) before after line line' r is same = (is, same)
port_failed fault.Failed before after line line' r is same = inl (is, same)
