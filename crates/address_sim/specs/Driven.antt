-- The simulated bus as it is driven: its run, and how many of its calls failed, which is none before its clock runs out, or found no memory.
use Rattle.std.specs.Prelude.{◌≡◌, ◌⊎◌, ◌+◌, ◌<◌, ◌^◌, ℕ, [], Option, Some, None, Result, IfErr}
use Rattle.knx_model.specs.Connection.{last_time}
use Rattle.line_model.specs.declared.outside.link.LinkFault.{LinkFault}
use Rattle.line_model.specs.declared.outside.link.LinkFault.TheVariants as fault
use Rattle.line_model.specs.declared.outside.fault_counts.FaultCounts.{FaultCounts}
use Rattle.address_sim.specs.Told.{RunNow, time}
use Rattle.address_sim.specs.Turns.{RunState, seen}

pub record BusNow : Type 0 where
  pub run : RunNow
  pub faults : FaultCounts

-- before a text is loaded: the tunnel 1.1.255, and no units
abbrev pub nothing_run : RunNow
nothing_run = record { begun = record { tunnel = record { raw = 0x11FF }; units = []; losses = [] }; events = [] }

abbrev pub bus_of : Option RunState → RunNow
bus_of None = nothing_run
bus_of (Some r) = seen r

-- ---- its end: the greatest time of 64 bits, 584 million years after it began

-- a wait may pass that: one is shorter than 2^32 ms
abbrev pub RunsOut : RunNow → Type 0
RunsOut r = last_time < time r + 2 ^ 32

-- so many calls of the run failed: none before its end
abbrev pub FailsAtEnd : ℕ → RunNow → Type 0
FailsAtEnd failed r = (failed ≡ 0) ⊎ RunsOut r

-- so many failed and so many found no memory: none failed before its end, but behind one that found no memory, where each does
abbrev pub FailsForCause : FaultCounts → RunNow → Type 0
FailsForCause faults r = (0 < faults.wanting) ⊎ FailsAtEnd faults.failed r

-- and a call fails otherwise than for want of memory only there
abbrev pub FailsOut : {X : Type 0} → Result X LinkFault → RunNow → Type 0
FailsOut result r = IfErr result (λ why. why ≡ fault.Failed → RunsOut r)
