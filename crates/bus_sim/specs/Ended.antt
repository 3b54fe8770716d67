-- Where a run ends: at the last time that 64 bits can tell, 2^64 - 1 ms after it began, which is 584 million years. Until then a call of the simulated line
-- fails only for want of memory, or behind a call that failed; and a run that serves clients at a port is no link.
use Rattle.std.specs.Prelude.{◌≡◌, ◌⊎◌, ◌<◌, ℕ}
use Rattle.knx_model.specs.Connection.{last_time}
use Rattle.line_model.specs.declared.outside.fault_counts.FaultCounts.{FaultCounts}
use Rattle.bus_sim.specs.declared.clients.Clients.TheVariants.{Any}
use Rattle.bus_sim.specs.declared.stopped.Stopped.{Stopped}
use Rattle.bus_sim.specs.declared.stopped.Stopped.TheVariants.{NoMemory, AtEnd, Serves}
use Rattle.bus_sim.specs.RunNow.{RunNow, time}

abbrev pub IsAtEnd : RunNow → Type 0
IsAtEnd r = time r ≡ last_time

-- the run serves clients at a port
abbrev pub IsServing : RunNow → Type 0
IsServing r = r.begun.clients ≡ Any

-- why a call of the run as a link stopped
abbrev pub StopsFor : Stopped → RunNow → Type 0
StopsFor (NoMemory want) r = Unit {0}
StopsFor AtEnd r = IsAtEnd r
StopsFor Serves r = IsServing r

-- so many calls of the run as a link or its serving failed: none before its end
abbrev pub FailsAtEnd : ℕ → RunNow → Type 0
FailsAtEnd faults r = (faults ≡ 0) ⊎ (IsAtEnd r ⊎ IsServing r)

-- so many failed and so many found no memory: none failed before its end, but behind one that found no memory, where each does
abbrev pub FailsForCause : FaultCounts → RunNow → Type 0
FailsForCause faults r = (0 < faults.wanting) ⊎ FailsAtEnd faults.failed r
