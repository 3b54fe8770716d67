-- What a simulated line is seen as: its run, and how many calls of it failed or found no memory. Why a run isn't loaded: a line of the script names a device that
-- isn't listed, and the first such line is told; or there was no memory.
use Rattle.std.specs.Prelude.{◌≡◌, ◌⊎◌, [], Option, Some, None}
use Rattle.knx_model.specs.declared.refusal.Refused.{Refused}
use Rattle.knx_model.specs.declared.refusal.Why.{Why}
use Rattle.knx_model.specs.declared.refusal.Why.TheVariants.{NoMemory}
use Rattle.knx_model.specs.ScriptText.{first_stranger}
use Rattle.line_model.specs.declared.outside.fault_counts.FaultCounts.{FaultCounts}
use Rattle.bus_sim.specs.declared.beginning.Beginning.{Beginning}
use Rattle.bus_sim.specs.declared.bus.Prepared.{Prepared}
use Rattle.bus_sim.specs.declared.bus.Prepared.TheVariants.{Begins, Stranger}
use Rattle.bus_sim.specs.Begun.{addresses, nothing_loaded}
use Rattle.bus_sim.specs.RunNow.{RunNow, RunState, seen}

pub record BusNow : Type 0 where
  pub run : RunNow
  pub faults : FaultCounts  -- how many calls of the run failed and, as a link, how many found no memory

-- before a run is loaded nothing has happened on a line without devices
abbrev pub nothing_run : RunNow
nothing_run = record { begun = nothing_loaded; events = [] }

abbrev pub bus_of : Option RunState → RunNow
bus_of None = nothing_run
bus_of (Some r) = seen r

-- want of memory is told of line 0; else the refusal is of the first line that names a stranger
abbrev pub IsWant : Refused → Why → Type 0
IsWant r (NoMemory want) = r.line ≡ 0
IsWant r _ = ⊥

-- the first stranger, or want of memory
abbrev pub IsRefusedFor : Option Refused → Refused → Type 0
IsRefusedFor stranger r = (stranger ≡ Some r) ⊎ IsWant r r.why

-- what was prepared: a run that can begin, or the refusal of the first line that names a stranger
abbrev pub PreparedSo : Prepared → Beginning → Type 0
PreparedSo (Begins run) b = (seen run ≡ record { begun = b; events = [] }) × (first_stranger (addresses b.devices) b.script ≡ None)
PreparedSo (Stranger refused) b = first_stranger (addresses b.devices) b.script ≡ Some refused
