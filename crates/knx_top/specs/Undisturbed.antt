-- A run that nothing disturbs: its script has no lines but those of group telegrams and of standard devices, and the device of each job is on the line, in
-- one of the projects. In such a run nothing fails: time passes only where nothing is awaited, no job fails, and no group telegram is lost. A job is
-- refused only where its device, with what it kept when the job was taken, doesn't give each answer that is wanted. It isn't broken off but for want of memory,
-- by a flood of datagrams where a group telegram asks for values, or at the last time of 64 bits. Else each load was told done, each check done exactly where an earlier job loads its device or its
-- device began with the new image, and else refused, and each group telegram sent.
use Rattle.std.specs.Prelude.{◌≡◌, ◌≢◌, ◌⊎◌, ℕ, true, false, List, Option, Some, None}
use Rattle.std.specs.List.{AllByRecursion}
use Rattle.bus_sim.specs.Ended.{IsAtEnd}
use Rattle.bus_sim.specs.RunNow.{RunNow, start}
use Rattle.knx_model.specs.declared.script.ScriptLine.{ScriptLine}
use Rattle.knx_model.specs.Meaning.{Installation}
use Rattle.line_model.specs.declared.fault.HubFault.{HubFault}
use Rattle.line_model.specs.declared.fault.HubFault.TheVariants.{NoMemory, LinkFailed, GatewayRefused, Flooded, WrongLine}
use Rattle.line_model.specs.declared.group.GroupTurn.{GroupTurn}
use Rattle.line_model.specs.declared.log.LogEntry.{LogEntry}
use Rattle.line_model.specs.declared.log.LogWhat.TheVariants.{Sent}
use Rattle.line_model.specs.Faults.{IsFlooded}
use Rattle.line_model.specs.Lines.{script_of}
use Rattle.line_model.specs.Log.{Job, job_of, turn_of}
use Rattle.line_model.specs.Record.{record_of}
use Rattle.line_model.specs.StartOf.{is_on_bus}
use Rattle.line_model.specs.Undisturbed as line
use Rattle.line_model.specs.Undisturbed.{IsPrompt, RefusesRightly}
use Rattle.line_model.specs.World.{World}
use Rattle.calm_law.specs.CalmChecks.{RunsByThen}
use Rattle.calm_law.specs.CalmCounts.{some_reads}
use Rattle.calm_law.specs.CalmEnds.{Told, IsToldDone, IsToldRefused}

-- ---- the script and the projects

pub record IsUndisturbed (project before : Installation) (script : List ScriptLine) (jobs : List Job) : Type 0 where
  pub says : line.IsUndisturbed (script_of script)
  pub devices : AllByRecursion (λ (job : Job). is_on_bus project before job.device.raw ≡ true) jobs

-- ---- what comes of it

pub record AllServed (jobs : List Job) (turns : List GroupTurn) (start : World) (log : List LogEntry) : Type 0 where
  pub loads : (k : ℕ) (job : Job) → job_of jobs k ≡ Some job → job.loads ≡ true → IsToldDone k log
  pub checks : (k : ℕ) (job : Job) → job_of jobs k ≡ Some job → job.loads ≡ false → (IsToldDone k log × RunsByThen jobs start k job) ⊎ (IsToldRefused k log × ¬ RunsByThen jobs start k job)
  pub telegrams : (k : ℕ) → turn_of turns k ≢ None → Told (λ what. what ≡ Sent k) log

-- so many datagrams came, while a job had no end, that it is given up; and some group telegram asks for a value
abbrev pub FloodsSo : List Job → List GroupTurn → RunNow → List LogEntry → Type 0
FloodsSo jobs turns r log = (some_reads turns ≡ true) × IsFlooded jobs log (record_of (start r) r.events)

-- how it ends: all is served; or there was no memory, or it was flooded so; or the link failed at the last time
abbrev pub EndsSo : List Job → List GroupTurn → RunNow → List LogEntry → Option HubFault → Type 0
EndsSo jobs turns r log None = AllServed jobs turns (start r) log
EndsSo jobs turns r log (Some (NoMemory want)) = Unit {0}
EndsSo jobs turns r log (Some Flooded) = FloodsSo jobs turns r log
EndsSo jobs turns r log (Some LinkFailed) = IsAtEnd r
EndsSo jobs turns r log (Some (GatewayRefused tries)) = ⊥
EndsSo jobs turns r log (Some (WrongLine device tunnel)) = ⊥

pub record NothingFails (jobs : List Job) (turns : List GroupTurn) (r : RunNow) (log : List LogEntry) (fault : Option HubFault) : Type 0 where
  pub prompt : IsPrompt jobs (start r) log r.events
  pub refuses : RefusesRightly jobs (start r) r.events log
  pub ends : EndsSo jobs turns r log fault
