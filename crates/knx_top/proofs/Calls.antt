-- The commands: what one does, with what is written of its end, and what follows of that. A file for each leads from what was read to how the call ends.
pub mod Assigns
pub mod Bigs
pub mod Decodes
pub mod Downloads
pub mod Finds
pub mod Gateways
pub mod Migrates
pub mod Sims
use Rattle.std.proofs.Common.{◌≡◌, true, false, Option, Some, None, ◌⊎◌}
use Rattle.knx_top.specs.commands.{Assign, AssignSim, Big, Check, Command, Decode, Does, Download, Find, Gateway, Migrate, Outside, Sim, Tables, begins_run, left_in}
use Rattle.call_parts.specs.declared.ending.End.{End}
use Rattle.call_parts.specs.Ending.{Is, wanting}
use Rattle.knx_top.proofs.Calls.Assigns.{assign_sim_written, assign_written}
use Rattle.knx_top.proofs.Calls.Bigs.{made_written}
use Rattle.knx_top.proofs.Calls.Downloads.{dialled_written}
use Rattle.knx_top.proofs.Calls.Decodes.{frame_written}
use Rattle.knx_top.proofs.Calls.Finds.{find_written}
use Rattle.knx_top.proofs.Calls.Gateways.{gateway_written}
use Rattle.call_parts.proofs.Projects.{project_written}
use Rattle.knx_top.proofs.Calls.Sims.{script_written}
use Rattle.knx_top.specs.commands.check.{IsCountsText}
use Rattle.knx_top.specs.commands.migrate.{IsMigratedText}
use Rattle.knx_top.specs.commands.tables.{IsTablesText}

-- ---- what was done, and then written

pub written : (command : Command) (before after : Outside) (end : End) (Replied : End → Type 0) → Does (Some command) before after (Is end) → Replied end ⊎ Replied (wanting end) → Does (Some command) before after Replied
written (Check words) before after end Replied does replied = (project_written IsCountsText words before.files after.files end Replied does.0 replied, does.1)
written (Tables words) before after end Replied does replied = (project_written IsTablesText words before.files after.files end Replied does.0 replied, does.1)
written (Migrate words) before after end Replied does replied = (project_written IsMigratedText words before.files after.files end Replied does.0 replied, does.1)
written (Sim words) before after end Replied does replied = (script_written words before.files after.files before.line (left_in after) end Replied does.0 replied, does.1)
written (Decode word) before after end Replied does replied = (frame_written word end Replied does.0 replied, does.1, does.2)
written (Download words) before after end Replied does replied = (dialled_written words before.files after.files before.dialer after.dialer after.report end Replied does.0 replied, does.1)
written (Gateway words) before after end Replied does replied = (gateway_written words before.files after.files before.dialer after.dialer before.line after.line end Replied does.0 replied, does.1)
written (Find words) before after end Replied does replied = (find_written words before.dialer after.dialer end Replied does.0 replied, does.1, does.2)
written (Assign words) before after end Replied does replied = (assign_written words before.dialer after.dialer end Replied does.0 replied, does.1, does.2)
written (AssignSim words) before after end Replied does replied = (assign_sim_written words before.files after.files before.units after.units end Replied does.0 replied, does.1)
written (Big words) before after end Replied does replied = (made_written words before.line (left_in after) end Replied does.0 replied, does.1, does.2)

-- ---- what follows of the whole call

-- a command that begins no run reports none
pub no_run_of : (command : Option Command) (before after : Outside) (Replied : End → Type 0) → Does command before after Replied → begins_run command ≡ false → after.report ≡ None
no_run_of None before after Replied does untouched = does.2.report
no_run_of (Some (Check words)) before after Replied does untouched = does.1.report
no_run_of (Some (Tables words)) before after Replied does untouched = does.1.report
no_run_of (Some (Migrate words)) before after Replied does untouched = does.1.report
no_run_of (Some (Sim words)) before after Replied does untouched = absurd (let e : true ≡ false = untouched in cc)
no_run_of (Some (Decode word)) before after Replied does untouched = does.2.report
no_run_of (Some (Download words)) before after Replied does untouched = absurd (let e : true ≡ false = untouched in cc)
no_run_of (Some (Gateway words)) before after Replied does untouched = does.1
no_run_of (Some (Find words)) before after Replied does untouched = does.2.report
no_run_of (Some (Assign words)) before after Replied does untouched = does.2.report
no_run_of (Some (AssignSim words)) before after Replied does untouched = does.1.report
no_run_of (Some (Big words)) before after Replied does untouched = absurd (let e : true ≡ false = untouched in cc)
