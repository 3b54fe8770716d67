-- That want of memory has its cause always; and that what is told of a run is told of the same jobs and group telegrams.
use Rattle.std.proofs.Common.{◌≡◌, ℕ, List, Option, Some, None, subst}
use Rattle.knx_model.specs.declared.address.IndAddr.{IndAddr}
use Rattle.line_model.specs.declared.fault.HubFault.TheVariants.{NoMemory}
use Rattle.line_model.specs.declared.group.GroupTurn.{GroupTurn}
use Rattle.line_model.specs.declared.log.LogEntry.{LogEntry}
use Rattle.line_model.specs.declared.log.Report.{Report}
use Rattle.line_model.specs.LinkStory.{Story}
use Rattle.line_model.specs.Log.{Job}
use Rattle.line_model.specs.Record.{Entry}
use Rattle.hub_work.specs.Downloaders.{Task}
use Rattle.hub_core.specs.Commissioned.{TellsRun}
use Rattle.hub_core.specs.Promises.{FaultRightIn}

-- want of memory has its cause always
pub no_memory : (jobs : List Job) (log : List LogEntry) (r : Option (List Entry)) → FaultRightIn jobs log (Some (NoMemory tt)) r
no_memory jobs log None = tt
no_memory jobs log (Some r) = tt

pub told_for : (workers : ℕ) (tasks others : List Task) (devices same : List IndAddr) (turns groups : List GroupTurn) (story : Story) (place : ℕ) (report : Report) → tasks ≡ others → devices ≡ same → turns ≡ groups
    → TellsRun workers tasks devices turns story place report → TellsRun workers others same groups story place report
told_for workers tasks others devices same turns groups story place report tasks_are devices_are turns_are tells =
    subst (λ (ts : List Task). TellsRun workers ts same groups story place report) tasks_are
    (subst (λ (ds : List IndAddr). TellsRun workers tasks ds groups story place report) devices_are (subst (λ (gs : List GroupTurn). TellsRun workers tasks devices gs story place report) turns_are tells))
