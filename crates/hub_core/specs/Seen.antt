-- What contracts see of a hub: its link, what its end of the tunnel knows, its jobs, by device and plan, their devices, what each worker holds and how
-- much of what came for it waits, its group telegrams, its log, the newest entry first, why it has ended, how far its closing is, and how many
-- indications were counted as missed. After a fault each later call answers that fault, and the link stays as it is.
use Rattle.std.specs.Prelude.{◌≡◌, ℕ, List, length, map, Option, Some, None, Result, Err}
use Rattle.knx_model.specs.declared.address.IndAddr.{IndAddr}
use Rattle.line_model.specs.declared.fault.HubFault.{HubFault}
use Rattle.line_model.specs.declared.group.GroupTurn.{GroupTurn}
use Rattle.line_model.specs.declared.log.LogEntry.{LogEntry}
use Rattle.line_model.specs.Log.{Job}
use Rattle.download_core.specs.Keeps.{Known}
use Rattle.tunnel_link.specs.declared.known.Known.{Known as TunnelKnown}
use Rattle.hub_work.specs.declared.closing.Closing.{Closing}
use Rattle.hub_work.specs.declared.crew.Held.{Held}
use Rattle.hub_work.specs.declared.job.HubJob.{HubJob}
use Rattle.hub_work.specs.Downloaders.{Task, task_of_hub_job, AreJobsWith}

pub record Seen (L : Type 0) : Type 0 where
  pub link : L
  pub known : TunnelKnown
  pub jobs : List HubJob
  pub devices : List IndAddr
  pub crew : List (Option Held)
  pub turns : List GroupTurn
  pub log : List LogEntry
  pub fault : Option HubFault
  pub closing : Option Closing
  pub missed : ℕ

-- the job that a downloader is of
abbrev pub hub_job_of : Known → HubJob
hub_job_of d = record { device = d.device; plan = d.plan }

abbrev pub tasks_seen : List HubJob → List Task
tasks_seen jobs = map task_of_hub_job jobs

-- jobs with the devices and plans of these, whatever their images and kinds are
abbrev pub AreJobs : List HubJob → List Job → Type 0
AreJobs hub_jobs jobs = AreJobsWith (tasks_seen hub_jobs) jobs

-- the same jobs, the same group telegrams and as many workers, and no indication more is counted as missed
pub record SameRun {L : Type 0} (old new : Seen L) : Type 0 where
  pub tasks : tasks_seen new.jobs ≡ tasks_seen old.jobs
  pub devices : new.devices ≡ old.devices
  pub turns : new.turns ≡ old.turns
  pub workers : length new.crew ≡ length old.crew
  pub missed : new.missed ≡ old.missed

-- a call of a hub that had this fault before, its answer, the fault after it, and that its link stayed as it was
abbrev pub StaysEnded : {X : Type 0} → Option HubFault → Result X HubFault → Option HubFault → Type 0 → Type 0
StaysEnded None result after stayed = Unit {0}
StaysEnded (Some fault) result after stayed = (result ≡ Err fault) × (after ≡ Some fault) × stayed
