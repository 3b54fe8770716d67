-- What contracts see of a hub's jobs is what its downloaders were made of.
use Rattle.std.proofs.Common.{◌≡◌, ℕ, List, [], ◌∷◌, map, Option, refl, sym, ap, ◌∙◌}
use Rattle.line_model.specs.declared.fault.HubFault.{HubFault}
use Rattle.download_core.specs.Keeps.{Known}
use Rattle.tunnel_link.specs.declared.known.Known.{Known as TunnelKnown}
use Rattle.hub_work.specs.declared.work.Work.{Work}
use Rattle.hub_work.specs.Downloaders.{states, task_of_state, task_of_hub_job}
use Rattle.hub_work.specs.Works.{SameRun as SameWorkRun, tasks}
use Rattle.hub_work.proofs.Crews.{as_many}
use Rattle.hub_core.specs.Taking.{SameWork}
use Rattle.hub_core.specs.Seen.{Seen, SameRun, hub_job_of, tasks_seen}

seen_of : (ds : List Known) → tasks_seen (map hub_job_of ds) ≡ map task_of_state (states ds)
seen_of [] = refl
seen_of (d ∷ ds) = ap (λ z. task_of_hub_job (hub_job_of d) ∷ z) (seen_of ds)

pub seen_tasks : (w : Work) → tasks_seen (map hub_job_of w.downloaders) ≡ tasks w
seen_tasks w = seen_of w.downloaders

pub tasks_stay : (w v : Work) → tasks v ≡ tasks w → tasks_seen (map hub_job_of v.downloaders) ≡ tasks_seen (map hub_job_of w.downloaders)
tasks_stay w v e = seen_tasks v ∙ (e ∙ sym (seen_tasks w))

-- ---- the same run

abbrev pub seen : {L : Type 0} → L → TunnelKnown → Work → Option HubFault → ℕ → Seen L
seen link known w fault missed = record { link = link; known = known; jobs = map hub_job_of w.downloaders; devices = w.reservation.devices; crew = w.crew; turns = w.telegrams.turns; log = w.journal.entries; fault = fault; closing = w.closing; missed = missed }

pub same_run : {L : Type 0} (l m : L) (c d : TunnelKnown) (w v : Work) (f g : Option HubFault) (x : ℕ) → SameWork w v → SameRun (seen l c w f x) (seen m d v g x)
same_run l m c d w v f g x s = record { tasks = tasks_stay w v s.tasks_are; devices = ap (λ r. r.devices) s.reservation; turns = s.turns; workers = as_many w.crew v.crew s.held; missed = refl }

pub work_run : {L : Type 0} (l m : L) (c d : TunnelKnown) (w v : Work) (f g : Option HubFault) (x : ℕ) → SameWorkRun w v → SameRun (seen l c w f x) (seen m d v g x)
work_run l m c d w v f g x s = record { tasks = tasks_stay w v s.tasks_are; devices = s.devices; turns = s.turns; workers = s.workers; missed = refl }
