-- A run over a dialled link, once it was handed back.
use Rattle.std.proofs.Common.{◌≡◌, ◌⊎◌, inl, inr, List, [], map, Option, Some, None, refl, sym, ap, subst, ◌∙◌, ℕ}
use Rattle.std.specs.List.{AllByRecursion}
use Rattle.hub_work.specs.declared.job.HubJob.{HubJob}
use Rattle.hub_core.specs.Commissioned.{TellsRun, WantsAtFirst, log_of}
use Rattle.hub_core.specs.Promises.{IsRightOver}
use Rattle.hub_core.specs.Seen.{tasks_seen}
use Rattle.call_words.specs.declared.job_word.JobWord.{JobWord}
use Rattle.knx_model.specs.Outside.{one_more}
use Rattle.knx_model.specs.Meaning.{Installation}
use Rattle.line_model.specs.declared.fault.HubFault.{HubFault}
use Rattle.line_model.specs.declared.fault.HubFault.TheVariants as fault
use Rattle.line_model.specs.declared.log.LogEntry.{LogEntry}
use Rattle.line_model.specs.declared.log.Report.{Report}
use Rattle.line_model.specs.declared.group.GroupTurn.{GroupTurn}
use Rattle.line_model.specs.declared.outside.fault_counts.FaultCounts.{FaultCounts}
use Rattle.line_model.specs.Polled.{after_fault, none_failed}
use Rattle.line_model.specs.Dialled.{Address, DialerNow, Tells, with_link}
use Rattle.line_model.specs.Headline.{IsGoodJob}
use Rattle.line_model.specs.LinkStory.{IsNewLink, Story, Untold, Recorded, Full}
use Rattle.line_model.specs.Log.{Job}
use Rattle.knx_top.specs.Dialled.{CountsDialled, MeansOver}
use Rattle.call_parts.specs.Jobs.{ArePlanned, seen_job}
use Rattle.call_parts.specs.declared.options.SimOptions.{SimOptions}
use Rattle.call_parts.specs.Options.{workers_of}
use Rattle.knx_top.specs.Ran.{HasThreeTries, IsToldOver}
use Rattle.knx_top.specs.declared.commands.download.Ready.{Ready}
use Rattle.knx_top.proofs.Driven.{told_of}
use Rattle.knx_top.proofs.Meanings.{devices_mean, done_means}
use Rattle.call_parts.specs.declared.ending.End.TheVariants as ends
use Rattle.knx_top.specs.commands.download.{DialledRun, Dials, Download, IsReadyFor}

-- ---- the dialer's counts take in the link's

-- of a link of which no call had failed before
taken : (told : Option HubFault) (counts : FaultCounts) → with_link (after_fault told none_failed) counts ≡ after_fault told counts
taken None counts = refl
taken (Some (fault.NoMemory want)) counts = refl
taken (Some fault.LinkFailed) counts = refl
taken (Some (fault.GatewayRefused tries)) counts = refl
taken (Some fault.Flooded) counts = refl
taken (Some (fault.WrongLine device tunnel)) counts = refl

module _ {L : Type 0} (story_of : L → Story) (faults_of : L → FaultCounts) (began line : L) (report : Report) (none : faults_of began ≡ none_failed) (new : IsNewLink (story_of began)) where
  -- on a link that was new, and is as it was, nothing was done
  pub taken_back : (before after : DialerNow) → after.link_back ≡ story_of line → after.counts ≡ with_link (faults_of line) before.counts → (faults_of line ≡ after_fault report.fault (faults_of began)) ⊎ (WantsAtFirst report × (line ≡ began))
      → CountsDialled report before after
  taken_back before after back counts (inl so) =
      inl (counts ∙ ap (λ (n : FaultCounts). with_link n before.counts) (so ∙ ap (after_fault report.fault) none) ∙ taken report.fault before.counts)
  taken_back before after back counts (inr first) =
      inr (first.0, subst IsNewLink (sym back) (subst (λ l. IsNewLink (story_of l)) (sym first.1) new), counts ∙ ap (λ (n : FaultCounts). with_link n before.counts) (ap faults_of first.1 ∙ none))

-- ---- by what the project says

pub means_over : (project : Installation) (jobs : List Job) (words : List JobWord) (story : Story) (log : List LogEntry) → ArePlanned project jobs words → IsRightOver jobs story log → MeansOver project jobs story log
means_over project jobs words Untold log planned right = tt
means_over project jobs words (Recorded clock r) log planned right = tt
means_over project jobs words (Full start events) log planned right = (devices_mean project jobs words start events log planned right.devices, done_means project jobs words start events log planned right.done)

-- ---- the run

pub told_over : (workers : ℕ) (plans : List HubJob) (groups : List GroupTurn) (after : Story) (place : ℕ) (report : Report) → groups ≡ [] → AllByRecursion IsGoodJob (map seen_job plans)
    → TellsRun workers (tasks_seen plans) (map (λ (job : HubJob). job.device) plans) groups after place report → HasThreeTries report.fault → IsToldOver workers [] (map seen_job plans) after report
told_over workers plans groups after place report none good tells tries =
    subst (λ (turns : List GroupTurn). IsToldOver workers turns (map seen_job plans) after report) none (told_of workers plans groups after place report good tells tries)

pub to_address : (one other : Address) (given : Option Address) → one ≡ other → Tells other.host other.port given → Tells one.host one.port given
to_address one other given same tells = subst (λ (at : Address). Tells at.host at.port given) (sym same) tells

dialled : (d : Download) (ready : Ready) (before after : DialerNow) (report : Report) → IsReadyFor d ready → Tells d.at.host d.at.port after.given → after.dials ≡ one_more before.dials → IsToldOver (workers_of d.options) [] (map seen_job ready.plans) after.link_back report
    → CountsDialled report before after → DialledRun d before after report ready.jobs
dialled d ready before after report is given once told counts = record {
  given = given;
  once = once;
  words_are = is.prepared.jobs;
  jobs = map seen_job ready.plans;
  planned = is.prepared.plans;
  told = rw (is.workers, is.turns) told;
  means = means_over d.project (map seen_job ready.plans) ready.jobs after.link_back (log_of report) is.prepared.plans told.right;
  counts = counts;
}

-- a dial that gave a link has counted nothing
since_dialled : (report : Report) (counts : FaultCounts) (before after : DialerNow) → counts ≡ before.counts → (after.counts ≡ after_fault report.fault counts) ⊎ (WantsAtFirst report × IsNewLink after.link_back × (after.counts ≡ counts)) → CountsDialled report before after
since_dialled report counts before after same (inl so) = inl (so ∙ ap (after_fault report.fault) same)
since_dialled report counts before after same (inr first) = inr (first.0, first.1, first.2 ∙ same)

-- the gateway was reached: a dial gave a link, and the run over it told this
pub reached : (d : Download) (ready : Ready) (at : Address) (options : SimOptions) (given : Option Address) (counts : FaultCounts) (before after : DialerNow) (report : Report) → IsReadyFor d ready → d.at ≡ at → d.options ≡ options
    → Tells at.host at.port given → after.given ≡ given → after.dials ≡ one_more before.dials → IsToldOver (workers_of options) [] (map seen_job ready.plans) after.link_back report → counts ≡ before.counts → (after.counts ≡ after_fault report.fault counts) ⊎ (WantsAtFirst report × IsNewLink after.link_back × (after.counts ≡ counts))
    → Dials d before after (ends.Reports (record { report = report; jobs = ready.jobs; turns = 0; devices = []; log = options.log }))
reached d ready at options given counts before after report is same these tells stays once told still counted = (
  dialled d ready before after report is (subst (λ (told : Option Address). Tells d.at.host d.at.port told) (sym stays) (to_address d.at at given same tells)) once (subst (λ (o : SimOptions). IsToldOver (workers_of o) [] (map seen_job ready.plans) after.link_back report) (sym these) told) (since_dialled report counts before after still counted),
  rw is.turns refl,
  refl,
  ap (λ (o : SimOptions). o.log) (sym these),
)
