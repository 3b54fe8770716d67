-- `download`: its tests, what it dials, and what is written of it.
use Rattle.std.proofs.Common.{refl, Err, List, Ok, Option, Result, ◌≡◌, ◌≢◌, ◌⊎◌, ◌∙◌, ◌∷◌, true, false, sym, ap, subst, inl, inr, []}
use Rattle.line_model.specs.Dialled.{DialerNow}
use Rattle.call_parts.specs.declared.ending.End.{End}
use Rattle.knx_model.specs.Outside.{FilesNow}
use Rattle.knx_model.specs.Meaning.{Installation}
use Rattle.call_parts.specs.Ending.{Is, report_in, wanting}
use Rattle.call_words.specs.declared.job_word.JobWord.{JobWord}
use Rattle.call_parts.specs.Input.{OnlyRose}
use Rattle.call_parts.specs.declared.project.ProjectTexts.{ProjectTexts}
use Rattle.knx_top.specs.declared.commands.download.Ready.{Ready}
use Rattle.line_model.specs.declared.log.Report.{Report}
use Rattle.call_words.specs.declared.stop.Stop.{Stop}
use Rattle.call_parts.proofs.Stops.{does_by, failed_step, stops_by, unless_stopped, passed, step, stopped}
use Rattle.call_parts.specs.Stops.{is_known, unknown_job, unless_known}
use Rattle.call_parts.specs.Judged.{known_jobs}
use Rattle.call_parts.proofs.Projects.{judged_project_is}
use Rattle.std.specs.List.{list_all}
use Rattle.call_parts.proofs.Ends.{report_wants, stop_wants}
use Rattle.call_words.specs.declared.stop.Stop.TheVariants as stop
use Rattle.call_parts.specs.declared.ending.End.TheVariants as ends
use Rattle.knx_top.specs.commands.download.{Dials, DialsOr, RunsDialled, download_tests, download_told, judged_download, project_named, DownloadWords, IsReady, IsReadyFor, ReadyFor, Download, download_of, with_project}
use Rattle.call_parts.specs.Project.{ProjectWords, ProjectIsRead, failed_of_project, project_tests, project_told, judged_project}

-- ---- the tests

known_step : (words : DownloadWords) (project : Installation) → with_project words project ≡ unless_stopped (unless_known (list_all (is_known project) words.options.jobs) ∷ []) (download_of words project)
known_step words project =
    let d : Download = download_of words project in
    let known : Option Stop = unless_known (list_all (is_known project) words.options.jobs) in
    step (known ∷ []) [] (known_jobs project words.options.jobs) words.options.jobs (λ (jobs : List JobWord). Ok d) d (failed_step known words.options.jobs) refl

pub judged_download_is : (words : DownloadWords) (texts : ProjectTexts) → judged_download words texts ≡ unless_stopped (download_tests words texts) (download_told words texts)
judged_download_is words texts =
    step (project_tests (project_named words) texts) (unless_known (list_all (is_known (project_told texts)) words.options.jobs) ∷ []) (judged_project (project_named words) texts) (project_told texts) (with_project words) (download_told words texts)
    (judged_project_is (project_named words) texts) (known_step words (project_told texts))

-- ---- the last test

pub unknown_stops : (words : DownloadWords) (project : Installation) (named : List JobWord) → named ≡ words.options.jobs → list_all (is_known project) named ≡ false → with_project words project ≡ Err unknown_job
unknown_stops words project named are all =
    let these : list_all (is_known project) words.options.jobs ≡ false = subst (λ (jobs : List JobWord). list_all (is_known project) jobs ≡ false) are all in
    rw these refl

pub known_ready : (words : DownloadWords) (project : Installation) (named : List JobWord) (ready : Ready) → named ≡ words.options.jobs → list_all (is_known project) named ≡ true → IsReady project named ready → ReadyFor (with_project words project) ready
known_ready words project named ready are all is =
    let these : list_all (is_known project) words.options.jobs ≡ true = subst (λ (jobs : List JobWord). list_all (is_known project) jobs ≡ true) are all in
    rw these (record { prepared = subst (λ (jobs : List JobWord). IsReady project jobs ready) are is; workers = refl; turns = refl })

-- ---- where the call stops before it dials

pub dialled_stop : (j : Result Download Stop) (told : Stop) (now : DialerNow) → (told ≢ stop.NoMemory tt → j ≡ Err told) → DialsOr j now now (ends.Stops told)
dialled_stop j told now h = stopped (now ≡ now) (λ (d : Download). Dials d now now) j told h refl (λ d memory. (memory, refl))

-- ---- where it dials

-- of what the jobs are for
pub of_ready : (P : Type 0) (j : Result Download Stop) (ready : Ready) → ReadyFor j ready → ((d : Download) → IsReadyFor d ready → P) → P
of_ready P (Err why) ready r h = absurd r
of_ready P (Ok d) ready r h = h d r

decided : (j : Result Download Stop) (words : DownloadWords) (ready : Ready) (before after : DialerNow) (end : End) → ((d : Download) → j ≡ Ok d → (d.at ≡ words.at) × (d.options ≡ words.options)) → ReadyFor j ready
    → ((d : Download) → IsReadyFor d ready → d.at ≡ words.at → d.options ≡ words.options → Dials d before after end) → DialsOr j before after end
decided (Err why) words ready before after end has r dials = absurd r
decided (Ok d) words ready before after end has r dials = let h = has d refl in dials d r h.0 h.1

its_words : (words : DownloadWords) (texts : ProjectTexts) (d : Download) → judged_download words texts ≡ Ok d → (d.at ≡ words.at) × (d.options ≡ words.options)
its_words words texts d e =
    let same : d ≡ download_told words texts = passed (download_tests words texts) (download_told words texts) d (sym (judged_download_is words texts) ∙ e) in
    (ap (λ (told : Download). told.at) same, ap (λ (told : Download). told.options) same)

pub dialled_run : (words : DownloadWords) (texts : ProjectTexts) (ready : Ready) (before after : DialerNow) (end : End) → ReadyFor (judged_download words texts) ready
    → ((d : Download) → IsReadyFor d ready → d.at ≡ words.at → d.options ≡ words.options → Dials d before after end) → DialsOr (judged_download words texts) before after end
dialled_run words texts ready before after end r dials = decided (judged_download words texts) words ready before after end (its_words words texts) r dials

-- ---- the whole of it

-- where these files were read
pub runs_dialled : (words : DownloadWords) (named : ProjectWords) (files files' : FilesNow) (before after : DialerNow) (texts : ProjectTexts) (end : End)
    → named ≡ project_named words → ProjectIsRead files.file named texts → OnlyRose (failed_of_project named texts) files.faults files'.faults → DialsOr (judged_download words texts) before after end
    → RunsDialled words files files' before after (report_in end) (Is end)
runs_dialled words named files files' before after texts end same is counts comes = record {
  texts = texts;
  is_read = subst (λ (these : ProjectWords). ProjectIsRead files.file these texts) same is;
  counts = subst (λ (these : ProjectWords). OnlyRose (failed_of_project these texts) files.faults files'.faults) same counts;
  end = end;
  stops = stops_by (after ≡ before) (λ (d : Download). Dials d before after) (download_tests words texts) (download_told words texts) (judged_download words texts) end (judged_download_is words texts) comes;
  dials = does_by (after ≡ before) (λ (d : Download). Dials d before after) (download_tests words texts) (download_told words texts) (judged_download words texts) end (judged_download_is words texts) comes;
  report_is = refl;
  replied = refl;
}

-- ---- what is written of it

dials_wants : (d : Download) (before after : DialerNow) (end : End) → Dials d before after end → Dials d before after (wanting end)
dials_wants d before after (ends.Stops told) h = (refl, h.1)
dials_wants d before after (ends.Tells text) h = absurd h
dials_wants d before after ends.NotOpened h = h
dials_wants d before after (ends.BreaksOff report want) h = h
dials_wants d before after (ends.Reports told) h = (told.jobs, h.0)
dials_wants d before after (ends.Sums told counts) h = absurd h
dials_wants d before after (ends.Serves served) h = absurd h
dials_wants d before after (ends.Finds searched) h = absurd h
dials_wants d before after (ends.Assigns given) h = absurd h

pub dialled_written : (words : DownloadWords) (files files' : FilesNow) (before after : DialerNow) (report : Option Report) (end : End) (Replied : End → Type 0) → RunsDialled words files files' before after report (Is end)
    → Replied end ⊎ Replied (wanting end) → RunsDialled words files files' before after report Replied
dialled_written words files files' before after report end Replied t (inl replied) = record {
  texts = t.texts;
  is_read = t.is_read;
  counts = t.counts;
  end = t.end;
  stops = t.stops;
  dials = t.dials;
  report_is = t.report_is;
  replied = subst Replied (sym t.replied) replied;
}
dialled_written words files files' before after report end Replied t (inr replied) = record {
  texts = t.texts;
  is_read = t.is_read;
  counts = t.counts;
  end = wanting t.end;
  stops = λ why e. (stop_wants why t.end (t.stops why e).0, (t.stops why e).1);
  dials = λ e. dials_wants (download_told words t.texts) before after t.end (t.dials e);
  report_is = t.report_is ∙ sym (report_wants t.end);
  replied = subst (λ (told : End). Replied (wanting told)) (sym t.replied) replied;
}
