-- Who watches is told of the run whose report its end tells, and of its jobs.
use Rattle.std.proofs.Common.{◌≡◌, ℕ, Bool, true, false, List, [], ◌∷◌, map, Option, Some, None, Result, Ok, Err, refl, sym, ap, subst, ◌∙◌}
use Rattle.bus_sim.specs.RunNow.{RunNow}
use Rattle.call_words.specs.declared.job_word.JobWord.{JobWord}
use Rattle.call_words.specs.declared.stop.Stop.{Stop}
use Rattle.knx_model.specs.declared.address.IndAddr.{IndAddr}
use Rattle.knx_model.specs.declared.config.Image.{Image}
use Rattle.knx_model.specs.declared.counts.Counts.{Counts}
use Rattle.knx_model.specs.Meaning.{Installation}
use Rattle.knx_model.specs.Outside.{FileContent}
use Rattle.line_model.specs.declared.log.Report.{Report}
use Rattle.line_model.specs.LinkStory.{Story}
use Rattle.line_model.specs.Watched.{Told, Untold, Watch, watch_in}
use Rattle.hub_work.specs.declared.job.HubJob.{HubJob}
use Rattle.hub_work.specs.Downloaders.{Task}
use Rattle.shared_hub.specs.Runs.{WatchesRun}
use Rattle.call_parts.specs.declared.ending.End.{End}
use Rattle.call_parts.specs.declared.ending.End.TheVariants as ends
use Rattle.call_parts.specs.declared.project.ProjectTexts.{ProjectTexts}
use Rattle.call_parts.specs.Ending.{report_in}
use Rattle.call_parts.specs.Input.{first_some}
use Rattle.call_parts.specs.Jobs.{AreJobs, ArePlanned, seen_job}
use Rattle.call_parts.specs.declared.options.SimOptions.{SimOptions}
use Rattle.call_parts.specs.Options.{no_options}
use Rattle.call_parts.specs.Project.{ProjectIsRead, ProjectWords, project_told}
use Rattle.call_parts.specs.Stops.{project_in}
use Rattle.call_parts.proofs.Stops.{passed, unless_stopped}
use Rattle.knx_top.specs.Begun.{IsOrder, OrderFor}
use Rattle.knx_top.specs.commands.{Command, begins_run}
use Rattle.knx_top.specs.commands as commands
use Rattle.knx_top.specs.Ran.{Commission}
use Rattle.knx_top.specs.Watched.{TellsOfJobs, TellsOfRun, TellsTested, TellsWatcher, WhereRun}
use Rattle.knx_top.specs.commands.big.{BigWords, commission_made, made, summed}
use Rattle.knx_top.specs.commands.download.{Download, DownloadWords, IsReadyFor, ReadyFor, download_tests, download_told, judged_download, project_named}
use Rattle.knx_top.specs.commands.sim.{ShowsRun, SimIsRead, SimWords, commission_told, judged, sim_tests}
use Rattle.knx_top.specs.declared.commands.download.Ready.{Ready}
use Rattle.knx_top.specs.declared.commands.sim.SimTexts.{SimTexts}
use Rattle.knx_top.specs.declared.commands.sim.judge.Order.{Order}
use Rattle.knx_top.proofs.Calls.Downloads.{judged_download_is}
use Rattle.knx_top.proofs.Calls.Sims.{judged_is}

module _ (r : RunNow) (report : Report) (jobs : List JobWord) (turns : ℕ) (devices : List (IndAddr × Option Image)) (log : Bool) where
  shown_report : (end : End) → ShowsRun r report jobs turns devices log end → report_in end ≡ Some report
  shown_report (ends.Stops why) shows = absurd shows
  shown_report (ends.Tells text) shows = absurd shows
  shown_report ends.NotOpened shows = absurd shows
  shown_report (ends.BreaksOff told want) shows = ap (λ (x : Report). Some x) shows
  shown_report (ends.Reports told) shows = ap (λ (x : Report). Some x) shows.0
  shown_report (ends.Sums told counts) shows = absurd shows
  shown_report (ends.Serves served) shows = absurd shows
  shown_report (ends.Finds searched) shows = absurd shows
  shown_report (ends.Assigns given) shows = absurd shows

  pub tells_shown : (Tells : Report → Watch → Watch → Type 0) (before after : Watch) (end : End) → ShowsRun r report jobs turns devices log end → Tells report before after → WhereRun Tells (report_in end) before after
  tells_shown Tells before after end shows tells = subst (λ (o : Option Report). WhereRun Tells o before after) (sym (shown_report end shows)) tells

summed_report : (counts : Counts) (end : End) → report_in (summed counts end) ≡ report_in end
summed_report counts (ends.Stops why) = refl
summed_report counts (ends.Tells text) = refl
summed_report counts ends.NotOpened = refl
summed_report counts (ends.BreaksOff told want) = refl
summed_report counts (ends.Reports told) = refl
summed_report counts (ends.Sums told sums) = refl
summed_report counts (ends.Serves served) = refl
summed_report counts (ends.Finds searched) = refl
summed_report counts (ends.Assigns given) = refl

-- the sums of a run are told in place of its report
pub tells_summed : (Tells : Report → Watch → Watch → Type 0) (before after : Watch) (counts : Counts) (end result : End) → result ≡ summed counts end → WhereRun Tells (report_in end) before after → WhereRun Tells (report_in result) before after
tells_summed Tells before after counts end result is tells =
    subst (λ (e : End). WhereRun Tells (report_in e) before after) (sym is) (subst (λ (o : Option Report). WhereRun Tells o before after) (sym (summed_report counts end)) tells)

-- by whether the command begins a run
by_run : (Tells : Report → Watch → Watch → Type 0) (b : Bool) (report : Option Report) (before after : Watch) → (b ≡ false → report ≡ None) → (b ≡ false → after ≡ before) → (b ≡ true → WhereRun Tells report before after) → WhereRun Tells report before after
by_run Tells true report before after none same tells = tells refl
by_run Tells false report before after none same tells = subst (λ (o : Option Report). WhereRun Tells o before after) (sym (none refl)) (same refl)

pub watches_of : (command : Option Command) (file : List ℕ → FileContent) (report : Option Report) (before after : Watch) → (begins_run command ≡ false → report ≡ None) → (begins_run command ≡ false → after ≡ before)
    → (begins_run command ≡ true → WhereRun (TellsOfRun command file) report before after) → WhereRun (TellsOfRun command file) report before after
watches_of command file report before after none same tells = by_run (TellsOfRun command file) (begins_run command) report before after none same tells

-- ---- what a commission told, as it is said of a call

tells_all : (tasks : List Task) (story : Story) (devices : List IndAddr) (before after : Watch) (report : Report) → WatchesRun tasks story devices before after report → TellsWatcher devices false report before after
tells_all tasks story devices Untold after report w = w
tells_all tasks story devices (Told notices) after report w = (w.0, w.1, w.2.watches)

-- who is told was taken out, and is given back, unless the run is quiet
pub tells_by : {W : Type 0} (watch : W → Watch) (quiet : Bool) (old told between back new : Option W) (tasks : List Task) (story : Story) (devices : List IndAddr) (report : Report) → (quiet ≡ false → told ≡ old) → (quiet ≡ true → between ≡ old) → (quiet ≡ false → new ≡ back)
    → (quiet ≡ true → new ≡ between) → WatchesRun tasks story devices (watch_in watch told) (watch_in watch back) report → TellsWatcher devices quiet report (watch_in watch old) (watch_in watch new)
tells_by watch true old told between back new tasks story devices report from stays to leaves w = ap (watch_in watch) (leaves refl ∙ stays refl)
tells_by watch false old told between back new tasks story devices report from stays to leaves w =
    tells_all tasks story devices (watch_in watch old) (watch_in watch new) report
    (subst (λ (o : Option _). WatchesRun tasks story devices (watch_in watch o) (watch_in watch new) report) (from refl) (subst (λ (o : Option _). WatchesRun tasks story devices (watch_in watch told) (watch_in watch o) report) (sym (to refl)) w))

-- ---- the devices are those of its jobs

abbrev pub devices_in : List HubJob → List IndAddr
devices_in plans = map (λ (job : HubJob). job.device) plans

planned_devices : (project : Installation) (plans : List HubJob) (words : List JobWord) → ArePlanned project (map seen_job plans) words → devices_in plans ≡ map (λ (job : JobWord). job.device) words
planned_devices project [] [] h = refl
planned_devices project [] (w ∷ ws) h = absurd h
planned_devices project (p ∷ ps) [] h = absurd h
planned_devices project (p ∷ ps) (w ∷ ws) h =
    ap (λ (d : IndAddr). d ∷ devices_in ps) h.0.device ∙ ap (λ (ds : List IndAddr). w.device ∷ ds) (planned_devices project ps ws h.1)

of_jobs : (options : SimOptions) (project : Installation) (plans : List HubJob) (words : List JobWord) (report : Report) (before after : Watch) → AreJobs options.jobs project words → ArePlanned project (map seen_job plans) words
    → TellsWatcher (devices_in plans) options.quiet report before after → TellsOfJobs options project report before after
of_jobs options project plans words report before after are planned tells = record {
  jobs = words;
  are = are;
  tells = subst (λ (devices : List IndAddr). TellsWatcher devices options.quiet report before after) (planned_devices project plans words planned) tells;
}

of_commission : (c : Commission) (order : Order) (report : Report) (before after : Watch) → IsOrder c order → TellsWatcher (devices_in order.plans) c.options.quiet report before after → TellsOfJobs c.options c.project report before after
of_commission c order report before after is tells = of_jobs c.options c.project order.plans order.jobs report before after is.prepared.jobs is.prepared.plans tells

-- ---- and no test failed

none_failed : {A : Type 0} (tests : List (Option Stop)) (x y : A) → unless_stopped tests x ≡ Ok y → first_some tests ≡ None
none_failed [] x y e = refl
none_failed (None ∷ tests) x y e = none_failed tests x y e
none_failed (Some told ∷ tests) x y e = absurd cc

of_judged : (words : SimWords) (texts : SimTexts) (j : Result Commission Stop) (order : Order) (report : Report) (before after : Watch) → judged words texts ≡ j → OrderFor j order
    → TellsWatcher (devices_in order.plans) words.options.quiet report before after → TellsTested (sim_tests words texts) words.options (project_in texts.catalogue texts.new) report before after
of_judged words texts (Err why) order report before after is o tells = absurd o
of_judged words texts (Ok c) order report before after is o tells =
    let e : unless_stopped (sim_tests words texts) (commission_told words texts) ≡ Ok c = sym (judged_is words texts) ∙ is in
    let same : c ≡ commission_told words texts = passed (sim_tests words texts) (commission_told words texts) c e in
    record {
      passes = none_failed (sim_tests words texts) (commission_told words texts) c e;
      tells = of_commission (commission_told words texts) order report before after (subst (λ (q : Commission). IsOrder q order) same o) tells;
    }

-- of `sim`
pub sim_tested : (words : SimWords) (texts : SimTexts) (order : Order) (before after : Watch) → OrderFor (judged words texts) order → (report : Option Report) → WhereRun (TellsWatcher (devices_in order.plans) words.options.quiet) report before after
    → WhereRun (TellsTested (sim_tests words texts) words.options (project_in texts.catalogue texts.new)) report before after
sim_tested words texts order before after o None tells = tells
sim_tested words texts order before after o (Some report) tells = of_judged words texts (judged words texts) order report before after refl o tells

pub sim_read : (file : List ℕ → FileContent) (words : SimWords) (texts : SimTexts) (before after : Watch) → SimIsRead file words texts → (report : Option Report)
    → WhereRun (TellsTested (sim_tests words texts) words.options (project_in texts.catalogue texts.new)) report before after → WhereRun (TellsOfRun (Some (commands.Sim words)) file) report before after
sim_read file words texts before after is None tells = tells
sim_read file words texts before after is (Some report) tells = (texts, is, tells)

-- of `big`, which fails no test
pub made_so : (words : BigWords) (order : Order) (before after : Watch) → IsOrder (commission_made words) order → (report : Option Report) → WhereRun (TellsWatcher (devices_in order.plans) false) report before after
    → WhereRun (TellsOfJobs no_options (made words)) report before after
made_so words order before after is None tells = tells
made_so words order before after is (Some report) tells = of_commission (commission_made words) order report before after is tells

-- of `download`
of_judged_download : (words : DownloadWords) (texts : ProjectTexts) (j : Result Download Stop) (ready : Ready) (report : Report) (before after : Watch) → judged_download words texts ≡ j → ReadyFor j ready
    → TellsWatcher (devices_in ready.plans) words.options.quiet report before after → TellsTested (download_tests words texts) words.options (project_told texts) report before after
of_judged_download words texts (Err why) ready report before after is r tells = absurd r
of_judged_download words texts (Ok d) ready report before after is r tells =
    let e : unless_stopped (download_tests words texts) (download_told words texts) ≡ Ok d = sym (judged_download_is words texts) ∙ is in
    let same : d ≡ download_told words texts = passed (download_tests words texts) (download_told words texts) d e in
    let ready_so : IsReadyFor (download_told words texts) ready = subst (λ (q : Download). IsReadyFor q ready) same r in
    record {
      passes = none_failed (download_tests words texts) (download_told words texts) d e;
      tells = of_jobs words.options (project_told texts) ready.plans ready.jobs report before after ready_so.prepared.jobs ready_so.prepared.plans tells;
    }

pub download_tested : (words : DownloadWords) (texts : ProjectTexts) (ready : Ready) (before after : Watch) → ReadyFor (judged_download words texts) ready → (report : Option Report)
    → WhereRun (TellsWatcher (devices_in ready.plans) words.options.quiet) report before after → WhereRun (TellsTested (download_tests words texts) words.options (project_told texts)) report before after
download_tested words texts ready before after r None tells = tells
download_tested words texts ready before after r (Some report) tells = of_judged_download words texts (judged_download words texts) ready report before after refl r tells

pub download_read : (file : List ℕ → FileContent) (words : DownloadWords) (named : ProjectWords) (texts : ProjectTexts) (before after : Watch) → named ≡ project_named words → ProjectIsRead file named texts → (report : Option Report)
    → WhereRun (TellsTested (download_tests words texts) words.options (project_told texts)) report before after → WhereRun (TellsOfRun (Some (commands.Download words)) file) report before after
download_read file words named texts before after same is None tells = tells
download_read file words named texts before after same is (Some report) tells = (texts, subst (λ (these : ProjectWords). ProjectIsRead file these texts) same is, tells)
