-- What a run comes to, by what its site keeps and what its end tells.
use Rattle.std.proofs.Common.{◌≡◌, inl, inr, ℕ, ◌≤◌, List, [], length, Option, Some, None, refl, sym, ap, subst, ◌∙◌, arith}
use mathlib.Core.List.{IsPrefix}
use Rattle.std.specs.Prelude.{is_some, replicate}
use Rattle.std.proofs.lemmas.List.{length-replicate}
use Rattle.atomic_table.specs.Seated.{TableId}
use Rattle.knx_model.specs.declared.address.IndAddr.{IndAddr}
use Rattle.line_model.specs.declared.fault.HubFault.{HubFault}
use Rattle.line_model.specs.declared.fault.HubFault.TheVariants.{NoMemory}
use Rattle.line_model.specs.declared.group.GroupTurn.{GroupTurn}
use Rattle.line_model.specs.declared.group.Indication.{Indication}
use Rattle.line_model.specs.declared.log.Report.{Report}
use Rattle.line_model.specs.declared.outside.fault_counts.FaultCounts.{FaultCounts}
use Rattle.line_model.specs.Lines.{Script}
use Rattle.line_model.specs.LinkStory.{Story, IsNewLink, record_in}
use Rattle.line_model.specs.Polled.{after_fault}
use Rattle.line_model.specs.Log.{Job, IsLog}
use Rattle.tunnel_link.specs.Goes.{GoesOn}
use Rattle.tunnel_link.proofs.Stories.{goes_again, stays}
use Rattle.hub_work.specs.Books.{AreJobsOf}
use Rattle.hub_work.specs.Downloaders.{Task}
use Rattle.hub_core.specs.Commissioned.{TellsRun}
use Rattle.hub_core.specs.Heard.{HeardIn}
use Rattle.hub_core.specs.Left.{AllDone as HubDone}
use Rattle.hub_core.specs.Seats.{IsOfWorkers}
use Rattle.hub_core.specs.Seen.{Seen, tasks_seen}
use Rattle.telegram_router.specs.Ends.{Feeding}
use Rattle.shared_hub.specs.Runs.{RunsOf}
use Rattle.shared_hub.specs.declared.item.Item.{Item}
use Rattle.shared_hub.specs.Items.{opening_in, relay_in, watcher_in, HasTold}
use Rattle.shared_hub.specs.Relays.{KeepsFirst, SameButMissed}
use Rattle.shared_hub.specs.Sites.{SiteKeeps, SiteSeen, IsOpening, items_of}
use Rattle.shared_hub.specs.Works.{AllDone, Leads, WasDone}
use Rattle.shared_hub.proofs.Items.{ended_is, log_is, opens_after, relays_after, watches_after}
use Rattle.shared_hub.proofs.Hearing.{keeps_heard}
use Rattle.shared_hub.proofs.Through.{all_over}
use Rattle.line_law.specs.Safe.{EverySafeInterleaving}
use Rattle.shared_hub.proofs.New.{new_tells}
use Rattle.shared_hub.proofs.Told.{told_for}

module _ {L : Type 0} (story_of : L → Story) (place_of : L → ℕ) (script_of : L → Script) (faults_of : L → FaultCounts) (hub opening : Seen L) (feed : Feeding) (relay : TableId) (keeps : SiteKeeps story_of script_of faults_of hub opening feed relay) where
  pub runs_so : (after : L) (report : Report) → GoesOn (story_of hub.link) (story_of after) → script_of after ≡ script_of hub.link
      → ((workers : ℕ) → IsOfWorkers workers hub.log → TellsRun workers (tasks_seen hub.jobs) hub.devices hub.turns (story_of after) (place_of after) report)
      → ((before : FaultCounts) → faults_of hub.link ≡ after_fault hub.fault before → faults_of after ≡ after_fault report.fault before) → RunsOf story_of place_of script_of faults_of opening after report
  runs_so after report grows script tells counts = record {
    grows = goes_again (story_of opening.link) (story_of hub.link) (story_of after) keeps.since.grows grows;
    script = script ∙ keeps.since.script;
    counts = inl (counts (faults_of opening.link) (keeps.since.counts (faults_of opening.link) (subst (λ (f : Option HubFault). faults_of opening.link ≡ after_fault f (faults_of opening.link)) (sym keeps.begun) refl)));
    tells = told_for (length opening.crew) _ _ _ _ _ _ _ _ _ keeps.since.run.tasks keeps.since.run.devices keeps.since.run.turns (tells (length opening.crew) keeps.seats);
  }

-- the same of the hub that is left once the queue is emptied
module _ {L : Type 0} (story_of : L → Story) (place_of : L → ℕ) (script_of : L → Script) (faults_of : L → FaultCounts) (hub after opening : Seen L) (feed : Feeding) (relay : TableId) (keeps : SiteKeeps story_of script_of faults_of hub opening feed relay) (same : SameButMissed hub after) where
  pub ends_so : (link : L) (report : Report) → GoesOn (story_of after.link) (story_of link) → script_of link ≡ script_of after.link
      → ((workers : ℕ) → IsOfWorkers workers after.log → TellsRun workers (tasks_seen after.jobs) after.devices after.turns (story_of link) (place_of link) report)
      → ((before : FaultCounts) → faults_of after.link ≡ after_fault after.fault before → faults_of link ≡ after_fault report.fault before) → RunsOf story_of place_of script_of faults_of opening link report
  ends_so link report grows script tells counts = runs_so story_of place_of script_of faults_of hub opening feed relay keeps link report
      (subst (λ (l : L). GoesOn (story_of l) (story_of link)) same.link grows) (script ∙ ap script_of same.link)
      (λ workers seats. told_for workers _ _ _ _ _ _ _ _ _ (ap tasks_seen same.jobs) same.devices same.turns (tells workers (subst (IsOfWorkers workers) (sym same.log) seats)))
      (λ before was. counts before (subst (λ (f : Option HubFault). faults_of after.link ≡ after_fault f before) (sym same.fault) (ap faults_of same.link ∙ was)))

  pub ends_hearing : (kept : List Indication) → KeepsFirst kept feed.put hub.missed after.missed → HeardIn after.fault after.missed kept (record_in (story_of after.link))
  ends_hearing kept k =
      subst (λ (f : Option HubFault). HeardIn f after.missed kept (record_in (story_of after.link))) (sym same.fault)
      (subst (λ (l : L). HeardIn hub.fault after.missed kept (record_in (story_of l))) (sym same.link) (keeps_heard hub.fault hub.missed after.missed kept feed.put (record_in (story_of hub.link)) k keeps.hears))

-- where there was no memory for a cell nothing was done
pub runs_not : {L : Type 0} (story_of : L → Story) (place_of : L → ℕ) (script_of : L → Script) (faults_of : L → FaultCounts) (opening : Seen L) (after : L) (report : Report) → EverySafeInterleaving → IsNewLink (story_of opening.link)
    → after ≡ opening.link → report.log ≡ [] → report.heard ≡ [] → report.missed ≡ 0 → report.dropped ≡ 0 → report.fault ≡ Some (NoMemory tt) → RunsOf story_of place_of script_of faults_of opening after report
runs_not story_of place_of script_of faults_of opening after report law new same log heard missed dropped fault = record {
  grows = subst (λ l. GoesOn (story_of opening.link) (story_of l)) (sym same) (stays (story_of opening.link) (story_of opening.link) refl).on;
  script = ap script_of same;
  counts = inr (record { wants = fault; log = log; heard = heard; missed = missed; dropped = dropped }, same);
  tells = new_tells law (length opening.crew) (tasks_seen opening.jobs) opening.devices opening.turns (story_of after) (place_of after) report (subst (λ l. IsNewLink (story_of l)) (sym same) new) log heard missed dropped fault;
}

pub opens_so : {L : Type 0} (story_of : L → Story) (hub : Seen L) → IsNewLink (story_of hub.link) → hub.log ≡ [] → hub.fault ≡ None → hub.closing ≡ None → hub.missed ≡ 0 → IsOpening story_of hub
opens_so story_of hub new none fine unbegun unmissed = record { link = new; log = none; fault = fine; closing = unbegun; missed = unmissed }

-- of as many workers
pub told_by : (n m : ℕ) → n ≡ m → (tasks : List Task) (devices : List IndAddr) (turns : List GroupTurn) (story : Story) (place : ℕ) {report : Report} → TellsRun n tasks devices turns story place report → TellsRun m tasks devices turns story place report
told_by n m e tasks devices turns story place {report} tells = subst (λ (k : ℕ). TellsRun k tasks devices turns story place report) e tells

-- a site that has begun is the first of its list
pub leads_first : {L W : Type 0} (n : ℕ) (relay : TableId) (s : SiteSeen L W) (hub : Seen L) (items : List (Item L W)) → items ≡ items_of s → s.opening.value ≡ hub → s.relay.value ≡ relay → hub.crew ≡ replicate n None → Leads n relay items
leads_first n relay s hub items e opening is crew = subst (Leads n relay) (sym e) (record {
  hub = s.opening.value;
  opens = refl;
  enough = (let a : length s.opening.value.crew ≡ length hub.crew = ap (λ h. length h.crew) opening in let b : length hub.crew ≡ n = ap length crew ∙ length-replicate n None in omega (arith, a, b));
  relays = ap Some is;
})

-- where nothing ended it, all is done
pub site_done : {L W : Type 0} (story_of : L → Story) (script_of : L → Script) (faults_of : L → FaultCounts) (n count : ℕ) (s : SiteSeen L W) → SiteKeeps story_of script_of faults_of s.hub s.opening.value s.feed s.relay.value → length s.opening.value.crew ≡ n → 1 ≤ n
    → ((jobs : List Job) → AreJobsOf s.hub.devices jobs → IsLog jobs s.hub.turns count s.hub.log) → AllDone n (items_of s) → WasDone HasTold (items_of s) → s.hub.fault ≡ None → HubDone s.hub
site_done story_of script_of faults_of n count s keeps many some form each told fine =
    all_over s.hub s.opening.value n count keeps.since.run.devices keeps.since.run.turns form (subst (λ (k : ℕ). IsOfWorkers k s.hub.log) many keeps.seats) (items_of s) refl (log_is s) (ended_is s ∙ ap is_some fine) some each told

-- the list of the site that is left begins with the hub that it began with
pub same_opening : {L W : Type 0} (first last : SiteSeen L W) (opening : List (Item L W)) → opening ≡ items_of first → IsPrefix opening (items_of last) → last.opening.value ≡ first.opening.value
same_opening first last opening e p =
    let z : opening_in (items_of last) ≡ Some first.opening.value = opens_after opening (items_of last) first.opening.value p (subst (λ (l : List (Item _ _)). opening_in l ≡ Some first.opening.value) (sym e) refl) in
    cc

-- and with its relay
pub same_relay : {L W : Type 0} (first last : SiteSeen L W) (opening : List (Item L W)) → opening ≡ items_of first → IsPrefix opening (items_of last) → last.relay.value ≡ first.relay.value
same_relay first last opening e p =
    let z : relay_in (items_of last) ≡ Some first.relay.value = relays_after opening (items_of last) first.relay.value p (subst (λ (l : List (Item _ _)). relay_in l ≡ Some first.relay.value) (sym e) refl) in
    cc

-- and with who watched then
pub same_watched : {L W : Type 0} (first last : SiteSeen L W) (opening : List (Item L W)) → opening ≡ items_of first → IsPrefix opening (items_of last) → last.watched.value ≡ first.watched.value
same_watched first last opening e p =
    let z : watcher_in (items_of last) ≡ Some first.watched.value = watches_after opening (items_of last) first.watched.value p (subst (λ (l : List (Item _ _)). watcher_in l ≡ Some first.watched.value) (sym e) refl) in
    cc
