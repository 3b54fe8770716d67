-- What a site's type keeps, from its beginning on and by each call of its hub; and what each call adds to its list.
use Rattle.std.proofs.Common.{◌≡◌, inl, inr, ℕ, true, false, List, [], ◌∷◌, ◌++◌, length, Option, Some, None, refl, sym, ap, subst, ◌∙◌}
use Rattle.std.specs.Prelude.{is_some}
use Rattle.atomic_table.specs.Seated.{TableId}
use Rattle.knx_model.specs.declared.address.IndAddr.{IndAddr}
use Rattle.line_model.specs.declared.fault.HubFault.{HubFault}
use Rattle.line_model.specs.declared.group.GroupTurn.{GroupTurn}
use Rattle.line_model.specs.declared.group.Indication.{Indication}
use Rattle.line_model.specs.declared.log.LogEntry.{LogEntry}
use Rattle.line_model.specs.declared.log.LogWhat.{LogWhat}
use Rattle.line_model.specs.declared.outside.fault_counts.FaultCounts.{FaultCounts}
use Rattle.line_model.specs.Lines.{Script}
use Rattle.line_model.specs.Leaves.{IsFinished}
use Rattle.line_model.specs.Log.{Job, TurnUnfinished}
use Rattle.line_model.specs.LinkStory.{Story, record_in}
use Rattle.hub_work.specs.declared.answers.Turned.{Turned}
use Rattle.hub_work.specs.declared.answers.Turned.TheVariants as answer
use Rattle.hub_work.specs.Books.{AreJobsOf}
use Rattle.hub_work.specs.Turns as work
use Rattle.hub_work.specs.Turns.{Adds, TurnTells}
use Rattle.hub_core.specs.declared.answers.GroupDid.{GroupDid}
use Rattle.hub_core.specs.declared.answers.GroupDid.TheVariants as did
use Rattle.hub_core.specs.Left.{IsLeft}
use Rattle.hub_core.specs.Telegrams.{GroupTells}
use Rattle.hub_core.specs.Heard.{HeardIn}
use Rattle.hub_core.specs.Hears.{HearsFew, HearsSo}
use Rattle.hub_core.specs.Seats.{IsOfWorkers}
use Rattle.hub_core.specs.Seen.{Seen}
use Rattle.hub_core.specs.Since.{Since}
use Rattle.hub_core.proofs.Since.{since_itself}
use Rattle.telegram_router.specs.Ends.{Feeding, first_feed}
use Rattle.shared_hub.specs.declared.item.Item.TheVariants.{Told}
use Rattle.shared_hub.specs.Leaving.{GoesThrough}
use Rattle.shared_hub.specs.Items.{log_in, HasFinished, HasTold}
use Rattle.shared_hub.specs.Relays.{KeepsOrMisses, SameButMissed}
use Rattle.shared_hub.specs.Sites.{SiteSeen, SiteKeeps, IsOpening, items_of}
use Rattle.shared_hub.specs.Steps.{HasFailed, Steps, IsOn, GoesOn, step_of, step_of_group}
use Rattle.shared_hub.specs.Watchers.{LogsBy}
use Rattle.shared_hub.proofs.Hearing.{hears_failed_so, hears_none_so, hears_one_so, new_hears_none}
use Rattle.shared_hub.proofs.Items.{items_same, items_told, items_ended, ended_is, log_is}
use Rattle.shared_hub.proofs.New.{new_goes_through}
use Rattle.shared_hub.proofs.Still.{called, counted, going, through_still}

-- ---- what is kept

module _ {L : Type 0} (story_of : L → Story) (script_of : L → Script) (faults_of : L → FaultCounts) where
  pub begins_so : (hub opening : Seen L) (feed : Feeding) (relay : TableId) → opening ≡ hub → feed ≡ first_feed relay → IsOpening story_of hub → SiteKeeps story_of script_of faults_of hub opening feed relay
  begins_so hub opening feed relay same new o =
      subst (λ (f : Feeding). SiteKeeps story_of script_of faults_of hub opening f relay) (sym new)
      (subst (λ (z : Seen L). SiteKeeps story_of script_of faults_of hub z (first_feed relay) relay) (sym same) (record {
        since = called story_of script_of faults_of {old = hub} {new = hub} (since_itself {a = hub});
        begun = o.fault;
        through = new_goes_through hub (story_of hub.link) o.link o.closing o.log;
        seats = subst (IsOfWorkers (length hub.crew)) (sym o.log) tt;
        of = refl;
        hears = subst (λ (n : ℕ). HeardIn hub.fault n [] (record_in (story_of hub.link))) (sym o.missed) (new_hears_none hub.fault (story_of hub.link) o.link);
      }))

  module _ (old new opening : Seen L) (feed : Feeding) (relay : TableId) (keeps : SiteKeeps story_of script_of faults_of old opening feed relay) where
    module _ (since : Since story_of script_of faults_of old new) (through : GoesThrough new (story_of new.link)) (seats : IsOfWorkers (length opening.crew) new.log) (stood : old.fault ≡ None) where
      keeps_hearing : HeardIn new.fault new.missed feed.put (record_in (story_of new.link)) → SiteKeeps story_of script_of faults_of new opening feed relay
      keeps_hearing hears = record { since = going story_of script_of faults_of opening old new keeps.since (called story_of script_of faults_of {old = old} {new = new} since); begun = keeps.begun; through = through; seats = seats; of = keeps.of; hears = hears }

      -- by a call of the hub that heard none
      pub hears_no_more : new.fault ≡ None → (one : Option Indication) → one ≡ None → HearsSo one (story_of old.link) (story_of new.link) → SiteKeeps story_of script_of faults_of new opening feed relay
      hears_no_more stands one is hears = keeps_hearing (hears_none_so old new feed.put story_of one is since stood stands hears keeps.hears)

      -- by one that failed
      pub ends_so : (why : HubFault) → new.fault ≡ Some why → HearsFew (story_of old.link) (story_of new.link) → SiteKeeps story_of script_of faults_of new opening feed relay
      ends_so why failed few = keeps_hearing (hears_failed_so old new feed.put story_of why failed few since stood keeps.hears)

      -- by one that heard something, which was then put into the relay or counted as missed
      pub hears_so : new.fault ≡ None → (one : Indication) (heard : Option Indication) → heard ≡ Some one → HearsSo heard (story_of old.link) (story_of new.link) → (after : Seen L) (now : Feeding) → SameButMissed new after → now.router ≡ feed.router
          → KeepsOrMisses one feed.put now.put new.missed after.missed → SiteKeeps story_of script_of faults_of after opening now relay
      hears_so stands one heard is hears after now same of keeping = record {
        since = going story_of script_of faults_of opening new after
            (going story_of script_of faults_of opening old new keeps.since (called story_of script_of faults_of {old = old} {new = new} since)) (counted story_of script_of faults_of {old = new} {new = after} same);
        begun = keeps.begun;
        through = through_still new after same story_of through;
        seats = subst (IsOfWorkers (length opening.crew)) (sym same.log) seats;
        of = of ∙ keeps.of;
        hears = hears_one_so old new after feed.put now.put story_of one heard is since stood stands hears same keeping keeps.hears;
      }

-- ---- what is added

module _ {L W : Type 0} (old new : SiteSeen L W) (opening : new.opening ≡ old.opening) (relay : new.relay ≡ old.relay) (watched : new.watched ≡ old.watched) where
  -- a call that failed: it tells nothing
  pub fails_so : (why : HubFault) → new.hub.log ≡ old.hub.log → old.hub.fault ≡ None → new.hub.fault ≡ Some why → HasFailed (items_of old) (items_of new)
  fails_so why log was is = (inr (why, items_ended old new opening relay watched why log was is), ended_is new ∙ ap is_some is)

  pub still_so : new.hub.log ≡ old.hub.log → old.hub.fault ≡ None → new.hub.fault ≡ None → items_of new ≡ items_of old
  still_so log was is = items_same old new opening relay watched log (is ∙ sym was)

-- it had failed before
pub failed_so : {L W : Type 0} (site : SiteSeen L W) → is_some site.hub.fault ≡ true → HasFailed (items_of site) (items_of site)
failed_so site e = (inl refl, ended_is site ∙ e)

-- ---- a worker's turn, and a telegram's step

module _ {L W : Type 0} (old new : SiteSeen L W) (opening : new.opening ≡ old.opening) (relay : new.relay ≡ old.relay) (watched : new.watched ≡ old.watched) (was : old.hub.fault ≡ None) (is : new.hub.fault ≡ None) where
  adds_so : (at worker : ℕ) (what : LogWhat) → Adds at worker what old.hub.log new.hub.log → items_of new ≡ items_of old ++ Told (record { at = at; worker = worker; what = what }) ∷ []
  adds_so at worker what h = items_told old new opening relay watched (record { at = at; worker = worker; what = what }) h was is

  tells_so : (at worker : ℕ) (what : LogWhat) → Adds at worker what old.hub.log new.hub.log → (e : LogEntry) × (e.worker ≡ worker) × (items_of new ≡ items_of old ++ Told e ∷ [])
  tells_so at worker what h = (record { at = at; worker = worker; what = what }, refl, adds_so at worker what h)

  same_so : new.hub.log ≡ old.hub.log → items_of new ≡ items_of old
  same_so log = still_so old new opening relay watched log was is

  pub turn_steps : (at worker : ℕ) (turned : Turned) → TurnTells at worker turned old.hub.log new.hub.log → (turned ≡ answer.NoMore → HasFinished worker (items_of new)) → Steps (HasFinished worker) worker (items_of old) (items_of new) (step_of turned)
  turn_steps at worker (answer.Took job) told finished = (at, adds_so at worker _ told)
  turn_steps at worker answer.Moved told finished = same_so told
  turn_steps at worker answer.Wait told finished = same_so told
  turn_steps at worker (answer.Done job) told finished = tells_so at worker _ told
  turn_steps at worker (answer.Failed job) told finished = tells_so at worker _ told.1
  turn_steps at worker (answer.Refused job) told finished = tells_so at worker _ told.3
  turn_steps at worker answer.Later told finished = same_so told
  turn_steps at worker answer.NoMore told finished = (same_so told, subst (HasFinished worker) (same_so told) (finished refl))

  pub group_steps : (at k : ℕ) (did : GroupDid) → GroupTells at k did old.hub.log new.hub.log → Steps HasTold 0 (items_of old) (items_of new) (step_of_group did)
  group_steps at k did.Put told = same_so told
  group_steps at k did.Wait told = same_so told
  group_steps at k did.Sent told = tells_so at 0 _ told
  group_steps at k did.Lost told = tells_so at 0 _ told

-- ---- what they add to the log

module _ (old new : List LogEntry) where
  pub turn_logs : (at worker : ℕ) (turned : Turned) → TurnTells at worker turned old new → LogsBy (step_of turned) old new
  turn_logs at worker (answer.Took job) told = (_, told)
  turn_logs at worker answer.Moved told = told
  turn_logs at worker answer.Wait told = told
  turn_logs at worker (answer.Done job) told = (_, told)
  turn_logs at worker (answer.Failed job) told = (_, told.1)
  turn_logs at worker (answer.Refused job) told = (_, told.3)
  turn_logs at worker answer.Later told = told
  turn_logs at worker answer.NoMore told = told

  pub group_logs : (at k : ℕ) (did : GroupDid) → GroupTells at k did old new → LogsBy (step_of_group did) old new
  group_logs at k did.Put told = told
  group_logs at k did.Wait told = told
  group_logs at k did.Sent told = (_, told)
  group_logs at k did.Lost told = (_, told)

-- ---- whether the hub goes on, in which something was left

module _ {L : Type 0} (old new : Seen L) (devices : new.devices ≡ old.devices) (turns : new.turns ≡ old.turns) (is : new.fault ≡ None) (left : IsLeft old) where
  pub on_so : new.log ≡ old.log → IsOn new
  on_so log = (is, λ all are f. left all (subst (λ ds. AreJobsOf ds all) devices are) (subst (IsFinished all old.turns) log (subst (λ ts. IsFinished all ts new.log) turns f)))

  pub turn_on : (at worker : ℕ) (turned : Turned) → TurnTells at worker turned old.log new.log → GoesOn (step_of turned) new
  turn_on at worker (answer.Took job) told = tt
  turn_on at worker answer.Moved told = on_so told
  turn_on at worker answer.Wait told = on_so told
  turn_on at worker (answer.Done job) told = tt
  turn_on at worker (answer.Failed job) told = tt
  turn_on at worker (answer.Refused job) told = tt
  turn_on at worker answer.Later told = on_so told
  turn_on at worker answer.NoMore told = tt

  pub group_on : (at k : ℕ) (did : GroupDid) → GroupTells at k did old.log new.log → GoesOn (step_of_group did) new
  group_on at k did.Put told = on_so told
  group_on at k did.Wait told = on_so told
  group_on at k did.Sent told = tt
  group_on at k did.Lost told = tt

-- ---- one call after another in a turn

pub none_of : {A : Type 0} (o : Option A) → is_some o ≡ false → o ≡ None
none_of None e = refl
none_of (Some x) e = absurd (let isnt : true ≡ false = e in cc)

-- the list tells its origin
pub opening_same : {L W : Type 0} (a b : SiteSeen L W) → items_of a ≡ items_of b → a.opening ≡ b.opening
opening_same a b e = cc

pub watched_same : {L W : Type 0} (a b : SiteSeen L W) → items_of a ≡ items_of b → a.watched ≡ b.watched
watched_same a b e = cc

pub relay_same : {L W : Type 0} (a b : SiteSeen L W) → items_of a ≡ items_of b → a.relay ≡ b.relay
relay_same a b e = cc

-- ---- a worker has finished by the hub's log, and the telegrams are told by it

module _ {L W : Type 0} (s : SiteSeen L W) where
  pub finished_so : (worker : ℕ) → s.hub.devices ≡ s.opening.value.devices → ((jobs : List Job) → AreJobsOf s.hub.devices jobs → work.HasFinished worker jobs s.hub.log) → HasFinished worker (items_of s)
  finished_so worker devices h other e jobs are =
      let same : s.opening.value ≡ other = (let z : Some s.opening.value ≡ Some other = e in cc) in
      subst (work.HasFinished worker jobs) (sym (log_is s)) (h jobs (subst (λ (ds : List IndAddr). AreJobsOf ds jobs) (sym devices) (subst (λ (x : Seen L). AreJobsOf x.devices jobs) (sym same) are)))

  pub told_so : s.hub.turns ≡ s.opening.value.turns → ¬ TurnUnfinished s.hub.turns s.hub.log → HasTold (items_of s)
  told_so turns h other e u =
      let same : s.opening.value ≡ other = (let z : Some s.opening.value ≡ Some other = e in cc) in
      h (subst (λ (l : List LogEntry). TurnUnfinished s.hub.turns l) (log_is s) (subst (λ (ts : List GroupTurn). TurnUnfinished ts (log_in (items_of s))) (sym turns) (subst (λ (x : Seen L). TurnUnfinished x.turns (log_in (items_of s))) (sym same) u)))
