-- A hub's work fits the record after an entry of its log: a job is taken, a job has ended, a group telegram is told.
use Rattle.std.proofs.Common.{◌≡◌, ◌≢◌, inl, inr, ◌↔◌, ℕ, ◌+◌, ◌-◌, ◌≤◌, eqb, Bool, true, false, List, [], ◌∷◌, length, map, set, Option, Some, None, refl, sym, ap, subst, ◌∙◌, arith}
use Rattle.std.specs.Prelude.{slice_get, if◌then◌else◌}
use Rattle.std.proofs.lemmas.Bool.{cases_eq, eq-eqb, ne_eqb}
use Rattle.std.proofs.lemmas.List.{length-map}
use Rattle.knx_model.specs.declared.address.IndAddr.{IndAddr}
use Rattle.line_model.specs.declared.log.LogEntry.{LogEntry}
use Rattle.line_model.specs.declared.log.LogWhat.{LogWhat}
use Rattle.line_model.specs.declared.log.LogWhat.TheVariants.{Took, Done, Failed, Refused, Sent, Lost}
use Rattle.line_model.specs.Record.{Placed}
use Rattle.line_model.specs.Moments.{Moment, moments, between}
use Rattle.line_model.specs.Log.{Job, JobState, numbered_from_one, Untaken, Held, Over, job_of, turn_of, state_of, turn_place, takes_it, ends_it, is_turn}
use Rattle.line_model.specs.Told.{ToldTruly}
use Rattle.line_model.specs.Ends.{EndsAtRest}
use Rattle.device_reservation.proofs.Numbered.{set_there, set_elsewhere}
use Rattle.download_core.specs.Attempt.{DownloaderState}
use Rattle.download_core.specs.Follows.{flies}
use Rattle.hub_work.specs.declared.crew.Held.{Held as Holds}
use Rattle.hub_work.specs.declared.work.Sender.{Sender}
use Rattle.hub_work.specs.declared.work.Sender.TheVariants.{Nobody, Worker, GroupThread}
use Rattle.hub_work.specs.declared.work.Work.{Work}
use Rattle.hub_work.specs.Books.{AreJobsOf, held_at}
use Rattle.hub_work.specs.Comes.{TookFollows, EndFollows, after_end}
use Rattle.hub_work.specs.Crew.{Holding, holding_in, holdings}
use Rattle.hub_work.specs.Downloaders.{states, downloader_of, task_of, task_of_state, new_downloader}
use Rattle.hub_work.specs.Laws.{Laws}
use Rattle.hub_work.specs.Fits.{Fits, FitsJob, FitsTelegram}
use Rattle.hub_work.specs.Journals.{Written}
use Rattle.hub_work.specs.Telegrams.{Telling}
use Rattle.hub_work.specs.Turns.{EndsJob}
use Rattle.hub_work.proofs.Between.{none_since}
use Rattle.hub_work.proofs.Crews.{same_slot, set_holdings, unheld}
use Rattle.hub_work.proofs.Devices.{is_its_device}
use Rattle.hub_work.proofs.HeldJobs.{before}

abbrev entry : ℕ → ℕ → LogWhat → LogEntry
entry at worker what = record { at = at; worker = worker; what = what }

-- an entry of a job leaves the place of the telegrams
abbrev OfJob : LogWhat → Type 0
OfJob what = (k : ℕ) → is_turn k what ≡ false

place_stays : (k at worker : ℕ) (what : LogWhat) (log : List LogEntry) → OfJob what → turn_place k (entry at worker what ∷ log) ≡ turn_place k log
place_stays k at worker what log none = ap (λ (b : Bool). if b then at else turn_place k log) (none k)

-- ---- a job that goes on, where another worker's slot is written

module _ (old new : Work) (now k worker by : ℕ) (o : Option Holds) (job : Job) (x : List Moment) (j : FitsJob old now x k worker job) (ds : states new.downloaders ≡ states old.downloaders) (crew : new.crew ≡ set old.crew (by - 1) o)
    (apart : worker - 1 ≢ by - 1) (flight : flies j.state.phase ≡ true → new.sender ≡ Worker worker) where
  pub job_stays : FitsJob new now x k worker job
  job_stays = record {
    state = j.state;
    there = ap (λ (all : List DownloaderState). downloader_of all k) ds ∙ j.there;
    device = j.device;
    plan = j.plan;
    from_1 = j.from_1;
    fits = j.fits;
    flight = flight;
    holds =
        ap (λ (c : List (Option Holds)). slice_get (holdings c) (worker - 1)) crew
        ∙ (ap (λ (hs : List (Option Holding)). slice_get hs (worker - 1)) (set_holdings old.crew (by - 1) o)
        ∙ (set_elsewhere (holdings old.crew) (by - 1) (worker - 1) (holding_in o) apart
        ∙ j.holds));
  }

-- ---- a job is taken

same_worker_since : (w s v t : ℕ) → Held w s ≡ Held v t → (w ≡ v) × (s ≡ t)
same_worker_since w s v t e = (cc, cc)

module _ (laws : Laws) (old : Work) (jn : Written) (cr : List (Option Holds)) (at worker job : ℕ) (h : Holds) (log : jn.entries ≡ entry at worker (Took job) ∷ old.journal.entries) (crew : cr ≡ set old.crew (worker - 1) (Some h))
    (its : h.job ≡ job) (unbegun : h.begun ≡ false) (from : 1 ≤ worker) (within : worker ≤ length old.crew) (empty : None ≡ held_at old.crew (worker - 1)) (device : numbered_from_one old.reservation.devices job ≡ Some h.device)
    (free : (jobs : List Job) → AreJobsOf old.reservation.devices jobs → state_of job old.journal.entries ≡ Untaken) where
  abbrev new : Work
  new = record old { journal = jn; crew = cr }

  module _ (jobs : List Job) (places : List Placed) (now : ℕ) (f : Fits jobs old now at (moments places)) where
    taken_job : (b : Job) → job_of jobs job ≡ Some b → FitsJob new now [] job worker b
    taken_job b there = record {
      state = new_downloader (task_of b);
      there = f.untaken job b there (free jobs f.devices);
      device = refl;
      plan = refl;
      from_1 = from;
      fits = laws.begins b.device b.plan now (f.sendable job b there).0 (f.sendable job b there).1;
      flight = λ moves. absurd (cc);
      holds =
          ap (λ (c : List (Option Holds)). slice_get (holdings c) (worker - 1)) crew
          ∙ (ap (λ (hs : List (Option Holding)). slice_get hs (worker - 1)) (set_holdings old.crew (worker - 1) (Some h))
          ∙ (set_there (holdings old.crew) (worker - 1) (holding_in (Some h)) (omega (arith, from, within, length-map old.crew holding_in))
          ∙ (ap (λ k. Some (Some (record { job = k; device = h.device; begun = h.begun }))) its
          ∙ (ap (λ (d : IndAddr). Some (Some (record { job = job; device = d; begun = h.begun }))) (is_its_device jobs old.reservation.devices job b h.device f.devices device there)
          ∙ ap (λ t. Some (Some (record { job = job; device = b.device; begun = t }))) unbegun))));
    }

    held_then : (k w s : ℕ) (b : Job) → job_of jobs k ≡ Some b → (if eqb job k then Held worker at else (if false then Over else state_of k old.journal.entries)) ≡ Held w s → FitsJob new now (between s at (moments places)) k w b
    held_then k w s b there e = elim (cases_eq job k) [
      | inl is ↦ just_taken is (sym (ap (λ t. if t then Held worker at else (if false then Over else state_of k old.journal.entries)) (eq-eqb job k is)) ∙ e)
      | inr apart ↦ held_before (before (eqb job k) false worker at w s (state_of k old.journal.entries) (ne_eqb job k apart) e)
    ]
      where
        just_taken : job ≡ k → Held worker at ≡ Held w s → FitsJob new now (between s at (moments places)) k w b
        just_taken is same =
            let ws : (worker ≡ w) × (at ≡ s) = same_worker_since worker at w s same in
            subst (λ v. FitsJob new now (between s at (moments places)) k v b) ws.0
            (subst (λ t. FitsJob new now (between t at (moments places)) k worker b) ws.1
            (subst (λ (x : List Moment). FitsJob new now x k worker b) (sym (none_since at at (moments places) f.so_far))
            (subst (λ i. FitsJob new now [] i worker b) is (taken_job b (ap (job_of jobs) is ∙ there)))))

        held_before : state_of k old.journal.entries ≡ Held w s → FitsJob new now (between s at (moments places)) k w b
        held_before held =
            let j : FitsJob old now (between s at (moments places)) k w b = f.held k w s b there held in
            job_stays old new now k w worker (Some h) b (between s at (moments places)) j refl crew
            (λ same. unheld old.crew (w - 1) _ (subst (λ p. None ≡ held_at old.crew p) (sym same) empty) j.holds) j.flight

    pub took_fits : Fits jobs new now at (moments places)
    took_fits = record {
      devices = f.devices;
      tasks = f.tasks;
      sendable = f.sendable;
      so_far = f.so_far;
      untaken = λ k b there e. f.untaken k b there (untaken_then k (sym (ap (state_of k) log) ∙ e));
      held = λ k w s b there e. held_then k w s b there (sym (ap (state_of k) log) ∙ e);
      telegram =
          subst (λ p. FitsTelegram (turn_of old.telegrams.turns (old.telegrams.told + 1)) old.telegrams.stage (between p at (moments places)))
          (sym (ap (turn_place old.telegrams.told) log ∙ place_stays old.telegrams.told at worker (Took job) old.journal.entries (λ k. refl))) f.telegram;
      group = f.group;
      free = f.free;
    }
      where
        untaken_then : (k : ℕ) → (if eqb job k then Held worker at else (if false then Over else state_of k old.journal.entries)) ≡ Untaken → state_of k old.journal.entries ≡ Untaken
        untaken_then k e = by_test (eqb job k) e
          where
            by_test : (t : Bool) → (if t then Held worker at else (if false then Over else state_of k old.journal.entries)) ≡ Untaken → state_of k old.journal.entries ≡ Untaken
            by_test true e = absurd (cc)
            by_test false e = e

  pub took_follows : TookFollows at old new
  took_follows jobs places now f = (
    took_fits jobs places now f,
    record {
      truly = λ told. subst (λ (l : List LogEntry). ToldTruly jobs old.telegrams.turns places l) (sym log) (tt, told);
      rests = λ rests. subst (λ (l : List LogEntry). EndsAtRest jobs places l) (sym log) (tt, rests);
    },
  )

-- ---- a job has ended

-- where the entry that ends a job leaves another held, or untaken, it was so before
goes_before : (job k i w s : ℕ) (st : JobState) → i ≡ job → (if eqb i k then Over else st) ≡ Held w s → (k ≢ job) × (st ≡ Held w s)
goes_before job k i w s st is e = by_test (eqb i k) refl e
  where
    by_test : (t : Bool) → eqb i k ≡ t → (if t then Over else st) ≡ Held w s → (k ≢ job) × (st ≡ Held w s)
    by_test true t e = absurd (cc)
    by_test false t e = (λ same. absurd (let yes : eqb i k ≡ true = eq-eqb i k (is ∙ sym same) in cc), e)

untaken_over : (b : Bool) (st : JobState) → (if b then Over else st) ≡ Untaken → st ≡ Untaken
untaken_over true st e = absurd (cc)
untaken_over false st e = e

ended_before : (job k at worker w s : ℕ) (what : LogWhat) (st : JobState) → EndsJob job what → (if takes_it k what then Held worker at else (if ends_it k what then Over else st)) ≡ Held w s → (k ≢ job) × (st ≡ Held w s)
ended_before job k at worker w s (Took i) st ends e = absurd ends
ended_before job k at worker w s (Done i) st ends e = goes_before job k i w s st ends e
ended_before job k at worker w s (Failed i signs) st ends e = goes_before job k i w s st ends e
ended_before job k at worker w s (Refused i op got expected) st ends e = goes_before job k i w s st ends e
ended_before job k at worker w s (Sent i) st ends e = absurd ends
ended_before job k at worker w s (Lost i) st ends e = absurd ends

untaken_before : (job k at worker : ℕ) (what : LogWhat) (st : JobState) → EndsJob job what → (if takes_it k what then Held worker at else (if ends_it k what then Over else st)) ≡ Untaken → st ≡ Untaken
untaken_before job k at worker (Took i) st ends e = absurd ends
untaken_before job k at worker (Done i) st ends e = untaken_over (eqb i k) st e
untaken_before job k at worker (Failed i signs) st ends e = untaken_over (eqb i k) st e
untaken_before job k at worker (Refused i op got expected) st ends e = untaken_over (eqb i k) st e
untaken_before job k at worker (Sent i) st ends e = absurd ends
untaken_before job k at worker (Lost i) st ends e = absurd ends

of_job : (job : ℕ) (what : LogWhat) → EndsJob job what → OfJob what
of_job job (Took i) ends k = absurd ends
of_job job (Done i) ends k = refl
of_job job (Failed i signs) ends k = refl
of_job job (Refused i op got expected) ends k = refl
of_job job (Sent i) ends k = absurd ends
of_job job (Lost i) ends k = absurd ends

group_after : (worker : ℕ) (s : Sender) → (after_end worker s ≡ GroupThread) ↔ (s ≡ GroupThread)
group_after worker Nobody = (λ e. e, λ e. e)
group_after worker (Worker by) = (λ e. absurd (by_test (eqb by worker) e), λ e. absurd (cc))
  where
    by_test : (t : Bool) → (if t then Nobody else Worker by) ≡ GroupThread → ⊥
    by_test true e = cc
    by_test false e = cc
group_after worker GroupThread = (λ e. e, λ e. e)

others_stay : (worker by : ℕ) (s : Sender) → s ≡ Worker by → by ≢ worker → after_end worker s ≡ Worker by
others_stay worker by s e apart = ap (after_end worker) e ∙ ap (λ t. if t then Nobody else Worker by) (ne_eqb by worker apart)

module _ (old new : Work) (at worker : ℕ) (h : Holds) (what : LogWhat) (devices : new.reservation.devices ≡ old.reservation.devices) (ds : new.downloaders ≡ old.downloaders) (telling : new.telegrams ≡ old.telegrams)
    (journal : new.journal.entries ≡ entry at worker what ∷ old.journal.entries) (crew : new.crew ≡ set old.crew (worker - 1) None) (sender : new.sender ≡ after_end worker old.sender)
    (from : 1 ≤ worker) (holds : Some h ≡ held_at old.crew (worker - 1)) (ends : EndsJob h.job what) where
  module _ (jobs : List Job) (places : List Placed) (now : ℕ) (f : Fits jobs old now at (moments places)) where
    held_still : (k w s : ℕ) (b : Job) → job_of jobs k ≡ Some b → (k ≢ h.job) × (state_of k old.journal.entries ≡ Held w s) → FitsJob new now (between s at (moments places)) k w b
    held_still k w s b there e =
        job_stays old new now k w worker None b (between s at (moments places)) j (ap states ds) crew
        (λ same. e.0 (same_slot old.crew h w k b _ (subst (λ p. Some h ≡ held_at old.crew p) (sym same) holds) j.holds))
        (λ moves. sender ∙ others_stay worker w old.sender (j.flight moves) (λ same. e.0 (same_slot old.crew h w k b _ (subst (λ v. Some h ≡ held_at old.crew (v - 1)) (sym same) holds) j.holds)))
      where
        j : FitsJob old now (between s at (moments places)) k w b
        j = f.held k w s b there e.1

    pub end_fits : Fits jobs new now at (moments places)
    end_fits = record {
      devices = f.devices ∙ sym devices;
      tasks = f.tasks ∙ ap (λ d. map task_of_state (states d)) (sym ds);
      sendable = f.sendable;
      so_far = f.so_far;
      untaken = λ k b there e. ap (λ d. downloader_of (states d) k) ds ∙ f.untaken k b there (untaken_before h.job k at worker what (state_of k old.journal.entries) ends (sym (ap (state_of k) journal) ∙ e));
      held = λ k w s b there e. held_still k w s b there (ended_before h.job k at worker w s what (state_of k old.journal.entries) ends (sym (ap (state_of k) journal) ∙ e));
      telegram =
          subst (λ (t : Telling). FitsTelegram (turn_of t.turns (t.told + 1)) t.stage (between (turn_place t.told new.journal.entries) at (moments places))) (sym telling)
          (subst (λ p. FitsTelegram (turn_of old.telegrams.turns (old.telegrams.told + 1)) old.telegrams.stage (between p at (moments places)))
          (sym (ap (turn_place old.telegrams.told) journal ∙ place_stays old.telegrams.told at worker what old.journal.entries (of_job h.job what ends))) f.telegram);
      group = (λ g. ap (λ (t : Telling). t.stage) telling ∙ f.group.0 ((group_after worker old.sender).0 (sym sender ∙ g)), λ u. sender ∙ (group_after worker old.sender).1 (f.group.1 (sym (ap (λ (t : Telling). t.stage) telling) ∙ u)));
      free = λ e. sender ∙ ap (after_end worker) (f.free e);
    }

  pub end_follows : EndFollows at what old new
  end_follows jobs places now f = (
    end_fits jobs places now f,
    λ is_true at_rest. record {
      truly = λ told. subst (λ (t : Telling). ToldTruly jobs t.turns places new.journal.entries) (sym telling) (subst (λ (l : List LogEntry). ToldTruly jobs old.telegrams.turns places l) (sym journal) (is_true, told));
      rests = λ rests. subst (λ (l : List LogEntry). EndsAtRest jobs places l) (sym journal) (at_rest, rests);
    },
  )
