-- Who has done all that is his has done it however the log goes on, and where each worker has, and the group thread, all is done.
use Rattle.std.proofs.Common.{◌≡◌, ◌≢◌, ⊎_elim, inl, inr, ℕ, ◌≤◌, Bool, true, false, List, [], ◌∷◌, ◌++◌, Some, None, refl, sym, subst, ◌∙◌, arith}
use Rattle.std.specs.Prelude.{◌||◌}
use Rattle.std.proofs.lemmas.Bool.Decides.{nat_tests}
use mathlib.Core.List.{IsPrefix}
use Rattle.knx_model.specs.declared.address.IndAddr.{IndAddr}
use Rattle.line_model.specs.declared.group.GroupTurn.{GroupTurn}
use Rattle.line_model.specs.declared.log.LogEntry.{LogEntry}
use Rattle.line_model.specs.declared.log.LogWhat.{LogWhat}
use Rattle.line_model.specs.declared.log.LogWhat.TheVariants.{Took, Done, Failed, Refused, Sent, Lost}
use Rattle.line_model.specs.Log.{Job, JobState, Untaken, Held, Over, job_of, state_of, takes_it, ends_it, MayFollow, IsLog, TurnUnfinished, has_entry, is_turn}
use Rattle.hub_work.specs.Books.{AreJobsOf}
use Rattle.hub_work.specs.Turns as work
use Rattle.hub_core.specs.Left.{AllDone as HubDone}
use Rattle.hub_core.specs.Seats.{IsOfWorkers}
use Rattle.hub_core.specs.Seen.{Seen}
use Rattle.shared_hub.specs.declared.item.Item.{Item}
use Rattle.shared_hub.specs.Items.{opening_in, log_in, has_ended, HasFinished, HasTold}
use Rattle.shared_hub.specs.Works.{IsDone, WasDone, AllDone}
use Rattle.shared_hub.proofs.Items.{ended_after, opens_after, log_after}

-- ---- one job, as the log goes on

-- a job that is taken isn't taken again
taken_once : (k : ℕ) (jobs : List Job) (turns : List GroupTurn) (by : ℕ) (what : LogWhat) (log : List LogEntry) → MayFollow jobs turns by log what → takes_it k what ≡ true → (job_of jobs k ≢ None) × (state_of k log ≡ Untaken)
taken_once k jobs turns by (Took job) log may takes = (let e : job ≡ k = grind (arith, nat_tests, takes) in subst (λ (j : ℕ). (job_of jobs j ≢ None) × (state_of j log ≡ Untaken)) e (may.0, may.1))
taken_once k jobs turns by (Done job) log may takes = absurd (cc)
taken_once k jobs turns by (Failed job signs) log may takes = absurd (cc)
taken_once k jobs turns by (Refused job op got expected) log may takes = absurd (cc)
taken_once k jobs turns by (Sent turn) log may takes = absurd (cc)
taken_once k jobs turns by (Lost turn) log may takes = absurd (cc)

module _ (worker : ℕ) (jobs : List Job) (turns : List GroupTurn) where
  one_more : (e : LogEntry) (log : List LogEntry) → MayFollow jobs turns e.worker log e.what → work.HasFinished worker jobs log → work.HasFinished worker jobs (e ∷ log)
  one_more e log may h = record {
    all_taken = λ k there. taken k there (takes_it k e.what) (ends_it k e.what) refl refl;
    holds_none = λ k since. held k since (takes_it k e.what) (ends_it k e.what) refl refl;
  } where
    none_takes : (k : ℕ) → takes_it k e.what ≡ true → ⊥
    none_takes k takes = (let t = taken_once k jobs turns e.worker e.what log may takes in h.all_taken k t.0 t.1)

    taken : (k : ℕ) → job_of jobs k ≢ None → (a b : Bool) → takes_it k e.what ≡ a → ends_it k e.what ≡ b → state_of k (e ∷ log) ≢ Untaken
    taken k there true b takes ends = absurd (none_takes k takes)
    taken k there false true takes ends = rw (takes, ends) (λ z. cc)
    taken k there false false takes ends = rw (takes, ends) (h.all_taken k there)

    held : (k since : ℕ) (a b : Bool) → takes_it k e.what ≡ a → ends_it k e.what ≡ b → state_of k (e ∷ log) ≢ Held worker since
    held k since true b takes ends = absurd (none_takes k takes)
    held k since false true takes ends = rw (takes, ends) (λ z. cc)
    held k since false false takes ends = rw (takes, ends) (h.holds_none k since)

  stays_so : (count : ℕ) (more log : List LogEntry) → IsLog jobs turns count (more ++ log) → work.HasFinished worker jobs log → work.HasFinished worker jobs (more ++ log)
  stays_so count [] log is h = h
  stays_so count (e ∷ more) log is h = one_more e (more ++ log) is.0.follows (stays_so count more log is.1 h)

-- who holds a job is one of the workers, from 1, and the job is there
abbrev IsHeldRightly : ℕ → List Job → ℕ → ℕ → Type 0
IsHeldRightly n jobs k by = (job_of jobs k ≢ None) × (1 ≤ by) × (by ≤ n)

takes_from_1 : (k by : ℕ) (jobs : List Job) (turns : List GroupTurn) (log : List LogEntry) (what : LogWhat) → MayFollow jobs turns by log what → takes_it k what ≡ true → 1 ≤ by
takes_from_1 k by jobs turns log (Took job) may takes = may.2
takes_from_1 k by jobs turns log (Done job) may takes = absurd (cc)
takes_from_1 k by jobs turns log (Failed job signs) may takes = absurd (cc)
takes_from_1 k by jobs turns log (Refused job op got expected) may takes = absurd (cc)
takes_from_1 k by jobs turns log (Sent turn) may takes = absurd (cc)
takes_from_1 k by jobs turns log (Lost turn) may takes = absurd (cc)

held_more : (n k : ℕ) (jobs : List Job) (turns : List GroupTurn) (x : LogEntry) (log : List LogEntry) (by since : ℕ) → MayFollow jobs turns x.worker log x.what → x.worker ≤ n → (state_of k log ≡ Held by since → IsHeldRightly n jobs k by) → state_of k (x ∷ log) ≡ Held by since → IsHeldRightly n jobs k by
held_more n k jobs turns x log by since may seat rest e = by_test (takes_it k x.what) (ends_it k x.what) refl refl where
  by_test : (a b : Bool) → takes_it k x.what ≡ a → ends_it k x.what ≡ b → IsHeldRightly n jobs k by
  by_test true b takes ends =
      let held : Held x.worker x.at ≡ Held by since = (let z : state_of k (x ∷ log) ≡ Held x.worker x.at = rw takes refl in sym z ∙ e) in
      let same : x.worker ≡ by = cc in
      subst (λ (w : ℕ). IsHeldRightly n jobs k w) same ((taken_once k jobs turns x.worker x.what log may takes).0, takes_from_1 k x.worker jobs turns log x.what may takes, seat)
  by_test false true takes ends = absurd (let z : state_of k (x ∷ log) ≡ Over = rw (takes, ends) refl in let y : Over ≡ Held by since = sym z ∙ e in cc)
  by_test false false takes ends = rest (let z : state_of k (x ∷ log) ≡ state_of k log = rw (takes, ends) refl in sym z ∙ e)

held_by : (n k count : ℕ) (jobs : List Job) (turns : List GroupTurn) (log : List LogEntry) (by since : ℕ) → IsLog jobs turns count log → IsOfWorkers n log → state_of k log ≡ Held by since → IsHeldRightly n jobs k by
held_by n k count jobs turns [] by since is seats e = absurd (cc)
held_by n k count jobs turns (x ∷ log) by since is seats e = held_more n k jobs turns x log by since is.0.follows seats.0 (λ z. held_by n k count jobs turns log by since is.1 seats.1 z) e

-- ---- the telegrams

told_more : (turns : List GroupTurn) (more log : List LogEntry) → TurnUnfinished turns (more ++ log) → TurnUnfinished turns log
told_more turns [] log u = u
told_more turns (e ∷ more) log u = told_more turns more log (u.0, u.1, by_test (is_turn u.0 e.what) (has_entry u.0 (more ++ log)) u.2) where
  by_test : (a b : Bool) → (a || b) ≡ false → b ≡ false
  by_test true b h = absurd (cc)
  by_test false b h = h

-- ---- a list that goes on

module _ {L W : Type 0} (xs ys : List (Item L W)) (hub : Seen L) (opens : opening_in xs ≡ Some hub) (p : IsPrefix xs ys) where
  same_hub : (other : Seen L) → opening_in ys ≡ Some other → opening_in xs ≡ Some other
  same_hub other e = opens ∙ (sym (opens_after xs ys hub p opens) ∙ e)

  pub told_after : IsDone HasTold xs → IsDone HasTold ys
  told_after d = ⊎_elim (λ h. inl (ended_after xs ys p h)) (λ told. inr (λ other e u. told other (same_hub other e) (told_more other.turns (log_after xs ys p).0 (log_in xs) (subst (TurnUnfinished other.turns) (log_after xs ys p).1 u)))) d

  -- the log of the longer list is one of the hub's jobs
  pub finished_after : (worker count : ℕ) → ((jobs : List Job) → AreJobsOf hub.devices jobs → IsLog jobs hub.turns count (log_in ys)) → IsDone (HasFinished worker) xs → IsDone (HasFinished worker) ys
  finished_after worker count form d = ⊎_elim (λ h. inl (ended_after xs ys p h)) (λ done. inr (λ other e jobs are.
      let same : hub ≡ other = (let z : Some hub ≡ Some other = sym (opens_after xs ys hub p opens) ∙ e in cc) in
      let grown : log_in ys ≡ (log_after xs ys p).0 ++ log_in xs = (log_after xs ys p).1 in
      subst (work.HasFinished worker jobs) (sym grown)
      (stays_so worker jobs hub.turns count (log_after xs ys p).0 (log_in xs) (subst (IsLog jobs hub.turns count) grown (form jobs (subst (λ (h : Seen L). AreJobsOf h.devices jobs) (sym same) are)))
      (done other (same_hub other e) jobs are)))) d

-- ---- all of them

not_ended : {L W : Type 0} (P : List (Item L W) → Type 0) (items : List (Item L W)) → has_ended items ≡ false → IsDone P items → P items
not_ended P items fine (inl e) = absurd (let z : true ≡ false = sym e ∙ fine in cc)
not_ended P items fine (inr h) = h

module _ {L : Type 0} (hub opening : Seen L) (n count : ℕ) (devices : hub.devices ≡ opening.devices) (turns : hub.turns ≡ opening.turns) (form : (jobs : List Job) → AreJobsOf hub.devices jobs → IsLog jobs hub.turns count hub.log) (seats : IsOfWorkers n hub.log) where
  over_by : (jobs : List Job) → AreJobsOf hub.devices jobs → (k : ℕ) → job_of jobs k ≢ None → (s : JobState) → state_of k hub.log ≡ s → 1 ≤ n → ((worker : ℕ) → 1 ≤ worker → worker ≤ n → work.HasFinished worker jobs hub.log) → s ≡ Over
  over_by jobs are k there Untaken e some each = absurd ((each 1 (omega arith) some).all_taken k there e)
  over_by jobs are k there (Held by since) e some each = (let h = held_by n k count jobs hub.turns hub.log by since (form jobs are) seats e in absurd ((each by h.1 h.2).holds_none k since e))
  over_by jobs are k there Over e some each = refl

  module _ {W : Type 0} where
    -- who was done when the list was shorter is done
    finished_now : (items : List (Item L W)) → opening_in items ≡ Some opening → log_in items ≡ hub.log → has_ended items ≡ false → (worker : ℕ) → WasDone (HasFinished worker) items → HasFinished worker items
    finished_now items opens log fine worker was =
        let same : was.hub ≡ opening = (let z : Some was.hub ≡ Some opening = sym (opens_after was.before items was.hub was.begins was.opens) ∙ opens in cc) in
        let right : (jobs : List Job) → AreJobsOf was.hub.devices jobs → IsLog jobs was.hub.turns count (log_in items) = (λ jobs are.
        subst (λ (h : Seen L). IsLog jobs h.turns count (log_in items)) (sym same) (subst (λ (ts : List GroupTurn). IsLog jobs ts count (log_in items)) turns
        (subst (IsLog jobs hub.turns count) (sym log) (form jobs (subst (λ (ds : List IndAddr). AreJobsOf ds jobs) (sym devices) (subst (λ (h : Seen L). AreJobsOf h.devices jobs) same are)))))) in
        not_ended (HasFinished worker) items fine (finished_after was.before items was.hub was.opens was.begins worker count right was.done)

    pub all_over : (items : List (Item L W)) → opening_in items ≡ Some opening → log_in items ≡ hub.log → has_ended items ≡ false → 1 ≤ n → AllDone n items → WasDone HasTold items → HubDone hub
    all_over items opens log fine some each told = record {
      jobs = λ jobs are k there. over_by jobs are k there (state_of k hub.log) refl some (λ worker from_1 within. subst (work.HasFinished worker jobs) log
          (finished_now items opens log fine worker (each worker from_1 within) opening opens jobs (subst (λ (ds : List IndAddr). AreJobsOf ds jobs) devices are)));
      telegrams = λ u. not_ended HasTold items fine (told_after told.before items told.hub told.opens told.begins told.done) opening opens
          (subst (TurnUnfinished opening.turns) (sym log) (subst (λ (ts : List GroupTurn). TurnUnfinished ts hub.log) turns u));
    }

    -- where all is done, each worker has finished
    pub all_finished : HubDone hub → (items : List (Item L W)) → opening_in items ≡ Some opening → log_in items ≡ hub.log → (worker : ℕ) → HasFinished worker items
    all_finished done items opens log worker other e jobs are =
        let same : opening ≡ other = (let z : Some opening ≡ Some other = sym opens ∙ e in cc) in
        let his : AreJobsOf hub.devices jobs = subst (λ (ds : List IndAddr). AreJobsOf ds jobs) (sym devices) (subst (λ (h : Seen L). AreJobsOf h.devices jobs) (sym same) are) in
        subst (work.HasFinished worker jobs) (sym log) (record {
          all_taken = λ k there z. (let y : Over ≡ Untaken = sym (done.jobs jobs his k there) ∙ z in cc);
          holds_none = λ k since z. (let there = (held_by n k count jobs hub.turns hub.log worker since (form jobs his) seats z).0 in let y : Over ≡ Held worker since = sym (done.jobs jobs his k there) ∙ z in cc);
        })
