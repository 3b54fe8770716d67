-- Each entry of the log keeps what rides on a calm line: a job is taken where no attempt runs at its device, and its end is told where none does.
use Rattle.std.proofs.Common.{◌≡◌, ◌≢◌, ℕ, List, [], ◌∷◌, ◌++◌, Bool, true, false, cond, Option, Some, None, refl, sym, ◌∙◌, ap, subst, inl}
use Rattle.std.specs.Prelude.{◌==◌}
use Rattle.std.proofs.lemmas.Bool.{eq-eqb, eqb-true}
use Rattle.knx_model.specs.declared.address.IndAddr.{IndAddr}
use Rattle.knx_model.specs.declared.frames.cemi.Ldata.{Ldata}
use Rattle.knx_model.specs.DeviceState.{DeviceState}
use Rattle.knx_model.specs.Plans.{Plan}
use Rattle.line_model.specs.declared.group.GroupTurn.{GroupTurn}
use Rattle.line_model.specs.declared.log.LogEntry.{LogEntry}
use Rattle.line_model.specs.declared.log.LogWhat.{LogWhat}
use Rattle.line_model.specs.declared.log.LogWhat.TheVariants.{Took, Done, Failed, Refused, Sent, Lost}
use Rattle.line_model.specs.Attempts.{attempts}
use Rattle.line_model.specs.Ends.{IsAtRest, EndsSo}
use Rattle.line_model.specs.Haste.{has_just_waited}
use Rattle.line_model.specs.Log.{Job, Untaken, Held, job_of, takes_it, ends_it, state_of, MayFollow, SameDevice, IsFree, TakesFree}
use Rattle.line_model.specs.Moments.{Moment, moments, between, stretches}
use Rattle.line_model.specs.Record.{Placed, entries}
use Rattle.line_model.specs.Told.{OfJob}
use Rattle.line_model.specs.Waiting.{IsResting, attempts_of}
use Rattle.calm_law.proofs.Phases.{Phase, Rests, items_of, fly_at, Line}
use Rattle.calm_law.proofs.Books.{tried}
use Rattle.calm_law.proofs.Rows.{Devices, Row, Willing, items_in, fly_to}
use Rattle.calm_law.proofs.Spending.{nothing_spent}
use Rattle.calm_law.proofs.Held.{HeldJob, IsTo, TakesIt, EndsIt, Else, is_to, after_other, took_since, ended_not, after, AreUpto, after_last}
use Rattle.calm_law.proofs.Sessions.{OfHeld, Whole}
use Rattle.calm_law.proofs.JoinedTime.{phase_rests, rest_of_both}

-- ---- one device: a new job, and no attempt

pub row_anew : (me : IndAddr) (a : ℕ) (plan other : Plan) (old : Option DeviceState) (l : List Moment) (fly : Option Ldata) (q : List Ldata) (d : DeviceState) (now : ℕ) → Row me a plan old l fly q d now → IsResting (tried a plan l) → Row me a other (Some d) [] fly q d now
row_anew me a plan other old l fly q d now row rest = rested row.phase (phase_rests me d.address plan row.k row.n row.e now row.phase (subst IsResting row.line.attempts_are rest)) row.line row.flies where
  rested : (phase : Phase) → phase ≡ Rests → Line me d.address plan row.k row.n row.e phase (tried a plan l) (items_in a q ++ items_of d.unsent) d.connection d.frames d.kept now → fly_at row.n phase ≡ fly_to a fly → Row me a other (Some d) [] fly q d now
  rested phase e x flies =
      let m : Line me d.address plan row.k row.n row.e Rests (tried a plan l) (items_in a q ++ items_of d.unsent) d.connection d.frames d.kept now
      = subst (λ z. Line me d.address plan row.k row.n row.e z (tried a plan l) (items_in a q ++ items_of d.unsent) d.connection d.frames d.kept now) e x in
      record {
        k = 0;
        n = row.n;
        e = row.e;
        phase = Rests;
        flies = ap (fly_at row.n) (sym e) ∙ flies;
        line = record { attempts_are = refl; stream_is = m.stream_is; connection_is = m.connection_is; good = tt; numbers = m.numbers };
        books = nothing_spent (Willing other (Some d)) a other row.n row.e (inl (refl, refl));
        wants = λ zero w. w;
        address = row.address;
        power = row.power;
      }

-- ---- a job that is held after an entry and isn't taken by it was held before

pub held_older : (jobs : List Job) (e : LogEntry) (older : List LogEntry) (a : ℕ) (h : HeldJob jobs (e ∷ older) a) → takes_it h.number e.what ≡ false → state_of h.number older ≡ Held h.worker h.since
held_older jobs e older a h no_take = by_entry (is_to h.number e) where
  by_entry : IsTo h.number e → state_of h.number older ≡ Held h.worker h.since
  by_entry (TakesIt t) = absurd (let c : false ≡ true = sym no_take ∙ t in cc)
  by_entry (EndsIt t d) = absurd (ended_not h.number e (state_of h.number older) h.worker h.since t d h.held)
  by_entry (Else t d) = sym (after_other h.number e (state_of h.number older) t d) ∙ h.held

abbrev pub as_before : (jobs : List Job) (e : LogEntry) (older : List LogEntry) (a : ℕ) (h : HeldJob jobs (e ∷ older) a) → takes_it h.number e.what ≡ false → HeldJob jobs older a
as_before jobs e older a h no_take = record { number = h.number; job = h.job; worker = h.worker; since = h.since; there = h.there; of_device = h.of_device; held = held_older jobs e older a h no_take }

module _ (jobs : List Job) (then : ℕ → Devices) (turns : List GroupTurn) (me : IndAddr) (full places : List Placed) (n : ℕ) (upto : AreUpto n (moments places)) (link : (since : ℕ) → between since n (moments full) ≡ after since (moments places)) (devices : Devices) (is_now : (a : ℕ) → devices a ≡ then n a) (now : ℕ) (fly : Option Ldata) (q : List Ldata) (older : List LogEntry) (e : LogEntry) (at : e.at ≡ n)
    (w : Whole jobs then me older places devices now fly q) where
  abbrev Next : Type 0
  Next = Whole jobs then me (e ∷ older) places devices now fly q

  -- ---- an entry that takes no job: those that are held were held, and where one ended none runs

  untaken : ((k : ℕ) → takes_it k e.what ≡ false) → ((a : ℕ) (h : HeldJob jobs older a) → (HeldJob jobs (e ∷ older) a → ⊥) → IsResting (tried a (w.plans a) (w.since a))) → Next
  untaken none rest =
      record {
        plans = w.plans;
        olds = w.olds;
        since = w.since;
        riders = w.riders;
        held = λ a h. held_so a h (w.held a (as_before jobs e older a h (none h.number)));
        free = λ a no_job. rest_of_both (HeldJob jobs older a) (tried a (w.plans a) (w.since a)) (λ h. rest a h no_job) (w.free a);
        lands = w.lands;
        fresh = w.fresh;
        waited = λ just a h. w.waited just a (as_before jobs e older a h (none h.number));
      }
    where
      held_so : (a : ℕ) (h : HeldJob jobs (e ∷ older) a) → OfHeld jobs then older places a (as_before jobs e older a h (none h.number)) (w.plans a) (w.olds a) (w.since a) → OfHeld jobs then (e ∷ older) places a h (w.plans a) (w.olds a) (w.since a)
      held_so a h o = record { plan_is = o.plan_is; old_is = o.old_is; since_is = o.since_is }

  -- nor ends one
  nothing_ends : ((k : ℕ) → takes_it k e.what ≡ false) → ((k : ℕ) → ends_it k e.what ≡ false) → Next
  nothing_ends none no_end =
      untaken none (λ a h no_job. absurd (no_job (record { number = h.number; job = h.job; worker = h.worker; since = h.since; there = h.there; of_device = h.of_device; held = after_other h.number e (state_of h.number older) (none h.number) (no_end h.number) ∙ h.held })))

  -- ---- the end of a job is told

  pub ends_at_rest : (k : ℕ) (a : ℕ) (h : HeldJob jobs older a) → h.number ≡ k → IsAtRest jobs full older e.at k → IsResting (tried a (w.plans a) (w.since a))
  ends_at_rest k a h same rest =
      let o = w.held a h in
      let there : IsAtRest jobs full older e.at h.number = subst (IsAtRest jobs full older e.at) (sym same) rest in
      let one : OfJob (λ job since. IsResting (attempts_of job since e.at full)) (Some h.job) (Held h.worker h.since)
      = subst (λ z. OfJob (λ job since. IsResting (attempts_of job since e.at full)) (Some h.job) z) h.held (subst (λ z. OfJob (λ job since. IsResting (attempts_of job since e.at full)) z (state_of h.number older)) h.there there) in
      let l_is : between h.since e.at (moments full) ≡ w.since a = ap (λ z. between h.since z (moments full)) at ∙ link h.since ∙ sym o.since_is in
      let same_tried : attempts_of h.job h.since e.at full ≡ tried a (w.plans a) (w.since a)
      = ap (λ z. attempts h.job.device h.job.plan z) l_is ∙ ap (λ (z : ℕ). attempts (record { raw = z }) h.job.plan (w.since a)) h.of_device ∙ ap (λ z. tried a z (w.since a)) (sym o.plan_is) in
      subst IsResting same_tried one

  job_ends : (k : ℕ) → ((j : ℕ) → takes_it j e.what ≡ false) → ((j : ℕ) → ends_it j e.what ≡ (k == j)) → IsAtRest jobs full older e.at k → Next
  job_ends k none its rest = untaken none by_job where
    by_number : (a : ℕ) (h : HeldJob jobs older a) → (HeldJob jobs (e ∷ older) a → ⊥) → (b : Bool) → (k == h.number) ≡ b → IsResting (tried a (w.plans a) (w.since a))
    by_number a h no_job true same = ends_at_rest k a h (sym (eqb-true k h.number same)) rest
    by_number a h no_job false other =
        absurd (no_job (record { number = h.number; job = h.job; worker = h.worker; since = h.since; there = h.there; of_device = h.of_device; held = after_other h.number e (state_of h.number older) (none h.number) (its h.number ∙ other) ∙ h.held }))

    by_job : (a : ℕ) (h : HeldJob jobs older a) → (HeldJob jobs (e ∷ older) a → ⊥) → IsResting (tried a (w.plans a) (w.since a))
    by_job a h no_job = by_number a h no_job (k == h.number) refl

  -- ---- a job is taken

  module _ (k : ℕ) (what : e.what ≡ Took k) (job : Job) (there : job_of jobs k ≡ Some job) (untaken_before : state_of k older ≡ Untaken) (free_before : IsFree jobs older k) where
    abbrev b : ℕ
    b = job.device.raw

    abbrev new_plan : ℕ → Plan
    new_plan a = cond (a == b) job.plan (w.plans a)

    abbrev new_old : ℕ → Option DeviceState
    new_old a = cond (a == b) (devices a) (w.olds a)

    abbrev new_since : ℕ → List Moment
    new_since a = cond (a == b) [] (w.since a)

    same_device : (o p : Option Job) (j i : Job) → o ≡ Some j → p ≡ Some i → j.device.raw ≡ i.device.raw → SameDevice o p
    same_device None p j i x y s = absurd (cc)
    same_device (Some u) None j i x y s = absurd (cc)
    same_device (Some u) (Some v) j i x y s = let f : u ≡ j = cc in let g : v ≡ i = cc in ap (λ (z : Job). z.device.raw) f ∙ s ∙ sym (ap (λ (z : Job). z.device.raw) g)

    -- no job of its device is held
    none_there : (a : ℕ) → (a == b) ≡ true → HeldJob jobs older a → ⊥
    none_there a here h =
        free_before.alone h.number h.worker h.since (same_device (job_of jobs k) (job_of jobs h.number) job h.job there h.there (sym (eqb-true a b here) ∙ sym h.of_device)) h.held

    not_it : (j : ℕ) → (k == j) ≡ false → takes_it j e.what ≡ false
    not_it j other = ap (takes_it j) what ∙ other

    is_it : (j : ℕ) → (k == j) ≡ true → takes_it j e.what ≡ true
    is_it j same = ap (takes_it j) what ∙ same

    ends_none : (j : ℕ) → ends_it j e.what ≡ false
    ends_none j = ap (ends_it j) what

    -- the job itself
    its_device : (a : ℕ) (h : HeldJob jobs (e ∷ older) a) → (k == h.number) ≡ true → (h.job ≡ job) × ((a == b) ≡ true) × (h.since ≡ n)
    its_device a h same =
        let number : k ≡ h.number = eqb-true k h.number same in
        let is : h.job ≡ job = (let x : Some h.job ≡ Some job = sym h.there ∙ ap (job_of jobs) (sym number) ∙ there in cc) in
        (is, eq-eqb a b (sym h.of_device ∙ ap (λ (z : Job). z.device.raw) is), took_since h.number e (state_of h.number older) h.worker h.since (is_it h.number same) h.held ∙ at)

    held_by : (a : ℕ) (h : HeldJob jobs (e ∷ older) a) → (same : Bool) → (k == h.number) ≡ same → (here : Bool) → (a == b) ≡ here → OfHeld jobs then (e ∷ older) places a h (cond here job.plan (w.plans a)) (cond here (devices a) (w.olds a)) (cond here [] (w.since a))
    held_by a h true same true at_b =
        let x = its_device a h same in
        record { plan_is = ap (λ (z : Job). z.plan) (sym x.0); old_is = is_now a ∙ ap (λ z. then z a) (sym x.2); since_is = sym (after_last n (moments places) upto) ∙ ap (λ z. after z (moments places)) (sym x.2) }
    held_by a h true same false at_b = absurd (let x = its_device a h same in let c : true ≡ false = sym x.1 ∙ at_b in cc)
    held_by a h false other true at_b = absurd (none_there a at_b (as_before jobs e older a h (not_it h.number other)))
    held_by a h false other false at_b = held_so a h (not_it h.number other) (w.held a (as_before jobs e older a h (not_it h.number other))) where
      held_so : (a : ℕ) (h : HeldJob jobs (e ∷ older) a) (no_take : takes_it h.number e.what ≡ false) → OfHeld jobs then older places a (as_before jobs e older a h no_take) (w.plans a) (w.olds a) (w.since a) → OfHeld jobs then (e ∷ older) places a h (w.plans a) (w.olds a) (w.since a)
      held_so a h no_take o = record { plan_is = o.plan_is; old_is = o.old_is; since_is = o.since_is }

    row_by : (a : ℕ) (d : DeviceState) → devices a ≡ Some d → Row me a (w.plans a) (w.olds a) (w.since a) fly q d now → (here : Bool) → (a == b) ≡ here → Row me a (cond here job.plan (w.plans a)) (cond here (devices a) (w.olds a)) (cond here [] (w.since a)) fly q d now
    row_by a d is row true at_b = subst (λ z. Row me a job.plan z [] fly q d now) (sym is) (row_anew me a (w.plans a) job.plan (w.olds a) (w.since a) fly q d now row (w.free a (none_there a at_b)))
    row_by a d is row false at_b = row

    still_held : (a : ℕ) → HeldJob jobs older a → HeldJob jobs (e ∷ older) a
    still_held a h = by_number (k == h.number) refl where
      by_number : (same : Bool) → (k == h.number) ≡ same → HeldJob jobs (e ∷ older) a
      by_number true same = absurd (let c : Untaken ≡ Held h.worker h.since = sym untaken_before ∙ ap (λ z. state_of z older) (eqb-true k h.number same) ∙ h.held in cc)
      by_number false other =
          record { number = h.number; job = h.job; worker = h.worker; since = h.since; there = h.there; of_device = h.of_device; held = after_other h.number e (state_of h.number older) (not_it h.number other) (ends_none h.number) ∙ h.held }

    free_by : (a : ℕ) → (HeldJob jobs (e ∷ older) a → ⊥) → (here : Bool) → (a == b) ≡ here → IsResting (tried a (cond here job.plan (w.plans a)) (cond here [] (w.since a)))
    free_by a none true at_b = tt
    free_by a none false at_b = w.free a (λ h. none (still_held a h))

    none_by : (a : ℕ) → (here : Bool) → ((a == b) ≡ here → here ≡ false → stretches a (w.since a) ≡ []) → (a == b) ≡ here → stretches a (cond here [] (w.since a)) ≡ []
    none_by a true f at_b = refl
    none_by a false f at_b = f at_b refl

    waited_by : has_just_waited (entries places) ≡ true → (a : ℕ) (h : HeldJob jobs (e ∷ older) a) → (same : Bool) → (k == h.number) ≡ same → (a == b) ≡ false → stretches a (w.since a) ≡ []
    waited_by just a h true same other = absurd (let x = its_device a h same in let c : true ≡ false = sym x.1 ∙ other in cc)
    waited_by just a h false apart other = w.waited just a (as_before jobs e older a h (not_it h.number apart))

    job_taken : Next
    job_taken =
        record {
          plans = new_plan;
          olds = new_old;
          since = new_since;
          riders = record { rows = λ a d is. row_by a d is (w.riders.rows a d is) (a == b) refl; told = w.riders.told; one = w.riders.one };
          held = λ a h. held_by a h (k == h.number) refl (a == b) refl;
          free = λ a none. free_by a none (a == b) refl;
          lands = w.lands;
          fresh = λ is a. none_by a (a == b) (λ x y. w.fresh is a) refl;
          waited = λ just a h. none_by a (a == b) (λ x y. waited_by just a h (k == h.number) refl (x ∙ y)) refl;
        }

  -- ---- whichever it is

  pub entry_whole : MayFollow jobs turns e.worker older e.what → TakesFree jobs older e.what → EndsSo jobs full older e.at e.what → Next
  entry_whole may free ends = by_what e.what refl may free ends where
    taken_by : (k : ℕ) → e.what ≡ Took k → (o : Option Job) → job_of jobs k ≡ o → o ≢ None → state_of k older ≡ Untaken → IsFree jobs older k → Next
    taken_by k what None is there free_state alone = absurd (there refl)
    taken_by k what (Some job) is there free_state alone = job_taken k what job is free_state alone

    by_what : (what : LogWhat) → e.what ≡ what → MayFollow jobs turns e.worker older what → TakesFree jobs older what → EndsSo jobs full older e.at what → Next
    by_what (Took k) is m f x = taken_by k is (job_of jobs k) refl m.0 m.1 f
    by_what (Done k) is m f x = job_ends k (λ j. ap (takes_it j) is) (λ j. ap (ends_it j) is) x
    by_what (Failed k signs) is m f x = job_ends k (λ j. ap (takes_it j) is) (λ j. ap (ends_it j) is) x
    by_what (Refused k op got expected) is m f x = job_ends k (λ j. ap (takes_it j) is) (λ j. ap (ends_it j) is) x
    by_what (Sent k) is m f x = nothing_ends (λ j. ap (takes_it j) is) (λ j. ap (ends_it j) is)
    by_what (Lost k) is m f x = nothing_ends (λ j. ap (takes_it j) is) (λ j. ap (ends_it j) is)
