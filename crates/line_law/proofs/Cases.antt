-- At every moment each device keeps its starting content, or is stopped, or runs the image of a load job; and it is untouched before its first one.
use Rattle.std.proofs.Common.{◌≡◌, ℕ, zero, suc, ◌-◌, ◌<◌, List, [], ◌∷◌, ◌++◌, Bool, true, false, ◌&&◌, cond, Some, None, refl, sym, ◌∙◌, ap, subst, inl, inr, arith}
use Rattle.std.specs.Prelude.{◌==◌, nat_lt, slice_get}
use Rattle.std.specs.List.{AllByRecursion}
use Rattle.std.proofs.lemmas.Bool.{or_parts}
use Rattle.knx_model.specs.declared.device.FrameSupport.{FrameSupport}
use Rattle.knx_model.specs.Device.{NonVolatile, HasCapacities, runs, answer_in, effect_in}
use Rattle.knx_model.specs.DeviceState.{DeviceState}
use Rattle.knx_model.specs.GoodPlan.{Answering, IsSendable, Beginning, NotBegun, Then, WholeRun, AtEnd, Goes, kept_by}
use Rattle.knx_model.specs.Plans.{Plan}
use Rattle.line_model.specs.declared.log.LogEntry.{LogEntry}
use Rattle.line_model.specs.declared.log.LogWhat.{LogWhat}
use Rattle.line_model.specs.declared.log.LogWhat.TheVariants.{Took, Done, Failed, Refused, Sent, Lost}
use Rattle.line_model.specs.Headline.{GoodCheck, IsGoodJob}
use Rattle.line_model.specs.Log.{Job, Untaken, Held, Over, job_of, log_before, takes_it, ends_it, state_after, state_of}
use Rattle.line_model.specs.OldStoppedOrNew.{RunsJob, OldStoppedOr, loads_device, takes_load, load_taken}
use Rattle.line_model.specs.World.{World, Event, me}
use Rattle.session_law.specs.World.{World as SessionWorld, fresh}
use Rattle.session_law.specs.Events.{Event as SessionEvent, replay, IsLegal}
use Rattle.session_law.proofs.Books.{Books, empty, books}
use Rattle.session_law.proofs.Steps.{WorldInv, fresh_inv, always}
use Rattle.load_law.specs.Download.{MayAsk, Follows}
use Rattle.knx_model.proofs.Capacities.{kept_capacities}
use Rattle.load_law.proofs.Walked.{AllGoodFor}
use Rattle.load_law.proofs.Follows.{LoadInv, load_always, fresh_load}
use Rattle.load_law.proofs.Checked.{ChangesNothing, Unchanged, unchanged_step}
use Rattle.line_law.proofs.HeldJobs.{HeldPlan}
use Rattle.line_law.proofs.Runs.{Trace, replay_more, trace_legal, trace_follows}

-- ---- the jobs of a device

all_at : (jobs : List Job) (n : ℕ) (job : Job) → AllByRecursion IsGoodJob jobs → slice_get jobs n ≡ Some job → IsGoodJob job
all_at [] n job h e = absurd (cc)
all_at (j ∷ jobs) zero job h e = (let same : j ≡ job = cc in subst IsGoodJob same h.0)
all_at (j ∷ jobs) (suc n) job h e = all_at jobs n job h.1 e

numbered_at : (jobs : List Job) (k : ℕ) (b : Bool) (job : Job) → AllByRecursion IsGoodJob jobs → cond b None (slice_get jobs (k - 1)) ≡ Some job → IsGoodJob job
numbered_at jobs k true job h e = absurd (cc)
numbered_at jobs k false job h e = all_at jobs (k - 1) job h e

pub good_job : (jobs : List Job) (k : ℕ) (job : Job) → AllByRecursion IsGoodJob jobs → job_of jobs k ≡ Some job → IsGoodJob job
good_job jobs k job h e = numbered_at jobs k (k == 0) job h e

pub record OfDevice (jobs : List Job) (a : ℕ) (plan : Plan) : Type 0 where
  pub number : ℕ
  pub job : Job
  pub there : job_of jobs number ≡ Some job
  pub of_device : job.device.raw ≡ a
  pub plan_is : plan ≡ job.plan

abbrev pub Case : List Job → ℕ → NonVolatile → NonVolatile → Type 0
Case jobs a first nv = OldStoppedOr (RunsJob jobs a) first nv

-- what the plan of a job is for
abbrev pub Ends : List Job → ℕ → Plan → NonVolatile → Type 0
Ends jobs a plan nv = (p : OfDevice jobs a plan) → runs nv ≡ Some p.job.image

begins_so : (answers : Answering) (plan : Plan) (start end : NonVolatile) → WholeRun answers plan start end → Beginning answers plan start end
begins_so answers _ _ _ (AtEnd nv) = NotBegun _ nv
begins_so answers _ _ _ (Goes place apdu expect next nv outcome end whole_ suits rest) = Then place apdu expect next nv outcome end whole_ suits (begins_so answers (next (answers nv apdu)) (kept_by nv apdu outcome) end rest)

module _ (jobs : List Job) (good : AllByRecursion IsGoodJob jobs) (a : ℕ) (first : NonVolatile) where
  case_on : (plan : Plan) (p : OfDevice jobs a plan) (b : Bool) → p.job.loads ≡ b → (frames : FrameSupport) (start end : NonVolatile) → Case jobs a first start → Beginning (answer_in frames) p.job.plan start end → Case jobs a first end
  case_on plan p true l frames start end case b =
      elim (((good_job jobs p.number p.job good p.there).load l).beginnings frames start end b) [
        | inl same ↦ subst (Case jobs a first) (sym same) case
        | inr (inl stopped) ↦ inr (inl stopped)
        | inr (inr new) ↦ inr (inr (record { number = p.number; job = p.job; there = p.there; load = l; of_device = p.of_device; runs_it = new }))
      ]
  case_on plan p false l frames start end case b = subst (Case jobs a first) (sym (((good_job jobs p.number p.job good p.there).check l).changes_nothing frames start end b)) case

  ends_on : (job : Job) (k : ℕ) (b : Bool) → job_of jobs k ≡ Some job → job.loads ≡ b → (frames : FrameSupport) (start end : NonVolatile) → HasCapacities start → WholeRun (answer_in frames) job.plan start end → runs end ≡ Some job.image
  ends_on job k true there l frames start end holds r = ((good_job jobs k job good there).load l).whole_runs frames start end r
  ends_on job k false there l frames start end holds r =
      let check : GoodCheck job.plan job.image = (good_job jobs k job good there).check l in
      ap runs (check.changes_nothing frames start end (begins_so (answer_in frames) job.plan start end r)) ∙ check.tells frames start end holds r

  pub plans_good : AllGoodFor (OfDevice jobs a) HasCapacities (Case jobs a first) (Ends jobs a)
  plans_good = record {
    kept = λ nv apdu outcome holds. kept_capacities nv (effect_in apdu) outcome holds;
    good = λ plan p. record {
      beginnings = λ frames start end holds case b. case_on plan p p.job.loads refl frames start end case (subst (λ z. Beginning (answer_in frames) z start end) p.plan_is b);
      whole_runs = λ frames start end holds case r. λ q. ends_on q.job q.number q.job.loads q.there refl frames start end holds (subst (λ z. WholeRun (answer_in frames) z start end) q.plan_is r);
    };
    sendable = λ plan p. subst IsSendable (sym p.plan_is) (good_job jobs p.number p.job good p.there).sendable;
  }

-- ---- a session's run

pub held_of : (jobs : List Job) (log : List LogEntry) (a : ℕ) (plan : Plan) → HeldPlan jobs log a plan → OfDevice jobs a plan
held_of jobs log a plan h = record { number = h.0.number; job = h.0.job; there = h.0.there; of_device = h.0.of_device; plan_is = h.1 }

pub load_now : (jobs : List Job) (good : AllByRecursion IsGoodJob jobs) (log : List LogEntry) (a : ℕ) (start : World) (d : DeviceState) (events : List Event) (past : List SessionEvent) → Trace jobs log a start d events past → HasCapacities d.kept
    → LoadInv (OfDevice jobs a) HasCapacities (Case jobs a d.kept) (Ends jobs a) d.frames (plans_good jobs good a d.kept) (replay (fresh (me start) d) past) (books (fresh (me start) d) past)
load_now jobs good log a start d events past t capacities =
    load_always (OfDevice jobs a) HasCapacities (Case jobs a d.kept) (Ends jobs a) d.frames (plans_good jobs good a d.kept) (fresh (me start) d) past (fresh_inv (me start) d)
    (fresh_load (OfDevice jobs a) HasCapacities (Case jobs a d.kept) (Ends jobs a) d.frames (plans_good jobs good a d.kept) (me start) d refl (inl refl) capacities) (trace_legal t) (trace_follows (OfDevice jobs a) (λ n lt plan h. held_of jobs (log_before (suc n) log) a plan h) t)

-- ---- from a settled moment on, while only checks are gone through

abbrev pub IsCheck : Plan → Type 0
IsCheck plan = ChangesNothing plan × IsSendable plan

abbrev pub Unmoved : NonVolatile → FrameSupport → SessionWorld → Books → Type 0
Unmoved first frames w b = Unchanged IsCheck (λ plan h. h.0) (λ plan h. h.1) first frames w b

pub unmoved_more : (first : NonVolatile) (frames : FrameSupport) (start : SessionWorld) (more past : List SessionEvent) → WorldInv start empty → IsLegal start (more ++ past) → Follows IsCheck (replay start past) more → Unmoved first frames (replay start past) (books start past)
    → Unmoved first frames (replay start (more ++ past)) (books start (more ++ past))
unmoved_more first frames start [] past inv legal f h = h
unmoved_more first frames start (e ∷ more) past inv legal f h =
    unchanged_step IsCheck (λ plan q. q.0) (λ plan q. q.1) first frames (replay start (more ++ past)) (books start (more ++ past)) e legal.0
    (subst (λ q. MayAsk IsCheck q e) (sym (replay_more start more past)) f.0) (always start (more ++ past) inv legal.1) (unmoved_more first frames start more past inv legal.1 f.1 h)

-- ---- a job that is held was taken

pub taken_by : (jobs : List Job) (a k number : ℕ) (e : LogEntry) (job : Job) → takes_it number e.what ≡ true → job_of jobs number ≡ Some job → job.device.raw ≡ a → takes_load jobs a e.what ≡ job.loads
taken_by jobs a k number e job t there of = by_what e.what t where
  eqb_is : (x y : ℕ) → (x == y) ≡ true → x ≡ y
  eqb_is x y h = grind (arith, h)

  is_eqb : (x y : ℕ) → x ≡ y → (x == y) ≡ true
  is_eqb x y h = grind (arith, h)

  and_true : (b c : Bool) → c ≡ true → (b && c) ≡ b
  and_true true c h = h
  and_true false c h = refl

  by_what : (what : LogWhat) → takes_it number what ≡ true → takes_load jobs a what ≡ job.loads
  by_what (Took j) h = ap (λ z. loads_device a (job_of jobs z)) (eqb_is j number h) ∙ ap (loads_device a) there ∙ and_true job.loads (job.device.raw == a) (is_eqb job.device.raw a of)
  by_what (Done j) h = absurd (cc)
  by_what (Failed j signs) h = absurd (cc)
  by_what (Refused j op got expected) h = absurd (cc)
  by_what (Sent j) h = absurd (cc)
  by_what (Lost j) h = absurd (cc)

pub and_false : (b c : Bool) → (b && c) ≡ false → b ≡ true → c ≡ false
and_false true c h e = h
and_false false c h e = absurd (cc)

-- a load that is held at a moment before k was taken before k
pub no_load : (jobs : List Job) (a k n number worker since : ℕ) (job : Job) (log : List LogEntry) → load_taken jobs a k log ≡ false → n < k → state_of number (log_before (suc n) log) ≡ Held worker since → job_of jobs number ≡ Some job → job.device.raw ≡ a → job.loads ≡ false
no_load jobs a k n number worker since job [] none lt held there of = absurd (let z : Untaken ≡ Held worker since = held in cc)
no_load jobs a k n number worker since job (e ∷ log) none lt held there of =
    let parts = or_parts (nat_lt e.at k && takes_load jobs a e.what) (load_taken jobs a k log) none in
    by_before (nat_lt e.at (suc n)) refl parts.0 (λ was. no_load jobs a k n number worker since job log parts.1 lt was there of)
  where
    in_time : nat_lt e.at (suc n) ≡ true → nat_lt e.at k ≡ true
    in_time h = grind (arith, h, lt)

    by_entry : (b : Bool) → takes_it number e.what ≡ b → nat_lt e.at (suc n) ≡ true → (nat_lt e.at k && takes_load jobs a e.what) ≡ false → state_after number e (state_of number (log_before (suc n) log)) ≡ Held worker since → (state_of number (log_before (suc n) log) ≡ Held worker since → job.loads ≡ false) → job.loads ≡ false
    by_entry true t h f s g = sym (taken_by jobs a k number e job t there of) ∙ and_false (nat_lt e.at k) (takes_load jobs a e.what) f (in_time h)
    by_entry false t h f s g = by_end (ends_it number e.what) refl where
      by_end : (b : Bool) → ends_it number e.what ≡ b → job.loads ≡ false
      by_end true q = absurd (let z : Over ≡ Held worker since = sym (let y : state_after number e (state_of number (log_before (suc n) log)) ≡ Over = rw t (rw q refl) in y) ∙ s in cc)
      by_end false q = g (sym (let y : state_after number e (state_of number (log_before (suc n) log)) ≡ state_of number (log_before (suc n) log) = rw t (rw q refl) in y) ∙ s)

    by_before : (b : Bool) → nat_lt e.at (suc n) ≡ b → (nat_lt e.at k && takes_load jobs a e.what) ≡ false → (state_of number (log_before (suc n) log) ≡ Held worker since → job.loads ≡ false) → job.loads ≡ false
    by_before true h f g = by_entry (takes_it number e.what) refl h f (sym (ap (λ b. state_of number (cond {A = List LogEntry} b (e ∷ log_before (suc n) log) (log_before (suc n) log))) h) ∙ held) g
    by_before false h f g = g (sym (ap (λ b. state_of number (cond {A = List LogEntry} b (e ∷ log_before (suc n) log) (log_before (suc n) log))) h) ∙ held)
