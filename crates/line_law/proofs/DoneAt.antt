-- Where done is told of a job, its device runs the job's image, and nothing is asked that isn't delivered.
use Rattle.std.proofs.Common.{◌≡◌, ℕ, suc, ◌<◌, ◌≤◌, ◌⊎◌, List, [], ◌∷◌, ◌++◌, length, Some, refl, sym, ◌∙◌, ap, subst, inl, inr, arith}
use Rattle.std.specs.List.{AllByRecursion}
use Rattle.knx_model.specs.Device.{NonVolatile, HasCapacities, runs}
use Rattle.knx_model.specs.DeviceState.{DeviceState}
use Rattle.knx_model.specs.Plans.{Plan}
use Rattle.line_model.specs.declared.group.GroupTurn.{GroupTurn}
use Rattle.line_model.specs.declared.log.LogEntry.{LogEntry}
use Rattle.line_model.specs.declared.log.LogWhat.TheVariants.{Done}
use Rattle.line_model.specs.Headline.{IsGoodJob}
use Rattle.line_model.specs.Log.{Job, JobState, Untaken, Held, Over, job_of, log_before, state_of, IsLog, OneDownloaderPerDevice}
use Rattle.line_model.specs.Moments.{Moment, moments, between, stretches, course, session}
use Rattle.line_model.specs.OldStoppedOrNew.{first_events}
use Rattle.line_model.specs.Record.{placed}
use Rattle.line_model.specs.Told.{last_stretch, session_since, WentThrough, OfJob, OfHeld, ToldTruly, IsTrue}
use Rattle.line_model.specs.World.{World, Event, me}
use Rattle.session_law.specs.World.{World as SessionWorld, fresh}
use Rattle.session_law.specs.Events.{Event as SessionEvent, replay, IsLegal}
use Rattle.session_law.proofs.Books.{books}
use Rattle.session_law.proofs.Steps.{WorldInv, fresh_inv, always}
use Rattle.load_law.specs.Download.{Follows}
use Rattle.load_law.proofs.Checked.{settled_done}
use Rattle.load_law.proofs.Follows.{LoadInv, fresh_load, load_always, right_at}
use Rattle.line_law.proofs.Cases.{good_job, OfDevice, Case, Ends, plans_good, held_of, IsCheck, Unmoved, unmoved_more}
use Rattle.line_law.proofs.Courses.{WasDone, went_through}
use Rattle.line_law.proofs.Logs.{after}
use Rattle.line_law.proofs.NothingAsked.{silent_follows}
use Rattle.line_law.proofs.Runs.{Trace, trace_legal, trace_follows}
use Rattle.line_law.proofs.HeldJobs.{HeldJob}
use Rattle.line_law.proofs.Told.{held_then, form_at, true_at, before_at, between_first, first_full, not_over, none_between}
use Rattle.line_law.proofs.Went.{DoneBefore, stretch_at, was_at}

-- ---- the earlier of a run

legal_earlier : (start : SessionWorld) (more past : List SessionEvent) → IsLegal start (more ++ past) → IsLegal start past
legal_earlier start [] past h = h
legal_earlier start (y ∷ more) past h = legal_earlier start more past h.1

follows_earlier : (IsJob : Plan → Type 0) (start : SessionWorld) (more past : List SessionEvent) → Follows IsJob start (more ++ past) → Follows IsJob start past
follows_earlier IsJob start [] past h = h
follows_earlier IsJob start (y ∷ more) past h = follows_earlier IsJob start more past h.1

-- ---- what is so there

pub record DoneAt (job : Job) (start : World) (d : DeviceState) (past : List SessionEvent) : Type 0 where
  pub kept : NonVolatile
  pub runs_it : runs kept ≡ Some job.image
  pub unmoved : Unmoved kept d.frames (replay (fresh (me start) d) past) (books (fresh (me start) d) past)

module _ (jobs : List Job) (good : AllByRecursion IsGoodJob jobs) (log : List LogEntry) (a : ℕ) (start : World) (d : DeviceState) (number : ℕ) (job : Job) (there : job_of jobs number ≡ Some job) (of : job.device.raw ≡ a) (capacities : HasCapacities d.kept) where
  abbrev s0 : SessionWorld
  s0 = fresh (me start) d

  done_then : (past : List SessionEvent) → IsLegal s0 past → Follows (OfDevice jobs a) s0 past → DoneBefore job.plan s0 past → DoneAt job start d past
  done_then past legal follows h =
      let s : SessionWorld = fresh (me start) d in
      let whole : IsLegal s (h.more ++ h.earlier) = subst (IsLegal s) h.split legal in
      let legal_then : IsLegal s h.earlier = legal_earlier s h.more h.earlier whole in
      let follows_then : Follows (OfDevice jobs a) s h.earlier = follows_earlier (OfDevice jobs a) s h.more h.earlier (subst (Follows (OfDevice jobs a) s) h.split follows) in
      let inv : WorldInv (replay s h.earlier) (books s h.earlier) = always s h.earlier (fresh_inv (me start) d) legal_then in
      let load : LoadInv (OfDevice jobs a) HasCapacities (Case jobs a d.kept) (Ends jobs a) d.frames (plans_good jobs good a d.kept) (replay s h.earlier) (books s h.earlier)
      = load_always (OfDevice jobs a) HasCapacities (Case jobs a d.kept) (Ends jobs a) d.frames (plans_good jobs good a d.kept) s h.earlier (fresh_inv (me start) d)
      (fresh_load (OfDevice jobs a) HasCapacities (Case jobs a d.kept) (Ends jobs a) d.frames (plans_good jobs good a d.kept) (me start) d refl (inl refl) capacities) legal_then follows_then in
      let it : OfDevice jobs a job.plan = record { number = number; job = job; there = there; of_device = of; plan_is = refl } in
      let kept : NonVolatile = (replay s h.earlier).device.kept in
      let right : Ends jobs a job.plan kept = (right_at (OfDevice jobs a) HasCapacities (Case jobs a d.kept) (Ends jobs a) d.frames (plans_good jobs good a d.kept) (replay s h.earlier) (books s h.earlier) inv load).done job.plan it h.done in
      record {
        kept = (replay s h.earlier).device.kept;
        runs_it = right it;
        unmoved = subst (λ z. Unmoved kept d.frames (replay s z) (books s z)) (sym h.split)
            (unmoved_more kept d.frames s h.more h.earlier (fresh_inv (me start) d) whole (silent_follows IsCheck (replay s h.earlier) h.more h.silent)
            (inl (settled_done (OfDevice jobs a) HasCapacities (Case jobs a d.kept) (Ends jobs a) d.frames (plans_good jobs good a d.kept) (replay s h.earlier) (books s h.earlier) job.plan it inv load h.done)));
      }

  done_trace : {events : List Event} {past : List SessionEvent} → Trace jobs log a start d events past → DoneBefore job.plan s0 past → DoneAt job start d past
  done_trace {past = past} t h = done_then past (trace_legal t) (trace_follows (OfDevice jobs a) (λ n lt plan p. held_of jobs (log_before (suc n) log) a plan p) t) h

-- ---- by the log

module _ (jobs : List Job) (turns : List GroupTurn) (log : List LogEntry) (good : AllByRecursion IsGoodJob jobs) (start : World) (events : List Event) (form : IsLog jobs turns (length events) log) (alone : OneDownloaderPerDevice jobs log) (truly : ToldTruly jobs turns (placed start events) log)
    (number : ℕ) (job : Job) (there : job_of jobs number ≡ Some job) (newer older : List LogEntry) (e : LogEntry) (whole : log ≡ newer ++ e ∷ older) (what : e.what ≡ Done number) where
  form_whole : IsLog jobs turns (length events) (newer ++ e ∷ older)
  form_whole = subst (IsLog jobs turns (length events)) whole form

  pub so_far : e.at ≤ length events
  so_far = (form_at jobs turns (length events) newer (e ∷ older) (subst (IsLog jobs turns (length events)) whole form)).0.so_far

  told : IsTrue jobs turns (placed start events) older e.at (Done number)
  told = subst (IsTrue jobs turns (placed start events) older e.at) what (true_at jobs turns (placed start events) newer older e (subst (ToldTruly jobs turns (placed start events)) whole truly))

  -- it was held, and what was told of its session
  pub record HeldThen : Type 0 where
    pub worker : ℕ
    pub since : ℕ
    pub held : state_of number older ≡ Held worker since
    pub went : WentThrough job.device.raw job.plan (session_since job.device.raw since e.at (placed start events))

  pub held_now : HeldThen
  held_now = by_state (state_of number older) refl (subst (λ o. OfJob (λ j since. WentThrough j.device.raw j.plan (session_since j.device.raw since e.at (placed start events))) o (state_of number older)) there told) where
    by_state : (s : JobState) → state_of number older ≡ s → OfHeld (λ since. WentThrough job.device.raw job.plan (session_since job.device.raw since e.at (placed start events))) s → HeldThen
    by_state Untaken q h = absurd h
    by_state (Held worker since) q h = record { worker = worker; since = since; held = q; went = h }
    by_state Over q h = absurd h

  module _ (d : DeviceState) (capacities : HasCapacities d.kept) where
    none_since : (since : ℕ) → e.at ≤ since → WentThrough job.device.raw job.plan (session_since job.device.raw since e.at (placed start events)) → ⊥
    none_since since le went =
        let none : WentThrough job.device.raw job.plan [] = subst (λ l. WentThrough job.device.raw job.plan (session (course job.device.raw (last_stretch (stretches job.device.raw l))))) (none_between since e.at (moments (placed start events)) le) went in
        not_over job d.frames (good_job jobs number job good there) none

    by_first : (first : List Event) → first_events e.at events ≡ first → length first ≡ e.at → (past : List SessionEvent) → Trace jobs log job.device.raw start d first past → (h : HeldThen) → h.since < e.at → DoneAt job start d past
    by_first [] is len past t h lt = absurd (omega (arith, len, lt))
    by_first (y ∷ first) is len past t h lt =
        let n : ℕ = length first in
        let at : e.at ≡ suc (length first) = sym len in
        let state : state_of number (log_before (suc (length first)) log) ≡ Held h.worker h.since
        = ap (λ z. state_of number (log_before (suc (length first)) z)) whole
        ∙ ap (λ z. state_of number (log_before z (newer ++ e ∷ older))) len
        ∙ ap (state_of number) (before_at jobs turns (length events) newer older e form_whole)
        ∙ ap (λ z. state_of number (log_before z older)) (sym len)
        ∙ held_then number (length first) h.worker h.since older h.held (omega (arith, lt, len)) in
        let p : HeldJob jobs (log_before (suc (length first)) log) job.device.raw = record { number = number; job = job; worker = h.worker; since = h.since; there = there; of_device = refl; held = state } in
        let l : List Moment = after h.since (moments (placed start (y ∷ first))) in
        let same : between h.since e.at (moments (placed start events)) ≡ after h.since (moments (placed start (y ∷ first)))
        = between_first h.since e.at start events ∙ ap (λ z. after h.since (moments (placed start z))) is in
        let went : WentThrough job.device.raw job.plan (session (course job.device.raw (last_stretch (stretches job.device.raw (after h.since (moments (placed start (y ∷ first))))))))
        = subst (λ z. WentThrough job.device.raw job.plan (session (course job.device.raw (last_stretch (stretches job.device.raw z))))) same h.went in
        let was : WasDone job.device.raw job.device job.plan (after h.since (moments (placed start (y ∷ first))))
        = went_through job.device.raw job.device job.plan l (not_over job d.frames (good_job jobs number job good there))
        (stretch_at jobs turns (length events) log form alone (λ k j q. (good_job jobs k j good q).sendable) job.device.raw start d t p) went in
        done_trace jobs good log job.device.raw start d number job there refl capacities t (was_at jobs turns (length events) log form alone (λ k j q. (good_job jobs k j good q).sendable) job.device.raw start d t p was)

    pub done_at : (past : List SessionEvent) → Trace jobs log job.device.raw start d (first_events e.at events) past → DoneAt job start d past
    done_at past t =
        elim (order held_now.since e.at) [
          | inl lt ↦ by_first (first_events e.at events) refl (first_full e.at events so_far) past t held_now lt
          | inr le ↦ absurd (none_since held_now.since le held_now.went)
        ]
      where
        order : (x y : ℕ) → (x < y) ⊎ (y ≤ x)
        order x y = grind arith
