-- What each device keeps at every moment, and that it is untouched before its first load job is taken.
use Rattle.std.proofs.Common.{◌≡◌, ℕ, suc, ◌<◌, ◌≤◌, List, [], ◌∷◌, ◌++◌, length, Bool, true, false, cond, Option, Some, None, refl, sym, subst, inl, arith, append-nil}
use Rattle.std.specs.Prelude.{nat_le}
use Rattle.std.specs.List.{AllByRecursion}
use Rattle.knx_model.specs.Device.{NonVolatile}
use Rattle.knx_model.specs.DeviceState.{DeviceState}
use Rattle.knx_model.specs.Plans.{Plan}
use Rattle.line_model.specs.declared.group.GroupTurn.{GroupTurn}
use Rattle.line_model.specs.declared.log.LogEntry.{LogEntry}
use Rattle.line_model.specs.Headline.{IsGoodJob}
use Rattle.line_model.specs.Legal.{AtEveryMoment}
use Rattle.line_model.specs.Log.{Job, log_before, IsLog, OneDownloaderPerDevice}
use Rattle.line_model.specs.OldStoppedOrNew.{first_events, Both, RunsJob, OldStoppedOr, IsCase, load_taken, IsUntouched}
use Rattle.line_model.specs.World as line
use Rattle.line_model.specs.World.{World, Event, me}
use Rattle.session_law.specs.World.{World as SessionWorld, fresh}
use Rattle.session_law.specs.Events.{Event as SessionEvent, replay}
use Rattle.session_law.proofs.Books.{books}
use Rattle.session_law.proofs.Steps.{fresh_inv}
use Rattle.load_law.specs.Download.{Follows}
use Rattle.load_law.proofs.Checked.{settled_first, unchanged_kept}
use Rattle.line_law.proofs.HeldJobs.{HeldPlan}
use Rattle.line_law.proofs.RunsBefore.{IsRun, run_before}
use Rattle.line_law.proofs.Runs.{Trace, follower_now, trace_legal, trace_always, trace_follows, none_always}
use Rattle.line_law.proofs.Cases.{good_job, load_now, IsCheck, Unmoved, unmoved_more, no_load}

-- ---- of a device, or of none

pub both_some : (P : NonVolatile → NonVolatile → Type 0) (o p : Option DeviceState) (d e : DeviceState) → o ≡ Some d → p ≡ Some e → P d.kept e.kept → Both P o p
both_some P o p d e x y h = subst (λ z. Both P z p) (sym x) (subst (λ z. Both P (Some d) z) (sym y) h)

pub both_none : (P : NonVolatile → NonVolatile → Type 0) (o p : Option DeviceState) → o ≡ None → p ≡ None → Both P o p
both_none P o p x y = subst (λ z. Both P z p) (sym x) (subst (λ z. Both P None z) (sym y) tt)

-- ---- the first so many events

pub run_first : (jobs : List Job) (turns : List GroupTurn) (log : List LogEntry) (start : World) (k : ℕ) (events : List Event) → IsRun jobs turns log start events → IsRun jobs turns log start (first_events k events)
run_first jobs turns log start k [] h = h
run_first jobs turns log start k (e ∷ events) h = by_length (nat_le (length (e ∷ events)) k) (run_first jobs turns log start k events (run_before jobs turns log start e events h)) where
  by_length : (b : Bool) → IsRun jobs turns log start (first_events k events) → IsRun jobs turns log start (cond {A = List Event} b (e ∷ events) (first_events k events))
  by_length true q = h
  by_length false q = q

pub first_length : (k : ℕ) (events : List Event) → length (first_events k events) ≤ k
first_length k [] = omega arith
first_length k (e ∷ events) = by_length (nat_le (length (e ∷ events)) k) refl (first_length k events) where
  by_length : (b : Bool) → nat_le (length (e ∷ events)) k ≡ b → length (first_events k events) ≤ k → length (cond {A = List Event} b (e ∷ events) (first_events k events)) ≤ k
  by_length true q h = grind (arith, q)
  by_length false q h = h

module _ (jobs : List Job) (turns : List GroupTurn) (count : ℕ) (log : List LogEntry) (good : AllByRecursion IsGoodJob jobs) (form : IsLog jobs turns count log) (alone : OneDownloaderPerDevice jobs log) (start : World) where
  pub trace_of : (a : ℕ) (d : DeviceState) (events : List Event) → start.devices a ≡ Some d → IsRun jobs turns log start events → (past : List SessionEvent) × Trace jobs log a start d events past
  trace_of a d events is h = trace_always jobs turns count log form alone (λ number job there. (good_job jobs number job good there).sendable) a start d is events h

  -- ---- at every moment

  case_by : (events : List Event) → IsRun jobs turns log start events → (a : ℕ) (o : Option DeviceState) → start.devices a ≡ o → Both (OldStoppedOr (RunsJob jobs a)) (start.devices a) ((line.replay start events).devices a)
  case_by events h a None is = both_none (OldStoppedOr (RunsJob jobs a)) (start.devices a) ((line.replay start events).devices a) is (none_always start events a is)
  case_by events h a (Some d) is =
      let t = trace_of a d events is h in
      let s : SessionWorld = replay (fresh (me start) d) t.0 in
      both_some (OldStoppedOr (RunsJob jobs a)) (start.devices a) ((line.replay start events).devices a) d s.device is (follower_now t.1).coupled.by.side.device (load_now jobs good log a start d events t.0 t.1 (h.begins.devices a d is).capacities).case

  pub case_always : (events : List Event) → IsRun jobs turns log start events → AtEveryMoment (IsCase (RunsJob jobs) start) events
  case_always [] h = λ a. case_by [] h a (start.devices a) refl
  case_always (e ∷ events) h = (λ a. case_by (e ∷ events) h a (start.devices a) refl, case_always events (run_before jobs turns log start e events h))

  -- ---- before the first load job is taken

  check_plan : (a k n : ℕ) (plan : Plan) → load_taken jobs a k log ≡ false → n < k → HeldPlan jobs (log_before (suc n) log) a plan → IsCheck plan
  check_plan a k n plan none lt (h, e) =
      let check : h.job.loads ≡ false = no_load jobs a k n h.number h.worker h.since h.job log none lt h.held h.there h.of_device in
      let g = good_job jobs h.number h.job good h.there in
      subst IsCheck (sym e) ((g.check check).changes_nothing, g.sendable)

  untouched_by : (events : List Event) → IsRun jobs turns log start events → (a k : ℕ) → load_taken jobs a k log ≡ false → length events ≤ k → (o : Option DeviceState) → start.devices a ≡ o → Both (λ old new. new ≡ old) (start.devices a) ((line.replay start events).devices a)
  untouched_by events h a k none le None is = both_none (λ old new. new ≡ old) (start.devices a) ((line.replay start events).devices a) is (none_always start events a is)
  untouched_by events h a k none le (Some d) is =
      let t = trace_of a d events is h in
      let s0 : SessionWorld = fresh (me start) d in
      let follows : Follows IsCheck s0 t.0 = trace_follows IsCheck (λ n lt plan p. check_plan a k n plan none (omega (arith, lt, le)) p) t.1 in
      let whole : t.0 ++ [] ≡ t.0 = append-nil t.0 in
      let u : Unmoved d.kept d.frames (replay s0 t.0) (books s0 t.0)
      = subst (λ z. Unmoved d.kept d.frames (replay s0 z) (books s0 z)) whole
      (unmoved_more d.kept d.frames s0 t.0 [] (fresh_inv (me start) d) (subst (Rattle.session_law.specs.Events.IsLegal s0) (sym whole) (trace_legal t.1)) follows (inl (settled_first (me start) d d.frames refl))) in
      both_some (λ old new. new ≡ old) (start.devices a) ((line.replay start events).devices a) d (replay s0 t.0).device is (follower_now t.1).coupled.by.side.device
      (unchanged_kept IsCheck (λ plan q. q.0) (λ plan q. q.1) d.kept d.frames (replay s0 t.0) (books s0 t.0) u)

  pub untouched_always : (events : List Event) → IsRun jobs turns log start events → IsUntouched jobs start events log
  untouched_always events h = λ a k none. untouched_by (first_events k events) (run_first jobs turns log start k events h) a k none (first_length k events) (start.devices a) refl
