-- From done on, up to the device's next load job, what it keeps stays; and each entry that tells done is right.
use Rattle.std.proofs.Common.{◌≡◌, ℕ, suc, ◌<◌, ◌≤◌, List, [], ◌∷◌, ◌++◌, length, Bool, true, false, ◌&&◌, cond, Option, Some, None, refl, sym, ◌∙◌, ap, subst, inl, inr, arith}
use Rattle.std.specs.Prelude.{◌==◌, nat_lt, nat_le}
use Rattle.std.specs.List.{AllByRecursion}
use Rattle.std.proofs.lemmas.Bool.{cases_eq, eq-eqb, eqb-true, or_parts}
use Rattle.knx_model.specs.Device.{NonVolatile, runs}
use Rattle.knx_model.specs.DeviceState.{DeviceState}
use Rattle.knx_model.specs.Plans.{Plan}
use Rattle.line_model.specs.declared.group.GroupTurn.{GroupTurn}
use Rattle.line_model.specs.declared.log.LogEntry.{LogEntry}
use Rattle.line_model.specs.declared.log.LogWhat.{LogWhat}
use Rattle.line_model.specs.declared.log.LogWhat.TheVariants.{Took, Done, Failed, Refused, Sent, Lost}
use Rattle.line_model.specs.Headline.{IsGoodJob}
use Rattle.line_model.specs.Legal.{OfDevice}
use Rattle.line_model.specs.Log.{Job, Held, job_of, log_before, takes_it, ends_it, state_after, state_of, IsLog, SameDevice, OneDownloaderPerDevice}
use Rattle.line_model.specs.OldStoppedOrNew.{first_events, world_at, Both, load_taken, takes_load, IsDoneOf, StaysDone}
use Rattle.line_model.specs.Record.{placed}
use Rattle.line_model.specs.Told.{ToldTruly}
use Rattle.line_model.specs.World as line
use Rattle.line_model.specs.World.{World, Event, me}
use Rattle.session_law.specs.World.{World as SessionWorld, fresh}
use Rattle.session_law.specs.Events.{Event as SessionEvent, replay}
use Rattle.session_law.proofs.Books.{books}
use Rattle.session_law.proofs.Steps.{fresh_inv}
use Rattle.load_law.specs.Download.{Follows}
use Rattle.load_law.proofs.Checked.{unchanged_kept}
use Rattle.line_law.proofs.Cases.{good_job, IsCheck, Unmoved, unmoved_more, taken_by, and_false}
use Rattle.line_law.proofs.DoneAt.{DoneAt, HeldThen, held_now, done_at}
use Rattle.line_law.proofs.Kept.{trace_of, run_first, first_length, both_some, both_none}
use Rattle.line_law.proofs.Logs.{IsTo, TakesIt, EndsIt, Else, is_to, ended_state, after_other, before_in, all_before, one_held}
use Rattle.line_law.proofs.Runs.{Trace, Begins, Goes, follower_now, trace_legal, follows_map, none_always}
use Rattle.line_law.proofs.HeldJobs.{HeldPlan}
use Rattle.line_law.proofs.Told.{first_first}
use Rattle.line_law.proofs.RunsBefore.{IsRun}

-- ---- which jobs are held after it

same_device : (o p : Option Job) (j k : Job) → o ≡ Some j → p ≡ Some k → j.device.raw ≡ k.device.raw → SameDevice o p
same_device None p j k e f x = absurd (cc)
same_device (Some u) None j k e f x = absurd (cc)
same_device (Some u) (Some v) j k e f x = let p : u ≡ j = cc in let q : v ≡ k = cc in ap (λ (z : Job). z.device.raw) p ∙ x ∙ sym (ap (λ (z : Job). z.device.raw) q)

module _ (jobs : List Job) (turns : List GroupTurn) (count : ℕ) (number : ℕ) (job : Job) (there : job_of jobs number ≡ Some job) (older : List LogEntry) (e : LogEntry) (what : e.what ≡ Done number) (worker since : ℕ) (held : state_of number older ≡ Held worker since) where
  -- just after the entry none of the device is held
  none_then : (form : IsLog jobs turns count (e ∷ older)) → OneDownloaderPerDevice jobs older → (k : ℕ) (j : Job) (w s : ℕ) → job_of jobs k ≡ Some j → j.device.raw ≡ job.device.raw → state_of k (e ∷ older) ≡ Held w s → ⊥
  none_then form alone k j w s is dev h =
      let no_take : takes_it k e.what ≡ false = ap (takes_it k) what in
      elim (cases_eq number k) [
        | inl same ↦ ended_state k e (state_of k older) w s no_take (ap (ends_it k) what ∙ eq-eqb number k same) h
        | inr other ↦
            (let no_end : ends_it k e.what ≡ false = ap (ends_it k) what ∙ unlike (number == k) refl other in
            let was : state_of k older ≡ Held w s = sym (after_other k e (state_of k older) no_take no_end) ∙ h in
            let all : log_before (suc e.at) older ≡ older = all_before jobs turns count (suc e.at) e.at older form.1 form.0.later (omega arith) in
            one_held jobs turns count (suc e.at) number k worker since w s older form.1 alone (same_device (job_of jobs number) (job_of jobs k) job j there is (sym dev)) (same_device (job_of jobs k) (job_of jobs number) j job is there dev) other
            (ap (state_of number) all ∙ held) (ap (state_of k) all ∙ was))
      ]
    where
      unlike : (b : Bool) → (number == k) ≡ b → (number ≡ k → ⊥) → (number == k) ≡ false
      unlike true q f = absurd (f (eqb-true number k q))
      unlike false q f = q

  -- and later only what was taken since
  none_held : (n upto : ℕ) (newer : List LogEntry) → IsLog jobs turns count (newer ++ e ∷ older) → OneDownloaderPerDevice jobs (newer ++ e ∷ older) → e.at ≤ n → n < upto → load_taken jobs job.device.raw upto newer ≡ false
      → (k : ℕ) (j : Job) (w s : ℕ) → job_of jobs k ≡ Some j → j.device.raw ≡ job.device.raw → state_of k (log_before (suc n) (newer ++ e ∷ older)) ≡ Held w s → j.loads ≡ false
  none_held n upto [] form alone le lt none k j w s is dev h =
      let all : log_before (suc n) (e ∷ older) ≡ e ∷ older = all_before jobs turns count (suc n) e.at (e ∷ older) form (here e.at) (omega (arith, le)) in
      absurd (none_then form alone.1 k j w s is dev (ap (state_of k) (sym all) ∙ h))
    where
      here : (m : ℕ) → m ≤ m
      here m = omega arith
  none_held n upto (x ∷ newer) form alone le lt none k j w s is dev h =
      let parts = or_parts (nat_lt x.at upto && takes_load jobs job.device.raw x.what) (load_taken jobs job.device.raw upto newer) none in
      by_before (nat_lt x.at (suc n)) refl parts.0 (λ was. none_held n upto newer form.1 alone.1 le lt parts.1 k j w s is dev was)
    where
      in_time : nat_lt x.at (suc n) ≡ true → nat_lt x.at upto ≡ true
      in_time q = grind (arith, q, lt)

      by_entry : IsTo k x → nat_lt x.at (suc n) ≡ true → (nat_lt x.at upto && takes_load jobs job.device.raw x.what) ≡ false → state_after k x (state_of k (log_before (suc n) (newer ++ e ∷ older))) ≡ Held w s → (state_of k (log_before (suc n) (newer ++ e ∷ older)) ≡ Held w s → j.loads ≡ false) → j.loads ≡ false
      by_entry (TakesIt t) q f g rest = sym (taken_by jobs job.device.raw upto k x j t is dev) ∙ and_false (nat_lt x.at upto) (takes_load jobs job.device.raw x.what) f (in_time q)
      by_entry (EndsIt t d) q f g rest = absurd (ended_state k x _ w s t d g)
      by_entry (Else t d) q f g rest = rest (sym (after_other k x _ t d) ∙ g)

      by_before : (b : Bool) → nat_lt x.at (suc n) ≡ b → (nat_lt x.at upto && takes_load jobs job.device.raw x.what) ≡ false → (state_of k (log_before (suc n) (newer ++ e ∷ older)) ≡ Held w s → j.loads ≡ false) → j.loads ≡ false
      by_before true q f rest = by_entry (is_to k x) q f (ap (state_of k) (sym (before_in (suc n) x (newer ++ e ∷ older) true q)) ∙ h) rest
      by_before false q f rest = rest (ap (state_of k) (sym (before_in (suc n) x (newer ++ e ∷ older) false q)) ∙ h)

-- ---- along the run

module _ (jobs : List Job) (log : List LogEntry) (a : ℕ) (start : World) (d : DeviceState) (kept : NonVolatile) (at upto : ℕ) (first : List Event) (checks : (n : ℕ) → at ≤ n → n < upto → (plan : Plan) → HeldPlan jobs (log_before (suc n) log) a plan → IsCheck plan)
    (then : (past : List SessionEvent) → Trace jobs log a start d first past → Unmoved kept d.frames (replay (fresh (me start) d) past) (books (fresh (me start) d) past)) where
  stays_on : {events : List Event} {past : List SessionEvent} → Trace jobs log a start d events past → first_events at events ≡ first → length events ≤ upto → Unmoved kept d.frames (replay (fresh (me start) d) past) (books (fresh (me start) d) past)
  stays_on (Begins f) is le = then [] (subst (λ z. Trace jobs log a start d z []) is (Begins f))
  stays_on (Goes {events = events} {past = past} e more t l f n q late) is le = by_length (nat_le (length (e ∷ events)) at) refl is (λ whole. stays_on t whole (omega (arith, le))) where
    by_length : (b : Bool) → nat_le (length (e ∷ events)) at ≡ b → cond {A = List Event} b (e ∷ events) (first_events at events) ≡ first
        → (first_events at events ≡ first → Unmoved kept d.frames (replay (fresh (me start) d) past) (books (fresh (me start) d) past)) → Unmoved kept d.frames (replay (fresh (me start) d) (more ++ past)) (books (fresh (me start) d) (more ++ past))
    by_length true p whole rest = then (more ++ past) (subst (λ z. Trace jobs log a start d z (more ++ past)) whole (Goes e more t l f n q late))
    by_length false p whole rest =
        let s : SessionWorld = fresh (me start) d in
        let follows : Follows IsCheck (replay (fresh (me start) d) past) more = follows_map (HeldPlan jobs (log_before (suc (length events)) log) a) IsCheck (replay s past) more (checks (length events) (grind (arith, p)) (omega (arith, le))) f in
        unmoved_more kept d.frames s more past (fresh_inv (me start) d) (trace_legal (Goes e more t l f n q late)) follows (rest whole)

-- ---- what the headline says

module _ (jobs : List Job) (turns : List GroupTurn) (log : List LogEntry) (good : AllByRecursion IsGoodJob jobs) (start : World) (events : List Event) (form : IsLog jobs turns (length events) log) (alone : OneDownloaderPerDevice jobs log) (truly : ToldTruly jobs turns (placed start events) log) (run : IsRun jobs turns log start events) where
  module _ (number : ℕ) (job : Job) (there : job_of jobs number ≡ Some job) (newer older : List LogEntry) (e : LogEntry) (whole : log ≡ newer ++ e ∷ older) (what : e.what ≡ Done number) where
    done_so : (d : DeviceState) (past : List SessionEvent) → start.devices job.device.raw ≡ Some d → Trace jobs log job.device.raw start d (first_events e.at events) past → DoneAt job start d past
    done_so d past is t = done_at jobs turns log good start events form alone truly number job there newer older e whole what d (run.begins.devices job.device.raw d is).capacities past t

    run_at : (k : ℕ) → IsRun jobs turns log start (first_events k events)
    run_at k = run_first jobs turns log start k events run

    trace_at : (d : DeviceState) (k : ℕ) → start.devices job.device.raw ≡ Some d → (past : List SessionEvent) × Trace jobs log job.device.raw start d (first_events k events) past
    trace_at d k is = trace_of jobs turns (length events) log good form alone start job.device.raw d (first_events k events) is (run_at k)

    -- where it is told
    pub runs_there : (d : DeviceState) → start.devices job.device.raw ≡ Some d → OfDevice (λ (x : DeviceState). runs x.kept ≡ Some job.image) ((world_at start events e.at).devices job.device.raw)
    runs_there d is =
        let t = trace_at d e.at is in
        let x : DoneAt job start d t.0 = done_so d t.0 is t.1 in
        let kept : (replay (fresh (me start) d) t.0).device.kept ≡ x.kept = unchanged_kept IsCheck (λ plan q. q.0) (λ plan q. q.1) x.kept d.frames (replay (fresh (me start) d) t.0) (books (fresh (me start) d) t.0) x.unmoved in
        subst (OfDevice (λ (y : DeviceState). runs y.kept ≡ Some job.image)) (sym (follower_now t.1).coupled.by.side.device) (ap runs kept ∙ x.runs_it)

    check_then : (n k : ℕ) → e.at ≤ n → n < k → load_taken jobs job.device.raw k newer ≡ false → (plan : Plan) → HeldPlan jobs (log_before (suc n) log) job.device.raw plan → IsCheck plan
    check_then n k le lt none plan (h, is) =
        let was : HeldThen jobs turns log good start events form alone truly number job there newer older e whole what = held_now jobs turns log good start events form alone truly number job there newer older e whole what in
        let check : h.job.loads ≡ false
        = none_held jobs turns (length events) number job there older e what was.worker was.since was.held n k newer (subst (IsLog jobs turns (length events)) whole form) (subst (OneDownloaderPerDevice jobs) whole alone) le lt none h.number h.job h.worker h.since h.there h.of_device
        (ap (λ z. state_of h.number (log_before (suc n) z)) (sym whole) ∙ h.held) in
        let g = good_job jobs h.number h.job good h.there in
        subst IsCheck (sym is) ((g.check check).changes_nothing, g.sendable)

    pub stays_then : (k : ℕ) → e.at ≤ k → load_taken jobs job.device.raw k newer ≡ false → (o : Option DeviceState) → start.devices job.device.raw ≡ o
        → Both (λ done now. now ≡ done) ((world_at start events e.at).devices job.device.raw) ((world_at start events k).devices job.device.raw)
    stays_then k le none None is =
        both_none (λ done now. now ≡ done) ((world_at start events e.at).devices job.device.raw) ((world_at start events k).devices job.device.raw) (none_always start (first_events e.at events) job.device.raw is) (none_always start (first_events k events) job.device.raw is)
    stays_then k le none (Some d) is =
        let s : SessionWorld = fresh (me start) d in
        let t = trace_at d e.at is in
        let u = trace_at d k is in
        both_some (λ done now. now ≡ done) ((world_at start events e.at).devices job.device.raw) ((world_at start events k).devices job.device.raw) (replay s t.0).device (replay s u.0).device (follower_now t.1).coupled.by.side.device (follower_now u.1).coupled.by.side.device
        (ends d k le none u.0 u.1 is)
      where
        ends : (d : DeviceState) (k : ℕ) → e.at ≤ k → load_taken jobs job.device.raw k newer ≡ false → (past : List SessionEvent) → Trace jobs log job.device.raw start d (first_events k events) past → (is : start.devices job.device.raw ≡ Some d)
            → (replay (fresh (me start) d) past).device.kept ≡ (replay (fresh (me start) d) (trace_at d e.at is).0).device.kept
        ends d k le none past u is =
            let s : SessionWorld = fresh (me start) d in
            let t = trace_at d e.at is in
            let kept : NonVolatile = (replay s t.0).device.kept in
            let there_then : line.Devices = (world_at start events e.at).devices in
            unchanged_kept IsCheck (λ plan q. q.0) (λ plan q. q.1) kept d.frames (replay s past) (books s past)
            (stays_on jobs log job.device.raw start d kept e.at k (first_events e.at events) (λ n from lt. check_then n k from lt none)
            (λ was v. subst (λ z. Unmoved z d.frames (replay s was) (books s was)) (same_kept d is was v t.0 t.1) (done_so d was is v).unmoved) u (first_first e.at k events le) (first_length k events))
          where
            same_kept : (d : DeviceState) (there_first : start.devices job.device.raw ≡ Some d) (one : List SessionEvent) → (v : Trace jobs log job.device.raw start d (first_events e.at events) one) → (other : List SessionEvent) → Trace jobs log job.device.raw start d (first_events e.at events) other
                → (done_so d one there_first v).kept ≡ (replay (fresh (me start) d) other).device.kept
            same_kept d there_first one v other u =
                let s : SessionWorld = fresh (me start) d in
                let x : DoneAt job start d one = done_so d one there_first v in
                let before : (replay s one).device.kept ≡ x.kept = unchanged_kept IsCheck (λ plan q. q.0) (λ plan q. q.1) x.kept d.frames (replay s one) (books s one) x.unmoved in
                let equal : Some (replay s one).device ≡ Some (replay s other).device = sym (follower_now v).coupled.by.side.device ∙ (follower_now u).coupled.by.side.device in
                let same : (replay s one).device ≡ (replay s other).device = cc in
                sym before ∙ ap (λ (z : DeviceState). z.kept) same

  job_done : (device k : ℕ) (newer older : List LogEntry) (e : LogEntry) (what : LogWhat) → log ≡ newer ++ e ∷ older → e.what ≡ what → IsDoneOf jobs device what → e.at ≤ k → load_taken jobs device k newer ≡ false
      → Both (λ done now. now ≡ done) ((world_at start events e.at).devices device) ((world_at start events k).devices device)
  job_done device k newer older e (Done number) whole what (job, there, of) le none =
      subst (λ z. Both (λ done now. now ≡ done) ((world_at start events e.at).devices z) ((world_at start events k).devices z)) of
      (stays_then number job there newer older e whole what k le (ap (λ z. load_taken jobs z k newer) of ∙ none) (start.devices job.device.raw) refl)
  job_done device k newer older e (Took j) whole what h le none = absurd h
  job_done device k newer older e (Failed j signs) whole what h le none = absurd h
  job_done device k newer older e (Refused j op got expected) whole what h le none = absurd h
  job_done device k newer older e (Sent j) whole what h le none = absurd h
  job_done device k newer older e (Lost j) whole what h le none = absurd h

  pub stays_always : StaysDone jobs start events log
  stays_always = λ device k newer older e whole done le upto none. job_done device k newer older e e.what whole refl done le none
