-- In a run of a session: what the record says of a job's session stands beside its attempt, and where this was done the session was.
use Rattle.std.proofs.Common.{◌≡◌, ℕ, suc, ◌≤◌, List, [], ◌∷◌, ◌++◌, length, Option, Some, None, refl, sym, ◌∙◌, ap, subst, inl, inr, arith, append_assoc}
use Rattle.knx_model.specs.declared.connection.TransportFrame.{TransportFrame}
use Rattle.knx_model.specs.ClientConnection.{Up, awaits_nothing}
use Rattle.knx_model.specs.DeviceState.{DeviceState}
use Rattle.knx_model.specs.GoodPlan.{IsSendable}
use Rattle.knx_model.specs.Plans.{Plan, Over}
use Rattle.line_model.specs.declared.group.GroupTurn.{GroupTurn}
use Rattle.line_model.specs.declared.log.LogEntry.{LogEntry}
use Rattle.line_model.specs.Attempts.{Attempts, Resting, Running, attempts}
use Rattle.line_model.specs.Log.{Job, job_of, log_before, IsLog, OneDownloaderPerDevice}
use Rattle.line_model.specs.Moments.{Moment, moments, put_to, stretches}
use Rattle.line_model.specs.Record.{placed}
use Rattle.line_model.specs.World.{World, Event, me}
use Rattle.session_law.specs.World.{World as SessionWorld, fresh}
use Rattle.session_law.specs.Events.{Event as SessionEvent, replay}
use Rattle.load_law.specs.Download.{IsDone, AsksNothing}
use Rattle.line_law.proofs.Attempting.{IsService, InPlan, AttemptIs}
use Rattle.line_law.proofs.Courses.{NotService, DoneNow, WasDone, Now, Later, StretchIs, kind}
use Rattle.line_law.proofs.CourseKept.{course_kept}
use Rattle.line_law.proofs.Following.{later_job}
use Rattle.line_law.proofs.Logs.{AreUpto, after, after_last, after_more, held_before, moments_upto}
use Rattle.line_law.proofs.HeldJobs.{HeldJob, AllAttempted}
use Rattle.line_law.proofs.Traces.{Adds, Same, One}
use Rattle.line_law.proofs.Runs.{Trace, Begins, Goes}

-- ---- an attempt that is done

done_is : (a : ℕ) (plan : Plan) (t : Attempts) (w : SessionWorld) → AttemptIs a plan t w.client → DoneNow t → IsDone plan w
done_is a plan (Resting k) w h d = absurd d
done_is a plan (Running k t) w h (closing, p, up, over) =
    let stands : InPlan (Up p) plan Over w.client.sent w.client.accepted = subst (λ z. InPlan z plan Over w.client.sent w.client.accepted) up (subst (λ z. InPlan t.end plan z w.client.sent w.client.accepted) over (h.stands closing)) in
    record { over = ap awaits_nothing (sym h.end_is ∙ up); all = stands }

-- it was done at a moment, and no service was asked since
pub record DoneBefore (plan : Plan) (start : SessionWorld) (past : List SessionEvent) : Type 0 where
  pub more : List SessionEvent
  pub earlier : List SessionEvent
  pub split : past ≡ more ++ earlier
  pub silent : AsksNothing more
  pub done : IsDone plan (replay start earlier)

silent_both : (more past : List SessionEvent) → AsksNothing more → AsksNothing past → AsksNothing (more ++ past)
silent_both [] past h k = k
silent_both (e ∷ more) past h k = (h.0, silent_both more past h.1 k)

done_on : (plan : Plan) (start : SessionWorld) (more past : List SessionEvent) → AsksNothing more → DoneBefore plan start past → DoneBefore plan start (more ++ past)
done_on plan start more past silent h =
    record { more = more ++ h.more; earlier = h.earlier; split = ap (λ z. more ++ z) h.split ∙ sym (append_assoc more h.more h.earlier); silent = silent_both more h.more silent h.silent; done = h.done }

not_both : (o : Option TransportFrame) → IsService o → NotService o → ⊥
not_both None s n = s
not_both (Some x) s n = by_frame x s n where
  by_frame : (y : TransportFrame) → IsService (Some y) → NotService (Some y) → ⊥
  by_frame (Rattle.knx_model.specs.declared.connection.TransportFrame.TheVariants.Numbered n apdu) s k = k
  by_frame Rattle.knx_model.specs.declared.connection.TransportFrame.TheVariants.Connect s k = s
  by_frame Rattle.knx_model.specs.declared.connection.TransportFrame.TheVariants.Disconnect s k = s
  by_frame (Rattle.knx_model.specs.declared.connection.TransportFrame.TheVariants.Ack n) s k = s
  by_frame (Rattle.knx_model.specs.declared.connection.TransportFrame.TheVariants.Nak n) s k = s
  by_frame Rattle.knx_model.specs.declared.connection.TransportFrame.TheVariants.Other s k = s

module _ (jobs : List Job) (turns : List GroupTurn) (count : ℕ) (log : List LogEntry) (form : IsLog jobs turns count log) (alone : OneDownloaderPerDevice jobs log) (can : (number : ℕ) (job : Job) → job_of jobs number ≡ Some job → IsSendable job.plan) (a : ℕ) (start : World) (d : DeviceState) where
  abbrev s0 : SessionWorld
  s0 = fresh (me start) d

  -- ---- of each job that is held

  next_each : (P : Job → List Moment → Type 0) → ((job : Job) → P job []) → (n : ℕ) (l : List Moment) → AreUpto (suc n) l → ((h : HeldJob jobs (log_before (suc n) log) a) → P h.job (after h.since l)) → (h : HeldJob jobs (log_before (suc (suc n)) log) a) → P h.job (after h.since l)
  next_each P base n l upto f p =
      elim (later_job jobs turns count log form alone a n p) [
        | inl at ↦ subst (P p.job) (sym (ap (λ z. after z l) at ∙ after_last (suc n) l upto)) (base p.job)
        | inr (q, job, since) ↦ subst (λ z. P z (after p.since l)) job (subst (λ z. P q.job (after z l)) since (f q))
      ]

  -- ---- what the record says of its session

  abbrev Stretch : Job → List Moment → Type 0
  Stretch job l = StretchIs a job.device job.plan (stretches a l) (attempts job.device job.plan l) l

  stretch_late : (n : ℕ) (more : List SessionEvent) (old new : List Moment) → Adds jobs (log_before (suc n) log) a (suc n) more old new → ((h : HeldJob jobs (log_before (suc n) log) a) → Stretch h.job (after h.since old)) → (h : HeldJob jobs (log_before (suc n) log) a) → Stretch h.job (after h.since new)
  stretch_late n more old new (Same e silent) f h = subst (λ z. Stretch h.job (after h.since z)) (sym e) (f h)
  stretch_late n more old new (One m e at asks puts) f h =
      let le : h.since ≤ n = held_before h.number n h.worker h.since log h.held in
      let whole : after h.since new ≡ m ∷ after h.since old = ap (after h.since) e ∙ after_more h.since m old (omega (arith, le, at)) in
      subst (Stretch h.job) (sym whole) (course_kept a h.job.device h.job.plan (can h.number h.job h.there) m (after h.since old) h.of_device (kind a m.what) (puts h) (f h))

  pub stretch_now : {events : List Event} {past : List SessionEvent} → Trace jobs log a start d events past → (h : HeldJob jobs (log_before (suc (length events)) log) a) → Stretch h.job (after h.since (moments (placed start events)))
  stretch_now (Begins b) h = tt
  stretch_now (Goes {events = events} e more t l f n q late) h =
      next_each (λ job y. Stretch job y) (λ job. tt) (length events) (moments (placed start (e ∷ events))) (moments_upto start (e ∷ events)) (stretch_late (length events) more (moments (placed start events)) (moments (placed start (e ∷ events))) q (stretch_now t)) h

  pub stretch_at : {e : Event} {events : List Event} {past : List SessionEvent} → Trace jobs log a start d (e ∷ events) past → (h : HeldJob jobs (log_before (suc (length events)) log) a) → Stretch h.job (after h.since (moments (placed start (e ∷ events))))
  stretch_at (Goes {events = events} e more t l f n q late) h = stretch_late (length events) more (moments (placed start events)) (moments (placed start (e ∷ events))) q (stretch_now t) h

  -- ---- where its attempt was done

  abbrev WasSo : List SessionEvent → Job → List Moment → Type 0
  WasSo past job l = WasDone a job.device job.plan l → DoneBefore job.plan s0 past

  none_done : (past : List SessionEvent) (job : Job) → WasDone a job.device job.plan [] → DoneBefore job.plan s0 past
  none_done past job (Now x) = absurd x

  was_late : (n : ℕ) (more past : List SessionEvent) (old new : List Moment) → Adds jobs (log_before (suc n) log) a (suc n) more old new → AllAttempted jobs (log_before (suc n) log) a new (replay s0 (more ++ past)).client → ((h : HeldJob jobs (log_before (suc n) log) a) → WasSo past h.job (after h.since old))
      → (h : HeldJob jobs (log_before (suc n) log) a) → WasSo (more ++ past) h.job (after h.since new)
  was_late n more past old new (Same e silent) late f h was = done_on h.job.plan s0 more past silent (f h (subst (λ z. WasDone a h.job.device h.job.plan (after h.since z)) e was))
  was_late n more past old new (One m e at asks puts) late f h was =
      let le : h.since ≤ n = held_before h.number n h.worker h.since log h.held in
      let whole : after h.since new ≡ m ∷ after h.since old = ap (after h.since) e ∙ after_more h.since m old (omega (arith, le, at)) in
      by_was (subst (WasDone a h.job.device h.job.plan) whole was) (subst (λ z. AttemptIs a h.job.plan (attempts h.job.device h.job.plan z) (replay s0 (more ++ past)).client) whole (late h))
    where
      by_was : WasDone a h.job.device h.job.plan (m ∷ after h.since old) → AttemptIs a h.job.plan (attempts h.job.device h.job.plan (m ∷ after h.since old)) (replay s0 (more ++ past)).client → DoneBefore h.job.plan s0 (more ++ past)
      by_was (Now x) is = record { more = []; earlier = more ++ past; split = refl; silent = tt; done = done_is a h.job.plan _ (replay s0 (more ++ past)) is x }
      by_was (Later w ns) is = elim asks [ inl silent ↦ done_on h.job.plan s0 more past silent (f h w) | inr s ↦ absurd (not_both (put_to a m.what) s ns) ]

  pub was_now : {events : List Event} {past : List SessionEvent} → Trace jobs log a start d events past → (h : HeldJob jobs (log_before (suc (length events)) log) a) → WasSo past h.job (after h.since (moments (placed start events)))
  was_now (Begins b) h = none_done [] h.job
  was_now (Goes {events = events} {past = past} e more t l f n q late) h =
      next_each (λ job y. WasSo (more ++ past) job y) (none_done (more ++ past)) (length events) (moments (placed start (e ∷ events))) (moments_upto start (e ∷ events))
      (was_late (length events) more past (moments (placed start events)) (moments (placed start (e ∷ events))) q late (was_now t)) h

  pub was_at : {e : Event} {events : List Event} {past : List SessionEvent} → Trace jobs log a start d (e ∷ events) past → (h : HeldJob jobs (log_before (suc (length events)) log) a) → WasSo past h.job (after h.since (moments (placed start (e ∷ events))))
  was_at (Goes {events = events} {past = past} e more t l f n q late) h = was_late (length events) more past (moments (placed start events)) (moments (placed start (e ∷ events))) q late (was_now t) h
