-- On a calm line each job that is over was told done, or refused rightly.
use Rattle.std.proofs.Common.{◌≡◌, ◌≢◌, ◌⊎◌, ℕ, zero, suc, List, [], ◌∷◌, true, Option, Some, None, refl, sym, ◌∙◌, ap, subst, inl, inr, drop}
use Rattle.std.proofs.lemmas.Bool.{eqb-true}
use Rattle.knx_model.specs.Device.{HasCapacities}
use Rattle.knx_model.specs.DeviceState.{DeviceState}
use Rattle.line_model.specs.declared.group.GroupTurn.{GroupTurn}
use Rattle.line_model.specs.declared.log.LogEntry.{LogEntry}
use Rattle.line_model.specs.declared.log.LogWhat.{LogWhat}
use Rattle.line_model.specs.declared.log.LogWhat.TheVariants.{Took, Done, Failed, Refused, Sent, Lost}
use Rattle.line_model.specs.Calm.{AreCalm}
use Rattle.line_model.specs.Fresh.{IsFresh}
use Rattle.line_model.specs.Log.{Job, JobState, Untaken, Held, Over, job_of, ends_it, state_of, EndsHeld, MayFollow, IsLog}
use Rattle.line_model.specs.Undisturbed.{FailsNot, NothingFailed, world_at, RefusesSo, RefusesRightly}
use Rattle.line_model.specs.World.{World, Event, replay}
use Rattle.calm_law.specs.CalmEnds.{IsAnsweredJob, IsToldDone, IsToldRefused, EndWell}
use Rattle.calm_law.proofs.Capacities.{devices_have}
use Rattle.calm_law.proofs.Held.{IsTo, TakesIt, EndsIt, Else, is_to, after_other, after_took}
use Rattle.calm_law.proofs.JoinedRests.{devices_there}

-- ---- the devices at each moment

pub calm_drop : (start : World) (n : ℕ) (events : List Event) → AreCalm start events → AreCalm start (drop n events)
calm_drop start zero events c = c
calm_drop start (suc n) [] c = tt
calm_drop start (suc n) (e ∷ events) c = calm_drop start n events c.1

there_at : (start : World) (events : List Event) → AreCalm start events → (a : ℕ) → start.devices a ≢ None → (replay start events).devices a ≢ None
there_at start [] c a h = h
there_at start (e ∷ events) c a h = devices_there (replay start events) e c.0 a (there_at start events c.1 a h)

pub capable_at : (start : World) (events : List Event) → IsFresh start → AreCalm start events → (a : ℕ) (d : DeviceState) → (replay start events).devices a ≡ Some d → HasCapacities d.kept
capable_at start [] f c a d is = (f.devices a d is).capacities
capable_at start (e ∷ events) f c a d is = devices_have (replay start events) e c.0 (capable_at start events f c.1) a d is

-- ---- what ended it

data Ending (k : ℕ) (what : LogWhat) : Type 0 where
  IsDone : what ≡ Done k → Ending k what
  IsRefused : (op : ℕ) (got expected : List ℕ) → what ≡ Refused k op got expected → Ending k what

ending : (k : ℕ) (what : LogWhat) → ends_it k what ≡ true → FailsNot what → Ending k what
ending k (Took j) h f = absurd (cc)
ending k (Done j) h f = IsDone (ap (λ z. Done z) (eqb-true j k h))
ending k (Failed j signs) h f = absurd f
ending k (Refused j op got expected) h f = IsRefused op got expected (ap (λ z. Refused z op got expected) (eqb-true j k h))
ending k (Sent j) h f = absurd (cc)
ending k (Lost j) h f = absurd (cc)

module _ (jobs : List Job) (turns : List GroupTurn) (start : World) (events : List Event) (first : IsFresh start) (calm : AreCalm start events) (on_line : (k : ℕ) (job : Job) → job_of jobs k ≡ Some job → start.devices job.device.raw ≢ None) (count : ℕ) where
  told_either : (k : ℕ) (log : List LogEntry) → NothingFailed log → state_of k log ≡ Over → IsToldDone k log ⊎ IsToldRefused k log
  told_either k [] f over = absurd (let c : Untaken ≡ Over = over in cc)
  told_either k (e ∷ log) f over = by_entry (is_to k e) (λ q. told_either k log f.1 q) where
    by_ending : Ending k e.what → IsToldDone k (e ∷ log) ⊎ IsToldRefused k (e ∷ log)
    by_ending (IsDone is) = inl (inl is)
    by_ending (IsRefused op got expected is) = inr (inl (op, got, expected, is))

    earlier : IsToldDone k log ⊎ IsToldRefused k log → IsToldDone k (e ∷ log) ⊎ IsToldRefused k (e ∷ log)
    earlier (inl t) = inl (inr t)
    earlier (inr t) = inr (inr t)

    by_entry : IsTo k e → (state_of k log ≡ Over → IsToldDone k log ⊎ IsToldRefused k log) → IsToldDone k (e ∷ log) ⊎ IsToldRefused k (e ∷ log)
    by_entry (TakesIt t) further = absurd (let c : Held e.worker e.at ≡ Over = sym (after_took k e (state_of k log) t) ∙ over in cc)
    by_entry (EndsIt t d) further = by_ending (ending k e.what d f.0)
    by_entry (Else t d) further = earlier (further (sym (after_other k e (state_of k log) t d) ∙ over))

  -- a job that a device answers wholly isn't refused
  answers_held : (k op : ℕ) (got expected : List ℕ) (job : Job) (log : List LogEntry) (worker : ℕ) → job_of jobs k ≡ Some job → IsAnsweredJob job → RefusesSo jobs start events log (Refused k op got expected) → EndsHeld worker (state_of k log) → ⊥
  answers_held k op got expected job log worker there answered refuses held = by_state (state_of k log) refl held where
    by_device : (since by : ℕ) → state_of k log ≡ Held by since → (o : Option DeviceState) → (world_at start events since).devices job.device.raw ≡ o → ⊥
    by_device since by is None e = there_at start (drop _ events) (calm_drop start _ events calm) job.device.raw (on_line k job there) e
    by_device since by is (Some d) e = refuses job by since d there is e (answered d.frames d.kept (capable_at start (drop _ events) first (calm_drop start _ events calm) job.device.raw d e))

    by_state : (s : JobState) → state_of k log ≡ s → EndsHeld worker s → ⊥
    by_state Untaken is h = h
    by_state (Held by since) is h = by_device since by is ((world_at start events since).devices job.device.raw) refl
    by_state Over is h = h

  told_done : (k : ℕ) (job : Job) (log : List LogEntry) → job_of jobs k ≡ Some job → IsAnsweredJob job → IsLog jobs turns count log → NothingFailed log → RefusesRightly jobs start events log → state_of k log ≡ Over → IsToldDone k log
  told_done k job [] there answered form f refuses over = absurd (let c : Untaken ≡ Over = over in cc)
  told_done k job (e ∷ log) there answered form f refuses over = by_entry (is_to k e) (λ q. told_done k job log there answered form.1 f.1 refuses.1 q) where
    by_ending : Ending k e.what → IsToldDone k (e ∷ log)
    by_ending (IsDone is) = inl is
    by_ending (IsRefused op got expected is) =
        let m : MayFollow jobs turns e.worker log (Refused k op got expected) = subst (MayFollow jobs turns e.worker log) is form.0.follows in
        absurd (answers_held k op got expected job log e.worker there answered (subst (RefusesSo jobs start events log) is refuses.0) m)

    by_entry : IsTo k e → (state_of k log ≡ Over → IsToldDone k log) → IsToldDone k (e ∷ log)
    by_entry (TakesIt t) further = absurd (let c : Held e.worker e.at ≡ Over = sym (after_took k e (state_of k log) t) ∙ over in cc)
    by_entry (EndsIt t d) further = by_ending (ending k e.what d f.0)
    by_entry (Else t d) further = inr (further (sym (after_other k e (state_of k log) t d) ∙ over))

  pub end_well : (log : List LogEntry) → IsLog jobs turns count log → NothingFailed log → RefusesRightly jobs start events log → EndWell jobs log
  end_well log form f refuses = record { each = λ k job there over. told_either k log f over; answered = λ k job there answered over. told_done k job log there answered form f refuses over }
