-- A downloader's step, for the log and for the turn of its worker.
use Rattle.std.proofs.Common.{◌≡◌, inl, inr, ℕ, true, List, Option, Some, refl, sym, subst, ◌∙◌}
use Rattle.std.proofs.lemmas.Bool.{false_from_ne_true, both_ways, eqb-true}
use Rattle.knx_model.specs.declared.address.IndAddr.{IndAddr}
use Rattle.knx_model.specs.declared.connection.TransportFrame.{TransportFrame}
use Rattle.knx_model.specs.declared.connection.TransportFrame.TheVariants as frame
use Rattle.knx_model.specs.Connection.{frame_in}
use Rattle.knx_model.specs.Plans.{Plan}
use Rattle.line_model.specs.declared.group.GroupTurn.{GroupTurn}
use Rattle.line_model.specs.declared.log.LogEntry.{LogEntry}
use Rattle.line_model.specs.declared.log.LogWhat.{LogWhat}
use Rattle.line_model.specs.declared.log.LogWhat.TheVariants as log
use Rattle.line_model.specs.Record.{Placed, entries}
use Rattle.line_model.specs.ClientView.{channel}
use Rattle.line_model.specs.Moments.{moments, between, is_connect}
use Rattle.line_model.specs.Log.{Job, JobState, Held, job_of, state_of, ends_it}
use Rattle.line_model.specs.Told.{IsTrue, OfJob}
use Rattle.line_model.specs.Asks.{HasPlace}
use Rattle.line_model.specs.Attempts as line
use Rattle.line_model.specs.Attempts.{Attempts, attempts, MayPut}
use Rattle.line_model.specs.Waiting.{IsHeldJob, TurnWaits, IsEnding, IsResting, NextIsSending, attempts_of}
use Rattle.download_core.specs.declared.did.Did.{Did}
use Rattle.download_core.specs.declared.did.Did.TheVariants as did
use Rattle.download_core.specs.Attempt.{DownloaderState}
use Rattle.download_core.specs.Steps.{next_did}
use Rattle.download_core.specs.Tells.{TellsTruly, IsAtEnd, is_end}
use Rattle.download_core.specs.Turns.{IsDownloaderOf, entry_of, LogsTruly, StepWaits, TurnWaitsExactly, ConnectsAtRest}
use Rattle.download_core.proofs.Readings.{same_number}
use Rattle.download_core.proofs.SentRecord.{sends_rightly}
use Rattle.download_core.proofs.Exactly.{ends_truly}
use Rattle.download_core.proofs.Decided.{ends_exactly, sends_exactly}

-- ---- of a job that is held

held_so : (jobs : List Job) (told : List LogEntry) (k since : ℕ) (job : Job) (P : Job → ℕ → Type 0) → IsHeldJob jobs told k job since → P job since → OfJob P (job_of jobs k) (state_of k told)
held_so jobs told k since job P h p =
    subst (λ (o : Option Job). OfJob P o (state_of k told)) (sym h.there) (subst (λ (t : JobState). OfJob P (Some job) t) (sym h.held) p)

held_by : (jobs : List Job) (told : List LogEntry) (k since : ℕ) (job : Job) (P : Job → ℕ → Type 0) → IsHeldJob jobs told k job since → OfJob P (job_of jobs k) (state_of k told) → P job since
held_by jobs told k since job P h p = subst (λ (t : JobState). OfJob P (Some job) t) h.held (subst (λ (o : Option Job). OfJob P o (state_of k told)) h.there p)

-- ---- the log

told_at : (jobs : List Job) (turns : List GroupTurn) (told : List LogEntry) (places : List Placed) (at k since : ℕ) (job : Job) (d : Did) (what : LogWhat) → IsHeldJob jobs told k job since → TellsTruly job.device job.plan (between since at (moments places)) d
    → entry_of k d ≡ Some what → IsTrue jobs turns places told at what
told_at jobs turns told places at k since job (did.Send tpdu) what h t e = absurd (cc e)
told_at jobs turns told places at k since job did.Wait what h t e = absurd (cc e)
told_at jobs turns told places at k since job did.Done what h t e = let is : log.Done k ≡ what = cc e in subst (IsTrue jobs turns places told at) is (held_so jobs told k since job _ h t)
told_at jobs turns told places at k since job (did.Failed signs) what h t e = let is : log.Failed k signs ≡ what = cc e in subst (IsTrue jobs turns places told at) is (held_so jobs told k since job _ h t)
told_at jobs turns told places at k since job (did.Refused op got expected) what h t e = let is : log.Refused k op got expected ≡ what = cc e in subst (IsTrue jobs turns places told at) is (held_so jobs told k since job _ h t)

of_job : (P : IndAddr → Plan → Type 0) (s : DownloaderState) (job : Job) → s.device ≡ job.device → s.plan ≡ job.plan → P s.device s.plan → P job.device job.plan
of_job P s job d p x = subst (λ (q : Plan). P job.device q) p (subst (λ (e : IndAddr). P e s.plan) d x)

to_job : (P : IndAddr → Plan → Type 0) (s : DownloaderState) (job : Job) → s.device ≡ job.device → s.plan ≡ job.plan → P job.device job.plan → P s.device s.plan
to_job P s job d p x = subst (λ (e : IndAddr). P e s.plan) (sym d) (subst (λ (q : Plan). P job.device q) (sym p) x)

pub logs_truly : LogsTruly
logs_truly s now jobs turns told places at k what w e =
    let l = between w.since at (moments places) in
    told_at jobs turns told places at k w.since w.job (next_did s now) what w.holds (of_job (λ device plan. TellsTruly device plan l (next_did s now)) s w.job w.device w.plan (ends_truly s now l w.fits)) e

-- ---- an entry that would be true

abbrev EndsJob : List Job → List GroupTurn → List LogEntry → List Placed → ℕ → ℕ → Job → ℕ → Type 0
EndsJob jobs turns told places at k job since = IsEnding jobs turns told places at k (attempts_of job since at places)

ending_so : (jobs : List Job) (turns : List GroupTurn) (told : List LogEntry) (places : List Placed) (at k since : ℕ) (job : Job) → IsHeldJob jobs told k job since → IsAtEnd job.device job.plan (between since at (moments places)) → EndsJob jobs turns told places at k job since
ending_so jobs turns told places at k since job h e = elim (e.which) [
  | inl w ↦ record { rests = e.rests; what = log.Done k; ends = same_number k; is_true = held_so jobs told k since job _ h w }
  | inr o ↦ elim o [
    | inl f ↦ record { rests = e.rests; what = log.Failed k f.0; ends = same_number k; is_true = held_so jobs told k since job _ h f.1 }
    | inr r ↦ record { rests = e.rests; what = log.Refused k r.0 r.1 r.2; ends = same_number k; is_true = held_so jobs told k since job _ h r.3 }
  ]
]

ended_by : (jobs : List Job) (turns : List GroupTurn) (told : List LogEntry) (places : List Placed) (at k since : ℕ) (job : Job) (what : LogWhat) → IsHeldJob jobs told k job since → IsResting (attempts_of job since at places) → ends_it k what ≡ true
    → IsTrue jobs turns places told at what → IsAtEnd job.device job.plan (between since at (moments places))
ended_by jobs turns told places at k since job (log.Took j) h r e t = absurd (cc e)
ended_by jobs turns told places at k since job (log.Done j) h r e t =
    record { rests = r; which = inl (held_by jobs told k since job _ h (subst (λ (i : ℕ). IsTrue jobs turns places told at (log.Done i)) (eqb-true j k e) t)) }
ended_by jobs turns told places at k since job (log.Failed j signs) h r e t =
    record { rests = r; which = inr (inl (signs, held_by jobs told k since job _ h (subst (λ (i : ℕ). IsTrue jobs turns places told at (log.Failed i signs)) (eqb-true j k e) t))) }
ended_by jobs turns told places at k since job (log.Refused j op got expected) h r e t =
    record { rests = r; which = inr (inr (op, got, expected, held_by jobs told k since job _ h (subst (λ (i : ℕ). IsTrue jobs turns places told at (log.Refused i op got expected)) (eqb-true j k e) t))) }
ended_by jobs turns told places at k since job (log.Sent j) h r e t = absurd (cc e)
ended_by jobs turns told places at k since job (log.Lost j) h r e t = absurd (cc e)

-- ---- the turn

-- the job that a turn holds, and since when, is one
pub record IsSameJob (one other : Job) (since from : ℕ) : Type 0 where
  pub job : other ≡ one
  pub since_is : from ≡ since

same_job : (jobs : List Job) (told : List LogEntry) (k since from : ℕ) (one other : Job) → IsHeldJob jobs told k one since → IsHeldJob jobs told k other from → IsSameJob one other since from
same_job jobs told k since from one other a b = record { job = (let e : Some other ≡ Some one = sym b.there ∙ a.there in cc e); since_is = (let e : Held b.worker from ≡ Held a.worker since = sym b.held ∙ a.held in cc e) }

-- said of the job
abbrev Goes : List Job → List GroupTurn → List LogEntry → List Placed → ℕ → ℕ → ℕ → Job → ℕ → Type 0
Goes jobs turns told places at now k job since = (EndsJob jobs turns told places at k job since → ⊥) × (NextIsSending (attempts_of job since at places) now → HasPlace (channel (entries places)) → ⊥)

goes_by : (jobs : List Job) (turns : List GroupTurn) (told : List LogEntry) (places : List Placed) (at now k since : ℕ) (job : Job) → IsHeldJob jobs told k job since → TurnWaits jobs turns told places at now k 0 → Goes jobs turns told places at now k job since
goes_by jobs turns told places at now k since job h t =
    let same = same_job jobs told k since t.since job t.job h t.holds in
    subst (λ (j : Job). Goes jobs turns told places at now k j since) same.job (subst (λ (i : ℕ). Goes jobs turns told places at now k t.job i) same.since_is (t.goes_on, t.sends_nothing))

waits_by : (s : DownloaderState) (now : ℕ) (jobs : List Job) (turns : List GroupTurn) (told : List LogEntry) (places : List Placed) (at k : ℕ) → (w : IsDownloaderOf s now jobs told places at k) → Goes jobs turns told places at now k w.job w.since
    → StepWaits (next_did s now) (HasPlace (channel (entries places)))
waits_by s now jobs turns told places at k w g =
    let l = between w.since at (moments places) in
    record {
      no_end = false_from_ne_true (is_end (next_did s now)) (λ e. g.0 (ending_so jobs turns told places at k w.since w.job w.holds (of_job (λ device plan. IsAtEnd device plan l) s w.job w.device w.plan ((ends_exactly s now l w.fits).0 e))));
      cannot_send = λ e. g.1 (of_job (λ device plan. NextIsSending (attempts device plan l) now) s w.job w.device w.plan ((sends_exactly s now l w.fits).0 e).next);
    }

waits_so : (s : DownloaderState) (now : ℕ) (jobs : List Job) (turns : List GroupTurn) (told : List LogEntry) (places : List Placed) (at k : ℕ) → IsDownloaderOf s now jobs told places at k → StepWaits (next_did s now) (HasPlace (channel (entries places)))
    → TurnWaits jobs turns told places at now k 0
waits_so s now jobs turns told places at k w v =
    let l = between w.since at (moments places) in
    let goes_on : IsAtEnd s.device s.plan l → ⊥ = λ e. both_ways (is_end (next_did s now)) v.no_end ((ends_exactly s now l w.fits).1 e) in
    record {
      job = w.job;
      since = w.since;
      holds = w.holds;
      all_taken_in = refl;
      goes_on = λ e. goes_on (to_job (λ device plan. IsAtEnd device plan l) s w.job w.device w.plan (ended_by jobs turns told places at k w.since w.job e.what w.holds e.rests e.ends e.is_true));
      sends_nothing = λ n. v.cannot_send ((sends_exactly s now l w.fits).1 (record { next = to_job (λ device plan. NextIsSending (attempts device plan l) now) s w.job w.device w.plan n; goes_on = goes_on }));
    }

pub turn_waits_exactly : TurnWaitsExactly
turn_waits_exactly s now jobs turns told places at k w = (λ t. waits_by s now jobs turns told places at k w (goes_by jobs turns told places at now k w.since w.job w.holds t), waits_so s now jobs turns told places at k w)

-- ---- whether an attempt runs

connect_rests : (t : Attempts) (now : ℕ) (octets : List ℕ) (p : TransportFrame) → MayPut t now octets p → is_connect (Some p) ≡ true → IsResting t
connect_rests (line.Resting k) now octets p m c = tt
connect_rests (line.Running k x) now octets frame.Connect m c = absurd m
connect_rests (line.Running k x) now octets frame.Disconnect m c = absurd (cc c)
connect_rests (line.Running k x) now octets (frame.Ack n) m c = absurd (cc c)
connect_rests (line.Running k x) now octets (frame.Nak n) m c = absurd (cc c)
connect_rests (line.Running k x) now octets (frame.Numbered n apdu) m c = absurd (cc c)
connect_rests (line.Running k x) now octets frame.Other m c = absurd (cc c)

rest_connects : (t : Attempts) (now : ℕ) (octets : List ℕ) (p : TransportFrame) → MayPut t now octets p → IsResting t → is_connect (Some p) ≡ true
rest_connects (line.Running k x) now octets p m r = absurd r
rest_connects (line.Resting k) now octets frame.Connect m r = refl
rest_connects (line.Resting k) now octets frame.Disconnect m r = absurd m
rest_connects (line.Resting k) now octets (frame.Ack n) m r = absurd m
rest_connects (line.Resting k) now octets (frame.Nak n) m r = absurd m
rest_connects (line.Resting k) now octets (frame.Numbered n apdu) m r = absurd m
rest_connects (line.Resting k) now octets frame.Other m r = absurd m

pub connects_at_rest : ConnectsAtRest
connects_at_rest s now octets l f h =
    let may = sends_rightly s now octets l f h in (connect_rests (attempts s.device s.plan l) now octets (frame_in octets) may, rest_connects (attempts s.device s.plan l) now octets (frame_in octets) may)
