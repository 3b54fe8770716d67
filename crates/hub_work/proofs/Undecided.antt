-- A job's end is told only where no attempt of it runs, and what is put where none runs begins one that the last session left undecided.
use Rattle.std.proofs.Common.{◌≡◌, ℕ, inl, inr, true, false, List, Option, Some, None, refl, sym, subst, ◌∙◌, ap}
use Rattle.knx_model.specs.declared.address.IndAddr.{IndAddr}
use Rattle.knx_model.specs.declared.connection.TransportFrame.TheVariants.{Connect}
use Rattle.knx_model.specs.Plans.{Plan}
use Rattle.line_model.specs.declared.log.LogEntry.{LogEntry}
use Rattle.line_model.specs.declared.log.LogWhat.{LogWhat}
use Rattle.line_model.specs.declared.log.LogWhat.TheVariants as log
use Rattle.line_model.specs.Record.{Placed}
use Rattle.line_model.specs.ClientView.{Puts}
use Rattle.line_model.specs.Moments.{Moment, moments, between}
use Rattle.line_model.specs.Log.{Job, JobState, Held, job_of, state_of}
use Rattle.line_model.specs.Told.{OfJob, WentThrough, IsRefused}
use Rattle.line_model.specs.Attempts.{Attempts, Resting, Running, attempts, MayBegin}
use Rattle.line_model.specs.Waiting.{IsResting, attempts_of}
use Rattle.line_model.specs.Ends.{IsAtRest, EndsSo, BeginsSo}
use Rattle.download_core.specs.declared.did.Did.{Did}
use Rattle.download_core.specs.declared.did.Did.TheVariants as did
use Rattle.download_core.specs.Attempt.{DownloaderState}
use Rattle.download_core.specs.Record.{FitsRecord}
use Rattle.download_core.specs.Steps.{next_did}
use Rattle.download_core.specs.Tells.{last_session, IsAtEnd, is_end, EndsExactly}
use Rattle.download_core.specs.Turns.{entry_of}
use Rattle.hub_work.specs.Telegrams.{Telling, IsNextRequest}
use Rattle.hub_work.specs.Turns.{TellsTurn}
use Rattle.hub_work.proofs.Deeds.{puts_group}

-- ---- an end

is_ending : (k : ℕ) (d : Did) (what : LogWhat) → entry_of k d ≡ Some what → is_end d ≡ true
is_ending k (did.Send tpdu) what e = absurd (cc)
is_ending k did.Wait what e = absurd (cc)
is_ending k did.Done what e = refl
is_ending k (did.Failed signs) what e = refl
is_ending k (did.Refused op got expected) what e = refl

rests_so : (jobs : List Job) (places : List Placed) (told : List LogEntry) (at k : ℕ) (d : Did) (what : LogWhat) → entry_of k d ≡ Some what → IsAtRest jobs places told at k → EndsSo jobs places told at what
rests_so jobs places told at k (did.Send tpdu) what e rest = absurd (cc)
rests_so jobs places told at k did.Wait what e rest = absurd (cc)
rests_so jobs places told at k did.Done what e rest = subst (EndsSo jobs places told at) (let is : log.Done k ≡ what = cc in is) rest
rests_so jobs places told at k (did.Failed signs) what e rest = subst (EndsSo jobs places told at) (let is : log.Failed k signs ≡ what = cc in is) rest
rests_so jobs places told at k (did.Refused op got expected) what e rest = subst (EndsSo jobs places told at) (let is : log.Refused k op got expected ≡ what = cc in is) rest

-- of a job that is held
pub ends_at_rest : EndsExactly → (jobs : List Job) (places : List Placed) (told : List LogEntry) (s : DownloaderState) (now at k worker since : ℕ) (job : Job) (d : Did) (what : LogWhat) → job_of jobs k ≡ Some job → state_of k told ≡ Held worker since
    → s.device ≡ job.device → s.plan ≡ job.plan → FitsRecord s now (between since at (moments places)) → next_did s now ≡ d → entry_of k d ≡ Some what → EndsSo jobs places told at what
ends_at_rest exactly jobs places told s now at k worker since job d what there held device plan fits next entry = rests_so jobs places told at k d what entry rest where
  rests : IsResting (attempts s.device s.plan (between since at (moments places)))
  rests = ((exactly s now (between since at (moments places)) fits).0 (ap is_end next ∙ is_ending k d what entry)).rests

  its : IsResting (attempts_of job since at places)
  its =
      subst (λ (p : Plan). IsResting (attempts job.device p (between since at (moments places)))) plan
      (subst (λ (a : IndAddr). IsResting (attempts a s.plan (between since at (moments places)))) device rests)

  rest : IsAtRest jobs places told at k
  rest =
      subst (λ (o : Option Job). OfJob (λ j n. IsResting (attempts_of j n at places)) o (state_of k told)) (sym there)
      (subst (λ (h : JobState). OfJob (λ j n. IsResting (attempts_of j n at places)) (Some job) h) (sym held) its)

-- what is told of a group telegram ends no job
pub telegram_rests : (jobs : List Job) (places : List Placed) (told : List LogEntry) (at k : ℕ) (what : LogWhat) → TellsTurn k what → EndsSo jobs places told at what
telegram_rests jobs places told at k (log.Took i) tells = absurd tells
telegram_rests jobs places told at k (log.Done i) tells = absurd tells
telegram_rests jobs places told at k (log.Failed i signs) tells = absurd tells
telegram_rests jobs places told at k (log.Refused i op got expected) tells = absurd tells
telegram_rests jobs places told at k (log.Sent i) tells = tt
telegram_rests jobs places told at k (log.Lost i) tells = tt

-- ---- a beginning

-- the last session of these moments is undecided
pub record LeavesUndecided (device : IndAddr) (plan : Plan) (l : List Moment) : Type 0 where
  pub not_through : ¬ WentThrough device.raw plan (last_session device l)
  pub not_refused : (op : ℕ) (got expected : List ℕ) → ¬ IsRefused device.raw plan op got expected (last_session device l)

rests_by : (t : Attempts) → MayBegin t → IsResting t
rests_by (Resting k) may = tt
rests_by (Running k a) may = may

pub undecided : EndsExactly → (s : DownloaderState) (now : ℕ) (tpdu : List ℕ) (l : List Moment) → FitsRecord s now l → next_did s now ≡ did.Send tpdu → MayBegin (attempts s.device s.plan l) → LeavesUndecided s.device s.plan l
undecided exactly s now tpdu l fits next may = record {
  not_through = λ through. not_ended (record { rests = rests_by (attempts s.device s.plan l) may; which = inl through });
  not_refused = λ op got expected refused. not_ended (record { rests = rests_by (attempts s.device s.plan l) may; which = inr (inr (op, got, expected, refused)) });
}
  where
    not_ended : IsAtEnd s.device s.plan l → ⊥
    not_ended end = let z : true ≡ false = sym ((exactly s now l fits).1 end) ∙ ap is_end next in cc

-- a group telegram begins no attempt
pub telegram_begins : (jobs : List Job) (told : List LogEntry) (places : List Placed) (t : Telling) (cemi : List ℕ) (m : Moment) → IsNextRequest t cemi → m.what ≡ Puts cemi → BeginsSo jobs told places m
telegram_begins jobs told places t cemi m r what k since job held connects = absurd (let z : None ≡ Some Connect = sym (puts_group m cemi r.turn what r.its job.device).put_is ∙ connects in cc)
