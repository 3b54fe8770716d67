-- What the workers hold, and the jobs that they hold by the log.
use Rattle.std.proofs.Common.{◌≡◌, ◌≢◌, Bool, true, ℕ, zero, suc, ◌-◌, ◌≤◌, List, [], ◌∷◌, length, map, set, Option, Some, None, refl, sym, ap, subst, ◌∙◌, arith}
use Rattle.std.specs.Prelude.{slice_get}
use Rattle.std.proofs.lemmas.List.{length-map, map-set}
use Rattle.line_model.specs.Moments.{Moment, between}
use Rattle.line_model.specs.Log.{Job, Held, job_of, state_of}
use Rattle.device_reservation.specs.declared.stage.Stage.TheVariants.{Held as IsHeldBy}
use Rattle.device_reservation.specs.Reservation.{Reservation, stage_of}
use Rattle.device_reservation.proofs.Logged.{held_by_log}
use Rattle.hub_work.specs.declared.crew.Held.{Held as Holds}
use Rattle.hub_work.specs.declared.work.Sender.TheVariants.{Worker}
use Rattle.hub_work.specs.declared.work.Work.{Work}
use Rattle.hub_work.specs.Books.{AreJobsOf, job_in, jobs_held, held_at}
use Rattle.hub_work.specs.Crew.{Holding, holding_in, holdings, begun_in, after_begun}
use Rattle.hub_work.specs.Works.{KeepsBooks}
use Rattle.hub_work.specs.Fits.{Fits, FitsJob}
use Rattle.hub_work.proofs.HeldJobs.{held_in}

-- ---- at a place

pub holding_at : (crew : List (Option Holds)) (place : ℕ) (h : Holds) → Some h ≡ held_at crew place → slice_get (holdings crew) place ≡ Some (holding_in (Some h))
holding_at [] place h e = absurd (cc)
holding_at (x ∷ crew) zero h e = ap (λ (o : Option Holds). Some (holding_in o)) (sym e)
holding_at (x ∷ crew) (suc place) h e = holding_at crew place h e

pub job_at : (crew : List (Option Holds)) (place : ℕ) (h : Holds) → Some h ≡ held_at crew place → slice_get (jobs_held crew) place ≡ Some (Some h.job)
job_at [] place h e = absurd (cc)
job_at (x ∷ crew) zero h e = ap (λ (o : Option Holds). Some (job_in o)) (sym e)
job_at (x ∷ crew) (suc place) h e = job_at crew place h e

pub same_held_job : (x y : Holding) → Some (Some x) ≡ Some (Some y) → x.job ≡ y.job
same_held_job x y e = ap (λ (h : Holding). h.job) (inner x y e)
  where
    inner : (x y : Holding) → Some (Some x) ≡ Some (Some y) → x ≡ y
    inner x y e = cc

pub same_worker : (a b : ℕ) → Worker a ≡ Worker b → a ≡ b
same_worker a b e = cc

-- a worker holds one job
pub same_slot : (crew : List (Option Holds)) (h : Holds) (worker k : ℕ) (job : Job) (b : Bool) → Some h ≡ held_at crew (worker - 1) → slice_get (holdings crew) (worker - 1) ≡ Some (Some (record { job = k; device = job.device; begun = b })) → k ≡ h.job
same_slot crew h worker k job b e r = same_held_job (record { job = k; device = job.device; begun = b }) (record { job = h.job; device = h.device; begun = h.begun }) (sym r ∙ holding_at crew (worker - 1) h e)

-- ---- the jobs that they hold

abbrev job_of_holding : Option Holding → Option ℕ
job_of_holding None = None
job_of_holding (Some h) = Some h.job

one_job : (o : Option Holds) → job_in o ≡ job_of_holding (holding_in o)
one_job None = refl
one_job (Some h) = refl

by_holdings : (crew : List (Option Holds)) → jobs_held crew ≡ map job_of_holding (holdings crew)
by_holdings [] = refl
by_holdings (x ∷ crew) = ap (λ (o : Option ℕ). o ∷ jobs_held crew) (one_job x) ∙ ap (λ (os : List (Option ℕ)). job_of_holding (holding_in x) ∷ os) (by_holdings crew)

pub same_jobs_held : (old new : List (Option Holds)) → holdings new ≡ holdings old → jobs_held new ≡ jobs_held old
same_jobs_held old new e = by_holdings new ∙ (ap (map job_of_holding) e ∙ sym (by_holdings old))

-- an attempt that begins leaves the jobs
begun_job : (o : Option Holding) → job_of_holding (begun_in o) ≡ job_of_holding o
begun_job None = refl
begun_job (Some h) = refl

begun_jobs : (place : ℕ) (held : List (Option Holding)) → map job_of_holding (after_begun place held) ≡ map job_of_holding held
begun_jobs place [] = refl
begun_jobs zero (x ∷ held) = ap (λ (o : Option ℕ). o ∷ map job_of_holding held) (begun_job x)
begun_jobs (suc place) (x ∷ held) = ap (λ (os : List (Option ℕ)). job_of_holding x ∷ os) (begun_jobs place held)

pub begun_jobs_held : (old new : List (Option Holds)) (place : ℕ) → holdings new ≡ after_begun place (holdings old) → jobs_held new ≡ jobs_held old
begun_jobs_held old new place e = by_holdings new ∙ (ap (map job_of_holding) e ∙ (begun_jobs place (holdings old) ∙ sym (by_holdings old)))

-- ---- one worker's is written

pub same_holdings : (crew : List (Option Holds)) (place : ℕ) (old new : Holds) → Some old ≡ held_at crew place → holding_in (Some new) ≡ holding_in (Some old) → holdings (set crew place (Some new)) ≡ holdings crew
same_holdings [] place old new e same = absurd (cc)
same_holdings (x ∷ crew) zero old new e same = ap (λ (o : Option Holding). o ∷ holdings crew) (same ∙ ap holding_in e)
same_holdings (x ∷ crew) (suc place) old new e same = ap (λ (os : List (Option Holding)). holding_in x ∷ os) (same_holdings crew place old new e same)

pub begun_holdings : (crew : List (Option Holds)) (place at : ℕ) (old new : Holds) → at ≡ place → Some old ≡ held_at crew at → holding_in (Some new) ≡ begun_in (holding_in (Some old)) → holdings (set crew at (Some new)) ≡ after_begun place (holdings crew)
begun_holdings crew place at old new is e same = subst (λ (i : ℕ). holdings (set crew at (Some new)) ≡ after_begun i (holdings crew)) is (here crew at e)
  where
    here : (crew : List (Option Holds)) (place : ℕ) → Some old ≡ held_at crew place → holdings (set crew place (Some new)) ≡ after_begun place (holdings crew)
    here [] place e = absurd (cc)
    here (x ∷ crew) zero e = ap (λ (o : Option Holding). o ∷ holdings crew) (same ∙ ap (λ (o : Option Holds). begun_in (holding_in o)) e)
    here (x ∷ crew) (suc place) e = ap (λ (os : List (Option Holding)). holding_in x ∷ os) (here crew place e)

pub none_begun : (crew : List (Option Holds)) (place at : ℕ) → at ≡ place → None ≡ held_at crew at → holdings crew ≡ after_begun place (holdings crew)
none_begun crew place at is e = subst (λ (i : ℕ). holdings crew ≡ after_begun i (holdings crew)) is (here crew at e)
  where
    here : (crew : List (Option Holds)) (place : ℕ) → None ≡ held_at crew place → holdings crew ≡ after_begun place (holdings crew)
    here [] place e = refl
    here (None ∷ crew) zero e = refl
    here (Some h ∷ crew) zero e = absurd (cc)
    here (x ∷ crew) (suc place) e = ap (λ (os : List (Option Holding)). holding_in x ∷ os) (here crew place e)

-- ---- an attempt of one worker's job has begun

pub begun_there : (place : ℕ) (held : List (Option Holding)) (x : Holding) → slice_get held place ≡ Some (Some x) → slice_get (after_begun place held) place ≡ Some (Some (record x { begun = true }))
begun_there place [] x e = absurd (cc)
begun_there zero (y ∷ held) x e = ap (λ (o : Option Holding). Some (begun_in o)) (inner y (Some x) e)
  where
    inner : (a b : Option Holding) → Some a ≡ Some b → a ≡ b
    inner a b e = cc
begun_there (suc place) (y ∷ held) x e = begun_there place held x e

pub begun_elsewhere : (place other : ℕ) (held : List (Option Holding)) → other ≢ place → slice_get (after_begun place held) other ≡ slice_get held other
begun_elsewhere place other [] apart = refl
begun_elsewhere zero zero (y ∷ held) apart = absurd (apart refl)
begun_elsewhere zero (suc other) (y ∷ held) apart = refl
begun_elsewhere (suc place) zero (y ∷ held) apart = refl
begun_elsewhere (suc place) (suc other) (y ∷ held) apart = begun_elsewhere place other held (λ e. apart (ap suc e))

-- ---- a slot is written

pub set_holdings : (crew : List (Option Holds)) (place : ℕ) (o : Option Holds) → holdings (set crew place o) ≡ set (holdings crew) place (holding_in o)
set_holdings crew place o = map-set holding_in crew place o

-- a worker that holds none
pub unheld : (crew : List (Option Holds)) (place : ℕ) (x : Holding) → None ≡ held_at crew place → slice_get (holdings crew) place ≡ Some (Some x) → ⊥
unheld [] place x e h = cc
unheld (None ∷ crew) zero x e h = cc
unheld (Some y ∷ crew) zero x e h = cc
unheld (y ∷ crew) (suc place) x e h = unheld crew place x e h

pub no_job : (crew : List (Option Holds)) (place : ℕ) → None ≡ held_at crew place → (k : ℕ) → slice_get (jobs_held crew) place ≢ Some (Some k)
no_job [] place e k h = cc
no_job (None ∷ crew) zero e k h = cc
no_job (Some x ∷ crew) zero e k h = cc
no_job (x ∷ crew) (suc place) e k h = no_job crew place e k h

-- as many workers
pub same_length : (old new : List (Option Holds)) → holdings new ≡ holdings old → length new ≡ length old
same_length old new e = sym (length-map new holding_in) ∙ (ap (λ (hs : List (Option Holding)). length hs) e ∙ length-map old holding_in)

pub as_many : (old new : List (Option Holds)) → jobs_held new ≡ jobs_held old → length new ≡ length old
as_many old new e = sym (length-map new job_in) ∙ (ap (λ (js : List (Option ℕ)). length js) e ∙ length-map old job_in)

-- ---- by the log

pub crew_holds : (w : Work) (jobs : List Job) (at place : ℕ) (h : Holds) → KeepsBooks at w → AreJobsOf w.reservation.devices jobs → Some h ≡ held_at w.crew place → (since : ℕ) × (state_of h.job w.journal.entries ≡ Held (suc place) since)
crew_holds w jobs at place h books of e =
    held_by_log jobs w.journal.entries h.job (suc place) (books.written.reserved jobs of)
    (subst (λ (r : Reservation). stage_of r h.job ≡ Some (IsHeldBy (suc place))) (sym (books.live.reservation_is jobs of)) ((books.live.holds place h.job).0 (job_at w.crew place h e)))

pub crew_holds_worker : (w : Work) (jobs : List Job) (at worker : ℕ) (h : Holds) → 1 ≤ worker → KeepsBooks at w → AreJobsOf w.reservation.devices jobs → Some h ≡ held_at w.crew (worker - 1) → (since : ℕ) × (state_of h.job w.journal.entries ≡ Held worker since)
crew_holds_worker w jobs at worker h from books of e =
    let c : (since : ℕ) × (state_of h.job w.journal.entries ≡ Held (suc (worker - 1)) since) = crew_holds w jobs at (worker - 1) h books of e in
    let number : suc (worker - 1) ≡ worker = omega arith in
    (c.0, c.1 ∙ ap (λ n. Held n c.0) number)

-- ---- a job that a worker at a place holds, by log and crew

there_is : {X : Type 0} (o : Option X) → o ≢ None → (x : X) × (o ≡ Some x)
there_is None e = absurd (e refl)
there_is (Some x) e = (x, refl)

-- what the worker holds there is of this device
same_held_device : (x y : Holding) → Some (Some x) ≡ Some (Some y) → x.device ≡ y.device
same_held_device x y e = ap (λ (h : Holding). h.device) (inner x y e)
  where
    inner : (x y : Holding) → Some (Some x) ≡ Some (Some y) → x ≡ y
    inner x y e = cc

pub held_anywhere : (crew : List (Option Holds)) (place : ℕ) (x : Holding) → slice_get (holdings crew) place ≡ Some (Some x) → ((h : Holds) → Some h ≡ held_at crew place → h.device ≡ x.device → ⊥) → ⊥
held_anywhere [] place x e apart = cc
held_anywhere (None ∷ crew) zero x e apart = cc
held_anywhere (Some h ∷ crew) zero x e apart = apart h refl (same_held_device (record { job = h.job; device = h.device; begun = h.begun }) x e)
held_anywhere (y ∷ crew) (suc place) x e apart = held_anywhere crew place x e apart

at_place : (crew : List (Option Holds)) (place : ℕ) (x : Option (Option Holding)) → slice_get (holdings crew) (suc place - 1) ≡ x → slice_get (holdings crew) place ≡ x
at_place crew place x h = let same : suc place - 1 ≡ place = omega arith in subst (λ i. slice_get (holdings crew) i ≡ x) same h

pub record IsHeldSo (jobs : List Job) (w : Work) (at place : ℕ) (h : Holds) : Type 0 where
  pub since : ℕ
  pub held : state_of h.job w.journal.entries ≡ Held (suc place) since
  pub job : Job
  pub there : job_of jobs h.job ≡ Some job
  pub device : job.device ≡ h.device

pub held_so : (jobs : List Job) (w : Work) (now at : ℕ) (l : List Moment) (place : ℕ) (h : Holds) → KeepsBooks at w → Fits jobs w now at l → Some h ≡ held_at w.crew place → IsHeldSo jobs w at place h
held_so jobs w now at l place h books f e =
    let c : (since : ℕ) × (state_of h.job w.journal.entries ≡ Held (suc place) since) = crew_holds w jobs at place h books f.devices e in
    let i : (job : Job) × (job_of jobs h.job ≡ Some job) = there_is (job_of jobs h.job) (held_in jobs w.telegrams.turns at w.journal.entries h.job (suc place) c.0 (books.written.form jobs f.devices) c.1).there in
    let j : FitsJob w now (between c.0 at l) h.job (suc place) i.0 = f.held h.job (suc place) c.0 i.0 i.1 c.1 in
    record {
      since = c.0;
      held = c.1;
      job = i.0;
      there = i.1;
      device = same_held_device _ (record { job = h.job; device = h.device; begun = h.begun }) (sym (at_place w.crew place _ j.holds) ∙ holding_at w.crew place h e);
    }
