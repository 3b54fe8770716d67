-- By record and log a poll lasts as it should: who has something to do and which deadlines there are is what these say.
use Rattle.std.proofs.Common.{◌≡◌, ◌≢◌, ◌⊎◌, inl, inr, ◌↔◌, ℕ, zero, suc, ◌+◌, ◌-◌, ◌<◌, ◌≤◌, eqb, Bool, true, false, List, [], ◌∷◌, min, Option, Some, None, refl, sym, subst, ap, ◌∙◌, arith}
use Rattle.std.specs.Prelude.{Contains, slice_get, nat_le, not, ◌&&◌, ◌||◌}
use Rattle.std.proofs.lemmas.Bool.{cases_eq, ne_eqb, false_from_ne_true}
use Rattle.std.proofs.lemmas.Bool.Decides.{nat_tests}
use Rattle.std.proofs.lemmas.Option.{same_Some}
use Rattle.knx_model.specs.Connection.{last_time, wait_end}
use Rattle.knx_model.specs.ClientConnection.{client_deadline}
use Rattle.line_model.specs.Record.{Placed, entries}
use Rattle.line_model.specs.ClientView.{channel}
use Rattle.line_model.specs.ChannelLost.{answer_wait}
use Rattle.line_model.specs.Moments.{moments, between}
use Rattle.line_model.specs.Log.{Job, Held, job_of, state_of}
use Rattle.line_model.specs.Asks.{HasPlace}
use Rattle.line_model.specs.Attempts.{Attempts, attempts, begun}
use Rattle.line_model.specs.Closing as close
use Rattle.line_model.specs.Waiting.{IsHeldJob, TurnWaits, HasWork, IsDeadline, OfChannel, OfJob, NextIsSending, attempts_of, attempt_deadline, closing_deadline, channel_deadlines, longest_poll, PollEnds, AsLongAsItMay, AtDeadline, AtLastTime, LastsUntil, PollsSo}
use Rattle.line_model.specs.Waiting as when
use Rattle.device_reservation.specs.declared.stage.Stage.TheVariants.{Held as IsHeldBy}
use Rattle.device_reservation.specs.Reservation.{stage_of}
use Rattle.download_core.specs.declared.did.Did.{Did}
use Rattle.download_core.specs.declared.did.Did.TheVariants as did
use Rattle.download_core.specs.declared.signs.Signs.{Signs}
use Rattle.download_core.specs.Attempt.{Phase, Resting, Running, Closing, Leaving, Ended}
use Rattle.download_core.specs.Calls.{phase_deadline}
use Rattle.download_core.specs.Fits.{FitsPhase}
use Rattle.download_core.specs.Steps.{next_did}
use Rattle.download_core.specs.Turns.{IsDownloaderOf, StepWaits}
use Rattle.hub_work.specs.declared.closing.Closing.{Closing as ClosingHere}
use Rattle.hub_work.specs.declared.crew.Held.{Held as Holds}
use Rattle.hub_work.specs.declared.work.Work.{Work}
use Rattle.hub_work.specs.Books.{held_at}
use Rattle.hub_work.specs.Closes.{closing_of}
use Rattle.hub_work.specs.Crew.{Holding, holding_in, holdings}
use Rattle.hub_work.specs.Downloaders.{states}
use Rattle.hub_work.specs.Fits.{Fits, FitsJob}
use Rattle.hub_work.specs.Laws.{Laws}
use Rattle.hub_work.specs.Polls.{does_something, next_of_job, is_busy, is_busy_at, deadline_at, closing_end, end_of_closing, IsDue, OfClosing, OfWorker, came_for, closing_so_far, PollsRightly, TellsWork, BusyRightly, LastsOnceSent}
use Rattle.hub_work.specs.Works.{KeepsBooks}
use Rattle.hub_work.proofs.Crews.{IsHeldSo, held_so, holding_at, job_at}

-- ---- what came for a job, by its one worker

came_of : (crew : List (Option Holds)) (place : ℕ) (h : Holds) → Some h ≡ held_at crew place → ((other : ℕ) (x : Holds) → Some x ≡ held_at crew other → x.job ≡ h.job → other ≡ place) → came_for crew h.job ≡ h.came
came_of [] place h e alone = absurd (cc)
came_of (None ∷ crew) zero h e alone = absurd (cc)
came_of (None ∷ crew) (suc place) h e alone = came_of crew place h e (λ other x is same. let q = alone (suc other) x is same in omega (arith, q))
came_of (Some y ∷ crew) zero h e alone =
    let is : h ≡ y = same_Some h y e in
    let same : eqb y.job h.job ≡ true = rw is (grind (arith, nat_tests)) in
    rw same (ap (λ (x : Holds). x.came) (sym is))
came_of (Some y ∷ crew) (suc place) h e alone =
    let apart : eqb y.job h.job ≡ false = ne_eqb y.job h.job (λ same. let q = alone 0 y refl same in omega (arith, q)) in
    rw apart (came_of crew place h e (λ other x is same. let q = alone (suc other) x is same in omega (arith, q)))

same_stage : (a b : ℕ) → Some (IsHeldBy (suc a)) ≡ Some (IsHeldBy (suc b)) → a ≡ b
same_stage a b e = cc

held_since : (a b s t : ℕ) → Held a s ≡ Held b t → s ≡ t
held_since a b s t e = cc

-- what the holdings say is held there is held there
holder_there : (crew : List (Option Holds)) (place : ℕ) (x : Holding) → slice_get (holdings crew) place ≡ Some (Some x) → (h : Holds) × (Some h ≡ held_at crew place) × (holding_in (Some h) ≡ Some x)
holder_there [] place x e = absurd (cc)
holder_there (None ∷ crew) zero x e = absurd (cc)
holder_there (Some h ∷ crew) zero x e = (h, refl, same_Some (holding_in (Some h)) (Some x) e)
holder_there (y ∷ crew) (suc place) x e = holder_there crew place x e

held_job : (h : Holds) (x : Holding) → holding_in (Some h) ≡ Some x → h.job ≡ x.job
held_job h x e = ap (λ (y : Holding). y.job) (same_Some (record { job = h.job; device = h.device; begun = h.begun }) x e)

held_begun : (h : Holds) (x : Holding) → holding_in (Some h) ≡ Some x → h.begun ≡ x.begun
held_begun h x e = ap (λ (y : Holding). y.begun) (same_Some (record { job = h.job; device = h.device; begun = h.begun }) x e)

-- ---- the deadline of its attempt

deadline_is : (signs : Signs) (phase : Phase) (t : Attempts) → FitsPhase signs phase t → attempt_deadline t ≡ phase_deadline phase
unfolding client_deadline
deadline_is signs Resting t f = rw f.1 refl
deadline_is signs (Running a) t (x, is, knows) = rw is (ap client_deadline knows.end)
deadline_is signs (Closing flight outcome) t (x, is, closes) = rw is (ap client_deadline closes.end)
deadline_is signs (Leaving outcome) t (x, is, leaves) = rw is (ap client_deadline leaves.end)
deadline_is signs (Ended outcome) t f = rw f refl

-- ---- something is done exactly where the step doesn't wait

begun_some : (n : ℕ) (b : Bool) → b ≡ nat_le 1 n → b ≡ true → 1 ≤ n
begun_some n b is e = grind (arith, nat_tests)

begun_true : (n : ℕ) (b : Bool) → b ≡ nat_le 1 n → 1 ≤ n → b ≡ true
begun_true n b is le = is ∙ (let q : nat_le 1 n ≡ true = grind (arith, nat_tests) in q)

acts_on : (d : Did) (has_place : Bool) (Place : Type 0) → (has_place ≡ true) ↔ Place → ¬ StepWaits d Place → does_something (Some d) has_place ≡ true
acts_on did.Wait has_place Place iff w = absurd (w (record { no_end = refl; cannot_send = λ s p. let isnt : false ≡ true = s in cc }))
acts_on (did.Send tpdu) true Place iff w = refl
acts_on (did.Send tpdu) false Place iff w = absurd (w (record { no_end = refl; cannot_send = λ s p. let isnt : false ≡ true = iff.1 p in cc }))
acts_on did.Done has_place Place iff w = refl
acts_on (did.Failed signs) has_place Place iff w = refl
acts_on (did.Refused op got expected) has_place Place iff w = refl

waits_not : (d : Did) (has_place : Bool) (Place : Type 0) → (has_place ≡ true) ↔ Place → does_something (Some d) has_place ≡ true → StepWaits d Place → ⊥
waits_not did.Wait has_place Place iff e s = let isnt : false ≡ true = e in cc
waits_not (did.Send tpdu) has_place Place iff e s = s.cannot_send refl (iff.0 e)
waits_not did.Done has_place Place iff e s = let isnt : true ≡ false = s.no_end in cc
waits_not (did.Failed signs) has_place Place iff e s = let isnt : true ≡ false = s.no_end in cc
waits_not (did.Refused op got expected) has_place Place iff e s = let isnt : true ≡ false = s.no_end in cc

came_some : (n : ℕ) (b : Bool) → n ≢ 0 → (not (eqb n 0) || b) ≡ true
came_some n b some = rw (ne_eqb n 0 some) refl

or_true : (a : Bool) → (a || true) ≡ true
or_true true = refl
or_true false = refl

either : (n : ℕ) (b c : Bool) → (not (eqb n 0) || (b && c)) ≡ true → (n ≢ 0) ⊎ ((b ≡ true) × (c ≡ true))
either n b c e = elim (cases_eq n 0) [
  | inl none ↦ inr (both b c (let z : eqb n 0 ≡ true = rw none refl in rw z at e))
  | inr some ↦ inl some
]
  where
    both : (b c : Bool) → (b && c) ≡ true → (b ≡ true) × (c ≡ true)
    both true c e = (refl, e)
    both false c e = absurd (cc)

-- ---- the closing's deadline; a time stays at the last one

capped_end : (wait since : ℕ) → (wait_end wait since ≡ since + wait) ⊎ ((wait_end wait since ≡ last_time) × (last_time < since + wait))
capped_end wait since = by_range (nat_le (since + wait) last_time) refl
  where
    by_range : (b : Bool) → nat_le (since + wait) last_time ≡ b → (wait_end wait since ≡ since + wait) ⊎ ((wait_end wait since ≡ last_time) × (last_time < since + wait))
    by_range true e = inl (rw e refl)
    by_range false e = inr (rw e refl, grind (arith, nat_tests))

abbrev closing_time : close.Closing → ℕ
closing_time (close.Listening since n) = since + close.listening_wait
closing_time (close.Leaving since n) = since + answer_wait

closing_due : (s : close.Closing) → closing_deadline (Some s) ≡ Some (closing_time s)
closing_due (close.Listening since n) = refl
closing_due (close.Leaving since n) = refl

closing_capped : (s : close.Closing) → (closing_end s ≡ closing_time s) ⊎ ((closing_end s ≡ last_time) × (last_time < closing_time s))
closing_capped (close.Listening since n) = capped_end close.listening_wait since
closing_capped (close.Leaving since n) = capped_end answer_wait since

module _ (now wait : ℕ) (in_range : now + wait ≤ last_time) where
  closing_not_past : (closing : Option ClosingHere) → ((t : ℕ) → end_of_closing closing ≡ Some t → now < t → now + wait ≤ t) → (t : ℕ) → closing_deadline (closing_so_far closing) ≡ Some t → now < t → now + wait ≤ t
  closing_not_past None not_past t due lt = absurd (let isnt : None ≡ Some t = due in cc)
  closing_not_past (Some c) not_past t due lt = by_range (closing_capped (closing_of c))
    where
      is : closing_time (closing_of c) ≡ t
      is = same_Some (closing_time (closing_of c)) t (sym (closing_due (closing_of c)) ∙ due)

      by_range : (closing_end (closing_of c) ≡ closing_time (closing_of c)) ⊎ ((closing_end (closing_of c) ≡ last_time) × (last_time < closing_time (closing_of c))) → now + wait ≤ t
      by_range (inl same) = not_past t (ap Some (same ∙ is)) lt
      by_range (inr later) = let b : last_time < closing_time (closing_of c) = later.1 in omega (arith, in_range, b, is)

  closing_at_end : (longest : ℕ) (D : ℕ → Type 0) (closing : Option ClosingHere) (t : ℕ) → ((u : ℕ) → closing_deadline (closing_so_far closing) ≡ Some u → D u) → end_of_closing closing ≡ Some t → now < t → now + wait ≡ t → PollEnds longest D now wait
  closing_at_end longest D None t due e lt is = absurd (let isnt : None ≡ Some t = e in cc)
  closing_at_end longest D (Some c) t due e lt is = by_range (closing_capped (closing_of c))
    where
      end : closing_end (closing_of c) ≡ t
      end = same_Some (closing_end (closing_of c)) t e

      by_range : (closing_end (closing_of c) ≡ closing_time (closing_of c)) ⊎ ((closing_end (closing_of c) ≡ last_time) × (last_time < closing_time (closing_of c))) → PollEnds longest D now wait
      by_range (inl same) = AtDeadline t (due t (closing_due (closing_of c) ∙ ap Some (sym same ∙ end))) lt is
      by_range (inr later) = AtLastTime (is ∙ (sym end ∙ later.0))

-- ---- by record and log

module _ (laws : Laws) (w : Work) (now at : ℕ) (has_place : Bool) (jobs : List Job) (places : List Placed) (books : KeepsBooks at w) (f : Fits jobs w now at (moments places)) (placed : (has_place ≡ true) ↔ HasPlace (channel (entries places))) where
  abbrev Place : Type 0
  Place = HasPlace (channel (entries places))

  abbrev Works : ℕ → Type 0
  Works k = HasWork jobs w.telegrams.turns w.journal.entries places at now k (came_for w.crew k)

  abbrev Due : ℕ → Type 0
  Due = IsDeadline jobs w.journal.entries places at (closing_so_far w.closing)

  abbrev Waits : ℕ → ℕ → Type 0
  Waits k came = TurnWaits jobs w.telegrams.turns w.journal.entries places at now k came

  -- one worker holds it
  alone : (place other : ℕ) (h x : Holds) → Some h ≡ held_at w.crew place → Some x ≡ held_at w.crew other → x.job ≡ h.job → other ≡ place
  alone place other h x eh ex same =
      same_stage other place (sym ((books.live.holds other x.job).0 (job_at w.crew other x ex)) ∙ (ap (stage_of w.reservation) same ∙ (books.live.holds place h.job).0 (job_at w.crew place h eh)))

  came_is : (place : ℕ) (h : Holds) → Some h ≡ held_at w.crew place → came_for w.crew h.job ≡ h.came
  came_is place h e = came_of w.crew place h e (λ other x is same. alone place other h x e is same)

  -- ---- a job that a worker at a place holds

  module _ (place : ℕ) (h : Holds) (e : Some h ≡ held_at w.crew place) where
    its : IsHeldSo jobs w at place h
    its = held_so jobs w now at (moments places) place h books f e

    j : FitsJob w now (between its.since at (moments places)) h.job (suc place) its.job
    j = f.held h.job (suc place) its.since its.job its.there its.held

    holds : IsHeldJob jobs w.journal.entries h.job its.job its.since
    holds = record { there = its.there; worker = suc place; held = its.held }

    is_downloader : IsDownloaderOf j.state now jobs w.journal.entries places at h.job
    is_downloader = record { job = its.job; since = its.since; holds = holds; device = j.device; plan = j.plan; fits = j.fits }

    waits_exactly : Waits h.job 0 ↔ StepWaits (next_did j.state now) Place
    waits_exactly = laws.waits j.state now jobs w.telegrams.turns w.journal.entries places at h.job is_downloader

    next_is : next_of_job (states w.downloaders) now h.job ≡ Some (next_did j.state now)
    next_is = rw j.there refl

    begun_is : h.begun ≡ nat_le 1 (begun (attempts_of its.job its.since at places))
    begun_is =
        let same : suc place - 1 ≡ place = omega arith in
        let there : slice_get (holdings w.crew) place ≡ Some (Some (record { job = h.job; device = its.job.device; begun = nat_le 1 (begun (attempts_of its.job its.since at places)) })) = subst (λ i. slice_get (holdings w.crew) i ≡ Some (Some (record { job = h.job; device = its.job.device; begun = nat_le 1 (begun (attempts_of its.job its.since at places)) }))) same j.holds in
        held_begun h (record { job = h.job; device = its.job.device; begun = nat_le 1 (begun (attempts_of its.job its.since at places)) }) (same_Some (holding_in (Some h)) (Some (record { job = h.job; device = its.job.device; begun = nat_le 1 (begun (attempts_of its.job its.since at places)) })) (sym (holding_at w.crew place h e) ∙ there))

    -- it has something to do
    busy_works : is_busy (states w.downloaders) now has_place (Some h) ≡ true → Works h.job
    busy_works b = record { job = its.job; since = its.since; holds = holds; why = why (either h.came h.begun (does_something (next_of_job (states w.downloaders) now h.job) has_place) b) }
      where
        why : (h.came ≢ 0) ⊎ ((h.begun ≡ true) × (does_something (next_of_job (states w.downloaders) now h.job) has_place ≡ true)) → (came_for w.crew h.job ≢ 0) ⊎ ((1 ≤ begun (attempts_of its.job its.since at places)) × ¬ Waits h.job (came_for w.crew h.job))
        why (inl some) = inl (λ none. some (sym (came_is place h e) ∙ none))
        why (inr (has_begun, acts)) = inr (
          begun_some (begun (attempts_of its.job its.since at places)) h.begun begun_is has_begun,
          λ t.
              waits_not (next_did j.state now) has_place Place placed (ap (λ o. does_something o has_place) (sym next_is) ∙ acts) (waits_exactly.0 (subst (Waits h.job) t.all_taken_in t)),
        )

    works_busy : (came_for w.crew h.job ≢ 0) ⊎ ((1 ≤ begun (attempts_of its.job its.since at places)) × ¬ Waits h.job (came_for w.crew h.job)) → is_busy (states w.downloaders) now has_place (Some h) ≡ true
    works_busy (inl some) = came_some h.came (h.begun && does_something (next_of_job (states w.downloaders) now h.job) has_place) (λ none. some (came_is place h e ∙ none))
    works_busy (inr (has_begun, acts)) = elim (cases_eq h.came 0) [
      | inl none ↦
          let does : does_something (next_of_job (states w.downloaders) now h.job) has_place ≡ true = ap (λ o. does_something o has_place) next_is
          ∙ acts_on (next_did j.state now) has_place Place placed (λ s. acts (subst (Waits h.job) (sym (came_is place h e ∙ none)) (waits_exactly.1 s))) in
          rw (begun_true (begun (attempts_of its.job its.since at places)) h.begun begun_is has_begun, does) (or_true (not (eqb h.came 0)))
      | inr some ↦ came_some h.came (h.begun && does_something (next_of_job (states w.downloaders) now h.job) has_place) some
    ]

    deadline_here : deadline_at w place ≡ attempt_deadline (attempts_of its.job its.since at places)
    deadline_here =
        let at_it : deadline_at w place ≡ phase_deadline j.state.phase = rw (← e, j.there) refl in
        let mine : attempt_deadline (attempts j.state.device j.state.plan (between its.since at (moments places))) ≡ phase_deadline j.state.phase = deadline_is j.state.signs j.state.phase _ j.fits.job in
        let same : attempts j.state.device j.state.plan (between its.since at (moments places)) ≡ attempts_of its.job its.since at places = rw (j.device, j.plan) refl in
        at_it ∙ (sym mine ∙ ap attempt_deadline same)

  -- ---- a job that is held by the log: its worker is at a place

  module _ (k since : ℕ) (job : Job) (h : IsHeldJob jobs w.journal.entries k job since) where
    of_it : FitsJob w now (between since at (moments places)) k h.worker job
    of_it = f.held k h.worker since job h.there h.held

    -- at its worker's place
    record IsAtPlace : Type 0 where
      pub place : ℕ
      pub holder : Holds
      pub there : Some holder ≡ held_at w.crew place
      pub is : holder.job ≡ k
      pub same_job : (its place holder there).job ≡ job
      pub same_since : (its place holder there).since ≡ since

    at_place : IsAtPlace
    at_place = by_holder (holder_there w.crew (h.worker - 1) _ of_it.holds)
      where
        by_holder : (x : Holds) × (Some x ≡ held_at w.crew (h.worker - 1)) × (holding_in (Some x) ≡ Some (record { job = k; device = job.device; begun = nat_le 1 (begun (attempts job.device job.plan (between since at (moments places)))) })) → IsAtPlace
        by_holder (x, e, same) =
            let is : x.job ≡ k = held_job x (record { job = k; device = job.device; begun = nat_le 1 (begun (attempts job.device job.plan (between since at (moments places)))) }) same in
            let i = its (h.worker - 1) x e in
            record {
              place = h.worker - 1;
              holder = x;
              there = e;
              is = is;
              same_job = same_Some i.job job (sym i.there ∙ (ap (job_of jobs) is ∙ h.there));
              same_since = held_since (suc (h.worker - 1)) h.worker i.since since (sym i.held ∙ (ap (λ n. state_of n w.journal.entries) is ∙ h.held));
            }

    busy_there : (came_for w.crew k ≢ 0) ⊎ ((1 ≤ begun (attempts_of job since at places)) × ¬ Waits k (came_for w.crew k)) → (place : ℕ) × (is_busy_at w now has_place place ≡ true)
    busy_there why = held at_place
      where
        held : IsAtPlace → (place : ℕ) × (is_busy_at w now has_place place ≡ true)
        held a = (a.place, rw (← a.there) (works_busy a.place a.holder a.there moved))
          where
            Why : ℕ → Job → ℕ → Type 0
            Why n job since = (came_for w.crew n ≢ 0) ⊎ ((1 ≤ begun (attempts_of job since at places)) × ¬ Waits n (came_for w.crew n))

            moved : Why a.holder.job (its a.place a.holder a.there).job (its a.place a.holder a.there).since
            moved = subst (λ n. Why n (its a.place a.holder a.there).job (its a.place a.holder a.there).since) (sym a.is) (subst (λ (x : Job). Why k x (its a.place a.holder a.there).since) (sym a.same_job) (subst (Why k job) (sym a.same_since) why))

    -- what it sends next can be sent
    sends_busy : 1 ≤ begun (attempts_of job since at places) → NextIsSending (attempts_of job since at places) now → Place → (place : ℕ) × (is_busy_at w now has_place place ≡ true)
    sends_busy has_begun next place = busy_there (inr (has_begun, λ t. t.sends_nothing (its_next t) place))
      where
        its_next : (t : Waits k (came_for w.crew k)) → NextIsSending (attempts_of t.job t.since at places) now
        its_next t =
            subst (λ (x : Job). NextIsSending (attempts_of x t.since at places) now) (sym (same_Some t.job job (sym t.holds.there ∙ h.there)))
            (subst (λ (n : ℕ). NextIsSending (attempts_of job n at places) now) (sym (held_since t.holds.worker h.worker t.since since (sym t.holds.held ∙ h.held))) next)

    due_there : (t : ℕ) → attempt_deadline (attempts_of job since at places) ≡ Some t → (place : ℕ) × (deadline_at w place ≡ Some t)
    due_there t due = held at_place
      where
        held : IsAtPlace → (place : ℕ) × (deadline_at w place ≡ Some t)
        held a = (a.place, deadline_here a.place a.holder a.there ∙ (ap (λ (x : Job). attempt_deadline (attempts_of x (its a.place a.holder a.there).since at places)) a.same_job ∙ (ap (λ n. attempt_deadline (attempts_of job n at places)) a.same_since ∙ due)))

  -- ---- whether one has work

  one_works : (place : ℕ) (o : Option Holds) → held_at w.crew place ≡ o → is_busy (states w.downloaders) now has_place o ≡ true → (k : ℕ) × Works k
  one_works place None e busy = absurd (let isnt : false ≡ true = busy in cc)
  one_works place (Some h) e busy = (h.job, busy_works place h (sym e) busy)

  none_works : ((place : ℕ) → is_busy_at w now has_place place ≡ false) → (k : ℕ) → ¬ Works k
  none_works none k hw =
      let b = busy_there k hw.since hw.job hw.holds hw.why in
      let isnt : true ≡ false = sym b.1 ∙ none b.0 in
      cc

  -- ---- the whole

  module _ (longest : ℕ) (looks : (place : ℕ) → is_busy_at w now has_place place ≡ true → longest ≡ 0) (waits : ((place : ℕ) → is_busy_at w now has_place place ≡ false) → LastsUntil longest_poll (IsDue w) now longest) (wait : ℕ)
      (until : LastsUntil (min longest longest_poll) (Contains (channel_deadlines (channel (entries places)))) now wait) where
    works_looks : (k : ℕ) → Works k → wait ≡ 0
    works_looks k hw =
        let b = busy_there k hw.since hw.job hw.holds hw.why in
        let none : longest ≡ 0 = looks b.0 b.1 in
        let le = until.at_most in
        omega (arith, none, le)

    none_busy : ((k : ℕ) → ¬ Works k) → (place : ℕ) → is_busy_at w now has_place place ≡ false
    none_busy none place = by_holder (held_at w.crew place) refl
      where
        by_holder : (o : Option Holds) → held_at w.crew place ≡ o → is_busy (states w.downloaders) now has_place o ≡ false
        by_holder None e = refl
        by_holder (Some h) e = false_from_ne_true _ (λ b. none h.job (busy_works place h (sym e) b))

    module _ (s : LastsUntil longest_poll (IsDue w) now longest) where
      shorter : wait ≤ longest
      shorter = let le = until.at_most in omega (arith, le)

      by_worker : (place : ℕ) (t : ℕ) → deadline_at w place ≡ Some t → Due t
      by_worker place t due = by_holder (held_at w.crew place) refl
        where
          by_holder : (o : Option Holds) → held_at w.crew place ≡ o → Due t
          by_holder None e = absurd (let isnt : None ≡ Some t = rw e at due in cc)
          by_holder (Some h) e = OfJob h.job (its place h (sym e)).since (its place h (sym e)).job (holds place h (sym e)) (sym (deadline_here place h (sym e)) ∙ due)

      not_past : (t : ℕ) → Due t → now < t → now + wait ≤ t
      not_past t (OfChannel c) lt = until.no_longer t c lt
      not_past t (OfJob k since job h due) lt =
          let there = due_there k since job h t due in
          let le : now + longest ≤ t = s.no_longer t (OfWorker there.0 there.1) lt in
          let less = shorter in
          omega (arith, le, less)
      not_past t (when.OfClosing due) lt = closing_not_past now wait until.in_range w.closing (λ u e less. let le : now + longest ≤ u = s.no_longer u (OfClosing e) less in let short = shorter in omega (arith, le, short)) t due lt

      by_work : wait ≡ longest → PollEnds longest_poll (IsDue w) now longest → PollEnds longest_poll Due now wait
      by_work same (AsLongAsItMay is) = AsLongAsItMay (same ∙ is)
      by_work same (AtDeadline t (OfWorker place due) lt is) = AtDeadline t (by_worker place t due) lt (ap (λ n. now + n) same ∙ is)
      by_work same (AtDeadline t (OfClosing due) lt is) = closing_at_end now wait until.in_range longest_poll Due w.closing t (λ u e. when.OfClosing e) due lt (ap (λ n. now + n) same ∙ is)
      by_work same (AtLastTime is) = AtLastTime (ap (λ n. now + n) same ∙ is)

      ends_so : PollEnds (min longest longest_poll) (Contains (channel_deadlines (channel (entries places)))) now wait → PollEnds longest_poll Due now wait
      ends_so (AsLongAsItMay is) = by_work (let le = s.at_most in omega (arith, is, le)) s.as_long
      ends_so (AtDeadline t due lt is) = AtDeadline t (OfChannel due) lt is
      ends_so (AtLastTime is) = AtLastTime is

      lasts : LastsUntil longest_poll Due now wait
      lasts = record { at_most = (let le = until.at_most in omega (arith, le)); in_range = until.in_range; no_longer = not_past; as_long = ends_so until.as_long }

    pub polls_right : PollsSo jobs w.telegrams.turns w.journal.entries places at now (closing_so_far w.closing) (came_for w.crew) wait
    polls_right = record { looks = works_looks; waits = λ none. lasts (waits (none_busy none)) }

pub polls_rightly : (laws : Laws) (w : Work) (now : ℕ) (has_place : Bool) (longest : ℕ) → ((place : ℕ) → is_busy_at w now has_place place ≡ true → longest ≡ 0) → (((place : ℕ) → is_busy_at w now has_place place ≡ false) → LastsUntil longest_poll (IsDue w) now longest) → PollsRightly now has_place w longest
polls_rightly laws w now has_place longest looks waits jobs places at wait books f placed until = polls_right laws w now at has_place jobs places books f placed longest looks waits wait until

pub is_busy_rightly : (laws : Laws) (w : Work) (now : ℕ) (has_place : Bool) (place : ℕ) → is_busy_at w now has_place place ≡ true → BusyRightly now has_place w true
is_busy_rightly laws w now has_place place busy jobs places at books f placed = one_works laws w now at has_place jobs places books f placed place (held_at w.crew place) refl busy

pub is_idle_rightly : (laws : Laws) (w : Work) (now : ℕ) (has_place : Bool) → ((place : ℕ) → is_busy_at w now has_place place ≡ false) → BusyRightly now has_place w false
is_idle_rightly laws w now has_place none jobs places at books f placed = none_works laws w now at has_place jobs places books f placed none

pub lasts_once_sent : (laws : Laws) (w : Work) (now : ℕ) (has_place : Bool) (longest : ℕ) → ((place : ℕ) → is_busy_at w now has_place place ≡ true → longest ≡ 0) → LastsOnceSent now has_place w longest
lasts_once_sent laws w now has_place longest looks jobs places at books f placed then lasts k since job h has_begun next place =
    let b = sends_busy laws w now at has_place jobs places books f placed k since job h has_begun (subst (λ n. NextIsSending (attempts_of job since at places) n) (sym then) next) place in
    absurd (lasts (looks b.0 b.1))
