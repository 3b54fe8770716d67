-- What a worker's turn, a group telegram and the beginning make of the books.
use Rattle.std.proofs.Common.{◌≡◌, ◌≢◌, ◌⊎◌, inl, inr, ℕ, zero, suc, ◌+◌, ◌-◌, ◌<◌, ◌≤◌, min, eqb, Bool, true, false, length, List, [], ◌∷◌, set, replicate, Option, Some, None, refl, sym, ap, subst, ◌∙◌, arith}
use Rattle.std.specs.Prelude.{slice_get, ◌&&◌, ◌||◌, nat_lt, nat_le}
use Rattle.std.proofs.lemmas.Bool.{cases_eq}
use Rattle.std.proofs.lemmas.Bool.Decides.{nat_tests}
use Rattle.std.proofs.lemmas.List.{length-map}
use Rattle.knx_model.specs.declared.address.IndAddr.{IndAddr}
use Rattle.line_model.specs.declared.group.GroupTurn.{GroupTurn}
use Rattle.line_model.specs.declared.log.LogEntry.{LogEntry}
use Rattle.line_model.specs.declared.log.LogWhat.{LogWhat}
use Rattle.line_model.specs.declared.log.LogWhat.TheVariants.{Took, Done, Failed, Refused, Sent, Lost}
use Rattle.line_model.specs.Log.{Job, Untaken, state_of, IsNextTurn, has_entry, is_turn, turn_of}
use Rattle.device_reservation.specs.declared.stage.Stage.TheVariants.{Untaken as IsUntaken, Held as IsHeldBy}
use Rattle.device_reservation.specs.Reservation.{Reservation, IsFree, IsHeld, none_taken, job_taken, job_ended, stage_of}
use Rattle.device_reservation.proofs.Logged.{waits_in_log}
use Rattle.device_reservation.proofs.Numbered.{by_place, from_1, of_all, within}
use Rattle.hub_work.specs.declared.crew.Held.{Held}
use Rattle.hub_work.specs.declared.work.Work.{Work}
use Rattle.hub_work.specs.Books.{AreJobsOf, IsWritten, IsLive, TellsInTurn, job_in, jobs_held, held_at}
use Rattle.hub_work.specs.Turns.{EndsJob, TellsTurn}
use Rattle.hub_work.specs.Works.{WritesRightly, Lives, TellsRightly, IsHolder, IsTaking, BeginsWith}
use Rattle.hub_work.proofs.Crews.{no_job}
use Rattle.hub_work.proofs.Books.{took_written, took_live, ended_written, ended_live, set_jobs, holds_it, taken_held}

abbrev pub entry_of : ℕ → ℕ → LogWhat → LogEntry
entry_of at worker what = record { at = at; worker = worker; what = what }

-- books with this reservation, these jobs held, this log and these telegrams
module _ (w : Work) (r : Reservation) (js : List (Option ℕ)) (l : List LogEntry) (ts : List GroupTurn) (at : ℕ) (er : w.reservation ≡ r) (et : w.telegrams.turns ≡ ts) (el : w.journal.entries ≡ l) where
  pub written_as : IsWritten r.devices ts at l → WritesRightly at w
  written_as h =
      subst (λ (s : Reservation). IsWritten s.devices w.telegrams.turns at w.journal.entries) (sym er)
      (subst (λ (t : List GroupTurn). IsWritten r.devices t at w.journal.entries) (sym et)
      (subst (λ (k : List LogEntry). IsWritten r.devices ts at k) (sym el) h))

  pub live_as : jobs_held w.crew ≡ js → IsLive r js l → Lives w
  live_as ej h =
      subst (λ (s : Reservation). IsLive s (jobs_held w.crew) w.journal.entries) (sym er)
      (subst (λ (k : List (Option ℕ)). IsLive r k w.journal.entries) (sym ej)
      (subst (λ (k : List LogEntry). IsLive r js k) (sym el) h))

-- ---- a job ends

pub holder_holds : (w : Work) (worker : ℕ) (held : Held) → Lives w → 1 ≤ worker → IsHolder w worker held → IsHeld w.reservation held.job
holder_holds w worker held live from holder = (worker, holds_it w.reservation w.crew w.journal.entries worker held live from holder)

pub end_written : (w v : Work) (at worker : ℕ) (held : Held) (what : LogWhat) → Lives w → WritesRightly at w → 1 ≤ worker → IsHolder w worker held → EndsJob held.job what
    → v.reservation ≡ job_ended held.job w.reservation → v.telegrams.turns ≡ w.telegrams.turns → v.journal.entries ≡ entry_of at worker what ∷ w.journal.entries → WritesRightly at v
end_written w v at worker held what live written from holder ends er et el =
    written_as v (job_ended held.job w.reservation) (jobs_held v.crew) (entry_of at worker what ∷ w.journal.entries) w.telegrams.turns at er et el
    (ended_written w.reservation (jobs_held w.crew) w.telegrams.turns at worker held.job what w.journal.entries ends written live (holds_it w.reservation w.crew w.journal.entries worker held live from holder))

pub end_live : (w v : Work) (at worker : ℕ) (held : Held) (what : LogWhat) → Lives w → 1 ≤ worker → IsHolder w worker held → EndsJob held.job what
    → v.reservation ≡ job_ended held.job w.reservation → v.crew ≡ set w.crew (worker - 1) None → v.journal.entries ≡ entry_of at worker what ∷ w.journal.entries → Lives v
end_live w v at worker held what live from holder ends er ec el =
    live_as v (job_ended held.job w.reservation) (set (jobs_held w.crew) (worker - 1) None) (entry_of at worker what ∷ w.journal.entries) v.telegrams.turns at er refl el
    (ap jobs_held ec ∙ set_jobs w.crew (worker - 1) None)
    (ended_live w.reservation (jobs_held w.crew) at worker held.job what w.journal.entries ends live from (holds_it w.reservation w.crew w.journal.entries worker held live from holder))

-- ---- a job is taken

pub taking_holds : (w : Work) (at worker job : ℕ) → IsTaking w at worker job → IsHeld w.reservation job
taking_holds w at worker job t = taken_held w.reservation t.before worker job t.taken t.first

-- by the log it is untaken still
pub taking_untaken : (w : Work) (at worker job : ℕ) → IsTaking w at worker job → (jobs : List Job) → AreJobsOf w.reservation.devices jobs → state_of job w.journal.entries ≡ Untaken
taking_untaken w at worker job t jobs of =
    let of_before : AreJobsOf t.before.devices jobs = of ∙ ap (λ (r : Reservation). r.devices) t.taken in
    waits_in_log jobs w.journal.entries job (t.written.reserved jobs of_before) (subst (λ (r : Reservation). IsFree r job) (sym (t.live.reservation_is jobs of_before)) t.first.free)

pub take_written : (w v : Work) (at worker job : ℕ) → IsTaking w at worker job → 1 ≤ worker → None ≡ held_at w.crew (worker - 1)
    → v.reservation ≡ w.reservation → v.telegrams.turns ≡ w.telegrams.turns → v.journal.entries ≡ entry_of at worker (Took job) ∷ w.journal.entries → WritesRightly at v
take_written w v at worker job t from empty er et el =
    written_as v (job_taken worker job t.before) (jobs_held v.crew) (entry_of at worker (Took job) ∷ w.journal.entries) w.telegrams.turns at (er ∙ t.taken) et el
    (took_written t.before (jobs_held w.crew) w.telegrams.turns at worker job w.journal.entries t.written t.live t.first from (no_job w.crew (worker - 1) empty))

pub take_live : (w v : Work) (at worker job : ℕ) (held : Held) → held.job ≡ job → IsTaking w at worker job → 1 ≤ worker → worker ≤ length w.crew → None ≡ held_at w.crew (worker - 1)
    → v.reservation ≡ w.reservation → v.crew ≡ set w.crew (worker - 1) (Some held) → v.journal.entries ≡ entry_of at worker (Took job) ∷ w.journal.entries → Lives v
take_live w v at worker job held same t from within empty er ec el =
    live_as v (job_taken worker job t.before) (set (jobs_held w.crew) (worker - 1) (Some job)) (entry_of at worker (Took job) ∷ w.journal.entries) v.telegrams.turns at (er ∙ t.taken) refl el
    (ap jobs_held ec ∙ (set_jobs w.crew (worker - 1) (Some held) ∙ ap (λ k. set (jobs_held w.crew) (worker - 1) (Some k)) same))
    (took_live t.before (jobs_held w.crew) at worker job w.journal.entries t.live t.first from (omega (arith, within, length-map w.crew job_in)) (no_job w.crew (worker - 1) empty))

-- ---- the group telegrams

pub telling_as : (w : Work) (told : ℕ) (ts : List GroupTurn) (l : List LogEntry) → w.telegrams.told ≡ told → w.telegrams.turns ≡ ts → w.journal.entries ≡ l → TellsInTurn told ts l → TellsRightly w
telling_as w told ts l en et el h =
    subst (λ (n : ℕ). TellsInTurn n w.telegrams.turns w.journal.entries) (sym en)
    (subst (λ (t : List GroupTurn). TellsInTurn told t w.journal.entries) (sym et)
    (subst (λ (k : List LogEntry). TellsInTurn told ts k) (sym el) h))

none_told : (k : ℕ) → false ≡ (nat_lt 0 k && nat_le k 0)
none_told k = grind (arith, nat_tests)

-- an entry of a job tells none
abbrev OfJob : LogWhat → Type 0
OfJob what = (k : ℕ) → is_turn k what ≡ false

more_telling : (w : Work) (at worker : ℕ) (what : LogWhat) → OfJob what → TellsRightly w → TellsInTurn w.telegrams.told w.telegrams.turns (entry_of at worker what ∷ w.journal.entries)
more_telling w at worker what none t = record { entries = λ k. rw (none k) (t.entries k); there = t.there }

pub take_telling : (w v : Work) (at worker job : ℕ) → v.telegrams.told ≡ w.telegrams.told → v.telegrams.turns ≡ w.telegrams.turns → v.journal.entries ≡ entry_of at worker (Took job) ∷ w.journal.entries → TellsRightly w → TellsRightly v
take_telling w v at worker job en et el t = telling_as v w.telegrams.told w.telegrams.turns (entry_of at worker (Took job) ∷ w.journal.entries) en et el (more_telling w at worker (Took job) (λ k. refl) t)

ends_none : (job : ℕ) (what : LogWhat) → EndsJob job what → OfJob what
ends_none job (Took j) ends k = absurd ends
ends_none job (Done j) ends k = refl
ends_none job (Failed j signs) ends k = refl
ends_none job (Refused j op got expected) ends k = refl
ends_none job (Sent j) ends k = absurd ends
ends_none job (Lost j) ends k = absurd ends

pub end_telling : (w v : Work) (at worker job : ℕ) (what : LogWhat) → EndsJob job what → v.telegrams.told ≡ w.telegrams.told → v.telegrams.turns ≡ w.telegrams.turns → v.journal.entries ≡ entry_of at worker what ∷ w.journal.entries → TellsRightly w → TellsRightly v
end_telling w v at worker job what ends en et el t = telling_as v w.telegrams.told w.telegrams.turns (entry_of at worker what ∷ w.journal.entries) en et el (more_telling w at worker what (ends_none job what ends) t)

-- the next one is the one behind those that are told
some_of : {X : Type 0} (o : Option X) → o ≢ None → (x : X) × (o ≡ Some x)
some_of None not = absurd (not refl)
some_of (Some x) not = (x, refl)

pub turn_within : (turns : List GroupTurn) (k : ℕ) → turn_of turns k ≢ None → (1 ≤ k) × (k ≤ length turns)
turn_within turns k there =
    let some : (t : GroupTurn) × (turn_of turns k ≡ Some t) = some_of (turn_of turns k) there in
    (from_1 turns k some.0 some.1, within turns k some.0 some.1)

there_at : {X : Type 0} (xs : List X) (i : ℕ) → i < length xs → slice_get xs i ≢ None
there_at [] i lt e = absurd (omega arith)
there_at (x ∷ xs) zero lt e = absurd (cc)
there_at (x ∷ xs) (suc i) lt e = there_at xs i (omega arith) e

turn_there : (turns : List GroupTurn) (k : ℕ) → 1 ≤ k → k ≤ length turns → turn_of turns k ≢ None
turn_there turns k from to e = there_at turns (k - 1) (omega arith) (sym (by_place turns k from) ∙ e)

above : (k told : ℕ) → 1 ≤ k → false ≡ (nat_lt 0 k && nat_le k told) → told < k
above k told from e = grind (arith, nat_tests)

below : (k told : ℕ) → true ≡ (nat_lt 0 k && nat_le k told) → k ≤ told
below k told e = grind (arith, nat_tests)

pub next_is : (told : ℕ) (turns : List GroupTurn) (l : List LogEntry) (k : ℕ) → TellsInTurn told turns l → IsNextTurn turns l k → k ≡ told + 1
next_is told turns l k t next =
    let w : (1 ≤ k) × (k ≤ length turns) = turn_within turns k next.there in
    let from : 1 ≤ k = w.0 in
    let to : k ≤ length turns = w.1 in
    let lt : told < k = above k told from (sym next.untold ∙ t.entries k) in
    least_is (cases_eq k (told + 1)) lt to
  where
    least_is : (k ≡ told + 1) ⊎ (k ≢ told + 1) → told < k → k ≤ length turns → k ≡ told + 1
    least_is (inl e) lt to = e
    least_is (inr n) lt to =
        let less : told + 1 < k = omega arith in
        let up : told + 1 ≤ told = below (told + 1) told (sym (next.least (told + 1) less (turn_there turns (told + 1) (omega arith) (omega arith))) ∙ t.entries (told + 1)) in
        absurd (omega arith)

pub is_next : (told : ℕ) (turns : List GroupTurn) (l : List LogEntry) → TellsInTurn told turns l → told < length turns → IsNextTurn turns l (told + 1)
is_next told turns l t lt = record {
  there = turn_there turns (told + 1) (omega arith) (omega arith);
  untold = t.entries (told + 1) ∙ not_yet told;
  least = λ j less there. t.entries j ∙ already j told less (turn_within turns j there).0;
}
  where
    not_yet : (told : ℕ) → (nat_lt 0 (told + 1) && nat_le (told + 1) told) ≡ false
    not_yet told = grind (arith, nat_tests)

    already : (j told : ℕ) → j < told + 1 → 1 ≤ j → (nat_lt 0 j && nat_le j told) ≡ true
    already j told less from = grind (arith, nat_tests)

tells_it : (turn : ℕ) (what : LogWhat) → TellsTurn turn what → (k : ℕ) → is_turn k what ≡ eqb turn k
tells_it turn (Took j) tells k = absurd tells
tells_it turn (Done j) tells k = absurd tells
tells_it turn (Failed j signs) tells k = absurd tells
tells_it turn (Refused j op got expected) tells k = absurd tells
tells_it turn (Sent j) tells k = ap (λ n. eqb n k) tells
tells_it turn (Lost j) tells k = ap (λ n. eqb n k) tells

one_more : (turn told k : ℕ) (b : Bool) → turn ≡ told + 1 → b ≡ (nat_lt 0 k && nat_le k told) → (eqb turn k || b) ≡ (nat_lt 0 k && nat_le k (told + 1))
one_more turn told k b e h = grind (arith, nat_tests)

pub tell_telling : (w v : Work) (at turn : ℕ) (what : LogWhat) → TellsTurn turn what → IsNextTurn w.telegrams.turns w.journal.entries turn → length w.telegrams.turns < 4294967296
    → v.telegrams.told ≡ min (w.telegrams.told + 1) 4294967295 → v.telegrams.turns ≡ w.telegrams.turns → v.journal.entries ≡ entry_of at 0 what ∷ w.journal.entries → TellsRightly w → TellsRightly v
tell_telling w v at turn what tells next few en et el t =
    telling_as v (w.telegrams.told + 1) w.telegrams.turns (entry_of at 0 what ∷ w.journal.entries) (exact (turn_within w.telegrams.turns turn next.there).1) et el
    (record {
      entries = λ k. rw (tells_it turn what tells k) (one_more turn w.telegrams.told k (has_entry k w.journal.entries) is (t.entries k));
      there = let within : (1 ≤ turn) × (turn ≤ length w.telegrams.turns) = turn_within w.telegrams.turns turn next.there in let to : turn ≤ length w.telegrams.turns = within.1 in omega (arith, is);
    })
  where
    is : turn ≡ w.telegrams.told + 1
    is = next_is w.telegrams.told w.telegrams.turns w.journal.entries turn t next

    exact : turn ≤ length w.telegrams.turns → v.telegrams.told ≡ w.telegrams.told + 1
    exact to = omega (arith, is)

-- ---- the beginning

nobody : (n place job : ℕ) → slice_get (jobs_held (replicate n None)) place ≡ Some (Some job) → ⊥
nobody zero place job e = cc
nobody (suc n) zero job e = cc
nobody (suc n) (suc place) job e = nobody n place job e

untaken_all : (devices : List IndAddr) (job worker : ℕ) → stage_of (none_taken devices) job ≡ Some (IsHeldBy worker) → ⊥
untaken_all devices job worker e = differ (of_all (length devices) job IsUntaken (IsHeldBy worker) e)
  where
    differ : IsUntaken ≡ IsHeldBy worker → ⊥
    differ e = cc

pub begins_written : (workers : ℕ) (devices : List IndAddr) (turns : List GroupTurn) (w : Work) (place : ℕ) → BeginsWith workers devices turns w → WritesRightly place w
begins_written workers devices turns w place b = written_as w (none_taken devices) (jobs_held w.crew) [] turns place b.reservation b.turns_are b.journal
    (record { form = λ jobs of. tt; reserved = λ jobs of. tt; so_far = omega arith })

pub begins_telling : (workers : ℕ) (devices : List IndAddr) (turns : List GroupTurn) (w : Work) → BeginsWith workers devices turns w → TellsRightly w
begins_telling workers devices turns w b = telling_as w 0 turns [] b.none_told b.turns_are b.journal (record { entries = none_told; there = omega arith })

pub begins_live : (workers : ℕ) (devices : List IndAddr) (turns : List GroupTurn) (w : Work) → BeginsWith workers devices turns w → Lives w
begins_live workers devices turns w b = live_as w (none_taken devices) (jobs_held (replicate workers None)) [] turns 0 b.reservation b.turns_are b.journal (ap jobs_held b.crew)
    (record { reservation_is = λ jobs of. ap none_taken of; holds = λ place job. (λ e. absurd (nobody workers place job e), λ e. absurd (untaken_all devices job (suc place) e)) })
