-- What a downloader's step answers is exactly what the record says.
use Rattle.std.proofs.Common.{◌≡◌, ◌≢◌, ◌<◌, inl, inr, ℕ, suc, true, List, [], ◌∷◌, length, reverse, refl, ap, sym, subst, ◌∙◌, arith}
use Rattle.std.proofs.lemmas.List.{length-reverse}
use Rattle.knx_model.specs.declared.address.IndAddr.{IndAddr}
use Rattle.knx_model.specs.declared.log.Sign.{Sign}
use Rattle.knx_model.specs.ClientConnection.{Ended as NoConnection}
use Rattle.knx_model.specs.Plans.{Plan, Over}
use Rattle.line_model.specs.Attempts as line
use Rattle.line_model.specs.Attempts.{Attempts, attempts, IsOver, is_asking}
use Rattle.line_model.specs.Moments.{Moment, stretches, course, session}
use Rattle.line_model.specs.Signs.{EachHolds, SignsHold}
use Rattle.line_model.specs.Told.{last_stretch}
use Rattle.line_model.specs.Waiting.{NextIsSending, IsResting, ToDisconnect}
use Rattle.download_core.specs.declared.did.Did.{Did}
use Rattle.download_core.specs.declared.did.Did.TheVariants as did
use Rattle.download_core.specs.declared.flight.Flight.{Flight}
use Rattle.download_core.specs.declared.flight.Flight.TheVariants.{Nothing, Frame, Reply}
use Rattle.download_core.specs.declared.outcome.Outcome.{Outcome}
use Rattle.download_core.specs.declared.outcome.Outcome.TheVariants.{Failed, Done, Refused}
use Rattle.download_core.specs.declared.signs.Signs.{Signs}
use Rattle.download_core.specs.declared.signs.Signs.TheVariants.{Zero, One, Two}
use Rattle.download_core.specs.Attempt.{Attempt, Phase, Resting, Running, Closing, Leaving, Ended, DownloaderState}
use Rattle.download_core.specs.Steps.{next_did, phase_did, attempt_did, closing_did, failed_did, is_send}
use Rattle.download_core.specs.Fits.{Closes, FitsPhase, earlier}
use Rattle.download_core.specs.Record.{signs_of, IsUnfinished, CameTo, PhaseFits, FitsRecord}
use Rattle.download_core.specs.Tells.{last_session, IsAtEnd, is_end, TellsTruly, EndsTruly}
use Rattle.download_core.proofs.Comes.{nothing_done}
use Rattle.download_core.proofs.Running.{Steps, Sends, Waits, running_steps, flies_not}

-- an end is told, something is sent, or it waits; and each by the record
pub data Answers (device : IndAddr) (plan : Plan) (now : ℕ) (l : List Moment) (d : Did) : Type 0 where
  AnEnd : is_end d ≡ true → IsAtEnd device plan l → Answers device plan now l d
  ASending : is_send d ≡ true → NextIsSending (attempts device plan l) now → (IsAtEnd device plan l → ⊥) → Answers device plan now l d
  AWait : d ≡ did.Wait → (NextIsSending (attempts device plan l) now → ⊥) → (IsAtEnd device plan l → ⊥) → Answers device plan now l d

-- ---- signs and stretches are as many

each_length : (device : ℕ) (signs : List Sign) (xs : List (List Moment)) → EachHolds device signs xs → length signs ≡ length xs
each_length device [] [] h = refl
each_length device [] (x ∷ xs) h = absurd h
each_length device (s ∷ signs) [] h = absurd h
each_length device (s ∷ signs) (x ∷ xs) h = ap suc (each_length device signs xs h.1)

signs_length : (signs : Signs) → length (signs_of signs) ≡ earlier signs
signs_length Zero = refl
signs_length (One a) = refl
signs_length (Two a b) = refl

three_stretches : (device : ℕ) (signs : List Sign) (l : List Moment) → SignsHold device signs l → length (stretches device l) ≡ 3
three_stretches device signs l h = sym (each_length device (reverse signs) (stretches device l) h.each) ∙ length-reverse signs ∙ h.three

-- ---- no attempt has ended so that an end can be told

-- fewer than three stretches, and the last one unfinished
not_at_end : (device : IndAddr) (plan : Plan) (l : List Moment) → length (stretches device.raw l) < 3 → IsUnfinished device.raw plan (last_session device l) → IsAtEnd device plan l → ⊥
not_at_end device plan l less u h = elim (h.which) [
  | inl w ↦ u.goes_on w
  | inr o ↦ elim o [
    | inl f ↦ (let three : length (stretches device.raw l) ≡ 3 = three_stretches device.raw f.0 l f.1 in omega arith)
    | inr r ↦ u.agrees r.0 r.1 r.2 r.3
  ]
]

runs_not : (device : IndAddr) (plan : Plan) (l : List Moment) (k : ℕ) (x : line.Attempt) → attempts device plan l ≡ line.Running k x → IsAtEnd device plan l → ⊥
runs_not device plan l k x e h = absurd (subst IsResting e h.rests)

-- ---- an attempt runs

running_answers : (device : IndAddr) (plan : Plan) (now : ℕ) (l : List Moment) (k : ℕ) (x : line.Attempt) (d : Did) → attempts device plan l ≡ line.Running k x → Steps x now d → Answers device plan now l d
running_answers device plan now l k x d e (Sends s h) = ASending s (subst (λ (t : Attempts). NextIsSending t now) (sym e) h) (runs_not device plan l k x e)
running_answers device plan now l k x d e (Waits w h) = AWait w (λ n. h (subst (λ (t : Attempts). NextIsSending t now) e n)) (runs_not device plan l k x e)

run_answers : (device : IndAddr) (plan : Plan) (signs : Signs) (a : Attempt) (now : ℕ) (l : List Moment) (xs : List (List Moment)) → FitsPhase signs (Running a) (attempts device plan l) → PhaseFits device.raw plan signs (Running a) xs
    → Answers device plan now l (attempt_did a a.flight now)
run_answers device plan signs a now l [] j f = absurd f
run_answers device plan signs a now l (x ∷ past) j f = running_answers device plan now l (suc (earlier signs)) j.0 (attempt_did a a.flight now) j.1 (running_steps device.raw plan a j.0 now (course device.raw x) f.0 j.2)

closing_over : (flight : Flight) (x : line.Attempt) → Closes flight x → IsOver x
closing_over flight x k = record { acknowledged = ap is_asking k.end; owes_nothing = k.owes_nothing; which = inl k.closing }

closing_steps : (flight at_first : Flight) (x : line.Attempt) (now : ℕ) → at_first ≡ flight → Closes at_first x → Steps x now (closing_did flight)
closing_steps Nothing at_first x now e k = Sends refl ((subst (λ (j : Flight). Closes j x) e k).flying, ToDisconnect (inl (closing_over at_first x k)))
closing_steps Frame at_first x now e k = Waits refl (λ h. flies_not Frame NoConnection x.flying (λ o. cc o) (subst (λ (j : Flight). Closes j x) e k).flying h.0)
closing_steps Reply at_first x now e k = Waits refl (λ h. flies_not Reply NoConnection x.flying (λ o. cc o) (subst (λ (j : Flight). Closes j x) e k).flying h.0)

-- ---- the last attempt has ended

last_came : (device : ℕ) (plan : Plan) (signs : Signs) (outcome : Outcome) (xs : List (List Moment)) → PhaseFits device plan signs (Ended outcome) xs → CameTo device plan outcome (last_stretch xs)
last_came device plan signs outcome [] f = absurd f
last_came device plan signs outcome (x ∷ past) f = f.0

so_many : (device : ℕ) (plan : Plan) (signs : Signs) (outcome : Outcome) (xs : List (List Moment)) → PhaseFits device plan signs (Ended outcome) xs → length xs ≡ suc (earlier signs)
so_many device plan signs outcome [] f = absurd f
so_many device plan signs outcome (x ∷ past) f = ap suc (sym (each_length device (signs_of signs) past f.1) ∙ signs_length signs)

rests : (t : Attempts) (k : ℕ) → t ≡ line.Resting k → IsResting t
rests t k e = subst IsResting (sym e) tt

may_begin : (t : Attempts) (k now : ℕ) → t ≡ line.Resting k → k < 3 → NextIsSending t now
may_begin t k now e less = subst (λ (u : Attempts). NextIsSending u now) (sym e) less

failed_unfinished : (device : IndAddr) (plan : Plan) (signs : Signs) (why : Sign) (l : List Moment) → PhaseFits device.raw plan signs (Ended (Failed why)) (stretches device.raw l) → IsUnfinished device.raw plan (last_session device l)
failed_unfinished device plan signs why l f = (last_came device.raw plan signs (Failed why) (stretches device.raw l) f).shows.1

next_begins : (device : IndAddr) (plan : Plan) (signs : Signs) (why : Sign) (now : ℕ) (l : List Moment) (d : Did) → earlier signs < 2 → is_send d ≡ true → attempts device plan l ≡ line.Resting (suc (earlier signs))
    → PhaseFits device.raw plan signs (Ended (Failed why)) (stretches device.raw l) → Answers device plan now l d
next_begins device plan signs why now l d less s e f =
    let many : length (stretches device.raw l) ≡ suc (earlier signs) = so_many device.raw plan signs (Failed why) (stretches device.raw l) f in
    ASending s (may_begin (attempts device plan l) (suc (earlier signs)) now e (omega arith)) (not_at_end device plan l (omega arith) (failed_unfinished device plan signs why l f))

third_failed : (device : ℕ) (plan : Plan) (a b why : Sign) (xs : List (List Moment)) → PhaseFits device plan (Two a b) (Ended (Failed why)) xs → EachHolds device (why ∷ b ∷ a ∷ []) xs
third_failed device plan a b why [] f = absurd f
third_failed device plan a b why (x ∷ past) f = (f.0.shows.0, f.1)

failed_answers : (device : IndAddr) (plan : Plan) (signs : Signs) (why : Sign) (now : ℕ) (l : List Moment) → attempts device plan l ≡ line.Resting (suc (earlier signs)) → PhaseFits device.raw plan signs (Ended (Failed why)) (stretches device.raw l)
    → Answers device plan now l (failed_did signs why)
failed_answers device plan Zero why now l e f = next_begins device plan Zero why now l (failed_did Zero why) (omega arith) refl e f
failed_answers device plan (One a) why now l e f = next_begins device plan (One a) why now l (failed_did (One a) why) (omega arith) refl e f
failed_answers device plan (Two a b) why now l e f =
    AnEnd refl (record { rests = rests (attempts device plan l) 3 e; which = inr (inl (a ∷ b ∷ why ∷ [], record { three = refl; each = third_failed device.raw plan a b why (stretches device.raw l) f })) })

-- ---- a job of which nothing is done

resting_answers : (device : IndAddr) (plan : Plan) (signs : Signs) (now : ℕ) (l : List Moment) (d : Did) → plan ≢ Over → is_send d ≡ true → attempts device plan l ≡ line.Resting 0 → stretches device.raw l ≡ [] → Answers device plan now l d
resting_answers device plan signs now l d n s e f =
    let none : length (stretches device.raw l) ≡ 0 = ap (λ (x : List (List Moment)). length x) f in
    ASending s (may_begin (attempts device plan l) 0 now e (omega arith))
    (not_at_end device plan l (omega arith) (subst (λ (x : List (List Moment)). IsUnfinished device.raw plan (session (course device.raw (last_stretch x)))) (sym f) (nothing_done device.raw plan n)))

-- ---- whatever phase it is in

answers_at : (device : IndAddr) (plan : Plan) (signs : Signs) (phase : Phase) (now : ℕ) (l : List Moment) → plan ≢ Over → FitsPhase signs phase (attempts device plan l) → PhaseFits device.raw plan signs phase (stretches device.raw l)
    → Answers device plan now l (phase_did signs phase now)
answers_at device plan signs Resting now l n j f = resting_answers device plan signs now l (phase_did signs Resting now) n refl j.1 f
answers_at device plan signs (Running a) now l n j f = run_answers device plan signs a now l (stretches device.raw l) j f
answers_at device plan signs (Closing flight outcome) now l n j f = running_answers device plan now l (suc (earlier signs)) j.0 (closing_did flight) j.1 (closing_steps flight flight j.0 now refl j.2)
answers_at device plan signs (Leaving outcome) now l n j f = running_answers device plan now l (suc (earlier signs)) j.0 did.Wait j.1 (Waits refl (λ h. cc (sym j.2.flying ∙ h.0)))
answers_at device plan signs (Ended (Failed why)) now l n j f = failed_answers device plan signs why now l j f
answers_at device plan signs (Ended Done) now l n j f = AnEnd refl (record { rests = rests (attempts device plan l) (suc (earlier signs)) j; which = inl (last_came device.raw plan signs Done (stretches device.raw l) f).shows })
answers_at device plan signs (Ended (Refused r)) now l n j f = AnEnd refl (record {
  rests = rests (attempts device plan l) (suc (earlier signs)) j;
  which = inr (inr (r.op, r.got, r.expected, (last_came device.raw plan signs (Refused r) (stretches device.raw l) f).shows));
})

pub answers : (s : DownloaderState) (now : ℕ) (l : List Moment) → FitsRecord s now l → Answers s.device s.plan now l (next_did s now)
answers s now l f = answers_at s.device s.plan s.signs s.phase now l f.begins f.job f.shown

-- ---- what is told of a job's end

send_tells : (device : IndAddr) (plan : Plan) (l : List Moment) (d : Did) → is_send d ≡ true → TellsTruly device plan l d
send_tells device plan l (did.Send tpdu) s = tt
send_tells device plan l did.Wait s = tt
send_tells device plan l did.Done s = absurd (cc s)
send_tells device plan l (did.Failed signs) s = absurd (cc s)
send_tells device plan l (did.Refused op got expected) s = absurd (cc s)

steps_tell : (device : IndAddr) (plan : Plan) (now : ℕ) (l : List Moment) (x : line.Attempt) (d : Did) → Steps x now d → TellsTruly device plan l d
steps_tell device plan now l x d (Sends s h) = send_tells device plan l d s
steps_tell device plan now l x d (Waits w h) = subst (TellsTruly device plan l) (sym w) tt

run_tells : (device : IndAddr) (plan : Plan) (signs : Signs) (a : Attempt) (now : ℕ) (l : List Moment) (xs : List (List Moment)) → FitsPhase signs (Running a) (attempts device plan l) → PhaseFits device.raw plan signs (Running a) xs
    → TellsTruly device plan l (attempt_did a a.flight now)
run_tells device plan signs a now l [] j f = absurd f
run_tells device plan signs a now l (x ∷ past) j f = steps_tell device plan now l j.0 (attempt_did a a.flight now) (running_steps device.raw plan a j.0 now (course device.raw x) f.0 j.2)

failed_tells : (device : IndAddr) (plan : Plan) (signs : Signs) (why : Sign) (l : List Moment) → PhaseFits device.raw plan signs (Ended (Failed why)) (stretches device.raw l) → TellsTruly device plan l (failed_did signs why)
failed_tells device plan Zero why l f = tt
failed_tells device plan (One a) why l f = tt
failed_tells device plan (Two a b) why l f = record { three = refl; each = third_failed device.raw plan a b why (stretches device.raw l) f }

tells_at : (device : IndAddr) (plan : Plan) (signs : Signs) (phase : Phase) (now : ℕ) (l : List Moment) → FitsPhase signs phase (attempts device plan l) → PhaseFits device.raw plan signs phase (stretches device.raw l) → TellsTruly device plan l (phase_did signs phase now)
tells_at device plan signs Resting now l j f = tt
tells_at device plan signs (Running a) now l j f = run_tells device plan signs a now l (stretches device.raw l) j f
tells_at device plan signs (Closing flight outcome) now l j f = steps_tell device plan now l j.0 (closing_did flight) (closing_steps flight flight j.0 now refl j.2)
tells_at device plan signs (Leaving outcome) now l j f = tt
tells_at device plan signs (Ended (Failed why)) now l j f = failed_tells device plan signs why l f
tells_at device plan signs (Ended Done) now l j f = (last_came device.raw plan signs Done (stretches device.raw l) f).shows
tells_at device plan signs (Ended (Refused r)) now l j f = (last_came device.raw plan signs (Refused r) (stretches device.raw l) f).shows

pub ends_truly : EndsTruly
ends_truly s now l f = tells_at s.device s.plan s.signs s.phase now l f.job f.shown
