-- What a downloader gives to be sent may be put, whatever phase it is in, and then it fits the line's view again.
use Rattle.std.proofs.Common.{◌≡◌, inl, inr, ℕ, suc, Bool, true, false, is_some, List, [], ◌∷◌, Option, Some, None, refl, ap, sym, subst, ◌∙◌, if◌then◌else◌, arith}
use Rattle.knx_model.specs.declared.address.IndAddr.{IndAddr}
use Rattle.knx_model.specs.declared.log.Sign.{Sign}
use Rattle.knx_model.specs.declared.log.Sign.TheVariants as sign
use Rattle.knx_model.specs.declared.connection.ClientExpired.{ClientExpired}
use Rattle.knx_model.specs.declared.connection.ClientExpired.TheVariants as due
use Rattle.knx_model.specs.Connection.{Session, frame_in, numbered_data, disconnect}
use Rattle.knx_model.specs.ClientConnection.{ClientEnd, Asked, Up, Asking, Awaiting, Ended as NoConnection, awaits_nothing, client_sent, client_expired}
use Rattle.knx_model.specs.Plans.{Plan, Over, Asks}
use Rattle.knx_model.specs.GoodPlan.{IsSendable}
use Rattle.line_model.specs.Attempts as line
use Rattle.line_model.specs.Moments.{Moment}
use Rattle.line_model.specs.Attempts.{Attempts, MayPut, is_asking, is_silent}
use Rattle.download_core.specs.declared.did.Did.TheVariants as did
use Rattle.download_core.specs.declared.flight.Flight.{Flight}
use Rattle.download_core.specs.declared.flight.Flight.TheVariants.{Nothing, Frame, Reply}
use Rattle.download_core.specs.declared.outcome.Refusal.{Refusal}
use Rattle.download_core.specs.declared.outcome.Outcome.{Outcome}
use Rattle.download_core.specs.declared.outcome.Outcome.TheVariants.{Failed, Done, Refused}
use Rattle.download_core.specs.declared.signs.Signs.{Signs}
use Rattle.download_core.specs.declared.signs.Signs.TheVariants.{Zero, One, Two}
use Rattle.download_core.specs.Attempt.{Standing, Next, AnswerOf, Attempt, Phase, Resting, Running, Closing, Leaving, Ended, DownloaderState}
use Rattle.download_core.specs.Steps.{connect, phase_did, attempt_did, timed_did, paid_did, free_did, standing_did, due_did, phase_sent, ended_sent, closing_did, attempt_sent, timed_sent, paid_sent, free_sent, standing_sent, due_sent, failed_did, sends, next_did, sent, stepped, is_send}
use Rattle.download_core.specs.Fits.{Knows, Closes, FitsPhase, plan_of, AreReplies, earlier}
use Rattle.download_core.specs.Follows.{IsMoment}
use Rattle.download_core.proofs.Told.{told, line_told}
use Rattle.download_core.proofs.Goes.{Goes, is_sent, begins_with, reply_goes, leaves_by, over_by, ask_goes}
use Rattle.download_core.proofs.Repeats.{repeat_goes}

pub up_of : (conn : ClientEnd) → awaits_nothing conn ≡ true → (s : Session) × (conn ≡ Up s)
up_of (Asked d) h = absurd (cc h)
up_of (Up s) h = (s, refl)
up_of (Asking s q) h = absurd (cc h)
up_of (Awaiting s) h = absurd (cc h)
up_of NoConnection h = absurd (cc h)

pub up_gives : (conn : ClientEnd) (s : Session) (apdu tpdu : List ℕ) → conn ≡ Up s → sends (client_sent conn apdu) ≡ did.Send tpdu → tpdu ≡ numbered_data s.number apdu
unfolding client_sent
up_gives conn s apdu tpdu c h = sym (is_sent (numbered_data s.number apdu) tpdu (ap (λ (e : ClientEnd). sends (client_sent e apdu)) (sym c) ∙ h))

abbrev GoesOn : IndAddr → Plan → Signs → Phase → ℕ → List ℕ → line.Attempt → Type 0
GoesOn device plan signs phase now tpdu x = Goes device plan signs phase now tpdu (line.Running (suc (earlier signs)) x) (frame_in tpdu)

standing_goes : (device : IndAddr) (plan : Plan) (signs : Signs) (a : Attempt) (x : line.Attempt) (st : Standing) (now : ℕ) (tpdu : List ℕ) → awaits_nothing a.conn ≡ true → a.wrong ≡ None → a.owed ≡ [] → a.standing ≡ st → Knows a x
    → standing_did a.conn st ≡ did.Send tpdu → GoesOn device plan signs (standing_sent a st now) now tpdu x
standing_goes device plan signs a x (Next Over) now tpdu u w o p k h =
    let s = up_of a.conn u in
    leaves_by device plan signs Done x now tpdu (sym (is_sent disconnect tpdu h)) (inl (over_by a x k o u (inr (record { session = s.0; up = k.end ∙ s.1; all = k.left w ∙ ap plan_of p }))))
standing_goes device plan signs a x (Next (Asks place apdu expect next)) now tpdu u w o p k h =
    let s = up_of a.conn u in
    ask_goes device plan signs a x s.0 place apdu expect next now tpdu s.1 (ap plan_of p) w o k (up_gives a.conn s.0 apdu tpdu s.1 h)
standing_goes device plan signs a x (AnswerOf left) now tpdu u w o p k h = absurd (cc h)

free_goes : (device : IndAddr) (plan : Plan) (signs : Signs) (a : Attempt) (x : line.Attempt) (w : Option Refusal) (now : ℕ) (tpdu : List ℕ) → awaits_nothing a.conn ≡ true → a.wrong ≡ w → a.owed ≡ [] → Knows a x
    → free_did a w ≡ did.Send tpdu → GoesOn device plan signs (free_sent a w now) now tpdu x
free_goes device plan signs a x None now tpdu u w o k h = standing_goes device plan signs a x a.standing now tpdu u w o refl k h
free_goes device plan signs a x (Some wrong) now tpdu u w o k h = leaves_by device plan signs (Refused wrong) x now tpdu (sym (is_sent disconnect tpdu h)) (inl (over_by a x k o u (inl (k.closing ∙ ap is_some w))))

due_goes : (device : IndAddr) (plan : Plan) (signs : Signs) (a : Attempt) (x : line.Attempt) (d : ClientExpired) (now : ℕ) (tpdu : List ℕ) → client_expired a.conn now ≡ d → a.owed ≡ [] → Knows a x
    → due_did d ≡ did.Send tpdu → GoesOn device plan signs (Running (due_sent a d now)) now tpdu x
due_goes device plan signs a x due.Nothing now tpdu e o k h = absurd (cc h)
due_goes device plan signs a x (due.Repeat g) now tpdu e o k h = subst (λ (v : List ℕ). GoesOn device plan signs (Running (due_sent a (due.Repeat g) now)) now v x) (is_sent g tpdu h) (repeat_goes device plan signs a x now g e o k)
due_goes device plan signs a x (due.Silent ms) now tpdu e o k h = absurd (cc h)

test_goes : (device : IndAddr) (plan : Plan) (signs : Signs) (a : Attempt) (x : line.Attempt) (u : Bool) (d : ClientExpired) (now : ℕ) (tpdu : List ℕ) → awaits_nothing a.conn ≡ u → client_expired a.conn now ≡ d → a.owed ≡ [] → Knows a x
    → (if u then free_did a a.wrong else due_did d) ≡ did.Send tpdu → GoesOn device plan signs (if u then free_sent a a.wrong now else Running (due_sent a d now)) now tpdu x
test_goes device plan signs a x true d now tpdu u e o k h = free_goes device plan signs a x a.wrong now tpdu u refl o k h
test_goes device plan signs a x false d now tpdu u e o k h = due_goes device plan signs a x d now tpdu e o k h

paid_goes : (device : IndAddr) (plan : Plan) (signs : Signs) (a : Attempt) (x : line.Attempt) (owed : List ℕ) (d : ClientExpired) (now : ℕ) (tpdu : List ℕ) → a.owed ≡ owed → client_expired a.conn now ≡ d → Knows a x → paid_did a owed d ≡ did.Send tpdu
    → GoesOn device plan signs (paid_sent a owed d now) now tpdu x
paid_goes device plan signs a x [] d now tpdu o e k h = test_goes device plan signs a x (awaits_nothing a.conn) d now tpdu refl e o k h
paid_goes device plan signs a x (y ∷ rest) d now tpdu o e k h =
    subst (λ (v : List ℕ). GoesOn device plan signs (paid_sent a (y ∷ rest) d now) now v x) (is_sent (y ∷ []) tpdu h) (reply_goes device plan signs a x now y rest (frame_in (y ∷ [])) (subst AreReplies o k.replies).0 o k)

silent_goes : (device : IndAddr) (plan : Plan) (signs : Signs) (a : Attempt) (x : line.Attempt) (ms now : ℕ) (tpdu : List ℕ) → client_expired a.conn now ≡ due.Silent ms → Knows a x → did.Send disconnect ≡ did.Send tpdu
    → GoesOn device plan signs (Leaving (Failed (sign.Silent ms))) now tpdu x
silent_goes device plan signs a x ms now tpdu e k h =
    leaves_by device plan signs (Failed (sign.Silent ms)) x now tpdu (sym (is_sent disconnect tpdu h)) (inr (ap (λ (c : ClientEnd). is_silent (client_expired c now)) k.end ∙ ap is_silent e))

timed_goes : (device : IndAddr) (plan : Plan) (signs : Signs) (a : Attempt) (x : line.Attempt) (d : ClientExpired) (now : ℕ) (tpdu : List ℕ) → client_expired a.conn now ≡ d → Knows a x → timed_did a d ≡ did.Send tpdu → GoesOn device plan signs (timed_sent a d now) now tpdu x
timed_goes device plan signs a x due.Nothing now tpdu e k h = paid_goes device plan signs a x a.owed due.Nothing now tpdu refl e k h
timed_goes device plan signs a x (due.Repeat g) now tpdu e k h = paid_goes device plan signs a x a.owed (due.Repeat g) now tpdu refl e k h
timed_goes device plan signs a x (due.Silent ms) now tpdu e k h = silent_goes device plan signs a x ms now tpdu e k h

running_goes : (device : IndAddr) (plan : Plan) (signs : Signs) (a : Attempt) (x : line.Attempt) (flight : Flight) (now : ℕ) (tpdu : List ℕ) → Knows a x → attempt_did a flight now ≡ did.Send tpdu → GoesOn device plan signs (attempt_sent a now) now tpdu x
running_goes device plan signs a x Nothing now tpdu k h = timed_goes device plan signs a x (client_expired a.conn now) now tpdu refl k h
running_goes device plan signs a x Frame now tpdu k h = absurd (cc h)
running_goes device plan signs a x Reply now tpdu k h = absurd (cc h)

closing_goes : (device : IndAddr) (plan : Plan) (signs : Signs) (flight at_first : Flight) (outcome : Outcome) (x : line.Attempt) (now : ℕ) (tpdu : List ℕ) → Closes at_first x → closing_did flight ≡ did.Send tpdu → GoesOn device plan signs (Leaving outcome) now tpdu x
closing_goes device plan signs Nothing at_first outcome x now tpdu k h =
    leaves_by device plan signs outcome x now tpdu (sym (is_sent disconnect tpdu h)) (inl (record { acknowledged = ap is_asking k.end; owes_nothing = k.owes_nothing; which = inl k.closing }))
closing_goes device plan signs Frame at_first outcome x now tpdu k h = absurd (cc h)
closing_goes device plan signs Reply at_first outcome x now tpdu k h = absurd (cc h)

-- ---- whatever phase it is in

abbrev GoesTo : DownloaderState → ℕ → List ℕ → Attempts → Type 0
GoesTo r now tpdu t = Goes r.device r.plan r.signs r.phase now tpdu t (frame_in tpdu)

abbrev with_signs : IndAddr → Plan → Signs → Phase → DownloaderState
with_signs device plan signs phase = record { device = device; plan = plan; signs = signs; phase = phase }

failed_goes : (device : IndAddr) (plan : Plan) (signs : Signs) (phase : Phase) (why : Sign) (now : ℕ) (tpdu : List ℕ) (t : Attempts) → IsSendable plan → t ≡ line.Resting (suc (earlier signs)) → failed_did signs why ≡ did.Send tpdu
    → GoesTo (ended_sent (with_signs device plan signs phase) (Failed why)) now tpdu t
failed_goes device plan Zero phase why now tpdu t s f h = begins_with device plan (One why) now 1 tpdu t s f refl (omega arith) (sym (is_sent connect tpdu h))
failed_goes device plan (One a) phase why now tpdu t s f h = begins_with device plan (Two a why) now 2 tpdu t s f refl (omega arith) (sym (is_sent connect tpdu h))
failed_goes device plan (Two a b) phase why now tpdu t s f h = absurd (cc h)

goes_at : (device : IndAddr) (plan : Plan) (signs : Signs) (was phase : Phase) (now : ℕ) (tpdu : List ℕ) (t : Attempts) → IsSendable plan → FitsPhase signs phase t → phase_did signs phase now ≡ did.Send tpdu
    → GoesTo (phase_sent (with_signs device plan signs was) phase now) now tpdu t
goes_at device plan signs was Resting now tpdu t s f h = begins_with device plan signs now 0 tpdu t s f.1 (ap earlier (sym f.0)) (omega arith) (sym (is_sent connect tpdu h))
goes_at device plan signs was (Running a) now tpdu t s f h =
    subst (λ (v : Attempts). Goes device plan signs (attempt_sent a now) now tpdu v (frame_in tpdu)) (sym f.1) (running_goes device plan signs a f.0 a.flight now tpdu f.2 h)
goes_at device plan signs was (Closing flight outcome) now tpdu t s f h =
    subst (λ (v : Attempts). Goes device plan signs (Leaving outcome) now tpdu v (frame_in tpdu)) (sym f.1) (closing_goes device plan signs flight flight outcome f.0 now tpdu f.2 h)
goes_at device plan signs was (Leaving outcome) now tpdu t s f h = absurd (cc h)
goes_at device plan signs was (Ended (Failed why)) now tpdu t s f h = failed_goes device plan signs was why now tpdu t s f h
goes_at device plan signs was (Ended Done) now tpdu t s f h = absurd (cc h)
goes_at device plan signs was (Ended (Refused wrong)) now tpdu t s f h = absurd (cc h)

goes_so : (s : DownloaderState) (now : ℕ) (tpdu : List ℕ) (t : Attempts) → IsSendable s.plan → FitsPhase s.signs s.phase t → next_did s now ≡ did.Send tpdu → GoesTo (sent s now) now tpdu t
goes_so s now tpdu t c f h = goes_at s.device s.plan s.signs s.phase s.phase now tpdu t c f h

same_owner : (s : DownloaderState) (phase : Phase) (now : ℕ) → ((phase_sent s phase now).device ≡ s.device) × ((phase_sent s phase now).plan ≡ s.plan)
same_owner s Resting now = (refl, refl)
same_owner s (Running a) now = (refl, refl)
same_owner s (Closing flight outcome) now = (refl, refl)
same_owner s (Leaving outcome) now = (refl, refl)
same_owner s (Ended (Failed why)) now = (refl, refl)
same_owner s (Ended Done) now = (refl, refl)
same_owner s (Ended (Refused wrong)) now = (refl, refl)

-- the same device's, and the same plan
pub sent_owner : (s : DownloaderState) (now : ℕ) → ((sent s now).device ≡ s.device) × ((sent s now).plan ≡ s.plan)
sent_owner s now = same_owner s s.phase now

pub may_put : (s : DownloaderState) (now : ℕ) (tpdu : List ℕ) (t : Attempts) → IsSendable s.plan → FitsPhase s.signs s.phase t → next_did s now ≡ did.Send tpdu → MayPut t now tpdu (frame_in tpdu)
may_put s now tpdu t c f h = (goes_so s now tpdu t c f h).may

picks : (b : Bool) (A B : DownloaderState) → b ≡ true → (if b then A else B) ≡ A
picks true A B h = refl
picks false A B h = absurd (cc h)

pub step_sent : (s : DownloaderState) (now : ℕ) (tpdu : List ℕ) → next_did s now ≡ did.Send tpdu → stepped s now ≡ sent s now
step_sent s now tpdu h = picks (is_send (next_did s now)) (sent s now) s (ap is_send h)

-- what was sent was put: it fits the line's view again
pub sent_fits : (s : DownloaderState) (tpdu : List ℕ) (m : Moment) (t : Attempts) → IsSendable s.plan → FitsPhase s.signs s.phase t → next_did s m.now ≡ did.Send tpdu → IsMoment s.device (Some (frame_in tpdu)) None None m
    → FitsPhase (sent s m.now).signs (sent s m.now).phase (line.attempts_after s.device s.plan m t)
sent_fits s tpdu m t c f h w =
    let r = sent s m.now in
    let own = sent_owner s m.now in
    let there : FitsPhase r.signs r.phase (told r.device r.plan m.now (Some (frame_in tpdu)) None None t) = (goes_so s m.now tpdu t c f h).fits in
    let here : FitsPhase r.signs r.phase (told s.device s.plan m.now (Some (frame_in tpdu)) None None t) =
    subst (λ (p : Plan). FitsPhase r.signs r.phase (told s.device p m.now (Some (frame_in tpdu)) None None t)) own.1
    (subst (λ (d : IndAddr). FitsPhase r.signs r.phase (told d r.plan m.now (Some (frame_in tpdu)) None None t)) own.0 there) in
    subst (FitsPhase r.signs r.phase) (sym (line_told s.device s.plan (Some (frame_in tpdu)) None None m t w)) here
