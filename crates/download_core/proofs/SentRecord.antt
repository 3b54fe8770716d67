-- A downloader fits the record after it put what it gave to be sent.
use Rattle.std.proofs.Common.{◌≡◌, ℕ, suc, true, false, List, [], ◌∷◌, Some, refl, ap, sym, subst, ◌∙◌}
use Rattle.knx_model.specs.declared.address.IndAddr.{IndAddr}
use Rattle.knx_model.specs.declared.log.Sign.{Sign}
use Rattle.knx_model.specs.declared.connection.TransportFrame.{TransportFrame}
use Rattle.knx_model.specs.declared.connection.TransportFrame.TheVariants as frame
use Rattle.knx_model.specs.Connection.{frame_in}
use Rattle.knx_model.specs.Plans.{Plan}
use Rattle.knx_model.specs.GoodPlan.{IsSendable}
use Rattle.line_model.specs.Moments.{Moment, put_to, is_connect, grown, stretches}
use Rattle.line_model.specs.Signs.{EachHolds}
use Rattle.line_model.specs.Attempts as line
use Rattle.line_model.specs.Attempts.{Attempts, attempts, MayPut}
use Rattle.download_core.specs.declared.did.Did.TheVariants as did
use Rattle.download_core.specs.declared.flight.Flight.{Flight}
use Rattle.download_core.specs.declared.outcome.Outcome.{Outcome}
use Rattle.download_core.specs.declared.outcome.Outcome.TheVariants.{Failed, Done, Refused}
use Rattle.download_core.specs.declared.signs.Signs.{Signs}
use Rattle.download_core.specs.declared.signs.Signs.TheVariants.{Zero, One, Two}
use Rattle.download_core.specs.Attempt.{Attempt, Phase, Resting, Running, Closing, Leaving, Ended, DownloaderState, first_attempt, with_sign}
use Rattle.download_core.specs.Steps.{connect, next_did, attempt_sent, failed_did, sent, stepped}
use Rattle.download_core.specs.Fits.{FitsPhase, earlier}
use Rattle.download_core.specs.Record.{signs_of, HasBegun, PhaseFits, FitsRecord}
use Rattle.download_core.specs.Follows.{SendsRightly, SentFollows}
use Rattle.download_core.proofs.Goes.{is_sent, connect_read}
use Rattle.download_core.proofs.Sent.{may_put, sent_fits, sent_owner, step_sent}
use Rattle.download_core.proofs.Comes.{came_stays}
use Rattle.download_core.proofs.SentBy.{PutsIt}
use Rattle.download_core.proofs.SentFares.{sent_fares}
use Rattle.download_core.proofs.Stretches.{grown_is, begun_is, fares_fit, session_timed}

pub sends_rightly : SendsRightly
sends_rightly s now octets l f h = may_put s now octets (attempts s.device s.plan l) f.sendable f.job h

-- ---- T_Connect begins a stretch, and nothing else does

not_connect : (t : Attempts) (k now : ℕ) (x : line.Attempt) (octets : List ℕ) (p : TransportFrame) → t ≡ line.Running k x → MayPut t now octets p → is_connect (Some p) ≡ false
not_connect t k now x octets frame.Connect e h = absurd (subst (λ (u : Attempts). MayPut u now octets frame.Connect) e h)
not_connect t k now x octets frame.Disconnect e h = refl
not_connect t k now x octets (frame.Ack n) e h = refl
not_connect t k now x octets (frame.Nak n) e h = refl
not_connect t k now x octets (frame.Numbered n apdu) e h = refl
not_connect t k now x octets frame.Other e h = refl

connects : (device : IndAddr) (octets : List ℕ) (m : Moment) → did.Send connect ≡ did.Send octets → PutsIt device (frame_in octets) m → is_connect (put_to device.raw m.what) ≡ true
connects device octets m h w = ap is_connect (w.put_is ∙ ap (λ (v : List ℕ). Some (frame_in v)) (sym (is_sent connect octets h)) ∙ ap Some connect_read)

first_begun : (device : IndAddr) (plan : Plan) → HasBegun plan (first_attempt device plan)
first_begun device plan = record { asked = tt; flight = refl; sent = refl; last = refl; standing = refl; wrong = refl }

abbrev state : IndAddr → Plan → Signs → Phase → DownloaderState
state device plan signs phase = record { device = device; plan = plan; signs = signs; phase = phase }

-- what it has to show
abbrev Shown : DownloaderState → Moment → List Moment → Type 0
Shown s m l = PhaseFits (sent s m.now).device.raw (sent s m.now).plan (sent s m.now).signs (sent s m.now).phase (stretches (sent s m.now).device.raw (m ∷ l))

resting_shown : (device : IndAddr) (plan : Plan) (signs : Signs) (octets : List ℕ) (m : Moment) (l : List Moment) → signs ≡ Zero → stretches device.raw l ≡ [] → did.Send connect ≡ did.Send octets → PutsIt device (frame_in octets) m → Shown (state device plan signs Resting) m l
resting_shown device plan signs octets m l z e h w =
    subst (PhaseFits device.raw plan signs (Running (first_attempt device plan))) (sym (begun_is device.raw m l (connects device octets m h w)))
    (first_begun device plan, subst (λ (g : Signs). EachHolds device.raw (signs_of g) (stretches device.raw l)) (sym z) (subst (EachHolds device.raw []) (sym e) tt))

failed_each : (device : ℕ) (plan : Plan) (signs : Signs) (why : Sign) (octets : List ℕ) (xs : List (List Moment)) → failed_did signs why ≡ did.Send octets → PhaseFits device plan signs (Ended (Failed why)) xs → EachHolds device (signs_of (with_sign signs why)) xs
failed_each device plan Zero why octets [] h f = absurd f
failed_each device plan Zero why octets (x ∷ past) h f = (f.0.shows.0, f.1)
failed_each device plan (One a) why octets [] h f = absurd f
failed_each device plan (One a) why octets (x ∷ past) h f = (f.0.shows.0, f.1)
failed_each device plan (Two a b) why octets xs h f = absurd (cc h)

failed_connect : (signs : Signs) (why : Sign) (octets : List ℕ) → failed_did signs why ≡ did.Send octets → did.Send connect ≡ did.Send octets
failed_connect Zero why octets h = h
failed_connect (One a) why octets h = h
failed_connect (Two a b) why octets h = absurd (cc h)

failed_shown : (device : IndAddr) (plan : Plan) (signs : Signs) (why : Sign) (octets : List ℕ) (m : Moment) (l : List Moment) → failed_did signs why ≡ did.Send octets → PhaseFits device.raw plan signs (Ended (Failed why)) (stretches device.raw l) → PutsIt device (frame_in octets) m
    → Shown (state device plan signs (Ended (Failed why))) m l
failed_shown device plan signs why octets m l h f w =
    subst (PhaseFits device.raw plan (with_sign signs why) (Running (first_attempt device plan))) (sym (begun_is device.raw m l (connects device octets m (failed_connect signs why octets h) w)))
    (first_begun device plan, failed_each device.raw plan signs why octets (stretches device.raw l) h f)

running_shown : (device : IndAddr) (plan : Plan) (signs : Signs) (a : Attempt) (y : line.Attempt) (octets : List ℕ) (m : Moment) (l : List Moment) (xs : List (List Moment)) → FitsRecord (state device plan signs (Running a)) m.now l → stretches device.raw l ≡ xs
    → PhaseFits device.raw plan signs (Running a) xs → next_did (state device plan signs (Running a)) m.now ≡ did.Send octets → PutsIt device (frame_in octets) m → PhaseFits device.raw plan signs (attempt_sent a m.now) (grown m xs)
running_shown device plan signs a y octets m l [] f e g h w = absurd g
running_shown device plan signs a y octets m l (x ∷ past) f e g h w =
    fares_fit device.raw plan signs (attempt_sent a m.now) (m ∷ x) past (sent_fares device plan a f.job.0 octets m x g.0 f.job.2 h (λ s c. session_timed device.raw m.now l x s past e c f.time) w) g.1

joined : (device : IndAddr) (plan : Plan) (signs : Signs) (phase after : Phase) (octets : List ℕ) (m : Moment) (l : List Moment) (t : Attempts) (k : ℕ) (y : line.Attempt) → t ≡ line.Running k y → MayPut t m.now octets (frame_in octets) → PutsIt device (frame_in octets) m
    → PhaseFits device.raw plan signs after (grown m (stretches device.raw l)) → PhaseFits device.raw plan signs after (stretches device.raw (m ∷ l))
joined device plan signs phase after octets m l t k y e may w f =
    subst (PhaseFits device.raw plan signs after) (sym (grown_is device.raw m l (ap is_connect w.put_is ∙ not_connect t k m.now y octets (frame_in octets) e may))) f

leaving_shown : (device : ℕ) (plan : Plan) (signs : Signs) (flight : Flight) (outcome : Outcome) (m : Moment) (xs : List (List Moment)) → PhaseFits device plan signs (Closing flight outcome) xs → PhaseFits device plan signs (Leaving outcome) (grown m xs)
leaving_shown device plan signs flight outcome m [] f = absurd f
leaving_shown device plan signs flight outcome m (x ∷ past) f = (came_stays device plan outcome m x f.0, f.1)

shown_at : (device : IndAddr) (plan : Plan) (signs : Signs) (phase : Phase) (octets : List ℕ) (m : Moment) (l : List Moment) → FitsRecord (state device plan signs phase) m.now l → next_did (state device plan signs phase) m.now ≡ did.Send octets
    → PutsIt device (frame_in octets) m → Shown (state device plan signs phase) m l
shown_at device plan signs Resting octets m l f h w = resting_shown device plan signs octets m l f.job.0 f.shown h w
shown_at device plan signs (Running a) octets m l f h w =
    joined device plan signs (Running a) (attempt_sent a m.now) octets m l (attempts device plan l) (suc (earlier signs)) f.job.0 f.job.1 (sends_rightly (state device plan signs (Running a)) m.now octets l f h) w
    (running_shown device plan signs a f.job.0 octets m l (stretches device.raw l) f refl f.shown h w)
shown_at device plan signs (Closing flight outcome) octets m l f h w =
    joined device plan signs (Closing flight outcome) (Leaving outcome) octets m l (attempts device plan l) (suc (earlier signs)) f.job.0 f.job.1 (sends_rightly (state device plan signs (Closing flight outcome)) m.now octets l f h) w
    (leaving_shown device.raw plan signs flight outcome m (stretches device.raw l) f.shown)
shown_at device plan signs (Leaving outcome) octets m l f h w = absurd (cc h)
shown_at device plan signs (Ended (Failed why)) octets m l f h w = failed_shown device plan signs why octets m l h f.shown w
shown_at device plan signs (Ended Done) octets m l f h w = absurd (cc h)
shown_at device plan signs (Ended (Refused r)) octets m l f h w = absurd (cc h)

-- ---- the whole

sent_at : (s : DownloaderState) (octets : List ℕ) (m : Moment) (l : List Moment) → FitsRecord s m.now l → next_did s m.now ≡ did.Send octets → PutsIt s.device (frame_in octets) m → FitsRecord (sent s m.now) m.now (m ∷ l)
sent_at s octets m l f h w =
    let own = sent_owner s m.now in
    record {
      job = subst (λ (d : IndAddr). FitsPhase (sent s m.now).signs (sent s m.now).phase (attempts d (sent s m.now).plan (m ∷ l))) (sym own.0)
          (subst (λ (p : Plan). FitsPhase (sent s m.now).signs (sent s m.now).phase (attempts s.device p (m ∷ l))) (sym own.1) (sent_fits s octets m (attempts s.device s.plan l) f.sendable f.job h w));
      shown = shown_at s.device s.plan s.signs s.phase octets m l f h w;
      time = refl;
      sendable = subst IsSendable (sym own.1) f.sendable;
      begins = λ e. f.begins (sym own.1 ∙ e);
    }

pub sent_follows : SentFollows
sent_follows s now octets m l f h e w =
    let g : FitsRecord s m.now l = subst (λ (k : ℕ). FitsRecord s k l) (sym e) f in
    let d : next_did s m.now ≡ did.Send octets = subst (λ (k : ℕ). next_did s k ≡ did.Send octets) (sym e) h in
    let there : FitsRecord (stepped s m.now) m.now (m ∷ l) = subst (λ (r : DownloaderState). FitsRecord r m.now (m ∷ l)) (sym (step_sent s m.now octets d)) (sent_at s octets m l g d w) in
    subst (λ (k : ℕ). FitsRecord (stepped s k) k (m ∷ l)) e there
