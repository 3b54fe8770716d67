-- A downloader fits the record after each call.
use Rattle.std.proofs.Common.{◌≡◌, ◌≢◌, ℕ, Bool, true, false, List, [], ◌∷◌, Some, None, refl, ap, sym, subst}
use Rattle.knx_model.specs.declared.address.IndAddr.{IndAddr}
use Rattle.knx_model.specs.declared.connection.TransportFrame.{TransportFrame}
use Rattle.knx_model.specs.Connection.{frame_in}
use Rattle.knx_model.specs.Plans.{Plan, Over}
use Rattle.line_model.specs.ClientView.{Deed}
use Rattle.line_model.specs.Moments.{Moment, is_loss, put_to, is_connect, grown, stretches, course}
use Rattle.line_model.specs.Attempts.{Attempts, attempts}
use Rattle.download_core.specs.declared.flight.Flight.{Flight}
use Rattle.download_core.specs.declared.flight.Flight.TheVariants.{Nothing, Frame, Reply}
use Rattle.download_core.specs.declared.signs.Signs.{Signs}
use Rattle.download_core.specs.Attempt.{Phase, Resting, Running, Closing, Leaving, Ended}
use Rattle.download_core.specs.Calls.{phase_confirmed, phase_heard, phase_lost, attempt_confirmed}
use Rattle.download_core.specs.Fits.{FitsPhase}
use Rattle.download_core.specs.Record.{PhaseFits, FitsRecord}
use Rattle.download_core.specs.Follows.{IsMoment, is_in_flight, flies, AsideFollows, ConfirmedFollows, OthersFollow, HeardFollows, LostFollows}
use Rattle.download_core.proofs.Told.{aside_fits, lost_fits}
use Rattle.download_core.proofs.Confirmed.{confirmed_fits}
use Rattle.download_core.proofs.Hears.{heard_fits}
use Rattle.download_core.proofs.Comes.{came_stays}
use Rattle.download_core.proofs.Fares.{run_aside, confirmed_fares}
use Rattle.download_core.proofs.EndsBy.{loss_is, lost_fares, heard_fares}
use Rattle.download_core.proofs.Stretches.{grown_is, fares_fit}

-- it joins the last stretch
joins : (device : ℕ) (plan : Plan) (signs : Signs) (phase : Phase) (m : Moment) (l : List Moment) → is_connect (put_to device m.what) ≡ false → PhaseFits device plan signs phase (grown m (stretches device l)) → PhaseFits device plan signs phase (stretches device (m ∷ l))
joins device plan signs phase m l e f = subst (PhaseFits device plan signs phase) (sym (grown_is device m l e)) f

-- ---- nothing to the device

aside_shown : (device : IndAddr) (plan : Plan) (signs : Signs) (phase : Phase) (m : Moment) (xs : List (List Moment)) → PhaseFits device.raw plan signs phase xs → IsMoment device None None None m → PhaseFits device.raw plan signs phase (grown m xs)
aside_shown device plan signs Resting m xs f w = ap (grown m) f
aside_shown device plan signs (Running a) m [] f w = absurd f
aside_shown device plan signs (Running a) m (x ∷ past) f w = (run_aside device plan a m x (course device.raw x) refl f.0 w, f.1)
aside_shown device plan signs (Closing flight outcome) m [] f w = absurd f
aside_shown device plan signs (Closing flight outcome) m (x ∷ past) f w = (came_stays device.raw plan outcome m x f.0, f.1)
aside_shown device plan signs (Leaving outcome) m [] f w = absurd f
aside_shown device plan signs (Leaving outcome) m (x ∷ past) f w = (came_stays device.raw plan outcome m x f.0, f.1)
aside_shown device plan signs (Ended outcome) m [] f w = absurd f
aside_shown device plan signs (Ended outcome) m (x ∷ past) f w = (came_stays device.raw plan outcome m x f.0, f.1)

pub aside_follows : AsideFollows
aside_follows s now m l f w = record {
  job = aside_fits s.device s.plan s.signs s.phase m (attempts s.device s.plan l) f.job w;
  shown = joins s.device.raw s.plan s.signs s.phase m l (ap is_connect w.put_is) (aside_shown s.device s.plan s.signs s.phase m (stretches s.device.raw l) f.shown w);
  time = refl;
  sendable = f.sendable;
  begins = f.begins;
}

-- ---- a confirmation

confirmed_shown : (device : IndAddr) (plan : Plan) (signs : Signs) (phase : Phase) (error : Bool) (m : Moment) (xs : List (List Moment)) → plan ≢ Over → PhaseFits device.raw plan signs phase xs → IsMoment device None None (Some error) m
    → PhaseFits device.raw plan signs (phase_confirmed phase error m.now) (grown m xs)
confirmed_shown device plan signs Resting error m xs n f w = ap (grown m) f
confirmed_shown device plan signs (Running a) error m [] n f w = absurd f
confirmed_shown device plan signs (Running a) error m (x ∷ past) n f w = fares_fit device.raw plan signs (attempt_confirmed a a.flight error m.now) (m ∷ x) past (confirmed_fares device plan a error m x n f.0 w) f.1
confirmed_shown device plan signs (Closing flight outcome) error m [] n f w = absurd f
confirmed_shown device plan signs (Closing flight outcome) error m (x ∷ past) n f w = (came_stays device.raw plan outcome m x f.0, f.1)
confirmed_shown device plan signs (Leaving outcome) error m [] n f w = absurd f
confirmed_shown device plan signs (Leaving outcome) error m (x ∷ past) n f w = (came_stays device.raw plan outcome m x f.0, f.1)
confirmed_shown device plan signs (Ended outcome) error m [] n f w = absurd f
confirmed_shown device plan signs (Ended outcome) error m (x ∷ past) n f w = (came_stays device.raw plan outcome m x f.0, f.1)

pub confirmed_follows : ConfirmedFollows
confirmed_follows s now error m l f w = record {
  job = confirmed_fits s.device s.plan s.signs s.phase error m (attempts s.device s.plan l) f.job w;
  shown = joins s.device.raw s.plan s.signs (phase_confirmed s.phase error m.now) m l (ap is_connect w.put_is) (confirmed_shown s.device s.plan s.signs s.phase error m (stretches s.device.raw l) f.begins f.shown w);
  time = refl;
  sendable = f.sendable;
  begins = f.begins;
}

free_flight : (flight : Flight) → is_in_flight flight ≡ false → flight ≡ Nothing
free_flight Nothing e = refl
free_flight Frame e = absurd (cc e)
free_flight Reply e = absurd (cc e)

phase_still : (phase : Phase) (error : Bool) (now : ℕ) → flies phase ≡ false → phase_confirmed phase error now ≡ phase
phase_still Resting error now e = refl
phase_still (Running a) error now e = ap (λ (g : Flight). attempt_confirmed a g error now) (free_flight a.flight e)
phase_still (Closing flight outcome) error now e = ap (λ (g : Flight). Closing g outcome) (sym (free_flight flight e))
phase_still (Leaving outcome) error now e = absurd (cc e)
phase_still (Ended outcome) error now e = refl

pub others_follow : OthersFollow
others_follow s now error m l f e w =
    subst (λ (p : Phase). FitsRecord (record { device = s.device; plan = s.plan; signs = s.signs; phase = p }) m.now (m ∷ l)) (phase_still s.phase error m.now e) (confirmed_follows s now error m l f w)

-- ---- a frame of the device

heard_shown : (device : IndAddr) (plan : Plan) (signs : Signs) (phase : Phase) (g : TransportFrame) (m : Moment) (xs : List (List Moment)) (t : Attempts) → FitsPhase signs phase t → PhaseFits device.raw plan signs phase xs → IsMoment device None (Some g) None m
    → PhaseFits device.raw plan signs (phase_heard phase g m.now) (grown m xs)
heard_shown device plan signs Resting g m xs t k f w = ap (grown m) f
heard_shown device plan signs (Running a) g m [] t k f w = absurd f
heard_shown device plan signs (Running a) g m (x ∷ past) t k f w = fares_fit device.raw plan signs (phase_heard (Running a) g m.now) (m ∷ x) past (heard_fares device plan a g m x f.0 k.2.stands w) f.1
heard_shown device plan signs (Closing flight outcome) g m [] t k f w = absurd f
heard_shown device plan signs (Closing flight outcome) g m (x ∷ past) t k f w = (came_stays device.raw plan outcome m x f.0, f.1)
heard_shown device plan signs (Leaving outcome) g m [] t k f w = absurd f
heard_shown device plan signs (Leaving outcome) g m (x ∷ past) t k f w = (came_stays device.raw plan outcome m x f.0, f.1)
heard_shown device plan signs (Ended outcome) g m [] t k f w = absurd f
heard_shown device plan signs (Ended outcome) g m (x ∷ past) t k f w = (came_stays device.raw plan outcome m x f.0, f.1)

pub heard_follows : HeardFollows
heard_follows s now octets m l f w = record {
  job = heard_fits s.device s.plan s.signs s.phase octets m (attempts s.device s.plan l) f.job w;
  shown = joins s.device.raw s.plan s.signs (phase_heard s.phase (frame_in octets) m.now) m l (ap is_connect w.put_is)
      (heard_shown s.device s.plan s.signs s.phase (frame_in octets) m (stretches s.device.raw l) (attempts s.device s.plan l) f.job f.shown w);
  time = refl;
  sendable = f.sendable;
  begins = f.begins;
}

-- ---- the loss of the channel

loss_joins : (device : ℕ) (m : Moment) → is_loss m.what ≡ true → is_connect (put_to device m.what) ≡ false
loss_joins device m e = ap (λ (d : Deed). is_connect (put_to device d)) (loss_is m.what e)

lost_shown : (device : ℕ) (plan : Plan) (signs : Signs) (phase : Phase) (m : Moment) (xs : List (List Moment)) (t : Attempts) → plan ≢ Over → FitsPhase signs phase t → PhaseFits device plan signs phase xs → is_loss m.what ≡ true
    → PhaseFits device plan signs (phase_lost phase) (grown m xs)
lost_shown device plan signs Resting m xs t n k f w = ap (grown m) f
lost_shown device plan signs (Running a) m [] t n k f w = absurd f
lost_shown device plan signs (Running a) m (x ∷ past) t n k f w = (lost_fares device plan a m x n w f.0 k.2.stands, f.1)
lost_shown device plan signs (Closing flight outcome) m [] t n k f w = absurd f
lost_shown device plan signs (Closing flight outcome) m (x ∷ past) t n k f w = (came_stays device plan outcome m x f.0, f.1)
lost_shown device plan signs (Leaving outcome) m [] t n k f w = absurd f
lost_shown device plan signs (Leaving outcome) m (x ∷ past) t n k f w = (came_stays device plan outcome m x f.0, f.1)
lost_shown device plan signs (Ended outcome) m [] t n k f w = absurd f
lost_shown device plan signs (Ended outcome) m (x ∷ past) t n k f w = (came_stays device plan outcome m x f.0, f.1)

pub lost_follows : LostFollows
lost_follows s now m l f w = record {
  job = lost_fits s.device s.plan s.signs s.phase m (attempts s.device s.plan l) f.job w;
  shown = joins s.device.raw s.plan s.signs (phase_lost s.phase) m l (loss_joins s.device.raw m w) (lost_shown s.device.raw s.plan s.signs s.phase m (stretches s.device.raw l) (attempts s.device s.plan l) f.begins f.job f.shown w);
  time = refl;
  sendable = f.sendable;
  begins = f.begins;
}
