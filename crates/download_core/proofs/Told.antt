-- What the line's view tells of a moment, by what the moment is to the device; and what is nothing to it.
use Rattle.std.proofs.Common.{◌≡◌, ℕ, Bool, true, false, Option, None, refl, ap, sym, subst, ◌∙◌, if◌then◌else◌}
use Rattle.knx_model.specs.declared.address.IndAddr.{IndAddr}
use Rattle.knx_model.specs.declared.connection.TransportFrame.{TransportFrame}
use Rattle.knx_model.specs.Plans.{Plan}
use Rattle.line_model.specs.Moments.{Moment, is_loss, put_to, heard_from, confirmation_in}
use Rattle.line_model.specs.Attempts as line
use Rattle.line_model.specs.Attempts.{Attempts, attempts_after, put_so, confirmed_so, heard_so, begun}
use Rattle.download_core.specs.declared.signs.Signs.{Signs}
use Rattle.download_core.specs.Attempt.{Phase, Resting, Running, Closing, Leaving, Ended}
use Rattle.download_core.specs.Calls.{phase_lost}
use Rattle.download_core.specs.Fits.{FitsPhase}
use Rattle.download_core.specs.Follows.{IsMoment}

-- after what was put, confirmed and heard
abbrev pub told : IndAddr → Plan → ℕ → Option TransportFrame → Option Bool → Option TransportFrame → Attempts → Attempts
told device plan now put confirmation heard t = heard_so now (confirmed_so now (put_so device plan now t put) confirmation) heard

lasts : (t : Bool) (A B : Attempts) → t ≡ false → (if t then A else B) ≡ B
lasts true A B e = absurd (cc e)
lasts false A B e = refl

loses : (t : Bool) (A B : Attempts) → t ≡ true → (if t then A else B) ≡ A
loses true A B e = refl
loses false A B e = absurd (cc e)

pub line_told : (device : IndAddr) (plan : Plan) (put heard : Option TransportFrame) (confirmation : Option Bool) (m : Moment) (t : Attempts) → IsMoment device put heard confirmation m → attempts_after device plan m t ≡ told device plan m.now put confirmation heard t
line_told device plan put heard confirmation m t h =
    lasts (is_loss m.what) (line.Resting (begun t)) (told device plan m.now (put_to device.raw m.what) (confirmation_in m.what) (heard_from device.raw m.what) t) h.lasts
    ∙ ap (λ (p : Option TransportFrame). told device plan m.now p (confirmation_in m.what) (heard_from device.raw m.what) t) h.put_is
    ∙ ap (λ (c : Option Bool). told device plan m.now put c (heard_from device.raw m.what) t) h.confirmed_is
    ∙ ap (λ (p : Option TransportFrame). told device plan m.now put confirmation p t) h.heard_is

line_lost : (device : IndAddr) (plan : Plan) (m : Moment) (t : Attempts) → is_loss m.what ≡ true → attempts_after device plan m t ≡ line.Resting (begun t)
line_lost device plan m t h = loses (is_loss m.what) _ _ h

-- ---- nothing to the device

not_confirmed : (now : ℕ) (t : Attempts) → confirmed_so now t None ≡ t
not_confirmed now (line.Resting k) = refl
not_confirmed now (line.Running k x) = refl

pub not_heard : (now : ℕ) (t : Attempts) → heard_so now t None ≡ t
not_heard now (line.Resting k) = refl
not_heard now (line.Running k x) = refl

aside_told : (device : IndAddr) (plan : Plan) (now : ℕ) (t : Attempts) → told device plan now None None None t ≡ t
aside_told device plan now t = not_heard now (confirmed_so now t None) ∙ not_confirmed now t

pub aside_fits : (device : IndAddr) (plan : Plan) (signs : Signs) (phase : Phase) (m : Moment) (t : Attempts) → FitsPhase signs phase t → IsMoment device None None None m → FitsPhase signs phase (attempts_after device plan m t)
aside_fits device plan signs phase m t f h = subst (FitsPhase signs phase) (sym (line_told device plan None None None m t h ∙ aside_told device plan m.now t)) f

-- ---- the loss of the channel

lost_at : (signs : Signs) (phase : Phase) (t : Attempts) → FitsPhase signs phase t → FitsPhase signs (phase_lost phase) (line.Resting (begun t))
lost_at signs Resting t f = (f.0, ap (λ (u : Attempts). line.Resting (begun u)) f.1)
lost_at signs (Running a) t f = ap (λ (u : Attempts). line.Resting (begun u)) f.1
lost_at signs (Closing flight outcome) t f = ap (λ (u : Attempts). line.Resting (begun u)) f.1
lost_at signs (Leaving outcome) t f = ap (λ (u : Attempts). line.Resting (begun u)) f.1
lost_at signs (Ended outcome) t f = ap (λ (u : Attempts). line.Resting (begun u)) f

pub lost_fits : (device : IndAddr) (plan : Plan) (signs : Signs) (phase : Phase) (m : Moment) (t : Attempts) → FitsPhase signs phase t → is_loss m.what ≡ true → FitsPhase signs (phase_lost phase) (attempts_after device plan m t)
lost_fits device plan signs phase m t f h = subst (FitsPhase signs (phase_lost phase)) (sym (line_lost device plan m t h)) (lost_at signs phase t f)
