-- The attempt of a job and the session's client take a frame of the device.
use Rattle.std.proofs.Common.{◌≡◌, ℕ, List, ◌∷◌, Bool, true, false, ◌&&◌, cond, Option, Some, None, refl, sym, ◌∙◌, ap, subst}
use Rattle.std.proofs.lemmas.Slice.Eq.{bytes_eq-Decides}
use Rattle.std.proofs.lemmas.Bool.{and_parts}
use Rattle.knx_model.specs.declared.address.IndAddr.{IndAddr}
use Rattle.knx_model.specs.declared.connection.ClientTook.{ClientTook}
use Rattle.knx_model.specs.declared.connection.ClientTook.TheVariants as heard
use Rattle.knx_model.specs.declared.connection.TransportFrame.{TransportFrame}
use Rattle.knx_model.specs.declared.plan.Expect.{Expect}
use Rattle.knx_model.specs.declared.plan.Expect.TheVariants.{AckOnly, Is, Note}
use Rattle.knx_model.specs.ClientConnection.{ClientEnd, Asked, Up, Asking, Awaiting, Ended, client_after, client_stayed, client_answered, client_acknowledged}
use Rattle.knx_model.specs.Connection.{Session, acknowledged}
use Rattle.knx_model.specs.Plans.{Plan, Asks as Operation, Suits, followed}
use Rattle.line_model.specs.Attempts.{Attempt, awaits, with_reply, owing, heard_attempt}
use Rattle.line_model.specs.Progress.{suits}
use Rattle.session_law.specs.World.{Client}
use Rattle.session_law.specs.Client.{hears}
use Rattle.load_law.specs.Download.{Went, Answered}
use Rattle.line_law.proofs.Attempting.{NotConnect, FlyFits, IsAwaited, Stands, InPlan, IsWith, Runs, AttemptIs}

-- ---- an answer that suits

pub suits_is : (left : Plan) (got : List ℕ) (place : ℕ) (apdu : List ℕ) (expect : Expect) (next : Option (List ℕ) → Plan) → left ≡ Operation place apdu expect next → suits left got ≡ true → Suits apdu expect (Some got)
suits_is left got place apdu AckOnly next e h = absurd (let z : suits (Operation place apdu AckOnly next) got ≡ true = ap (λ p. suits p got) (sym e) ∙ h in cc)
suits_is left got place apdu (Is wanted) next e h = let z : suits (Operation place apdu (Is wanted) next) got ≡ true = ap (λ p. suits p got) (sym e) ∙ h in (bytes_eq-Decides got wanted).0 z
suits_is left got place apdu Note next e h = ap (λ p. suits p got) (sym e) ∙ h

through : (plan left : Plan) (sent accepted : List (List ℕ)) (got : List ℕ) → suits left got ≡ true → IsAwaited plan left sent accepted → Went plan sent (got ∷ accepted) (followed left got)
through plan left sent accepted got s h =
    let one : Went plan (h.apdu ∷ h.older) (got ∷ accepted) (h.next (Some got)) = Answered h.place h.apdu h.expect h.next got h.older accepted h.went (suits_is left got h.place h.apdu h.expect h.next h.head s) in
    subst (λ z. Went plan z (got ∷ accepted) (followed left got)) (sym h.last) (subst (λ z. Went plan (h.apdu ∷ h.older) (got ∷ accepted) (followed z got)) (sym h.head) one)

-- ---- what the end is then

stayed_fits : (end : ClientEnd) (flying : Option TransportFrame) (t : ℕ) → FlyFits end flying → FlyFits (client_stayed end t) flying
stayed_fits (Asked device) flying t h = h
stayed_fits (Up s) flying t h = h
stayed_fits (Asking s q) flying t h = h
stayed_fits (Awaiting s) flying t h = h
stayed_fits Ended flying t h = h

pub stayed_with : (a : ℕ) (end : ClientEnd) (t : ℕ) → IsWith a end → IsWith a (client_stayed end t)
stayed_with a (Asked device) t h = h
stayed_with a (Up s) t h = h
stayed_with a (Asking s q) t h = h
stayed_with a (Awaiting s) t h = h
stayed_with a Ended t h = h

pub stayed_stands : (end : ClientEnd) (t : ℕ) (plan left : Plan) (sent accepted : List (List ℕ)) → InPlan end plan left sent accepted → InPlan (client_stayed end t) plan left sent accepted
stayed_stands (Asked device) t plan left sent accepted h = h
stayed_stands (Up s) t plan left sent accepted h = h
stayed_stands (Asking s q) t plan left sent accepted h = h
stayed_stands (Awaiting s) t plan left sent accepted h = h
stayed_stands Ended t plan left sent accepted h = h

answered_fits : (end : ClientEnd) (flying : Option TransportFrame) (t : ℕ) → FlyFits end flying → FlyFits (client_answered end t) flying
answered_fits (Asked device) flying t h = h
answered_fits (Up s) flying t h = h
answered_fits (Asking s q) flying t h = h
answered_fits (Awaiting s) flying t h = h
answered_fits Ended flying t h = h

answered_with : (a : ℕ) (end : ClientEnd) (t : ℕ) → IsWith a end → IsWith a (client_answered end t)
answered_with a (Asked device) t h = h
answered_with a (Up s) t h = h
answered_with a (Asking s q) t h = h
answered_with a (Awaiting s) t h = h
answered_with a Ended t h = h

answered_stands : (end : ClientEnd) (t : ℕ) (plan left : Plan) (sent accepted : List (List ℕ)) (got : List ℕ) → awaits end ≡ true → suits left got ≡ true → InPlan end plan left sent accepted → InPlan (client_answered end t) plan (followed left got) sent (got ∷ accepted)
answered_stands (Asked device) t plan left sent accepted got w s h = absurd (let z : false ≡ true = w in cc)
answered_stands (Up p) t plan left sent accepted got w s h = absurd (let z : false ≡ true = w in cc)
answered_stands (Asking p q) t plan left sent accepted got w s h = let k : Stands true plan left sent accepted = subst (λ b. Stands b plan left sent accepted) w h in through plan left sent accepted got s k
answered_stands (Awaiting p) t plan left sent accepted got w s h = through plan left sent accepted got s h
answered_stands Ended t plan left sent accepted got w s h = absurd (let z : false ≡ true = w in cc)

acked_by : (a : ℕ) (b : Bool) (n : Session) (flying : Option TransportFrame) → NotConnect flying → FlyFits (cond b (Awaiting n) (Up n)) flying
acked_by a true n flying h = h
acked_by a false n flying h = h

acked_fits : (end : ClientEnd) (flying : Option TransportFrame) (t : ℕ) → FlyFits end flying → FlyFits (client_acknowledged end t) flying
acked_fits (Asked device) flying t h = h
acked_fits (Up s) flying t h = h
acked_fits (Asking s q) flying t h = acked_by 0 q.awaits (acknowledged s t) flying h.0
acked_fits (Awaiting s) flying t h = h
acked_fits Ended flying t h = h

acked_with_by : (a : ℕ) (b : Bool) (n : Session) → n.partner.raw ≡ a → IsWith a (cond b (Awaiting n) (Up n))
acked_with_by a true n h = h
acked_with_by a false n h = h

acked_with : (a : ℕ) (end : ClientEnd) (t : ℕ) → IsWith a end → IsWith a (client_acknowledged end t)
acked_with a (Asked device) t h = h
acked_with a (Up s) t h = h
acked_with a (Asking s q) t h = acked_with_by a q.awaits (acknowledged s t) h
acked_with a (Awaiting s) t h = h
acked_with a Ended t h = h

acked_stands_by : (b : Bool) (n : Session) (plan left : Plan) (sent accepted : List (List ℕ)) → Stands b plan left sent accepted → InPlan (cond b (Awaiting n) (Up n)) plan left sent accepted
acked_stands_by true n plan left sent accepted h = h
acked_stands_by false n plan left sent accepted h = h

acked_stands : (end : ClientEnd) (t : ℕ) (plan left : Plan) (sent accepted : List (List ℕ)) → InPlan end plan left sent accepted → InPlan (client_acknowledged end t) plan left sent accepted
acked_stands (Asked device) t plan left sent accepted h = h
acked_stands (Up s) t plan left sent accepted h = h
acked_stands (Asking s q) t plan left sent accepted h = acked_stands_by q.awaits (acknowledged s t) plan left sent accepted h
acked_stands (Awaiting s) t plan left sent accepted h = h
acked_stands Ended t plan left sent accepted h = h

-- ---- what is heard

pub hears_nothing : (c : Client) (t : ℕ) → hears c t heard.Dropped ≡ c
unfolding client_after
hears_nothing c t = refl

module _ (a : ℕ) (plan : Plan) (k : ℕ) (t : Attempt) (c : Client) (now : ℕ) (h : Runs a plan t c) where
  answer_by : (b : Bool) (got ack : List ℕ) → (awaits t.end && suits t.left got) ≡ b → Runs a plan (owing (cond {A = Attempt} b (record t { left = followed t.left got }) (record t { closing = true })) now (heard.Answer got ack) ack) (hears c now (heard.Answer got ack))
  unfolding client_after
  answer_by true got ack e =
      let q = and_parts (awaits t.end) (suits t.left got) e in
      record {
        end_is = ap (λ z. client_answered z now) h.end_is;
        owed_is = ap (λ z. with_reply z ack) h.owed_is;
        flies = h.flies;
        fits = answered_fits t.end t.flying now h.fits;
        with_it = answered_with a t.end now h.with_it;
        joined = h.joined;
        stands = λ z. answered_stands t.end now plan t.left c.sent c.accepted got q.0 q.1 (h.stands z);
      }
  answer_by false got ack e =
      record {
        end_is = ap (λ z. client_answered z now) h.end_is;
        owed_is = ap (λ z. with_reply z ack) h.owed_is;
        flies = h.flies;
        fits = answered_fits t.end t.flying now h.fits;
        with_it = answered_with a t.end now h.with_it;
        joined = h.joined;
        stands = λ z. absurd (cc);
      }

  pub hear_attempt : (took : ClientTook) → ((device : IndAddr) → t.end ≡ Asked device → took ≡ heard.Dropped) → AttemptIs a plan (heard_attempt k t now took) (hears c now took)
  unfolding client_after
  hear_attempt heard.Dropped n = h
  hear_attempt heard.Acked n =
      record {
        end_is = ap (λ z. client_acknowledged z now) h.end_is;
        owed_is = h.owed_is;
        flies = h.flies;
        fits = acked_fits t.end t.flying now h.fits;
        with_it = acked_with a t.end now h.with_it;
        joined = h.joined;
        stands = λ z. acked_stands t.end now plan t.left c.sent c.accepted (h.stands z);
      }
  hear_attempt (heard.Answer got ack) n = answer_by (awaits t.end && suits t.left got) got ack refl
  hear_attempt (heard.Again ack) n =
      record {
        end_is = ap (λ z. client_stayed z now) h.end_is;
        owed_is = ap (λ z. with_reply z ack) h.owed_is;
        flies = h.flies;
        fits = stayed_fits t.end t.flying now h.fits;
        with_it = stayed_with a t.end now h.with_it;
        joined = h.joined;
        stands = λ z. stayed_stands t.end now plan t.left c.sent c.accepted (h.stands z);
      }
  hear_attempt (heard.Nak nak) n =
      record {
        end_is = ap (λ z. client_stayed z now) h.end_is;
        owed_is = ap (λ z. with_reply z nak) h.owed_is;
        flies = h.flies;
        fits = stayed_fits t.end t.flying now h.fits;
        with_it = stayed_with a t.end now h.with_it;
        joined = h.joined;
        stands = λ z. stayed_stands t.end now plan t.left c.sent c.accepted (h.stands z);
      }
  hear_attempt (heard.Closed None) n = tt
  hear_attempt (heard.Closed (Some disconnect)) n =
      record {
        end_is = refl;
        owed_is = refl;
        flies = h.flies;
        fits = ended_fits t.end refl;
        with_it = tt;
        joined = h.joined;
        stands = λ z. absurd (cc);
      }
    where
      ended_fits : (end : ClientEnd) → t.end ≡ end → FlyFits Ended t.flying
      ended_fits (Asked device) e = absurd (let z : heard.Closed (Some disconnect) ≡ heard.Dropped = n device e in cc)
      ended_fits (Up s) e = subst (λ z. FlyFits z t.flying) e h.fits
      ended_fits (Asking s q) e = (subst (λ z. FlyFits z t.flying) e h.fits).0
      ended_fits (Awaiting s) e = subst (λ z. FlyFits z t.flying) e h.fits
      ended_fits Ended e = subst (λ z. FlyFits z t.flying) e h.fits
