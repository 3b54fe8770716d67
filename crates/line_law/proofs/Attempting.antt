-- The attempt of a job, as the record shows it, and the session's client: while an attempt runs they are the same.
use Rattle.std.proofs.Common.{◌≡◌, ℕ, List, ◌∷◌, Bool, true, false, Option, Some, None, refl, sym, ◌∙◌, ap, subst}
use Rattle.std.specs.Prelude.{is_some}
use Rattle.knx_model.specs.declared.address.IndAddr.{IndAddr}
use Rattle.knx_model.specs.declared.connection.ClientConfirmed.TheVariants as told
use Rattle.knx_model.specs.declared.connection.TransportFrame.{TransportFrame}
use Rattle.knx_model.specs.declared.connection.TransportFrame.TheVariants.{Connect, Disconnect, Ack, Nak, Numbered, Other}
use Rattle.knx_model.specs.declared.plan.Expect.{Expect}
use Rattle.knx_model.specs.ClientConnection.{ClientEnd, Asked, Up, Asking, Awaiting, Ended, Question, client_confirmed, after_confirmed, wait_begun}
use Rattle.knx_model.specs.Connection.{Session}
use Rattle.knx_model.specs.Plans.{Plan, Asks as Operation}
use Rattle.line_model.specs.Attempts.{Attempt, Attempts, Resting, Running, confirmed_attempt, landed}
use Rattle.session_law.specs.World.{Client}
use Rattle.session_law.specs.Client.{confirmed}
use Rattle.load_law.specs.Download.{Went, NotBegun}

-- ---- where an attempt stands in its plan

abbrev pub NotConnect : Option TransportFrame → Type 0
NotConnect (Some Connect) = ⊥
NotConnect _ = Unit {0}

abbrev pub IsService : Option TransportFrame → Type 0
IsService (Some (Numbered n apdu)) = Unit {0}
IsService _ = ⊥

-- which frame may be in flight
abbrev pub FlyFits : ClientEnd → Option TransportFrame → Type 0
FlyFits (Asked device) flying = flying ≡ Some Connect
FlyFits (Up s) flying = NotConnect flying
FlyFits (Asking s q) flying = NotConnect flying × (q.confirmed ≡ None → IsService flying)
FlyFits (Awaiting s) flying = NotConnect flying
FlyFits Ended flying = NotConnect flying

-- an operation whose answer is awaited, at the plan's head
pub record IsAwaited (plan left : Plan) (sent accepted : List (List ℕ)) : Type 0 where
  pub apdu : List ℕ
  pub older : List (List ℕ)
  pub place : ℕ
  pub expect : Expect
  pub next : Option (List ℕ) → Plan
  pub last : sent ≡ apdu ∷ older
  pub head : left ≡ Operation place apdu expect next
  pub went : Went plan older accepted (Operation place apdu expect next)

abbrev pub Stands : Bool → Plan → Plan → List (List ℕ) → List (List ℕ) → Type 0
Stands true plan left sent accepted = IsAwaited plan left sent accepted
Stands false plan left sent accepted = Went plan sent accepted left

abbrev pub InPlan : ClientEnd → Plan → Plan → List (List ℕ) → List (List ℕ) → Type 0
InPlan (Asked device) plan left sent accepted = left ≡ plan
InPlan (Up s) plan left sent accepted = Stands false plan left sent accepted
InPlan (Asking s q) plan left sent accepted = Stands q.awaits plan left sent accepted
InPlan (Awaiting s) plan left sent accepted = Stands true plan left sent accepted
InPlan Ended plan left sent accepted = ⊥

abbrev pub IsWith : ℕ → ClientEnd → Type 0
IsWith a (Asked device) = device.raw ≡ a
IsWith a (Up s) = s.partner.raw ≡ a
IsWith a (Asking s q) = s.partner.raw ≡ a
IsWith a (Awaiting s) = s.partner.raw ≡ a
IsWith a Ended = Unit {0}

pub record Runs (a : ℕ) (plan : Plan) (t : Attempt) (c : Client) : Type 0 where
  pub end_is : t.end ≡ c.end
  pub owed_is : t.owed ≡ c.owed
  pub flies : is_some t.flying ≡ c.pending
  pub fits : FlyFits t.end t.flying
  pub with_it : IsWith a t.end
  pub joined : c.joined ≡ true
  pub stands : t.closing ≡ false → InPlan t.end plan t.left c.sent c.accepted

abbrev pub AttemptIs : ℕ → Plan → Attempts → Client → Type 0
AttemptIs a plan (Resting k) c = Unit {0}
AttemptIs a plan (Running k t) c = Runs a plan t c

-- ---- a confirmation

-- the question's wait has begun
waits_on : (s : Session) (q : Question) (t : ℕ) (flying : Option TransportFrame) → (q.confirmed ≡ None → IsService flying) → (IsService flying → ⊥) → after_confirmed (Asking s q) false t ≡ Asking s q
unfolding after_confirmed
waits_on s q t flying h n = by_wait q.confirmed refl where
  by_wait : (o : Option ℕ) → q.confirmed ≡ o → Asking s (record q { confirmed = wait_begun q.confirmed t }) ≡ Asking s q
  by_wait None e = absurd (n (h e))
  by_wait (Some x) e = rw e refl

-- a confirmation of no service changes nothing of an end that is up
con_same : (end : ClientEnd) (error : Bool) (t : ℕ) (flying : Option TransportFrame) → FlyFits end flying → (IsService flying → ⊥) → NotConnect flying → after_confirmed end error t ≡ end
unfolding after_confirmed
con_same (Asked device) error t flying h n c = absurd (let e : NotConnect (Some Connect) = subst NotConnect h c in e)
con_same (Up s) error t flying h n c = refl
con_same (Asking s q) error t flying h n c = waits_on s q t flying h.1 n
con_same (Awaiting s) error t flying h n c = refl
con_same Ended error t flying h n c = refl

con_timed : (end : ClientEnd) (error : Bool) (flying : Option TransportFrame) → FlyFits end flying → NotConnect flying → client_confirmed end error ≡ told.Timed
unfolding client_confirmed
con_timed (Asked device) error flying h c = absurd (let e : NotConnect (Some Connect) = subst NotConnect h c in e)
con_timed (Up s) error flying h c = refl
con_timed (Asking s q) error flying h c = refl
con_timed (Awaiting s) error flying h c = refl
con_timed Ended error flying h c = refl

-- nothing was in flight, so nothing changes but that nothing is
pub con_none : (a : ℕ) (plan : Plan) (t : Attempt) (c : Client) (error : Bool) (now : ℕ) → t.flying ≡ None → Runs a plan t c → Runs a plan t (confirmed c error now)
con_none a plan t c error now e h =
    let fits : FlyFits c.end None = subst (λ z. FlyFits z None) h.end_is (subst (FlyFits t.end) e h.fits) in
    let end : after_confirmed c.end error now ≡ c.end = con_same c.end error now None fits (λ z. z) tt in
    let timed : client_confirmed c.end error ≡ told.Timed = con_timed c.end error None fits tt in
    record {
      end_is = h.end_is ∙ sym end;
      owed_is = h.owed_is;
      flies = ap is_some e;
      fits = h.fits;
      with_it = h.with_it;
      joined = h.joined;
      stands = λ k. rw timed (h.stands k);
    }

-- a frame that is neither a T_Connect nor a service has landed
con_plain : (a : ℕ) (plan : Plan) (t : Attempt) (c : Client) (error : Bool) (now : ℕ) → NotConnect t.flying → (IsService t.flying → ⊥) → Runs a plan t c → Runs a plan (landed t) (confirmed c error now)
con_plain a plan t c error now n k h =
    let fits : FlyFits c.end t.flying = subst (λ z. FlyFits z t.flying) h.end_is h.fits in
    let end : after_confirmed c.end error now ≡ c.end = con_same c.end error now t.flying fits k n in
    let timed : client_confirmed c.end error ≡ told.Timed = con_timed c.end error t.flying fits n in
    record {
      end_is = h.end_is ∙ sym end;
      owed_is = h.owed_is;
      flies = refl;
      fits = landed_fits t.end t.flying h.fits k n;
      with_it = h.with_it;
      joined = h.joined;
      stands = λ q. rw timed (h.stands q);
    }
  where
    landed_fits : (end : ClientEnd) (flying : Option TransportFrame) → FlyFits end flying → (IsService flying → ⊥) → NotConnect flying → FlyFits end None
    landed_fits (Asked device) flying f no_service no_connect = absurd (let e : NotConnect (Some Connect) = subst NotConnect f no_connect in e)
    landed_fits (Up s) flying f no_service no_connect = tt
    landed_fits (Asking s q) flying f no_service no_connect = (tt, λ e. no_service (f.1 e))
    landed_fits (Awaiting s) flying f no_service no_connect = tt
    landed_fits Ended flying f no_service no_connect = tt

begun : (o : Option ℕ) (t : ℕ) → wait_begun o t ≡ None → ⊥
begun None t e = cc
begun (Some x) t e = cc

service_fits : (end : ClientEnd) (flying : Option TransportFrame) (error : Bool) (now : ℕ) → NotConnect flying → FlyFits end flying → FlyFits (after_confirmed end error now) None
unfolding after_confirmed
service_fits (Asked device) flying error now n f = absurd (let e : NotConnect (Some Connect) = subst NotConnect f n in e)
service_fits (Up s) flying error now n f = tt
service_fits (Asking s q) flying error now n f = (tt, λ e. absurd (begun q.confirmed now e))
service_fits (Awaiting s) flying error now n f = tt
service_fits Ended flying error now n f = tt

service_with : (a : ℕ) (end : ClientEnd) (flying : Option TransportFrame) (error : Bool) (now : ℕ) → NotConnect flying → FlyFits end flying → IsWith a end → IsWith a (after_confirmed end error now)
unfolding after_confirmed
service_with a (Asked device) flying error now n f w = absurd (let e : NotConnect (Some Connect) = subst NotConnect f n in e)
service_with a (Up s) flying error now n f w = w
service_with a (Asking s q) flying error now n f w = w
service_with a (Awaiting s) flying error now n f w = w
service_with a Ended flying error now n f w = tt

service_stands : (end : ClientEnd) (flying : Option TransportFrame) (error : Bool) (now : ℕ) (plan left : Plan) (sent accepted : List (List ℕ)) → NotConnect flying → FlyFits end flying → InPlan end plan left sent accepted → InPlan (after_confirmed end error now) plan left sent accepted
unfolding after_confirmed
service_stands (Asked device) flying error now plan left sent accepted n f p = absurd (let e : NotConnect (Some Connect) = subst NotConnect f n in e)
service_stands (Up s) flying error now plan left sent accepted n f p = p
service_stands (Asking s q) flying error now plan left sent accepted n f p = p
service_stands (Awaiting s) flying error now plan left sent accepted n f p = p
service_stands Ended flying error now plan left sent accepted n f p = p

-- a service has
con_service : (a : ℕ) (plan : Plan) (t : Attempt) (c : Client) (error : Bool) (now : ℕ) → NotConnect t.flying → Runs a plan t c → Runs a plan (landed (record t { end = after_confirmed t.end error now })) (confirmed c error now)
con_service a plan t c error now n h =
    let timed : client_confirmed c.end error ≡ told.Timed = con_timed c.end error t.flying (subst (λ z. FlyFits z t.flying) h.end_is h.fits) n in
    record {
      end_is = ap (λ z. after_confirmed z error now) h.end_is;
      owed_is = h.owed_is;
      flies = refl;
      fits = service_fits t.end t.flying error now n h.fits;
      with_it = service_with a t.end t.flying error now n h.fits h.with_it;
      joined = h.joined;
      stands = λ q. rw timed (service_stands t.end t.flying error now plan t.left c.sent c.accepted n h.fits (h.stands q));
    }

-- a T_Connect has, without error: the session begins
con_connect : (a : ℕ) (plan : Plan) (t : Attempt) (c : Client) (now : ℕ) (device : IndAddr) → t.end ≡ Asked device → Runs a plan t c → Runs a plan (landed (record t { end = after_confirmed t.end false now })) (confirmed c false now)
unfolding after_confirmed client_confirmed
con_connect a plan t c now device e h =
    let same : c.end ≡ Asked device = sym h.end_is ∙ e in
    let with_it : device.raw ≡ a = subst (IsWith a) e h.with_it in
    record {
      end_is = ap (λ z. after_confirmed z false now) h.end_is;
      owed_is = h.owed_is;
      flies = refl;
      fits = rw e tt;
      with_it = rw e with_it;
      joined = h.joined;
      stands = λ q. (let left : t.left ≡ plan = subst (λ z. InPlan z plan t.left c.sent c.accepted) e (h.stands q) in rw e (rw same (rw left NotBegun)));
    }

asked_end : (end : ClientEnd) → FlyFits end (Some Connect) → (device : IndAddr) × (end ≡ Asked device)
asked_end (Asked device) h = (device, refl)
asked_end (Up s) h = absurd h
asked_end (Asking s q) h = absurd h.0
asked_end (Awaiting s) h = absurd h
asked_end Ended h = absurd h

-- whatever was in flight
pub con_attempt : (a : ℕ) (plan : Plan) (k : ℕ) (t : Attempt) (c : Client) (error : Bool) (now : ℕ) (flying : Option TransportFrame) → t.flying ≡ flying → Runs a plan t c → AttemptIs a plan (confirmed_attempt k t now error flying) (confirmed c error now)
con_attempt a plan k t c error now None e h = con_none a plan t c error now e h
con_attempt a plan k t c true now (Some Connect) e h = tt
con_attempt a plan k t c false now (Some Connect) e h = let q = asked_end t.end (subst (FlyFits t.end) e h.fits) in con_connect a plan t c now q.0 q.1 h
con_attempt a plan k t c error now (Some Disconnect) e h = tt
con_attempt a plan k t c error now (Some (Numbered n apdu)) e h = con_service a plan t c error now (subst NotConnect (sym e) tt) h
con_attempt a plan k t c error now (Some (Ack n)) e h = con_plain a plan t c error now (subst NotConnect (sym e) tt) (λ z. subst IsService e z) h
con_attempt a plan k t c error now (Some (Nak n)) e h = con_plain a plan t c error now (subst NotConnect (sym e) tt) (λ z. subst IsService e z) h
con_attempt a plan k t c error now (Some Other) e h = con_plain a plan t c error now (subst NotConnect (sym e) tt) (λ z. subst IsService e z) h
