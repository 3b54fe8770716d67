-- What the record says of a session of a job, and what it says of the job's attempt.
use Rattle.std.proofs.Common.{◌≡◌, ℕ, suc, ◌≤◌, List, [], ◌∷◌, reverse, Bool, true, false, Option, Some, None, refl, sym, ◌∙◌, ap, subst, arith, append-nil}
use Rattle.knx_model.specs.declared.address.IndAddr.{IndAddr}
use Rattle.knx_model.specs.declared.connection.TransportFrame.{TransportFrame}
use Rattle.knx_model.specs.declared.connection.TransportFrame.TheVariants.{Connect, Numbered}
use Rattle.knx_model.specs.declared.frames.cemi.Ldata.{Ldata}
use Rattle.knx_model.specs.declared.frames.cemi.LdataCode.{LdataCode}
use Rattle.knx_model.specs.declared.frames.cemi.LdataCode.TheVariants.{Req, Con, Ind}
use Rattle.knx_model.specs.ClientConnection.{ClientEnd, Asked, Up, Asking, Awaiting, Ended}
use Rattle.knx_model.specs.Connection.{Session}
use Rattle.knx_model.specs.Plans.{Plan, Over, Asks as Operation}
use Rattle.line_model.specs.Attempts.{Attempt, Attempts, Resting, Running, awaits, attempts}
use Rattle.line_model.specs.ClientView.{Deed, Puts, Takes, Loses, Nothing}
use Rattle.line_model.specs.Moments.{Moment, where_is, error_of, confirmation_in, is_from, transport_of, put_to, heard_from, Number, number, is_loss, stretches, Course, Unconfirmed, WithError, InSession, Left, course, session, acknowledged, answers}
use Rattle.line_model.specs.Progress.{Reaches}
use Rattle.line_model.specs.Reading.{ldata_in, is_con, is_ind}
use Rattle.line_model.specs.Told.{last_stretch, WentThrough}
use Rattle.line_law.proofs.Reaching.{same_left, no_further}
use Rattle.line_law.proofs.Counts.{NumberIs, LeftIs, Count, CountIs}

-- ---- what a moment is to a device

pub data Kind (a : ℕ) (what : Deed) : Type 0 where
  Lost : is_loss what ≡ true → put_to a what ≡ None → confirmation_in what ≡ None → heard_from a what ≡ None → Kind a what
  Plain : is_loss what ≡ false → put_to a what ≡ None → confirmation_in what ≡ None → heard_from a what ≡ None → Kind a what
  Put : (x : TransportFrame) → is_loss what ≡ false → put_to a what ≡ Some x → confirmation_in what ≡ None → heard_from a what ≡ None → Kind a what
  Confirmed : (error : Bool) → is_loss what ≡ false → put_to a what ≡ None → confirmation_in what ≡ Some error → heard_from a what ≡ None → Kind a what
  Hears : (y : TransportFrame) → is_loss what ≡ false → put_to a what ≡ None → confirmation_in what ≡ None → heard_from a what ≡ Some y → Kind a what

puts_kind : (a : ℕ) (content : List ℕ) (o : Option TransportFrame) → put_to a (Puts content) ≡ o → Kind a (Puts content)
puts_kind a content None e = Plain refl e refl refl
puts_kind a content (Some x) e = Put x refl e refl refl

takes_heard : (a : ℕ) (content : List ℕ) (o : Option TransportFrame) → confirmation_in (Takes content) ≡ None → heard_from a (Takes content) ≡ o → Kind a (Takes content)
takes_heard a content None c e = Plain refl refl c e
takes_heard a content (Some y) c e = Hears y refl refl c e

takes_code : (a : ℕ) (content : List ℕ) (f : Ldata) (code : LdataCode) → ldata_in content ≡ Some f → f.code ≡ code → Kind a (Takes content)
takes_code a content f Con e k = Confirmed f.error refl refl (ap (λ o. error_of (where_is (λ (x : Ldata). is_con x.code) o)) e ∙ rw k refl) (ap (λ o. transport_of (where_is (is_from a) (where_is (λ (x : Ldata). is_ind x.code) o))) e ∙ rw k refl)
takes_code a content f Ind e k = takes_heard a content (heard_from a (Takes content)) (ap (λ o. error_of (where_is (λ (x : Ldata). is_con x.code) o)) e ∙ rw k refl) refl
takes_code a content f Req e k = takes_heard a content (heard_from a (Takes content)) (ap (λ o. error_of (where_is (λ (x : Ldata). is_con x.code) o)) e ∙ rw k refl) refl

takes_kind : (a : ℕ) (content : List ℕ) (o : Option Ldata) → ldata_in content ≡ o → Kind a (Takes content)
takes_kind a content None e = takes_heard a content (heard_from a (Takes content)) (ap (λ o. error_of (where_is (λ (x : Ldata). is_con x.code) o)) e) refl
takes_kind a content (Some f) e = takes_code a content f f.code e refl

pub kind : (a : ℕ) (what : Deed) → Kind a what
kind a (Puts content) = puts_kind a content (put_to a (Puts content)) refl
kind a (Takes content) = takes_kind a content (ldata_in content) refl
kind a Loses = Lost refl refl refl refl
kind a Nothing = Plain refl refl refl refl

-- ---- an attempt that is done, and since when

abbrev pub DoneNow : Attempts → Type 0
DoneNow (Resting k) = ⊥
DoneNow (Running k t) = (t.closing ≡ false) × (p : Session) × (t.end ≡ Up p) × (t.left ≡ Over)

abbrev pub NotService : Option TransportFrame → Type 0
NotService (Some (Numbered n apdu)) = ⊥
NotService _ = Unit {0}

-- an attempt was done, and since then no service was put
pub data WasDone (a : ℕ) (device : IndAddr) (plan : Plan) : List Moment → Type 0 where
  Now : {l : List Moment} → DoneNow (attempts device plan l) → WasDone a device plan l
  Later : {m : Moment} {l : List Moment} → WasDone a device plan l → NotService (put_to a m.what) → WasDone a device plan (m ∷ l)

-- ---- where an attempt stands, by the course of its session

abbrev pub Begun : Plan → Attempts → Type 0
Begun plan (Resting k) = ⊥
Begun plan (Running k t) = (device : IndAddr) × (t.end ≡ Asked device) × (t.flying ≡ Some Connect) × (t.closing ≡ false) × (t.left ≡ plan)

abbrev pub Idle : Attempts → Type 0
Idle (Resting k) = Unit {0}
Idle (Running k t) = t.end ≡ Ended

abbrev pub AtRest : Attempts → Type 0
AtRest (Resting k) = Unit {0}
AtRest (Running k t) = ⊥

module _ (a : ℕ) (device : IndAddr) (plan : Plan) where
  abbrev pub CourseIs : Course → Attempts → List Moment → Type 0
  CourseIs Unconfirmed t l = Begun plan t
  CourseIs WithError t l = Unit {0}
  CourseIs (InSession s) t l = CountIs plan t (number a s) (acknowledged a s) (answers a s)
  CourseIs (Left s) t l = Idle t × (WentThrough a plan s → (plan ≡ Over → ⊥) → WasDone a device plan l)

  abbrev pub StretchIs : List (List Moment) → Attempts → List Moment → Type 0
  StretchIs [] t l = AtRest t
  StretchIs (s ∷ older) t l = CourseIs (course a s) t l

-- ---- a count of all operations is that of an attempt that is done

done_by : (plan left : Plan) (end : ClientEnd) (o : Number) (acked sent : ℕ) (ans : List (List ℕ)) → NumberIs end o acked sent → LeftIs (awaits end) plan left sent (reverse ans) → Reaches plan acked (reverse ans) Over → (p : Session) × (end ≡ Up p) × (left ≡ Over)
done_by plan left (Asked d) o acked sent ans n h r = absurd n
done_by plan left (Up p) o acked sent ans n h r = (p, refl, same_left plan sent (reverse ans) left Over h (subst (λ z. Reaches plan z (reverse ans) Over) n.1 r))
done_by plan left (Asking p q) o acked sent ans n h r = by_awaits q.awaits h where
  by_awaits : (b : Bool) → LeftIs b plan left sent (reverse ans) → (x : Session) × (Asking p q ≡ Up x) × (left ≡ Over)
  by_awaits true k =
      let last : suc k.before ≡ sent = k.last in
      let all : suc acked ≡ sent = n.1 in
      let same : acked ≡ k.before = omega arith in
      let e = same_left plan k.before (reverse ans) _ Over k.reaches (subst (λ z. Reaches plan z (reverse ans) Over) same r) in
      absurd (let z : Operation k.place k.apdu k.expect k.next ≡ Over = e in cc)
  by_awaits false k = absurd (no_further plan acked (reverse ans) Over left tt r (subst (λ z. Reaches plan z (reverse ans) left) (sym n.1) k))
done_by plan left (Awaiting p) o acked sent ans n h r =
    let last : suc h.before ≡ sent = h.last in
    let all : acked ≡ sent = n.1 in
    let same : acked ≡ suc h.before = omega arith in
    absurd (no_further plan h.before (reverse ans) (Operation h.place h.apdu h.expect h.next) Over h.answered h.reaches (subst (λ z. Reaches plan z (reverse ans) Over) same r))
done_by plan left Ended o acked sent ans n h r = absurd n

acked_least : (end : ClientEnd) (o : Number) (acked sent : ℕ) → NumberIs end o acked sent → acked ≤ sent
acked_least (Asked d) o acked sent n = absurd n
acked_least (Up p) o acked sent n = let e : acked ≡ sent = n.1 in omega arith
acked_least (Asking p q) o acked sent n = let e : suc acked ≡ sent = n.1 in omega arith
acked_least (Awaiting p) o acked sent n = let e : acked ≡ sent = n.1 in omega arith
acked_least Ended o acked sent n = absurd n

done_closing : (plan : Plan) (t : Attempt) (o : Number) (acked : ℕ) (ans : List (List ℕ)) (b : Bool) → t.closing ≡ b → Count plan t o acked ans → Reaches plan acked (reverse ans) Over → (t.closing ≡ false) × (p : Session) × (t.end ≡ Up p) × (t.left ≡ Over)
done_closing plan t o acked ans true e h r =
    absurd (h.spoilt e acked [] Over (acked_least t.end o acked h.sent h.number_is) (subst (λ z. Reaches plan acked z Over) (sym (append-nil (reverse ans))) r))
done_closing plan t o acked ans false e h r = let q = done_by plan t.left t.end o acked h.sent ans h.number_is (h.left_is e) r in (e, q.0, q.1, q.2)

pub done_now : (plan : Plan) (t : Attempts) (o : Number) (acked : ℕ) (ans : List (List ℕ)) → CountIs plan t o acked ans → Reaches plan acked (reverse ans) Over → DoneNow t
done_now plan (Resting k) o acked ans h r = absurd h
done_now plan (Running k t) o acked ans h r = done_closing plan t o acked ans t.closing refl h r

-- ---- so what went through was done

pub went_through : (a : ℕ) (device : IndAddr) (plan : Plan) (l : List Moment) → (plan ≡ Over → ⊥) → StretchIs a device plan (stretches a l) (attempts device plan l) l → WentThrough a plan (session (course a (last_stretch (stretches a l)))) → WasDone a device plan l
went_through a device plan l some h w = by_stretch (stretches a l) h w where
  nothing : Reaches plan 0 [] Over → WasDone a device plan l
  nothing r = absurd (some r)

  by_course : (c : Course) → CourseIs a device plan c (attempts device plan l) l → WentThrough a plan (session c) → WasDone a device plan l
  by_course Unconfirmed k r = nothing r
  by_course WithError k r = nothing r
  by_course (InSession s) k r = Now (done_now plan (attempts device plan l) (number a s) (acknowledged a s) (answers a s) k r)
  by_course (Left s) k r = k.1 r some

  by_stretch : (ss : List (List Moment)) → StretchIs a device plan ss (attempts device plan l) l → WentThrough a plan (session (course a (last_stretch ss))) → WasDone a device plan l
  by_stretch [] k r = nothing r
  by_stretch (s ∷ older) k r = by_course (course a s) k r
