-- How the record's count of a session stands beside its attempt.
use Rattle.std.proofs.Common.{◌≡◌, ℕ, suc, ◌%◌, ◌<◌, ◌≤◌, List, ◌∷◌, ◌++◌, reverse, length, Bool, true, false, not, ◌&&◌, cond, Option, Some, refl, sym, ◌∙◌, ap, subst, arith, if◌then◌else◌}
use Rattle.std.specs.Prelude.{◌==◌}
use Rattle.std.proofs.lemmas.Bool.{not-false}
use Rattle.knx_model.specs.declared.connection.ClientTook.{ClientTook}
use Rattle.knx_model.specs.declared.connection.ClientTook.TheVariants as heard
use Rattle.knx_model.specs.declared.connection.TransportFrame.{TransportFrame}
use Rattle.knx_model.specs.declared.connection.TransportFrame.TheVariants.{Connect, Disconnect, Ack, Nak, Numbered, Other}
use Rattle.knx_model.specs.declared.plan.Expect.{Expect}
use Rattle.knx_model.specs.ClientConnection.{ClientEnd, Asked, Up, Asking, Awaiting, Ended, Question, client_took, up_took, asking_took, client_stayed, client_acknowledged}
use Rattle.knx_model.specs.Connection.{Session, frame_in, next_number, acknowledged}
use Rattle.knx_model.specs.GoodPlan.{awaits_answer}
use Rattle.knx_model.specs.Plans.{Plan, Asks as Operation}
use Rattle.line_model.specs.Attempts.{Attempt, Attempts, Resting, Running, awaits}
use Rattle.line_model.specs.Moments.{Number, Next, Outstanding, number_heard, closes_by, is_acknowledged, answer_expected}
use Rattle.line_model.specs.Progress.{Reaches}
use Rattle.line_law.proofs.Reaching.{Texts}

-- ---- counts

abbrev pub NumberIs : ClientEnd → Number → ℕ → ℕ → Type 0
NumberIs (Asked device) o acked sent = ⊥
NumberIs (Up p) o acked sent = (o ≡ Next p.number) × (acked ≡ sent) × (p.number < 16)
NumberIs (Asking p q) o acked sent = (o ≡ Outstanding p.number) × (suc acked ≡ sent) × (p.number < 16) × (apdu : List ℕ) × (frame_in q.frame ≡ Numbered p.number apdu)
NumberIs (Awaiting p) o acked sent = (o ≡ Next p.number) × (acked ≡ sent) × (p.number < 16)
NumberIs Ended o acked sent = ⊥

abbrev pub ExpectedIs : ClientEnd → ℕ → Type 0
ExpectedIs (Asked device) n = Unit {0}
ExpectedIs (Up p) n = p.expected ≡ n % 16
ExpectedIs (Asking p q) n = p.expected ≡ n % 16
ExpectedIs (Awaiting p) n = p.expected ≡ n % 16
ExpectedIs Ended n = Unit {0}

pub record AwaitsOne (plan left : Plan) (sent : ℕ) (answers : Texts) : Type 0 where
  pub apdu : List ℕ
  pub place : ℕ
  pub expect : Expect
  pub next : Option (List ℕ) → Plan
  pub before : ℕ
  pub head : left ≡ Operation place apdu expect next
  pub answered : awaits_answer expect ≡ true
  pub last : suc before ≡ sent
  pub reaches : Reaches plan before answers (Operation place apdu expect next)

abbrev pub LeftIs : Bool → Plan → Plan → ℕ → Texts → Type 0
LeftIs true plan left sent answers = AwaitsOne plan left sent answers
LeftIs false plan left sent answers = Reaches plan sent answers left

-- no beginning of the plan goes with these answers
abbrev pub Spoilt : Plan → ℕ → Texts → Type 0
Spoilt plan sent answers = (k : ℕ) (later : Texts) (y : Plan) → k ≤ sent → Reaches plan k (answers ++ later) y → ⊥

abbrev pub NotEnd : Option TransportFrame → Type 0
NotEnd (Some Connect) = ⊥
NotEnd (Some Disconnect) = ⊥
NotEnd _ = Unit {0}

pub record Count (plan : Plan) (t : Attempt) (o : Number) (acked : ℕ) (ans : Texts) : Type 0 where
  pub sent : ℕ
  pub number_is : NumberIs t.end o acked sent
  pub expected_is : ExpectedIs t.end (length ans)
  pub plain : NotEnd t.flying
  pub left_is : t.closing ≡ false → LeftIs (awaits t.end) plan t.left sent (reverse ans)
  pub spoilt : t.closing ≡ true → Spoilt plan sent (reverse ans)

abbrev pub CountIs : Plan → Attempts → Number → ℕ → Texts → Type 0
CountIs plan (Resting k) o acked ans = ⊥
CountIs plan (Running k t) o acked ans = Count plan t o acked ans

-- ---- what a frame does to the counts

pub data Effect (end : ClientEnd) (o : Number) (acked : ℕ) (ans : Texts) : ClientTook → Number → ℕ → Texts → Type 0 where
  Drops : Effect end o acked ans heard.Dropped o acked ans
  Agains : (ack : List ℕ) → Effect end o acked ans (heard.Again ack) o acked ans
  Naks : (nak : List ℕ) → Effect end o acked ans (heard.Nak nak) o acked ans
  Acks : (p : Session) (q : Question) → end ≡ Asking p q → Effect end o acked ans heard.Acked (Next (next_number p.number)) (suc acked) ans
  Answers : (got ack : List ℕ) → Effect end o acked ans (heard.Answer got ack) o acked (got ∷ ans)

pub data_by : (end : ClientEnd) (o : Number) (acked : ℕ) (ans : Texts) (b d : Bool) (got ack ack2 nak : List ℕ)
    → Effect end o acked ans (cond {A = ClientTook} b (heard.Answer got ack) (cond {A = ClientTook} d (heard.Again ack2) (heard.Nak nak))) o acked (cond {A = Texts} b (got ∷ ans) ans)
data_by end o acked ans true d got ack ack2 nak = Answers got ack
data_by end o acked ans false true got ack ack2 nak = Agains ack2
data_by end o acked ans false false got ack ack2 nak = Naks nak

pub numbered_effect : (end : ClientEnd) (p : Session) (o : Number) (acked : ℕ) (ans : Texts) (j : ℕ) (apdu : List ℕ) → p.expected ≡ length ans % 16 → Effect end o acked ans (up_took p (Numbered j apdu)) o acked (answer_expected (Some (Numbered j apdu)) (length ans) ans)
numbered_effect end p o acked ans j apdu e =
    subst (λ z. Effect end o acked ans (up_took p (Numbered j apdu)) o acked (cond {A = Texts} (j == z) (apdu ∷ ans) ans)) e (data_by end o acked ans (j == p.expected) (next_number j == p.expected) apdu _ _ _)

pub ack_dropped : (p : Session) (j : ℕ) (b : Bool) → (next_number j == p.number) ≡ b → b ≡ true → up_took p (Ack j) ≡ heard.Dropped
ack_dropped p j true e h = rw e refl
ack_dropped p j false e h = absurd (cc)

-- while no service is outstanding
pub up_effect : (end : ClientEnd) (p : Session) (acked : ℕ) (ans : Texts) (y : TransportFrame) → p.expected ≡ length ans % 16 → closes_by (Some y) (Next p.number) ≡ false
    → Effect end (Next p.number) acked ans (up_took p y) (number_heard (Some y) (Next p.number)) (if is_acknowledged (Some y) (Next p.number) then suc acked else acked) (answer_expected (Some y) (length ans) ans)
up_effect end p acked ans Connect e h = Drops
up_effect end p acked ans Disconnect e h = absurd (cc)
up_effect end p acked ans (Ack j) e h = subst (λ z. Effect end (Next p.number) acked ans z (Next p.number) acked ans) (sym (ack_dropped p j (next_number j == p.number) refl (not-false (next_number j == p.number) h))) Drops
up_effect end p acked ans (Nak j) e h = Drops
up_effect end p acked ans (Numbered j apdu) e h = numbered_effect end p (Next p.number) acked ans j apdu e
up_effect end p acked ans Other e h = Drops

-- while one is
pub own_ack : (p : Session) (q : Question) (acked : ℕ) (ans : Texts) (j : ℕ) (b : Bool) → (j == p.number) ≡ b → (not b && not (next_number j == p.number)) ≡ false
    → Effect (Asking p q) (Outstanding p.number) acked ans (if b then heard.Acked else up_took p (Ack j)) (if b then Next (next_number p.number) else Outstanding p.number) (if b then suc acked else acked) ans
own_ack p q acked ans j true e h = Acks p q refl
own_ack p q acked ans j false e h = subst (λ z. Effect (Asking p q) (Outstanding p.number) acked ans z (Outstanding p.number) acked ans) (sym (ack_dropped p j (next_number j == p.number) refl (not-false (next_number j == p.number) h))) Drops

pub asking_effect : (p : Session) (q : Question) (acked : ℕ) (ans : Texts) (y : TransportFrame) → p.expected ≡ length ans % 16 → closes_by (Some y) (Outstanding p.number) ≡ false
    → Effect (Asking p q) (Outstanding p.number) acked ans (asking_took p y) (number_heard (Some y) (Outstanding p.number)) (if is_acknowledged (Some y) (Outstanding p.number) then suc acked else acked) (answer_expected (Some y) (length ans) ans)
asking_effect p q acked ans Connect e h = Drops
asking_effect p q acked ans Disconnect e h = absurd (cc)
asking_effect p q acked ans (Ack j) e h = own_ack p q acked ans j (j == p.number) refl h
asking_effect p q acked ans (Nak j) e h = Drops
asking_effect p q acked ans (Numbered j apdu) e h = numbered_effect (Asking p q) p (Outstanding p.number) acked ans j apdu e
asking_effect p q acked ans Other e h = Drops

pub heard_effect : (end : ClientEnd) (y : TransportFrame) (o : Number) (acked sent : ℕ) (ans : Texts) → NumberIs end o acked sent → ExpectedIs end (length ans) → closes_by (Some y) o ≡ false
    → Effect end o acked ans (client_took end y) (number_heard (Some y) o) (if is_acknowledged (Some y) o then suc acked else acked) (answer_expected (Some y) (length ans) ans)
unfolding client_took
heard_effect (Asked device) y o acked sent ans n e h = absurd n
heard_effect (Up p) y o acked sent ans n e h =
    subst (λ z. Effect (Up p) z acked ans (up_took p y) (number_heard (Some y) z) (if is_acknowledged (Some y) z then suc acked else acked) (answer_expected (Some y) (length ans) ans)) (sym n.0) (up_effect (Up p) p acked ans y e (ap (closes_by (Some y)) (sym n.0) ∙ h))
heard_effect (Asking p q) y o acked sent ans n e h =
    subst (λ z. Effect (Asking p q) z acked ans (asking_took p y) (number_heard (Some y) z) (if is_acknowledged (Some y) z then suc acked else acked) (answer_expected (Some y) (length ans) ans)) (sym n.0) (asking_effect p q acked ans y e (ap (closes_by (Some y)) (sym n.0) ∙ h))
heard_effect (Awaiting p) y o acked sent ans n e h =
    subst (λ z. Effect (Awaiting p) z acked ans (up_took p y) (number_heard (Some y) z) (if is_acknowledged (Some y) z then suc acked else acked) (answer_expected (Some y) (length ans) ans)) (sym n.0) (up_effect (Awaiting p) p acked ans y e (ap (closes_by (Some y)) (sym n.0) ∙ h))
heard_effect Ended y o acked sent ans n e h = absurd n

-- ---- the counts go on

pub stayed_number : (end : ClientEnd) (o : Number) (acked sent t : ℕ) → NumberIs end o acked sent → NumberIs (client_stayed end t) o acked sent
stayed_number (Asked device) o acked sent t h = h
stayed_number (Up p) o acked sent t h = h
stayed_number (Asking p q) o acked sent t h = h
stayed_number (Awaiting p) o acked sent t h = h
stayed_number Ended o acked sent t h = h

pub stayed_expected : (end : ClientEnd) (n t : ℕ) → ExpectedIs end n → ExpectedIs (client_stayed end t) n
stayed_expected (Asked device) n t h = h
stayed_expected (Up p) n t h = h
stayed_expected (Asking p q) n t h = h
stayed_expected (Awaiting p) n t h = h
stayed_expected Ended n t h = h

pub stayed_awaits : (end : ClientEnd) (t : ℕ) → awaits (client_stayed end t) ≡ awaits end
stayed_awaits (Asked device) t = refl
stayed_awaits (Up p) t = refl
stayed_awaits (Asking p q) t = refl
stayed_awaits (Awaiting p) t = refl
stayed_awaits Ended t = refl

-- its end stays, but for the time
pub stayed_count : (plan : Plan) (t : Attempt) (o : Number) (acked now : ℕ) (ans owed : Texts) (flying : Option TransportFrame) → NotEnd flying → Count plan t o acked ans → Count plan (record t { end = client_stayed t.end now; owed = owed; flying = flying }) o acked ans
stayed_count plan t o acked now ans owed flying p h =
    record {
      sent = h.sent;
      number_is = stayed_number t.end o acked h.sent now h.number_is;
      expected_is = stayed_expected t.end (length ans) now h.expected_is;
      plain = p;
      left_is = λ q. subst (λ b. LeftIs b plan t.left h.sent (reverse ans)) (sym (stayed_awaits t.end now)) (h.left_is q);
      spoilt = h.spoilt;
    }

pub acked_by : (p : Session) (q : Question) (b : Bool) (o : Number) (acked sent now : ℕ) → q.awaits ≡ b → suc acked ≡ sent → p.number < 16 → NumberIs (cond b (Awaiting (acknowledged p now)) (Up (acknowledged p now))) (Next (next_number p.number)) (suc acked) sent
acked_by p q true o acked sent now e h lt = (refl, h, omega arith)
acked_by p q false o acked sent now e h lt = (refl, h, omega arith)

pub acked_expected : (p : Session) (b : Bool) (n now : ℕ) → p.expected ≡ n % 16 → ExpectedIs (cond b (Awaiting (acknowledged p now)) (Up (acknowledged p now))) n
acked_expected p true n now h = h
acked_expected p false n now h = h

pub acked_awaits : (p : Session) (b : Bool) (now : ℕ) → awaits (cond b (Awaiting (acknowledged p now)) (Up (acknowledged p now))) ≡ b
acked_awaits p true now = refl
acked_awaits p false now = refl

pub acked_count : (plan : Plan) (t : Attempt) (o : Number) (acked now : ℕ) (ans : Texts) (p : Session) (q : Question) → t.end ≡ Asking p q → Count plan t o acked ans → Count plan (record t { end = client_acknowledged t.end now }) (Next (next_number p.number)) (suc acked) ans
acked_count plan t o acked now ans p q e h =
    let n : NumberIs (Asking p q) o acked h.sent = subst (λ z. NumberIs z o acked h.sent) e h.number_is in
    let x : ExpectedIs (Asking p q) (length ans) = subst (λ z. ExpectedIs z (length ans)) e h.expected_is in
    record {
      sent = h.sent;
      number_is = subst (λ z. NumberIs (client_acknowledged z now) (Next (next_number p.number)) (suc acked) h.sent) (sym e) (acked_by p q q.awaits o acked h.sent now refl n.1 n.2);
      expected_is = subst (λ z. ExpectedIs (client_acknowledged z now) (length ans)) (sym e) (acked_expected p q.awaits (length ans) now x);
      plain = h.plain;
      left_is = λ k. subst (λ z. LeftIs (awaits (client_acknowledged z now)) plan t.left h.sent (reverse ans)) (sym e)
          (subst (λ b. LeftIs b plan t.left h.sent (reverse ans)) (sym (acked_awaits p q.awaits now)) (subst (λ z. LeftIs (awaits z) plan t.left h.sent (reverse ans)) e (h.left_is k)));
      spoilt = h.spoilt;
    }
