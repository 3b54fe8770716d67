-- Each moment keeps what the record says of a session with what it says of the attempt.
use Rattle.std.proofs.Common.{◌≡◌, ℕ, zero, suc, ◌+◌, ◌%◌, List, [], ◌∷◌, reverse, length, Bool, true, false, not, ◌&&◌, cond, Option, Some, None, refl, sym, ◌∙◌, ap, subst, inl, inr, arith, if◌then◌else◌}
use Rattle.std.specs.Prelude.{◌==◌, nat_le, nat_lt}
use Rattle.std.proofs.lemmas.Bool.{not-true, and_parts}
use Rattle.knx_model.specs.declared.connection.ClientTook.{ClientTook}
use Rattle.knx_model.specs.declared.connection.ClientTook.TheVariants as heard
use Rattle.knx_model.specs.declared.connection.ClientExpired.TheVariants as over
use Rattle.knx_model.specs.declared.connection.TransportFrame.{TransportFrame}
use Rattle.knx_model.specs.declared.connection.TransportFrame.TheVariants.{Connect, Disconnect, Ack, Nak, Numbered, Other}
use Rattle.knx_model.specs.declared.frames.tpdu.Tpdu.{Tpdu}
use Rattle.knx_model.specs.declared.frames.tpdu.Tpdu.TheVariants as tpdu
use Rattle.knx_model.specs.declared.plan.Expect.{Expect}
use Rattle.knx_model.specs.declared.plan.Expect.TheVariants.{AckOnly, Is, Note}
use Rattle.knx_model.specs.Apdu.{most_octets}
use Rattle.knx_model.specs.ClientConnection.{client_asked, question_overdue, question_expired, ClientEnd, Asked, Up, Asking, Awaiting, Ended, Question, client_took, up_took, asking_took, client_sent, after_send, client_expired, after_overdue, client_repeated, has_answer}
use Rattle.knx_model.specs.Connection.{ack_wait, idle_wait, most_repeats, has_passed, Session, IsApdu, control_frame, disconnect, frame_in, next_number, numbered_data}
use Rattle.knx_model.specs.GoodPlan.{IsSendable, awaits_answer}
use Rattle.knx_model.specs.Plans.{Plan, Over, Asks as Operation}
use Rattle.line_model.specs.Attempts.{Attempt, awaits, sent_of, sends_numbered, heard_attempt, MayAsk, IsNext, IsRepeat}
use Rattle.line_model.specs.Moments.{Number, Next, Outstanding, closes_by, is_acknowledged, answer_expected}
use Rattle.line_model.specs.Progress.{Reaches}
use Rattle.session_law.proofs.Frames.{numbered_read}
use Rattle.line_law.proofs.Reaching.{acknowledged_one}
use Rattle.line_law.proofs.Counts.{NumberIs, ExpectedIs, LeftIs, Count}
use Rattle.line_law.proofs.Courses.{Idle}

-- ---- what closes a session closes the attempt

closed_by : (p : Session) (j : ℕ) (b : Bool) → (next_number j == p.number) ≡ b → b ≡ false → up_took p (Ack j) ≡ heard.Closed (Some disconnect)
closed_by p j true e h = absurd (cc)
closed_by p j false e h = rw e refl

-- nothing is counted with it
pub record Closes (o : Number) (y : TransportFrame) (acked : ℕ) (ans : List (List ℕ)) (took : ClientTook) : Type 0 where
  pub close : Option (List ℕ)
  pub is : took ≡ heard.Closed close
  pub uncounted : (if is_acknowledged (Some y) o then suc acked else acked) ≡ acked
  pub unanswered : answer_expected (Some y) (length ans) ans ≡ ans

up_closes : (p : Session) (y : TransportFrame) (acked : ℕ) (ans : List (List ℕ)) → closes_by (Some y) (Next p.number) ≡ true → Closes (Next p.number) y acked ans (up_took p y)
up_closes p Connect acked ans h = absurd (cc)
up_closes p Disconnect acked ans h = record { close = None; is = refl; uncounted = refl; unanswered = refl }
up_closes p (Ack j) acked ans h = record { close = Some _; is = closed_by p j (next_number j == p.number) refl (not-true (next_number j == p.number) h); uncounted = refl; unanswered = refl }
up_closes p (Nak j) acked ans h = absurd (cc)
up_closes p (Numbered j apdu) acked ans h = absurd (cc)
up_closes p Other acked ans h = absurd (cc)

asking_closes : (p : Session) (y : TransportFrame) (acked : ℕ) (ans : List (List ℕ)) → closes_by (Some y) (Outstanding p.number) ≡ true → Closes (Outstanding p.number) y acked ans (asking_took p y)
asking_closes p Connect acked ans h = absurd (cc)
asking_closes p Disconnect acked ans h = record { close = None; is = refl; uncounted = refl; unanswered = refl }
asking_closes p (Ack j) acked ans h =
    let q = and_parts (not (j == p.number)) (not (next_number j == p.number)) h in
    let other : (j == p.number) ≡ false = not-true (j == p.number) q.0 in
    record {
      close = Some _;
      is = ap (λ b. cond {A = ClientTook} b heard.Acked (up_took p (Ack j))) other ∙ closed_by p j (next_number j == p.number) refl (not-true (next_number j == p.number) q.1);
      uncounted = ap (λ b. cond {A = ℕ} b (suc acked) acked) other;
      unanswered = refl;
    }
asking_closes p (Nak j) acked ans h = absurd (cc)
asking_closes p (Numbered j apdu) acked ans h = absurd (cc)
asking_closes p Other acked ans h = absurd (cc)

pub end_closes : (end : ClientEnd) (y : TransportFrame) (o : Number) (acked sent : ℕ) (ans : List (List ℕ)) → NumberIs end o acked sent → closes_by (Some y) o ≡ true → Closes o y acked ans (client_took end y)
unfolding client_took
end_closes (Asked d) y o acked sent ans n h = absurd n
end_closes (Up p) y o acked sent ans n h = subst (λ z. Closes z y acked ans (up_took p y)) (sym n.0) (up_closes p y acked ans (ap (closes_by (Some y)) (sym n.0) ∙ h))
end_closes (Asking p q) y o acked sent ans n h = subst (λ z. Closes z y acked ans (asking_took p y)) (sym n.0) (asking_closes p y acked ans (ap (closes_by (Some y)) (sym n.0) ∙ h))
end_closes (Awaiting p) y o acked sent ans n h = subst (λ z. Closes z y acked ans (up_took p y)) (sym n.0) (up_closes p y acked ans (ap (closes_by (Some y)) (sym n.0) ∙ h))
end_closes Ended y o acked sent ans n h = absurd n

pub closed_idle : (k : ℕ) (t : Attempt) (now : ℕ) (took : ClientTook) (close : Option (List ℕ)) → took ≡ heard.Closed close → Idle (heard_attempt k t now took)
closed_idle k t now took None e = subst (λ z. Idle (heard_attempt k t now z)) (sym e) tt
closed_idle k t now took (Some d) e = subst (λ z. Idle (heard_attempt k t now z)) (sym e) refl

-- ---- a service that is put

range_by : (b : Bool) (f : ℕ) (n : ℕ) (apdu : List ℕ) (second : ℕ) (rest : List ℕ) → (b ≡ true → nat_le (2 + length rest) most_octets ≡ true) → (if b then Numbered n (f % 4 ∷ second ∷ rest) else Other) ≡ Numbered n apdu → IsApdu apdu
range_by true f n apdu second rest h e =
    let same : f % 4 ∷ second ∷ rest ≡ apdu = cc in
    let fits : nat_le (2 + length rest) most_octets ≡ true = h refl in
    subst IsApdu same (omega arith, omega arith, grind (arith, fits))
range_by false f n apdu second rest h e = absurd (cc)

last_true : (a b c : Bool) → (a && b && c) ≡ true → c ≡ true
last_true true true c h = h
last_true true false c h = absurd (cc)
last_true false b c h = absurd (cc)

control_other : (o : Option Tpdu) (n : ℕ) (apdu : List ℕ) → control_frame o ≡ Numbered n apdu → ⊥
control_other None n apdu e = let z : Other ≡ Numbered n apdu = e in cc
control_other (Some tpdu.Connect) n apdu e = cc
control_other (Some tpdu.Disconnect) n apdu e = cc
control_other (Some (tpdu.Ack j)) n apdu e = cc
control_other (Some (tpdu.Nak j)) n apdu e = cc
control_other (Some (tpdu.Numbered j x)) n apdu e = let z : Other ≡ Numbered n apdu = e in cc
control_other (Some (tpdu.Unnumbered x)) n apdu e = let z : Other ≡ Numbered n apdu = e in cc

number_of_if : (b : Bool) (j n : ℕ) (x apdu : List ℕ) → (if b then Numbered j x else Other) ≡ Numbered n apdu → j ≡ n
number_of_if true j n x apdu e = cc
number_of_if false j n x apdu e = absurd (cc)

pub service_octets : (tpdu : List ℕ) (n : ℕ) (apdu : List ℕ) → frame_in tpdu ≡ Numbered n apdu → IsApdu apdu
unfolding frame_in
service_octets [] n apdu e = absurd (let z : Other ≡ Numbered n apdu = e in cc)
service_octets (f ∷ []) n apdu e = absurd (control_other _ n apdu e)
service_octets (f ∷ second ∷ rest) n apdu e =
    let b : Bool = nat_le 0x40 f && nat_lt f 0x80 && nat_le (2 + length rest) most_octets in
    let at = number_of_if b _ n (f % 4 ∷ second ∷ rest) apdu e in
    range_by b f n apdu second rest (last_true (nat_le 0x40 f) (nat_lt f 0x80) (nat_le (2 + length rest) most_octets)) (ap (λ z. cond {A = TransportFrame} b (Numbered z (f % 4 ∷ second ∷ rest)) Other) (sym at) ∙ e)

reaches_sendable : (plan : Plan) (k : ℕ) (ans : List (List ℕ)) (left : Plan) → IsSendable plan → Reaches plan k ans left → IsSendable left
reaches_sendable plan zero [] left can h = subst IsSendable h can
reaches_sendable plan zero (x ∷ ans) left can h = absurd h
reaches_sendable Over (suc k) ans left can h = absurd h
reaches_sendable (Operation place apdu AckOnly next) (suc k) [] left can h = reaches_sendable (next None) k [] left (can.2 None) h
reaches_sendable (Operation place apdu AckOnly next) (suc k) (x ∷ ans) left can h = reaches_sendable (next None) k (x ∷ ans) left (can.2 None) h
reaches_sendable (Operation place apdu (Is wanted) next) (suc k) [] left can h = absurd h
reaches_sendable (Operation place apdu (Is wanted) next) (suc k) (x ∷ ans) left can h = reaches_sendable (next (Some x)) k ans left (can.2 (Some x)) h.1
reaches_sendable (Operation place apdu Note next) (suc k) [] left can h = absurd h
reaches_sendable (Operation place apdu Note next) (suc k) (x ∷ ans) left can h = reaches_sendable (next (Some x)) k ans left (can.2 (Some x)) h.1

sent_data : (p : Session) (apdu octets : List ℕ) (end : ClientEnd) → end ≡ Up p → client_sent end apdu ≡ Some octets → octets ≡ numbered_data p.number apdu
unfolding client_sent
sent_data p apdu octets end e h = let z : Some (numbered_data p.number apdu) ≡ Some octets = ap (λ y. client_sent y apdu) (sym e) ∙ h in cc

after_up : (end : ClientEnd) (p : Session) (apdu : List ℕ) (t : ℕ) → end ≡ Up p → after_send end apdu t ≡ client_asked p apdu t
unfolding after_send
after_up end p apdu t e = ap (λ z. after_send z apdu t) e

asked_left : (plan left : Plan) (sent : ℕ) (ans : List (List ℕ)) (place : ℕ) (apdu : List ℕ) (expect : Expect) (next : Option (List ℕ) → Plan) → left ≡ Operation place apdu expect next → awaits_answer expect ≡ has_answer apdu → Reaches plan sent ans left → LeftIs (has_answer apdu) plan (sent_of left) (suc sent) ans
asked_left plan left sent ans place apdu AckOnly next e w h =
    subst (λ b. LeftIs b plan (sent_of left) (suc sent) ans) w (subst (λ z. Reaches plan (suc sent) ans (sent_of z)) (sym e) (acknowledged_one plan sent ans place apdu next (subst (Reaches plan sent ans) e h)))
asked_left plan left sent ans place apdu (Is wanted) next e w h =
    subst (λ b. LeftIs b plan (sent_of left) (suc sent) ans) w (record { apdu = apdu; place = place; expect = Is wanted; next = next; before = sent; head = ap sent_of e; answered = refl; last = refl; reaches = subst (Reaches plan sent ans) e h })
asked_left plan left sent ans place apdu Note next e w h =
    subst (λ b. LeftIs b plan (sent_of left) (suc sent) ans) w (record { apdu = apdu; place = place; expect = Note; next = next; before = sent; head = ap sent_of e; answered = refl; last = refl; reaches = subst (Reaches plan sent ans) e h })

number_same : (n m : ℕ) (x y : List ℕ) → Numbered n x ≡ Numbered m y → n ≡ m
number_same n m x y e = cc

asks_count : (plan : Plan) (t : Attempt) (o : Number) (acked now n : ℕ) (ans : List (List ℕ)) (apdu octets : List ℕ) → IsSendable plan → frame_in octets ≡ Numbered n apdu → IsNext t apdu octets → Count plan t o acked ans
    → Count plan (record t { end = after_send t.end apdu now; left = sent_of t.left; flying = Some (Numbered n apdu) }) (Outstanding n) acked ans
asks_count plan t o acked now n ans apdu octets can read q h =
    let p : Session = q.session in
    let number : NumberIs (Up p) o acked h.sent = subst (λ z. NumberIs z o acked h.sent) q.up h.number_is in
    let expected : ExpectedIs (Up p) (length ans) = subst (λ z. ExpectedIs z (length ans)) q.up h.expected_is in
    let is_apdu : IsApdu apdu = service_octets octets n apdu read in
    let octets_are : octets ≡ numbered_data p.number apdu = sent_data p apdu octets t.end q.up q.as_sent in
    let again : frame_in (numbered_data p.number apdu) ≡ Numbered p.number apdu = numbered_read p.number apdu number.2 is_apdu in
    let same : n ≡ p.number = number_same n p.number apdu apdu (sym read ∙ ap frame_in octets_are ∙ again) in
    let left : Reaches plan h.sent (reverse ans) t.left = subst (λ z. LeftIs (awaits z) plan t.left h.sent (reverse ans)) q.up (h.left_is q.goes_on) in
    let ok : IsSendable (Operation q.place apdu q.expect q.next) = subst IsSendable q.head (reaches_sendable plan h.sent (reverse ans) t.left can left) in
    let end : after_send t.end apdu now ≡ client_asked p apdu now = after_up t.end p apdu now q.up in
    record {
      sent = suc h.sent;
      number_is = subst (λ z. NumberIs z (Outstanding n) acked (suc h.sent)) (sym end) (ap (λ z. Outstanding z) same, ap (λ z. suc z) number.1, number.2, apdu, again);
      expected_is = subst (λ z. ExpectedIs z (length ans)) (sym end) expected;
      plain = tt;
      left_is = λ k. subst (λ z. LeftIs (awaits z) plan (sent_of t.left) (suc h.sent) (reverse ans)) (sym end) (asked_left plan t.left h.sent (reverse ans) q.place apdu q.expect q.next q.head ok.1 left);
      spoilt = λ k. absurd (let z : true ≡ false = sym k ∙ q.goes_on in cc);
    }

repeat_frame_is : (end : ClientEnd) (now : ℕ) (octets : List ℕ) → client_expired end now ≡ over.Repeat octets → (p : Session) × (q : Question) × (end ≡ Asking p q) × (q.frame ≡ octets)
unfolding client_expired
repeat_frame_is (Asked d) now octets e = absurd (let z : over.Nothing ≡ over.Repeat octets = e in cc)
repeat_frame_is (Up p) now octets e = absurd (let z : over.Nothing ≡ over.Repeat octets = e in cc)
repeat_frame_is (Asking p q) now octets e = (p, q, refl, by_confirmed q.confirmed e) where
  by_overdue : (b : Bool) → (if b then over.Repeat q.frame else over.Silent ack_wait) ≡ over.Repeat octets → q.frame ≡ octets
  by_overdue true k = cc
  by_overdue false k = absurd (cc)

  by_passed : (b : Bool) → (if b then question_overdue q else over.Nothing) ≡ over.Repeat octets → q.frame ≡ octets
  by_passed true k = by_overdue (nat_lt q.repeats most_repeats) k
  by_passed false k = absurd (cc)

  by_confirmed : (o : Option ℕ) → question_expired q o now ≡ over.Repeat octets → q.frame ≡ octets
  by_confirmed None k = absurd (cc)
  by_confirmed (Some since) k = by_passed (has_passed ack_wait since now) k
repeat_frame_is (Awaiting p) now octets e = absurd (by_wait _ e) where
  by_wait : (b : Bool) → (if b then over.Silent idle_wait else over.Nothing) ≡ over.Repeat octets → ⊥
  by_wait true k = cc
  by_wait false k = cc
repeat_frame_is Ended now octets e = absurd (let z : over.Nothing ≡ over.Repeat octets = e in cc)

repeats_count : (plan : Plan) (t : Attempt) (o : Number) (acked now n : ℕ) (ans : List (List ℕ)) (apdu octets : List ℕ) → frame_in octets ≡ Numbered n apdu → IsRepeat t now octets → Count plan t o acked ans
    → Count plan (record t { end = after_overdue t.end now (over.Repeat []); flying = Some (Numbered n apdu) }) (Outstanding n) acked ans
unfolding after_overdue
repeats_count plan t o acked now n ans apdu octets read due h =
    let w = repeat_frame_is t.end now octets due in
    let p : Session = w.0 in
    let q : Question = w.1 in
    let at : t.end ≡ Asking p q = w.2 in
    let number : NumberIs (Asking p q) o acked h.sent = subst (λ z. NumberIs z o acked h.sent) at h.number_is in
    let expected : ExpectedIs (Asking p q) (length ans) = subst (λ z. ExpectedIs z (length ans)) at h.expected_is in
    let same : n ≡ p.number = number_same n p.number apdu number.3 (sym read ∙ ap frame_in (sym w.3) ∙ number.4) in
    record {
      sent = h.sent;
      number_is = subst (λ z. NumberIs (client_repeated z now) (Outstanding n) acked h.sent) (sym at) (ap (λ z. Outstanding z) same, number.1, number.2, number.3, number.4);
      expected_is = subst (λ z. ExpectedIs (client_repeated z now) (length ans)) (sym at) expected;
      plain = tt;
      left_is = λ k. subst (λ z. LeftIs (awaits (client_repeated z now)) plan t.left h.sent (reverse ans)) (sym at) (subst (λ z. LeftIs (awaits z) plan t.left h.sent (reverse ans)) at (h.left_is k));
      spoilt = h.spoilt;
    }

pub numbered_count : (plan : Plan) (t : Attempt) (o : Number) (acked now n : ℕ) (ans : List (List ℕ)) (apdu octets : List ℕ) → IsSendable plan → frame_in octets ≡ Numbered n apdu → MayAsk t now apdu octets → Count plan t o acked ans
    → Count plan (record (sends_numbered t apdu now (client_sent t.end apdu)) { flying = Some (Numbered n apdu) }) (Outstanding n) acked ans
unfolding client_sent
numbered_count plan t o acked now n ans apdu octets can read may h =
    let P : Option (List ℕ) → Type 0 = λ z. Count plan (record (sends_numbered t apdu now z) { flying = Some (Numbered n apdu) }) (Outstanding n) acked ans in
    elim may.which [
      | inl q ↦ subst P (sym q.as_sent) (asks_count plan t o acked now n ans apdu octets can read q h)
      | inr due ↦
          (let w = repeat_frame_is t.end now octets due in
          let unsent : client_sent t.end apdu ≡ None = ap (λ z. client_sent z apdu) w.2 in
          subst P (sym unsent) (repeats_count plan t o acked now n ans apdu octets read due h))
    ]

-- an ended attempt puts no service
pub ended_asks : (t : Attempt) (now : ℕ) (apdu octets : List ℕ) → t.end ≡ Ended → MayAsk t now apdu octets → ⊥
unfolding client_expired
ended_asks t now apdu octets e may = elim may.which [ inl q ↦ (let z : Ended ≡ Up q.session = sym e ∙ q.up in cc) | inr due ↦ (let z : over.Nothing ≡ over.Repeat octets = ap (λ y. client_expired y now) (sym e) ∙ due in cc) ]
