-- What the device hears keeps the client's session.
use Rattle.std.proofs.Common.{◌≡◌, ℕ, suc, ◌+◌, ◌-◌, ◌%◌, ◌<◌, ◌≤◌, List, [], ◌∷◌, ◌++◌, length, Bool, false, Option, Some, refl, sym, ◌∙◌, ap, subst, arith, inl, inr, append_assoc}
use Rattle.knx_model.specs.declared.address.IndAddr.{IndAddr}
use Rattle.knx_model.specs.declared.connection.TransportFrame.{TransportFrame}
use Rattle.knx_model.specs.declared.connection.TransportFrame.TheVariants.{Ack, Numbered}
use Rattle.knx_model.specs.DeviceConnection.{DeviceEnd, Closed, Idle, Answering}
use Rattle.knx_model.specs.Device.{NonVolatile, effect_in}
use Rattle.knx_model.specs.DeviceFrames.{Outcome, kept_after}
use Rattle.session_law.proofs.Arrivals.{Arrival, Frame, NotAck, NotAnswer, IsntAck, Plain, arrival_if, owed_arrivals}
use Rattle.session_law.proofs.Placed.{AckAt, AnswerAt, placed_low, placed_more, placed_snoc, placed_end, placed_map, acks_plain, answers_plain}
use Rattle.session_law.proofs.Seen.{Seen, extra}
use Rattle.session_law.proofs.Taken.{Hears, HDelivers, HAnswers, HAgain, HSpeaks, HAcked, HCloses}
use Rattle.session_law.proofs.Invariant.{GivenAt, Ready, Side, NotOpening, InSession, tail_length, extra_le, Acks, Answers}
use Rattle.session_law.proofs.Sides.{ready_numbered, old_one}

-- ---- the client's session

ans_more : (gs : List (List ℕ)) (v : List ℕ) (a : ℕ) (x : Arrival) → AnswerAt (GivenAt gs) a x → AnswerAt (GivenAt (v ∷ gs)) a x
ans_more gs v a x h = record { value = h.value; is = h.is; right = (h.right.0, h.right.1, (v ∷ h.right.2.0, ap (λ (l : List (List ℕ)). v ∷ l) h.right.2.1)) }

-- one more behind the unsent frames
ack_more : (low a n n' : ℕ) (coming unsent : List Arrival) → low ≤ a → suc a ≡ n' → n ≤ n' → Acks low (coming ++ unsent) n → Acks low (coming ++ (unsent ++ Frame (Ack (a % 16)) ∷ [])) n'
ack_more low a n n' coming unsent le e m h =
    subst (λ (l : List Arrival). Acks low l n') (append_assoc coming unsent (Frame (Ack (a % 16)) ∷ [])) (placed_snoc AckAt NotAck low (coming ++ unsent) (Frame (Ack (a % 16))) a n' le e refl (placed_more AckAt NotAck low (coming ++ unsent) n n' m h))

ack_other : (low n : ℕ) (coming unsent : List Arrival) (x : Arrival) → NotAck x → Acks low (coming ++ unsent) n → Acks low (coming ++ (unsent ++ x ∷ [])) n
ack_other low n coming unsent x q h = subst (λ (l : List Arrival). Acks low l n) (append_assoc coming unsent (x ∷ [])) (placed_end AckAt NotAck low (coming ++ unsent) x n q h)

answer_other : (gs : List (List ℕ)) (low : ℕ) (coming unsent : List Arrival) (x : Arrival) → NotAnswer x → Answers gs low (coming ++ unsent) → Answers gs low (coming ++ (unsent ++ x ∷ []))
answer_other gs low coming unsent x q h = subst (λ (l : List Arrival). Answers gs low l) (append_assoc coming unsent (x ∷ [])) (placed_end (AnswerAt (GivenAt gs)) NotAnswer low (coming ++ unsent) x (length gs) q h)

-- a new answer
answer_more : (gs : List (List ℕ)) (v : List ℕ) (low : ℕ) (coming unsent : List Arrival) → low ≤ length gs → Answers gs low (coming ++ unsent) → Answers (v ∷ gs) low (coming ++ (unsent ++ Frame (Numbered (length gs % 16) v) ∷ []))
answer_more gs v low coming unsent le h =
    subst (λ (l : List Arrival). Answers (v ∷ gs) low l) (append_assoc coming unsent (Frame (Numbered (length gs % 16) v) ∷ []))
    (placed_snoc (AnswerAt (GivenAt (v ∷ gs))) NotAnswer low (coming ++ unsent) (Frame (Numbered (length gs % 16) v)) (length gs) (suc (length gs)) le refl
    (record { value = v; is = refl; right = (gs, refl, ([], refl)) })
    (placed_more (AnswerAt (GivenAt (v ∷ gs))) NotAnswer low (coming ++ unsent) (length gs) (suc (length gs)) (omega arith)
    (placed_map (AnswerAt (GivenAt gs)) NotAnswer (AnswerAt (GivenAt (v ∷ gs))) low (coming ++ unsent) (length gs) (λ a x lt q. ans_more gs v a x q) h)))

module _ (me : IndAddr) (asked : List (List ℕ)) (fly fly' : Option TransportFrame) (coming : List Arrival) (owed : List (List ℕ)) (waits : Bool) (number expected : ℕ) (sent accepted : List (List ℕ)) (s : TransportFrame) (o : Seen)
    (h : Side me asked fly o) (r : Ready s asked o.delivered) (ss : InSession asked fly coming owed waits number expected sent accepted o) (f : NotOpening fly')
    (up : Acks (length o.given - (1 + extra o.connection)) (Frame s ∷ (arrival_if fly' ++ owed_arrivals owed)) (length accepted)) where
  sess_speaks : (c : DeviceEnd) (k l : List Arrival) → Plain k → extra o.connection ≤ extra c → l ≡ o.unsent ++ k → InSession asked fly' coming owed waits number expected sent accepted (record { frames = o.frames; connection = c; unsent = l; last = Some s; delivered = o.delivered; given = o.given; kept = o.kept })
  sess_speaks c k l pl ex le =
      let bound : length o.given ≤ extra o.connection + length accepted = ss.bound in
      record {
        same = ss.same;
        done = ss.done;
        number_is = ss.number_is;
        expected_is = ss.expected_is;
        waiting = ss.waiting;
        told = ss.told;
        acks = subst (λ (z : List Arrival). Acks (ss.done - 1) (coming ++ z) (length o.delivered)) (sym le) (subst (λ (z : List Arrival). Acks (ss.done - 1) z (length o.delivered)) (append_assoc coming o.unsent k) (acks_plain (ss.done - 1) (coming ++ o.unsent) k (length o.delivered) pl ss.acks));
        answers = subst (λ (z : List Arrival). Answers o.given (length accepted - 1) (coming ++ z)) (sym le)
            (subst (λ (z : List Arrival). Answers o.given (length accepted - 1) z) (append_assoc coming o.unsent k) (answers_plain (GivenAt o.given) (length accepted - 1) (coming ++ o.unsent) k (length o.given) pl ss.answers));
        heard_is = ss.heard_is;
        bound = omega arith;
        ups_are = placed_low AckAt NotAck (length o.given - (1 + extra o.connection)) (length o.given - (1 + extra c)) (Frame s ∷ (arrival_if fly' ++ owed_arrivals owed)) (length accepted) (omega arith) up;
        flies = f;
      }

  sess_again : (c : DeviceEnd) (n x : ℕ) (l : List Arrival) → suc x ≡ length o.delivered → n ≡ x % 16 → extra c ≡ extra o.connection → l ≡ o.unsent ++ Frame (Ack n) ∷ []
      → InSession asked fly' coming owed waits number expected sent accepted (record { frames = o.frames; connection = c; unsent = l; last = Some s; delivered = o.delivered; given = o.given; kept = o.kept })
  sess_again c n x l e is ex le =
      let bound : length o.given ≤ extra o.connection + length accepted = ss.bound in
      let told : ss.done ≤ length o.delivered = ss.told in
      let l_is : l ≡ o.unsent ++ Frame (Ack (x % 16)) ∷ [] = le ∙ ap (λ (k : ℕ). o.unsent ++ Frame (Ack k) ∷ []) is in
      record {
        same = ss.same;
        done = ss.done;
        number_is = ss.number_is;
        expected_is = ss.expected_is;
        waiting = ss.waiting;
        told = ss.told;
        acks = subst (λ (z : List Arrival). Acks (ss.done - 1) (coming ++ z) (length o.delivered)) (sym l_is) (ack_more (ss.done - 1) x (length o.delivered) (length o.delivered) coming o.unsent (omega arith) e (omega arith) ss.acks);
        answers = subst (λ (z : List Arrival). Answers o.given (length accepted - 1) (coming ++ z)) (sym l_is) (answer_other o.given (length accepted - 1) coming o.unsent (Frame (Ack (x % 16))) tt ss.answers);
        heard_is = ss.heard_is;
        bound = omega arith;
        ups_are = placed_low AckAt NotAck (length o.given - (1 + extra o.connection)) (length o.given - (1 + extra c)) (Frame s ∷ (arrival_if fly' ++ owed_arrivals owed)) (length accepted) (omega arith) up;
        flies = f;
      }

  sess_delivers : (kp : NonVolatile) (c : DeviceEnd) (apdu : List ℕ) (l : List Arrival) → extra o.connection ≡ 0 → extra c ≡ 0 → l ≡ o.unsent ++ Frame (Ack (length o.delivered % 16)) ∷ []
      → InSession asked fly' coming owed waits number expected sent accepted (record { frames = o.frames; connection = c; unsent = l; last = Some s; delivered = apdu ∷ o.delivered; given = o.given; kept = kp })
  sess_delivers kp c apdu l ex ec le =
      let bound : length o.given ≤ extra o.connection + length accepted = ss.bound in
      let told : ss.done ≤ length o.delivered = ss.told in
      record {
        same = ss.same;
        done = ss.done;
        number_is = ss.number_is;
        expected_is = ss.expected_is;
        waiting = ss.waiting;
        told = omega arith;
        acks = subst (λ (z : List Arrival). Acks (ss.done - 1) (coming ++ z) (suc (length o.delivered))) (sym le) (ack_more (ss.done - 1) (length o.delivered) (length o.delivered) (suc (length o.delivered)) coming o.unsent (omega arith) refl (omega arith) ss.acks);
        answers = subst (λ (z : List Arrival). Answers o.given (length accepted - 1) (coming ++ z)) (sym le) (answer_other o.given (length accepted - 1) coming o.unsent (Frame (Ack (length o.delivered % 16))) tt ss.answers);
        heard_is = ss.heard_is;
        bound = omega arith;
        ups_are = placed_low AckAt NotAck (length o.given - (1 + extra o.connection)) (length o.given - (1 + extra c)) (Frame s ∷ (arrival_if fly' ++ owed_arrivals owed)) (length accepted) (omega arith) up;
        flies = f;
      }

  sess_answers : (kp : NonVolatile) (c : DeviceEnd) (apdu v : List ℕ) (l : List Arrival) → extra o.connection ≡ 0 → extra c ≡ 1 → l ≡ (o.unsent ++ Frame (Ack (length o.delivered % 16)) ∷ []) ++ Frame (Numbered (length o.given % 16) v) ∷ []
      → InSession asked fly' coming owed waits number expected sent accepted (record { frames = o.frames; connection = c; unsent = l; last = Some s; delivered = apdu ∷ o.delivered; given = v ∷ o.given; kept = kp })
  sess_answers kp c apdu v l ex ec le =
      let bound : length o.given ≤ extra o.connection + length accepted = ss.bound in
      let told : ss.done ≤ length o.delivered = ss.told in
      let short : length accepted ≤ length o.given = tail_length accepted o.given ss.heard_is in
      record {
        same = ss.same;
        done = ss.done;
        number_is = ss.number_is;
        expected_is = ss.expected_is;
        waiting = ss.waiting;
        told = omega arith;
        acks = subst (λ (z : List Arrival). Acks (ss.done - 1) (coming ++ z) (suc (length o.delivered))) (sym le)
            (ack_other (ss.done - 1) (suc (length o.delivered)) coming (o.unsent ++ Frame (Ack (length o.delivered % 16)) ∷ []) (Frame (Numbered (length o.given % 16) v)) tt
            (ack_more (ss.done - 1) (length o.delivered) (length o.delivered) (suc (length o.delivered)) coming o.unsent (omega arith) refl (omega arith) ss.acks));
        answers = subst (λ (z : List Arrival). Answers (v ∷ o.given) (length accepted - 1) (coming ++ z)) (sym le)
            (answer_more o.given v (length accepted - 1) coming (o.unsent ++ Frame (Ack (length o.delivered % 16)) ∷ []) (omega arith) (answer_other o.given (length accepted - 1) coming o.unsent (Frame (Ack (length o.delivered % 16))) tt ss.answers));
        heard_is = (v ∷ ss.heard_is.0, ap (λ (z : List (List ℕ)). v ∷ z) ss.heard_is.1);
        bound = omega arith;
        ups_are = placed_low AckAt NotAck (length o.given - (1 + extra o.connection)) (suc (length o.given) - (1 + extra c)) (Frame s ∷ (arrival_if fly' ++ owed_arrivals owed)) (length accepted) (omega arith) up;
        flies = f;
      }

  -- the answer was acknowledged: the client accepted it
  acked_up : (v : List ℕ) (older : List (List ℕ)) → extra o.connection ≡ 1 → o.given ≡ v ∷ older → s ≡ Ack (length older % 16) → Acks (length o.given - (1 + extra o.connection)) (Frame s ∷ (arrival_if fly' ++ owed_arrivals owed)) (length accepted)
      → (length o.given ≤ length accepted) × Acks (length o.given - 1) (Frame s ∷ (arrival_if fly' ++ owed_arrivals owed)) (length accepted)
  acked_up v older ex ge se (inl q) = absurd (subst (λ (z : TransportFrame). IsntAck z) se q.0)
  acked_up v older ex ge se (inr q) =
      let at : Ack (length older % 16) ≡ Ack (q.0 % 16) = let g : Frame s ≡ Frame (Ack (q.0 % 16)) = q.3 in let g2 : s ≡ Ack (q.0 % 16) = cc in sym se ∙ g2 in
      let same : length older % 16 ≡ q.0 % 16 = cc in
      let len : length o.given ≡ suc (length older) = ap (λ (z : List (List ℕ)). length z) ge in
      let short : length accepted ≤ length o.given = tail_length accepted o.given ss.heard_is in
      let low : length o.given - (1 + extra o.connection) ≤ q.0 = q.1 in
      let below : q.0 < length accepted = q.2 in
      let is : q.0 ≡ length older = omega arith in
      (omega arith, inr (q.0, omega arith, q.2, q.3, q.4))

  sess_acked : (c : DeviceEnd) (v : List ℕ) (older : List (List ℕ)) → extra c ≡ 0 → extra o.connection ≡ 1 → o.given ≡ v ∷ older → s ≡ Ack (length older % 16)
      → InSession asked fly' coming owed waits number expected sent accepted (record { frames = o.frames; connection = c; unsent = o.unsent; last = Some s; delivered = o.delivered; given = o.given; kept = o.kept })
  sess_acked c v older ec ex ge se =
      let u = acked_up v older ex ge se up in
      record {
        same = ss.same;
        done = ss.done;
        number_is = ss.number_is;
        expected_is = ss.expected_is;
        waiting = ss.waiting;
        told = ss.told;
        acks = ss.acks;
        answers = ss.answers;
        heard_is = ss.heard_is;
        bound = (let b : length o.given ≤ length accepted = u.0 in omega arith);
        ups_are = placed_low AckAt NotAck (length o.given - 1) (length o.given - (1 + extra c)) (Frame s ∷ (arrival_if fly' ++ owed_arrivals owed)) (length accepted) (omega arith) u.1;
        flies = f;
      }

  pub heard_sess : {outcome : Outcome} → (n : Seen) → Hears me outcome s o false n → InSession asked fly' coming owed waits number expected sent accepted n
  heard_sess {outcome} n (HDelivers u apdu l ex se ci le ai) = sess_delivers (kept_after o.kept (effect_in apdu) outcome) (Idle u) apdu l ex refl le
  heard_sess {outcome} n (HAnswers u a apdu v l ex se ci le ai) = sess_answers (kept_after o.kept (effect_in apdu) outcome) (Answering u a) apdu v l ex refl le
  heard_sess n (HAgain c k apdu l se ne nx ex ci le st) =
      let old : (x : ℕ) × (suc x ≡ length o.delivered) × (k ≡ x % 16) = old_one asked o.delivered k apdu ne (ready_numbered s k apdu asked o.delivered se r) in
      sess_again c k old.0 l old.1 old.2 ex le
  heard_sess n (HSpeaks c k l sc pl ex ci le st) = sess_speaks c k l pl (omega arith) le
  heard_sess n (HAcked u v older ex ge se ci nc) = sess_acked (Idle u) v older refl ex ge se
  heard_sess n (HCloses k l sc pl le) = sess_speaks Closed k l pl (extra_le o.connection) le
