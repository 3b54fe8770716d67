-- What the client takes keeps the invariant.
use Rattle.knx_model.specs.declared.frames.tpdu.Tpdu.TheVariants as tpdu
use Rattle.knx_model.specs.declared.connection.ClientTook.TheVariants as brought
use Rattle.std.proofs.Common.{◌≡◌, ℕ, suc, ◌+◌, ◌-◌, ◌%◌, ◌<◌, ◌≤◌, ◌⊎◌, List, [], ◌∷◌, ◌++◌, length, Bool, true, false, cond, Option, refl, sym, ◌∙◌, ap, subst, arith, inl, inr, append_assoc, length-append}
use Rattle.knx_model.specs.declared.address.IndAddr.{IndAddr}
use Rattle.knx_model.specs.declared.connection.TransportFrame.{TransportFrame}
use Rattle.knx_model.specs.declared.connection.TransportFrame.TheVariants.{Ack, Nak, Numbered, Other}
use Rattle.knx_model.specs.Connection.{frame_in, Session, next_number, acknowledged}
use Rattle.knx_model.specs.ClientConnection.{ClientEnd, Asked, Up, Asking, Awaiting, Ended, Question, client_took, client_after, up_took, asking_took}
use Rattle.session_law.specs.World.{Client}
use Rattle.session_law.specs.Promises.{IsFirstOf}
use Rattle.session_law.proofs.Arrivals.{Arrival, Confirmation, Frame, NotAck, NotAnswer, IsntAck, IsntData, IsntConnect, arrival_if, owed_arrivals, owed_arrivals_append}
use Rattle.session_law.proofs.Placed.{AckAt, AnswerAt, placed_more, placed_skip, placed_snoc, placed_end}
use Rattle.session_law.proofs.Seen.{Seen, extra}
use Rattle.session_law.proofs.Invariant.{GivenAt, WaitIs, ups, InSession, AskedIs, Pending, OwedOk, QuestionIs, PhaseIs, Invariant, tail_length, extra_le, Acks, Answers}
use Rattle.std.specs.Prelude.{nat_lt}
use Rattle.std.proofs.lemmas.Bool.{false≢true}
use Rattle.knx_model.specs.declared.connection.ClientTook.{ClientTook}
use Rattle.knx_model.specs.Apdu.{Written}
use Rattle.session_law.specs.Client.{most_owed, with_reply, hears, owed_after, and_answer}
use Rattle.session_law.proofs.Frames.{ack_read, nak_read}
use Rattle.session_law.proofs.Hearing.{Hearing, CDrops, CAcked, CAnswer, CAgain, CNak, CCloses, CClosesBy, up_hearing, asking_hearing, AckPlace, ack_place, AnswerPlace, answer_place}

pub same_back : (p q xs ys : List (List ℕ)) → p ++ xs ≡ q ++ ys → length xs ≡ length ys → xs ≡ ys
same_back [] [] xs ys e len = e
same_back [] (y ∷ q) xs ys e len = absurd (let h : length xs ≡ suc (length q + length ys) = ap (λ (l : List (List ℕ)). length l) e ∙ ap (λ n. suc n) (length-append q ys) in omega arith)
same_back (x ∷ p) [] xs ys e len = absurd (let h : suc (length p + length xs) ≡ length ys = sym (ap (λ n. suc n) (length-append p xs)) ∙ ap (λ (l : List (List ℕ)). length l) e in omega arith)
same_back (x ∷ p) (y ∷ q) xs ys e len = same_back p q xs ys (let h : p ++ xs ≡ q ++ ys = cc in h) len

pub tail_same : (xs ys zs : List (List ℕ)) → IsFirstOf xs zs → IsFirstOf ys zs → length xs ≡ length ys → xs ≡ ys
tail_same xs ys zs a b len = same_back a.0 b.0 xs ys (sym a.1 ∙ b.1) len

tail_more : (x : List ℕ) (xs zs : List (List ℕ)) → IsFirstOf (x ∷ xs) zs → IsFirstOf xs zs
tail_more x xs zs t = (t.0 ++ x ∷ [], t.1 ∙ sym (append_assoc t.0 (x ∷ []) xs))

-- ---- one more frame is owed, or none

or_none : (P : List (List ℕ) → Type 0) (b : Bool) (more owed : List (List ℕ)) → P more → P owed → P (cond b more owed)
or_none P true more owed h k = h
or_none P false more owed h k = k

or_owed : (P : List (List ℕ) → Type 0) (owed : List (List ℕ)) (reply : List ℕ) → P (owed ++ reply ∷ []) → P owed → P (with_reply owed reply)
or_owed P owed reply h k = or_none P (nat_lt (length owed) most_owed) (owed ++ reply ∷ []) owed h k

-- ---- the client's session after an item

module _ (asked : List (List ℕ)) (fly : Option TransportFrame) (x : TransportFrame) (rest : List Arrival) (owed : List (List ℕ)) (waits : Bool) (number expected : ℕ) (sent accepted : List (List ℕ)) (o : Seen)
    (ss : InSession asked fly (Frame x ∷ rest) owed waits number expected sent accepted o) where
  rest_acks : Acks (ss.done - 1) (rest ++ o.unsent) (length o.delivered)
  rest_acks = placed_skip AckAt NotAck (ss.done - 1) (Frame x) (rest ++ o.unsent) (length o.delivered) ss.acks

  rest_answers : Answers o.given (length accepted - 1) (rest ++ o.unsent)
  rest_answers = placed_skip (AnswerAt (GivenAt o.given)) NotAnswer (length accepted - 1) (Frame x) (rest ++ o.unsent) (length o.given) ss.answers

  drop_item : InSession asked fly rest owed waits number expected sent accepted o
  drop_item =
      record {
        same = ss.same;
        done = ss.done;
        number_is = ss.number_is;
        expected_is = ss.expected_is;
        waiting = ss.waiting;
        told = ss.told;
        acks = rest_acks;
        answers = rest_answers;
        heard_is = ss.heard_is;
        bound = ss.bound;
        ups_are = ss.ups_are;
        flies = ss.flies;
      }

  -- an answer to it that is no acknowledgement is owed
  owes : (reply : List ℕ) → IsntAck (frame_in reply) → InSession asked fly rest (owed ++ reply ∷ []) waits number expected sent accepted o
  owes reply q =
      record {
        same = ss.same;
        done = ss.done;
        number_is = ss.number_is;
        expected_is = ss.expected_is;
        waiting = ss.waiting;
        told = ss.told;
        acks = rest_acks;
        answers = rest_answers;
        heard_is = ss.heard_is;
        bound = ss.bound;
        ups_are = ups_end (length o.given - (1 + extra o.connection)) (length accepted) (placed_end AckAt NotAck (length o.given - (1 + extra o.connection)) (ups o.last fly owed) (Frame (frame_in reply)) (length accepted) q ss.ups_are);
        flies = ss.flies;
      } where
        ups_end : (low n : ℕ) → Acks low (ups o.last fly owed ++ Frame (frame_in reply) ∷ []) n → Acks low (ups o.last fly (owed ++ reply ∷ [])) n
        ups_end low n h =
            subst (λ (l : List Arrival). Acks low l n)
            (append_assoc (arrival_if o.last) (arrival_if fly ++ owed_arrivals owed) (Frame (frame_in reply) ∷ [])
            ∙ ap (λ (l : List Arrival). arrival_if o.last ++ l) (append_assoc (arrival_if fly) (owed_arrivals owed) (Frame (frame_in reply) ∷ []) ∙ ap (λ (l : List Arrival). arrival_if fly ++ l) (sym (owed_arrivals_append owed (reply ∷ []))))) h

  ups_ack : (low n a : ℕ) (reply : List ℕ) → frame_in reply ≡ Ack (a % 16) → low ≤ a → suc a ≡ n → Acks low (ups o.last fly owed) n → Acks low (ups o.last fly (owed ++ reply ∷ [])) n
  ups_ack low n a reply e le at h =
      subst (λ (l : List Arrival). Acks low l n)
      (append_assoc (arrival_if o.last) (arrival_if fly ++ owed_arrivals owed) (Frame (frame_in reply) ∷ [])
      ∙ ap (λ (l : List Arrival). arrival_if o.last ++ l) (append_assoc (arrival_if fly) (owed_arrivals owed) (Frame (frame_in reply) ∷ []) ∙ ap (λ (l : List Arrival). arrival_if fly ++ l) (sym (owed_arrivals_append owed (reply ∷ [])))))
      (placed_snoc AckAt NotAck low (ups o.last fly owed) (Frame (frame_in reply)) a n le at (ap (λ z. Frame z) e) h)

  -- the answer before comes again
  again_item : (n : ℕ) (apdu : List ℕ) → x ≡ Numbered n apdu → next_number n ≡ expected → InSession asked fly rest (with_reply owed (Written (tpdu.Ack n))) waits number expected sent accepted o × (n < 16)
  again_item n apdu e nx =
      let p : AnswerPlace o.given (length accepted - 1) n apdu (rest ++ o.unsent) = answer_place x o.given (length accepted - 1) n apdu (rest ++ o.unsent) e ss.answers in
      let bound : length o.given ≤ extra o.connection + length accepted = ss.bound in
      let ex : extra o.connection ≤ 1 = extra_le o.connection in
      let low : length accepted - 1 ≤ p.a = p.low_le in
      let below : p.a < length o.given = p.below in
      let ei : expected ≡ length accepted % 16 = ss.expected_is in
      let ni : n ≡ p.a % 16 = p.number in
      let at : suc p.a ≡ length accepted = omega arith in
      let small : n < 16 = omega arith in
      let owes_it : InSession asked fly rest (owed ++ Written (tpdu.Ack n) ∷ []) waits number expected sent accepted o
      = record {
        same = ss.same;
        done = ss.done;
        number_is = ss.number_is;
        expected_is = ss.expected_is;
        waiting = ss.waiting;
        told = ss.told;
        acks = rest_acks;
        answers = rest_answers;
        heard_is = ss.heard_is;
        bound = ss.bound;
        ups_are = ups_ack (length o.given - (1 + extra o.connection)) (length accepted) p.a (Written (tpdu.Ack n)) (ack_read n small ∙ ap (λ (k : ℕ). Ack k) ni) (omega arith) at ss.ups_are;
        flies = ss.flies;
      } in
      (or_owed (λ l. InSession asked fly rest l waits number expected sent accepted o) owed (Written (tpdu.Ack n)) owes_it drop_item, small)

  -- the next answer, with what is owed then
  next_with : (apdu : List ℕ) (owed' : List (List ℕ)) → x ≡ Numbered expected apdu → Acks (length o.given - (1 + extra o.connection)) (ups o.last fly owed') (suc (length accepted)) → InSession asked fly rest owed' waits number (next_number expected) sent (apdu ∷ accepted) o
  next_with apdu owed' e up =
      let p : AnswerPlace o.given (length accepted - 1) expected apdu (rest ++ o.unsent) = answer_place x o.given (length accepted - 1) expected apdu (rest ++ o.unsent) e ss.answers in
      let bound : length o.given ≤ extra o.connection + length accepted = ss.bound in
      let ex : extra o.connection ≤ 1 = extra_le o.connection in
      let low : length accepted - 1 ≤ p.a = p.low_le in
      let below : p.a < length o.given = p.below in
      let ei : expected ≡ length accepted % 16 = ss.expected_is in
      let ni : expected ≡ p.a % 16 = p.number in
      let at : p.a ≡ length accepted = omega arith in
      let older : p.right.0 ≡ accepted = tail_same p.right.0 accepted o.given (tail_more apdu p.right.0 o.given p.right.2) ss.heard_is (p.right.1 ∙ at) in
      record {
        same = ss.same;
        done = ss.done;
        number_is = ss.number_is;
        expected_is = (let q : next_number expected ≡ suc (length accepted) % 16 = omega arith in q);
        waiting = ss.waiting;
        told = ss.told;
        acks = rest_acks;
        answers = subst (λ (k : ℕ). Answers o.given k (rest ++ o.unsent)) (at ∙ (let q : length accepted ≡ suc (length accepted) - 1 = omega arith in q)) p.others;
        heard_is = subst (λ (z : List (List ℕ)). IsFirstOf (apdu ∷ z) o.given) older p.right.2;
        bound = omega arith;
        ups_are = up;
        flies = ss.flies;
      }

  more_accepted : Acks (length o.given - (1 + extra o.connection)) (ups o.last fly owed) (suc (length accepted))
  more_accepted = placed_more AckAt NotAck (length o.given - (1 + extra o.connection)) (ups o.last fly owed) (length accepted) (suc (length accepted)) (omega arith) ss.ups_are

  next_item : (apdu : List ℕ) → x ≡ Numbered expected apdu → InSession asked fly rest (with_reply owed (Written (tpdu.Ack expected))) waits number (next_number expected) sent (apdu ∷ accepted) o
  next_item apdu e =
      let bound : length o.given ≤ extra o.connection + length accepted = ss.bound in
      let ei : expected ≡ length accepted % 16 = ss.expected_is in
      or_owed (λ l. InSession asked fly rest l waits number (next_number expected) sent (apdu ∷ accepted) o) owed (Written (tpdu.Ack expected))
      (next_with apdu (owed ++ Written (tpdu.Ack expected) ∷ []) e
      (ups_ack (length o.given - (1 + extra o.connection)) (suc (length accepted)) (length accepted) (Written (tpdu.Ack expected)) (ack_read expected (omega arith) ∙ ap (λ (k : ℕ). Ack k) ei) (omega arith) refl more_accepted))
      (next_with apdu owed e more_accepted)

  -- its service was acknowledged
  acked_item : IsFirstOf o.delivered asked → waits ≡ true → x ≡ Ack number → InSession asked fly rest owed false (next_number number) expected sent accepted o
  acked_item prefix w e =
      let p : AckPlace (ss.done - 1) (length o.delivered) number (rest ++ o.unsent) = ack_place x (ss.done - 1) (length o.delivered) number (rest ++ o.unsent) e ss.acks in
      let wait : length sent ≡ suc ss.done = subst (λ (b : Bool). WaitIs b (length sent) ss.done) w ss.waiting in
      let low : ss.done - 1 ≤ p.a = p.low_le in
      let below : p.a < length o.delivered = p.below in
      let number_is : number ≡ ss.done % 16 = ss.number_is in
      let ni : number ≡ p.a % 16 = p.number in
      let short : length o.delivered ≤ length asked = tail_length o.delivered asked prefix in
      let same : length asked ≡ length sent = ap (λ (z : List (List ℕ)). length z) ss.same in
      let most : length o.delivered ≤ suc ss.done = omega arith in
      let at : p.a ≡ ss.done = omega arith in
      record {
        same = ss.same;
        done = suc ss.done;
        number_is = (let q : next_number number ≡ suc ss.done % 16 = omega arith in q);
        expected_is = ss.expected_is;
        waiting = wait;
        told = omega arith;
        acks = subst (λ (k : ℕ). Acks k (rest ++ o.unsent) (length o.delivered)) (at ∙ (let q : ss.done ≡ suc ss.done - 1 = omega arith in q)) p.others;
        answers = rest_answers;
        heard_is = ss.heard_is;
        bound = ss.bound;
        ups_are = ss.ups_are;
        flies = ss.flies;
      }

  -- another number
  nak_item : (n : ℕ) (apdu : List ℕ) → x ≡ Numbered n apdu → InSession asked fly rest (with_reply owed (Written (tpdu.Nak n))) waits number expected sent accepted o × (n < 16)
  nak_item n apdu e =
      let p : AnswerPlace o.given (length accepted - 1) n apdu (rest ++ o.unsent) = answer_place x o.given (length accepted - 1) n apdu (rest ++ o.unsent) e ss.answers in
      let small : n < 16 = omega (arith, p.number) in (
        or_owed (λ l. InSession asked fly rest l waits number expected sent accepted o) owed (Written (tpdu.Nak n)) (owes (Written (tpdu.Nak n)) (subst (λ (z : TransportFrame). IsntAck z) (sym (nak_read n small)) tt)) drop_item,
        small,
      )

  small_expected : expected < 16
  small_expected = omega (arith, ss.expected_is)

-- ---- owed frames

owed_append : (l k : List (List ℕ)) → OwedOk l → OwedOk k → OwedOk (l ++ k)
owed_append [] k h q = q
owed_append (r ∷ l) k h q = (h.0, owed_append l k h.1 q)

owed_with : (l : List (List ℕ)) (reply : List ℕ) → OwedOk l → OwedOk (reply ∷ []) → OwedOk (with_reply l reply)
owed_with l reply h q = or_owed OwedOk l reply (owed_append l (reply ∷ []) h q) h

owed_one : (reply : List ℕ) (s : TransportFrame) → frame_in reply ≡ s → IsntData s → IsntConnect s → OwedOk (reply ∷ [])
owed_one reply s e d c = ((subst (λ (z : TransportFrame). IsntData z) (sym e) d, subst (λ (z : TransportFrame). IsntConnect z) (sym e) c), tt)

owed_ack : (n : ℕ) → n < 16 → OwedOk (Written (tpdu.Ack n) ∷ [])
owed_ack n h = owed_one _ (Ack n) (ack_read n h) tt tt

owed_nak : (n : ℕ) → n < 16 → OwedOk (Written (tpdu.Nak n) ∷ [])
owed_nak n h = owed_one _ (Nak n) (nak_read n h) tt tt

-- ---- phases

pend_plain : (pending : Bool) (fly : Option TransportFrame) (x : TransportFrame) (rest : List Arrival) → Pending pending fly (Frame x ∷ rest) → Pending pending fly rest
pend_plain false fly x rest h = (h.0, h.1.1)
pend_plain true fly x rest (inl h) = inl (h.0, h.1, h.2.1)
pend_plain true fly x rest (inr (inl h)) = inr (inl h)
pend_plain true fly x rest (inr (inr h)) = inr (inr (h.0, h.1.1))

pub pend_conf : (pending : Bool) (fly : Option TransportFrame) (error : Bool) (rest : List Arrival) → Pending pending fly (Confirmation error ∷ rest) → Pending false fly rest
pend_conf false fly error rest h = absurd h.1.0
pend_conf true fly error rest (inl h) = absurd h.2.0
pend_conf true fly error rest (inr (inl h)) = (h.2, h.3.2)
pend_conf true fly error rest (inr (inr h)) = absurd h.1.0

-- it is the frame, or nothing to this client
abbrev Is : TransportFrame → TransportFrame → Type 0
Is t x = (t ≡ x) ⊎ (t ≡ Other)

is_ack : (t x : TransportFrame) (n : ℕ) → Is t x → t ≡ Ack n → x ≡ Ack n
is_ack t x n (inl h) e = sym h ∙ e
is_ack t x n (inr h) e = absurd (let g : Other ≡ Ack n = sym h ∙ e in cc)

is_data : (t x : TransportFrame) (n : ℕ) (apdu : List ℕ) → Is t x → t ≡ Numbered n apdu → x ≡ Numbered n apdu
is_data t x n apdu (inl h) e = sym h ∙ e
is_data t x n apdu (inr h) e = absurd (let g : Other ≡ Numbered n apdu = sym h ∙ e in cc)

abbrev Took : ClientEnd → Bool → Bool → List (List ℕ) → List (List ℕ) → List (List ℕ) → List (List ℕ) → Option TransportFrame → List Arrival → Seen → ClientTook → ℕ → Type 0
Took end joined pending owed sent accepted asked fly rest o k now = OwedOk (owed_after k owed) × PhaseIs (client_after end now k) joined pending (owed_after k owed) sent (and_answer k accepted) asked fly rest o

dropped : (end : ClientEnd) (joined pending : Bool) (owed sent accepted asked : List (List ℕ)) (fly : Option TransportFrame) (rest : List Arrival) (o : Seen) (now : ℕ) → OwedOk owed → PhaseIs end joined pending owed sent accepted asked fly rest o
    → Took end joined pending owed sent accepted asked fly rest o brought.Dropped now
unfolding client_after
dropped end joined pending owed sent accepted asked fly rest o now ok h =
    (ok, h)

module _ (joined pending : Bool) (owed sent accepted asked : List (List ℕ)) (fly : Option TransportFrame) (x t : TransportFrame) (rest : List Arrival) (o : Seen) (now : ℕ) (ok : OwedOk owed) (prefix : IsFirstOf o.delivered asked) (is : Is t x) (pend : Pending pending fly (Frame x ∷ rest)) where
  up_took_kept : (s : Session) → InSession asked fly (Frame x ∷ rest) owed false s.number s.expected sent accepted o → (k : ClientTook) → Hearing false s.number s.expected t k → Took (Up s) joined pending owed sent accepted asked fly rest o k now
  unfolding client_after
  up_took_kept s ss k CDrops = dropped (Up s) joined pending owed sent accepted asked fly rest o now ok (pend_plain pending fly x rest pend, drop_item asked fly x rest owed false s.number s.expected sent accepted o ss)
  up_took_kept s ss k (CAcked w e) = absurd (false≢true w)
  up_took_kept s ss k (CAnswer apdu e) = (
    owed_with owed _ ok (owed_ack s.expected (small_expected asked fly x rest owed false s.number s.expected sent accepted o ss)),
    (pend_plain pending fly x rest pend, next_item asked fly x rest owed false s.number s.expected sent accepted o ss apdu (is_data t x s.expected apdu is e)),
  )
  up_took_kept s ss k (CAgain n apdu e ne nx) =
      let r = again_item asked fly x rest owed false s.number s.expected sent accepted o ss n apdu (is_data t x n apdu is e) nx in
      (owed_with owed _ ok (owed_ack n r.1), (pend_plain pending fly x rest pend, r.0))
  up_took_kept s ss k (CNak n apdu e) =
      let r = nak_item asked fly x rest owed false s.number s.expected sent accepted o ss n apdu (is_data t x n apdu is e) in
      (owed_with owed _ ok (owed_nak n r.1), (pend_plain pending fly x rest pend, r.0))
  up_took_kept s ss k CCloses = (tt, λ j. pend_plain pending fly x rest pend)
  up_took_kept s ss k CClosesBy = (tt, λ j. pend_plain pending fly x rest pend)

  awaiting_took_kept : (s : Session) → InSession asked fly (Frame x ∷ rest) owed false s.number s.expected sent accepted o → (k : ClientTook) → Hearing false s.number s.expected t k → Took (Awaiting s) joined pending owed sent accepted asked fly rest o k now
  unfolding client_after
  awaiting_took_kept s ss k CDrops = dropped (Awaiting s) joined pending owed sent accepted asked fly rest o now ok (pend_plain pending fly x rest pend, drop_item asked fly x rest owed false s.number s.expected sent accepted o ss)
  awaiting_took_kept s ss k (CAcked w e) = absurd (false≢true w)
  awaiting_took_kept s ss k (CAnswer apdu e) = (
    owed_with owed _ ok (owed_ack s.expected (small_expected asked fly x rest owed false s.number s.expected sent accepted o ss)),
    (pend_plain pending fly x rest pend, next_item asked fly x rest owed false s.number s.expected sent accepted o ss apdu (is_data t x s.expected apdu is e)),
  )
  awaiting_took_kept s ss k (CAgain n apdu e ne nx) =
      let r = again_item asked fly x rest owed false s.number s.expected sent accepted o ss n apdu (is_data t x n apdu is e) nx in
      (owed_with owed _ ok (owed_ack n r.1), (pend_plain pending fly x rest pend, r.0))
  awaiting_took_kept s ss k (CNak n apdu e) =
      let r = nak_item asked fly x rest owed false s.number s.expected sent accepted o ss n apdu (is_data t x n apdu is e) in
      (owed_with owed _ ok (owed_nak n r.1), (pend_plain pending fly x rest pend, r.0))
  awaiting_took_kept s ss k CCloses = (tt, λ j. pend_plain pending fly x rest pend)
  awaiting_took_kept s ss k CClosesBy = (tt, λ j. pend_plain pending fly x rest pend)

  acked_phase : (s : Session) (awaits : Bool) → InSession asked fly rest owed false (next_number s.number) s.expected sent accepted o
      → PhaseIs (cond awaits (Awaiting (acknowledged s now)) (Up (acknowledged s now))) joined pending owed sent accepted asked fly rest o
  acked_phase s true ss = (pend_plain pending fly x rest pend, ss)
  acked_phase s false ss = (pend_plain pending fly x rest pend, ss)

  asking_took_kept : (s : Session) (q : Question) → QuestionIs q.frame s.number sent → InSession asked fly (Frame x ∷ rest) owed true s.number s.expected sent accepted o → (k : ClientTook) → Hearing true s.number s.expected t k
      → Took (Asking s q) joined pending owed sent accepted asked fly rest o k now
  unfolding client_after
  asking_took_kept s q qi ss k CDrops = dropped (Asking s q) joined pending owed sent accepted asked fly rest o now ok (pend_plain pending fly x rest pend, drop_item asked fly x rest owed true s.number s.expected sent accepted o ss, qi)
  asking_took_kept s q qi ss k (CAcked w e) =
      (ok, acked_phase s q.awaits (acked_item asked fly x rest owed true s.number s.expected sent accepted o ss prefix refl (is_ack t x s.number is e)))
  asking_took_kept s q qi ss k (CAnswer apdu e) = (
    owed_with owed _ ok (owed_ack s.expected (small_expected asked fly x rest owed true s.number s.expected sent accepted o ss)),
    (pend_plain pending fly x rest pend, next_item asked fly x rest owed true s.number s.expected sent accepted o ss apdu (is_data t x s.expected apdu is e), qi),
  )
  asking_took_kept s q qi ss k (CAgain n apdu e ne nx) =
      let r = again_item asked fly x rest owed true s.number s.expected sent accepted o ss n apdu (is_data t x n apdu is e) nx in
      (owed_with owed _ ok (owed_ack n r.1), (pend_plain pending fly x rest pend, r.0, qi))
  asking_took_kept s q qi ss k (CNak n apdu e) =
      let r = nak_item asked fly x rest owed true s.number s.expected sent accepted o ss n apdu (is_data t x n apdu is e) in
      (owed_with owed _ ok (owed_nak n r.1), (pend_plain pending fly x rest pend, r.0, qi))
  asking_took_kept s q qi ss k CCloses = (tt, λ j. pend_plain pending fly x rest pend)
  asking_took_kept s q qi ss k CClosesBy = (tt, λ j. pend_plain pending fly x rest pend)

asked_plain : (asked : List (List ℕ)) (fly : Option TransportFrame) (x : TransportFrame) (rest : List Arrival) (o : Seen) → AskedIs asked fly (Frame x ∷ rest) o → AskedIs asked fly rest o
asked_plain asked fly x rest o (inl h) = inl (h.0, h.1.1)
asked_plain asked fly x rest o (inr (inl h)) = inr (inl h)
asked_plain asked fly x rest o (inr (inr h)) = inr (inr (h.0, h.1.1))

took_phase : (end : ClientEnd) (joined pending : Bool) (owed sent accepted asked : List (List ℕ)) (fly : Option TransportFrame) (x t : TransportFrame) (rest : List Arrival) (o : Seen) (now : ℕ) → OwedOk owed → IsFirstOf o.delivered asked → Is t x
    → PhaseIs end joined pending owed sent accepted asked fly (Frame x ∷ rest) o → Took end joined pending owed sent accepted asked fly rest o (client_took end t) now
unfolding client_took
took_phase (Asked device) joined pending owed sent accepted asked fly x t rest o now ok prefix is h = dropped (Asked device) joined pending owed sent accepted asked fly rest o now ok (h.0, h.1, asked_plain asked fly x rest o h.2)
took_phase (Up s) joined pending owed sent accepted asked fly x t rest o now ok prefix is h = up_took_kept joined pending owed sent accepted asked fly x t rest o now ok prefix is h.0 s h.1 (up_took s t) (up_hearing false s t)
took_phase (Asking s q) joined pending owed sent accepted asked fly x t rest o now ok prefix is h = asking_took_kept joined pending owed sent accepted asked fly x t rest o now ok prefix is h.0 s q h.2 h.1 (asking_took s t) (asking_hearing s t)
took_phase (Awaiting s) joined pending owed sent accepted asked fly x t rest o now ok prefix is h = awaiting_took_kept joined pending owed sent accepted asked fly x t rest o now ok prefix is h.0 s h.1 (up_took s t) (up_hearing false s t)
took_phase Ended joined pending owed sent accepted asked fly x t rest o now ok prefix is h = dropped Ended joined pending owed sent accepted asked fly rest o now ok (λ j. pend_plain pending fly x rest (h j))

-- the client takes a frame of the device
pub told_kept : (me : IndAddr) (asked : List (List ℕ)) (c : Client) (fly : Option TransportFrame) (x t : TransportFrame) (rest : List Arrival) (o : Seen) (now : ℕ) → (t ≡ x) ⊎ (t ≡ Other) → Invariant me asked c fly (Frame x ∷ rest) o → Invariant me asked (hears c now (client_took c.end t)) fly rest o
told_kept me asked c fly x t rest o now is inv =
    let r = took_phase c.end c.joined c.pending c.owed c.sent c.accepted asked fly x t rest o now inv.owed_ok inv.side.prefix is inv.phase in
    record { owed_ok = r.0; whole = inv.whole; side = inv.side; phase = r.1 }
