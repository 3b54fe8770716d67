-- In a session the record's counts are the attempt's: the number, how many services were acknowledged, and the answers.
use Rattle.std.proofs.Common.{◌≡◌, ℕ, suc, ◌%◌, ◌≤◌, ◌⊎◌, List, [], ◌∷◌, ◌++◌, reverse, length, Bool, true, false, ◌&&◌, cond, Option, Some, refl, sym, ◌∙◌, ap, subst, inl, inr, arith}
use Rattle.std.proofs.lemmas.List.{reverse-append}
use Rattle.std.proofs.lemmas.Slice.Eq.{bytes_eq-Decides}
use Rattle.std.proofs.lemmas.Bool.{and_parts, cases_Bool}
use Rattle.knx_model.specs.declared.connection.ClientTook.{ClientTook}
use Rattle.knx_model.specs.declared.connection.ClientTook.TheVariants as heard
use Rattle.knx_model.specs.declared.plan.Expect.{Expect}
use Rattle.knx_model.specs.declared.plan.Expect.TheVariants.{AckOnly, Is, Note}
use Rattle.knx_model.specs.ClientConnection.{ClientEnd, Asked, Up, Asking, Awaiting, Ended, client_after, client_answered}
use Rattle.knx_model.specs.Connection.{next_number}
use Rattle.knx_model.specs.Plans.{Plan, Asks as Operation, Suits, followed}
use Rattle.line_model.specs.Attempts.{Attempt, awaits, with_reply, owing, heard_attempt}
use Rattle.line_model.specs.Moments.{Number}
use Rattle.line_model.specs.Progress.{Reaches, suits}
use Rattle.line_law.proofs.Reaching.{Texts, too_many, answered_one, suits_next}
use Rattle.line_law.proofs.Counts.{NumberIs, ExpectedIs, AwaitsOne, LeftIs, Spoilt, Count, CountIs, Effect, Drops, Agains, Naks, Acks, Answers, stayed_count, acked_count}
use Rattle.line_law.proofs.Hearing.{suits_is}

-- ---- an answer

number_after : (end : ClientEnd) (o : Number) (acked sent t : ℕ) → NumberIs end o acked sent → NumberIs (client_answered end t) o acked sent
number_after (Asked device) o acked sent t h = h
number_after (Up p) o acked sent t h = h
number_after (Asking p q) o acked sent t h = h
number_after (Awaiting p) o acked sent t h = h
number_after Ended o acked sent t h = h

next_expected : (e n : ℕ) → e ≡ n % 16 → next_number e ≡ suc n % 16
next_expected e n h = omega (arith, h)

expected_after : (end : ClientEnd) (n t : ℕ) → ExpectedIs end n → ExpectedIs (client_answered end t) (suc n)
expected_after (Asked device) n t h = tt
expected_after (Up p) n t h = next_expected p.expected n h
expected_after (Asking p q) n t h = next_expected p.expected n h
expected_after (Awaiting p) n t h = next_expected p.expected n h
expected_after Ended n t h = tt

awaits_after : (end : ClientEnd) (t : ℕ) → awaits (client_answered end t) ≡ false
awaits_after (Asked device) t = refl
awaits_after (Up p) t = refl
awaits_after (Asking p q) t = refl
awaits_after (Awaiting p) t = refl
awaits_after Ended t = refl

is_suits : (left : Plan) (got : List ℕ) (place : ℕ) (apdu : List ℕ) (expect : Expect) (next : Option (List ℕ) → Plan) → left ≡ Operation place apdu expect next → Suits apdu expect (Some got) → suits left got ≡ true
is_suits left got place apdu AckOnly next e h = absurd h
is_suits left got place apdu (Is wanted) next e h = ap (λ p. suits p got) e ∙ (bytes_eq-Decides got wanted).1 h
is_suits left got place apdu Note next e h = ap (λ p. suits p got) e ∙ h

followed_is : (left : Plan) (got : List ℕ) (place : ℕ) (apdu : List ℕ) (expect : Expect) (next : Option (List ℕ) → Plan) → left ≡ Operation place apdu expect next → followed left got ≡ next (Some got)
followed_is left got place apdu expect next e = ap (λ p. followed p got) e

last_more : (ans : Texts) (got : List ℕ) → reverse (got ∷ ans) ≡ reverse ans ++ got ∷ []
last_more ans got = reverse-append (got ∷ []) ans

append_one : (l : Texts) (got : List ℕ) (later : Texts) → (l ++ got ∷ []) ++ later ≡ l ++ got ∷ later
append_one [] got later = refl
append_one (x ∷ l) got later = ap (λ z. x ∷ z) (append_one l got later)

spoilt_more : (plan : Plan) (sent : ℕ) (ans : Texts) (got : List ℕ) → Spoilt plan sent (reverse ans) → Spoilt plan sent (reverse ans ++ got ∷ [])
spoilt_more plan sent ans got h k later y le r = h k (got ∷ later) y le (subst (λ z. Reaches plan k z y) (append_one (reverse ans) got later) r)

at_most : (k n : ℕ) → k ≤ suc n → (k ≤ n) ⊎ (k ≡ suc n)
at_most k n h = grind (arith, h)

-- it wasn't awaited, or isn't the wanted one
spoilt_now : (plan left : Plan) (sent : ℕ) (ans : Texts) (got : List ℕ) (b : Bool) → (b && suits left got) ≡ false → LeftIs b plan left sent (reverse ans) → Spoilt plan sent (reverse ans ++ got ∷ [])
spoilt_now plan left sent ans got false e h k later y le r = too_many plan sent k (reverse ans) later got left y le h (subst (λ z. Reaches plan k z y) (append_one (reverse ans) got later) r)
spoilt_now plan left sent ans got true e h k later y le r =
    let more : Reaches plan k (reverse ans ++ got ∷ later) y = subst (λ z. Reaches plan k z y) (append_one (reverse ans) got later) r in
    let last : suc h.before ≡ sent = h.last in
    elim (at_most k h.before (omega (arith, le, last))) [
      | inl few ↦ too_many plan h.before k (reverse ans) later got (Operation h.place h.apdu h.expect h.next) y few h.reaches more
      | inr all ↦
          (let s : Suits h.apdu h.expect (Some got) = suits_next plan h.before (reverse ans) h.place h.apdu got h.expect h.next later y h.answered h.reaches (subst (λ z. Reaches plan z (reverse ans ++ got ∷ later) y) all more) in
          let z : true ≡ false = sym (is_suits left got h.place h.apdu h.expect h.next h.head s) ∙ e in cc)
    ]

one_more : (plan left : Plan) (sent : ℕ) (ans : Texts) (got : List ℕ) → suits left got ≡ true → AwaitsOne plan left sent (reverse ans) → Reaches plan sent (reverse ans ++ got ∷ []) (followed left got)
one_more plan left sent ans got s h =
    subst (λ z. Reaches plan z (reverse ans ++ got ∷ []) (followed left got)) h.last
    (subst (λ z. Reaches plan (suc h.before) (reverse ans ++ got ∷ []) z) (sym (followed_is left got h.place h.apdu h.expect h.next h.head))
    (answered_one plan h.before (reverse ans) h.place h.apdu got h.expect h.next (suits_is left got h.place h.apdu h.expect h.next h.head s) h.reaches))

answer_count : (plan : Plan) (t : Attempt) (o : Number) (acked now : ℕ) (ans : Texts) (got ack : List ℕ) (b : Bool) → (awaits t.end && suits t.left got) ≡ b → Count plan t o acked ans
    → Count plan (owing (cond {A = Attempt} b (record t { left = followed t.left got }) (record t { closing = true })) now (heard.Answer got ack) ack) o acked (got ∷ ans)
unfolding client_after
answer_count plan t o acked now ans got ack true e h =
    let q = and_parts (awaits t.end) (suits t.left got) e in
    record {
      sent = h.sent;
      number_is = number_after t.end o acked h.sent now h.number_is;
      expected_is = expected_after t.end (length ans) now h.expected_is;
      plain = h.plain;
      left_is = λ k. subst (λ z. LeftIs z plan (followed t.left got) h.sent (reverse (got ∷ ans))) (sym (awaits_after t.end now))
          (subst (λ z. Reaches plan h.sent z (followed t.left got)) (sym (last_more ans got)) (one_more plan t.left h.sent ans got q.1 (subst (λ z. LeftIs z plan t.left h.sent (reverse ans)) q.0 (h.left_is k))));
      spoilt = λ k. subst (Spoilt plan h.sent) (sym (last_more ans got)) (spoilt_more plan h.sent ans got (h.spoilt k));
    }
answer_count plan t o acked now ans got ack false e h =
    record {
      sent = h.sent;
      number_is = number_after t.end o acked h.sent now h.number_is;
      expected_is = expected_after t.end (length ans) now h.expected_is;
      plain = h.plain;
      left_is = λ k. absurd (cc);
      spoilt = λ k. subst (Spoilt plan h.sent) (sym (last_more ans got))
          (elim (cases_Bool t.closing) [ inl was ↦ spoilt_more plan h.sent ans got (h.spoilt was) | inr isnt ↦ spoilt_now plan t.left h.sent ans got (awaits t.end) e (h.left_is isnt) ]);
    }

-- ---- whatever is heard

pub heard_count : (plan : Plan) (k : ℕ) (t : Attempt) (o n : Number) (acked more now : ℕ) (ans newer : Texts) (took : ClientTook) → Effect t.end o acked ans took n more newer → Count plan t o acked ans → CountIs plan (heard_attempt k t now took) n more newer
unfolding client_after
heard_count plan k t o _ acked _ now ans _ _ Drops h = h
heard_count plan k t o _ acked _ now ans _ _ (Agains ack) h = stayed_count plan t o acked now ans (with_reply t.owed ack) t.flying h.plain h
heard_count plan k t o _ acked _ now ans _ _ (Naks nak) h = stayed_count plan t o acked now ans (with_reply t.owed nak) t.flying h.plain h
heard_count plan k t o _ acked _ now ans _ _ (Acks p q e) h = acked_count plan t o acked now ans p q e h
heard_count plan k t o _ acked _ now ans _ _ (Answers got ack) h = answer_count plan t o acked now ans got ack (awaits t.end && suits t.left got) refl h
