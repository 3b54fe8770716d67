-- One device of a calm line: what the record says of the attempt after a frame is put, confirmed or taken.
use Rattle.std.proofs.Common.{◌≡◌, ◌≢◌, ℕ, zero, suc, ◌+◌, ◌%◌, ◌≤◌, ◌⊎◌, List, [], ◌∷◌, ◌++◌, length, reverse, Bool, true, false, cond, Option, Some, None, refl, sym, ◌∙◌, ap, subst, inl, inr, arith}
use Rattle.std.proofs.lemmas.Bool.{eq-eqb}
use Rattle.std.proofs.lemmas.List.{reverse-append}
use Rattle.std.proofs.lemmas.Slice.Eq.{bytes_eq-Decides}
use Rattle.knx_model.specs.declared.connection.TransportFrame.TheVariants.{Connect, Disconnect, Ack, Numbered}
use Rattle.knx_model.specs.declared.plan.Expect.{Expect}
use Rattle.knx_model.specs.declared.plan.Expect.TheVariants.{AckOnly, Is, Note}
use Rattle.knx_model.specs.Connection.{next_number}
use Rattle.knx_model.specs.Plans.{Plan, Over, Asks, Suits}
use Rattle.line_model.specs.Moments.{Moment, Next, Outstanding, number_heard, number, is_connect, closes_by, is_acknowledged, acknowledged, answers, service_put, services}
use Rattle.line_model.specs.Told.{WentThrough}
use Rattle.line_model.specs.Progress.{Reaches, suits, Differs}
use Rattle.calm_law.proofs.Phases.{Rests, Opens, Ready, Sends, Served, Awaits, Owes, Acks, Leaves}
use Rattle.calm_law.proofs.Books.{Says, numbers, ackeds, answereds, askeds, Stands, IsAt, Lacks, Refusal, GoesSo, Decided, InSo, One, CourseIs, IsIn, IsLeft, IsOpening, Books, Same, same_at, same_in, same_refusal, one_more, one_begins, in_on, in_ends, opened, books_more}

abbrev Texts : Type 0
Texts = List (List ℕ)

-- ---- a plan goes on by one operation

one_acknowledged : (x : Plan) (place : ℕ) (apdu : List ℕ) (next : Option (List ℕ) → Plan) → x ≡ Asks place apdu AckOnly next → Reaches x 1 [] (next None)
one_acknowledged x place apdu next e = subst (λ z. Reaches z 1 [] (next None)) (sym e) refl

acknowledged_one : (plan : Plan) (n : ℕ) (got : Texts) (place : ℕ) (apdu : List ℕ) (next : Option (List ℕ) → Plan) → Reaches plan n got (Asks place apdu AckOnly next) → Reaches plan (suc n) got (next None)
acknowledged_one plan zero [] place apdu next h = one_acknowledged plan place apdu next h
acknowledged_one plan zero (one ∷ got) place apdu next h = absurd h
acknowledged_one Over (suc n) got place apdu next h = absurd h
acknowledged_one (Asks j op AckOnly more) (suc n) [] place apdu next h = acknowledged_one (more None) n [] place apdu next h
acknowledged_one (Asks j op AckOnly more) (suc n) (one ∷ got) place apdu next h = acknowledged_one (more None) n (one ∷ got) place apdu next h
acknowledged_one (Asks j op (Is wanted) more) (suc n) [] place apdu next h = absurd h
acknowledged_one (Asks j op (Is wanted) more) (suc n) (one ∷ got) place apdu next h = (h.0, acknowledged_one (more (Some one)) n got place apdu next h.1)
acknowledged_one (Asks j op Note more) (suc n) [] place apdu next h = absurd h
acknowledged_one (Asks j op Note more) (suc n) (one ∷ got) place apdu next h = (h.0, acknowledged_one (more (Some one)) n got place apdu next h.1)

answered_first : (x : Plan) (place : ℕ) (apdu got : List ℕ) (expect : Expect) (next : Option (List ℕ) → Plan) → x ≡ Asks place apdu expect next → Suits apdu expect (Some got) → Reaches x 1 (got ∷ []) (next (Some got))
answered_first x place apdu got AckOnly next e s = absurd s
answered_first x place apdu got (Is wanted) next e s = subst (λ z. Reaches z 1 (got ∷ []) (next (Some got))) (sym e) (s, refl)
answered_first x place apdu got Note next e s = subst (λ z. Reaches z 1 (got ∷ []) (next (Some got))) (sym e) (s, refl)

answered_one : (plan : Plan) (n : ℕ) (got : Texts) (place : ℕ) (apdu v : List ℕ) (expect : Expect) (next : Option (List ℕ) → Plan) → Suits apdu expect (Some v) → Reaches plan n got (Asks place apdu expect next) → Reaches plan (suc n) (got ++ v ∷ []) (next (Some v))
answered_one plan zero [] place apdu v expect next s h = answered_first plan place apdu v expect next h s
answered_one plan zero (one ∷ got) place apdu v expect next s h = absurd h
answered_one Over (suc n) got place apdu v expect next s h = absurd h
answered_one (Asks j op AckOnly more) (suc n) [] place apdu v expect next s h = answered_one (more None) n [] place apdu v expect next s h
answered_one (Asks j op AckOnly more) (suc n) (one ∷ got) place apdu v expect next s h = answered_one (more None) n (one ∷ got) place apdu v expect next s h
answered_one (Asks j op (Is wanted) more) (suc n) [] place apdu v expect next s h = absurd h
answered_one (Asks j op (Is wanted) more) (suc n) (one ∷ got) place apdu v expect next s h = (h.0, answered_one (more (Some one)) n got place apdu v expect next s h.1)
answered_one (Asks j op Note more) (suc n) [] place apdu v expect next s h = absurd h
answered_one (Asks j op Note more) (suc n) (one ∷ got) place apdu v expect next s h = (h.0, answered_one (more (Some one)) n got place apdu v expect next s h.1)

-- ---- what is put

module _ (a : ℕ) (plan : Plan) (m : Moment) (n e : ℕ) (s : List Moment) where
  -- a service
  asks_in : (j place : ℕ) (apdu : List ℕ) (expect : Expect) (next : Option (List ℕ) → Plan) (left : Plan) (closing : Bool) → Says a m (Some (Numbered j apdu)) None None → j ≡ n → closing ≡ false → left ≡ Asks place apdu expect next
      → InSo a plan n e (Ready left closing) s → InSo a plan n e (Sends place apdu expect next) (m ∷ s)
  asks_in j place apdu expect next left closing says same on head h =
      let p = Some (Numbered j apdu) in
      let more : services a (m ∷ s) ≡ apdu ∷ services a s = askeds a m p None None says s ∙ ap (λ o. service_put p o (services a s)) h.0.number_is in
      let left_is : IsAt a plan (Asks place apdu expect next) s = subst (λ z. IsAt a plan z s) head (subst (λ b. GoesSo a plan b left s) on h.1) in
      let acked : acknowledged a (m ∷ s) ≡ acknowledged a s = ackeds a m p None None says s in
      let asked = h.0.asked_is in (
        record {
          number_is = numbers a m p None None says s ∙ ap (λ z. Outstanding z) same;
          expected_is = h.0.expected_is ∙ ap (λ (z : Texts). length z % 16) (sym (answereds a m p None None says s));
          asked_is = ap (λ (z : Texts). length z) more ∙ (let x : suc (length (services a s)) ≡ acknowledged a (m ∷ s) + 1 = omega (arith, asked, acked) in x);
        },
        subst (λ z. Reaches plan z (reverse (answers a (m ∷ s))) (Asks place apdu expect next)) (sym acked) (subst (λ z. Reaches plan (acknowledged a s) (reverse z) (Asks place apdu expect next)) (sym (answereds a m p None None says s)) left_is),
      )

  -- a T_ACK
  ack_same : (j : ℕ) → Says a m (Some (Ack j)) None None → Same a s (m ∷ s)
  ack_same j says =
      let p = Some (Ack j) in
      record { numbers_are = numbers a m p None None says s; ackeds_are = ackeds a m p None None says s; answers_are = answereds a m p None None says s; services_are = askeds a m p None None says s }

  -- a T_Disconnect
  leave_same : Says a m (Some Disconnect) None None → Same a s (m ∷ s)
  leave_same says =
      let p = Some Disconnect in
      record { numbers_are = numbers a m p None None says s; ackeds_are = ackeds a m p None None says s; answers_are = answereds a m p None None says s; services_are = askeds a m p None None says s }

  leave_counted : (left : Plan) (closing : Bool) → Says a m (Some Disconnect) None None → InSo a plan n e (Ready left closing) s → acknowledged a (m ∷ s) ≤ length (services a (m ∷ s))
  leave_counted left closing says h =
      let same = leave_same says in
      let asked = h.0.asked_is in
      let one = same.ackeds_are in
      let other : length (services a (m ∷ s)) ≡ length (services a s) = ap (λ (z : Texts). length z) same.services_are in
      omega (arith, asked, one, other)

  leave_in : (W : Type 0) (left : Plan) (closing : Bool) → Says a m (Some Disconnect) None None → (closing ≡ true) ⊎ (left ≡ Over) → (W → closing ≡ false) → InSo a plan n e (Ready left closing) s → Decided W a plan (m ∷ s)
  leave_in W left true says why wants h =
      record { which = inr (same_refusal a plan s (m ∷ s) (leave_same says) h.1); through = λ w. absurd (let c : true ≡ false = wants w in cc); counted = leave_counted left true says h }
  leave_in W left false says (inl c) wants h = absurd (cc)
  leave_in W left false says (inr all) wants h =
      let through : WentThrough a plan (m ∷ s) = same_at a plan s (m ∷ s) (leave_same says) Over (subst (λ z. IsAt a plan z s) all h.1) in
      record { which = inl through; through = λ w. through; counted = leave_counted left false says h }

-- ---- what is taken

wrong_not : (n : ℕ) → closes_by (Some (Ack n)) (Outstanding n) ≡ false
wrong_not n = rw (eq-eqb n n refl) refl

heard_next : (n : ℕ) → number_heard (Some (Ack n)) (Outstanding n) ≡ Next (next_number n)
heard_next n = rw (eq-eqb n n refl) refl

acks_it : (n : ℕ) → is_acknowledged (Some (Ack n)) (Outstanding n) ≡ true
acks_it n = eq-eqb n n refl

module _ (a : ℕ) (plan : Plan) (m : Moment) (n e : ℕ) (s : List Moment) where
  -- the T_ACK
  module _ (says : Says a m None None (Some (Ack n))) (stands : Stands a (Outstanding n) e s) where
    goes_on : closes_by (Some (Ack n)) (number a s) ≡ false
    goes_on = ap (closes_by (Some (Ack n))) stands.number_is ∙ wrong_not n

    acked_more : acknowledged a (m ∷ s) ≡ suc (acknowledged a s)
    acked_more =
        ackeds a m None None (Some (Ack n)) says s ∙ ap (λ o. cond {A = ℕ} (is_acknowledged (Some (Ack n)) o) (suc (acknowledged a s)) (acknowledged a s)) stands.number_is
        ∙ ap (λ b. cond {A = ℕ} b (suc (acknowledged a s)) (acknowledged a s)) (acks_it n)

    answers_same : answers a (m ∷ s) ≡ answers a s
    answers_same = answereds a m None None (Some (Ack n)) says s

    acked_stands : Stands a (Next (next_number n)) e (m ∷ s)
    acked_stands =
        let asked = stands.asked_is in
        let acked = acked_more in
        record {
          number_is = numbers a m None None (Some (Ack n)) says s ∙ ap (number_heard (Some (Ack n))) stands.number_is ∙ heard_next n;
          expected_is = stands.expected_is ∙ ap (λ (z : Texts). length z % 16) (sym answers_same);
          asked_is = ap (λ (z : Texts). length z) (askeds a m None None (Some (Ack n)) says s) ∙ (let x : length (services a s) ≡ acknowledged a (m ∷ s) + 0 = omega (arith, asked, acked) in x);
        }

    -- with an answer to come, or without
    lacks_in : (left : Plan) → IsAt a plan left s → Lacks a plan left (m ∷ s)
    lacks_in left h = (acknowledged a s, sym acked_more, subst (λ z. Reaches plan (acknowledged a s) (reverse z) left) (sym answers_same) h)

    next_in : (place : ℕ) (apdu : List ℕ) (next : Option (List ℕ) → Plan) → IsAt a plan (Asks place apdu AckOnly next) s → IsAt a plan (next None) (m ∷ s)
    next_in place apdu next h =
        subst (λ z. Reaches plan z (reverse (answers a (m ∷ s))) (next None)) (sym acked_more)
        (subst (λ z. Reaches plan (suc (acknowledged a s)) (reverse z) (next None)) (sym answers_same) (acknowledged_one plan (acknowledged a s) (reverse (answers a s)) place apdu next h))

  -- the answer
  module _ (v : List ℕ) (says : Says a m None None (Some (Numbered e v))) (stands : Stands a (Next n) e s) where
    answers_more : answers a (m ∷ s) ≡ v ∷ answers a s
    answers_more = answereds a m None None (Some (Numbered e v)) says s ∙ ap (λ b. cond {A = Texts} b (v ∷ answers a s) (answers a s)) (eq-eqb e (length (answers a s) % 16) stands.expected_is)

    acked_same : acknowledged a (m ∷ s) ≡ acknowledged a s
    acked_same = ackeds a m None None (Some (Numbered e v)) says s

    next_expected : (k : ℕ) → e ≡ k % 16 → next_number e ≡ suc k % 16
    next_expected k h = omega (arith, h)

    answered_stands : Stands a (Next n) (next_number e) (m ∷ s)
    answered_stands =
        let asked = stands.asked_is in
        let acked = acked_same in
        record {
          number_is = numbers a m None None (Some (Numbered e v)) says s ∙ stands.number_is;
          expected_is = next_expected (length (answers a s)) stands.expected_is ∙ ap (λ (z : Texts). length z % 16) (sym answers_more);
          asked_is = ap (λ (z : Texts). length z) (askeds a m None None (Some (Numbered e v)) says s) ∙ (let x : length (services a s) ≡ acknowledged a (m ∷ s) + 0 = omega (arith, asked, acked) in x);
        }

    reversed : reverse (answers a (m ∷ s)) ≡ reverse (answers a s) ++ v ∷ []
    reversed = ap (λ (z : Texts). reverse z) answers_more ∙ reverse-append (v ∷ []) (answers a s)

    -- it is the wanted one
    wanted_in : (place : ℕ) (apdu : List ℕ) (expect : Expect) (next : Option (List ℕ) → Plan) → Suits apdu expect (Some v) → Lacks a plan (Asks place apdu expect next) s → IsAt a plan (next (Some v)) (m ∷ s)
    wanted_in place apdu expect next fits (k, last, r) =
        subst (λ z. Reaches plan z (reverse (answers a (m ∷ s))) (next (Some v))) (last ∙ sym acked_same) (subst (λ z. Reaches plan (suc k) z (next (Some v))) (sym reversed) (answered_one plan k (reverse (answers a s)) place apdu v expect next fits r))

    -- or not
    refused_in : (left : Plan) (op : ℕ) (expected : List ℕ) → Differs left op v expected → Lacks a plan left s → Refusal a plan (m ∷ s)
    refused_in left op expected differs (k, last, r) =
        let asked = stands.asked_is in (
          op,
          v,
          expected,
          record {
            n = n;
            judged = answered_stands.number_is;
            later = [];
            before = answers a s;
            taken = answers_more;
            why = inl (record {
              earlier = k;
              last = ap (λ (z : Texts). length z) (askeds a m None None (Some (Numbered e v)) says s) ∙ (let x : length (services a s) ≡ suc k = omega (arith, asked, last) in x);
              left = left;
              so_far = r;
              differs = differs;
            });
          },
        )

abbrev expected_of : Expect → List ℕ
expected_of AckOnly = []
expected_of (Is wanted) = wanted
expected_of Note = []

differs_not : (x y : List ℕ) (b : Bool) → b ≡ false → (x ≡ y → b ≡ true) → x ≢ y
differs_not x y b e f same = let z : false ≡ true = sym e ∙ f same in cc

pub differs : (place : ℕ) (apdu : List ℕ) (expect : Expect) (next : Option (List ℕ) → Plan) (v : List ℕ) → expect ≢ AckOnly → suits (Asks place apdu expect next) v ≡ false → Differs (Asks place apdu expect next) place v (expected_of expect)
differs place apdu AckOnly next v some h = absurd (some refl)
differs place apdu (Is wanted) next v some h = (refl, differs_not v wanted (suits (Asks place apdu (Is wanted) next) v) h (λ same. (bytes_eq-Decides v wanted).1 same), refl)
differs place apdu Note next v some h = (refl, h, refl)

-- ---- the books

module _ (W : Type 0) (a : ℕ) (plan : Plan) (m : Moment) (l : List Moment) (k n e : ℕ) where
  pub begins_books : Says a m (Some Connect) None None → (One a l (IsLeft (Decided W a plan)) → ⊥) → Books W a plan k n e Rests l → Books W a plan (suc k) n e (Opens true) (m ∷ l)
  begins_books says undecided (inl (zero_is, none)) = inr (ap suc zero_is, one_begins a m l IsOpening says.put none tt)
  begins_books says undecided (inr (one, o)) = absurd (undecided o)

  pub asks_books : (j place : ℕ) (apdu : List ℕ) (expect : Expect) (next : Option (List ℕ) → Plan) (left : Plan) (closing : Bool) → Says a m (Some (Numbered j apdu)) None None → j ≡ n → closing ≡ false → left ≡ Asks place apdu expect next
      → Books W a plan k n e (Ready left closing) l → Books W a plan k n e (Sends place apdu expect next) (m ∷ l)
  asks_books j place apdu expect next left closing says same on head (inl b) = absurd b
  asks_books j place apdu expect next left closing says same on head (inr (one, o)) =
      inr (
        one,
        one_more a m l (CourseIs W a plan n e (Ready left closing)) (CourseIs W a plan n e (Sends place apdu expect next)) (ap is_connect says.put)
            (in_on a m (Some (Numbered j apdu)) None None says (InSo a plan n e (Ready left closing)) (InSo a plan n e (Sends place apdu expect next)) (λ s h. (refl, asks_in a plan m n e s j place apdu expect next left closing says same on head h))) o,
      )

  pub ack_books : (left : Plan) (closing : Bool) (v : List ℕ) (j : ℕ) → Says a m (Some (Ack j)) None None → Books W a plan k n e (Owes left closing v j) l → Books W a plan k n e (Acks true left closing v j) (m ∷ l)
  ack_books left closing v j says (inl b) = absurd b
  ack_books left closing v j says (inr (one, o)) =
      inr (
        one,
        one_more a m l (CourseIs W a plan n e (Owes left closing v j)) (CourseIs W a plan n e (Acks true left closing v j)) (ap is_connect says.put)
            (in_on a m (Some (Ack j)) None None says (InSo a plan n e (Owes left closing v j)) (InSo a plan n e (Acks true left closing v j)) (λ s h. (refl, same_in a plan s (m ∷ s) (ack_same a plan m n e s j says) n e (Acks true left closing v j) h))) o,
      )

  pub leave_books : (left : Plan) (closing : Bool) → Says a m (Some Disconnect) None None → (closing ≡ true) ⊎ (left ≡ Over) → (W → closing ≡ false) → Books W a plan k n e (Ready left closing) l → Books W a plan k n e (Leaves true left) (m ∷ l)
  leave_books left closing says why wants (inl b) = absurd b
  leave_books left closing says why wants (inr (one, o)) =
      inr (
        one,
        one_more a m l (CourseIs W a plan n e (Ready left closing)) (CourseIs W a plan n e (Leaves true left)) (ap is_connect says.put)
            (in_ends a m (Some Disconnect) None None says (InSo a plan n e (Ready left closing)) (Decided W a plan) (λ s h. (refl, leave_in a plan m n e s W left closing says why wants h))) o,
      )

  -- ---- confirmations

  opened_in : InSo a plan 0 0 (Ready plan false) []
  opened_in = (record { number_is = refl; expected_is = refl; asked_is = refl }, refl)

  pub opened_books : Says a m None (Some false) None → Books W a plan k n e (Opens false) l → Books W a plan k 0 0 (Ready plan false) (m ∷ l)
  opened_books says (inl b) = absurd b
  opened_books says (inr (one, o)) =
      inr (one, one_more a m l IsOpening (IsIn (InSo a plan 0 0 (Ready plan false))) (ap is_connect says.put) (opened a m None (Some false) None says (InSo a plan 0 0 (Ready plan false)) refl opened_in) o)

  pub served_books : (place : ℕ) (apdu : List ℕ) (expect : Expect) (next : Option (List ℕ) → Plan) (o : Option (List ℕ)) → Says a m None (Some false) None → Books W a plan k n e (Served true place apdu expect next o) l → Books W a plan k n e (Served false place apdu expect next o) (m ∷ l)
  served_books place apdu expect next o says h = books_more W a plan m (Some false) says n e k (Served false place apdu expect next o) l (inr tt) h

  to_ready : (left : Plan) (closing : Bool) (v : List ℕ) (j : ℕ) (x : List Moment) → Books W a plan k n e (Acks false left closing v j) x → Books W a plan k n e (Ready left closing) x
  to_ready left closing v j x (inl b) = absurd b
  to_ready left closing v j x (inr h) = inr h

  pub acks_books : (left : Plan) (closing : Bool) (v : List ℕ) (j : ℕ) → Says a m None (Some false) None → Books W a plan k n e (Acks false left closing v j) l → Books W a plan k n e (Ready left closing) (m ∷ l)
  acks_books left closing v j says h = to_ready left closing v j (m ∷ l) (books_more W a plan m (Some false) says n e k (Acks false left closing v j) l (inr tt) h)

  to_rest : (left : Plan) (x : List Moment) → Books W a plan k n e (Leaves false left) x → Books W a plan k n e Rests x
  to_rest left x (inl b) = absurd b
  to_rest left x (inr h) = inr h

  pub leaves_books : (left : Plan) → Says a m None (Some false) None → Books W a plan k n e (Leaves false left) l → Books W a plan k n e Rests (m ∷ l)
  leaves_books left says h = to_rest left (m ∷ l) (books_more W a plan m (Some false) says n e k (Leaves false left) l (inr tt) h)

  -- ---- frames of the device

  pub lacks_books : (place : ℕ) (apdu : List ℕ) (expect : Expect) (next : Option (List ℕ) → Plan) (v : List ℕ) → Says a m None None (Some (Ack n)) → Books W a plan k n e (Served false place apdu expect next (Some v)) l → Books W a plan k (next_number n) e (Awaits place apdu expect next v) (m ∷ l)
  lacks_books place apdu expect next v says (inl b) = absurd b
  lacks_books place apdu expect next v says (inr (one, o)) =
      inr (
        one,
        one_more a m l (CourseIs W a plan n e (Served false place apdu expect next (Some v))) (CourseIs W a plan (next_number n) e (Awaits place apdu expect next v)) (ap is_connect says.put)
            (in_on a m None None (Some (Ack n)) says (InSo a plan n e (Served false place apdu expect next (Some v))) (InSo a plan (next_number n) e (Awaits place apdu expect next v))
            (λ s h. (goes_on a plan m n e s says h.0, (acked_stands a plan m n e s says h.0, lacks_in a plan m n e s says h.0 (Asks place apdu expect next) h.1)))) o,
      )

  pub next_books : (place : ℕ) (apdu : List ℕ) (next : Option (List ℕ) → Plan) → Says a m None None (Some (Ack n)) → Books W a plan k n e (Served false place apdu AckOnly next None) l → Books W a plan k (next_number n) e (Ready (next None) false) (m ∷ l)
  next_books place apdu next says (inl b) = absurd b
  next_books place apdu next says (inr (one, o)) =
      inr (
        one,
        one_more a m l (CourseIs W a plan n e (Served false place apdu AckOnly next None)) (CourseIs W a plan (next_number n) e (Ready (next None) false)) (ap is_connect says.put)
            (in_on a m None None (Some (Ack n)) says (InSo a plan n e (Served false place apdu AckOnly next None)) (InSo a plan (next_number n) e (Ready (next None) false))
            (λ s h. (goes_on a plan m n e s says h.0, (acked_stands a plan m n e s says h.0, next_in a plan m n e s says h.0 place apdu next h.1)))) o,
      )

  pub wanted_books : (place : ℕ) (apdu : List ℕ) (expect : Expect) (next : Option (List ℕ) → Plan) (v : List ℕ) → Says a m None None (Some (Numbered e v)) → Suits apdu expect (Some v) → Books W a plan k n e (Awaits place apdu expect next v) l → Books W a plan k n (next_number e) (Owes (next (Some v)) false v e) (m ∷ l)
  wanted_books place apdu expect next v says fits (inl b) = absurd b
  wanted_books place apdu expect next v says fits (inr (one, o)) =
      inr (
        one,
        one_more a m l (CourseIs W a plan n e (Awaits place apdu expect next v)) (CourseIs W a plan n (next_number e) (Owes (next (Some v)) false v e)) (ap is_connect says.put)
            (in_on a m None None (Some (Numbered e v)) says (InSo a plan n e (Awaits place apdu expect next v)) (InSo a plan n (next_number e) (Owes (next (Some v)) false v e))
            (λ s h. (refl, (answered_stands a plan m n e s v says h.0, wanted_in a plan m n e s v says h.0 place apdu expect next fits h.1)))) o,
      )

  pub refused_books : (place : ℕ) (apdu : List ℕ) (expect : Expect) (next : Option (List ℕ) → Plan) (v : List ℕ) → Says a m None None (Some (Numbered e v)) → expect ≢ AckOnly → suits (Asks place apdu expect next) v ≡ false
      → Books W a plan k n e (Awaits place apdu expect next v) l → Books W a plan k n (next_number e) (Owes (Asks place apdu expect next) true v e) (m ∷ l)
  refused_books place apdu expect next v says some unfit (inl b) = absurd b
  refused_books place apdu expect next v says some unfit (inr (one, o)) =
      inr (
        one,
        one_more a m l (CourseIs W a plan n e (Awaits place apdu expect next v)) (CourseIs W a plan n (next_number e) (Owes (Asks place apdu expect next) true v e)) (ap is_connect says.put)
            (in_on a m None None (Some (Numbered e v)) says (InSo a plan n e (Awaits place apdu expect next v)) (InSo a plan n (next_number e) (Owes (Asks place apdu expect next) true v e))
            (λ s h. (refl, (answered_stands a plan m n e s v says h.0, refused_in a plan m n e s v says h.0 (Asks place apdu expect next) place (expected_of expect) (differs place apdu expect next v some unfit) h.1)))) o,
      )
