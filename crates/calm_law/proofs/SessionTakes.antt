-- One device of a calm line: what the client takes of it.
use Rattle.std.proofs.Common.{◌≡◌, ◌≢◌, ℕ, ◌<◌, List, [], ◌∷◌, Bool, true, false, cond, Option, Some, None, refl, sym, ◌∙◌, ap, subst, arith}
use Rattle.std.proofs.lemmas.Bool.{eq-eqb}
use Rattle.std.proofs.lemmas.Slice.Eq.{bytes_eq-Decides}
use Rattle.knx_model.specs.declared.address.IndAddr.{IndAddr}
use Rattle.knx_model.specs.declared.connection.ClientTook.TheVariants as heard
use Rattle.knx_model.specs.declared.connection.TransportFrame.{TransportFrame}
use Rattle.knx_model.specs.declared.connection.TransportFrame.TheVariants.{Ack, Numbered}
use Rattle.knx_model.specs.declared.device.FrameSupport.{FrameSupport}
use Rattle.knx_model.specs.declared.frames.tpdu.Tpdu.TheVariants as tpdus
use Rattle.knx_model.specs.declared.plan.Expect.{Expect}
use Rattle.knx_model.specs.declared.plan.Expect.TheVariants.{AckOnly, Is, Note}
use Rattle.knx_model.specs.Apdu.{Written}
use Rattle.knx_model.specs.ClientConnection.{Up, Awaiting, client_took, client_after, after_confirmed, has_answer}
use Rattle.knx_model.specs.Connection.{next_number}
use Rattle.knx_model.specs.Device.{NonVolatile}
use Rattle.knx_model.specs.Plans.{Plan, Asks, Suits, followed}
use Rattle.line_model.specs.Progress.{suits}
use Rattle.line_model.specs.Attempts.{Attempts, Running, sent_of, confirmed_so, heard_so, owing}
use Rattle.line_model.specs.Moments.{Moment}
use Rattle.calm_law.proofs.Books.{Says}
use Rattle.calm_law.proofs.Spending.{Ledger, opened_ledger, served_ledger, acks_ledger, leaves_ledger, lacks_ledger, next_ledger, wanted_ledger, refused_ledger}
use Rattle.calm_law.proofs.Phases.{Item, Told, Heard, Phase, Rests, Opens, Ready, Sends, Served, Awaits, Owes, Acks, Leaves, fly_at, stream_at, answer_items, attempts_at, connection_at, client_at, attempt_of, Answers, Wants, IsGood}

-- what an item is to the attempts
abbrev pub taken_item : ℕ → Attempts → Item → Attempts
taken_item now t Told = confirmed_so now t (Some false)
taken_item now t (Heard f) = heard_so now t (Some f)

-- the moment by which it comes to the client of this device
abbrev pub SaysItem : ℕ → Moment → Item → Type 0
SaysItem a m Told = Says a m None (Some false) None
SaysItem a m (Heard f) = Says a m None None (Some f)

module _ (me device : IndAddr) (plan : Plan) (k now : ℕ) (frames : FrameSupport) (kept : NonVolatile) (W : Type 0) where
  pub record Got (n e : ℕ) (phase : Phase) (item : Item) (rest : List Item) : Type 0 where
    pub number : ℕ
    pub expected : ℕ
    pub next : Phase
    pub lands : fly_at number next ≡ None
    pub flew : fly_at n phase ≡ None
    pub is : taken_item now (attempts_at me device plan k n e now phase) item ≡ attempts_at me device plan k number expected now next
    pub stream : rest ≡ stream_at number expected next
    pub connection : connection_at me device plan n e now phase ≡ connection_at me device plan number expected now next
    pub good : IsGood plan expected next frames kept
    pub numbers : (number < 16) × (expected < 16)
    pub books : (a : ℕ) (m : Moment) (l : List Moment) → SaysItem a m item → Ledger W a plan k n e phase l → Ledger W a plan k number expected next (m ∷ l)
    pub wants : Wants W plan k phase frames kept → Wants W plan k next frames kept

  next_small : (n : ℕ) → next_number n < 16
  next_small n = omega arith

  -- ---- confirmations

  told : (n e : ℕ) (phase : Phase) (rest : List Item) → (n < 16) × (e < 16) → IsGood plan e phase frames kept → Told ∷ rest ≡ stream_at n e phase → Got n e phase Told rest
  unfolding after_confirmed
  told n e Rests rest small good h = absurd (cc)
  told n e (Opens true) rest small good h = absurd (cc)
  told n e (Opens false) rest small good h = record { number = 0; expected = 0; next = Ready plan false; lands = refl; flew = refl; is = refl; stream = (let r : rest ≡ [] = cc in r); connection = refl; good = good; numbers = (omega arith, omega arith); books = λ a m l says h. opened_ledger W a plan m l k n e says h; wants = λ h w. (refl, h w) }
  told n e (Ready left closing) rest small good h = absurd (cc)
  told n e (Sends place apdu expect next) rest small good h = absurd (cc)
  told n e (Served true place apdu expect next o) rest small good h =
      record { number = n; expected = e; next = Served false place apdu expect next o; lands = refl; flew = refl; is = refl; stream = (let r : rest ≡ Heard (Ack n) ∷ answer_items e o = cc in r); connection = refl; good = good; numbers = small; books = λ a m l says h. served_ledger W a plan m l k n e place apdu expect next o says h; wants = λ h. h }
  told n e (Served false place apdu expect next o) rest small good h = absurd (cc)
  told n e (Awaits place apdu expect next v) rest small good h = absurd (cc)
  told n e (Owes left closing v m) rest small good h = absurd (cc)
  told n e (Acks true left closing v m) rest small good h = absurd (cc)
  told n e (Acks false left closing v m) rest small good h = record { number = n; expected = e; next = Ready left closing; lands = refl; flew = refl; is = refl; stream = (let r : rest ≡ [] = cc in r); connection = refl; good = good.0; numbers = small; books = λ a t l says h. acks_ledger W a plan t l k n e left closing v m says h; wants = λ h. h }
  told n e (Leaves true left) rest small good h = absurd (cc)
  told n e (Leaves false left) rest small good h = record { number = n; expected = e; next = Rests; lands = refl; flew = refl; is = refl; stream = (let r : rest ≡ [] = cc in r); connection = refl; good = tt; numbers = small; books = λ a m l says h. leaves_ledger W a plan m l k n e left says h; wants = λ one none. absurd (let c : 1 ≡ 0 = sym one ∙ none in cc) }

  -- ---- the T_ACK

  -- with an answer to come, or without
  ack_next : (n e place : ℕ) (apdu : List ℕ) (expect : Expect) (next : Option (List ℕ) → Plan) (o : Option (List ℕ)) (rest : List Item) → (n < 16) × (e < 16) → Answers place apdu expect next o frames kept → rest ≡ answer_items e o
      → Got n e (Served false place apdu expect next o) (Heard (Ack n)) rest
  unfolding client_took client_after
  ack_next n e place apdu expect next (Some v) rest small good r =
      record {
        number = next_number n;
        expected = e;
        next = Awaits place apdu expect next v;
        lands = refl;
        flew = refl;
        is = rw (eq-eqb n n refl, sym good.exactly) refl;
        stream = r;
        connection = refl;
        good = good;
        numbers = (next_small n, small.1);
        books = λ a m l says h. lacks_ledger W a plan m l k n e place apdu expect next v says h;
        wants = λ h. h;
      }
  ack_next n e place apdu AckOnly next None rest small good r =
      record {
        number = next_number n;
        expected = e;
        next = Ready (next None) false;
        lands = refl;
        flew = refl;
        is = rw (eq-eqb n n refl, sym good.exactly) refl;
        stream = r;
        connection = refl;
        good = record { sendable = good.sendable.2 None; served = λ z. good.served tt };
        numbers = (next_small n, small.1);
        books = λ a m l says h. next_ledger W a plan m l k n e place apdu next says h;
        wants = λ h w. (refl, (h w).1);
      }
  ack_next n e place apdu (Is wanted) next None rest small good r = absurd (let a : true ≡ has_answer apdu = good.sendable.1 in let b : false ≡ has_answer apdu = good.exactly in cc)
  ack_next n e place apdu Note next None rest small good r = absurd (let a : true ≡ has_answer apdu = good.sendable.1 in let b : false ≡ has_answer apdu = good.exactly in cc)

  -- ---- the answer

  abbrev Owing : ℕ → ℕ → Plan → Bool → List ℕ → Attempts
  Owing n e left closing v = Running k (attempt_of (Up (client_at device n (next_number e) now)) left (Written (tpdus.Ack e) ∷ []) None closing)

  answer_is : (n e : ℕ) (left : Plan) (v : List ℕ) → heard_so now (Running k (attempt_of (Awaiting (client_at device n e now)) left [] None false)) (Some (Numbered e v))
      ≡ Running k (owing (cond (suits left v) (record (attempt_of (Awaiting (client_at device n e now)) left [] None false) { left = followed left v }) (record (attempt_of (Awaiting (client_at device n e now)) left [] None false) { closing = true })) now (heard.Answer v (Written (tpdus.Ack e))) (Written (tpdus.Ack e)))
  unfolding client_took
  answer_is n e left v = rw (eq-eqb e e refl) refl

  owing_as : (n e : ℕ) (left goes : Plan) (v : List ℕ) (b : Bool)
      → Running k (owing (cond b (record (attempt_of (Awaiting (client_at device n e now)) left [] None false) { left = goes }) (record (attempt_of (Awaiting (client_at device n e now)) left [] None false) { closing = true })) now (heard.Answer v (Written (tpdus.Ack e))) (Written (tpdus.Ack e)))
      ≡ cond b (Owing n e goes false v) (Owing n e left true v)
  unfolding client_after
  owing_as n e left goes v true = refl
  owing_as n e left goes v false = refl

  answer_by : (n e place : ℕ) (apdu : List ℕ) (expect : Expect) (next : Option (List ℕ) → Plan) (v : List ℕ) (rest : List Item) → (n < 16) × (e < 16) → Answers place apdu expect next (Some v) frames kept → rest ≡ []
      → expect ≢ AckOnly → sent_of (Asks place apdu expect next) ≡ Asks place apdu expect next → (suits (Asks place apdu expect next) v ≡ true → Suits apdu expect (Some v)) → (Suits apdu expect (Some v) → suits (Asks place apdu expect next) v ≡ true) → (b : Bool) → suits (Asks place apdu expect next) v ≡ b
      → Got n e (Awaits place apdu expect next v) (Heard (Numbered e v)) rest
  answer_by n e place apdu expect next v rest small good r some same fits suits_it true suit =
      record {
        number = n;
        expected = next_number e;
        next = Owes (next (Some v)) false v e;
        lands = refl;
        flew = refl;
        is = ap (λ l. heard_so now (Running k (attempt_of (Awaiting (client_at device n e now)) l [] None false)) (Some (Numbered e v))) same ∙ answer_is n e (Asks place apdu expect next) v
            ∙ owing_as n e (Asks place apdu expect next) (next (Some v)) v (suits (Asks place apdu expect next) v) ∙ ap (λ b. cond b (Owing n e (next (Some v)) false v) (Owing n e (Asks place apdu expect next) true v)) suit;
        stream = r;
        connection = refl;
        good = (record { sendable = good.sendable.2 (Some v); served = λ z. good.served (fits suit) }, (small.1, refl));
        numbers = (small.0, next_small e);
        books = λ a m l says h. wanted_ledger W a plan m l k n e place apdu expect next v says (fits suit) h;
        wants = λ h w. (refl, (h w).1);
      }
  answer_by n e place apdu expect next v rest small good r some same fits suits_it false suit =
      record {
        number = n;
        expected = next_number e;
        next = Owes (Asks place apdu expect next) true v e;
        lands = refl;
        flew = refl;
        is = ap (λ l. heard_so now (Running k (attempt_of (Awaiting (client_at device n e now)) l [] None false)) (Some (Numbered e v))) same ∙ answer_is n e (Asks place apdu expect next) v
            ∙ owing_as n e (Asks place apdu expect next) (next (Some v)) v (suits (Asks place apdu expect next) v) ∙ ap (λ b. cond b (Owing n e (next (Some v)) false v) (Owing n e (Asks place apdu expect next) true v)) suit;
        stream = r;
        connection = refl;
        good = (record { sendable = good.sendable; served = λ z. absurd (let a : true ≡ false = z in cc) }, (small.1, refl));
        numbers = (small.0, next_small e);
        books = λ a m l says h. refused_ledger W a plan m l k n e place apdu expect next v says some suit h;
        wants = λ h w. absurd (let c : true ≡ false = sym (suits_it (h w).0) ∙ suit in cc);
      }

  answer_next : (n e place : ℕ) (apdu : List ℕ) (expect : Expect) (next : Option (List ℕ) → Plan) (v : List ℕ) (rest : List Item) → (n < 16) × (e < 16) → Answers place apdu expect next (Some v) frames kept → rest ≡ []
      → Got n e (Awaits place apdu expect next v) (Heard (Numbered e v)) rest
  answer_next n e place apdu AckOnly next v rest small good r = absurd (let a : false ≡ has_answer apdu = good.sendable.1 in let b : true ≡ has_answer apdu = good.exactly in cc)
  answer_next n e place apdu (Is wanted) next v rest small good r =
      answer_by n e place apdu (Is wanted) next v rest small good r (λ c. cc) refl (λ h. (bytes_eq-Decides v wanted).0 h) (λ h. (bytes_eq-Decides v wanted).1 h) (suits (Asks place apdu (Is wanted) next) v) refl
  answer_next n e place apdu Note next v rest small good r = answer_by n e place apdu Note next v rest small good r (λ c. cc) refl (λ h. h) (λ h. h) (suits (Asks place apdu Note next) v) refl

  -- ---- each item

  pub heard_one : (n e : ℕ) (phase : Phase) (f : TransportFrame) (rest : List Item) → (n < 16) × (e < 16) → IsGood plan e phase frames kept → Heard f ∷ rest ≡ stream_at n e phase → Got n e phase (Heard f) rest
  heard_one n e Rests f rest small good h = absurd (cc)
  heard_one n e (Opens true) f rest small good h = absurd (cc)
  heard_one n e (Opens false) f rest small good h = absurd (cc)
  heard_one n e (Ready left closing) f rest small good h = absurd (cc)
  heard_one n e (Sends place apdu expect next) f rest small good h = absurd (cc)
  heard_one n e (Served true place apdu expect next o) f rest small good h = absurd (cc)
  heard_one n e (Served false place apdu expect next o) f rest small good h =
      let f_is : f ≡ Ack n = cc in
      let r : rest ≡ answer_items e o = cc in
      subst (λ z. Got n e (Served false place apdu expect next o) (Heard z) rest) (sym f_is) (ack_next n e place apdu expect next o rest small good r)
  heard_one n e (Awaits place apdu expect next v) f rest small good h =
      let f_is : f ≡ Numbered e v = cc in
      let r : rest ≡ [] = cc in
      subst (λ z. Got n e (Awaits place apdu expect next v) (Heard z) rest) (sym f_is) (answer_next n e place apdu expect next v rest small good r)
  heard_one n e (Owes left closing v m) f rest small good h = absurd (cc)
  heard_one n e (Acks true left closing v m) f rest small good h = absurd (cc)
  heard_one n e (Acks false left closing v m) f rest small good h = absurd (cc)
  heard_one n e (Leaves true left) f rest small good h = absurd (cc)
  heard_one n e (Leaves false left) f rest small good h = absurd (cc)

  -- the item that comes is the one that is awaited
  pub got_kept : (n e : ℕ) (phase : Phase) (item : Item) (rest : List Item) → (n < 16) × (e < 16) → IsGood plan e phase frames kept → item ∷ rest ≡ stream_at n e phase → Got n e phase item rest
  got_kept n e phase Told rest small good h = told n e phase rest small good h
  got_kept n e phase (Heard f) rest small good h = heard_one n e phase f rest small good h
