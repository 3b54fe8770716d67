-- One device of a calm line: what the client puts to it.
use Rattle.std.proofs.Common.{◌≡◌, ℕ, suc, ◌<◌, ◌⊎◌, List, [], ◌∷◌, Bool, true, false, Some, None, refl, sym, ◌∙◌, ap, subst, inl, inr}
use Rattle.knx_model.specs.declared.address.IndAddr.{IndAddr}
use Rattle.knx_model.specs.declared.connection.ClientExpired.{ClientExpired}
use Rattle.knx_model.specs.declared.connection.ClientExpired.TheVariants as over
use Rattle.knx_model.specs.declared.connection.TransportFrame.{TransportFrame}
use Rattle.knx_model.specs.declared.connection.TransportFrame.TheVariants.{Connect, Disconnect, Ack, Nak, Numbered, Other}
use Rattle.knx_model.specs.declared.device.FrameSupport.{FrameSupport}
use Rattle.knx_model.specs.declared.frames.tpdu.Tpdu.TheVariants as tpdus
use Rattle.knx_model.specs.Apdu.{Written}
use Rattle.knx_model.specs.ClientConnection.{Up, Asking, Awaiting, client_sent, after_send, client_expired}
use Rattle.knx_model.specs.Connection.{Session, IsApdu, frame_in, numbered_data}
use Rattle.knx_model.specs.Device.{NonVolatile, answer_in}
use Rattle.knx_model.specs.GoodPlan.{IsSendable, AnswersAll}
use Rattle.knx_model.specs.Plans.{Plan, Over, Asks}
use Rattle.knx_model.specs.Served.{IsServed}
use Rattle.line_model.specs.Attempts.{Attempts, Resting, Running, sent_of, put_so, put_attempt, MayPut, MayDisconnect, IsNext, IsRepeat, IsDone, Owes as OwesIt, is_silent}
use Rattle.line_model.specs.Moments.{Moment}
use Rattle.session_law.proofs.Frames.{numbered_read, ack_read}
use Rattle.calm_law.proofs.Books.{Says, One, IsLeft, Decided}
use Rattle.calm_law.proofs.Spending.{Ledger, begins_ledger, asks_ledger, ack_ledger, leave_ledger}
use Rattle.calm_law.proofs.Falls.{not_passed}
use Rattle.calm_law.proofs.Phases.{Phase, Rests, Opens, Ready, Sends, Served, Awaits, Owes, Acks, Leaves, fly_at, stream_at, attempts_at, connection_at, Goes, Wants, IsGood, Follows, client_at, waiting_question, attempt_of}

-- the attempt's last frame is confirmed
abbrev pub NothingFlies : Attempts → Type 0
NothingFlies (Resting k) = Unit {0}
NothingFlies (Running k a) = a.flying ≡ None

module _ (me device : IndAddr) (plan : Plan) (n e now : ℕ) (frames : FrameSupport) (kept : NonVolatile) (W : Type 0) where
  -- what comes of it
  pub record Put (k : ℕ) (phase : Phase) (f : TransportFrame) : Type 0 where
    pub begun : ℕ
    pub next : Phase
    pub flies : fly_at n next ≡ Some f
    pub is : put_so device plan now (attempts_at me device plan k n e now phase) (Some f) ≡ attempts_at me device plan begun n e now next
    pub good : IsGood plan e next frames kept
    pub stream : stream_at n e next ≡ stream_at n e phase
    pub connection : connection_at me device plan n e now next ≡ connection_at me device plan n e now phase
    pub books : (a : ℕ) (m : Moment) (l : List Moment) → Says a m (Some f) None None → (f ≡ Connect → One a l (IsLeft (Decided W a plan)) → ⊥) → Ledger W a plan k n e phase l → Wants W plan k phase frames kept → Ledger W a plan begun n e next (m ∷ l) × Wants W plan begun next frames kept

  -- no wait has passed
  asking_not : (s : Session) (apdu : List ℕ) → client_expired (Asking s (waiting_question n apdu (Some now))) now ≡ over.Nothing
  unfolding client_expired
  asking_not s apdu = rw (not_passed 2999 now) refl

  awaiting_not : client_expired (Awaiting (client_at device n e now)) now ≡ over.Nothing
  unfolding client_expired
  awaiting_not = rw (not_passed 5999 now) refl

  up_not : (s : Session) → client_expired (Up s) now ≡ over.Nothing
  unfolding client_expired
  up_not s = refl

  not_silent : (x : ClientExpired) → x ≡ over.Nothing → is_silent x ≡ true → ⊥
  not_silent x h g = let a : is_silent over.Nothing ≡ true = subst (λ z. is_silent z ≡ true) h g in cc

  not_repeat : (x : ClientExpired) (frame : List ℕ) → x ≡ over.Nothing → x ≡ over.Repeat frame → ⊥
  not_repeat x frame h g = let a : over.Nothing ≡ over.Repeat frame = sym h ∙ g in cc

  sent_up : (s : Session) (apdu : List ℕ) → client_sent (Up s) apdu ≡ Some (numbered_data s.number apdu)
  unfolding client_sent
  sent_up s apdu = refl

  asked_up : (s : Session) (apdu : List ℕ) → after_send (Up s) apdu now ≡ Asking (record s { last = now }) (waiting_question s.number apdu None)
  unfolding after_send
  asked_up s apdu = refl

  same_number : (a b : ℕ) (x y : List ℕ) → ◌≡◌ {A = TransportFrame} (Numbered a x) (Numbered b y) → (a ≡ b) × (x ≡ y)
  same_number a b x y h = (cc, cc)

  same_ack : (a b : ℕ) → ◌≡◌ {A = TransportFrame} (Ack a) (Ack b) → a ≡ b
  same_ack a b h = cc

  -- ---- a T_Connect

  first_wants : {k : ℕ} (a : ℕ) (l : List Moment) → (One a l (IsLeft (Decided W a plan)) → ⊥) → Ledger W a plan k n e Rests l → Wants W plan k Rests frames kept → W → AnswersAll (answer_in frames) plan kept
  first_wants a l undecided (inl b, spends) wants = wants b.0
  first_wants a l undecided (inr (one, o), spends) wants = absurd (undecided o)

  pub put_connect : (k : ℕ) → Goes plan false frames kept → Put k Rests Connect
  put_connect k good = record { begun = suc k; next = Opens true; flies = refl; is = refl; good = good; stream = refl; connection = refl; books = λ a m l says undecided h wants. (begins_ledger W a plan m l k n e says (undecided refl) h, first_wants a l (undecided refl) h wants) }

  -- ---- a service

  number_is : (k : ℕ) (left : Plan) (closing : Bool) (tpdu : List ℕ) (number : ℕ) (apdu : List ℕ) → n < 16 → IsSendable left → (x : IsNext (attempt_of (Up (client_at device n e now)) left [] None closing) apdu tpdu) → frame_in tpdu ≡ Numbered number apdu → number ≡ n
  number_is k left closing tpdu number apdu small sendable x read =
      let at : Some (numbered_data n apdu) ≡ Some tpdu = sym (sent_up (client_at device n e now) apdu) ∙ x.as_sent in
      let tpdu_is : numbered_data n apdu ≡ tpdu = cc in
      let is_apdu : IsApdu apdu = (subst IsSendable x.head sendable).0 in
      let frame_is : Numbered n apdu ≡ Numbered number apdu = sym (numbered_read n apdu small is_apdu) ∙ ap frame_in tpdu_is ∙ read in
      sym (same_number n number apdu apdu frame_is).0

  pub put_service : (k : ℕ) (left : Plan) (closing : Bool) (tpdu : List ℕ) (number : ℕ) (apdu : List ℕ) → n < 16 → Goes left closing frames kept → frame_in tpdu ≡ Numbered number apdu
      → MayPut (attempts_at me device plan k n e now (Ready left closing)) now tpdu (Numbered number apdu) → Put k (Ready left closing) (Numbered number apdu)
  put_service k left closing tpdu number apdu small good read may = by_which may.which where
    by_which : IsNext (attempt_of (Up (client_at device n e now)) left [] None closing) apdu tpdu ⊎ IsRepeat (attempt_of (Up (client_at device n e now)) left [] None closing) now tpdu → Put k (Ready left closing) (Numbered number apdu)
    by_which (inr again) = absurd (not_repeat _ tpdu (up_not (client_at device n e now)) again)
    by_which (inl x) =
        let num : number ≡ n = number_is k left closing tpdu number apdu small good.sendable x read in
        let on : closing ≡ false = x.goes_on in
        let same : put_attempt (attempt_of (Up (client_at device n e now)) left [] None closing) now (Numbered number apdu)
        ≡ attempt_of (Asking (client_at device n e now) (waiting_question n apdu None)) (sent_of left) [] (Some (Numbered number apdu)) closing
        = rw (sent_up (client_at device n e now) apdu, asked_up (client_at device n e now) apdu) refl in
        record {
          begun = k;
          next = Sends x.place apdu x.expect x.next;
          flies = ap (λ z. Some (Numbered z apdu)) (sym num);
          is = ap (λ a. Running k a) same ∙ ap (λ z. Running k (attempt_of (Asking (client_at device n e now) (waiting_question n apdu None)) (sent_of left) [] (Some (Numbered z apdu)) closing)) num
              ∙ ap (λ z. Running k (attempt_of (Asking (client_at device n e now) (waiting_question n apdu None)) (sent_of z) [] (Some (Numbered n apdu)) closing)) x.head
              ∙ ap (λ z. Running k (attempt_of (Asking (client_at device n e now) (waiting_question n apdu None)) (sent_of (Asks x.place apdu x.expect x.next)) [] (Some (Numbered n apdu)) z)) on;
          good = record { sendable = subst IsSendable x.head good.sendable; served = λ z. subst (λ p. IsServed frames p kept) x.head (good.served on) };
          stream = refl;
          connection = refl;
          books = λ a m l says undecided h wants. (asks_ledger W a plan m l k n e number x.place apdu x.expect x.next left closing says num on x.head h, λ w. subst (λ z. AnswersAll (answer_in frames) z kept) x.head (wants w).1);
        }

  -- ---- a T_ACK

  pub put_ack : (k : ℕ) (left : Plan) (closing : Bool) (v : List ℕ) (m : ℕ) (tpdu : List ℕ) (f : TransportFrame) → Goes left closing frames kept × Follows m e → frame_in tpdu ≡ f
      → OwesIt tpdu (attempt_of (Up (client_at device n e now)) left (Written (tpdus.Ack m) ∷ []) None closing) → (f ≡ Ack m) × Put k (Owes left closing v m) (Ack m)
  put_ack k left closing v m tpdu f good read owes =
      let two : Written (tpdus.Ack m) ∷ [] ≡ tpdu ∷ owes.0 = owes.1 in
      let tpdu_is : Written (tpdus.Ack m) ≡ tpdu = cc in
      (sym read ∙ ap frame_in (sym tpdu_is) ∙ ack_read m good.1.0, record { begun = k; next = Acks true left closing v m; flies = refl; is = refl; good = good; stream = refl; connection = refl; books = λ a t l says undecided h wants. (ack_ledger W a plan t l k n e left closing v m says h, wants) })

  -- ---- a T_Disconnect

  -- the plan is over, or an answer was refused
  why_leaves : (left : Plan) (closing : Bool) → MayDisconnect (attempt_of (Up (client_at device n e now)) left [] None closing) now → (closing ≡ true) ⊎ (left ≡ Over)
  why_leaves left closing (inl over_) = by_which over_.which where
    by_which : (closing ≡ true) ⊎ IsDone (attempt_of (Up (client_at device n e now)) left [] None closing) → (closing ≡ true) ⊎ (left ≡ Over)
    by_which (inl c) = inl c
    by_which (inr d) = inr d.all
  why_leaves left closing (inr silent) = absurd (not_silent _ (up_not (client_at device n e now)) silent)

  one_began : (k : ℕ) (left : Plan) (closing : Bool) (a : ℕ) (l : List Moment) → Ledger W a plan k n e (Ready left closing) l → k ≡ 1
  one_began k left closing a l (inl b, spends) = absurd b
  one_began k left closing a l (inr h, spends) = h.0

  pub put_leave : (k : ℕ) (left : Plan) (closing : Bool) → MayDisconnect (attempt_of (Up (client_at device n e now)) left [] None closing) now → Put k (Ready left closing) Disconnect
  put_leave k left closing may =
      record { begun = k; next = Leaves true left; flies = refl; is = refl; good = tt; stream = refl; connection = refl; books = λ a m l says undecided h wants. (leave_ledger W a plan m l k n e left closing says (why_leaves left closing may) (λ w. (wants w).0) h, one_began k left closing a l h) }

  -- ---- and nothing else

  pub put_kept : (k : ℕ) (phase : Phase) (tpdu : List ℕ) (f : TransportFrame) → (n < 16) × (e < 16) → frame_in tpdu ≡ f → Goes plan false frames kept → IsGood plan e phase frames kept → NothingFlies (attempts_at me device plan k n e now phase)
      → MayPut (attempts_at me device plan k n e now phase) now tpdu f → Put k phase f
  put_kept k (Opens fly) tpdu f small read whole good none may = absurd (cc)
  put_kept k (Sends place apdu expect next) tpdu f small read whole good none may = absurd (cc)
  put_kept k (Served true place apdu expect next o) tpdu f small read whole good none may = absurd (cc)
  put_kept k (Acks fly left closing v m) tpdu f small read whole good none may = absurd (cc)
  put_kept k (Leaves fly left) tpdu f small read whole good none may = absurd (cc)
  put_kept k Rests tpdu Connect small read whole good none may = put_connect k whole
  put_kept k Rests tpdu Disconnect small read whole good none may = absurd may
  put_kept k Rests tpdu (Ack a) small read whole good none may = absurd may
  put_kept k Rests tpdu (Nak a) small read whole good none may = absurd may
  put_kept k Rests tpdu (Numbered a apdu) small read whole good none may = absurd may
  put_kept k (Ready left closing) tpdu Connect small read whole good none may = absurd may
  put_kept k (Ready left closing) tpdu Disconnect small read whole good none may = put_leave k left closing may
  put_kept k (Ready left closing) tpdu (Ack a) small read whole good none may = absurd (let x : [] ≡ tpdu ∷ may.0 = may.1 in cc)
  put_kept k (Ready left closing) tpdu (Nak a) small read whole good none may = absurd (let x : [] ≡ tpdu ∷ may.0 = may.1 in cc)
  put_kept k (Ready left closing) tpdu (Numbered a apdu) small read whole good none may = put_service k left closing tpdu a apdu small.0 good read may
  put_kept k (Served false place apdu expect next o) tpdu Connect small read whole good none may = absurd may
  put_kept k (Served false place apdu expect next o) tpdu Disconnect small read whole good none may = absurd (ends may) where
    ends : MayDisconnect (attempt_of (Asking (client_at device n e now) (waiting_question n apdu (Some now))) (sent_of (Asks place apdu expect next)) [] None false) now → ⊥
    ends (inl x) = let a : true ≡ false = x.acknowledged in cc
    ends (inr s) = not_silent _ (asking_not (client_at device n e now) apdu) s
  put_kept k (Served false place apdu expect next o) tpdu (Ack a) small read whole good none may = absurd (let x : [] ≡ tpdu ∷ may.0 = may.1 in cc)
  put_kept k (Served false place apdu expect next o) tpdu (Nak a) small read whole good none may = absurd (let x : [] ≡ tpdu ∷ may.0 = may.1 in cc)
  put_kept k (Served false place apdu expect next o) tpdu (Numbered a apdu2) small read whole good none may = absurd (asks may.which) where
    asks : IsNext (attempt_of (Asking (client_at device n e now) (waiting_question n apdu (Some now))) (sent_of (Asks place apdu expect next)) [] None false) apdu2 tpdu
        ⊎ IsRepeat (attempt_of (Asking (client_at device n e now) (waiting_question n apdu (Some now))) (sent_of (Asks place apdu expect next)) [] None false) now tpdu → ⊥
    asks (inl x) = let a : Asking (client_at device n e now) (waiting_question n apdu (Some now)) ≡ Up x.session = x.up in cc
    asks (inr again) = not_repeat _ tpdu (asking_not (client_at device n e now) apdu) again
  put_kept k (Awaits place apdu expect next v) tpdu Connect small read whole good none may = absurd may
  put_kept k (Awaits place apdu expect next v) tpdu Disconnect small read whole good none may = absurd (ends may) where
    over_not : (false ≡ true) ⊎ IsDone (attempt_of (Awaiting (client_at device n e now)) (sent_of (Asks place apdu expect next)) [] None false) → ⊥
    over_not (inl c) = cc
    over_not (inr d) = let a : Awaiting (client_at device n e now) ≡ Up d.session = d.up in cc

    ends : MayDisconnect (attempt_of (Awaiting (client_at device n e now)) (sent_of (Asks place apdu expect next)) [] None false) now → ⊥
    ends (inl x) = over_not x.which
    ends (inr s) = not_silent _ awaiting_not s
  put_kept k (Awaits place apdu expect next v) tpdu (Ack a) small read whole good none may = absurd (let x : [] ≡ tpdu ∷ may.0 = may.1 in cc)
  put_kept k (Awaits place apdu expect next v) tpdu (Nak a) small read whole good none may = absurd (let x : [] ≡ tpdu ∷ may.0 = may.1 in cc)
  put_kept k (Awaits place apdu expect next v) tpdu (Numbered a apdu2) small read whole good none may = absurd (asks may.which) where
    asks : IsNext (attempt_of (Awaiting (client_at device n e now)) (sent_of (Asks place apdu expect next)) [] None false) apdu2 tpdu
        ⊎ IsRepeat (attempt_of (Awaiting (client_at device n e now)) (sent_of (Asks place apdu expect next)) [] None false) now tpdu → ⊥
    asks (inl x) = let a : Awaiting (client_at device n e now) ≡ Up x.session = x.up in cc
    asks (inr again) = not_repeat _ tpdu awaiting_not again
  put_kept k (Owes left closing v m) tpdu Connect small read whole good none may = absurd may
  put_kept k (Owes left closing v m) tpdu Disconnect small read whole good none may = absurd (ends may) where
    ends : MayDisconnect (attempt_of (Up (client_at device n e now)) left (Written (tpdus.Ack m) ∷ []) None closing) now → ⊥
    ends (inl x) = let a : Written (tpdus.Ack m) ∷ [] ≡ [] = x.owes_nothing in cc
    ends (inr s) = not_silent _ (up_not (client_at device n e now)) s
  put_kept k (Owes left closing v m) tpdu (Ack a) small read whole good none may =
      let two = put_ack k left closing v m tpdu (Ack a) good read may in
      subst (λ z. Put k (Owes left closing v m) z) (sym two.0) two.1
  put_kept k (Owes left closing v m) tpdu (Nak a) small read whole good none may = absurd (let two = put_ack k left closing v m tpdu (Nak a) good read may in let x : Nak a ≡ Ack m = two.0 in cc)
  put_kept k (Owes left closing v m) tpdu (Numbered a apdu) small read whole good none may = absurd (let x : Written (tpdus.Ack m) ∷ [] ≡ [] = may.owes_nothing in cc)
  put_kept k phase tpdu Other small read whole good none may = absurd may
