-- What the client puts keeps the invariant.
use Rattle.std.proofs.Common.{◌≡◌, ℕ, suc, ◌+◌, ◌-◌, ◌%◌, ◌<◌, ◌≤◌, List, [], ◌∷◌, length, Bool, true, false, Option, Some, None, refl, sym, ◌∙◌, ap, subst, arith, inl, inr}
use Rattle.knx_model.specs.declared.address.IndAddr.{IndAddr}
use Rattle.knx_model.specs.declared.connection.TransportFrame.{TransportFrame}
use Rattle.knx_model.specs.declared.connection.TransportFrame.TheVariants.{Connect, Disconnect, Ack, Nak, Numbered, Other}
use Rattle.knx_model.specs.Connection.{frame_in, numbered_data, IsApdu}
use Rattle.knx_model.specs.ClientConnection.{ClientEnd, Asked, Up, Asking, Awaiting, Ended, client_sent, after_send, client_stayed}
use Rattle.session_law.specs.World.{Client}
use Rattle.session_law.proofs.Arrivals.{Arrival, Frame, NoConfirmation, NotAck, IsntData, IsntConnect, arrival_if, owed_arrivals}
use Rattle.session_law.proofs.Placed.{AckAt, placed_insert}
use Rattle.session_law.proofs.Seen.{Seen, extra}
use Rattle.session_law.proofs.Invariant.{FlyFrame, Ready, LastIs, Side, ups, InSession, Pending, OwedOk, QuestionIs, PhaseIs, Invariant, Acks}
use Rattle.std.proofs.lemmas.Bool.{false≢true}
use Rattle.session_law.specs.Client.{ended}
use Rattle.session_law.proofs.Frames.{numbered_read}
use Rattle.session_law.proofs.Carried.{side_with}

-- ---- the client sent a frame

-- nothing is on its way to the device, and no confirmation to the client
pub quiet : (end : ClientEnd) (joined pending : Bool) (owed sent accepted asked : List (List ℕ)) (fly : Option TransportFrame) (coming : List Arrival) (o : Seen) → pending ≡ false → joined ≡ true
    → PhaseIs end joined pending owed sent accepted asked fly coming o → (fly ≡ None) × NoConfirmation coming
quiet (Asked device) joined pending owed sent accepted asked fly coming o e j h = absurd (false≢true (sym e ∙ h.0))
quiet (Up t) joined pending owed sent accepted asked fly coming o e j h = subst (λ (b : Bool). Pending b fly coming) e h.0
quiet (Asking t q) joined pending owed sent accepted asked fly coming o e j h = subst (λ (b : Bool). Pending b fly coming) e h.0
quiet (Awaiting t) joined pending owed sent accepted asked fly coming o e j h = subst (λ (b : Bool). Pending b fly coming) e h.0
quiet Ended joined pending owed sent accepted asked fly coming o e j h = subst (λ (b : Bool). Pending b fly coming) e (h j)

pub connect_kept : (me device : IndAddr) (asked : List (List ℕ)) (c : Client) (fly : Option TransportFrame) (coming : List Arrival) (o : Seen) → c.pending ≡ false → c.joined ≡ true → Invariant me asked c fly coming o
    → Invariant me asked (record { end = Asked device; joined = c.joined; pending = true; owed = []; sent = c.sent; accepted = c.accepted }) (Some Connect) coming o
connect_kept me device asked c fly coming o e j inv =
    let q : (fly ≡ None) × NoConfirmation coming = quiet c.end c.joined c.pending c.owed c.sent c.accepted asked fly coming o e j inv.phase in
    record { owed_ok = tt; whole = inv.whole; side = side_with me asked fly (Some Connect) o tt inv.side; phase = (refl, refl, inl (refl, q.1)) }

pub leave_kept : (me : IndAddr) (asked : List (List ℕ)) (c : Client) (fly : Option TransportFrame) (coming : List Arrival) (o : Seen) → c.pending ≡ false → c.joined ≡ true → Invariant me asked c fly coming o → Invariant me asked (record (ended c) { pending = true }) (Some Disconnect) coming o
leave_kept me asked c fly coming o e j inv =
    let q : (fly ≡ None) × NoConfirmation coming = quiet c.end c.joined c.pending c.owed c.sent c.accepted asked fly coming o e j inv.phase in
    record { owed_ok = tt; whole = inv.whole; side = side_with me asked fly (Some Disconnect) o tt inv.side; phase = λ _. inl (Disconnect, refl, q.1) }

-- a service

asked_ready : (s : TransportFrame) (asked ds : List (List ℕ)) (apdu : List ℕ) → length asked ≤ length ds → Ready s asked ds → Ready s (apdu ∷ asked) ds
asked_ready Connect asked ds apdu le h = tt
asked_ready Disconnect asked ds apdu le h = tt
asked_ready (Ack n) asked ds apdu le h = tt
asked_ready (Nak n) asked ds apdu le h = tt
asked_ready (Numbered n x) asked ds apdu le (k, (is, inl e)) = (k, (is, inl e))
asked_ready (Numbered n x) asked ds apdu le (k, (is, inr e)) = absurd (let len : length asked ≡ suc (length ds) = ap (λ (z : List (List ℕ)). length z) e.1 in omega arith)
asked_ready Other asked ds apdu le h = tt

asked_last : (last : Option TransportFrame) (asked ds gs : List (List ℕ)) (apdu : List ℕ) → length asked ≤ length ds → LastIs last asked ds gs → LastIs last (apdu ∷ asked) ds gs
asked_last None asked ds gs apdu le h = tt
asked_last (Some s) asked ds gs apdu le h = (asked_ready s asked ds apdu le h.0, h.1)

module _ (me : IndAddr) (asked : List (List ℕ)) (fly : Option TransportFrame) (coming : List Arrival) (owed : List (List ℕ)) (number expected : ℕ) (sent accepted : List (List ℕ)) (o : Seen) (apdu : List ℕ)
    (side : Side me asked fly o) (ss : InSession asked fly coming owed false number expected sent accepted o) where
  asked_short : length asked ≤ length o.delivered
  asked_short =
      let e : length sent ≡ ss.done = ss.waiting in
      let same : length asked ≡ length sent = ap (λ (z : List (List ℕ)). length z) ss.same in
      let told : ss.done ≤ length o.delivered = ss.told in
      omega arith

  number_at : number ≡ length asked % 16
  number_at =
      let e : length sent ≡ ss.done = ss.waiting in
      let same : length asked ≡ length sent = ap (λ (z : List (List ℕ)). length z) ss.same in
      ss.number_is ∙ ap (λ k. k % 16) (sym (same ∙ e))

  ask_side : Side me (apdu ∷ asked) (Some (Numbered number apdu)) o
  ask_side =
      let le : length asked ≤ length o.delivered = asked_short in
      record {
        prefix = (apdu ∷ side.prefix.0, ap (λ (z : List (List ℕ)). apdu ∷ z) side.prefix.1);
        one = omega arith;
        connection = side.connection;
        fly_is = (length asked, refl, number_at, refl);
        last_is = asked_last o.last asked o.delivered o.given apdu le side.last_is;
      }

  ask_sess : fly ≡ None → InSession (apdu ∷ asked) (Some (Numbered number apdu)) coming owed true number expected (apdu ∷ sent) accepted o
  ask_sess e =
      let none : Acks (length o.given - (1 + extra o.connection)) (ups o.last None owed) (length accepted) = subst (λ (z : Option TransportFrame). Acks (length o.given - (1 + extra o.connection)) (ups o.last z owed) (length accepted)) e ss.ups_are in
      record {
        same = ap (λ (z : List (List ℕ)). apdu ∷ z) ss.same;
        done = ss.done;
        number_is = ss.number_is;
        expected_is = ss.expected_is;
        waiting = ap (λ k. suc k) ss.waiting;
        told = ss.told;
        acks = ss.acks;
        answers = ss.answers;
        heard_is = ss.heard_is;
        bound = ss.bound;
        ups_are = placed_insert AckAt NotAck (length o.given - (1 + extra o.connection)) (arrival_if o.last) (owed_arrivals owed) (Frame (Numbered number apdu)) (length accepted) tt none;
        flies = tt;
      }

  ask_read : IsApdu apdu → frame_in (numbered_data number apdu) ≡ Numbered number apdu
  ask_read is = let small : number < 16 = omega (arith, number_at) in numbered_read number apdu small is

  ask_phase : (pending : Bool) (frame : List ℕ) → pending ≡ false → IsApdu apdu → frame ≡ numbered_data number apdu → Pending pending fly coming
      → Pending true (Some (Numbered number apdu)) coming × InSession (apdu ∷ asked) (Some (Numbered number apdu)) coming owed true number expected (apdu ∷ sent) accepted o × QuestionIs frame number (apdu ∷ sent)
  ask_phase pending frame e is f pend =
      let q : (fly ≡ None) × NoConfirmation coming = subst (λ (b : Bool). Pending b fly coming) e pend in
      (inl (Numbered number apdu, refl, q.1), ask_sess q.0, (apdu, refl, ap (λ (z : List ℕ). frame_in z) f ∙ ask_read is))

pub record Asks (me : IndAddr) (asked : List (List ℕ)) (c : Client) (coming : List Arrival) (o : Seen) (apdu octets : List ℕ) (now : ℕ) : Type 0 where
  pub n : ℕ
  pub read : frame_in octets ≡ Numbered n apdu
  pub inv : Invariant me (apdu ∷ asked) (record { end = after_send c.end apdu now; joined = c.joined; pending = true; owed = c.owed; sent = apdu ∷ c.sent; accepted = c.accepted }) (Some (Numbered n apdu)) coming o

sent_is : (x y : List ℕ) → Some x ≡ Some y → x ≡ y
sent_is x y e = cc

asks_by : (me : IndAddr) (asked : List (List ℕ)) (end : ClientEnd) (joined pending : Bool) (owed sent accepted : List (List ℕ)) (fly : Option TransportFrame) (coming : List Arrival) (o : Seen) (apdu octets : List ℕ) (now : ℕ)
    → pending ≡ false → IsApdu apdu → client_sent end apdu ≡ Some octets → OwedOk owed → Side me asked fly o → PhaseIs end joined pending owed sent accepted asked fly coming o
    → Asks me asked (record { end = end; joined = joined; pending = pending; owed = owed; sent = sent; accepted = accepted }) coming o apdu octets now
unfolding client_sent after_send
asks_by me asked (Asked device) joined pending owed sent accepted fly coming o apdu octets now e is s ok side h = absurd (cc)
asks_by me asked (Up t) joined pending owed sent accepted fly coming o apdu octets now e is s ok side h =
    let p = ask_phase me asked fly coming owed t.number t.expected sent accepted o apdu side h.1 pending (numbered_data t.number apdu) e is refl h.0 in
    record { n = t.number; read = ap (λ (z : List ℕ). frame_in z) (sym (sent_is _ octets s)) ∙ ask_read me asked fly coming owed t.number t.expected sent accepted o apdu side h.1 is; inv = record { owed_ok = ok; whole = inl (ap (λ (z : List (List ℕ)). apdu ∷ z) h.1.same); side = ask_side me asked fly coming owed t.number t.expected sent accepted o apdu side h.1; phase = p } }
asks_by me asked (Asking t q) joined pending owed sent accepted fly coming o apdu octets now e is s ok side h = absurd (cc)
asks_by me asked (Awaiting t) joined pending owed sent accepted fly coming o apdu octets now e is s ok side h =
    let p = ask_phase me asked fly coming owed t.number t.expected sent accepted o apdu side h.1 pending (numbered_data t.number apdu) e is refl h.0 in
    record { n = t.number; read = ap (λ (z : List ℕ). frame_in z) (sym (sent_is _ octets s)) ∙ ask_read me asked fly coming owed t.number t.expected sent accepted o apdu side h.1 is; inv = record { owed_ok = ok; whole = inl (ap (λ (z : List (List ℕ)). apdu ∷ z) h.1.same); side = ask_side me asked fly coming owed t.number t.expected sent accepted o apdu side h.1; phase = p } }
asks_by me asked Ended joined pending owed sent accepted fly coming o apdu octets now e is s ok side h = absurd (cc)

pub ask_kept : (me : IndAddr) (asked : List (List ℕ)) (c : Client) (fly : Option TransportFrame) (coming : List Arrival) (o : Seen) (apdu octets : List ℕ) (now : ℕ) → c.pending ≡ false → IsApdu apdu → client_sent c.end apdu ≡ Some octets → Invariant me asked c fly coming o → Asks me asked c coming o apdu octets now
ask_kept me asked c fly coming o apdu octets now e is s inv = asks_by me asked c.end c.joined c.pending c.owed c.sent c.accepted fly coming o apdu octets now e is s inv.owed_ok inv.side inv.phase

-- the oldest owed frame

reply_fly : (s : TransportFrame) (asked : List (List ℕ)) → IsntData s → FlyFrame s asked
reply_fly Connect asked h = tt
reply_fly Disconnect asked h = tt
reply_fly (Ack n) asked h = tt
reply_fly (Nak n) asked h = tt
reply_fly (Numbered n apdu) asked h = absurd h
reply_fly Other asked h = tt

reply_sess : (asked : List (List ℕ)) (fly : Option TransportFrame) (coming : List Arrival) (reply : List ℕ) (rest : List (List ℕ)) (waits : Bool) (number expected : ℕ) (sent accepted : List (List ℕ)) (o : Seen) → fly ≡ None → IsntConnect (frame_in reply)
    → InSession asked fly coming (reply ∷ rest) waits number expected sent accepted o → InSession asked (Some (frame_in reply)) coming rest waits number expected sent accepted o
reply_sess asked fly coming reply rest waits number expected sent accepted o e ne ss =
    let none : Acks (length o.given - (1 + extra o.connection)) (ups o.last None (reply ∷ rest)) (length accepted) = subst (λ (z : Option TransportFrame). Acks (length o.given - (1 + extra o.connection)) (ups o.last z (reply ∷ rest)) (length accepted)) e ss.ups_are in
    record { same = ss.same; done = ss.done; number_is = ss.number_is; expected_is = ss.expected_is; waiting = ss.waiting; told = ss.told; acks = ss.acks; answers = ss.answers; heard_is = ss.heard_is; bound = ss.bound; ups_are = none; flies = ne }

reply_phase : (end : ClientEnd) (joined pending : Bool) (sent accepted asked : List (List ℕ)) (fly : Option TransportFrame) (coming : List Arrival) (o : Seen) (reply : List ℕ) (rest : List (List ℕ)) (now : ℕ) → pending ≡ false → IsntConnect (frame_in reply)
    → PhaseIs end joined pending (reply ∷ rest) sent accepted asked fly coming o → PhaseIs (client_stayed end now) joined true rest sent accepted asked (Some (frame_in reply)) coming o
reply_phase (Asked device) joined pending sent accepted asked fly coming o reply rest now e ne h = absurd (let g : reply ∷ rest ≡ [] = h.1 in cc)
reply_phase (Up t) joined pending sent accepted asked fly coming o reply rest now e ne h =
    let q : (fly ≡ None) × NoConfirmation coming = subst (λ (b : Bool). Pending b fly coming) e h.0 in
    (inl (frame_in reply, refl, q.1), reply_sess asked fly coming reply rest false t.number t.expected sent accepted o q.0 ne h.1)
reply_phase (Asking t q) joined pending sent accepted asked fly coming o reply rest now e ne h =
    let p : (fly ≡ None) × NoConfirmation coming = subst (λ (b : Bool). Pending b fly coming) e h.0 in
    (inl (frame_in reply, refl, p.1), reply_sess asked fly coming reply rest true t.number t.expected sent accepted o p.0 ne h.1, h.2)
reply_phase (Awaiting t) joined pending sent accepted asked fly coming o reply rest now e ne h =
    let q : (fly ≡ None) × NoConfirmation coming = subst (λ (b : Bool). Pending b fly coming) e h.0 in
    (inl (frame_in reply, refl, q.1), reply_sess asked fly coming reply rest false t.number t.expected sent accepted o q.0 ne h.1)
reply_phase Ended joined pending sent accepted asked fly coming o reply rest now e ne h = λ j. let q : (fly ≡ None) × NoConfirmation coming = subst (λ (b : Bool). Pending b fly coming) e (h j) in inl (frame_in reply, refl, q.1)

pub reply_kept : (me : IndAddr) (asked : List (List ℕ)) (c : Client) (fly : Option TransportFrame) (coming : List Arrival) (o : Seen) (reply : List ℕ) (rest : List (List ℕ)) (now : ℕ) → c.owed ≡ reply ∷ rest → c.pending ≡ false → Invariant me asked c fly coming o
    → Invariant me asked (record { end = client_stayed c.end now; joined = c.joined; pending = true; owed = rest; sent = c.sent; accepted = c.accepted }) (Some (frame_in reply)) coming o
reply_kept me asked c fly coming o reply rest now w e inv =
    let ok : OwedOk (reply ∷ rest) = subst (λ (z : List (List ℕ)). OwedOk z) w inv.owed_ok in
    let h : PhaseIs c.end c.joined c.pending (reply ∷ rest) c.sent c.accepted asked fly coming o = subst (λ (z : List (List ℕ)). PhaseIs c.end c.joined c.pending z c.sent c.accepted asked fly coming o) w inv.phase in
    record { owed_ok = ok.1; whole = inv.whole; side = side_with me asked fly (Some (frame_in reply)) o (reply_fly (frame_in reply) asked ok.0.0) inv.side; phase = reply_phase c.end c.joined c.pending c.sent c.accepted asked fly coming o reply rest now e ok.0.1 h }
