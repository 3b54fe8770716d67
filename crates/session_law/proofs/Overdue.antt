-- What becomes due at the client's end keeps the invariant.
use Rattle.knx_model.specs.declared.connection.ClientExpired.TheVariants as over
use Rattle.std.proofs.Common.{◌≡◌, ℕ, suc, ◌+◌, ◌-◌, ◌%◌, ◌⊎◌, List, [], length, Bool, true, false, cond, Option, Some, None, refl, sym, ◌∙◌, ap, subst, inl}
use Rattle.knx_model.specs.declared.address.IndAddr.{IndAddr}
use Rattle.knx_model.specs.declared.connection.TransportFrame.{TransportFrame}
use Rattle.knx_model.specs.declared.connection.TransportFrame.TheVariants.{Numbered}
use Rattle.knx_model.specs.Connection.{frame_in, Session, ack_wait, idle_wait, has_passed}
use Rattle.knx_model.specs.ClientConnection.{ClientEnd, Asked, Up, Asking, Awaiting, Ended, Question, client_expired, question_expired, question_overdue, after_overdue}
use Rattle.session_law.specs.World.{Client}
use Rattle.session_law.proofs.Arrivals.{Arrival, Frame, NoConfirmation, NotAck, arrival_if, owed_arrivals}
use Rattle.session_law.proofs.Placed.{AckAt, placed_insert}
use Rattle.session_law.proofs.Seen.{Seen, extra}
use Rattle.session_law.proofs.Invariant.{FlyIs, FlyFrame, Side, ups, InSession, Pending, OwedOk, PhaseIs, Invariant, Head, Acks}
use Rattle.knx_model.specs.declared.connection.ClientExpired.{ClientExpired}
use Rattle.session_law.specs.Client.{since}
use Rattle.session_law.proofs.Put.{quiet}

-- ---- what has become due

pub data Due (e : ClientEnd) : ClientExpired → Type 0 where
  DNothing : Due e over.Nothing
  DRepeats : (s : Session) (q : Question) → e ≡ Asking s q → Due e (over.Repeat q.frame)
  DSilent : (ms : ℕ) → Due e (over.Silent ms)

overdue_by : (s : Session) (q : Question) (b : Bool) → Due (Asking s q) (cond b (over.Repeat q.frame) (over.Silent ack_wait))
overdue_by s q true = DRepeats s q refl
overdue_by s q false = DSilent ack_wait

passed_by : (e : ClientEnd) (x : ClientExpired) (b : Bool) → Due e x → Due e (cond b x over.Nothing)
passed_by e x true h = h
passed_by e x false h = DNothing

question_by : (s : Session) (q : Question) (since : Option ℕ) (now : ℕ) → Due (Asking s q) (question_expired q since now)
question_by s q None now = DNothing
question_by s q (Some since) now = passed_by (Asking s q) (question_overdue q) (has_passed ack_wait since now) (overdue_by s q _)

pub due_is : (e : ClientEnd) (now : ℕ) → Due e (client_expired e now)
unfolding client_expired
due_is (Asked device) now = DNothing
due_is (Up s) now = DNothing
due_is (Asking s q) now = question_by s q q.confirmed now
due_is (Awaiting s) now = passed_by (Awaiting s) (over.Silent idle_wait) (has_passed idle_wait s.last now) (DSilent idle_wait)
due_is Ended now = DNothing

pub silent_kept : (me : IndAddr) (asked : List (List ℕ)) (c : Client) (fly : Option TransportFrame) (coming : List Arrival) (o : Seen) (ms now : ℕ) → c.pending ≡ false → Invariant me asked c fly coming o → Invariant me asked (record c { end = after_overdue c.end now (over.Silent ms); owed = [] }) fly coming o
unfolding after_overdue
silent_kept me asked c fly coming o ms now e inv =
    record { owed_ok = tt; whole = inv.whole; side = inv.side; phase = λ j. subst (λ (b : Bool). Pending b fly coming) (sym e) (quiet c.end c.joined c.pending c.owed c.sent c.accepted asked fly coming o e j inv.phase) }

pub record Repeats (me : IndAddr) (asked : List (List ℕ)) (c : Client) (coming : List Arrival) (o : Seen) (frame : List ℕ) (now : ℕ) : Type 0 where
  pub n : ℕ
  pub apdu : List ℕ
  pub read : frame_in frame ≡ Numbered n apdu
  pub inv : Invariant me asked (record c { end = after_overdue c.end now (over.Repeat frame); pending = true }) (Some (Numbered n apdu)) coming o

repeat_fly : (asked : List (List ℕ)) (number done : ℕ) (apdu : List ℕ) → number ≡ done % 16 → length asked ≡ suc done → Head asked apdu → FlyFrame (Numbered number apdu) asked
repeat_fly asked number done apdu n len h = (done, sym len, n, h)

repeat_sess : (asked : List (List ℕ)) (fly : Option TransportFrame) (coming : List Arrival) (owed : List (List ℕ)) (number expected : ℕ) (sent accepted : List (List ℕ)) (o : Seen) (apdu : List ℕ) → fly ≡ None
    → InSession asked fly coming owed true number expected sent accepted o → InSession asked (Some (Numbered number apdu)) coming owed true number expected sent accepted o
repeat_sess asked fly coming owed number expected sent accepted o apdu e ss =
    let none : Acks (length o.given - (1 + extra o.connection)) (ups o.last None owed) (length accepted) = subst (λ (z : Option TransportFrame). Acks (length o.given - (1 + extra o.connection)) (ups o.last z owed) (length accepted)) e ss.ups_are in
    record {
      same = ss.same;
      done = ss.done;
      number_is = ss.number_is;
      expected_is = ss.expected_is;
      waiting = ss.waiting;
      told = ss.told;
      acks = ss.acks;
      answers = ss.answers;
      heard_is = ss.heard_is;
      bound = ss.bound;
      ups_are = placed_insert AckAt NotAck (length o.given - (1 + extra o.connection)) (arrival_if o.last) (owed_arrivals owed) (Frame (Numbered number apdu)) (length accepted) tt none;
      flies = tt;
    }

side_fly : (me : IndAddr) (asked : List (List ℕ)) (fly fly' : Option TransportFrame) (o : Seen) → FlyIs fly' asked → Side me asked fly o → Side me asked fly' o
side_fly me asked fly fly' o f h = record { prefix = h.prefix; one = h.one; connection = h.connection; fly_is = f; last_is = h.last_is }

repeat_by : (me : IndAddr) (asked : List (List ℕ)) (s : Session) (q : Question) (joined pending : Bool) (owed sent accepted : List (List ℕ)) (fly : Option TransportFrame) (coming : List Arrival) (o : Seen) (now : ℕ) → pending ≡ false → OwedOk owed → (asked ≡ sent) ⊎ (asked ≡ []) → Side me asked fly o
    → PhaseIs (Asking s q) joined pending owed sent accepted asked fly coming o → Repeats me asked (record { end = Asking s q; joined = joined; pending = pending; owed = owed; sent = sent; accepted = accepted }) coming o q.frame now
unfolding after_overdue
repeat_by me asked s q joined pending owed sent accepted fly coming o now e ok wh side h =
    let p : (fly ≡ None) × NoConfirmation coming = subst (λ (b : Bool). Pending b fly coming) e h.0 in
    let ss : InSession asked fly coming owed true s.number s.expected sent accepted o = h.1 in
    let len : length asked ≡ suc ss.done = ap (λ (z : List (List ℕ)). length z) ss.same ∙ ss.waiting in
    let head : Head asked h.2.0 = subst (λ (z : List (List ℕ)). Head z h.2.0) (sym ss.same) h.2.1 in
    record {
      n = s.number;
      apdu = h.2.0;
      read = h.2.2;
      inv = record {
        owed_ok = ok;
        whole = wh;
        side = side_fly me asked fly (Some (Numbered s.number h.2.0)) o (repeat_fly asked s.number ss.done h.2.0 ss.number_is len head) side;
        phase = (inl (Numbered s.number h.2.0, refl, p.1), repeat_sess asked fly coming owed s.number s.expected sent accepted o h.2.0 p.0 ss, h.2);
      };
    }

repeat_of : (me : IndAddr) (asked : List (List ℕ)) (end : ClientEnd) (s : Session) (q : Question) (joined pending : Bool) (owed sent accepted : List (List ℕ)) (fly : Option TransportFrame) (coming : List Arrival) (o : Seen) (now : ℕ) → end ≡ Asking s q → pending ≡ false → OwedOk owed → (asked ≡ sent) ⊎ (asked ≡ [])
    → Side me asked fly o → PhaseIs end joined pending owed sent accepted asked fly coming o → Repeats me asked (record { end = end; joined = joined; pending = pending; owed = owed; sent = sent; accepted = accepted }) coming o q.frame now
repeat_of me asked end s q joined pending owed sent accepted fly coming o now e p ok wh side h =
    let P : ClientEnd → Type 0 = λ z. Repeats me asked (record { end = z; joined = joined; pending = pending; owed = owed; sent = sent; accepted = accepted }) coming o q.frame now in
    subst P (sym e) (repeat_by me asked s q joined pending owed sent accepted fly coming o now p ok wh side (subst (λ (z : ClientEnd). PhaseIs z joined pending owed sent accepted asked fly coming o) e h))

pub repeat_kept : (me : IndAddr) (asked : List (List ℕ)) (c : Client) (s : Session) (q : Question) (fly : Option TransportFrame) (coming : List Arrival) (o : Seen) (now : ℕ) → c.end ≡ Asking s q → c.pending ≡ false → Invariant me asked c fly coming o → Repeats me asked c coming o q.frame now
repeat_kept me asked c s q fly coming o now e p inv = repeat_of me asked c.end s q c.joined c.pending c.owed c.sent c.accepted fly coming o now e p inv.owed_ok inv.whole inv.side inv.phase
