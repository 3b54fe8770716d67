-- What is dropped, and what comes twice, keeps the invariant.
use Rattle.std.proofs.Common.{◌≡◌, ℕ, ◌+◌, ◌-◌, List, [], ◌∷◌, ◌++◌, length, Bool, true, false, Option, None, refl, sym, ◌∙◌, subst, inl, inr, append_assoc}
use Rattle.knx_model.specs.declared.address.IndAddr.{IndAddr}
use Rattle.knx_model.specs.declared.connection.TransportFrame.{TransportFrame}
use Rattle.knx_model.specs.ClientConnection.{ClientEnd, Asked, Up, Asking, Awaiting, Ended}
use Rattle.session_law.specs.World.{Client}
use Rattle.session_law.proofs.Arrivals.{Arrival, Confirmation, Frame, NoConfirmation, NotAck, NotAnswer, NoData, Split, arrival_if, owed_arrivals, noconf_append, nodata_append, split_append, noconf_front, nodata_front, split_front, noconf_middle, nodata_back, split_middle}
use Rattle.session_law.proofs.Placed.{AckAt, AnswerAt, placed_middle, placed_twice}
use Rattle.session_law.proofs.Seen.{Seen, extra}
use Rattle.session_law.proofs.Invariant.{GivenAt, InSession, Opened, AskedIs, Pending, PhaseIs, Invariant, Acks, Answers}
use Rattle.std.proofs.lemmas.Bool.{false≢true}
use Rattle.session_law.specs.Client.{ended}
use Rattle.session_law.proofs.Carried.{ups_without, side_with}

-- ---- what is on its way is dropped

pend_drop : (pending : Bool) (fly : Option TransportFrame) (front back e : List Arrival) → NoConfirmation e → Pending pending fly ((front ++ back) ++ e) → Pending pending None (front ++ e)
pend_drop false fly front back e k h = (refl, noconf_middle front back e h.1 k)
pend_drop true fly front back e k (inl h) = inr (inr (refl, noconf_middle front back e h.2 k))
pend_drop true fly front back e k (inr (inl h)) = elim (split_middle front back e h.0 h.1 k h.3) [ inl q ↦ inr (inr (refl, q)) | inr q ↦ inr (inl (h.0, q.0, refl, q.1)) ]
pend_drop true fly front back e k (inr (inr h)) = inr (inr (refl, noconf_middle front back e h.1 k))

opened_front : (error : Bool) (newer front : List Arrival) (asked : List (List ℕ)) (o : Seen) → (NoData newer → NoData front) → Opened error newer asked o → Opened error front asked o
opened_front true newer front asked o f h = tt
opened_front false newer front asked o f h = record { none = h.none; ds = h.ds; gs = h.gs; queued = f h.queued; unsent = h.unsent; plain = h.plain }

asked_drop : (asked : List (List ℕ)) (fly : Option TransportFrame) (front back e : List Arrival) (o : Seen) → NoConfirmation e → AskedIs asked fly ((front ++ back) ++ e) o → AskedIs asked None (front ++ e) o
asked_drop asked fly front back e o k (inl h) = inr (inr (refl, noconf_middle front back e h.1 k))
asked_drop asked fly front back e o k (inr (inr h)) = inr (inr (refl, noconf_middle front back e h.1 k))
asked_drop asked fly front back e o k (inr (inl (error, newer, g, split, opened))) =
    elim (split_middle front back e error newer k split) [ inl q ↦ inr (inr (refl, q)) | inr q ↦ inr (inl (error, q.0, refl, q.1, opened_front error newer q.0 asked o q.2 opened)) ]

drop_sess : (asked : List (List ℕ)) (fly : Option TransportFrame) (front back e : List Arrival) (owed : List (List ℕ)) (waits : Bool) (number expected : ℕ) (sent accepted : List (List ℕ)) (o : Seen)
    → InSession asked fly ((front ++ back) ++ e) owed waits number expected sent accepted o → InSession asked None (front ++ e) owed waits number expected sent accepted o
drop_sess asked fly front back e owed waits number expected sent accepted o ss =
    record {
      same = ss.same;
      done = ss.done;
      number_is = ss.number_is;
      expected_is = ss.expected_is;
      waiting = ss.waiting;
      told = ss.told;
      acks = subst (λ (z : List Arrival). Acks (ss.done - 1) z (length o.delivered)) (sym (append_assoc front e o.unsent)) (placed_middle AckAt NotAck (ss.done - 1) front back (e ++ o.unsent) (length o.delivered)
          (subst (λ (z : List Arrival). Acks (ss.done - 1) z (length o.delivered)) (append_assoc (front ++ back) e o.unsent) ss.acks));
      answers = subst (λ (z : List Arrival). Answers o.given (length accepted - 1) z) (sym (append_assoc front e o.unsent)) (placed_middle (AnswerAt (GivenAt o.given)) NotAnswer (length accepted - 1) front back (e ++ o.unsent) (length o.given)
          (subst (λ (z : List Arrival). Answers o.given (length accepted - 1) z) (append_assoc (front ++ back) e o.unsent) ss.answers));
      heard_is = ss.heard_is;
      bound = ss.bound;
      ups_are = ups_without (length o.given - (1 + extra o.connection)) (length accepted) (arrival_if o.last) fly (owed_arrivals owed) ss.ups_are;
      flies = tt;
    }

phase_drop : (end : ClientEnd) (joined pending : Bool) (owed sent accepted asked : List (List ℕ)) (fly : Option TransportFrame) (front back e : List Arrival) (o : Seen) → NoConfirmation e
    → PhaseIs end joined pending owed sent accepted asked fly ((front ++ back) ++ e) o → PhaseIs end joined pending owed sent accepted asked None (front ++ e) o
phase_drop (Asked device) joined pending owed sent accepted asked fly front back e o k h = (h.0, h.1, asked_drop asked fly front back e o k h.2)
phase_drop (Up t) joined pending owed sent accepted asked fly front back e o k h = (pend_drop pending fly front back e k h.0, drop_sess asked fly front back e owed false t.number t.expected sent accepted o h.1)
phase_drop (Asking t q) joined pending owed sent accepted asked fly front back e o k h = (pend_drop pending fly front back e k h.0, drop_sess asked fly front back e owed true t.number t.expected sent accepted o h.1, h.2)
phase_drop (Awaiting t) joined pending owed sent accepted asked fly front back e o k h = (pend_drop pending fly front back e k h.0, drop_sess asked fly front back e owed false t.number t.expected sent accepted o h.1)
phase_drop Ended joined pending owed sent accepted asked fly front back e o k h = λ j. pend_drop pending fly front back e k (h j)

-- but for the first items for the client, and what may come again
pub drop_kept : (me : IndAddr) (asked : List (List ℕ)) (c : Client) (fly : Option TransportFrame) (front back e : List Arrival) (o : Seen) → NoConfirmation e → Invariant me asked c fly ((front ++ back) ++ e) o → Invariant me asked c None (front ++ e) o
drop_kept me asked c fly front back e o k inv = record { owed_ok = inv.owed_ok; whole = inv.whole; side = side_with me asked fly None o tt inv.side; phase = phase_drop c.end c.joined c.pending c.owed c.sent c.accepted asked fly front back e o k inv.phase }

-- ---- the last frame of the bus

pend_last : (pending : Bool) (fly : Option TransportFrame) (coming : List Arrival) (x : TransportFrame) → Pending pending fly (coming ++ Frame x ∷ []) → Pending pending fly coming
pend_last false fly coming x h = (h.0, noconf_front coming (Frame x ∷ []) h.1)
pend_last true fly coming x (inl h) = inl (h.0, h.1, noconf_front coming (Frame x ∷ []) h.2)
pend_last true fly coming x (inr (inl h)) = elim (split_front coming (Frame x ∷ []) h.0 h.1 h.3) [ inl q ↦ inr (inr (h.2, q)) | inr q ↦ inr (inl (h.0, q.0, h.2, q.1)) ]
pend_last true fly coming x (inr (inr h)) = inr (inr (h.0, noconf_front coming (Frame x ∷ []) h.1))

asked_last_one : (asked : List (List ℕ)) (fly : Option TransportFrame) (coming : List Arrival) (x : TransportFrame) (o : Seen) → AskedIs asked fly (coming ++ Frame x ∷ []) o → AskedIs asked fly coming o
asked_last_one asked fly coming x o (inl h) = inl (h.0, noconf_front coming (Frame x ∷ []) h.1)
asked_last_one asked fly coming x o (inr (inr h)) = inr (inr (h.0, noconf_front coming (Frame x ∷ []) h.1))
asked_last_one asked fly coming x o (inr (inl (error, newer, g, split, opened))) =
    elim (split_front coming (Frame x ∷ []) error newer split) [
      | inl q ↦ inr (inr (g, q))
      | inr q ↦ inr (inl (error, q.0, g, q.1, opened_front error newer q.0 asked o (λ d. nodata_front q.0 (Frame x ∷ []) (subst (λ (z : List Arrival). NoData z) (sym q.2) d)) opened))
    ]

last_sess : (asked : List (List ℕ)) (fly : Option TransportFrame) (coming : List Arrival) (x : TransportFrame) (owed : List (List ℕ)) (waits : Bool) (number expected : ℕ) (sent accepted : List (List ℕ)) (o : Seen)
    → InSession asked fly (coming ++ Frame x ∷ []) owed waits number expected sent accepted o → InSession asked fly coming owed waits number expected sent accepted o
last_sess asked fly coming x owed waits number expected sent accepted o ss =
    record {
      same = ss.same;
      done = ss.done;
      number_is = ss.number_is;
      expected_is = ss.expected_is;
      waiting = ss.waiting;
      told = ss.told;
      acks = placed_middle AckAt NotAck (ss.done - 1) coming (Frame x ∷ []) o.unsent (length o.delivered) ss.acks;
      answers = placed_middle (AnswerAt (GivenAt o.given)) NotAnswer (length accepted - 1) coming (Frame x ∷ []) o.unsent (length o.given) ss.answers;
      heard_is = ss.heard_is;
      bound = ss.bound;
      ups_are = ss.ups_are;
      flies = ss.flies;
    }

phase_last : (end : ClientEnd) (joined pending : Bool) (owed sent accepted asked : List (List ℕ)) (fly : Option TransportFrame) (coming : List Arrival) (x : TransportFrame) (o : Seen)
    → PhaseIs end joined pending owed sent accepted asked fly (coming ++ Frame x ∷ []) o → PhaseIs end joined pending owed sent accepted asked fly coming o
phase_last (Asked device) joined pending owed sent accepted asked fly coming x o h = (h.0, h.1, asked_last_one asked fly coming x o h.2)
phase_last (Up t) joined pending owed sent accepted asked fly coming x o h = (pend_last pending fly coming x h.0, last_sess asked fly coming x owed false t.number t.expected sent accepted o h.1)
phase_last (Asking t q) joined pending owed sent accepted asked fly coming x o h = (pend_last pending fly coming x h.0, last_sess asked fly coming x owed true t.number t.expected sent accepted o h.1, h.2)
phase_last (Awaiting t) joined pending owed sent accepted asked fly coming x o h = (pend_last pending fly coming x h.0, last_sess asked fly coming x owed false t.number t.expected sent accepted o h.1)
phase_last Ended joined pending owed sent accepted asked fly coming x o h = λ j. pend_last pending fly coming x (h j)

-- it comes no more
pub last_kept : (me : IndAddr) (asked : List (List ℕ)) (c : Client) (fly : Option TransportFrame) (coming : List Arrival) (x : TransportFrame) (o : Seen) → Invariant me asked c fly (coming ++ Frame x ∷ []) o → Invariant me asked c fly coming o
last_kept me asked c fly coming x o inv = record { owed_ok = inv.owed_ok; whole = inv.whole; side = inv.side; phase = phase_last c.end c.joined c.pending c.owed c.sent c.accepted asked fly coming x o inv.phase }

pend_twice : (pending : Bool) (fly : Option TransportFrame) (coming : List Arrival) (x : TransportFrame) → Pending pending fly coming → Pending pending fly (coming ++ Frame x ∷ [])
pend_twice false fly coming x h = (h.0, noconf_append coming (Frame x ∷ []) h.1 (tt, tt))
pend_twice true fly coming x (inl h) = inl (h.0, h.1, noconf_append coming (Frame x ∷ []) h.2 (tt, tt))
pend_twice true fly coming x (inr (inl h)) = inr (inl (h.0, h.1 ++ Frame x ∷ [], h.2, split_append coming h.0 h.1 (Frame x ∷ []) h.3 (tt, tt)))
pend_twice true fly coming x (inr (inr h)) = inr (inr (h.0, noconf_append coming (Frame x ∷ []) h.1 (tt, tt)))

-- the newer items of a coming that ends so end so too, or the confirmation is the last but it
newer_last : (coming : List Arrival) (x : TransportFrame) (t : Bool) (newer : List Arrival) → Split (coming ++ Frame x ∷ []) t newer → (front : List Arrival) × (newer ≡ front ++ Frame x ∷ [])
newer_last [] x t newer h = absurd h
newer_last (Confirmation c ∷ coming) x t newer h = (coming, sym h.1)
newer_last (Frame f ∷ coming) x t newer h = newer_last coming x t newer h

nodata_twice : (front : List Arrival) (x : TransportFrame) (newer : List Arrival) → newer ≡ front ++ Frame x ∷ [] → NoData newer → NoData (newer ++ Frame x ∷ [])
nodata_twice front x newer e d = nodata_append newer (Frame x ∷ []) d (nodata_back front (Frame x ∷ []) (subst (λ (z : List Arrival). NoData z) e d))

asked_twice : (asked : List (List ℕ)) (fly : Option TransportFrame) (coming : List Arrival) (x : TransportFrame) (o : Seen) → AskedIs asked fly (coming ++ Frame x ∷ []) o → AskedIs asked fly ((coming ++ Frame x ∷ []) ++ Frame x ∷ []) o
asked_twice asked fly coming x o (inl h) = inl (h.0, noconf_append (coming ++ Frame x ∷ []) (Frame x ∷ []) h.1 (tt, tt))
asked_twice asked fly coming x o (inr (inr h)) = inr (inr (h.0, noconf_append (coming ++ Frame x ∷ []) (Frame x ∷ []) h.1 (tt, tt)))
asked_twice asked fly coming x o (inr (inl (error, newer, g, split, opened))) =
    let e : (front : List Arrival) × (newer ≡ front ++ Frame x ∷ []) = newer_last coming x error newer split in
    inr (inl (error, newer ++ Frame x ∷ [], g, split_append (coming ++ Frame x ∷ []) error newer (Frame x ∷ []) split (tt, tt), opened_front error newer (newer ++ Frame x ∷ []) asked o (nodata_twice e.0 x newer e.1) opened))

twice_list : (coming unsent : List Arrival) (x : Arrival) → coming ++ x ∷ x ∷ unsent ≡ ((coming ++ x ∷ []) ++ x ∷ []) ++ unsent
twice_list coming unsent x = sym (append_assoc (coming ++ x ∷ []) (x ∷ []) unsent ∙ append_assoc coming (x ∷ []) (x ∷ unsent))

twice_sess : (asked : List (List ℕ)) (fly : Option TransportFrame) (coming : List Arrival) (x : TransportFrame) (owed : List (List ℕ)) (waits : Bool) (number expected : ℕ) (sent accepted : List (List ℕ)) (o : Seen)
    → InSession asked fly (coming ++ Frame x ∷ []) owed waits number expected sent accepted o → InSession asked fly ((coming ++ Frame x ∷ []) ++ Frame x ∷ []) owed waits number expected sent accepted o
twice_sess asked fly coming x owed waits number expected sent accepted o ss =
    record {
      same = ss.same;
      done = ss.done;
      number_is = ss.number_is;
      expected_is = ss.expected_is;
      waiting = ss.waiting;
      told = ss.told;
      acks = subst (λ (z : List Arrival). Acks (ss.done - 1) z (length o.delivered)) (twice_list coming o.unsent (Frame x)) (placed_twice AckAt NotAck (ss.done - 1) coming o.unsent (Frame x) (length o.delivered)
          (subst (λ (z : List Arrival). Acks (ss.done - 1) z (length o.delivered)) (append_assoc coming (Frame x ∷ []) o.unsent) ss.acks));
      answers = subst (λ (z : List Arrival). Answers o.given (length accepted - 1) z) (twice_list coming o.unsent (Frame x)) (placed_twice (AnswerAt (GivenAt o.given)) NotAnswer (length accepted - 1) coming o.unsent (Frame x) (length o.given)
          (subst (λ (z : List Arrival). Answers o.given (length accepted - 1) z) (append_assoc coming (Frame x ∷ []) o.unsent) ss.answers));
      heard_is = ss.heard_is;
      bound = ss.bound;
      ups_are = ss.ups_are;
      flies = ss.flies;
    }

phase_twice : (end : ClientEnd) (joined pending : Bool) (owed sent accepted asked : List (List ℕ)) (fly : Option TransportFrame) (coming : List Arrival) (x : TransportFrame) (o : Seen)
    → PhaseIs end joined pending owed sent accepted asked fly (coming ++ Frame x ∷ []) o → PhaseIs end joined pending owed sent accepted asked fly ((coming ++ Frame x ∷ []) ++ Frame x ∷ []) o
phase_twice (Asked device) joined pending owed sent accepted asked fly coming x o h = (h.0, h.1, asked_twice asked fly coming x o h.2)
phase_twice (Up t) joined pending owed sent accepted asked fly coming x o h = (pend_twice pending fly (coming ++ Frame x ∷ []) x h.0, twice_sess asked fly coming x owed false t.number t.expected sent accepted o h.1)
phase_twice (Asking t q) joined pending owed sent accepted asked fly coming x o h = (pend_twice pending fly (coming ++ Frame x ∷ []) x h.0, twice_sess asked fly coming x owed true t.number t.expected sent accepted o h.1, h.2)
phase_twice (Awaiting t) joined pending owed sent accepted asked fly coming x o h = (pend_twice pending fly (coming ++ Frame x ∷ []) x h.0, twice_sess asked fly coming x owed false t.number t.expected sent accepted o h.1)
phase_twice Ended joined pending owed sent accepted asked fly coming x o h = λ j. pend_twice pending fly (coming ++ Frame x ∷ []) x (h j)

-- it comes again
pub twice_kept : (me : IndAddr) (asked : List (List ℕ)) (c : Client) (fly : Option TransportFrame) (coming : List Arrival) (x : TransportFrame) (o : Seen) → Invariant me asked c fly (coming ++ Frame x ∷ []) o → Invariant me asked c fly ((coming ++ Frame x ∷ []) ++ Frame x ∷ []) o
twice_kept me asked c fly coming x o inv = record { owed_ok = inv.owed_ok; whole = inv.whole; side = inv.side; phase = phase_twice c.end c.joined c.pending c.owed c.sent c.accepted asked fly coming x o inv.phase }

pub lose_kept : (me : IndAddr) (asked : List (List ℕ)) (c : Client) (fly : Option TransportFrame) (coming : List Arrival) (o : Seen) → Invariant me asked c fly coming o → Invariant me asked (record (ended c) { joined = false }) fly coming o
lose_kept me asked c fly coming o inv = record { owed_ok = tt; whole = inv.whole; side = inv.side; phase = λ e. absurd (false≢true e) }

pub join_kept : (me : IndAddr) (asked : List (List ℕ)) (c : Client) (fly : Option TransportFrame) (coming e : List Arrival) (o : Seen) → NoConfirmation e → Invariant me asked c fly coming o → Invariant me asked (record (ended c) { joined = true; pending = false }) None e o
join_kept me asked c fly coming e o k inv = record { owed_ok = tt; whole = inv.whole; side = side_with me asked fly None o tt inv.side; phase = λ j. (refl, k) }
