-- What the device sends keeps the invariant.
use Rattle.std.proofs.Common.{◌≡◌, ℕ, suc, ◌+◌, ◌-◌, ◌%◌, ◌≤◌, List, [], ◌∷◌, ◌++◌, length, Bool, true, false, Option, refl, sym, ◌∙◌, ap, subst, arith, inl, inr, append_assoc, append-nil}
use Rattle.knx_model.specs.declared.address.IndAddr.{IndAddr}
use Rattle.knx_model.specs.declared.connection.TransportFrame.{TransportFrame}
use Rattle.knx_model.specs.declared.connection.TransportFrame.TheVariants.{Numbered}
use Rattle.knx_model.specs.ClientConnection.{ClientEnd, Asked, Up, Asking, Awaiting, Ended}
use Rattle.session_law.specs.World.{Client}
use Rattle.session_law.specs.Device.{AtGateway, Comes, IsLost}
use Rattle.session_law.specs.Promises.{IsFirstOf}
use Rattle.session_law.proofs.Arrivals.{Arrival, Frame, NoConfirmation, NotAck, NotAnswer, NoData, noconf_append, nodata_append, split_append}
use Rattle.session_law.proofs.Placed.{AckAt, AnswerAt, placed_low, placed_insert, placed_remove, placed_front, placed_snoc}
use Rattle.session_law.proofs.Seen.{Seen, extra}
use Rattle.session_law.proofs.Spoken.{Speaks, SShift, SAgain, SNothing}
use Rattle.session_law.proofs.Invariant.{GivenAt, ups, InSession, Fresh, AskedIs, Pending, PhaseIs, Invariant, tail_length, Acks, Answers}
use Rattle.session_law.proofs.Sides.{spoke_side}

-- what it sent joins the coming, or is lost

abbrev pub and_sent : AtGateway → List Arrival → List Arrival → List Arrival
and_sent IsLost coming k = coming
and_sent Comes coming k = coming ++ k

spoke_acks : (me : IndAddr) (o n : Seen) (k : List Arrival) (lost : AtGateway) (low : ℕ) (coming : List Arrival) (m : ℕ) → Speaks me o n k → Acks low (coming ++ o.unsent) m → Acks low (and_sent lost coming k ++ n.unsent) m
spoke_acks me o n k IsLost low coming m (SShift x rest q e) h = placed_remove AckAt NotAck low coming rest x m (subst (λ (z : List Arrival). Acks low (coming ++ z) m) e h)
spoke_acks me o n k Comes low coming m (SShift x rest q e) h = subst (λ (z : List Arrival). Acks low z m) (sym (append_assoc coming (x ∷ []) rest)) (subst (λ (z : List Arrival). Acks low (coming ++ z) m) e h)
spoke_acks me o n k IsLost low coming m (SAgain c v older bare ge ex ci st) h = h
spoke_acks me o n k Comes low coming m (SAgain c v older bare ge ex ci st) h =
    subst (λ (z : List Arrival). Acks low z m) (sym (append_assoc coming (Frame (Numbered (length older % 16) v) ∷ []) o.unsent)) (placed_insert AckAt NotAck low coming o.unsent (Frame (Numbered (length older % 16) v)) m tt h)
spoke_acks me o n k IsLost low coming m SNothing h = h
spoke_acks me o n k Comes low coming m SNothing h = subst (λ (z : List Arrival). Acks low (z ++ o.unsent) m) (sym (append-nil coming)) h

spoke_answers : (me : IndAddr) (o n : Seen) (k : List Arrival) (lost : AtGateway) (low : ℕ) (coming : List Arrival) → low ≤ length o.given - 1 → Speaks me o n k → Answers o.given low (coming ++ o.unsent) → Answers n.given low (and_sent lost coming k ++ n.unsent)
spoke_answers me o n k IsLost low coming le (SShift x rest q e) h = placed_remove (AnswerAt (GivenAt o.given)) NotAnswer low coming rest x (length o.given) (subst (λ (z : List Arrival). Answers o.given low (coming ++ z)) e h)
spoke_answers me o n k Comes low coming le (SShift x rest q e) h = subst (λ (z : List Arrival). Answers o.given low z) (sym (append_assoc coming (x ∷ []) rest)) (subst (λ (z : List Arrival). Answers o.given low (coming ++ z)) e h)
spoke_answers me o n k IsLost low coming le (SAgain c v older bare ge ex ci st) h = h
spoke_answers me o n k Comes low coming le (SAgain c v older bare ge ex ci st) h =
    let len : length o.given ≡ suc (length older) = ap (λ (z : List (List ℕ)). length z) ge in
    let front : Answers o.given low coming = subst (λ (z : List Arrival). Answers o.given low z) (append-nil coming) (placed_front (AnswerAt (GivenAt o.given)) NotAnswer low coming o.unsent (length o.given) h) in
    subst (λ (z : List Arrival). Answers o.given low ((coming ++ k) ++ z)) (sym bare) (subst (λ (z : List Arrival). Answers o.given low z) (sym (append-nil (coming ++ k)))
    (placed_snoc (AnswerAt (GivenAt o.given)) NotAnswer low coming (Frame (Numbered (length older % 16) v)) (length older) (length o.given) (omega arith) (sym len) (record { value = v; is = refl; right = (older, refl, ([], ge)) }) front))
spoke_answers me o n k IsLost low coming le SNothing h = h
spoke_answers me o n k Comes low coming le SNothing h = subst (λ (z : List Arrival). Answers o.given low (z ++ o.unsent)) (sym (append-nil coming)) h

-- what stays of a device that sends
pub record SpokeSame (o n : Seen) : Type 0 where
  pub ds : n.delivered ≡ o.delivered
  pub gs : n.given ≡ o.given
  pub last : n.last ≡ o.last
  pub more : extra o.connection ≤ extra n.connection

spoke_same : (me : IndAddr) (o n : Seen) (k : List Arrival) → Speaks me o n k → SpokeSame o n
spoke_same me o n k (SShift x rest q e) = record { ds = refl; gs = refl; last = refl; more = omega arith }
spoke_same me o n k (SAgain c v older bare ge ex ci st) = record { ds = refl; gs = refl; last = refl; more = omega arith }
spoke_same me o n k SNothing = record { ds = refl; gs = refl; last = refl; more = omega arith }

spoke_sess : (me : IndAddr) (asked : List (List ℕ)) (fly : Option TransportFrame) (coming : List Arrival) (owed : List (List ℕ)) (waits : Bool) (number expected : ℕ) (sent accepted : List (List ℕ)) (o n : Seen) (k : List Arrival) (lost : AtGateway)
    → Speaks me o n k → InSession asked fly coming owed waits number expected sent accepted o → InSession asked fly (and_sent lost coming k) owed waits number expected sent accepted n
spoke_sess me asked fly coming owed waits number expected sent accepted o n k lost sp ss =
    let q : SpokeSame o n = spoke_same me o n k sp in
    let more : extra o.connection ≤ extra n.connection = q.more in
    let bound : length o.given ≤ extra o.connection + length accepted = ss.bound in
    let len : length n.given ≡ length o.given = ap (λ (z : List (List ℕ)). length z) q.gs in
    let short : length accepted ≤ length o.given = tail_length accepted o.given ss.heard_is in
    record {
      same = ss.same;
      done = ss.done;
      number_is = ss.number_is;
      expected_is = ss.expected_is;
      waiting = ss.waiting;
      told = subst (λ (z : List (List ℕ)). ss.done ≤ length z) (sym q.ds) ss.told;
      acks = subst (λ (z : List (List ℕ)). Acks (ss.done - 1) (and_sent lost coming k ++ n.unsent) (length z)) (sym q.ds) (spoke_acks me o n k lost (ss.done - 1) coming (length o.delivered) sp ss.acks);
      answers = spoke_answers me o n k lost (length accepted - 1) coming (omega arith) sp ss.answers;
      heard_is = subst (λ (z : List (List ℕ)). IsFirstOf accepted z) (sym q.gs) ss.heard_is;
      bound = omega arith;
      ups_are = subst (λ (z : Option TransportFrame). Acks (length n.given - (1 + extra n.connection)) (ups z fly owed) (length accepted)) (sym q.last)
          (placed_low AckAt NotAck (length o.given - (1 + extra o.connection)) (length n.given - (1 + extra n.connection)) (ups o.last fly owed) (length accepted) (omega arith) ss.ups_are);
      flies = ss.flies;
    }

queued_sent : (newer k : List Arrival) (lost : AtGateway) → NoData newer → NoData k → NoData (and_sent lost newer k)
queued_sent newer k IsLost h q = h
queued_sent newer k Comes h q = nodata_append newer k h q

fresh_spoke : (me : IndAddr) (newer : List Arrival) (asked : List (List ℕ)) (o n : Seen) (k : List Arrival) (lost : AtGateway) → Fresh newer asked o → Speaks me o n k → Fresh (and_sent lost newer k) asked n
fresh_spoke me newer asked o n k lost h (SShift x rest q e) =
    let u : NoData (x ∷ rest) = subst (λ (z : List Arrival). NoData z) e h.unsent in
    record { none = h.none; ds = h.ds; gs = h.gs; queued = queued_sent newer (x ∷ []) lost h.queued (u.0, tt); unsent = u.1; plain = h.plain }
fresh_spoke me newer asked o n k lost h (SAgain c v older bare ge ex ci st) = absurd (let g : v ∷ older ≡ [] = sym ge ∙ h.gs in cc)
fresh_spoke me newer asked o n k lost h SNothing = record { none = h.none; ds = h.ds; gs = h.gs; queued = queued_sent newer [] lost h.queued tt; unsent = h.unsent; plain = h.plain }

spoke_noconf : (me : IndAddr) (o n : Seen) (k : List Arrival) → Speaks me o n k → NoConfirmation k
spoke_noconf me o n k (SShift x rest q e) = (q, tt)
spoke_noconf me o n k (SAgain c v older bare ge ex ci st) = (tt, tt)
spoke_noconf me o n k SNothing = tt

-- ---- it sends

pend_sent : (pending : Bool) (fly : Option TransportFrame) (coming k : List Arrival) (lost : AtGateway) → NoConfirmation k → Pending pending fly coming → Pending pending fly (and_sent lost coming k)
pend_sent pending fly coming k IsLost q h = h
pend_sent false fly coming k Comes q h = (h.0, noconf_append coming k h.1 q)
pend_sent true fly coming k Comes q (inl h) = inl (h.0, h.1, noconf_append coming k h.2 q)
pend_sent true fly coming k Comes q (inr (inl h)) = inr (inl (h.0, h.1 ++ k, h.2, split_append coming h.0 h.1 k h.3 q))
pend_sent true fly coming k Comes q (inr (inr h)) = inr (inr (h.0, noconf_append coming k h.1 q))

noconf_sent : (coming k : List Arrival) (lost : AtGateway) → NoConfirmation k → NoConfirmation coming → NoConfirmation (and_sent lost coming k)
noconf_sent coming k IsLost q h = h
noconf_sent coming k Comes q h = noconf_append coming k h q

asked_sent : (me : IndAddr) (asked : List (List ℕ)) (fly : Option TransportFrame) (coming : List Arrival) (o n : Seen) (k : List Arrival) (lost : AtGateway) → Speaks me o n k → AskedIs asked fly coming o → AskedIs asked fly (and_sent lost coming k) n
asked_sent me asked fly coming o n k lost sp (inl h) = inl (h.0, noconf_sent coming k lost (spoke_noconf me o n k sp) h.1)
asked_sent me asked fly coming o n k lost sp (inr (inr h)) = inr (inr (h.0, noconf_sent coming k lost (spoke_noconf me o n k sp) h.1))
asked_sent me asked fly coming o n k IsLost sp (inr (inl (true, newer, e, split, h))) = inr (inl (true, newer, e, split, tt))
asked_sent me asked fly coming o n k Comes sp (inr (inl (true, newer, e, split, h))) = inr (inl (true, newer ++ k, e, split_append coming true newer k split (spoke_noconf me o n k sp), tt))
asked_sent me asked fly coming o n k IsLost sp (inr (inl (false, newer, e, split, h))) = inr (inl (false, newer, e, split, fresh_spoke me newer asked o n k IsLost h sp))
asked_sent me asked fly coming o n k Comes sp (inr (inl (false, newer, e, split, h))) = inr (inl (false, newer ++ k, e, split_append coming false newer k split (spoke_noconf me o n k sp), fresh_spoke me newer asked o n k Comes h sp))

phase_sent : (me : IndAddr) (end : ClientEnd) (joined pending : Bool) (owed sent accepted asked : List (List ℕ)) (fly : Option TransportFrame) (coming : List Arrival) (o n : Seen) (k : List Arrival) (lost : AtGateway) → Speaks me o n k
    → PhaseIs end joined pending owed sent accepted asked fly coming o → PhaseIs end joined pending owed sent accepted asked fly (and_sent lost coming k) n
phase_sent me (Asked device) joined pending owed sent accepted asked fly coming o n k lost sp h = (h.0, h.1, asked_sent me asked fly coming o n k lost sp h.2)
phase_sent me (Up s) joined pending owed sent accepted asked fly coming o n k lost sp h =
    (pend_sent pending fly coming k lost (spoke_noconf me o n k sp) h.0, spoke_sess me asked fly coming owed false s.number s.expected sent accepted o n k lost sp h.1)
phase_sent me (Asking s q) joined pending owed sent accepted asked fly coming o n k lost sp h =
    (pend_sent pending fly coming k lost (spoke_noconf me o n k sp) h.0, spoke_sess me asked fly coming owed true s.number s.expected sent accepted o n k lost sp h.1, h.2)
phase_sent me (Awaiting s) joined pending owed sent accepted asked fly coming o n k lost sp h =
    (pend_sent pending fly coming k lost (spoke_noconf me o n k sp) h.0, spoke_sess me asked fly coming owed false s.number s.expected sent accepted o n k lost sp h.1)
phase_sent me Ended joined pending owed sent accepted asked fly coming o n k lost sp h = λ e. pend_sent pending fly coming k lost (spoke_noconf me o n k sp) (h e)

pub spoke_kept : (me : IndAddr) (asked : List (List ℕ)) (c : Client) (fly : Option TransportFrame) (coming : List Arrival) (o n : Seen) (k : List Arrival) (lost : AtGateway) → Invariant me asked c fly coming o → Speaks me o n k → Invariant me asked c fly (and_sent lost coming k) n
spoke_kept me asked c fly coming o n k lost inv sp =
    record {
      owed_ok = inv.owed_ok;
      whole = inv.whole;
      side = spoke_side me asked fly o n k inv.side sp;
      phase = phase_sent me c.end c.joined c.pending c.owed c.sent c.accepted asked fly coming o n k lost sp inv.phase;
    }
