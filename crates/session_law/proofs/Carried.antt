-- What goes over the bus keeps the invariant.
use Rattle.std.proofs.Common.{◌≡◌, ℕ, ◌+◌, ◌-◌, List, [], ◌∷◌, ◌++◌, length, Bool, true, false, cond, Option, Some, None, refl, sym, subst, arith, inl, inr, append_assoc}
use Rattle.knx_model.specs.declared.address.IndAddr.{IndAddr}
use Rattle.knx_model.specs.declared.connection.TransportFrame.{TransportFrame}
use Rattle.knx_model.specs.declared.connection.TransportFrame.TheVariants.{Connect}
use Rattle.knx_model.specs.ClientConnection.{ClientEnd, Asked, Up, Asking, Awaiting, Ended}
use Rattle.session_law.specs.World.{Client}
use Rattle.knx_model.specs.DeviceFrames.{Outcome}
use Rattle.session_law.proofs.Arrivals.{Arrival, Confirmation, Frame, NoConfirmation, NotAck, NotAnswer, IsntConnect, arrival_if, owed_arrivals, split_conf}
use Rattle.session_law.proofs.Placed.{AckAt, AnswerAt, placed_insert, placed_remove, placed_back}
use Rattle.session_law.proofs.Seen.{Seen, extra}
use Rattle.session_law.proofs.Taken.{Hears, HOpens, HDelivers, HAnswers, HAgain, HSpeaks, HAcked, HCloses, Got, GNot, GWhole, GTorn, cut_seen}
use Rattle.session_law.proofs.Spoken.{ShCut}
use Rattle.session_law.proofs.Invariant.{GivenAt, FlyIs, Side, InSession, LastPlain, Fresh, AskedIs, Pending, PhaseIs, Invariant, Acks, Answers}
use Rattle.session_law.proofs.Sides.{fly_ready, heard_side, opened_side}
use Rattle.session_law.proofs.Sessions.{heard_sess}
use Rattle.std.specs.Prelude.{not}
use Rattle.session_law.proofs.Again.{kept_any, torn_opens, shut_kept}

some_is : (s t : TransportFrame) → Some s ≡ Some t → s ≡ t
some_is s t e = cc

pend_flying : (pending : Bool) (s : TransportFrame) (coming : List Arrival) → Pending pending (Some s) coming → (pending ≡ true) × NoConfirmation coming
pend_flying false s coming h = absurd (let g : Some s ≡ None = h.0 in cc)
pend_flying true s coming (inl h) = (refl, h.2)
pend_flying true s coming (inr (inl h)) = absurd (let g : Some s ≡ None = h.2 in cc)
pend_flying true s coming (inr (inr h)) = absurd (let g : Some s ≡ None = h.0 in cc)

pend_after : (pending : Bool) (s : TransportFrame) (coming : List Arrival) (error : Bool) → Pending pending (Some s) coming → Pending pending None (coming ++ Confirmation error ∷ [])
pend_after pending s coming error h =
    let q : (pending ≡ true) × NoConfirmation coming = pend_flying pending s coming h in
    let there : Pending true None (coming ++ Confirmation error ∷ []) = inr (inl (error, [], refl, split_conf coming error q.1)) in
    subst (λ (t : Bool). Pending t None (coming ++ Confirmation error ∷ [])) (sym q.0) there

-- the confirmation joins the coming
conf_sess : (asked : List (List ℕ)) (coming : List Arrival) (owed : List (List ℕ)) (waits : Bool) (number expected : ℕ) (sent accepted : List (List ℕ)) (o : Seen) (error : Bool)
    → InSession asked None coming owed waits number expected sent accepted o → InSession asked None (coming ++ Confirmation error ∷ []) owed waits number expected sent accepted o
conf_sess asked coming owed waits number expected sent accepted o error ss =
    record {
      same = ss.same;
      done = ss.done;
      number_is = ss.number_is;
      expected_is = ss.expected_is;
      waiting = ss.waiting;
      told = ss.told;
      acks = subst (λ (l : List Arrival). Acks (ss.done - 1) l (length o.delivered)) (sym (append_assoc coming (Confirmation error ∷ []) o.unsent)) (placed_insert AckAt NotAck (ss.done - 1) coming o.unsent (Confirmation error) (length o.delivered) tt ss.acks);
      answers = subst (λ (l : List Arrival). Answers o.given (length accepted - 1) l) (sym (append_assoc coming (Confirmation error ∷ []) o.unsent)) (placed_insert (AnswerAt (GivenAt o.given)) NotAnswer (length accepted - 1) coming o.unsent (Confirmation error) (length o.given) tt ss.answers);
      heard_is = ss.heard_is;
      bound = ss.bound;
      ups_are = ss.ups_are;
      flies = tt;
    }

-- without the frame at hand
pub ups_without : (low n : ℕ) (last : List Arrival) (fly : Option TransportFrame) (owed : List Arrival) → Acks low (last ++ (arrival_if fly ++ owed)) n → Acks low (last ++ owed) n
ups_without low n last None owed h = h
ups_without low n last (Some s) owed h = placed_remove AckAt NotAck low last owed (Frame s) n h

sess_without : (asked : List (List ℕ)) (fly : Option TransportFrame) (coming : List Arrival) (owed : List (List ℕ)) (waits : Bool) (number expected : ℕ) (sent accepted : List (List ℕ)) (o : Seen)
    → InSession asked fly coming owed waits number expected sent accepted o → InSession asked None coming owed waits number expected sent accepted o
sess_without asked fly coming owed waits number expected sent accepted o ss =
    record {
      same = ss.same;
      done = ss.done;
      number_is = ss.number_is;
      expected_is = ss.expected_is;
      waiting = ss.waiting;
      told = ss.told;
      acks = ss.acks;
      answers = ss.answers;
      heard_is = ss.heard_is;
      bound = ss.bound;
      ups_are = ups_without (length o.given - (1 + extra o.connection)) (length accepted) (arrival_if o.last) fly (owed_arrivals owed) ss.ups_are;
      flies = tt;
    }

pub side_with : (me : IndAddr) (asked : List (List ℕ)) (fly fly' : Option TransportFrame) (o : Seen) → FlyIs fly' asked → Side me asked fly o → Side me asked fly' o
side_with me asked fly fly' o f h = record { prefix = h.prefix; one = h.one; connection = h.connection; fly_is = f; last_is = h.last_is }

-- ---- the device doesn't get it

asked_lost : (asked : List (List ℕ)) (s : TransportFrame) (coming : List Arrival) (o : Seen) → AskedIs asked (Some s) coming o → AskedIs asked None (coming ++ Confirmation true ∷ []) o
asked_lost asked s coming o (inl h) = inr (inl (true, [], refl, split_conf coming true h.1, tt))
asked_lost asked s coming o (inr (inl h)) = absurd (let g : Some s ≡ None = h.2 in cc)
asked_lost asked s coming o (inr (inr h)) = absurd (let g : Some s ≡ None = h.0 in cc)

phase_lost : (end : ClientEnd) (joined pending : Bool) (owed sent accepted asked : List (List ℕ)) (s : TransportFrame) (coming : List Arrival) (o : Seen)
    → PhaseIs end joined pending owed sent accepted asked (Some s) coming o → PhaseIs end joined pending owed sent accepted asked None (coming ++ Confirmation true ∷ []) o
phase_lost (Asked device) joined pending owed sent accepted asked s coming o h = (h.0, h.1, asked_lost asked s coming o h.2)
phase_lost (Up t) joined pending owed sent accepted asked s coming o h =
    (pend_after pending s coming true h.0, conf_sess asked coming owed false t.number t.expected sent accepted o true (sess_without asked (Some s) coming owed false t.number t.expected sent accepted o h.1))
phase_lost (Asking t q) joined pending owed sent accepted asked s coming o h =
    (pend_after pending s coming true h.0, conf_sess asked coming owed true t.number t.expected sent accepted o true (sess_without asked (Some s) coming owed true t.number t.expected sent accepted o h.1), h.2)
phase_lost (Awaiting t) joined pending owed sent accepted asked s coming o h =
    (pend_after pending s coming true h.0, conf_sess asked coming owed false t.number t.expected sent accepted o true (sess_without asked (Some s) coming owed false t.number t.expected sent accepted o h.1))
phase_lost Ended joined pending owed sent accepted asked s coming o h = λ e. pend_after pending s coming true (h e)

pub lost_kept : (me : IndAddr) (asked : List (List ℕ)) (c : Client) (s : TransportFrame) (coming : List Arrival) (o : Seen) → Invariant me asked c (Some s) coming o → Invariant me asked c None (coming ++ Confirmation true ∷ []) o
lost_kept me asked c s coming o inv =
    record { owed_ok = inv.owed_ok; whole = inv.whole; side = side_with me asked (Some s) None o tt inv.side; phase = phase_lost c.end c.joined c.pending c.owed c.sent c.accepted asked s coming o inv.phase }

-- ---- the device gets it

hears_isnt : {outcome : Outcome} → (me : IndAddr) (s : TransportFrame) (o n : Seen) → Hears me outcome s o false n → IsntConnect s
hears_isnt me s o n (HDelivers u apdu l ex se ci le ai) = subst (λ (z : TransportFrame). IsntConnect z) (sym se) tt
hears_isnt me s o n (HAnswers u a apdu v l ex se ci le ai) = subst (λ (z : TransportFrame). IsntConnect z) (sym se) tt
hears_isnt me s o n (HAgain c k apdu l se ne nx ex ci le st) = subst (λ (z : TransportFrame). IsntConnect z) (sym se) tt
hears_isnt me s o n (HSpeaks c k l sc pl ex ci le st) = sc
hears_isnt me s o n (HAcked u v older ex ge se ci nc) = subst (λ (z : TransportFrame). IsntConnect z) (sym se) tt
hears_isnt me s o n (HCloses k l sc pl le) = sc

hears_opens : {outcome : Outcome} → (me : IndAddr) (s : TransportFrame) (o n : Seen) → Hears me outcome s o true n → Fresh [] [] n × (s ≡ Connect)
hears_opens me s o n (HOpens t se ci) =
    let P : TransportFrame → Type 0 = λ z. LastPlain (Some z) in
    (record { none = refl; ds = refl; gs = refl; queued = tt; unsent = tt; plain = subst P (sym se) (tt, tt) }, se)

isnt_connect : (s : TransportFrame) → s ≡ Connect → IsntConnect s → ⊥
isnt_connect s e h = subst (λ (z : TransportFrame). IsntConnect z) e h

-- it opens the connection
asked_opens : {outcome : Outcome} → (me : IndAddr) (asked : List (List ℕ)) (s : TransportFrame) (coming : List Arrival) (o n : Seen) → Hears me outcome s o true n → AskedIs asked (Some s) coming o → AskedIs [] None (coming ++ Confirmation false ∷ []) n
asked_opens me asked s coming o n hr (inl h) = inr (inl (false, [], refl, split_conf coming false h.1, (hears_opens me s o n hr).0))
asked_opens me asked s coming o n hr (inr (inl h)) = absurd (let g : Some s ≡ None = h.2 in cc)
asked_opens me asked s coming o n hr (inr (inr h)) = absurd (let g : Some s ≡ None = h.0 in cc)

phase_opens : {outcome : Outcome} → (me : IndAddr) (end : ClientEnd) (joined pending : Bool) (owed sent accepted asked : List (List ℕ)) (s : TransportFrame) (coming : List Arrival) (o n : Seen) → Hears me outcome s o true n
    → PhaseIs end joined pending owed sent accepted asked (Some s) coming o → PhaseIs end joined pending owed sent accepted [] None (coming ++ Confirmation false ∷ []) n
phase_opens me (Asked device) joined pending owed sent accepted asked s coming o n hr h = (h.0, h.1, asked_opens me asked s coming o n hr h.2)
phase_opens me (Up t) joined pending owed sent accepted asked s coming o n hr h = absurd (isnt_connect s (hears_opens me s o n hr).1 h.1.flies)
phase_opens me (Asking t q) joined pending owed sent accepted asked s coming o n hr h = absurd (isnt_connect s (hears_opens me s o n hr).1 h.1.flies)
phase_opens me (Awaiting t) joined pending owed sent accepted asked s coming o n hr h = absurd (isnt_connect s (hears_opens me s o n hr).1 h.1.flies)
phase_opens me Ended joined pending owed sent accepted asked s coming o n hr h = λ e. pend_after pending s coming false (h e)

-- or not
bus_sess : {outcome : Outcome} → (me : IndAddr) (asked : List (List ℕ)) (s : TransportFrame) (coming : List Arrival) (owed : List (List ℕ)) (waits : Bool) (number expected : ℕ) (sent accepted : List (List ℕ)) (o n : Seen) → Side me asked (Some s) o → Hears me outcome s o false n
    → InSession asked (Some s) coming owed waits number expected sent accepted o → InSession asked None (coming ++ Confirmation false ∷ []) owed waits number expected sent accepted n
bus_sess me asked s coming owed waits number expected sent accepted o n side hr ss =
    let up : Acks (length o.given - (1 + extra o.connection)) (Frame s ∷ owed_arrivals owed) (length accepted) = placed_back AckAt NotAck (length o.given - (1 + extra o.connection)) (arrival_if o.last) (Frame s ∷ owed_arrivals owed) (length accepted) ss.ups_are in
    conf_sess asked coming owed waits number expected sent accepted n false
    (heard_sess me asked (Some s) None coming owed waits number expected sent accepted s o side (fly_ready s asked o.delivered side.prefix side.one side.fly_is) ss tt up n hr)

asked_bus : {outcome : Outcome} → (me : IndAddr) (asked : List (List ℕ)) (s : TransportFrame) (coming : List Arrival) (o n : Seen) → Hears me outcome s o false n → AskedIs asked (Some s) coming o → ⊥
asked_bus me asked s coming o n hr (inl h) = isnt_connect s (some_is s Connect h.0) (hears_isnt me s o n hr)
asked_bus me asked s coming o n hr (inr (inl h)) = let g : Some s ≡ None = h.2 in cc
asked_bus me asked s coming o n hr (inr (inr h)) = let g : Some s ≡ None = h.0 in cc

phase_bus : {outcome : Outcome} → (me : IndAddr) (end : ClientEnd) (joined pending : Bool) (owed sent accepted asked : List (List ℕ)) (s : TransportFrame) (coming : List Arrival) (o n : Seen) → Side me asked (Some s) o → Hears me outcome s o false n
    → PhaseIs end joined pending owed sent accepted asked (Some s) coming o → PhaseIs end joined pending owed sent accepted asked None (coming ++ Confirmation false ∷ []) n
phase_bus me (Asked device) joined pending owed sent accepted asked s coming o n side hr h = absurd (asked_bus me asked s coming o n hr h.2)
phase_bus me (Up t) joined pending owed sent accepted asked s coming o n side hr h = (pend_after pending s coming false h.0, bus_sess me asked s coming owed false t.number t.expected sent accepted o n side hr h.1)
phase_bus me (Asking t q) joined pending owed sent accepted asked s coming o n side hr h = (pend_after pending s coming false h.0, bus_sess me asked s coming owed true t.number t.expected sent accepted o n side hr h.1, h.2)
phase_bus me (Awaiting t) joined pending owed sent accepted asked s coming o n side hr h = (pend_after pending s coming false h.0, bus_sess me asked s coming owed false t.number t.expected sent accepted o n side hr h.1)
phase_bus me Ended joined pending owed sent accepted asked s coming o n side hr h = λ e. pend_after pending s coming false (h e)

-- torn, as if it weren't accepted
phase_torn : {outcome : Outcome} → (me : IndAddr) (end : ClientEnd) (joined pending : Bool) (owed sent accepted asked : List (List ℕ)) (s : TransportFrame) (coming : List Arrival) (o n : Seen) → Hears me outcome s o false n
    → PhaseIs end joined pending owed sent accepted asked (Some s) coming o → PhaseIs end joined pending owed sent accepted asked None (coming ++ Confirmation false ∷ []) o
phase_torn me (Asked device) joined pending owed sent accepted asked s coming o n hr h = absurd (asked_bus me asked s coming o n hr h.2)
phase_torn me (Up t) joined pending owed sent accepted asked s coming o n hr h =
    (pend_after pending s coming false h.0, conf_sess asked coming owed false t.number t.expected sent accepted o false (sess_without asked (Some s) coming owed false t.number t.expected sent accepted o h.1))
phase_torn me (Asking t q) joined pending owed sent accepted asked s coming o n hr h =
    (pend_after pending s coming false h.0, conf_sess asked coming owed true t.number t.expected sent accepted o false (sess_without asked (Some s) coming owed true t.number t.expected sent accepted o h.1), h.2)
phase_torn me (Awaiting t) joined pending owed sent accepted asked s coming o n hr h =
    (pend_after pending s coming false h.0, conf_sess asked coming owed false t.number t.expected sent accepted o false (sess_without asked (Some s) coming owed false t.number t.expected sent accepted o h.1))
phase_torn me Ended joined pending owed sent accepted asked s coming o n hr h = λ e. pend_after pending s coming false (h e)

bus_hears : {outcome : Outcome} → (me : IndAddr) (asked : List (List ℕ)) (c : Client) (s : TransportFrame) (coming : List Arrival) (o n : Seen) (b : Bool) → Invariant me asked c (Some s) coming o → Hears me outcome s o b n → Invariant me (cond b [] asked) c None (coming ++ Confirmation false ∷ []) n
bus_hears me asked c s coming o n true inv hr =
    record { owed_ok = inv.owed_ok; whole = inr refl; side = opened_side me [] None s o n (omega arith) tt hr; phase = phase_opens me c.end c.joined c.pending c.owed c.sent c.accepted asked s coming o n hr inv.phase }
bus_hears me asked c s coming o n false inv hr =
    record {
      owed_ok = inv.owed_ok;
      whole = inv.whole;
      side = heard_side me asked (Some s) None s o n tt (fly_ready s asked o.delivered inv.side.prefix inv.side.one inv.side.fly_is) inv.side hr;
      phase = phase_bus me c.end c.joined c.pending c.owed c.sent c.accepted asked s coming o n inv.side hr inv.phase;
    }

pub bus_kept : {outcome : Outcome} → (me : IndAddr) (asked : List (List ℕ)) (c : Client) (s : TransportFrame) (coming : List Arrival) (o n : Seen) (b taken : Bool) → Invariant me asked c (Some s) coming o → Got me outcome s o b taken n → Invariant me (cond b [] asked) c None (coming ++ Confirmation (not taken) ∷ []) n
bus_kept me asked c s coming o n b taken inv GNot = lost_kept me asked c s coming o inv
bus_kept me asked c s coming o n b taken inv (GWhole b2 n2 h w) = bus_hears me asked c s coming o n b inv h
bus_kept me asked c s coming o n true taken inv (GTorn b2 m h) = torn_opens me [] c None (coming ++ Confirmation false ∷ []) s o m (bus_hears me asked c s coming o m true inv h) h
bus_kept me asked c s coming o n false taken inv (GTorn b2 m h) =
    kept_any me asked c None (coming ++ Confirmation false ∷ []) (cut_seen o) m.frames m.kept
    (shut_kept me asked c None (coming ++ Confirmation false ∷ []) o (cut_seen o)
    (record { owed_ok = inv.owed_ok; whole = inv.whole; side = side_with me asked (Some s) None o tt inv.side; phase = phase_torn me c.end c.joined c.pending c.owed c.sent c.accepted asked s coming o m h inv.phase }) ShCut)
