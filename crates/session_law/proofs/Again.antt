-- What happens to the device alone keeps the invariant.
use Rattle.std.proofs.Common.{◌≡◌, ℕ, suc, ◌+◌, ◌-◌, ◌≤◌, List, [], ◌∷◌, ◌++◌, length, Bool, true, false, Option, Some, None, refl, sym, ◌∙◌, ap, subst, arith, inl, inr, append_assoc}
use Rattle.knx_model.specs.declared.address.IndAddr.{IndAddr}
use Rattle.knx_model.specs.declared.connection.TransportFrame.{TransportFrame}
use Rattle.knx_model.specs.declared.connection.TransportFrame.TheVariants.{Connect, Ack, Numbered, Other}
use Rattle.knx_model.specs.ClientConnection.{ClientEnd, Asked, Up, Asking, Awaiting, Ended}
use Rattle.session_law.specs.World.{Client}
use Rattle.session_law.specs.Promises.{IsFirstOf}
use Rattle.knx_model.specs.declared.device.FrameSupport.{FrameSupport}
use Rattle.knx_model.specs.Device.{NonVolatile}
use Rattle.knx_model.specs.DeviceFrames.{Outcome}
use Rattle.session_law.proofs.Arrivals.{Arrival, Frame, NotAck, NotAnswer, IsntAck, IsntData, NoData, Plain, arrival_if, owed_arrivals, plain_nodata, nodata_append}
use Rattle.session_law.proofs.Placed.{AckAt, AnswerAt, placed_low, placed_front, placed_back, acks_plain, answers_plain}
use Rattle.session_law.proofs.Seen.{Seen, extra}
use Rattle.session_law.proofs.Taken.{Hears, HOpens, HDelivers, HAnswers, HAgain, HSpeaks, HAcked, HCloses, Got, GNot, GWhole, GTorn, torn_seen, cut_seen}
use Rattle.session_law.proofs.Spoken.{Shuts, ShSame, ShCloses, ShCut}
use Rattle.session_law.proofs.Invariant.{GivenAt, LastIs, ups, InSession, LastPlain, Fresh, AskedIs, PhaseIs, Invariant, extra_le, Acks, Answers}
use Rattle.session_law.proofs.Sides.{heard_side, opened_side, shut_side}
use Rattle.session_law.proofs.Sessions.{heard_sess}

-- the device opened again with nothing delivered
opened_sess : {outcome : Outcome} → (me : IndAddr) (asked : List (List ℕ)) (fly : Option TransportFrame) (coming : List Arrival) (owed : List (List ℕ)) (waits : Bool) (number expected : ℕ) (sent accepted : List (List ℕ)) (s : TransportFrame) (o n : Seen)
    → o.delivered ≡ [] → o.given ≡ [] → Acks (length o.given - (1 + extra o.connection)) (ups (Some s) fly owed) (length accepted) → InSession asked fly coming owed waits number expected sent accepted o → Hears me outcome s o true n → InSession asked fly coming owed waits number expected sent accepted n
opened_sess me asked fly coming owed waits number expected sent accepted s o n ds gs up ss (HOpens t se ci) =
    let told : ss.done ≤ 0 = subst (λ (z : List (List ℕ)). ss.done ≤ length z) ds ss.told in
    record {
      same = ss.same;
      done = ss.done;
      number_is = ss.number_is;
      expected_is = ss.expected_is;
      waiting = ss.waiting;
      told = told;
      acks = placed_front AckAt NotAck (ss.done - 1) coming o.unsent 0 (subst (λ (z : List (List ℕ)). Acks (ss.done - 1) (coming ++ o.unsent) (length z)) ds ss.acks);
      answers = placed_front (AnswerAt (GivenAt [])) NotAnswer (length accepted - 1) coming o.unsent 0 (subst (λ (z : List (List ℕ)). Answers z (length accepted - 1) (coming ++ o.unsent)) gs ss.answers);
      heard_is = subst (λ (z : List (List ℕ)). IsFirstOf accepted z) gs ss.heard_is;
      bound = omega arith;
      ups_are = placed_low AckAt NotAck (length o.given - (1 + extra o.connection)) 0 (ups (Some s) fly owed) (length accepted) (omega arith) up;
      flies = ss.flies;
    }

pub shut_sess : (asked : List (List ℕ)) (fly : Option TransportFrame) (coming : List Arrival) (owed : List (List ℕ)) (waits : Bool) (number expected : ℕ) (sent accepted : List (List ℕ)) (o n : Seen)
    → InSession asked fly coming owed waits number expected sent accepted o → Shuts o n → InSession asked fly coming owed waits number expected sent accepted n
shut_sess asked fly coming owed waits number expected sent accepted o n ss ShSame = ss
shut_sess asked fly coming owed waits number expected sent accepted o n ss (ShCloses k l pl le) =
    let bound : length o.given ≤ extra o.connection + length accepted = ss.bound in
    let ex : extra o.connection ≤ 1 = extra_le o.connection in
    record {
      same = ss.same;
      done = ss.done;
      number_is = ss.number_is;
      expected_is = ss.expected_is;
      waiting = ss.waiting;
      told = ss.told;
      acks = subst (λ (z : List Arrival). Acks (ss.done - 1) (coming ++ z) (length o.delivered)) (sym le) (subst (λ (z : List Arrival). Acks (ss.done - 1) z (length o.delivered)) (append_assoc coming o.unsent k) (acks_plain (ss.done - 1) (coming ++ o.unsent) k (length o.delivered) pl ss.acks));
      answers = subst (λ (z : List Arrival). Answers o.given (length accepted - 1) (coming ++ z)) (sym le)
          (subst (λ (z : List Arrival). Answers o.given (length accepted - 1) z) (append_assoc coming o.unsent k) (answers_plain (GivenAt o.given) (length accepted - 1) (coming ++ o.unsent) k (length o.given) pl ss.answers));
      heard_is = ss.heard_is;
      bound = omega arith;
      ups_are = placed_low AckAt NotAck (length o.given - (1 + extra o.connection)) (length o.given - 2) (ups o.last fly owed) (length accepted) (omega arith) ss.ups_are;
      flies = ss.flies;
    }
shut_sess asked fly coming owed waits number expected sent accepted o n ss ShCut =
    let bound : length o.given ≤ extra o.connection + length accepted = ss.bound in
    let ex : extra o.connection ≤ 1 = extra_le o.connection in
    record {
      same = ss.same;
      done = ss.done;
      number_is = ss.number_is;
      expected_is = ss.expected_is;
      waiting = ss.waiting;
      told = ss.told;
      acks = placed_front AckAt NotAck (ss.done - 1) coming o.unsent (length o.delivered) ss.acks;
      answers = placed_front (AnswerAt (GivenAt o.given)) NotAnswer (length accepted - 1) coming o.unsent (length o.given) ss.answers;
      heard_is = ss.heard_is;
      bound = omega arith;
      ups_are = placed_low AckAt NotAck (length o.given - (1 + extra o.connection)) (length o.given - 2) (ups None fly owed) (length accepted) (omega arith)
          (placed_back AckAt NotAck (length o.given - (1 + extra o.connection)) (arrival_if o.last) (arrival_if fly ++ owed_arrivals owed) (length accepted) ss.ups_are);
      flies = ss.flies;
    }

-- ---- before the session

isnt_data : (s : TransportFrame) (n : ℕ) (apdu : List ℕ) → IsntData s → s ≡ Numbered n apdu → ⊥
isnt_data s n apdu h e = subst (λ (z : TransportFrame). IsntData z) e h

isnt_ack : (s : TransportFrame) (n : ℕ) → IsntAck s → s ≡ Ack n → ⊥
isnt_ack s n h e = subst (λ (z : TransportFrame). IsntAck z) e h

joined_nodata : (l unsent k : List Arrival) → NoData unsent → Plain k → l ≡ unsent ++ k → NoData l
joined_nodata l unsent k h pl e = subst (λ (z : List Arrival). NoData z) (sym e) (nodata_append unsent k h (plain_nodata k pl))

fresh_heard : {outcome : Outcome} → (me : IndAddr) (newer : List Arrival) (asked : List (List ℕ)) (s : TransportFrame) (o n : Seen) (b : Bool) → IsntAck s → IsntData s → Fresh newer asked o → Hears me outcome s o b n → Fresh newer asked n
fresh_heard me newer asked s o n b a d h (HOpens t se ci) = record { none = h.none; ds = refl; gs = refl; queued = h.queued; unsent = tt; plain = (a, d) }
fresh_heard me newer asked s o n b a d h (HDelivers u apdu l ex se ci le ai) = absurd (isnt_data s _ apdu d se)
fresh_heard me newer asked s o n b a d h (HAnswers u x apdu v l ex se ci le ai) = absurd (isnt_data s _ apdu d se)
fresh_heard me newer asked s o n b a d h (HAgain c k apdu l se ne nx ex ci le st) = absurd (isnt_data s k apdu d se)
fresh_heard me newer asked s o n b a d h (HSpeaks c k l sc pl ex ci le st) = record { none = h.none; ds = h.ds; gs = h.gs; queued = h.queued; unsent = joined_nodata l o.unsent k h.unsent pl le; plain = (a, d) }
fresh_heard me newer asked s o n b a d h (HAcked u v older ex ge se ci nc) = absurd (isnt_ack s _ a se)
fresh_heard me newer asked s o n b a d h (HCloses k l sc pl le) = record { none = h.none; ds = h.ds; gs = h.gs; queued = h.queued; unsent = joined_nodata l o.unsent k h.unsent pl le; plain = (a, d) }

pub fresh_shut : (newer : List Arrival) (asked : List (List ℕ)) (o n : Seen) → Fresh newer asked o → Shuts o n → Fresh newer asked n
fresh_shut newer asked o n h ShSame = h
fresh_shut newer asked o n h (ShCloses k l pl le) = record { none = h.none; ds = h.ds; gs = h.gs; queued = h.queued; unsent = joined_nodata l o.unsent k h.unsent pl le; plain = h.plain }
fresh_shut newer asked o n h ShCut = record { none = h.none; ds = h.ds; gs = h.gs; queued = h.queued; unsent = tt; plain = tt }

-- ---- all phases: what happens to the device alone

-- the frame that it got last comes again, its power goes, it closes, or a group telegram comes
asked_with : (asked : List (List ℕ)) (fly : Option TransportFrame) (coming : List Arrival) (o n : Seen) → ((newer : List Arrival) → Fresh newer asked o → Fresh newer asked n) → AskedIs asked fly coming o → AskedIs asked fly coming n
asked_with asked fly coming o n f (inl h) = inl h
asked_with asked fly coming o n f (inr (inr h)) = inr (inr h)
asked_with asked fly coming o n f (inr (inl (true, newer, e, split, h))) = inr (inl (true, newer, e, split, tt))
asked_with asked fly coming o n f (inr (inl (false, newer, e, split, h))) = inr (inl (false, newer, e, split, f newer h))

pub phase_with : (end : ClientEnd) (joined pending : Bool) (owed sent accepted asked : List (List ℕ)) (fly : Option TransportFrame) (coming : List Arrival) (o n : Seen) → ((newer : List Arrival) → Fresh newer asked o → Fresh newer asked n)
    → ((waits : Bool) (number expected : ℕ) → InSession asked fly coming owed waits number expected sent accepted o → InSession asked fly coming owed waits number expected sent accepted n)
    → PhaseIs end joined pending owed sent accepted asked fly coming o → PhaseIs end joined pending owed sent accepted asked fly coming n
phase_with (Asked device) joined pending owed sent accepted asked fly coming o n f g h = (h.0, h.1, asked_with asked fly coming o n f h.2)
phase_with (Up s) joined pending owed sent accepted asked fly coming o n f g h = (h.0, g false s.number s.expected h.1)
phase_with (Asking s q) joined pending owed sent accepted asked fly coming o n f g h = (h.0, g true s.number s.expected h.1, h.2)
phase_with (Awaiting s) joined pending owed sent accepted asked fly coming o n f g h = (h.0, g false s.number s.expected h.1)
phase_with Ended joined pending owed sent accepted asked fly coming o n f g h = h

pub shut_kept : (me : IndAddr) (asked : List (List ℕ)) (c : Client) (fly : Option TransportFrame) (coming : List Arrival) (o n : Seen) → Invariant me asked c fly coming o → Shuts o n → Invariant me asked c fly coming n
shut_kept me asked c fly coming o n inv sh =
    record {
      owed_ok = inv.owed_ok;
      whole = inv.whole;
      side = shut_side me asked fly o n inv.side sh;
      phase = phase_with c.end c.joined c.pending c.owed c.sent c.accepted asked fly coming o n (λ newer h. fresh_shut newer asked o n h sh)
          (λ waits number expected ss. shut_sess asked fly coming c.owed waits number expected c.sent c.accepted o n ss sh) inv.phase;
    }

-- what is kept is of no account here
abbrev pub with_kept : Seen → FrameSupport → NonVolatile → Seen
with_kept o fs kp = record { frames = fs; connection = o.connection; unsent = o.unsent; last = o.last; delivered = o.delivered; given = o.given; kept = kp }

pub kept_any : (me : IndAddr) (asked : List (List ℕ)) (c : Client) (fly : Option TransportFrame) (coming : List Arrival) (o : Seen) (fs : FrameSupport) (kp : NonVolatile) → Invariant me asked c fly coming o → Invariant me asked c fly coming (with_kept o fs kp)
kept_any me asked c fly coming o fs kp inv =
    record {
      owed_ok = inv.owed_ok;
      whole = inv.whole;
      side = record { prefix = inv.side.prefix; one = inv.side.one; connection = inv.side.connection; fly_is = inv.side.fly_is; last_is = inv.side.last_is };
      phase = phase_with c.end c.joined c.pending c.owed c.sent c.accepted asked fly coming o (with_kept o fs kp)
          (λ newer h. record { none = h.none; ds = h.ds; gs = h.gs; queued = h.queued; unsent = h.unsent; plain = h.plain })
          (λ waits number expected ss. record { same = ss.same; done = ss.done; number_is = ss.number_is; expected_is = ss.expected_is; waiting = ss.waiting; told = ss.told; acks = ss.acks; answers = ss.answers; heard_is = ss.heard_is; bound = ss.bound; ups_are = ss.ups_are; flies = ss.flies })
          inv.phase;
    }

-- it opened, and lost its power
pub torn_opens : {outcome : Outcome} → (me : IndAddr) (asked : List (List ℕ)) (c : Client) (fly : Option TransportFrame) (coming : List Arrival) (s : TransportFrame) (o m : Seen) → Invariant me asked c fly coming m → Hears me outcome s o true m → Invariant me asked c fly coming (torn_seen true o m)
torn_opens me asked c fly coming s o m inv (HOpens t se ci) = shut_kept me asked c fly coming m (cut_seen m) inv ShCut

-- it gets its last frame again
last_ups : (asked : List (List ℕ)) (fly : Option TransportFrame) (coming : List Arrival) (owed : List (List ℕ)) (waits : Bool) (number expected : ℕ) (sent accepted : List (List ℕ)) (s : TransportFrame) (o : Seen) → o.last ≡ Some s → InSession asked fly coming owed waits number expected sent accepted o
    → Acks (length o.given - (1 + extra o.connection)) (ups (Some s) fly owed) (length accepted)
last_ups asked fly coming owed waits number expected sent accepted s o e ss = subst (λ (z : Option TransportFrame). Acks (length o.given - (1 + extra o.connection)) (ups z fly owed) (length accepted)) e ss.ups_are

connects : {outcome : Outcome} → (me : IndAddr) (s : TransportFrame) (o n : Seen) → Hears me outcome s o true n → s ≡ Connect
connects me s o n (HOpens t se ci) = se

again_hears : {outcome : Outcome} → (me : IndAddr) (asked : List (List ℕ)) (c : Client) (fly : Option TransportFrame) (coming : List Arrival) (s : TransportFrame) (o n : Seen) (b : Bool) → o.last ≡ Some s → Invariant me asked c fly coming o → Hears me outcome s o b n → Invariant me asked c fly coming n
again_hears me asked c fly coming s o n true e inv h =
    let l : LastIs (Some Connect) asked o.delivered o.given = subst (λ (z : Option TransportFrame). LastIs z asked o.delivered o.given) (e ∙ ap (λ (z : TransportFrame). Some z) (connects me s o n h)) inv.side.last_is in
    let ds : o.delivered ≡ [] = l.1.0 in
    let gs : o.given ≡ [] = l.1.1 in
    let one : length asked ≤ 1 = subst (λ (z : List (List ℕ)). length asked ≤ suc (length z)) ds inv.side.one in
    record {
      owed_ok = inv.owed_ok;
      whole = inv.whole;
      side = opened_side me asked fly s o n one inv.side.fly_is h;
      phase = phase_with c.end c.joined c.pending c.owed c.sent c.accepted asked fly coming o n
          (λ newer fr. let p : LastPlain (Some s) = subst (λ (z : Option TransportFrame). LastPlain z) e fr.plain in fresh_heard me newer asked s o n true p.0 p.1 fr h)
          (λ waits number expected ss. opened_sess me asked fly coming c.owed waits number expected c.sent c.accepted s o n ds gs (last_ups asked fly coming c.owed waits number expected c.sent c.accepted s o e ss) ss h) inv.phase;
    }
again_hears me asked c fly coming s o n false e inv h =
    let l : LastIs (Some s) asked o.delivered o.given = subst (λ (z : Option TransportFrame). LastIs z asked o.delivered o.given) e inv.side.last_is in
    record {
      owed_ok = inv.owed_ok;
      whole = inv.whole;
      side = heard_side me asked fly fly s o n inv.side.fly_is l.0 inv.side h;
      phase = phase_with c.end c.joined c.pending c.owed c.sent c.accepted asked fly coming o n
          (λ newer fr. let p : LastPlain (Some s) = subst (λ (z : Option TransportFrame). LastPlain z) e fr.plain in fresh_heard me newer asked s o n false p.0 p.1 fr h)
          (λ waits number expected ss. heard_sess me asked fly fly coming c.owed waits number expected c.sent c.accepted s o inv.side l.0 ss ss.flies (last_ups asked fly coming c.owed waits number expected c.sent c.accepted s o e ss) n h) inv.phase;
    }

pub again_kept : {outcome : Outcome} → (me : IndAddr) (asked : List (List ℕ)) (c : Client) (fly : Option TransportFrame) (coming : List Arrival) (s : TransportFrame) (o n : Seen) (b taken : Bool) → o.last ≡ Some s → Invariant me asked c fly coming o → Got me outcome s o b taken n → Invariant me asked c fly coming n
again_kept me asked c fly coming s o n b taken e inv GNot = inv
again_kept me asked c fly coming s o n b taken e inv (GWhole b2 n2 h w) = again_hears me asked c fly coming s o n b e inv h
again_kept me asked c fly coming s o n true taken e inv (GTorn b2 m h) = torn_opens me asked c fly coming s o m (again_hears me asked c fly coming s o m true e inv h) h
again_kept me asked c fly coming s o n false taken e inv (GTorn b2 m h) = kept_any me asked c fly coming (cut_seen o) m.frames m.kept (shut_kept me asked c fly coming o (cut_seen o) inv ShCut)

-- a group telegram comes: what it got last is another frame
group_ups : (asked : List (List ℕ)) (fly : Option TransportFrame) (coming : List Arrival) (owed : List (List ℕ)) (waits : Bool) (number expected : ℕ) (sent accepted : List (List ℕ)) (o : Seen) → InSession asked fly coming owed waits number expected sent accepted o
    → Acks (length o.given - (1 + extra o.connection)) (Frame Other ∷ (arrival_if fly ++ owed_arrivals owed)) (length accepted)
group_ups asked fly coming owed waits number expected sent accepted o ss =
    inl (tt, placed_back AckAt NotAck (length o.given - (1 + extra o.connection)) (arrival_if o.last) (arrival_if fly ++ owed_arrivals owed) (length accepted) ss.ups_are)

group_hears : {outcome : Outcome} → (me : IndAddr) (asked : List (List ℕ)) (c : Client) (fly : Option TransportFrame) (coming : List Arrival) (o n : Seen) (b : Bool) → Invariant me asked c fly coming o → Hears me outcome Other o b n → Invariant me asked c fly coming n
group_hears me asked c fly coming o n true inv h = absurd (let e : Other ≡ Connect = connects me Other o n h in cc)
group_hears me asked c fly coming o n false inv h =
    record {
      owed_ok = inv.owed_ok;
      whole = inv.whole;
      side = heard_side me asked fly fly Other o n inv.side.fly_is tt inv.side h;
      phase = phase_with c.end c.joined c.pending c.owed c.sent c.accepted asked fly coming o n
          (λ newer fr. fresh_heard me newer asked Other o n false tt tt fr h)
          (λ waits number expected ss. heard_sess me asked fly fly coming c.owed waits number expected c.sent c.accepted Other o inv.side tt ss ss.flies (group_ups asked fly coming c.owed waits number expected c.sent c.accepted o ss) n h) inv.phase;
    }

pub group_kept : {outcome : Outcome} → (me : IndAddr) (asked : List (List ℕ)) (c : Client) (fly : Option TransportFrame) (coming : List Arrival) (o n : Seen) (b taken : Bool) → Invariant me asked c fly coming o → Got me outcome Other o b taken n → Invariant me asked c fly coming n
group_kept me asked c fly coming o n b taken inv GNot = inv
group_kept me asked c fly coming o n b taken inv (GWhole b2 n2 h w) = group_hears me asked c fly coming o n b inv h
group_kept me asked c fly coming o n true taken inv (GTorn b2 m h) = absurd (let e : Other ≡ Connect = connects me Other o m h in cc)
group_kept me asked c fly coming o n false taken inv (GTorn b2 m h) = kept_any me asked c fly coming (cut_seen o) m.frames m.kept (shut_kept me asked c fly coming o (cut_seen o) inv ShCut)
