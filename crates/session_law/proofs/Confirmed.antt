-- Confirmations that the client takes keep the invariant.
use Rattle.std.proofs.Common.{◌≡◌, ℕ, ◌+◌, ◌-◌, ◌⊎◌, List, [], ◌∷◌, ◌++◌, length, Bool, true, false, Option, Some, None, refl, sym, ap, subst, arith, inl, inr}
use Rattle.knx_model.specs.declared.address.IndAddr.{IndAddr}
use Rattle.knx_model.specs.declared.connection.TransportFrame.{TransportFrame}
use Rattle.knx_model.specs.ClientConnection.{ClientEnd, Asked, Up, Asking, Awaiting, Ended, client_confirmed, after_confirmed}
use Rattle.session_law.specs.World.{Client}
use Rattle.session_law.proofs.Arrivals.{Arrival, Confirmation, NotAck, NotAnswer}
use Rattle.session_law.proofs.Placed.{AckAt, AnswerAt, placed_skip, acks_none, answers_none}
use Rattle.session_law.proofs.Seen.{Seen, extra}
use Rattle.session_law.proofs.Invariant.{GivenAt, NotOpening, ups, InSession, LastPlain, Fresh, Opened, AskedIs, PhaseIs, Invariant, Acks}
use Rattle.session_law.specs.Client.{since, confirmed}
use Rattle.session_law.proofs.Heard.{pend_conf}

-- ---- confirmations

conf_item : (asked : List (List ℕ)) (fly : Option TransportFrame) (error : Bool) (rest : List Arrival) (owed : List (List ℕ)) (waits : Bool) (number expected : ℕ) (sent accepted : List (List ℕ)) (o : Seen)
    → InSession asked fly (Confirmation error ∷ rest) owed waits number expected sent accepted o → InSession asked fly rest owed waits number expected sent accepted o
conf_item asked fly error rest owed waits number expected sent accepted o ss =
    record {
      same = ss.same;
      done = ss.done;
      number_is = ss.number_is;
      expected_is = ss.expected_is;
      waiting = ss.waiting;
      told = ss.told;
      acks = placed_skip AckAt NotAck (ss.done - 1) (Confirmation error) (rest ++ o.unsent) (length o.delivered) ss.acks;
      answers = placed_skip (AnswerAt (GivenAt o.given)) NotAnswer (length accepted - 1) (Confirmation error) (rest ++ o.unsent) (length o.given) ss.answers;
      heard_is = ss.heard_is;
      bound = ss.bound;
      ups_are = ss.ups_are;
      flies = ss.flies;
    }

ups_plain : (low n : ℕ) (last : Option TransportFrame) → LastPlain last → Acks low (ups last None []) n
ups_plain low n None h = tt
ups_plain low n (Some s) h = inl (h.0, tt)

fresh_sess : (asked : List (List ℕ)) (fly : Option TransportFrame) (rest : List Arrival) (owed : List (List ℕ)) (o : Seen) → owed ≡ [] → fly ≡ None → Fresh rest asked o → InSession asked fly rest owed false 0 0 [] [] o
fresh_sess asked fly rest owed o w f h =
    let none : length o.given ≡ 0 = ap (λ (z : List (List ℕ)). length z) h.gs in
    record {
      same = h.none;
      done = 0;
      number_is = refl;
      expected_is = refl;
      waiting = refl;
      told = omega arith;
      acks = acks_none 0 rest o.unsent (length o.delivered) h.queued h.unsent;
      answers = answers_none (GivenAt o.given) 0 rest o.unsent (length o.given) h.queued h.unsent;
      heard_is = ([], h.gs);
      bound = omega arith;
      ups_are = subst (λ (z : Option TransportFrame). Acks (length o.given - (1 + extra o.connection)) (ups o.last z owed) 0) (sym f)
          (subst (λ (z : List (List ℕ)). Acks (length o.given - (1 + extra o.connection)) (ups o.last None z) 0) (sym w) (ups_plain (length o.given - (1 + extra o.connection)) 0 o.last h.plain));
      flies = subst (λ (z : Option TransportFrame). NotOpening z) (sym f) tt;
    }

-- what a confirmation leaves
abbrev Confirms : ClientEnd → Bool → Bool → List (List ℕ) → List (List ℕ) → List (List ℕ) → List (List ℕ) → Option TransportFrame → List Arrival → Seen → ℕ → Type 0
Confirms end error joined owed sent accepted asked fly rest o now =
    ((asked ≡ since (client_confirmed end error) sent) ⊎ (asked ≡ []))
    × PhaseIs (after_confirmed end error now) joined false owed (since (client_confirmed end error) sent) (since (client_confirmed end error) accepted) asked fly rest o

asked_conf : (device : IndAddr) (error : Bool) (joined : Bool) (owed sent accepted asked : List (List ℕ)) (fly : Option TransportFrame) (rest : List Arrival) (o : Seen) (now : ℕ) → owed ≡ [] → (asked ≡ sent) ⊎ (asked ≡ []) → AskedIs asked fly (Confirmation error ∷ rest) o
    → Confirms (Asked device) error joined owed sent accepted asked fly rest o now
unfolding client_confirmed after_confirmed
asked_conf device error joined owed sent accepted asked fly rest o now w p (inl h) = absurd h.1.0
asked_conf device error joined owed sent accepted asked fly rest o now w p (inr (inr h)) = absurd h.1.0
asked_conf device true joined owed sent accepted asked fly rest o now w p (inr (inl (e, newer, f, split, opened))) = (p, λ j. (f, split.2))
asked_conf device false joined owed sent accepted asked fly rest o now w p (inr (inl (e, newer, f, split, opened))) =
    let fresh : Fresh newer asked o = subst (λ (b : Bool). Opened b newer asked o) (sym split.0) opened in
    (inl fresh.none, ((f, split.2), fresh_sess asked fly rest owed o w f (subst (λ (z : List Arrival). Fresh z asked o) (sym split.1) fresh)))

conf_phase : (end : ClientEnd) (error : Bool) (joined pending : Bool) (owed sent accepted asked : List (List ℕ)) (fly : Option TransportFrame) (rest : List Arrival) (o : Seen) (now : ℕ) → (asked ≡ sent) ⊎ (asked ≡ []) → PhaseIs end joined pending owed sent accepted asked fly (Confirmation error ∷ rest) o
    → Confirms end error joined owed sent accepted asked fly rest o now
unfolding client_confirmed after_confirmed
conf_phase (Asked device) error joined pending owed sent accepted asked fly rest o now p h = asked_conf device error joined owed sent accepted asked fly rest o now h.1 p h.2
conf_phase (Up s) error joined pending owed sent accepted asked fly rest o now p h = (p, (pend_conf pending fly error rest h.0, conf_item asked fly error rest owed false s.number s.expected sent accepted o h.1))
conf_phase (Asking s q) error joined pending owed sent accepted asked fly rest o now p h = (p, (pend_conf pending fly error rest h.0, conf_item asked fly error rest owed true s.number s.expected sent accepted o h.1, h.2))
conf_phase (Awaiting s) error joined pending owed sent accepted asked fly rest o now p h = (p, (pend_conf pending fly error rest h.0, conf_item asked fly error rest owed false s.number s.expected sent accepted o h.1))
conf_phase Ended error joined pending owed sent accepted asked fly rest o now p h = (p, λ j. pend_conf pending fly error rest (h j))

-- the client takes a confirmation
pub confirmed_kept : (me : IndAddr) (asked : List (List ℕ)) (c : Client) (fly : Option TransportFrame) (error : Bool) (rest : List Arrival) (o : Seen) (now : ℕ) → Invariant me asked c fly (Confirmation error ∷ rest) o
    → Invariant me asked (confirmed c error now) fly rest o
confirmed_kept me asked c fly error rest o now inv =
    let r = conf_phase c.end error c.joined c.pending c.owed c.sent c.accepted asked fly rest o now inv.whole inv.phase in
    record { owed_ok = inv.owed_ok; whole = r.0; side = inv.side; phase = r.1 }
