-- What happens to the device keeps its side of the invariant.
use Rattle.std.proofs.Common.{◌≡◌, ℕ, suc, ◌%◌, ◌≤◌, ◌⊎◌, List, [], ◌∷◌, length, true, false, Option, Some, refl, sym, ◌∙◌, ap, subst, arith, inl, inr, append-nil}
use Rattle.knx_model.specs.declared.address.IndAddr.{IndAddr}
use Rattle.knx_model.specs.declared.connection.TransportFrame.{TransportFrame}
use Rattle.knx_model.specs.declared.connection.TransportFrame.TheVariants.{Connect, Disconnect, Ack, Nak, Numbered, Other}
use Rattle.session_law.specs.Promises.{IsFirstOf}
use Rattle.knx_model.specs.DeviceFrames.{Outcome}
use Rattle.session_law.proofs.Arrivals.{Arrival, IsntConnect}
use Rattle.session_law.proofs.Seen.{Seen}
use Rattle.session_law.proofs.Taken.{Hears, HOpens, HDelivers, HAnswers, HAgain, HSpeaks, HAcked, HCloses}
use Rattle.session_law.proofs.Spoken.{Speaks, SShift, SAgain, SNothing, Shuts, ShSame, ShCloses, ShCut}
use Rattle.session_law.proofs.Invariant.{Place, Head, FlyFrame, FlyIs, Ready, Opening, LastIs, Side, tail_length, one_newer}

-- ---- the frame at hand is ready

sizes : (x n : ℕ) → n ≤ suc x → x ≤ n → (suc x ≡ n) ⊎ (x ≡ n)
sizes x n a b = grind arith

place_by : (asked delivered : List (List ℕ)) (apdu : List ℕ) (x : ℕ) → IsFirstOf delivered asked → suc x ≡ length asked → Head asked apdu → (suc x ≡ length delivered) ⊎ (x ≡ length delivered)
    → (suc x ≡ length delivered) ⊎ ((x ≡ length delivered) × (asked ≡ apdu ∷ delivered))
place_by [] delivered apdu x tail e head h = absurd head
place_by (y ∷ asked) delivered apdu x tail e head (inl h) = inl h
place_by (y ∷ asked) delivered apdu x tail e head (inr h) =
    let last : (z : List ℕ) × (y ∷ asked ≡ z ∷ delivered) = one_newer tail.0 delivered (y ∷ asked) tail.1 (omega arith) in
    let is : y ≡ last.0 = let g : y ∷ asked ≡ last.0 ∷ delivered = last.1 in cc in
    inr (h, last.1 ∙ ap (λ (k : List ℕ). k ∷ delivered) (sym is ∙ head))

pub fly_ready : (s : TransportFrame) (asked delivered : List (List ℕ)) → IsFirstOf delivered asked → length asked ≤ suc (length delivered) → FlyFrame s asked → Ready s asked delivered
fly_ready Connect asked delivered tail one f = tt
fly_ready Disconnect asked delivered tail one f = tt
fly_ready (Ack n) asked delivered tail one f = tt
fly_ready (Nak n) asked delivered tail one f = tt
fly_ready (Numbered n apdu) asked delivered tail one f =
    let le : length delivered ≤ length asked = tail_length delivered asked tail in
    let at : suc f.0 ≡ length asked = f.1 in
    (f.0, (f.2, place_by asked delivered apdu f.0 tail f.1 f.3 (sizes f.0 (length delivered) (omega arith) (omega arith))))
fly_ready Other asked delivered tail one f = tt

ready_opening : (s : TransportFrame) (ds gs : List (List ℕ)) → IsntConnect s → Opening s ds gs
ready_opening Connect ds gs h = absurd h
ready_opening Disconnect ds gs h = tt
ready_opening (Ack n) ds gs h = tt
ready_opening (Nak n) ds gs h = tt
ready_opening (Numbered n apdu) ds gs h = tt
ready_opening Other ds gs h = tt

pub ready_numbered : (s : TransportFrame) (n : ℕ) (apdu : List ℕ) (asked ds : List (List ℕ)) → s ≡ Numbered n apdu → Ready s asked ds → (x : ℕ) × Place asked ds n apdu x
ready_numbered s n apdu asked ds e h = subst (λ (z : TransportFrame). Ready z asked ds) e h

-- a service that is delivered is the next one
pub next_one : (asked ds : List (List ℕ)) (apdu : List ℕ) → (x : ℕ) × Place asked ds (length ds % 16) apdu x → asked ≡ apdu ∷ ds
next_one asked ds apdu (x, (is, inl e)) = absurd (omega arith)
next_one asked ds apdu (x, (is, inr e)) = e.1

-- and one that was delivered is the last one
pub old_one : (asked ds : List (List ℕ)) (n : ℕ) (apdu : List ℕ) → (n ≡ length ds % 16 → ⊥) → (x : ℕ) × Place asked ds n apdu x → (x : ℕ) × (suc x ≡ length ds) × (n ≡ x % 16)
old_one asked ds n apdu ne (x, (is, inl e)) = (x, e, is)
old_one asked ds n apdu ne (x, (is, inr e)) = absurd (ne (is ∙ ap (λ k. k % 16) e.0))

delivered_last : (s : TransportFrame) (asked ds gs : List (List ℕ)) (apdu : List ℕ) → s ≡ Numbered (length ds % 16) apdu → LastIs (Some s) asked (apdu ∷ ds) gs
delivered_last s asked ds gs apdu e =
    let P : TransportFrame → Type 0 = λ z. LastIs (Some z) asked (apdu ∷ ds) gs in
    subst P (sym e) ((length ds, (refl, inl refl)), tt)

isnt_of : (s t : TransportFrame) → s ≡ t → IsntConnect t → IsntConnect s
isnt_of s t e h = subst (λ (z : TransportFrame). IsntConnect z) (sym e) h

-- ---- the device's side

pub heard_side : {outcome : Outcome} → (me : IndAddr) (asked : List (List ℕ)) (fly fly' : Option TransportFrame) (s : TransportFrame) (o n : Seen) → FlyIs fly' asked → Ready s asked o.delivered → Side me asked fly o → Hears me outcome s o false n → Side me asked fly' n
heard_side me asked fly fly' s o n f r h (HDelivers u apdu l ex se ci le ai) =
    let is : asked ≡ apdu ∷ o.delivered = next_one asked o.delivered apdu (ready_numbered s _ apdu asked o.delivered se r) in
    record { prefix = ([], is); one = (let q : length asked ≤ suc (length o.delivered) = h.one in omega arith); connection = ci; fly_is = f; last_is = delivered_last s asked o.delivered o.given apdu se }
heard_side me asked fly fly' s o n f r h (HAnswers u a apdu v l ex se ci le ai) =
    let is : asked ≡ apdu ∷ o.delivered = next_one asked o.delivered apdu (ready_numbered s _ apdu asked o.delivered se r) in
    record { prefix = ([], is); one = (let q : length asked ≤ suc (length o.delivered) = h.one in omega arith); connection = ci; fly_is = f; last_is = delivered_last s asked o.delivered (v ∷ o.given) apdu se }
heard_side me asked fly fly' s o n f r h (HAgain c k apdu l se ne nx ex ci le st) = record { prefix = h.prefix; one = h.one; connection = ci; fly_is = f; last_is = (r, ready_opening s o.delivered o.given (isnt_of s _ se tt)) }
heard_side me asked fly fly' s o n f r h (HSpeaks c k l sc pl ex ci le st) = record { prefix = h.prefix; one = h.one; connection = ci; fly_is = f; last_is = (r, ready_opening s o.delivered o.given sc) }
heard_side me asked fly fly' s o n f r h (HAcked u v older ex ge se ci nc) = record { prefix = h.prefix; one = h.one; connection = ci; fly_is = f; last_is = (r, ready_opening s o.delivered o.given (isnt_of s _ se tt)) }
heard_side me asked fly fly' s o n f r h (HCloses k l sc pl le) = record { prefix = h.prefix; one = h.one; connection = tt; fly_is = f; last_is = (r, ready_opening s o.delivered o.given sc) }

connect_last : (s : TransportFrame) (asked : List (List ℕ)) → s ≡ Connect → LastIs (Some s) asked [] []
connect_last s asked e = let P : TransportFrame → Type 0 = λ z. LastIs (Some z) asked [] [] in subst P (sym e) (tt, (refl, refl))

-- it opened: what the client asked since then is one service at most
pub opened_side : {outcome : Outcome} → (me : IndAddr) (asked : List (List ℕ)) (fly' : Option TransportFrame) (s : TransportFrame) (o n : Seen) → length asked ≤ 1 → FlyIs fly' asked → Hears me outcome s o true n → Side me asked fly' n
opened_side me asked fly' s o n one f (HOpens t se ci) = record { prefix = (asked, sym (append-nil asked)); one = one; connection = ci; fly_is = f; last_is = connect_last s asked se }

pub shut_side : (me : IndAddr) (asked : List (List ℕ)) (fly : Option TransportFrame) (o n : Seen) → Side me asked fly o → Shuts o n → Side me asked fly n
shut_side me asked fly o n h ShSame = h
shut_side me asked fly o n h (ShCloses k l pl le) = record { prefix = h.prefix; one = h.one; connection = tt; fly_is = h.fly_is; last_is = h.last_is }
shut_side me asked fly o n h ShCut = record { prefix = h.prefix; one = h.one; connection = tt; fly_is = h.fly_is; last_is = tt }

pub spoke_side : (me : IndAddr) (asked : List (List ℕ)) (fly : Option TransportFrame) (o n : Seen) (k : List Arrival) → Side me asked fly o → Speaks me o n k → Side me asked fly n
spoke_side me asked fly o n k h (SShift x rest q e) = record { prefix = h.prefix; one = h.one; connection = h.connection; fly_is = h.fly_is; last_is = h.last_is }
spoke_side me asked fly o n k h (SAgain c v older bare ge ex ci st) = record { prefix = h.prefix; one = h.one; connection = ci; fly_is = h.fly_is; last_is = h.last_is }
spoke_side me asked fly o n k h SNothing = h
