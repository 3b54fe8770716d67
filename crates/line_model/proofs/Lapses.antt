-- A channel is lost exactly in its ways.
use Rattle.std.proofs.Common.{◌≡◌, ◌≤◌, ℕ, ◌+◌, ◌-◌, Bool, true, false, not, ◌&&◌, ◌||◌, ◌==◌, List, [], ◌∷◌, Option, Some, None, inl, inr, refl, ap, sym, ◌∙◌, subst, arith}
use Rattle.std.specs.Prelude.{◌↔◌}
use Rattle.std.proofs.lemmas.Bool.{and_parts, and_from, eqb-true, eq-eqb, eqb-false, leb-true, le-leb, or_cases, or_left, or_right, not-true}
use Rattle.knx_model.specs.declared.frames.ip.IpFrame.{IpFrame}
use Rattle.knx_model.specs.declared.frames.ip.IpFrame.TheVariants.{ConnectRequest, ConnectResponse, StateRequest, StateResponse, DisconnectRequest, DisconnectResponse, TunnellingRequest, TunnellingAck}
use Rattle.knx_model.specs.Connection.{has_passed}
use Rattle.line_model.specs.ChannelLost.{own, acknowledged, confirmed, beats, is_awaited, has_left, is_for, tells_bad, is_given_up, is_unconfirmed, is_dead, has_lapsed, is_ended_by, is_lost}
use Rattle.line_model.specs.Lapses.{IsLostSo, Ended, ToldBad, HasLeft, GivenUp, Unconfirmed, Dead}
use Rattle.line_model.specs.Reading.{disconnect_request_in, disconnect_response_in, state_response_in}
use Rattle.line_model.specs.Record.{Entry, got_in, is_poll}
use Rattle.line_model.proofs.Tests.{is_unequal}

-- ---- times

passed : (wait since now : ℕ) → 1 ≤ wait → has_passed wait since now ≡ true → since + wait ≤ now
passed wait since now some e = omega (arith, leb-true wait (now - since) e)

has_passed_by : (wait since now : ℕ) → since + wait ≤ now → has_passed wait since now ≡ true
has_passed_by wait since now h = le-leb wait (now - since) (omega (arith, h))

given_up : (c : ℕ) (l : List Entry) (x : Entry) (sent : List ℕ) → (own c l).sent ≡ sent → is_given_up sent x.now ≡ true → IsLostSo c l x
given_up c l x [] s e = cc
given_up c l x (t ∷ []) s e = cc
given_up c l x (second ∷ first ∷ older) s e =
    let b : (has_passed 1000 first second ≡ true) × (has_passed 1000 second x.now ≡ true) = and_parts _ _ e in
    GivenUp first second older s (passed 1000 first second (omega arith) b.0) (passed 1000 second x.now (omega arith) b.1)

unconfirmed : (c : ℕ) (l : List Entry) (x : Entry) (since : Option ℕ) (came : Bool) → acknowledged c l ≡ since → confirmed c l ≡ came → is_unconfirmed since came x.now ≡ true → IsLostSo c l x
unconfirmed c l x None came a d e = cc
unconfirmed c l x (Some since) true a d e = cc
unconfirmed c l x (Some since) false a d e = Unconfirmed since a d (passed 3000 since x.now (omega arith) e)

dead : (c : ℕ) (l : List Entry) (x : Entry) (bs : List ℕ) → beats c l ≡ bs → is_dead bs x.now ≡ true → IsLostSo c l x
dead c l x [] s e = cc
dead c l x (t ∷ []) s e = cc
dead c l x (t ∷ u ∷ []) s e = cc
dead c l x (third ∷ second ∷ first ∷ older) s e =
    let b : ((has_passed 10000 first second && has_passed 10000 second third) ≡ true) × (has_passed 10000 third x.now ≡ true) = and_parts _ _ e in
    let d : (has_passed 10000 first second ≡ true) × (has_passed 10000 second third ≡ true) = and_parts _ _ b.0 in
    Dead first second third older s (passed 10000 first second (omega arith) d.0) (passed 10000 second third (omega arith) d.1) (passed 10000 third x.now (omega arith) b.1)

lapsed : (c : ℕ) (l : List Entry) (x : Entry) → has_lapsed c l x.now ≡ true → IsLostSo c l x
lapsed c l x e = elim (or_cases (is_given_up (own c l).sent x.now || is_unconfirmed (acknowledged c l) (confirmed c l) x.now) (is_dead (beats c l) x.now) e) as (λ _. IsLostSo c l x) [
  | inl h ↦ elim (or_cases (is_given_up (own c l).sent x.now) (is_unconfirmed (acknowledged c l) (confirmed c l) x.now) h) as (λ _. IsLostSo c l x) [
    | inl g ↦ given_up c l x (own c l).sent refl g
    | inr u ↦ unconfirmed c l x (acknowledged c l) (confirmed c l) refl refl u
  ]
  | inr h ↦ dead c l x (beats c l) refl h
]

-- ---- what was got

asked : (c : ℕ) (frame : Option IpFrame) → is_for c (disconnect_request_in frame) ≡ true → frame ≡ Some (DisconnectRequest c)
asked c None e = cc
asked c (Some ConnectRequest) e = cc
asked c (Some (ConnectResponse channel status tunnel)) e = cc
asked c (Some (StateRequest channel)) e = cc
asked c (Some (StateResponse channel status)) e = cc
asked c (Some (DisconnectRequest channel)) e = ap (λ n. Some (DisconnectRequest n)) (eqb-true channel c e)
asked c (Some (DisconnectResponse channel status)) e = cc
asked c (Some (TunnellingRequest channel number cemi)) e = cc
asked c (Some (TunnellingAck channel number status)) e = cc

left : (c : ℕ) (l : List Entry) (x : Entry) (frame : Option IpFrame) → got_in x.what ≡ frame → has_left c l ≡ true → is_for c (disconnect_response_in frame) ≡ true → IsLostSo c l x
left c l x None g h e = cc
left c l x (Some ConnectRequest) g h e = cc
left c l x (Some (ConnectResponse channel status tunnel)) g h e = cc
left c l x (Some (StateRequest channel)) g h e = cc
left c l x (Some (StateResponse channel status)) g h e = cc
left c l x (Some (DisconnectRequest channel)) g h e = cc
left c l x (Some (DisconnectResponse channel status)) g h e = HasLeft status (g ∙ ap (λ n. Some (DisconnectResponse n status)) (eqb-true channel c e)) h
left c l x (Some (TunnellingRequest channel number cemi)) g h e = cc
left c l x (Some (TunnellingAck channel number status)) g h e = cc

bad : (c : ℕ) (l : List Entry) (x : Entry) (frame : Option IpFrame) → got_in x.what ≡ frame → tells_bad c (beats c l) x.now (state_response_in frame) ≡ true → IsLostSo c l x
bad c l x None g e = cc
bad c l x (Some ConnectRequest) g e = cc
bad c l x (Some (ConnectResponse channel status tunnel)) g e = cc
bad c l x (Some (StateRequest channel)) g e = cc
bad c l x (Some (StateResponse channel status)) g e =
    let b : (((channel == c) && is_awaited (beats c l) x.now) ≡ true) × (not (status == 0) ≡ true) = and_parts _ _ e in
    let d : ((channel == c) ≡ true) × (is_awaited (beats c l) x.now ≡ true) = and_parts _ _ b.0 in
    ToldBad status (g ∙ ap (λ n. Some (StateResponse n status)) (eqb-true channel c d.0)) (eqb-false status 0 (not-true (status == 0) b.1)) d.1
bad c l x (Some (DisconnectRequest channel)) g e = cc
bad c l x (Some (DisconnectResponse channel status)) g e = cc
bad c l x (Some (TunnellingRequest channel number cemi)) g e = cc
bad c l x (Some (TunnellingAck channel number status)) g e = cc

ended_by : (c : ℕ) (l : List Entry) (x : Entry) → is_ended_by c l x.now (got_in x.what) ≡ true → IsLostSo c l x
ended_by c l x e = elim (or_cases (is_for c (disconnect_request_in (got_in x.what)) || tells_bad c (beats c l) x.now (state_response_in (got_in x.what))) (has_left c l && is_for c (disconnect_response_in (got_in x.what))) e) as (λ _. IsLostSo c l x) [
  | inl h ↦ elim (or_cases (is_for c (disconnect_request_in (got_in x.what))) (tells_bad c (beats c l) x.now (state_response_in (got_in x.what))) h) as (λ _. IsLostSo c l x) [
    | inl a ↦ Ended (asked c (got_in x.what) a)
    | inr b ↦ bad c l x (got_in x.what) refl b
  ]
  | inr h ↦ (let b : (has_left c l ≡ true) × (is_for c (disconnect_response_in (got_in x.what)) ≡ true) = and_parts _ _ h in left c l x (got_in x.what) refl b.0 b.1)
]

is_so : (c : ℕ) (l : List Entry) (x : Entry) → is_lost c l x ≡ true → (is_poll x.what ≡ true) × IsLostSo c l x
is_so c l x e =
    let b : (is_poll x.what ≡ true) × ((has_lapsed c l x.now || is_ended_by c l x.now (got_in x.what)) ≡ true) = and_parts _ _ e in
    (b.0, elim (or_cases (has_lapsed c l x.now) (is_ended_by c l x.now (got_in x.what)) b.1) as (λ _. IsLostSo c l x) [ inl h ↦ lapsed c l x h | inr h ↦ ended_by c l x h ])

-- ---- the other way round

by_time : (c : ℕ) (l : List Entry) (x : Entry) → has_lapsed c l x.now ≡ true → (has_lapsed c l x.now || is_ended_by c l x.now (got_in x.what)) ≡ true
by_time c l x e = or_left _ _ e

by_frame : (c : ℕ) (l : List Entry) (x : Entry) → is_ended_by c l x.now (got_in x.what) ≡ true → (has_lapsed c l x.now || is_ended_by c l x.now (got_in x.what)) ≡ true
by_frame c l x e = or_right _ _ e

so : (c : ℕ) (l : List Entry) (x : Entry) → IsLostSo c l x → (has_lapsed c l x.now || is_ended_by c l x.now (got_in x.what)) ≡ true
so c l x (Ended g) =
    by_frame c l x (subst (λ (frame : Option IpFrame). is_ended_by c l x.now frame ≡ true) (sym g) (or_left _ _ (or_left _ _ (eq-eqb c c refl))))
so c l x (ToldBad status g bad_one awaited) =
    by_frame c l x (subst (λ (frame : Option IpFrame). is_ended_by c l x.now frame ≡ true) (sym g)
    (or_left _ (has_left c l && is_for c (disconnect_response_in (Some (StateResponse c status)))) (or_right (is_for c (disconnect_request_in (Some (StateResponse c status)))) _ (and_from _ _ (and_from _ _ (eq-eqb c c refl) awaited) (ap not (is_unequal status 0 bad_one))))))
so c l x (HasLeft status g left_it) =
    by_frame c l x (subst (λ (frame : Option IpFrame). is_ended_by c l x.now frame ≡ true) (sym g) (or_right (is_for c (disconnect_request_in (Some (DisconnectResponse c status))) || tells_bad c (beats c l) x.now (state_response_in (Some (DisconnectResponse c status)))) _ (and_from _ _ left_it (eq-eqb c c refl))))
so c l x (GivenUp first second older s a b) =
    by_time c l x (or_left _ _ (or_left _ _ (subst (λ (sent : List ℕ). is_given_up sent x.now ≡ true) (sym s) (and_from _ _ (has_passed_by 1000 first second a) (has_passed_by 1000 second x.now b)))))
so c l x (Unconfirmed since a d b) =
    let late : is_unconfirmed (acknowledged c l) (confirmed c l) x.now ≡ true = rw (a, d) (has_passed_by 3000 since x.now b) in
    by_time c l x (or_left _ _ (or_right _ _ late))
so c l x (Dead first second third older s a b d) =
    by_time c l x (or_right _ _ (subst (λ (bs : List ℕ). is_dead bs x.now ≡ true) (sym s) (and_from _ _ (and_from _ _ (has_passed_by 10000 first second a) (has_passed_by 10000 second third b)) (has_passed_by 10000 third x.now d))))

pub lost_so : (c : ℕ) (l : List Entry) (x : Entry) → (is_lost c l x ≡ true) ↔ ((is_poll x.what ≡ true) × IsLostSo c l x)
lost_so c l x = (is_so c l x, λ h. and_from _ _ h.0 (so c l x h.1))
