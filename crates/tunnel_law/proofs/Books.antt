-- Each entry of the record keeps the client's side of the gateway's requests.
use Rattle.std.proofs.Common.{◌≡◌, ℕ, ◌%◌, ◌<◌, List, [], ◌∷◌, length, Bool, true, false, cond, ◌&&◌, ◌||◌, Option, Some, None, refl, sym, ◌∙◌, ap, subst, inl, inr}
use Rattle.std.specs.Prelude.{◌==◌}
use Rattle.std.proofs.lemmas.Bool.{eqb-true}
use Rattle.knx_model.specs.declared.frames.ip.IpFrame.{IpFrame}
use Rattle.knx_model.specs.declared.frames.ip.IpFrame.TheVariants.{ConnectRequest, ConnectResponse, StateRequest, StateResponse, DisconnectRequest, DisconnectResponse, TunnellingRequest, TunnellingAck}
use Rattle.knx_model.specs.Connection.{has_passed}
use Rattle.line_model.specs.Reading.{RequestFrame, request_in, datagram_in}
use Rattle.line_model.specs.Network.{Sent}
use Rattle.line_model.specs.Gateway.{Channel, number_of, next_number}
use Rattle.line_model.specs.Record.{Entry, Put, Got, Quiet, entry}
use Rattle.line_model.specs.ChannelLost.{expected, delivers, is_lost, answer_wait, own, is_none, is_request}
use Rattle.line_model.specs.ClientView.{ClientChannel, Fresh, Sought, RefusedBy, Unanswered, Open, Lost, View, Deed, Puts, Takes, Loses, Nothing, and_takes, after_entry, traffic, deed_of, or_takes, sought_got, or_number}
use Rattle.line_model.specs.Renews.{calls_for, owed_in}
use Rattle.line_model.specs.ActedOnce.{Has}
use Rattle.tunnel_law.proofs.Fits.{Book, book_after}
use Rattle.tunnel_law.proofs.Sends.{ask_or, fresh_after, fresh_stays}
use Rattle.tunnel_law.proofs.Mirror.{Ends}
use Rattle.tunnel_law.proofs.Gets.{OwesOf, Owing, state_kept, opened, Asked, taken_ends, owes_new, owes_old}

module _ (up : List Sent) (makers : List ℕ) (channel : Option Channel) (puts : List (ℕ × List ℕ)) (e : ℕ) where
  abbrev pub EndsOf : Book → Type 0
  EndsOf b = Ends up makers channel puts e b.view.number b.view.takes b.state

  abbrev pub NextOf : Book → Entry → Type 0
  NextOf b x = EndsOf (book_after b x) × Owing (book_after b x).view.number (book_after b x).view.takes (owed_in b.state x (after_entry b.state x))

  -- the number of an open channel is known
  known : (number : Option ℕ) (takes : List (List ℕ)) (c : ℕ) (l : List Entry) → Ends up makers channel puts e number takes (Open c l) → Ends up makers channel puts e (Some c) takes (Open c l)
  known number takes c l n = let P : Option ℕ → Type 0 = λ z. Ends up makers channel puts e z takes (Open c l) in subst P n.expects.0 n

  -- ---- sent

  put_takes : (t : Bool) (q : Option RequestFrame) (takes : List (List ℕ)) → and_takes (or_takes (deed_of Puts t q) Nothing) takes ≡ takes
  put_takes t None takes = refl
  put_takes true (Some request) takes = refl
  put_takes false (Some request) takes = refl

  pub put_by : (v : View) (state : ClientChannel) (octets : List ℕ) (now : ℕ) → EndsOf (record { view = v; state = state }) → NextOf (record { view = v; state = state }) (entry (Put octets) now)
  unfolding after_entry traffic
  put_by v Fresh octets now n =
      let P : ClientChannel → Type 0 = λ c. Ends up makers channel puts e (or_number c v.number) v.takes c in
      let ends : P (fresh_after now (datagram_in octets)) = elim (ask_or (datagram_in octets)) [
        | inl is ↦ subst (λ g. P (fresh_after now g)) (sym is) (state_kept up makers channel puts e v.number v.takes Fresh (Sought now) n n.expects)
        | inr other ↦ subst P (sym (fresh_stays now (datagram_in octets) other)) n
      ] in
      (ends, tt)
  put_by v (Sought since) octets now n = (n, tt)
  put_by v (RefusedBy s) octets now n = (n, tt)
  put_by v Unanswered octets now n = (n, tt)
  put_by v (Lost d) octets now n = (n, tt)
  put_by v (Open c l) octets now n =
      let k = known v.number v.takes c l n in
      let P : List (List ℕ) → Type 0 = λ takes. Ends up makers channel puts e (Some c) takes (Open c (entry (Put octets) now ∷ l)) in
      (subst P (sym (put_takes (is_request c (request_in (datagram_in octets)) && is_none (own c l).sent) (request_in (datagram_in octets)) v.takes)) (state_kept up makers channel puts e (Some c) v.takes (Open c l) (Open c (entry (Put octets) now ∷ l)) k k.expects), tt)

  -- ---- a quiet wait

  pub quiet_by : (v : View) (state : ClientChannel) (now : ℕ) → EndsOf (record { view = v; state = state }) → NextOf (record { view = v; state = state }) (entry Quiet now)
  unfolding after_entry traffic
  quiet_by v Fresh now n = (n, tt)
  quiet_by v (Sought since) now n = (by_test (has_passed answer_wait since now), tt)
    where
      by_test : (b : Bool) → Ends up makers channel puts e (or_number (cond b Unanswered (Sought since)) v.number) v.takes (cond b Unanswered (Sought since))
      by_test true = state_kept up makers channel puts e v.number v.takes (Sought since) Unanswered n tt
      by_test false = n
  quiet_by v (RefusedBy s) now n = (n, tt)
  quiet_by v Unanswered now n = (n, tt)
  quiet_by v (Lost d) now n = (n, tt)
  quiet_by v (Open c l) now n = by_test (is_lost c l (entry Quiet now))
    where
      by_test : (b : Bool) → Ends up makers channel puts e (or_number (cond b (Lost c) (Open c (entry Quiet now ∷ l))) v.number) (and_takes (cond b Loses Nothing) v.takes) (cond b (Lost c) (Open c (entry Quiet now ∷ l)))
          × Owing (or_number (cond b (Lost c) (Open c (entry Quiet now ∷ l))) v.number) (and_takes (cond b Loses Nothing) v.takes) (owed_in (Open c l) (entry Quiet now) (cond b (Lost c) (Open c (entry Quiet now ∷ l))))
      by_test true = (state_kept up makers channel puts e v.number v.takes (Open c l) (Lost c) n tt, tt)
      by_test false = (let k = known v.number v.takes c l n in (state_kept up makers channel puts e (Some c) v.takes (Open c l) (Open c (entry Quiet now ∷ l)) k k.expects, tt))

  -- ---- got

  module _ (d : ℕ) (young : d < 128) (unique : (j k : ℕ) → Has makers j e → Has makers k e → number_of j ≡ number_of k → j ≡ k) (octets : List ℕ) (now : ℕ)
      (asks : (c n : ℕ) (p : List ℕ) → datagram_in octets ≡ Some (TunnellingRequest c n p) → Asked makers puts e d c n p) where
    abbrev here : Entry
    here = entry (Got octets) now

    abbrev got_deed : ℕ → List Entry → Option RequestFrame → Deed
    got_deed c l q = deed_of Takes (delivers c (expected c l) q) q

    abbrev OpenNext : ℕ → List Entry → List (List ℕ) → Option RequestFrame → Type 0
    OpenNext c l takes q = Ends up makers channel puts e (Some c) (and_takes (got_deed c l q) takes) (Open c (here ∷ l)) × Owing (Some c) (and_takes (got_deed c l q) takes) (calls_for c l q)

    request_by : (c : ℕ) (l : List Entry) (takes : List (List ℕ)) (m n : ℕ) (p : List ℕ) → Ends up makers channel puts e (Some c) takes (Open c l) → datagram_in octets ≡ Some (TunnellingRequest m n p)
        → (t u w : Bool) → (m == c) ≡ t → (n == expected c l) ≡ u → (next_number n == expected c l) ≡ w → expected c (here ∷ l) ≡ cond (t && u) (next_number (expected c l)) (expected c l)
        → Ends up makers channel puts e (Some c) (and_takes (cond (t && u) (Takes p) Nothing) takes) (Open c (here ∷ l)) × Owing (Some c) (and_takes (cond (t && u) (Takes p) Nothing) takes) (cond (t && (u || w)) (Some (TunnellingAck m n 0)) None)
    request_by c l takes m n p old is false u w ht hu hw after = (state_kept up makers channel puts e (Some c) takes (Open c l) (Open c (here ∷ l)) old (refl, after ∙ old.expects.1), tt)
    request_by c l takes m n p old is true true w ht hu hw after =
        let m_is : m ≡ c = eqb-true m c ht in
        let n_is : n ≡ expected c l = eqb-true n (expected c l) hu in
        let q : Asked makers puts e d c n p = asks c n p (is ∙ ap (λ z. Some (TunnellingRequest z n p)) m_is) in (
          taken_ends up makers channel puts e d young unique c l (here ∷ l) takes n p old q n_is after,
          subst (λ z. OwesOf (Some c) (p ∷ takes) (TunnellingAck z n 0)) (sym m_is) (owes_new up makers channel puts e d young unique c l takes n p old n_is),
        )
    request_by c l takes m n p old is true false true ht hu hw after =
        let m_is : m ≡ c = eqb-true m c ht in
        let q : Asked makers puts e d c n p = asks c n p (is ∙ ap (λ z. Some (TunnellingRequest z n p)) m_is) in (
          state_kept up makers channel puts e (Some c) takes (Open c l) (Open c (here ∷ l)) old (refl, after ∙ old.expects.1),
          subst (λ z. OwesOf (Some c) takes (TunnellingAck z n 0)) (sym m_is) (owes_old up makers channel puts e d young unique c l takes n p old q (eqb-true (next_number n) (expected c l) hw)),
        )
    request_by c l takes m n p old is true false false ht hu hw after = (state_kept up makers channel puts e (Some c) takes (Open c l) (Open c (here ∷ l)) old (refl, after ∙ old.expects.1), tt)

    request_is : (g : Option IpFrame) (q : RequestFrame) → request_in g ≡ Some q → g ≡ Some (TunnellingRequest q.channel q.number q.cemi)
    request_is None q h = cc
    request_is (Some ConnectRequest) q h = cc
    request_is (Some (ConnectResponse a s t)) q h = cc
    request_is (Some (StateRequest a)) q h = cc
    request_is (Some (StateResponse a s)) q h = cc
    request_is (Some (DisconnectRequest a)) q h = cc
    request_is (Some (DisconnectResponse a s)) q h = cc
    request_is (Some (TunnellingRequest m n p)) q h =
        let x : RequestFrame = record { channel = m; number = n; cemi = p } in
        let same : x ≡ q = (let e : Some x ≡ Some q = h in cc) in
        ap (λ (r : RequestFrame). Some (TunnellingRequest r.channel r.number r.cemi)) same
    request_is (Some (TunnellingAck a n s)) q h = cc

    frame_by : (c : ℕ) (l : List Entry) (takes : List (List ℕ)) → Ends up makers channel puts e (Some c) takes (Open c l) → (q : Option RequestFrame) → request_in (datagram_in octets) ≡ q
        → expected c (here ∷ l) ≡ cond (delivers c (expected c l) q) (next_number (expected c l)) (expected c l) → OpenNext c l takes q
    frame_by c l takes old None is after = (state_kept up makers channel puts e (Some c) takes (Open c l) (Open c (here ∷ l)) old (refl, after ∙ old.expects.1), tt)
    frame_by c l takes old (Some r) is after =
        request_by c l takes r.channel r.number r.cemi old (request_is (datagram_in octets) r is) (r.channel == c) (r.number == expected c l) (next_number r.number == expected c l) refl refl refl after

    sought_by : (v : View) (since : ℕ) → EndsOf (record { view = v; state = Sought since }) → (f : Option IpFrame) → datagram_in octets ≡ f → Ends up makers channel puts e (or_number (sought_got since here f) v.number) v.takes (sought_got since here f)
    sought_by v since n None is = n
    sought_by v since n (Some ConnectRequest) is = n
    sought_by v since n (Some (ConnectResponse c s t)) is = by_status (s == 0)
      where
        by_status : (b : Bool) → Ends up makers channel puts e (or_number (cond b (Open c (here ∷ [])) (RefusedBy s)) v.number) v.takes (cond b (Open c (here ∷ [])) (RefusedBy s))
        by_status true =
            (let zeroth : expected c (here ∷ []) ≡ 0 = ap (λ (g : Option IpFrame). cond (delivers c 0 (request_in g)) (next_number 0) 0) is in
            let len : length v.takes ≡ 0 = ap (λ l. length l) (n.none n.expects) in
            opened up makers channel puts e v.number v.takes (Sought since) (Open c (here ∷ [])) c n n.expects (refl, zeroth ∙ sym (ap (λ z. z % 256) len)))
        by_status false = state_kept up makers channel puts e v.number v.takes (Sought since) (RefusedBy s) n tt
    sought_by v since n (Some (StateRequest c)) is = n
    sought_by v since n (Some (StateResponse c s)) is = n
    sought_by v since n (Some (DisconnectRequest c)) is = n
    sought_by v since n (Some (DisconnectResponse c s)) is = n
    sought_by v since n (Some (TunnellingRequest c m p)) is = n
    sought_by v since n (Some (TunnellingAck c m s)) is = n

    pub got_by : (v : View) (state : ClientChannel) → EndsOf (record { view = v; state = state }) → NextOf (record { view = v; state = state }) here
    unfolding after_entry traffic
    got_by v Fresh n = (n, tt)
    got_by v (Sought since) n = (by_test (has_passed answer_wait since now), tt)
      where
        by_test : (b : Bool) → Ends up makers channel puts e (or_number (cond b Unanswered (sought_got since here (datagram_in octets))) v.number) v.takes (cond b Unanswered (sought_got since here (datagram_in octets)))
        by_test true = state_kept up makers channel puts e v.number v.takes (Sought since) Unanswered n tt
        by_test false = sought_by v since n (datagram_in octets) refl
    got_by v (RefusedBy s) n = (n, tt)
    got_by v Unanswered n = (n, tt)
    got_by v (Lost d) n = (n, tt)
    got_by v (Open c l) n = by_test (is_lost c l here)
      where
        by_test : (b : Bool) → Ends up makers channel puts e (or_number (cond b (Lost c) (Open c (here ∷ l))) v.number) (and_takes (cond b Loses (got_deed c l (request_in (datagram_in octets)))) v.takes) (cond b (Lost c) (Open c (here ∷ l)))
            × Owing (or_number (cond b (Lost c) (Open c (here ∷ l))) v.number) (and_takes (cond b Loses (got_deed c l (request_in (datagram_in octets)))) v.takes) (owed_in (Open c l) here (cond b (Lost c) (Open c (here ∷ l))))
        by_test true = (state_kept up makers channel puts e v.number v.takes (Open c l) (Lost c) n tt, tt)
        by_test false = frame_by c l v.takes (known v.number v.takes c l n) (request_in (datagram_in octets)) refl refl
