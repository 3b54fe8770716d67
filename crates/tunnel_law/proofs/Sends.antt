-- What the client sends keeps the book of its endpoint.
use Rattle.std.proofs.Common.{◌≡◌, ℕ, ◌⊎◌, List, [], ◌∷◌, Bool, true, cond, ◌&&◌, Option, Some, None, refl, sym, ◌∙◌, ap, subst, inl, inr}
use Rattle.std.proofs.lemmas.Bool.{eq-eqb}
use Rattle.knx_model.specs.declared.frames.ip.IpFrame.{IpFrame}
use Rattle.knx_model.specs.declared.frames.ip.IpFrame.TheVariants.{ConnectRequest, ConnectResponse, StateRequest, StateResponse, DisconnectRequest, DisconnectResponse, TunnellingRequest, TunnellingAck}
use Rattle.line_model.specs.Reading.{is_connect_request, request_in, datagram_in}
use Rattle.line_model.specs.Network.{Sent, new_datagram}
use Rattle.line_model.specs.Gateway.{number_of}
use Rattle.line_model.specs.Record.{Entry, Put, entry}
use Rattle.line_model.specs.ChannelLost.{own, is_none, is_request}
use Rattle.line_model.specs.ClientView.{ClientChannel, Fresh, Sought, RefusedBy, Unanswered, Open, Lost, View, Deed, Puts, Nothing, after_entry, traffic, deed_of, or_takes, and_puts, or_number}
use Rattle.line_model.specs.Sendings.{last_request, IsRightRequest, OfOpen}
use Rattle.tunnel_law.proofs.Fits.{Book, book_after, BookIs, IsAsk, IsTell, IsUp, Phase, Named, Kept, content_in, last_put}
use Rattle.tunnel_law.proofs.Client.{other_fits, ask_fits, tell_fits}

-- ---- what a datagram is

pub record Tells (g : Option IpFrame) : Type 0 where
  pub channel : ℕ
  pub number : ℕ
  pub content : List ℕ
  pub is : g ≡ Some (TunnellingRequest channel number content)

pub tell_of : (g : Option IpFrame) → IsTell g → Tells g
tell_of None h = absurd h
tell_of (Some ConnectRequest) h = absurd h
tell_of (Some (ConnectResponse c s t)) h = absurd h
tell_of (Some (StateRequest c)) h = absurd h
tell_of (Some (StateResponse c s)) h = absurd h
tell_of (Some (DisconnectRequest c)) h = absurd h
tell_of (Some (DisconnectResponse c s)) h = absurd h
tell_of (Some (TunnellingRequest c n p)) h = record { channel = c; number = n; content = p; is = refl }
tell_of (Some (TunnellingAck c n s)) h = absurd h

pub tell_or : (g : Option IpFrame) → IsTell g ⊎ (IsTell g → ⊥)
tell_or None = inr (λ h. h)
tell_or (Some ConnectRequest) = inr (λ h. h)
tell_or (Some (ConnectResponse c s t)) = inr (λ h. h)
tell_or (Some (StateRequest c)) = inr (λ h. h)
tell_or (Some (StateResponse c s)) = inr (λ h. h)
tell_or (Some (DisconnectRequest c)) = inr (λ h. h)
tell_or (Some (DisconnectResponse c s)) = inr (λ h. h)
tell_or (Some (TunnellingRequest c n p)) = inl tt
tell_or (Some (TunnellingAck c n s)) = inr (λ h. h)

pub ask_or : (g : Option IpFrame) → (g ≡ Some ConnectRequest) ⊎ (IsAsk g → ⊥)
ask_or None = inr (λ h. h)
ask_or (Some ConnectRequest) = inl refl
ask_or (Some (ConnectResponse c s t)) = inr (λ h. h)
ask_or (Some (StateRequest c)) = inr (λ h. h)
ask_or (Some (StateResponse c s)) = inr (λ h. h)
ask_or (Some (DisconnectRequest c)) = inr (λ h. h)
ask_or (Some (DisconnectResponse c s)) = inr (λ h. h)
ask_or (Some (TunnellingRequest c n p)) = inr (λ h. h)
ask_or (Some (TunnellingAck c n s)) = inr (λ h. h)

-- what a datagram that is sent makes of a fresh endpoint
abbrev pub fresh_after : ℕ → Option IpFrame → ClientChannel
fresh_after now g = cond (is_connect_request g) (Sought now) Fresh

pub fresh_stays : (now : ℕ) (g : Option IpFrame) → (IsAsk g → ⊥) → fresh_after now g ≡ Fresh
fresh_stays now None h = refl
fresh_stays now (Some ConnectRequest) h = absurd (h tt)
fresh_stays now (Some (ConnectResponse c s t)) h = refl
fresh_stays now (Some (StateRequest c)) h = refl
fresh_stays now (Some (StateResponse c s)) h = refl
fresh_stays now (Some (DisconnectRequest c)) h = refl
fresh_stays now (Some (DisconnectResponse c s)) h = refl
fresh_stays now (Some (TunnellingRequest c n p)) h = refl
fresh_stays now (Some (TunnellingAck c n s)) h = refl

-- ---- what the client may send

pub record MaySend (x : Entry) (state : ClientChannel) (g : Option IpFrame) : Type 0 where
  pub ask : IsAsk g → state ≡ Fresh
  pub tell : (c n : ℕ) (p : List ℕ) → g ≡ Some (TunnellingRequest c n p) → OfOpen (IsRightRequest c n x) state

pub named_up : (acted : List (ℕ × List ℕ)) (joined : Option ℕ) (puts : List (List ℕ)) (c number : ℕ) (sent : List ℕ) (last : Option (List ℕ)) → IsUp acted joined puts c number sent last → Named joined (Some c)
named_up acted None puts c number sent last u = absurd (let h : None ≡ Some u.place = u.joined_is in cc)
named_up acted (Some j) puts c number sent last u =
    let at : j ≡ u.place = (let h : Some j ≡ Some u.place = u.joined_is in cc) in ap (λ z. Some z) (u.numbered ∙ ap number_of (sym at))

module _ (up : List Sent) (makers : List ℕ) (acted : List (ℕ × List ℕ)) (e : ℕ) (octets : List ℕ) (made now : ℕ) (may_ask : IsAsk (datagram_in octets) → ⊥) where
  abbrev put_deed : ℕ → List Entry → Option IpFrame → Deed
  put_deed c l g = or_takes (deed_of Puts (is_request c (request_in g) && is_none (own c l).sent) (request_in g)) Nothing

  -- an open channel
  abbrev OpenAs : ℕ → List Entry → List (List ℕ) → Option IpFrame → Type 0
  OpenAs c l puts g =
      Kept (new_datagram octets e made ∷ up) makers acted e (Some c) (and_puts (put_deed c l g) puts)
      (λ joined asked. IsUp acted joined (and_puts (put_deed c l g) puts) c
      (cond (is_request c (request_in g)) (record { number = (own c l).number; sent = now ∷ (own c l).sent }) (own c l)).number
      (cond (is_request c (request_in g)) (record { number = (own c l).number; sent = now ∷ (own c l).sent }) (own c l)).sent
      (content_in (cond (is_request c (request_in g) && is_none (own c l).sent) (Some octets) (last_request c l))))

  open_other : (c : ℕ) (l : List Entry) (number : Option ℕ) (puts : List (List ℕ)) → Kept up makers acted e number puts (λ joined asked. Phase acted joined asked puts (Open c l)) → (IsTell (datagram_in octets) → ⊥)
      → (g : Option IpFrame) → (IsTell g → ⊥) → OpenAs c l puts g
  open_other c l number puts k non g other =
      let same : Kept (new_datagram octets e made ∷ up) makers acted e (Some c) puts (λ joined asked. Phase acted joined asked puts (Open c l))
      = record {
        joined = k.joined;
        asked = k.asked;
        fits = other_fits up makers acted e k.joined puts k.asked octets e made (λ t f. non t) (λ t f. may_ask t) k.fits;
        named = named_up acted k.joined puts c (own c l).number (own c l).sent (last_put c l) k.phase;
        phase = k.phase;
      } in
      by_frame same g other
    where
      by_frame : Kept (new_datagram octets e made ∷ up) makers acted e (Some c) puts (λ joined asked. Phase acted joined asked puts (Open c l)) → (f : Option IpFrame) → (IsTell f → ⊥) → OpenAs c l puts f
      by_frame same None h = same
      by_frame same (Some ConnectRequest) h = same
      by_frame same (Some (ConnectResponse d s t)) h = same
      by_frame same (Some (StateRequest d)) h = same
      by_frame same (Some (StateResponse d s)) h = same
      by_frame same (Some (DisconnectRequest d)) h = same
      by_frame same (Some (DisconnectResponse d s)) h = same
      by_frame same (Some (TunnellingRequest d n p)) h = absurd (h tt)
      by_frame same (Some (TunnellingAck d n s)) h = same

  same_octets : (c : ℕ) (l : List Entry) (d n : ℕ) → IsRightRequest d n (entry (Put octets) now) c l → ((own c l).sent ≡ []) ⊎ (last_request c l ≡ Some octets)
  same_octets c l d n right = elim right.one_at_a_time [ inl none ↦ inl none | inr again ↦ inr again.same ]

  open_tells : (c : ℕ) (l : List Entry) (number : Option ℕ) (puts : List (List ℕ)) → Kept up makers acted e number puts (λ joined asked. Phase acted joined asked puts (Open c l))
      → (t : Tells (datagram_in octets)) → IsRightRequest t.channel t.number (entry (Put octets) now) c l → OpenAs c l puts (datagram_in octets)
  open_tells c l number puts k t right =
      let is : datagram_in octets ≡ Some (TunnellingRequest c (own c l).number t.content)
      = t.is ∙ ap (λ z. Some (TunnellingRequest z t.number t.content)) right.in_it ∙ ap (λ z. Some (TunnellingRequest c z t.content)) right.numbered in
      let done = tell_fits up makers acted e octets made now c t.content k.joined k.asked puts (own c l).number (own c l).sent (last_request c l) is (same_octets c l t.channel t.number right) k.fits k.phase in
      let By : Bool → Type 0 = λ b.
      Kept (new_datagram octets e made ∷ up) makers acted e (Some c) (and_puts (or_takes (cond (b && is_none (own c l).sent) (Puts t.content) Nothing) Nothing) puts)
      (λ joined asked. IsUp acted joined (and_puts (or_takes (cond (b && is_none (own c l).sent) (Puts t.content) Nothing) Nothing) puts) c
      (cond b (record { number = (own c l).number; sent = now ∷ (own c l).sent }) (own c l)).number
      (cond b (record { number = (own c l).number; sent = now ∷ (own c l).sent }) (own c l)).sent
      (content_in (cond (b && is_none (own c l).sent) (Some octets) (last_request c l)))) in
      let yes : By true = record { joined = k.joined; asked = k.asked; fits = done.0; named = named_up acted k.joined puts c (own c l).number (own c l).sent (last_put c l) k.phase; phase = done.1 } in
      let here : OpenAs c l puts (Some (TunnellingRequest c (own c l).number t.content)) = subst By (sym (eq-eqb c c refl)) yes in
      let P : Option IpFrame → Type 0 = λ g. OpenAs c l puts g in
      subst P (sym is) here

module _ (up : List Sent) (makers : List ℕ) (acted : List (ℕ × List ℕ)) (e : ℕ) (octets : List ℕ) (made now : ℕ) where
  idle : (number : Option ℕ) (puts : List (List ℕ)) (Is : Option ℕ → Option ℕ → Type 0) → Kept up makers acted e number puts Is → (IsTell (datagram_in octets) → ⊥) → (IsAsk (datagram_in octets) → ⊥)
      → Kept (new_datagram octets e made ∷ up) makers acted e number puts Is
  idle number puts Is k non non2 =
      record { joined = k.joined; asked = k.asked; fits = other_fits up makers acted e k.joined puts k.asked octets e made (λ t f. non t) (λ t f. non2 t) k.fits; named = k.named; phase = k.phase }

  no_tell : (state : ClientChannel) → MaySend (entry (Put octets) now) state (datagram_in octets) → ((c n : ℕ) → OfOpen (IsRightRequest c n (entry (Put octets) now)) state → ⊥) → IsTell (datagram_in octets) → ⊥
  no_tell state may non t = let h : Tells (datagram_in octets) = tell_of (datagram_in octets) t in non h.channel h.number (may.tell h.channel h.number h.content h.is)

  send_by : (v : View) (state : ClientChannel) → BookIs up makers acted e (record { view = v; state = state }) → MaySend (entry (Put octets) now) state (datagram_in octets)
      → BookIs (new_datagram octets e made ∷ up) makers acted e (book_after (record { view = v; state = state }) (entry (Put octets) now))
  unfolding after_entry traffic
  send_by v Fresh k may =
      let non : IsTell (datagram_in octets) → ⊥ = no_tell Fresh may (λ c n h. h) in
      let P : ClientChannel → Type 0 = λ c. Kept (new_datagram octets e made ∷ up) makers acted e (or_number c v.number) v.puts (λ joined asked. Phase acted joined asked v.puts c) in
      elim (ask_or (datagram_in octets)) [
        | inl is ↦
            (let here : P (Sought now) = record { joined = k.joined; asked = Some made; fits = ask_fits up makers acted e k.joined v.puts k.asked octets made is k.phase.1 k.fits; named = k.named; phase = k.phase.0 } in
            subst (λ g. P (fresh_after now g)) (sym is) here)
        | inr non2 ↦ subst P (sym (fresh_stays now (datagram_in octets) non2)) (idle v.number v.puts (λ joined asked. Phase acted joined asked v.puts Fresh) k non non2)
      ]
  send_by v (Sought since) k may = idle v.number v.puts (λ joined asked. Phase acted joined asked v.puts (Sought since)) k (no_tell (Sought since) may (λ c n h. h)) (λ a. let h : Sought since ≡ Fresh = may.ask a in cc)
  send_by v (RefusedBy s) k may = idle v.number v.puts (λ joined asked. Phase acted joined asked v.puts (RefusedBy s)) k (no_tell (RefusedBy s) may (λ c n h. h)) (λ a. let h : RefusedBy s ≡ Fresh = may.ask a in cc)
  send_by v Unanswered k may = idle v.number v.puts (λ joined asked. Phase acted joined asked v.puts Unanswered) k (no_tell Unanswered may (λ c n h. h)) (λ a. let h : Unanswered ≡ Fresh = may.ask a in cc)
  send_by v (Lost d) k may = idle v.number v.puts (λ joined asked. Phase acted joined asked v.puts (Lost d)) k (no_tell (Lost d) may (λ c n h. h)) (λ a. let h : Lost d ≡ Fresh = may.ask a in cc)
  send_by v (Open c l) k may =
      let non2 : IsAsk (datagram_in octets) → ⊥ = λ a. (let h : Open c l ≡ Fresh = may.ask a in cc) in
      elim (tell_or (datagram_in octets)) [
        | inl t ↦ (let h : Tells (datagram_in octets) = tell_of (datagram_in octets) t in open_tells up makers acted e octets made now non2 c l v.number v.puts k h (may.tell h.channel h.number h.content h.is))
        | inr non ↦ open_other up makers acted e octets made now non2 c l v.number v.puts k non (datagram_in octets) non
      ]

pub send_head : (up : List Sent) (makers : List ℕ) (acted : List (ℕ × List ℕ)) (e : ℕ) (octets : List ℕ) (made now : ℕ) (b : Book) → BookIs up makers acted e b → MaySend (entry (Put octets) now) b.state (datagram_in octets)
    → BookIs (new_datagram octets e made ∷ up) makers acted e (book_after b (entry (Put octets) now))
send_head up makers acted e octets made now b k may = send_by up makers acted e octets made now b.view b.state k may
