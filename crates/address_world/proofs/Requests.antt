-- A request that is sent is put for the first time, or is the one that was put last.
use Rattle.std.proofs.Common.{◌≡◌, ℕ, ◌⊎◌, inl, inr, List, [], ◌∷◌, Bool, true, false, cond, Option, Some, None, refl, subst}
use Rattle.std.specs.Prelude.{◌==◌}
use Rattle.std.proofs.lemmas.Bool.{eq-eqb}
use Rattle.knx_model.specs.declared.address.IndAddr.{IndAddr}
use Rattle.knx_model.specs.declared.frames.cemi.Ldata.{Ldata}
use Rattle.knx_model.specs.declared.frames.ip.IpFrame.{IpFrame}
use Rattle.knx_model.specs.declared.frames.ip.IpFrame.TheVariants.{ConnectRequest, ConnectResponse, StateRequest, StateResponse, DisconnectRequest, DisconnectResponse, TunnellingRequest, TunnellingAck}
use Rattle.line_model.specs.Reading.{datagram_in, ldata_in, is_connect_request}
use Rattle.line_model.specs.Record.{Item, Put, Renewed, Got, Quiet, Entry, entry}
use Rattle.line_model.specs.ChannelLost.{own, is_new_request, is_lost}
use Rattle.line_model.specs.ClientView.{ClientChannel, Fresh, Sought, RefusedBy, Unanswered, Open, Lost, sought_got, after_entry, channel, Deed, Puts, Takes, Loses, Nothing, deed}
use Rattle.line_model.specs.Sendings.{last_request, IsRepeat, IsRightRequest, OfOpen, IsRightFrame, IsRightItem, SendsRightly}
use Rattle.address_world.specs.Keeps.{IsAsked, SendsSo, PutsOnly, AsksFirst, AllAskFirst}
use Rattle.address_world.proofs.Gateways.{Only}

module _ (P : Ldata → Type 0) where
  -- each frame that is put for the first time is such a one
  abbrev pub FirstSo : Deed → Type 0
  FirstSo (Puts cemi) = (frame : Ldata) → ldata_in cemi ≡ Some frame → P frame
  FirstSo _ = Unit {0}

  abbrev pub AllFirst : List Entry → Type 0
  AllFirst [] = Unit {0}
  AllFirst (x ∷ r) = FirstSo (deed (channel r) x) × AllFirst r

  -- each that is sent
  abbrev pub SendSo : Item → Type 0
  SendSo (Put octets) = Only P octets
  SendSo _ = Unit {0}

  abbrev pub AllSend : List Entry → Type 0
  AllSend [] = Unit {0}
  AllSend (x ∷ r) = SendSo x.what × AllSend r

  abbrev OfLast : Option (List ℕ) → Type 0
  OfLast None = Unit {0}
  OfLast (Some octets) = Only P octets

  -- the request that was put last in the open channel
  abbrev LastAsks : ClientChannel → Type 0
  LastAsks (Open c l) = OfLast (last_request c l)
  LastAsks _ = Unit {0}

  -- ---- what is sent now

  -- the request in this entry is a new one
  is_put : (c number : ℕ) (cemi octets : List ℕ) (now : ℕ) (l : List Entry) → datagram_in octets ≡ Some (TunnellingRequest c number cemi) → (own c l).sent ≡ [] → deed (Open c l) (entry (Put octets) now) ≡ Puts cemi
  unfolding deed
  is_put c number cemi octets now l e none = rw (e, none, eq-eqb c c refl) refl

  asks_now : (octets : List ℕ) (now : ℕ) (ch : ClientChannel) (c number : ℕ) (cemi : List ℕ) (frame : Ldata) → datagram_in octets ≡ Some (TunnellingRequest c number cemi) → ldata_in cemi ≡ Some frame
      → OfOpen (IsRightRequest c number (entry (Put octets) now)) ch → FirstSo (deed ch (entry (Put octets) now)) → LastAsks ch → P frame
  asks_now octets now Fresh c number cemi frame e f right first last = absurd right
  asks_now octets now (Sought since) c number cemi frame e f right first last = absurd right
  asks_now octets now (RefusedBy status) c number cemi frame e f right first last = absurd right
  asks_now octets now Unanswered c number cemi frame e f right first last = absurd right
  asks_now octets now (Lost d) c number cemi frame e f right first last = absurd right
  asks_now octets now (Open d l) c number cemi frame e f right first last = by_place right.one_at_a_time where
    by_place : ((own d l).sent ≡ []) ⊎ IsRepeat d l (entry (Put octets) now) → P frame
    by_place (inl none) =
        let here : datagram_in octets ≡ Some (TunnellingRequest d number cemi) = subst (λ z. datagram_in octets ≡ Some (TunnellingRequest z number cemi)) right.in_it e in
        subst (λ z. FirstSo z) (is_put d number cemi octets now l here none) first frame f
    by_place (inr again) = subst (λ z. OfLast z) again.same last c number cemi frame e f

  -- ---- the channel after an entry

  unless_lost : (c : ℕ) (l : List Entry) (t : Bool) → OfLast (last_request c l) → LastAsks (cond t (Lost c) (Open c l))
  unless_lost c l true h = tt
  unless_lost c l false h = h

  if_new : (octets : List ℕ) (t : Bool) (before : Option (List ℕ)) → Only P octets → OfLast before → OfLast (cond t (Some octets) before)
  if_new octets true before h last = h
  if_new octets false before h last = last

  fresh_or_sought : (t : Bool) (now : ℕ) → LastAsks (cond t (Sought now) Fresh)
  fresh_or_sought true now = tt
  fresh_or_sought false now = tt

  after_put : (octets : List ℕ) (now : ℕ) (ch : ClientChannel) → Only P octets → LastAsks ch → LastAsks (after_entry ch (entry (Put octets) now))
  unfolding after_entry
  after_put octets now Fresh h last = fresh_or_sought (is_connect_request (datagram_in octets)) now
  after_put octets now (Sought since) h last = tt
  after_put octets now (RefusedBy status) h last = tt
  after_put octets now Unanswered h last = tt
  after_put octets now (Open c l) h last = if_new octets (is_new_request c l (entry (Put octets) now)) (last_request c l) h last
  after_put octets now (Lost c) h last = tt

  answered_so : (c status : ℕ) (octets : List ℕ) (now : ℕ) (t : Bool) → LastAsks (cond t (Open c (entry (Got octets) now ∷ [])) (RefusedBy status))
  answered_so c status octets now true = tt
  answered_so c status octets now false = tt

  sought_so : (since : ℕ) (octets : List ℕ) (now : ℕ) (o : Option IpFrame) → LastAsks (sought_got since (entry (Got octets) now) o)
  sought_so since octets now None = tt
  sought_so since octets now (Some ConnectRequest) = tt
  sought_so since octets now (Some (ConnectResponse c status tunnel)) = answered_so c status octets now (status == 0)
  sought_so since octets now (Some (StateRequest c)) = tt
  sought_so since octets now (Some (StateResponse c status)) = tt
  sought_so since octets now (Some (DisconnectRequest c)) = tt
  sought_so since octets now (Some (DisconnectResponse c status)) = tt
  sought_so since octets now (Some (TunnellingRequest c number cemi)) = tt
  sought_so since octets now (Some (TunnellingAck c number status)) = tt

  unless_over : (t : Bool) (ch : ClientChannel) → LastAsks ch → LastAsks (cond t Unanswered ch)
  unless_over true ch h = tt
  unless_over false ch h = h

  after_got : (octets : List ℕ) (now : ℕ) (ch : ClientChannel) → LastAsks ch → LastAsks (after_entry ch (entry (Got octets) now))
  unfolding after_entry
  after_got octets now Fresh last = tt
  after_got octets now (Sought since) last = unless_over _ (sought_got since (entry (Got octets) now) (datagram_in octets)) (sought_so since octets now (datagram_in octets))
  after_got octets now (RefusedBy status) last = tt
  after_got octets now Unanswered last = tt
  after_got octets now (Open c l) last = unless_lost c (entry (Got octets) now ∷ l) (is_lost c l (entry (Got octets) now)) last
  after_got octets now (Lost c) last = tt

  after_quiet : (now : ℕ) (ch : ClientChannel) → LastAsks ch → LastAsks (after_entry ch (entry Quiet now))
  unfolding after_entry
  after_quiet now Fresh last = tt
  after_quiet now (Sought since) last = unless_over _ (Sought since) tt
  after_quiet now (RefusedBy status) last = tt
  after_quiet now Unanswered last = tt
  after_quiet now (Open c l) last = unless_lost c (entry Quiet now ∷ l) (is_lost c l (entry Quiet now)) last
  after_quiet now (Lost c) last = tt

  after_renewed : (now : ℕ) (ch : ClientChannel) → LastAsks (after_entry ch (entry Renewed now))
  unfolding after_entry
  after_renewed now ch = tt

  -- ---- over the record

  sends_now : (what : Item) (now : ℕ) (r : List Entry) → IsRightItem r (entry what now) what → FirstSo (deed (channel r) (entry what now)) → LastAsks (channel r) → SendSo what
  sends_now (Put octets) now r right first last = λ c number cemi frame e f.
      asks_now octets now (channel r) c number cemi frame e f (subst (λ z. IsRightFrame r (entry (Put octets) now) z) e right) first last
  sends_now Renewed now r right first last = tt
  sends_now (Got octets) now r right first last = tt
  sends_now Quiet now r right first last = tt

  channel_now : (what : Item) (now : ℕ) (ch : ClientChannel) → SendSo what → LastAsks ch → LastAsks (after_entry ch (entry what now))
  channel_now (Put octets) now ch is last = after_put octets now ch is last
  channel_now Renewed now ch is last = after_renewed now ch
  channel_now (Got octets) now ch is last = after_got octets now ch last
  channel_now Quiet now ch is last = after_quiet now ch last

  both : (r : List Entry) → SendsRightly r → AllFirst r → AllSend r × LastAsks (channel r)
  both [] right first = (tt, tt)
  both (x ∷ r) right first =
      let before = both r right.1 first.1 in
      let now : SendSo x.what = sends_now x.what x.now r right.0 first.0 before.1 in
      ((now, before.0), channel_now x.what x.now (channel r) now before.1)

  pub sends_only : (r : List Entry) → SendsRightly r → AllFirst r → AllSend r
  sends_only r right first = (both r right first).0

-- ---- of the four frames

module _ (wanted : IndAddr) where
  first_same : (d : Deed) → AsksFirst wanted d → FirstSo (IsAsked wanted) d
  first_same (Puts cemi) h = h
  first_same (Takes cemi) h = tt
  first_same Loses h = tt
  first_same Nothing h = tt

  all_first_same : (r : List Entry) → AllAskFirst wanted r → AllFirst (IsAsked wanted) r
  all_first_same [] h = tt
  all_first_same (x ∷ r) h = (first_same (deed (channel r) x) h.0, all_first_same r h.1)

  send_same : (what : Item) → SendSo (IsAsked wanted) what → SendsSo wanted what
  send_same (Put octets) h = h
  send_same Renewed h = tt
  send_same (Got octets) h = tt
  send_same Quiet h = tt

  all_send_same : (r : List Entry) → AllSend (IsAsked wanted) r → PutsOnly wanted r
  all_send_same [] h = tt
  all_send_same (x ∷ r) h = (send_same x.what h.0, all_send_same r h.1)

  send_of : (what : Item) → SendsSo wanted what → SendSo (IsAsked wanted) what
  send_of (Put octets) h = h
  send_of Renewed h = tt
  send_of (Got octets) h = tt
  send_of Quiet h = tt

  pub all_send_of : (r : List Entry) → PutsOnly wanted r → AllSend (IsAsked wanted) r
  all_send_of [] h = tt
  all_send_of (x ∷ r) h = (send_of x.what h.0, all_send_of r h.1)

  pub puts_only : (r : List Entry) → SendsRightly r → AllAskFirst wanted r → PutsOnly wanted r
  puts_only r right first = all_send_same r (sends_only (IsAsked wanted) r right (all_first_same r first))
