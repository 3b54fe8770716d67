-- How the client's channel goes on at an entry that is no renewal.
use Rattle.std.proofs.Common.{◌≡◌, ℕ, List, [], ◌∷◌, Bool, true, false, ◌&&◌, Option, Some, None, refl, sym, ◌∙◌, ap, subst, if◌then◌else◌}
use Rattle.std.specs.Prelude.{◌==◌}
use Rattle.knx_model.specs.declared.frames.ip.IpFrame.{IpFrame}
use Rattle.knx_model.specs.declared.frames.ip.IpFrame.TheVariants.{ConnectRequest, ConnectResponse, StateRequest, StateResponse, DisconnectRequest, DisconnectResponse, TunnellingRequest, TunnellingAck}
use Rattle.knx_model.specs.Connection.{has_passed}
use Rattle.line_model.specs.ChannelLost.{is_lost, answer_wait}
use Rattle.line_model.specs.ClientView.{ClientChannel, Fresh, Sought, RefusedBy, Unanswered, Open, Lost, Deed, channel, traffic, after_entry, goes_on, sought_got, answered}
use Rattle.line_model.specs.ClientView as view
use Rattle.line_model.specs.Reading.{is_connect_request}
use Rattle.line_model.specs.Record.{Entry, put_in, got_in, is_renewal, is_poll}
use Rattle.line_law.proofs.Coupled.{Flight, IsOut, IsLater, ChannelIs, is_open}
use Rattle.line_law.proofs.Entries.{Moves, Outside, Goes, Stays}
use Rattle.line_law.proofs.Entering.{Turn, IsStill, IsLost, Joins, Puts, Takes, not_renewed, deed_open, deed_lost, Brought, Neither, Put, Take, brought}

still_of : (r : List Entry) (x : Entry) (c d : ClientChannel) → channel r ≡ c → channel (x ∷ r) ≡ d → Moves c d → traffic c x ≡ view.Nothing → Turn r x
still_of r x c d e k m n = IsStill (record { moves = subst (λ z. Moves z (channel (x ∷ r))) (sym e) (subst (λ z. Moves c z) (sym k) m); none = ap (λ z. traffic z x) e ∙ n })

abbrev Seeks : ClientChannel → Type 0
Seeks Fresh = Unit {0}
Seeks (Sought since) = Unit {0}
Seeks (RefusedBy status) = Unit {0}
Seeks Unanswered = Unit {0}
Seeks (Open c l) = ⊥
Seeks (Lost c) = ⊥

seeks_later : (c : ClientChannel) → Seeks c → (base e present : ℕ) (makers : List ℕ) (flight : Flight) → ChannelIs base e present makers flight c → IsLater base e present makers
seeks_later Fresh k base e present makers flight h = h
seeks_later (Sought since) k base e present makers flight h = h
seeks_later (RefusedBy status) k base e present makers flight h = h
seeks_later Unanswered k base e present makers flight h = h
seeks_later (Open c l) k base e present makers flight h = absurd k
seeks_later (Lost c) k base e present makers flight h = absurd k

later_seeks : (c : ClientChannel) → Seeks c → (base e present : ℕ) (makers : List ℕ) (flight : Flight) → IsLater base e present makers → ChannelIs base e present makers flight c
later_seeks Fresh k base e present makers flight h = h
later_seeks (Sought since) k base e present makers flight h = h
later_seeks (RefusedBy status) k base e present makers flight h = h
later_seeks Unanswered k base e present makers flight h = h
later_seeks (Open c l) k base e present makers flight h = absurd k
later_seeks (Lost c) k base e present makers flight h = absurd k

seeks_out : (c : ClientChannel) → Seeks c → IsOut c
seeks_out Fresh k = tt
seeks_out (Sought since) k = tt
seeks_out (RefusedBy status) k = tt
seeks_out Unanswered k = tt
seeks_out (Open c l) k = absurd k
seeks_out (Lost c) k = absurd k

seeks_shut : (c : ClientChannel) → Seeks c → is_open c ≡ false
seeks_shut Fresh k = refl
seeks_shut (Sought since) k = refl
seeks_shut (RefusedBy status) k = refl
seeks_shut Unanswered k = refl
seeks_shut (Open c l) k = absurd k
seeks_shut (Lost c) k = absurd k

nothing_yet : (c : ClientChannel) (x : Entry) → Seeks c → traffic c x ≡ view.Nothing
unfolding traffic
nothing_yet Fresh x k = refl
nothing_yet (Sought since) x k = refl
nothing_yet (RefusedBy status) x k = refl
nothing_yet Unanswered x k = refl
nothing_yet (Open c l) x k = absurd k
nothing_yet (Lost c) x k = absurd k

nothing_more : (c : ℕ) (x : Entry) → traffic (Lost c) x ≡ view.Nothing
unfolding traffic
nothing_more c x = refl

seeks_on : (r : List Entry) (x : Entry) (c d : ClientChannel) → channel r ≡ c → channel (x ∷ r) ≡ d → Seeks c → Seeks d → Turn r x
seeks_on r x c d e k a b = still_of r x c d e k (Outside (seeks_later c a) (later_seeks d b) (seeks_out d b) (seeks_shut c a) (seeks_shut d b)) (nothing_yet c x a)

-- a connect response
answered_turn : (r : List Entry) (x : Entry) (since channel_number status : ℕ) (b : Bool) → channel r ≡ Sought since → channel (x ∷ r) ≡ (if b then Open channel_number (x ∷ []) else RefusedBy status) → Turn r x
answered_turn r x since n status true e k = Joins n (subst IsOut (sym e) tt) (ap is_open e) k (ap (λ z. traffic z x) e ∙ nothing_yet (Sought since) x tt)
answered_turn r x since n status false e k = seeks_on r x (Sought since) (RefusedBy status) e k tt tt

got_turn : (r : List Entry) (x : Entry) (since : ℕ) (o : Option IpFrame) → channel r ≡ Sought since → channel (x ∷ r) ≡ sought_got since x o → Turn r x
got_turn r x since None e k = seeks_on r x (Sought since) (Sought since) e k tt tt
got_turn r x since (Some ConnectRequest) e k = seeks_on r x (Sought since) (Sought since) e k tt tt
got_turn r x since (Some (ConnectResponse n status tunnel)) e k = answered_turn r x since n status (status == 0) e k
got_turn r x since (Some (StateRequest n)) e k = seeks_on r x (Sought since) (Sought since) e k tt tt
got_turn r x since (Some (StateResponse n status)) e k = seeks_on r x (Sought since) (Sought since) e k tt tt
got_turn r x since (Some (DisconnectRequest n)) e k = seeks_on r x (Sought since) (Sought since) e k tt tt
got_turn r x since (Some (DisconnectResponse n status)) e k = seeks_on r x (Sought since) (Sought since) e k tt tt
got_turn r x since (Some (TunnellingRequest n number frame)) e k = seeks_on r x (Sought since) (Sought since) e k tt tt
got_turn r x since (Some (TunnellingAck n number status)) e k = seeks_on r x (Sought since) (Sought since) e k tt tt

sought_turn : (r : List Entry) (x : Entry) (since : ℕ) (b : Bool) → channel r ≡ Sought since → channel (x ∷ r) ≡ (if b then Unanswered else sought_got since x (got_in x.what)) → Turn r x
sought_turn r x since true e k = seeks_on r x (Sought since) Unanswered e k tt tt
sought_turn r x since false e k = got_turn r x since (got_in x.what) e k

fresh_turn : (r : List Entry) (x : Entry) (b : Bool) → channel r ≡ Fresh → channel (x ∷ r) ≡ (if b then Sought x.now else Fresh) → Turn r x
fresh_turn r x true e k = seeks_on r x Fresh (Sought x.now) e k tt tt
fresh_turn r x false e k = seeks_on r x Fresh Fresh e k tt tt

-- in an open channel
open_turn : (r : List Entry) (x : Entry) (c : ℕ) (l : List Entry) (b : Bool) → channel r ≡ Open c l → is_lost c l x ≡ b → channel (x ∷ r) ≡ (if b then Lost c else Open c (x ∷ l)) → Turn r x
open_turn r x c l true e lost k = IsLost c l e k (ap (λ z. traffic z x) e ∙ deed_lost c l x lost)
open_turn r x c l false e lost k = by_brought (brought c l x) where
  at : traffic (channel r) x ≡ view.deed_in c l x
  at = ap (λ z. traffic z x) e ∙ deed_open c l x lost

  by_brought : Brought c l x → Turn r x
  by_brought (Neither none same last) = still_of r x (Open c l) (Open c (x ∷ l)) e k (Goes same last) (deed_open c l x lost ∙ none)
  by_brought (Put content is new last) = Puts c l content e k (at ∙ is) new last
  by_brought (Take content is stays last) = Takes c l content e k (at ∙ is) stays last

turn_by : (r : List Entry) (x : Entry) (c : ClientChannel) → channel r ≡ c → channel (x ∷ r) ≡ goes_on c x → Turn r x
turn_by r x Fresh e k = fresh_turn r x (is_connect_request (put_in x.what)) e k
turn_by r x (Sought since) e k = sought_turn r x since (is_poll x.what && has_passed answer_wait since x.now) e k
turn_by r x (RefusedBy status) e k = seeks_on r x (RefusedBy status) (RefusedBy status) e k tt tt
turn_by r x Unanswered e k = seeks_on r x Unanswered Unanswered e k tt tt
turn_by r x (Open c l) e k = open_turn r x c l (is_lost c l x) e refl k
turn_by r x (Lost c) e k = still_of r x (Lost c) (Lost c) e k Stays (nothing_more c x)

pub turn : (r : List Entry) (x : Entry) → is_renewal x.what ≡ false → Turn r x
turn r x h = turn_by r x (channel r) refl (not_renewed (channel r) x h)
