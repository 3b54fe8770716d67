-- Which datagrams the client sends (ISO 22510, Core and Tunnelling). A tunnelling request goes into the open channel with the number that is
-- next, one at a time; after 1,000 ms it goes once more with the same octets. An acknowledgement is sent only for the request that was got
-- last, a heartbeat every 60,000 ms, a disconnect request for the channel that is open or was just lost, and the answer to one of the
-- gateway at once.
use Rattle.std.specs.Prelude.{◌≡◌, ℕ, ◌⊎◌, true, List, [], ◌∷◌, if◌then◌else◌, Option, Some, None}
use Rattle.knx_model.specs.declared.frames.ip.IpFrame.{IpFrame}
use Rattle.knx_model.specs.declared.frames.ip.IpFrame.TheVariants.{ConnectRequest, ConnectResponse, StateRequest, StateResponse, DisconnectRequest, DisconnectResponse, TunnellingRequest, TunnellingAck}
use Rattle.line_model.specs.Reading.{disconnect_request_in}
use Rattle.line_model.specs.Record.{Item, Put, Renewed, Got, Quiet, Entry, put_in, got_in}
use Rattle.line_model.specs.ChannelLost.{own, is_new_request}
use Rattle.line_model.specs.ClientView.{ClientChannel, Fresh, Sought, RefusedBy, Unanswered, Open, Lost, channel}
use Rattle.line_model.specs.Renews.{owed, is_repeat_due, is_beat_due}

-- ---- a request

abbrev pub octets_put : Item → Option (List ℕ)
octets_put (Put octets) = Some octets
octets_put _ = None

-- the datagram of the request that was put last in channel c
abbrev pub last_request : ℕ → List Entry → Option (List ℕ)
last_request c [] = None
last_request c (x ∷ l) = if is_new_request c l x then octets_put x.what else last_request c l

-- the outstanding one once more
pub record IsRepeat (c : ℕ) (l : List Entry) (x : Entry) : Type 0 where
  pub due : is_repeat_due (own c l).sent x.now ≡ true
  pub same : last_request c l ≡ octets_put x.what

-- it has the channel's next number, or that of the outstanding one
pub record IsRightRequest (channel number : ℕ) (x : Entry) (c : ℕ) (l : List Entry) : Type 0 where
  pub in_it : channel ≡ c
  pub numbered : number ≡ (own c l).number
  pub one_at_a_time : ((own c l).sent ≡ []) ⊎ IsRepeat c l x

-- ---- a heartbeat

pub record IsRightBeat (channel : ℕ) (x : Entry) (c : ℕ) (l : List Entry) : Type 0 where
  pub in_it : channel ≡ c
  pub due : is_beat_due c l x.now ≡ true

-- ---- the end of a channel

abbrev pub OwnsChannel : ℕ → ClientChannel → Type 0
OwnsChannel c Fresh = ⊥
OwnsChannel c (Sought since) = ⊥
OwnsChannel c (RefusedBy status) = ⊥
OwnsChannel c Unanswered = ⊥
OwnsChannel c (Open d l) = c ≡ d
OwnsChannel c (Lost d) = c ≡ d

-- the channel in the gateway's disconnect request that was got last
abbrev pub end_got : List Entry → Option ℕ
end_got [] = None
end_got (x ∷ r) = disconnect_request_in (got_in x.what)

pub record AnswersEnd (c status : ℕ) (r : List Entry) : Type 0 where
  pub its_own : OwnsChannel c (channel r)
  pub got_just_now : end_got r ≡ Some c
  pub agreed : status ≡ 0

-- ---- each datagram

abbrev pub OfOpen : (ℕ → List Entry → Type 0) → ClientChannel → Type 0
OfOpen P (Open c l) = P c l
OfOpen P _ = ⊥

abbrev pub IsRightFrame : List Entry → Entry → Option IpFrame → Type 0
IsRightFrame r x None = ⊥
IsRightFrame r x (Some ConnectRequest) = Unit {0}
IsRightFrame r x (Some (ConnectResponse c status tunnel)) = ⊥
IsRightFrame r x (Some (StateRequest c)) = OfOpen (IsRightBeat c x) (channel r)
IsRightFrame r x (Some (StateResponse c status)) = ⊥
IsRightFrame r x (Some (DisconnectRequest c)) = OwnsChannel c (channel r)
IsRightFrame r x (Some (DisconnectResponse c status)) = AnswersEnd c status r
IsRightFrame r x (Some (TunnellingRequest c number frame)) = OfOpen (IsRightRequest c number x) (channel r)
IsRightFrame r x (Some (TunnellingAck c number status)) = owed r ≡ Some (TunnellingAck c number status)

abbrev pub IsRightItem : List Entry → Entry → Item → Type 0
IsRightItem r x (Put octets) = IsRightFrame r x (put_in (Put octets))
IsRightItem r x Renewed = Unit {0}
IsRightItem r x (Got octets) = Unit {0}
IsRightItem r x Quiet = Unit {0}

abbrev pub SendsRightly : List Entry → Type 0
SendsRightly [] = Unit {0}
SendsRightly (x ∷ r) = IsRightItem r x x.what × SendsRightly r
