-- The client's end of a tunnel knows what the link's record says of its channel: it is a function of the readings of the record, from the
-- channel's connect response on. Where the time alone has ended the channel, or the wait for one, the end is told so by `expire` only: until
-- then it is behind the record.
use Rattle.std.specs.Prelude.{◌≡◌, ℕ, ◌⊎◌, Bool, true, false, List, [], ◌∷◌, length, Option, Some, None}
use Rattle.knx_model.specs.declared.address.IndAddr.{IndAddr}
use Rattle.knx_model.specs.declared.frames.cemi.Ldata.{Ldata}
use Rattle.knx_model.specs.declared.frames.ip.IpFrame.TheVariants.{TunnellingRequest}
use Rattle.knx_model.specs.Connection.{has_passed}
use Rattle.line_model.specs.Reading.{datagram_in}
use Rattle.line_model.specs.Gateway.{acknowledgement_wait}
use Rattle.line_model.specs.Record.{Entry}
use Rattle.line_model.specs.LinkStory.{newest_time}
use Rattle.line_model.specs.ChannelLost.{answer_wait, expected, own, acknowledged, confirmed, last_frame, beats, has_left}
use Rattle.line_model.specs.ClientView as seen
use Rattle.line_model.specs.ClientView.{ClientChannel, channel, own_address}
use Rattle.line_model.specs.Renews.{last_beat}
use Rattle.line_model.specs.Sendings.{last_request}
use Rattle.line_model.specs.ClientEnd.{Outstanding, Free, Once, Again, OpenEnd, ClientEnd, Idle, Seeking, Open, Leaving, JustLost, is_over}

-- ---- what the record says of the open channel c, whose entries so far are l

abbrev pub octets_of : Option (List ℕ) → List ℕ
octets_of None = []
octets_of (Some octets) = octets

-- when the request that isn't acknowledged was sent, the newest sending first, and the datagram of the request that was put last
abbrev pub outstanding_of : List ℕ → Option (List ℕ) → Outstanding
outstanding_of [] last = Free
outstanding_of (t ∷ []) last = Once (octets_of last) t
outstanding_of (s ∷ t ∷ ts) last = Again s

abbrev pub end_of : ℕ → List Entry → OpenEnd
end_of c l = record {
  channel = c;
  expected = expected c l;
  number = (own c l).number;
  request = outstanding_of (own c l).sent (last_request c l);
  unanswered = length (beats c l);
  beat = last_beat c l;
}

-- the request that was put last has the channel and the number
pub record IsOutstanding (c number : ℕ) (last : Option (List ℕ)) : Type 0 where
  pub octets : List ℕ
  pub cemi : List ℕ
  pub is : last ≡ Some octets
  pub reads : datagram_in octets ≡ Some (TunnellingRequest c number cemi)

-- a request was sent at most twice, again 1,000 ms after the first time at the earliest
abbrev pub IsSentRightly : ℕ → ℕ → List ℕ → Option (List ℕ) → Type 0
IsSentRightly c number [] last = Unit {0}
IsSentRightly c number (t ∷ []) last = IsOutstanding c number last
IsSentRightly c number (s ∷ t ∷ []) last = has_passed acknowledgement_wait t s ≡ true
IsSentRightly c number (s ∷ t ∷ u ∷ ts) last = ⊥

-- at most three heartbeats have no answer, each was sent when the one before had none in time, and the newest is the last of all
abbrev pub IsBeatenRightly : List ℕ → ℕ → Type 0
IsBeatenRightly [] last = Unit {0}
IsBeatenRightly (t ∷ []) last = last ≡ t
IsBeatenRightly (s ∷ t ∷ []) last = (last ≡ s) × (has_passed answer_wait t s ≡ true)
IsBeatenRightly (s ∷ t ∷ u ∷ []) last = (last ≡ s) × (has_passed answer_wait t s ≡ true) × (has_passed answer_wait u t ≡ true)
IsBeatenRightly (s ∷ t ∷ u ∷ v ∷ ts) last = ⊥

abbrev pub HasBegun : List Entry → Type 0
HasBegun [] = ⊥
HasBegun (x ∷ l) = Unit {0}

pub record Knows (e : OpenEnd) (left : Bool) (c : ℕ) (l : List Entry) : Type 0 where
  pub begun : HasBegun l
  pub is : e ≡ end_of c l
  pub sendings : IsSentRightly c (own c l).number (own c l).sent (last_request c l)
  pub heartbeats : IsBeatenRightly (beats c l) (last_beat c l)
  pub asked : has_left c l ≡ left

-- ---- the whole end

abbrev pub HasNone : ClientChannel → Type 0
HasNone seen.Fresh = Unit {0}
HasNone (seen.Sought since) = ⊥
HasNone (seen.RefusedBy status) = Unit {0}
HasNone seen.Unanswered = Unit {0}
HasNone (seen.Open c l) = ⊥
HasNone (seen.Lost c) = Unit {0}

-- its channel is open by the record too
pub record KnowsOpen (e : OpenEnd) (left : Bool) (ch : ClientChannel) : Type 0 where
  pub c : ℕ
  pub l : List Entry
  pub is : ch ≡ seen.Open c l
  pub knows : Knows e left c l

-- it is behind the record: the time has ended its channel
pub record IsBehind (e : OpenEnd) (now : ℕ) (ch : ClientChannel) : Type 0 where
  pub lost : ch ≡ seen.Lost e.channel
  pub over : is_over (Open e) now ≡ true

-- it is behind the record: the time has ended its wait for a channel
pub record IsUnanswered (since now : ℕ) (ch : ClientChannel) : Type 0 where
  pub unanswered : ch ≡ seen.Unanswered
  pub over : is_over (Seeking since) now ≡ true

-- at this time, when this has come of the present endpoint
abbrev pub FitsChannel : ClientEnd → ℕ → ClientChannel → Type 0
FitsChannel Idle now ch = HasNone ch
FitsChannel (Seeking since) now ch = (ch ≡ seen.Sought since) ⊎ IsUnanswered since now ch
FitsChannel (Open e) now ch = KnowsOpen e false ch ⊎ IsBehind e now ch
FitsChannel (Leaving e) now ch = KnowsOpen e true ch ⊎ IsBehind e now ch
FitsChannel (JustLost c) now ch = ch ≡ seen.Lost c

abbrev pub Fits : ClientEnd → List Entry → Type 0
Fits end r = FitsChannel end (newest_time r) (channel r)

-- ---- what came of the request that was put last in the open channel: when it was acknowledged, and whether it is confirmed. Before the first
-- one, and where no channel is open, nothing is awaited

abbrev pub acknowledged_in : ClientChannel → Option ℕ
acknowledged_in (seen.Open c l) = acknowledged c l
acknowledged_in _ = None

abbrev pub confirmed_in : ClientChannel → Bool
confirmed_in (seen.Open c l) = confirmed c l
confirmed_in _ = true

-- its frame
abbrev pub last_in : ClientChannel → Option Ldata
last_in (seen.Open c l) = last_frame c l
last_in _ = None

-- the tunnel's own address
abbrev pub own_in : ClientChannel → Option IndAddr
own_in (seen.Open c l) = own_address l
own_in _ = None
