-- What the client's end of a tunnel keeps of its link's record, by the record alone: always that it renewed, sent, wrote and acknowledged rightly, and told
-- the gateway of each loss of the channel, how many datagrams were dropped and how many were got, and that three failed tries are those of the record; and until it has ended that what it
-- knows is what the record says.
use Rattle.std.specs.Prelude.{◌≡◌, ℕ, ◌<◌, ◌^◌, ◌-◌, min, Bool, true, false, ◌&&◌, is_none, List, [], ◌∷◌, length, reverse, Option, Some, None, Result, Ok, Err}
use Rattle.knx_model.specs.declared.address.IndAddr.{IndAddr}
use Rattle.knx_model.specs.declared.frames.cemi.Ldata.{Ldata}
use Rattle.line_model.specs.declared.fault.HubFault.{HubFault}
use Rattle.line_model.specs.declared.fault.HubFault.TheVariants.{NoMemory, LinkFailed, GatewayRefused, Flooded, WrongLine}
use Rattle.line_model.specs.declared.fault.Try.{Try}
use Rattle.line_model.specs.declared.outside.link.LinkFault.{LinkFault}
use Rattle.line_model.specs.declared.outside.link.LinkFault.TheVariants as link
use Rattle.line_model.specs.declared.outside.fault_counts.FaultCounts.{FaultCounts}
use Rattle.line_model.specs.Record.{Entry, Placed, entries}
use Rattle.line_model.specs.LinkStory.{Story, places_in, newest_time}
use Rattle.line_model.specs.Polled.{after_fault}
use Rattle.line_model.specs.ClientView as seen
use Rattle.line_model.specs.ClientView.{ClientChannel, channel, own_address}
use Rattle.line_model.specs.Renews.{RenewsRightly, AcknowledgesRightly, has_renewed, owed}
use Rattle.line_model.specs.Sendings.{SendsRightly}
use Rattle.line_model.specs.Written.{AllWritten}
use Rattle.line_model.specs.Leaves.{PartsRightly, parting_of}
use Rattle.line_model.specs.Dropped as drop
use Rattle.line_model.specs.Faults.{tries, datagrams_taken}
use Rattle.line_model.specs.ClientEnd.{ClientEnd, Idle, Seeking, Open, Leaving, JustLost, put_refused}
use Rattle.line_model.specs.ChannelLost.{last_frame}
use Rattle.tunnel_channel.specs.Fits.{HasBegun, HasNone, KnowsOpen, acknowledged_in, confirmed_in}
use Rattle.tunnel_channel.specs.Follows.{IsCurrent}
use Rattle.tunnel_link.specs.declared.known.Known.{Known}
use Rattle.tunnel_link.specs.declared.tries.Tries.{Tries}
use Rattle.tunnel_link.specs.declared.tries.Tries.TheVariants.{Zero, One, Two, Three}

-- ---- the parts

-- at most the greatest number of 64 bits
abbrev pub at_most_64_bits : ℕ → ℕ
at_most_64_bits n = min n (2 ^ 64 - 1)

-- the newest first
abbrev pub tries_of : Tries → List Try
tries_of Zero = []
tries_of (One a) = a ∷ []
tries_of (Two a b) = b ∷ a ∷ []
tries_of (Three a b c) = c ∷ b ∷ a ∷ []

-- three failed tries are those of the record; the other faults aren't by the tries
abbrev pub FitsFault : Option HubFault → List Try → Type 0
FitsFault None failed = Unit {0}
FitsFault (Some (NoMemory want)) failed = Unit {0}
FitsFault (Some LinkFailed) failed = Unit {0}
FitsFault (Some (GatewayRefused three)) failed = failed ≡ reverse three
FitsFault (Some Flooded) failed = Unit {0}
FitsFault (Some (WrongLine device tunnel)) failed = Unit {0}

abbrev pub IsntRefusal : HubFault → Type 0
IsntRefusal (NoMemory want) = Unit {0}
IsntRefusal LinkFailed = Unit {0}
IsntRefusal (GatewayRefused three) = ⊥
IsntRefusal Flooded = Unit {0}
IsntRefusal (WrongLine device tunnel) = Unit {0}

-- a fault of the link
abbrev pub IsOfLink : HubFault → Type 0
IsOfLink (NoMemory want) = Unit {0}
IsOfLink LinkFailed = Unit {0}
IsOfLink (GatewayRefused three) = ⊥
IsOfLink Flooded = ⊥
IsOfLink (WrongLine device tunnel) = ⊥

-- a fault that the client's end of the tunnel comes to itself
abbrev pub IsOfTunnel : HubFault → Type 0
IsOfTunnel (NoMemory want) = Unit {0}
IsOfTunnel LinkFailed = Unit {0}
IsOfTunnel (GatewayRefused three) = Unit {0}
IsOfTunnel Flooded = ⊥
IsOfTunnel (WrongLine device tunnel) = ⊥

-- no fault, or that three tries failed
abbrev pub IsOfTries : Option HubFault → Type 0
IsOfTries None = Unit {0}
IsOfTries (Some (NoMemory want)) = ⊥
IsOfTries (Some LinkFailed) = ⊥
IsOfTries (Some (GatewayRefused three)) = Unit {0}
IsOfTries (Some Flooded) = ⊥
IsOfTries (Some (WrongLine device tunnel)) = ⊥

-- the fault of a client whose link failed so
abbrev pub fault_by : LinkFault → HubFault
fault_by (link.NoMemory want) = NoMemory want
fault_by link.Failed = LinkFailed

-- the counts of the link after a call that answered so: a fault of the link is its own, and there is no other
abbrev pub after_result : {X : Type 0} → Result X HubFault → FaultCounts → FaultCounts
after_result (Ok x) counts = counts
after_result (Err why) counts = after_fault (Some why) counts

-- the end of the channel is that of the record, which shows no loss and no failed try of which it isn't told
abbrev pub FitsNow : ClientEnd → ClientChannel → Type 0
FitsNow Idle ch = HasNone ch
FitsNow (Seeking since) ch = ch ≡ seen.Sought since
FitsNow (Open e) ch = KnowsOpen e false ch
FitsNow (Leaving e) ch = KnowsOpen e true ch
FitsNow (JustLost c) ch = ⊥

-- what is taken in the open channel counts by the frame that was put last in it, and by the tunnel's own address
abbrev pub CountsBy : Option IndAddr → Option Ldata → ClientChannel → Type 0
CountsBy tunnel put seen.Fresh = Unit {0}
CountsBy tunnel put (seen.Sought since) = Unit {0}
CountsBy tunnel put (seen.RefusedBy status) = Unit {0}
CountsBy tunnel put seen.Unanswered = Unit {0}
CountsBy tunnel put (seen.Open c l) = (put ≡ last_frame c l) × (tunnel ≡ own_address l) × HasBegun l
CountsBy tunnel put (seen.Lost c) = Unit {0}

-- ---- always

pub record IsRight (k : Known) (r : List Entry) : Type 0 where
  pub renews : RenewsRightly r
  pub sends : SendsRightly r
  pub writes : AllWritten r
  pub acknowledges : AcknowledgesRightly r
  pub parts : PartsRightly r
  pub drops : k.dropped ≡ at_most_64_bits (drop.dropped r)
  pub takes : k.taken ≡ at_most_64_bits (datagrams_taken r)
  pub fault : FitsFault k.fault (tries r)

-- ---- until it has ended: the end of the channel, what came of the request put last, and the tries are those of the record, which has come to
-- its time; no acknowledgement is owed, the gateway was told of each loss, and an endpoint without connect request is the first one

pub record FitsRecord (k : Known) (r : List Entry) : Type 0 where
  pub end : FitsNow k.channel (channel r)
  pub current : IsCurrent (channel r) (newest_time r)
  pub acknowledged : k.flight.acknowledged ≡ acknowledged_in (channel r)
  pub confirmed : k.flight.confirmed ≡ confirmed_in (channel r)
  pub counts : CountsBy k.tunnel k.put (channel r)
  pub failed : tries_of k.tries ≡ tries r
  pub few : length (tries r) < 3
  pub paid : owed r ≡ None
  pub parted : parting_of r ≡ None
  pub first : channel r ≡ seen.Fresh → has_renewed r ≡ false

pub record IsKept (k : Known) (r : List Entry) : Type 0 where
  pub right : IsRight k r
  pub fits : k.fault ≡ None → FitsRecord k r

-- ---- of a link, where its story tells places

abbrev pub WhereTold : (List Placed → Type 0) → Story → Type 0
WhereTold P story = (places : List Placed) → places_in story ≡ Some places → P places

abbrev pub KeepsRecord : Known → Story → Type 0
KeepsRecord k story = WhereTold (λ places. IsKept k (entries places)) story

-- P of the record of a client's end that hasn't ended
abbrev pub WhileFits : (List Entry → Type 0) → Known → Story → Type 0
WhileFits P k story = k.fault ≡ None → WhereTold (λ places. P (entries places)) story

-- a request can be put
abbrev pub has_place : Known → Bool
has_place k = is_none (put_refused k.channel) && k.flight.confirmed
