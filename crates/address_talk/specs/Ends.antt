-- How giving an address ends, by the link's record: what came of it is read off the talk, in which the channel wasn't lost and few datagrams came;
-- after that the channel is ended, and no request is put. A fault comes exactly at its cause. Where the link's clock is exact the pace is kept too.
use Rattle.std.specs.Prelude.{◌≡◌, ◌⊎◌, ℕ, suc, ◌+◌, ◌≤◌, true, false, List, [], ◌∷◌, ◌++◌, length, reverse, if◌then◌else◌, Result, Ok, Err, ◌<◌}
use Rattle.knx_model.specs.declared.address.IndAddr.{IndAddr}
use Rattle.line_model.specs.declared.fault.Try.{Try}
use Rattle.line_model.specs.declared.outside.fault_counts.FaultCounts.{FaultCounts}
use Rattle.line_model.specs.Asks.{HasPlace}
use Rattle.line_model.specs.ClientView.{channel}
use Rattle.line_model.specs.ChannelLost.{answer_wait}
use Rattle.line_model.specs.Closing.{asks_to_end, most_datagrams}
use Rattle.line_model.specs.Haste.{KeepsPaces}
use Rattle.line_model.specs.Leaves.{StaysOpen}
use Rattle.line_model.specs.Record.{Placed, entries, is_got}
use Rattle.line_model.specs.Waiting.{longest_poll}
use Rattle.line_model.specs.Moments.{moments}
use Rattle.line_model.specs.Polled.{one_failed, one_wanting}
use Rattle.line_model.specs.Faults.{datagrams_taken, flood, tries}
use Rattle.address_talk.specs.Rounds.{rounds, has_lost, GoesOnFrom}
use Rattle.address_talk.specs.Pace.{PacedUntil, Paced}
use Rattle.address_talk.specs.Talk.{Gives, HeardOut, TalksRightly}
use Rattle.line_model.specs.LinkStory.{Clock, Exact, newest_time}
use Rattle.tunnel_link.specs.Alone.{Each, EndsNone}
use Rattle.address_talk.specs.declared.assigned.Assigned.{Assigned}
use Rattle.address_talk.specs.declared.assigned.AssignFault.{AssignFault}
use Rattle.address_talk.specs.declared.assigned.AssignFault.TheVariants.{TunnelLost, LinkFailed, GatewayRefused, Flooded, NoMemory}

-- it talked rightly, the channel wasn't asked to end, and there is no cause yet to give it up
pub record Stands (wanted : IndAddr) (clock : Clock) (places : List Placed) : Type 0 where
  pub rightly : TalksRightly wanted places
  pub kept : has_lost (moments places) ≡ false
  pub few : datagrams_taken (entries places) < flood
  pub stays_open : StaysOpen (entries places)
  pub paced : clock ≡ Exact → Paced wanted places

-- ---- what came of it

-- of the places up to the answer, where the channel is open
pub record AnsweredBy (wanted : IndAddr) (assigned : Assigned) (clock : Clock) (talk : List Placed) : Type 0 where
  pub stands : Stands wanted clock talk
  pub place : HasPlace (channel (entries talk))
  pub heard_out : HeardOut wanted (rounds (moments talk)) (entries talk)
  pub gives : Gives wanted (rounds (moments talk)) assigned

-- and of those after it, in which no request is put
pub record Answered (wanted : IndAddr) (assigned : Assigned) (clock : Clock) (places : List Placed) : Type 0 where
  pub talk : List Placed
  pub answered : AnsweredBy wanted assigned clock talk
  pub closes : GoesOnFrom talk places
  pub rightly : TalksRightly wanted places
  pub keeps : clock ≡ Exact → KeepsPaces (entries places)

-- ---- the end of the channel

-- the first thing that was added asks to end the channel, and no other asks to end it while it is open
pub record EndsOnce (old added : List Placed) : Type 0 where
  pub later : List Placed
  pub request : Placed
  pub parts : added ≡ later ++ request ∷ []
  pub asks : asks_to_end request.what ≡ true
  pub once : Each EndsNone (request ∷ old) later

-- The response is awaited: until the channel was lost, as it is by the response, 10,000 ms passed or 64 datagrams came; and no longer, where the clock is
-- exact. Where it was lost, that was in the last poll.
abbrev pub datagrams_in : List Placed → ℕ
datagrams_in [] = 0
datagrams_in (p ∷ added) = if is_got p.what.what then suc (datagrams_in added) else datagrams_in added

pub record AwaitsResponse (clock : Clock) (old added : List Placed) : Type 0 where
  pub over : (has_lost (moments (added ++ old)) ≡ true) ⊎ ((newest_time (entries old) + answer_wait ≤ newest_time (entries (added ++ old))) ⊎ (datagrams_in added ≡ most_datagrams))
  pub in_time : clock ≡ Exact → newest_time (entries (added ++ old)) ≤ newest_time (entries old) + answer_wait
  pub few : datagrams_in added ≤ most_datagrams
  pub last : List Placed
  pub older : List Placed
  pub parts : added ≡ last ++ older
  pub kept : has_lost (moments (older ++ old)) ≡ false
  pub short : clock ≡ Exact → newest_time (entries (added ++ old)) ≤ newest_time (entries (older ++ old)) + longest_poll

-- after these places
pub record LeavesOn (clock : Clock) (old new : List Placed) : Type 0 where
  pub added : List Placed
  pub all : new ≡ added ++ old
  pub ends : EndsOnce old added
  pub awaits : AwaitsResponse clock old added

-- after the answer
pub record Leaves (wanted : IndAddr) (assigned : Assigned) (clock : Clock) (places : List Placed) : Type 0 where
  pub talk : List Placed
  pub answered : AnsweredBy wanted assigned clock talk
  pub leaves : LeavesOn clock talk places

-- ---- faults

abbrev pub FailsSo : AssignFault → List Placed → Type 0
FailsSo TunnelLost places = has_lost (moments places) ≡ true
FailsSo LinkFailed places = Unit {0}
FailsSo (GatewayRefused three) places = tries (entries places) ≡ reverse three
FailsSo Flooded places = datagrams_taken (entries places) ≡ flood
FailsSo (NoMemory want) places = Unit {0}

-- before there was an answer
pub record FailsRightly (wanted : IndAddr) (fault : AssignFault) (clock : Clock) (places : List Placed) : Type 0 where
  pub cause : FailsSo fault places
  pub rightly : TalksRightly wanted places
  pub stays_open : StaysOpen (entries places)
  pub paced : clock ≡ Exact → PacedUntil wanted places

-- after it, at the end of the channel: not for the loss of the channel, nor for a failing link, nor for a flood
abbrev pub ComesLate : AssignFault → Type 0
ComesLate TunnelLost = ⊥
ComesLate LinkFailed = ⊥
ComesLate (GatewayRefused three) = Unit {0}
ComesLate Flooded = ⊥
ComesLate (NoMemory want) = Unit {0}

pub record FailsLate (wanted : IndAddr) (fault : AssignFault) (clock : Clock) (places : List Placed) : Type 0 where
  pub cause : FailsSo fault places
  pub late : ComesLate fault
  pub assigned : Assigned
  pub answered : Answered wanted assigned clock places

abbrev pub EndsSo : IndAddr → Result Assigned AssignFault → Clock → List Placed → Type 0
EndsSo wanted (Ok assigned) clock places = Answered wanted assigned clock places
EndsSo wanted (Err fault) clock places = FailsRightly wanted fault clock places ⊎ FailsLate wanted fault clock places

-- refused connects are told of three tries
abbrev pub HasThreeTries : Result Assigned AssignFault → Type 0
HasThreeTries came = (three : List Try) → came ≡ Err (GatewayRefused three) → length three ≡ 3

-- ---- the counts of the link

-- after steps that ended with this fault: one of the link is its own, and there is no other
abbrev pub after_assign_fault : AssignFault → FaultCounts → FaultCounts
after_assign_fault TunnelLost counts = counts
after_assign_fault LinkFailed counts = one_failed counts
after_assign_fault (GatewayRefused three) counts = counts
after_assign_fault Flooded counts = counts
after_assign_fault (NoMemory want) counts = one_wanting counts

abbrev pub after_step : {X : Type 0} → Result X AssignFault → FaultCounts → FaultCounts
after_step (Ok x) counts = counts
after_step (Err fault) counts = after_assign_fault fault counts
