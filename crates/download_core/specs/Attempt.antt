-- What the downloader of a job knows (ISO/IEC 14543-3-2, transport layer): of each attempt the client's end of its connection, what is left of
-- its plan, what is owed to the device, what isn't confirmed, and what it comes to.
--
--  +---------+ T_Connect put  +---------+     a wrong T_ACK    +---------+ T_Disconnect put  +---------+
--  | Resting | -------------> | Running | -------------------> | Closing | ----------------> | Leaving |
--  +---------+       +------> +---------+                      +---------+       +---------> +---------+
--                    |          |    |                              |            |                |
--                    |          |    +------------------------------|------------+                | it is confirmed, or
--                    |          |    done, refused, silent: T_Disconnect put                      | the channel is lost
--                    |          |                                   |                             v
--                    |          |                                   | the channel is lost      +-------+
--                    |          +-----------------------------------+------------------------> | Ended | -> told
--                    |             T_Disconnect of the device, the channel is lost, no connect +-------+
--                    +--------------------------------------------------------------------------+  fewer than three failed
use Rattle.std.specs.Prelude.{ℕ, ◌+◌, Bool, true, false, nat_le, bytes_eq, List, [], ◌∷◌, ◌++◌, length, Option, Some, None, if◌then◌else◌}
use Rattle.knx_model.specs.declared.address.IndAddr.{IndAddr}
use Rattle.knx_model.specs.declared.log.Sign.{Sign}
use Rattle.knx_model.specs.declared.plan.Expect.{Expect}
use Rattle.knx_model.specs.declared.plan.Expect.TheVariants.{AckOnly, Is, Note}
use Rattle.knx_model.specs.Apdu.{most_octets}
use Rattle.knx_model.specs.ClientConnection.{ClientEnd, Asked, awaits_nothing}
use Rattle.knx_model.specs.Plans.{Plan, Over, Asks, is_fitting}
use Rattle.download_core.specs.declared.flight.Flight.{Flight}
use Rattle.download_core.specs.declared.flight.Flight.TheVariants.{Frame}
use Rattle.download_core.specs.declared.outcome.Refusal.{Refusal}
use Rattle.download_core.specs.declared.outcome.Outcome.{Outcome}
use Rattle.download_core.specs.declared.outcome.Outcome.TheVariants.{Failed, Done, Refused}
use Rattle.download_core.specs.declared.signs.Signs.{Signs}
use Rattle.download_core.specs.declared.signs.Signs.TheVariants.{Zero, One, Two}

-- from the next operation on, or from the operation on whose answer is awaited
pub data Standing : Type 0 where
  Next : Plan → Standing
  AnswerOf : Plan → Standing

pub record Attempt : Type 0 where
  pub conn : ClientEnd
  pub standing : Standing
  pub sent : ℕ  -- how many operations were sent
  pub last : ℕ  -- the number of the one sent last, 0 where none was
  pub owed : List ℕ  -- the T_ACKs and T_NAKs that are owed, each of one octet, the oldest first
  pub flight : Flight
  pub wrong : Option Refusal  -- the first answer that wasn't the expected one

pub data Phase : Type 0 where
  Resting : Phase  -- no attempt began
  Running : Attempt → Phase
  Closing : Flight → Outcome → Phase  -- a wrong T_ACK closed the connection, and T_Disconnect is to be put
  Leaving : Outcome → Phase  -- T_Disconnect isn't confirmed
  Ended : Outcome → Phase  -- the last attempt has ended

pub record DownloaderState : Type 0 where
  pub device : IndAddr
  pub plan : Plan
  pub signs : Signs  -- of the attempts before the last one
  pub phase : Phase

-- ---- an attempt begins

abbrev pub first_attempt : IndAddr → Plan → Attempt
first_attempt device plan = record { conn = Asked device; standing = Next plan; sent = 0; last = 0; owed = []; flight = Frame; wrong = None }

abbrev pub with_sign : Signs → Sign → Signs
with_sign Zero s = One s
with_sign (One a) s = Two a s
with_sign (Two a b) s = Two a b

-- ---- what is owed

-- beyond 64 none is kept
abbrev pub with_reply : List ℕ → List ℕ → List ℕ
with_reply owed reply = if nat_le (length owed + length reply) most_octets then owed ++ reply else owed

abbrev pub first_owed : List ℕ → Option (List ℕ)
first_owed [] = None
first_owed (x ∷ rest) = Some (x ∷ [])

-- ---- answers

-- these octets are the answer that an operation expects
abbrev pub suits_expect : List ℕ → Expect → List ℕ → Bool
suits_expect apdu AckOnly got = false
suits_expect apdu (Is wanted) got = bytes_eq got wanted
suits_expect apdu Note got = is_fitting apdu got

abbrev pub wanted_of : Expect → List ℕ
wanted_of AckOnly = []
wanted_of (Is wanted) = wanted
wanted_of Note = []

abbrev pub refusal : ℕ → List ℕ → List ℕ → Refusal
refusal last got expected = record { op = last; got = got; expected = expected }

-- the first wrong answer stays
abbrev pub or_else : Option Refusal → Refusal → Option Refusal
or_else None r = Some r
or_else (Some first) r = Some first

abbrev pub gone_wrong : Attempt → List ℕ → List ℕ → Attempt
gone_wrong a got expected = record a { wrong = or_else a.wrong (refusal a.last got expected) }

-- the awaited answer goes on in the plan where it is the expected one; every other answer is wrong
abbrev pub answered_at : Attempt → Standing → List ℕ → Attempt
answered_at a (Next plan) got = gone_wrong a got []
answered_at a (AnswerOf Over) got = gone_wrong a got []
answered_at a (AnswerOf (Asks place apdu expect next)) got =
    if suits_expect apdu expect got then record a { standing = Next (next (Some got)) } else gone_wrong a got (wanted_of expect)

abbrev pub answered : Attempt → List ℕ → Attempt
answered a got = answered_at a a.standing got

-- ---- what an attempt comes to where this ends it: its result where nothing is awaited any longer, and else the sign

abbrev pub is_over : Standing → Bool
is_over (Next Over) = true
is_over (Next (Asks place apdu expect next)) = false
is_over (AnswerOf plan) = false

abbrev pub result_or : Option Refusal → Bool → Sign → Outcome
result_or (Some wrong) over sign = Refused wrong
result_or None over sign = if over then Done else Failed sign

abbrev pub comes_to : Attempt → Sign → Outcome
comes_to a sign = if awaits_nothing a.conn then result_or a.wrong (is_over a.standing) sign else Failed sign
