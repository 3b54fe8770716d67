-- A frame of the gateway that came in time: what is known then is what the record says, and what is sent may be sent.
use Rattle.std.proofs.Common.{◌≡◌, ℕ, List, Bool, true, false, Option, Some, None, refl}
use Rattle.std.specs.Prelude.{◌||◌, option_map}
use Rattle.std.proofs.lemmas.Bool.{or_parts}
use Rattle.knx_model.specs.declared.frames.ip.IpFrame.{IpFrame}
use Rattle.knx_model.specs.declared.frames.ip.IpFrame.TheVariants.{ConnectRequest, ConnectResponse, StateRequest, StateResponse, DisconnectRequest, DisconnectResponse, TunnellingRequest, TunnellingAck}
use Rattle.knx_model.specs.KnxNetIp.{Written}
use Rattle.line_model.specs.Record.{Entry}
use Rattle.line_model.specs.ClientView as seen
use Rattle.line_model.specs.ClientView.{ClientChannel}
use Rattle.line_model.specs.Renews.{owed_in}
use Rattle.line_model.specs.ClientEnd.{ClientEnd, Idle, Seeking, Open, Leaving, JustLost, OpenEnd, with_channel, is_over, is_given_up, is_dead, lost}
use Rattle.line_model.specs.ClientFrames.{acknowledged, answered, channel_given, gone}
use Rattle.tunnel_channel.specs.Follows.{Ends, change}
use Rattle.tunnel_link.specs.Rights.{FitsNow}
use Rattle.tunnel_link.proofs.Steps.{IsOpenAt}

-- ---- the end after it: the time has still ended nothing

abbrev pub NotLost : ClientEnd → Type 0
NotLost Idle = Unit {0}
NotLost (Seeking since) = Unit {0}
NotLost (Open e) = Unit {0}
NotLost (Leaving e) = Unit {0}
NotLost (JustLost c) = ⊥

pub fits_not_lost : (end : ClientEnd) (ch : ClientChannel) → FitsNow end ch → NotLost end
fits_not_lost Idle ch f = tt
fits_not_lost (Seeking since) ch f = tt
fits_not_lost (Open e) ch f = tt
fits_not_lost (Leaving e) ch f = tt
fits_not_lost (JustLost c) ch f = f

pub record IsIn (end : ClientEnd) (now : ℕ) : Type 0 where
  pub over : is_over end now ≡ false
  pub up : NotLost end

or_false : (a : Bool) → a ≡ false → (a || false) ≡ false
or_false true h = h
or_false false h = refl

with_in : (g : OpenEnd → OpenEnd) (now : ℕ) → ((e : OpenEnd) → is_over (Open e) now ≡ false → is_over (Open (g e)) now ≡ false) → (end : ClientEnd) → IsIn end now → IsIn (with_channel g end) now
with_in g now h Idle i = i
with_in g now h (Seeking since) i = i
with_in g now h (Open e) i = record { over = h e i.over; up = tt }
with_in g now h (Leaving e) i = record { over = h e i.over; up = tt }
with_in g now h (JustLost c) i = i

pub given_in : (frame : IpFrame) (now : ℕ) → IsIn (channel_given frame now) now
given_in ConnectRequest now = record { over = refl; up = tt }
given_in (ConnectResponse ch status tunnel) now = record { over = refl; up = tt }
given_in (StateRequest ch) now = record { over = refl; up = tt }
given_in (StateResponse ch status) now = record { over = refl; up = tt }
given_in (DisconnectRequest ch) now = record { over = refl; up = tt }
given_in (DisconnectResponse ch status) now = record { over = refl; up = tt }
given_in (TunnellingRequest ch number cemi) now = record { over = refl; up = tt }
given_in (TunnellingAck ch number status) now = record { over = refl; up = tt }

pub acked_in : (now : ℕ) (end : ClientEnd) → IsIn end now → IsIn (with_channel acknowledged end) now
acked_in now end i = with_in acknowledged now (λ e h. (or_parts (is_given_up e.request now) (is_dead e now) h).1) end i

pub alive_in : (now : ℕ) (end : ClientEnd) → IsIn end now → IsIn (with_channel answered end) now
alive_in now end i = with_in answered now (λ e h. or_false (is_given_up e.request now) (or_parts (is_given_up e.request now) (is_dead e now) h).0) end i

-- an end without a channel that is open
abbrev pub IsDown : ClientEnd → Type 0
IsDown Idle = Unit {0}
IsDown (Seeking since) = Unit {0}
IsDown (Open e) = ⊥
IsDown (Leaving e) = ⊥
IsDown (JustLost c) = Unit {0}

lost_down : (end : ClientEnd) → IsDown (lost end)
lost_down Idle = tt
lost_down (Seeking since) = tt
lost_down (Open e) = tt
lost_down (Leaving e) = tt
lost_down (JustLost c) = tt

pub gone_down : (end : ClientEnd) (frame : IpFrame) → IsDown (gone end frame)
gone_down end ConnectRequest = lost_down end
gone_down end (ConnectResponse ch status tunnel) = lost_down end
gone_down end (StateRequest ch) = lost_down end
gone_down end (StateResponse ch status) = lost_down end
gone_down end (DisconnectRequest ch) = lost_down end
gone_down end (DisconnectResponse ch status) = tt
gone_down end (TunnellingRequest ch number cemi) = lost_down end
gone_down end (TunnellingAck ch number status) = lost_down end

-- ---- small facts

pub paid_by : (o : Option IpFrame) → option_map Written o ≡ None → o ≡ None
paid_by None h = refl
paid_by (Some frame) h = absurd (cc)

pub owed_open : (ch : ClientChannel) (x : Entry) (after : ClientChannel) (ack : List ℕ) → option_map Written (owed_in ch x after) ≡ Some ack → IsOpenAt after
owed_open seen.Fresh x after ack h = absurd (cc)
owed_open (seen.Sought since) x after ack h = absurd (cc)
owed_open (seen.RefusedBy status) x after ack h = absurd (cc)
owed_open seen.Unanswered x after ack h = absurd (cc)
owed_open (seen.Open c l) x seen.Fresh ack h = absurd (cc)
owed_open (seen.Open c l) x (seen.Sought since) ack h = absurd (cc)
owed_open (seen.Open c l) x (seen.RefusedBy status) ack h = absurd (cc)
owed_open (seen.Open c l) x seen.Unanswered ack h = absurd (cc)
owed_open (seen.Open c l) x (seen.Open d m) ack h = record { c = d; l = m; is = refl }
owed_open (seen.Open c l) x (seen.Lost d) ack h = absurd (cc)
owed_open (seen.Lost c) x after ack h = absurd (cc)

pub record IsLostAt (after : ClientChannel) : Type 0 where
  pub c : ℕ
  pub is : after ≡ seen.Lost c

open_lost : (c : ℕ) (l : List Entry) (after : ClientChannel) → change (seen.Open c l) after ≡ Ends → IsLostAt after
open_lost c l seen.Fresh h = absurd (cc)
open_lost c l (seen.Sought t) h = absurd (cc)
open_lost c l (seen.RefusedBy status) h = absurd (cc)
open_lost c l seen.Unanswered h = absurd (cc)
open_lost c l (seen.Open d m) h = absurd (cc)
open_lost c l (seen.Lost d) h = record { c = d; is = refl }

sought_lost : (since : ℕ) (after : ClientChannel) → change (seen.Sought since) after ≡ Ends → IsLostAt after
sought_lost since seen.Fresh h = absurd (cc)
sought_lost since (seen.Sought t) h = absurd (cc)
sought_lost since (seen.RefusedBy status) h = absurd (cc)
sought_lost since seen.Unanswered h = absurd (cc)
sought_lost since (seen.Open c l) h = absurd (cc)
sought_lost since (seen.Lost c) h = absurd (cc)

pub lost_by : (ch after : ClientChannel) → change ch after ≡ Ends → IsLostAt after
lost_by seen.Fresh after h = absurd (cc)
lost_by (seen.Sought since) after h = sought_lost since after h
lost_by (seen.RefusedBy status) after h = absurd (cc)
lost_by seen.Unanswered after h = absurd (cc)
lost_by (seen.Open c l) after h = open_lost c l after h
lost_by (seen.Lost c) after h = absurd (cc)
