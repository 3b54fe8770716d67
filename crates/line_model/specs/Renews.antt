-- How the client keeps its channel, by the record alone (ISO 22510, Core and Tunnelling): a connect request is sent only directly after a new
-- endpoint was taken; each request of the gateway is acknowledged at once; and while there is something to do, a deadline of the channel that
-- is reached is acted on before the second poll after it.
use Rattle.std.specs.Prelude.{◌≡◌, ℕ, ◌<◌, Bool, true, false, ◌&&◌, ◌||◌, ◌==◌, List, [], ◌∷◌, length, if◌then◌else◌, Option, Some, None}
use Rattle.std.specs.List.{list_any}
use Rattle.knx_model.specs.declared.frames.ip.IpFrame.{IpFrame}
use Rattle.knx_model.specs.declared.frames.ip.IpFrame.TheVariants.{TunnellingAck}
use Rattle.knx_model.specs.Connection.{has_passed}
use Rattle.line_model.specs.Gateway.{next_number, acknowledgement_wait}
use Rattle.line_model.specs.Reading.{is_connect_request, RequestFrame, request_in}
use Rattle.line_model.specs.Record.{Entry, put_in, got_in, is_renewal, is_poll}
use Rattle.line_model.specs.ChannelLost.{heartbeat_pause, expected, own, is_beat}
use Rattle.line_model.specs.ClientView.{ClientChannel, Fresh, Sought, RefusedBy, Unanswered, Open, Lost, channel}
use Rattle.line_model.specs.Faults.{tries}

-- ---- a new endpoint: after the first one only where the channel was lost, or the last try got a status other than 0, or 10,000 ms passed
-- without a response

abbrev pub is_just_renewed : List Entry → Bool
is_just_renewed [] = false
is_just_renewed (x ∷ r) = is_renewal x.what

abbrev pub has_renewed : List Entry → Bool
has_renewed r = list_any (λ (x : Entry). is_renewal x.what) r

abbrev pub MayLeave : ClientChannel → Type 0
MayLeave Fresh = ⊥
MayLeave (Sought since) = ⊥
MayLeave (RefusedBy status) = Unit {0}
MayLeave Unanswered = Unit {0}
MayLeave (Open c l) = ⊥
MayLeave (Lost c) = Unit {0}

-- and not after three failed tries in turn
pub record RenewsSo (r : List Entry) (x : Entry) : Type 0 where
  pub connects : is_connect_request (put_in x.what) ≡ true → is_just_renewed r ≡ true
  pub leaves : is_renewal x.what ≡ true → has_renewed r ≡ true → MayLeave (channel r)
  pub tries_left : is_renewal x.what ≡ true → length (tries r) < 3

abbrev pub RenewsRightly : List Entry → Type 0
RenewsRightly [] = Unit {0}
RenewsRightly (x ∷ r) = RenewsSo r x × RenewsRightly r

-- ---- an acknowledgement: after a request was got with the expected number, or the one before, the next entry sends it

abbrev pub is_acknowledged : ℕ → List Entry → RequestFrame → Bool
is_acknowledged c l request = (request.channel == c) && ((request.number == expected c l) || (next_number request.number == expected c l))

abbrev pub calls_for : ℕ → List Entry → Option RequestFrame → Option IpFrame
calls_for c l None = None
calls_for c l (Some request) = if is_acknowledged c l request then Some (TunnellingAck request.channel request.number 0) else None

-- what the newest entry calls for, where its channel stays open
abbrev pub owed_in : ClientChannel → Entry → ClientChannel → Option IpFrame
owed_in (Open c l) x (Open d more) = calls_for c l (request_in (got_in x.what))
owed_in _ x _ = None

abbrev pub owed : List Entry → Option IpFrame
owed [] = None
owed (x ∷ r) = owed_in (channel r) x (channel (x ∷ r))

abbrev pub IsOwed : Option IpFrame → Entry → Type 0
IsOwed None x = Unit {0}
IsOwed (Some frame) x = put_in x.what ≡ Some frame

abbrev pub AcknowledgesRightly : List Entry → Type 0
AcknowledgesRightly [] = Unit {0}
AcknowledgesRightly (x ∷ r) = IsOwed (owed r) x × AcknowledgesRightly r

-- ---- a deadline: an unacknowledged request is to be sent again, a heartbeat is to be sent, or a channel is to be sought

abbrev pub is_repeat_due : List ℕ → ℕ → Bool
is_repeat_due (t ∷ []) now = has_passed acknowledgement_wait t now
is_repeat_due _ now = false

-- when the last heartbeat was sent or, before the first, the channel came up
abbrev pub last_beat : ℕ → List Entry → ℕ
last_beat c [] = 0
last_beat c (x ∷ []) = x.now
last_beat c (x ∷ y ∷ l) = if is_beat c x then x.now else last_beat c (y ∷ l)

abbrev pub is_beat_due : ℕ → List Entry → ℕ → Bool
is_beat_due c l now = has_passed heartbeat_pause (last_beat c l) now

-- no channel was sought yet, the last try failed, or the channel was lost: a new endpoint is to be taken, and a connect request to be sent
abbrev pub is_left : ClientChannel → Bool
is_left Fresh = true
is_left (Sought since) = false
is_left (RefusedBy status) = true
is_left Unanswered = true
is_left (Open c l) = false
is_left (Lost c) = true

-- by the time
abbrev pub is_late : ClientChannel → ℕ → Bool
is_late (Open c l) now = is_repeat_due (own c l).sent now || is_beat_due c l now
is_late _ now = false

-- ---- promptly: at a poll nothing is due that was due already at the end of the poll before the last

-- the record up to the last poll, and up to the poll before that
abbrev pub to_last_poll : List Entry → List Entry
to_last_poll [] = []
to_last_poll (x ∷ r) = if is_poll x.what then x ∷ r else to_last_poll r

abbrev pub to_poll_before : List Entry → List Entry
to_poll_before [] = []
to_poll_before (x ∷ r) = if is_poll x.what then to_last_poll r else to_poll_before r

abbrev pub is_overdue : ClientChannel → List Entry → Bool
is_overdue ch [] = false
is_overdue ch (x ∷ old) = (is_left ch && is_left (channel (x ∷ old))) || is_late ch x.now

abbrev pub PollsPromptly : List Entry → Entry → Type 0
PollsPromptly r x = is_poll x.what ≡ true → is_overdue (channel r) (to_poll_before r) ≡ false
