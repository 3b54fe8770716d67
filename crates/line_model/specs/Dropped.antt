-- Which of the datagrams that the client got are dropped and counted (this project's own): one that doesn't read; a connect request or a
-- connection state request; one, connect responses aside, of a channel that isn't the open one; a response that isn't awaited; an
-- acknowledgement that isn't of the outstanding number or has a status other than 0; a request with a number that is neither expected nor
-- the one before; and a request acted on whose cEMI frame doesn't read. All others are not.
use Rattle.std.specs.Prelude.{ℕ, suc, List, [], ◌∷◌, Bool, true, not, ◌&&◌, ◌||◌, ◌==◌, is_none, if◌then◌else◌, Option, Some, None}
use Rattle.knx_model.specs.declared.frames.ip.IpFrame.{IpFrame}
use Rattle.knx_model.specs.declared.frames.ip.IpFrame.TheVariants.{ConnectRequest, ConnectResponse, StateRequest, StateResponse, DisconnectRequest, DisconnectResponse, TunnellingRequest, TunnellingAck}
use Rattle.knx_model.specs.Connection.{has_passed}
use Rattle.line_model.specs.Gateway.{next_number}
use Rattle.line_model.specs.Reading.{ldata_in}
use Rattle.line_model.specs.Record.{Entry, got_in, is_got}
use Rattle.line_model.specs.ChannelLost.{answer_wait, expected, own, acknowledges, answers_beat, beats, has_left, has_lapsed}
use Rattle.line_model.specs.ClientView.{ClientChannel, Fresh, Sought, RefusedBy, Unanswered, Open, Lost, channel}

-- a request of the open channel
abbrev pub drops_request : ℕ → ℕ → List ℕ → Bool
drops_request expected number frame = if number == expected then is_none (ldata_in frame) else not (next_number number == expected)

-- in the open channel c, whose entries so far are l
abbrev pub drops_in : ℕ → List Entry → ℕ → IpFrame → Bool
drops_in c l now ConnectRequest = true
drops_in c l now (ConnectResponse channel status tunnel) = true
drops_in c l now (StateRequest channel) = true
drops_in c l now (StateResponse channel status) = not (answers_beat c (beats c l) now (Some (record { channel = channel; status = status })))
drops_in c l now (DisconnectRequest channel) = not (channel == c)
drops_in c l now (DisconnectResponse channel status) = not ((channel == c) && has_left c l)
drops_in c l now (TunnellingRequest channel number frame) = not (channel == c) || drops_request (expected c l) number frame
drops_in c l now (TunnellingAck channel number status) = not (acknowledges c (own c l) (Some (record { channel = channel; number = number; status = status })))

-- where no channel is open, all but an awaited connect response
abbrev pub drops_sought : ℕ → ℕ → IpFrame → Bool
drops_sought since now (ConnectResponse channel status tunnel) = has_passed answer_wait since now
drops_sought since now _ = true

-- a datagram that was got when this had come of the present endpoint; the time counts before it
abbrev pub drops_frame : ClientChannel → ℕ → IpFrame → Bool
drops_frame Fresh now frame = true
drops_frame (Sought since) now frame = drops_sought since now frame
drops_frame (RefusedBy status) now frame = true
drops_frame Unanswered now frame = true
drops_frame (Open c l) now frame = has_lapsed c l now || drops_in c l now frame
drops_frame (Lost c) now frame = true

abbrev pub drops : ClientChannel → ℕ → Option IpFrame → Bool
drops ch now None = true
drops ch now (Some frame) = drops_frame ch now frame

abbrev pub is_dropped : List Entry → Entry → Bool
is_dropped r x = is_got x.what && drops (channel r) x.now (got_in x.what)

-- how many
abbrev pub dropped : List Entry → ℕ
dropped [] = 0
dropped (x ∷ r) = if is_dropped r x then suc (dropped r) else dropped r
