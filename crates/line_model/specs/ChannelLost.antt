-- The five ways in which the client's channel is lost, as the record shows them (ISO 22510, Core and Tunnelling): a disconnect request for it
-- was got; an awaited state response with a status other than 0 was got; a request was sent twice, 1,000 ms passed after each, and no
-- acknowledgement with status 0 was got; 3,000 ms passed after a request's acknowledgement without its confirmation; three heartbeats in
-- turn had 10,000 ms each without answer. The response to a disconnect request of the client ends it too. That a missing confirmation, and a
-- state response with another status, lose it, and that a heartbeat without answer isn't repeated at once but with the next pause of 60,000 ms,
-- is this project's own. A channel is read from its own entries alone, from its connect response
-- on, the newest first; the time of an entry counts before what was got in it.
use Rattle.std.specs.Prelude.{ℕ, List, [], ◌∷◌, Bool, true, false, not, ◌&&◌, ◌||◌, ◌==◌, bytes_eq, if◌then◌else◌, Option, Some, None}
use Rattle.std.specs.Bool.{beq}
use Rattle.knx_model.specs.declared.frames.cemi.Ldata.{Ldata}
use Rattle.knx_model.specs.declared.frames.ip.IpFrame.{IpFrame}
use Rattle.knx_model.specs.Connection.{has_passed}
use Rattle.line_model.specs.Gateway.{next_number, acknowledgement_wait}
use Rattle.line_model.specs.Reading.{ldata_in, is_con, RequestFrame, request_in, AckFrame, ack_in, StateFrame, state_request_in, state_response_in, disconnect_request_in, disconnect_response_in}
use Rattle.line_model.specs.Record.{Entry, put_in, got_in, is_poll}

-- ---- waits, in milliseconds

abbrev pub confirmation_wait : ℕ
confirmation_wait = 3000

abbrev pub answer_wait : ℕ
answer_wait = 10000

abbrev pub heartbeat_pause : ℕ
heartbeat_pause = 60000

-- ---- requests of the gateway: how many were delivered, modulo 256, which is the number of the next one

abbrev pub delivers : ℕ → ℕ → Option RequestFrame → Bool
delivers c expected None = false
delivers c expected (Some request) = (request.channel == c) && (request.number == expected)

abbrev pub expected : ℕ → List Entry → ℕ
expected c [] = 0
expected c (x ∷ l) = if delivers c (expected c l) (request_in (got_in x.what)) then next_number (expected c l) else expected c l

-- ---- requests of the client: the number of the one that isn't acknowledged, or else of the next one; and when it was sent, the newest
-- sending first

pub record Own : Type 0 where
  pub number : ℕ
  pub sent : List ℕ

abbrev pub is_none : List ℕ → Bool
is_none [] = true
is_none (t ∷ ts) = false

abbrev pub is_request : ℕ → Option RequestFrame → Bool
is_request c None = false
is_request c (Some request) = request.channel == c

abbrev pub acknowledges : ℕ → Own → Option AckFrame → Bool
acknowledges c o None = false
acknowledges c o (Some ack) = ((ack.channel == c) && (ack.number == o.number)) && ((ack.status == 0) && not (is_none o.sent))

abbrev pub own_after : ℕ → Own → Entry → Own
own_after c o x =
    if is_request c (request_in (put_in x.what)) then record o { sent = x.now ∷ o.sent }
    else (if acknowledges c o (ack_in (got_in x.what)) then record { number = next_number o.number; sent = [] } else o)

abbrev pub own : ℕ → List Entry → Own
own c [] = record { number = 0; sent = [] }
own c (x ∷ l) = own_after c (own c l) x

-- the request in this entry was sent for the first time
abbrev pub is_new_request : ℕ → List Entry → Entry → Bool
is_new_request c l x = is_request c (request_in (put_in x.what)) && is_none (own c l).sent

-- when the request put last was acknowledged
abbrev pub acknowledged : ℕ → List Entry → Option ℕ
acknowledged c [] = None
acknowledged c (x ∷ l) =
    if is_new_request c l x then None
    else (if acknowledges c (own c l) (ack_in (got_in x.what)) then Some x.now else acknowledged c l)

-- the frame of the link layer in it
abbrev pub frame_in_request : Option RequestFrame → Option Ldata
frame_in_request None = None
frame_in_request (Some request) = ldata_in request.cemi

abbrev pub last_frame : ℕ → List Entry → Option Ldata
last_frame c [] = None
last_frame c (x ∷ l) = if is_new_request c l x then frame_in_request (request_in (put_in x.what)) else last_frame c l

abbrev pub is_confirmation : Option Ldata → Bool
is_confirmation None = false
is_confirmation (Some frame) = is_con frame.code

-- a confirmation is that of a frame with its destination, of its kind, and its TPDU
abbrev pub is_alike : Ldata → Ldata → Bool
is_alike frame con = (beq con.group frame.group && (con.destination == frame.destination)) && bytes_eq con.tpdu frame.tpdu

abbrev pub is_confirmation_of : Option Ldata → Option Ldata → Bool
is_confirmation_of None con = false
is_confirmation_of (Some frame) None = false
is_confirmation_of (Some frame) (Some con) = is_con con.code && is_alike frame con

abbrev pub confirms : ℕ → ℕ → Option Ldata → Option RequestFrame → Bool
confirms c expected last None = false
confirms c expected last (Some request) = delivers c expected (Some request) && is_confirmation_of last (ldata_in request.cemi)

-- whether its confirmation was delivered since it was put
abbrev pub confirmed : ℕ → List Entry → Bool
confirmed c [] = true
confirmed c (x ∷ l) =
    if is_new_request c l x then false
    else (if confirms c (expected c l) (last_frame c l) (request_in (got_in x.what)) then true else confirmed c l)

-- ---- heartbeats: when those were sent that came since the last answer to one, the newest first; an answer comes within 10,000 ms

abbrev pub is_for : ℕ → Option ℕ → Bool
is_for c None = false
is_for c (Some channel) = channel == c

abbrev pub is_beat : ℕ → Entry → Bool
is_beat c x = is_for c (state_request_in (put_in x.what))

abbrev pub is_awaited : List ℕ → ℕ → Bool
is_awaited [] now = false
is_awaited (t ∷ ts) now = not (has_passed answer_wait t now)

abbrev pub answers_beat : ℕ → List ℕ → ℕ → Option StateFrame → Bool
answers_beat c beats now None = false
answers_beat c beats now (Some response) = (response.channel == c) && is_awaited beats now

abbrev pub beats : ℕ → List Entry → List ℕ
beats c [] = []
beats c (x ∷ l) =
    if is_beat c x then x.now ∷ beats c l
    else (if answers_beat c (beats c l) x.now (state_response_in (got_in x.what)) then [] else beats c l)

-- ---- the client asked to end the channel

abbrev pub has_left : ℕ → List Entry → Bool
has_left c [] = false
has_left c (x ∷ l) = is_for c (disconnect_request_in (put_in x.what)) || has_left c l

-- ---- lost by the time alone

abbrev pub is_given_up : List ℕ → ℕ → Bool
is_given_up (second ∷ first ∷ older) now = has_passed acknowledgement_wait first second && has_passed acknowledgement_wait second now
is_given_up _ now = false

abbrev pub is_unconfirmed : Option ℕ → Bool → ℕ → Bool
is_unconfirmed (Some since) false now = has_passed confirmation_wait since now
is_unconfirmed _ _ now = false

abbrev pub is_dead : List ℕ → ℕ → Bool
is_dead (third ∷ second ∷ first ∷ older) now = (has_passed answer_wait first second && has_passed answer_wait second third) && has_passed answer_wait third now
is_dead _ now = false

abbrev pub has_lapsed : ℕ → List Entry → ℕ → Bool
has_lapsed c l now = is_given_up (own c l).sent now || is_unconfirmed (acknowledged c l) (confirmed c l) now || is_dead (beats c l) now

-- ---- lost by what was got

abbrev pub tells_bad : ℕ → List ℕ → ℕ → Option StateFrame → Bool
tells_bad c beats now None = false
tells_bad c beats now (Some response) = answers_beat c beats now (Some response) && not (response.status == 0)

abbrev pub is_ended_by : ℕ → List Entry → ℕ → Option IpFrame → Bool
is_ended_by c l now frame =
    is_for c (disconnect_request_in frame) || tells_bad c (beats c l) now (state_response_in frame) || (has_left c l && is_for c (disconnect_response_in frame))

-- the channel c, whose entries so far are l, is lost at the entry x
abbrev pub is_lost : ℕ → List Entry → Entry → Bool
is_lost c l x = is_poll x.what && (has_lapsed c l x.now || is_ended_by c l x.now (got_in x.what))
