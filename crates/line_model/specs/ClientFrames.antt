-- What the client's end of a tunnel answers to a frame of the gateway, and what it knows then (ISO 22510, Core and Tunnelling). A frame that is
-- got when the time alone has ended the channel, or the wait for one, acts on nothing.
use Rattle.std.specs.Prelude.{◌≡◌, ℕ, Bool, not, is_some, ◌&&◌, ◌==◌, List, Some, None, if◌then◌else◌}
use Rattle.knx_model.specs.declared.frames.ip.IpFrame.{IpFrame}
use Rattle.knx_model.specs.declared.frames.ip.IpFrame.TheVariants.{ConnectRequest, ConnectResponse, StateRequest, StateResponse, DisconnectRequest, DisconnectResponse, TunnellingRequest, TunnellingAck}
use Rattle.knx_model.specs.KnxNetIp.{Written}
use Rattle.knx_model.specs.Connection.{has_passed}
use Rattle.line_model.specs.declared.client_end.ChannelTook.{ChannelTook}
use Rattle.line_model.specs.declared.client_end.ChannelTook.TheVariants as took
use Rattle.line_model.specs.Gateway.{next_number}
use Rattle.line_model.specs.Reading.{disconnect_response_in}
use Rattle.line_model.specs.ChannelLost.{answer_wait, is_for}
use Rattle.line_model.specs.ClientEnd.{Free, OpenEnd, ClientEnd, Idle, Seeking, Open, Leaving, JustLost, new_channel, with_channel, lost, is_free, is_over}

-- ---- what it answers

-- a connect response has a tunnel's address exactly where its status is 0
abbrev pub HasTunnelIfUp : IpFrame → Type 0
HasTunnelIfUp (ConnectResponse channel status tunnel) = is_some tunnel ≡ (status == 0)
HasTunnelIfUp _ = Unit {0}

-- while a channel is sought
abbrev pub seeking_took : IpFrame → ChannelTook
seeking_took (ConnectResponse channel status (Some tunnel)) = took.Up tunnel
seeking_took (ConnectResponse channel status None) = took.RefusedBy status
seeking_took _ = took.Dropped

-- the answer to a heartbeat comes within 10,000 ms
abbrev pub is_awaited : OpenEnd → ℕ → Bool
is_awaited e now = not (e.unanswered == 0) && not (has_passed answer_wait e.beat now)

abbrev pub state_took : OpenEnd → ℕ → ℕ → ℕ → ChannelTook
state_took e channel status now =
    if (channel == e.channel) && is_awaited e now then (if status == 0 then took.Alive else took.Gone None) else took.Dropped

abbrev pub acknowledgement : ℕ → ℕ → List ℕ
acknowledgement channel number = Written (TunnellingAck channel number 0)

-- the expected number is given and acknowledged, the number before is acknowledged, another is dropped
abbrev pub by_number : OpenEnd → ℕ → ChannelTook → ChannelTook → ChannelTook
by_number e number expected before =
    if number == e.expected then expected else (if next_number number == e.expected then before else took.Dropped)

abbrev pub request_took : OpenEnd → ℕ → ℕ → List ℕ → ChannelTook
request_took e channel number cemi =
    if channel == e.channel
    then by_number e number (took.Cemi cemi (acknowledgement channel number)) (took.Again (acknowledgement channel number))
    else took.Dropped

abbrev pub is_acknowledged : OpenEnd → ℕ → ℕ → ℕ → Bool
is_acknowledged e channel number status = ((channel == e.channel) && (number == e.number)) && ((status == 0) && not (is_free e.request))

-- in an open channel
abbrev pub open_took : OpenEnd → ℕ → IpFrame → ChannelTook
open_took e now ConnectRequest = took.Dropped
open_took e now (ConnectResponse channel status tunnel) = took.Dropped
open_took e now (StateRequest channel) = took.Dropped
open_took e now (StateResponse channel status) = state_took e channel status now
open_took e now (DisconnectRequest channel) = if channel == e.channel then took.Gone (Some (Written (DisconnectResponse channel 0))) else took.Dropped
open_took e now (DisconnectResponse channel status) = took.Dropped
open_took e now (TunnellingRequest channel number cemi) = request_took e channel number cemi
open_took e now (TunnellingAck channel number status) = if is_acknowledged e channel number status then took.Acked else took.Dropped

-- the same, and its disconnect response is awaited
abbrev pub leaving_took : OpenEnd → ℕ → IpFrame → ChannelTook
leaving_took e now frame = if is_for e.channel (disconnect_response_in (Some frame)) then took.Gone None else open_took e now frame

abbrev pub took_in_time : ClientEnd → IpFrame → ℕ → ChannelTook
took_in_time Idle frame now = took.Dropped
took_in_time (Seeking since) frame now = seeking_took frame
took_in_time (Open e) frame now = open_took e now frame
took_in_time (Leaving e) frame now = leaving_took e now frame
took_in_time (JustLost channel) frame now = took.Dropped

-- what it answers to a frame
unfoldable pub channel_took : ClientEnd → IpFrame → ℕ → ChannelTook
channel_took end frame now = if is_over end now then took.Dropped else took_in_time end frame now

-- ---- what it knows then

abbrev pub acknowledged : OpenEnd → OpenEnd
acknowledged e = record e { number = next_number e.number; request = Free }

abbrev pub delivered : OpenEnd → OpenEnd
delivered e = record e { expected = next_number e.expected }

abbrev pub answered : OpenEnd → OpenEnd
answered e = record e { unanswered = 0 }

-- the channel that a connect response gives
abbrev pub channel_given : IpFrame → ℕ → ClientEnd
channel_given (ConnectResponse channel status tunnel) now = Open (new_channel channel now)
channel_given _ now = Idle

-- after the answer to its disconnect request the client has nothing more to tell
abbrev pub gone : ClientEnd → IpFrame → ClientEnd
gone end (DisconnectResponse channel status) = Idle
gone end _ = lost end

-- what it knows after it answered a frame so
unfoldable pub after_took : ClientEnd → IpFrame → ℕ → ChannelTook → ClientEnd
after_took end frame now took.Dropped = end
after_took end frame now (took.Up tunnel) = channel_given frame now
after_took end frame now (took.RefusedBy status) = Idle
after_took end frame now took.Acked = with_channel acknowledged end
after_took end frame now (took.Cemi octets ack) = with_channel delivered end
after_took end frame now (took.Again ack) = end
after_took end frame now (took.Gone (Some answer)) = Idle
after_took end frame now (took.Gone None) = gone end frame
after_took end frame now took.Alive = with_channel answered end
