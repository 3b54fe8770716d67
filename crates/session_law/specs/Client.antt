-- What the client does (ISO/IEC 14543-3-2, transport layer): it puts a T_Connect, a service, the same service again, what it owes, or a
-- T_Disconnect; and it takes what comes, confirmations and frames of the device, each as its end of the connection says.
use Rattle.std.specs.Prelude.{ℕ, Bool, true, false, not, ◌&&◌, ◌==◌, nat_lt, List, [], ◌∷◌, ◌++◌, length, drop, Option, Some, None, if◌then◌else◌}
use Rattle.knx_model.specs.declared.address.IndAddr.{IndAddr}
use Rattle.knx_model.specs.declared.frames.cemi.Ldata.{Ldata}
use Rattle.knx_model.specs.declared.frames.tpdu.Tpdu.TheVariants as tpdu
use Rattle.knx_model.specs.declared.connection.TransportFrame.{TransportFrame}
use Rattle.knx_model.specs.declared.connection.TransportFrame.TheVariants.{Other}
use Rattle.knx_model.specs.declared.connection.ClientConfirmed.{ClientConfirmed}
use Rattle.knx_model.specs.declared.connection.ClientConfirmed.TheVariants as told
use Rattle.knx_model.specs.declared.connection.ClientTook.{ClientTook}
use Rattle.knx_model.specs.declared.connection.ClientTook.TheVariants as heard
use Rattle.knx_model.specs.declared.connection.ClientExpired.{ClientExpired}
use Rattle.knx_model.specs.declared.connection.ClientExpired.TheVariants as over
use Rattle.knx_model.specs.Apdu.{Written}
use Rattle.knx_model.specs.Connection.{frame_in, disconnect}
use Rattle.knx_model.specs.ClientConnection.{Asked, Ended, device_of, client_sent, after_send, client_took, client_after, client_stayed, client_expired, after_overdue, client_confirmed, after_confirmed}
use Rattle.knx_model.specs.DeviceFrames.{own_frame}
use Rattle.session_law.specs.World.{Message, Con, Ind, Client, World}

-- ---- what it puts

-- one frame to the device is on its way, and isn't confirmed
abbrev pub puts : World → Client → List ℕ → World
puts w c tpdu = record w { client = record c { pending = true }; flying = Some (own_frame w.me false w.device.address.raw tpdu) }

abbrev pub connects : World → World
connects w = puts w (record w.client { end = Asked w.device.address; owed = [] }) (Written tpdu.Connect)

-- a service, where its end can send one
abbrev pub asks_so : World → List ℕ → Option (List ℕ) → World
asks_so w apdu None = w
asks_so w apdu (Some tpdu) = puts w (record w.client { end = after_send w.client.end apdu w.now; sent = apdu ∷ w.client.sent }) tpdu

abbrev pub asks : World → List ℕ → World
asks w apdu = asks_so w apdu (client_sent w.client.end apdu)

-- what has become due: the service again whose T_ACK didn't come, or the end of the connection
abbrev pub waits_so : World → ClientExpired → World
waits_so w over.Nothing = w
waits_so w (over.Repeat tpdu) = puts w (record w.client { end = after_overdue w.client.end w.now (over.Repeat tpdu) }) tpdu
waits_so w (over.Silent ms) = record w { client = record w.client { end = after_overdue w.client.end w.now (over.Silent ms); owed = [] } }

abbrev pub waits : World → World
waits w = waits_so w (client_expired w.client.end w.now)

-- the oldest frame that it owes; its wait for an answer begins anew
abbrev pub replies_so : World → List (List ℕ) → World
replies_so w [] = w
replies_so w (reply ∷ rest) = puts w (record w.client { end = client_stayed w.client.end w.now; owed = rest }) reply

abbrev pub replies : World → World
replies w = replies_so w w.client.owed

-- its connection has ended, and what it owes is forgotten
abbrev pub ended : Client → Client
ended c = record c { end = Ended; owed = [] }

abbrev pub leaves : World → World
leaves w = puts w (ended w.client) disconnect

-- ---- its channel

abbrev pub loses : World → World
loses w = record w { client = record (ended w.client) { joined = false } }

-- in another channel it gets nothing that was put in the one before: the n oldest messages, and the frame that was on its way
abbrev pub joins : World → ℕ → World
joins w n = record w { client = record (ended w.client) { joined = true; pending = false }; flying = None; coming = drop n w.coming }

-- ---- what it takes

-- the session begins where the T_Connect is confirmed without error: from then on is counted
abbrev pub since : ClientConfirmed → List (List ℕ) → List (List ℕ)
since told.Up history = []
since told.NoCon history = history
since told.Timed history = history

abbrev pub confirmed : Client → Bool → ℕ → Client
confirmed c error now = record c {
  end = after_confirmed c.end error now;
  pending = false;
  sent = since (client_confirmed c.end error) c.sent;
  accepted = since (client_confirmed c.end error) c.accepted;
}

-- a frame of the device with which its connection is, to one receiver
abbrev pub is_from : Option IndAddr → Ldata → Bool
is_from None frame = false
is_from (Some device) frame = not frame.group && (frame.source == device.raw)

abbrev pub frame_from : Option IndAddr → Ldata → TransportFrame
frame_from device frame = if is_from device frame then frame_in frame.tpdu else Other

-- so many frames it owes at most; one more is none, and the device sends its frame again
abbrev pub most_owed : ℕ
most_owed = 64

abbrev pub with_reply : List (List ℕ) → List ℕ → List (List ℕ)
with_reply owed reply = if nat_lt (length owed) most_owed then owed ++ reply ∷ [] else owed

-- what it owes then
abbrev pub owed_after : ClientTook → List (List ℕ) → List (List ℕ)
owed_after heard.Dropped owed = owed
owed_after heard.Acked owed = owed
owed_after (heard.Answer apdu ack) owed = with_reply owed ack
owed_after (heard.Again ack) owed = with_reply owed ack
owed_after (heard.Nak nak) owed = with_reply owed nak
owed_after (heard.Closed answer) owed = []

abbrev pub and_answer : ClientTook → List (List ℕ) → List (List ℕ)
and_answer (heard.Answer apdu ack) answers = apdu ∷ answers
and_answer _ answers = answers

abbrev pub hears : Client → ℕ → ClientTook → Client
hears c now took = record c { end = client_after c.end now took; owed = owed_after took c.owed; accepted = and_answer took c.accepted }

abbrev pub takes_message : World → Message → World
takes_message w (Con error) = record w {
  client = confirmed w.client error w.now;
  delivered = since (client_confirmed w.client.end error) w.delivered;
  given = since (client_confirmed w.client.end error) w.given;
}
takes_message w (Ind frame) = record w { client = hears w.client w.now (client_took w.client.end (frame_from (device_of w.client.end) frame)) }

-- the oldest message
abbrev pub takes_oldest : World → List Message → World
takes_oldest w [] = w
takes_oldest w (message ∷ rest) = takes_message (record w { coming = rest }) message
