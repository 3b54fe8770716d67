-- When the client asks to end a channel (ISO 22510, Core; the closing is this project's own). The open one only in the closing, which begins with
-- the last entry of the log, when all jobs and group telegrams are over: once, after the listening; and from then on it sends no connect request
-- and takes no new endpoint. One that was lost otherwise than by the gateway's disconnect request, or by the response to the client's own, with the
-- next datagram, before a new endpoint is taken, and never again. The gateway's disconnect request is answered by the next datagram.
use Rattle.std.specs.Prelude.{◌≡◌, ℕ, true, false, nat_lt, nat_le, List, [], ◌∷◌, if◌then◌else◌, Option, Some, None}
use Rattle.std.specs.List.{filter}
use Rattle.knx_model.specs.declared.frames.ip.IpFrame.{IpFrame}
use Rattle.knx_model.specs.declared.frames.ip.IpFrame.TheVariants.{DisconnectRequest, DisconnectResponse}
use Rattle.line_model.specs.declared.group.GroupTurn.{GroupTurn}
use Rattle.line_model.specs.declared.log.LogEntry.{LogEntry}
use Rattle.line_model.specs.Reading.{state_response_in, disconnect_request_in}
use Rattle.line_model.specs.Record.{Entry, Placed, entries, put_in, got_in, is_poll}
use Rattle.line_model.specs.ChannelLost.{beats, is_for, has_lapsed, tells_bad}
use Rattle.line_model.specs.ClientView.{ClientChannel, Open, Lost, channel}
use Rattle.line_model.specs.LinkStory.{newest_time}
use Rattle.line_model.specs.Log.{Job, AllOver, TurnUnfinished, latest}
use Rattle.line_model.specs.Closing.{asks_to_end, is_open, ClosesRightly}

-- ---- the open channel

-- it isn't asked to end
abbrev pub StaysOpen : List Entry → Type 0
StaysOpen [] = Unit {0}
StaysOpen (x ∷ r) = (asks_to_end x ≡ true → is_open (channel r) ≡ false) × StaysOpen r

-- all jobs are over, and all group telegrams told
pub record IsFinished (jobs : List Job) (turns : List GroupTurn) (log : List LogEntry) : Type 0 where
  pub jobs_over : AllOver jobs log
  pub turns_told : ¬ TurnUnfinished turns log

-- the record up to the last entry of the log, and since then
abbrev pub up_to_last : List LogEntry → List Placed → List Placed
up_to_last log places = filter (λ (p : Placed). nat_le p.at (latest log)) places

abbrev pub since_last : List LogEntry → List Placed → List Placed
since_last log places = filter (λ (p : Placed). nat_lt (latest log) p.at) places

-- the closing begins at the newest time of the record then
pub record Closes (log : List LogEntry) (places : List Placed) : Type 0 where
  pub stays : StaysOpen (entries (up_to_last log places))
  pub closes : ClosesRightly (newest_time (entries (up_to_last log places))) (entries (up_to_last log places)) (entries (since_last log places))

pub record LeavesRightly (jobs : List Job) (turns : List GroupTurn) (log : List LogEntry) (places : List Placed) : Type 0 where
  pub unfinished : ¬ IsFinished jobs turns log → StaysOpen (entries places)
  pub finished : IsFinished jobs turns log → Closes log places

-- ---- a channel that is lost

-- what is to be sent next after the entry x, by which the channel c was lost, whose entries before it are l. The time counts before what was got
abbrev pub parting : ℕ → List Entry → Entry → Option IpFrame
parting c l x =
    if has_lapsed c l x.now then Some (DisconnectRequest c)
    else (if is_for c (disconnect_request_in (got_in x.what)) then Some (DisconnectResponse c 0)
    else (if tells_bad c (beats c l) x.now (state_response_in (got_in x.what)) then Some (DisconnectRequest c) else None))

-- after x, where this was to be sent before it: polls may still come
abbrev pub parting_in : ClientChannel → Entry → ClientChannel → Option IpFrame → Option IpFrame
parting_in (Open c l) x (Lost d) before = parting c l x
parting_in (Lost c) x (Lost d) before = if is_poll x.what then before else None
parting_in _ x _ before = None

abbrev pub parting_of : List Entry → Option IpFrame
parting_of [] = None
parting_of (x ∷ r) = parting_in (channel r) x (channel (x ∷ r)) (parting_of r)

abbrev pub IsSentNext : Option IpFrame → Entry → Type 0
IsSentNext None x = Unit {0}
IsSentNext (Some frame) x = is_poll x.what ≡ false → put_in x.what ≡ Some frame

-- it is sent next, and a disconnect request where no channel is open is nothing else
pub record PartsSo (r : List Entry) (x : Entry) : Type 0 where
  pub sends : IsSentNext (parting_of r) x
  pub once : asks_to_end x ≡ true → is_open (channel r) ≡ false → parting_of r ≡ put_in x.what

abbrev pub PartsRightly : List Entry → Type 0
PartsRightly [] = Unit {0}
PartsRightly (x ∷ r) = PartsSo r x × PartsRightly r
