-- What the record says of frames of the link layer (KNX standard 3/6/3, common EMI, and ISO/IEC 14543-3-2, transport layer): what each entry
-- put, took or lost, with its time and its place; and of one device, which of its frames were taken and which were put to it. Since at most
-- one request is on its way, and a confirmation counts only where it has the destination and the TPDU of the request that was put last, the first
-- one that is taken after a request was put is its own. The newest moment first.
use Rattle.std.specs.Prelude.{ℕ, suc, ◌%◌, List, [], ◌∷◌, length, Bool, true, false, not, ◌&&◌, ◌||◌, ◌==◌, nat_lt, nat_le, if◌then◌else◌, Option, Some, None}
use Rattle.std.specs.List.{filter}
use Rattle.knx_model.specs.declared.connection.TransportFrame.{TransportFrame}
use Rattle.knx_model.specs.declared.connection.TransportFrame.TheVariants.{Connect, Disconnect, Ack, Numbered}
use Rattle.knx_model.specs.declared.frames.cemi.Ldata.{Ldata}
use Rattle.knx_model.specs.Connection.{frame_in, next_number}
use Rattle.line_model.specs.Reading.{ldata_in, is_req, is_con, is_ind}
use Rattle.line_model.specs.Record.{Placed, entries}
use Rattle.line_model.specs.ClientView.{Deed, Puts, Takes, Loses, channel, deed}

pub record Moment : Type 0 where
  pub what : Deed
  pub now : ℕ
  pub at : ℕ

abbrev pub moments : List Placed → List Moment
moments [] = []
moments (p ∷ older) = record { what = deed (channel (entries older)) p.what; now = p.what.now; at = p.at } ∷ moments older

-- those after one place, up to another
abbrev pub between : ℕ → ℕ → List Moment → List Moment
between since upto l = filter (λ (m : Moment). nat_lt since m.at && nat_le m.at upto) l

-- the time of the newest
abbrev pub time : List Moment → ℕ
time [] = 0
time (m ∷ l) = m.now

-- ---- frames: a request that was put, and an indication or a confirmation that was taken

abbrev pub where_is : (Ldata → Bool) → Option Ldata → Option Ldata
where_is test None = None
where_is test (Some frame) = if test frame then Some frame else None

abbrev pub put_frame : Deed → Option Ldata
put_frame (Puts frame) = where_is (λ (f : Ldata). is_req f.code) (ldata_in frame)
put_frame _ = None

abbrev pub taken_frame : Deed → Option Ldata
taken_frame (Takes frame) = where_is (λ (f : Ldata). is_ind f.code) (ldata_in frame)
taken_frame _ = None

abbrev pub confirmation_frame : Deed → Option Ldata
confirmation_frame (Takes frame) = where_is (λ (f : Ldata). is_con f.code) (ldata_in frame)
confirmation_frame _ = None

-- a confirmation was taken, with error or without
abbrev pub error_of : Option Ldata → Option Bool
error_of None = None
error_of (Some frame) = Some frame.error

abbrev pub confirmation_in : Deed → Option Bool
confirmation_in what = error_of (confirmation_frame what)

-- ---- of one device

abbrev pub is_to : ℕ → Ldata → Bool
is_to device frame = not frame.group && (frame.destination == device)

abbrev pub is_from : ℕ → Ldata → Bool
is_from device frame = not frame.group && (frame.source == device)

abbrev pub transport_of : Option Ldata → Option TransportFrame
transport_of None = None
transport_of (Some frame) = Some (frame_in frame.tpdu)

-- what was put to it
abbrev pub put_to : ℕ → Deed → Option TransportFrame
put_to device what = transport_of (where_is (is_to device) (put_frame what))

-- what was taken of it
abbrev pub heard_from : ℕ → Deed → Option TransportFrame
heard_from device what = transport_of (where_is (is_from device) (taken_frame what))

-- ---- the stretches: what came after each T_Connect to the device, up to the next one; the newest first

abbrev pub is_connect : Option TransportFrame → Bool
is_connect (Some Connect) = true
is_connect _ = false

abbrev pub grown : Moment → List (List Moment) → List (List Moment)
grown m [] = []
grown m (s ∷ ss) = (m ∷ s) ∷ ss

abbrev pub stretches : ℕ → List Moment → List (List Moment)
stretches device [] = []
stretches device (m ∷ l) = if is_connect (put_to device m.what) then [] ∷ stretches device l else grown m (stretches device l)

-- ---- in a session: the client's number, outstanding or the next one

pub data Number : Type 0 where
  Next : ℕ → Number
  Outstanding : ℕ → Number

abbrev pub number_put : Option TransportFrame → Number → Number
number_put (Some (Numbered n apdu)) o = Outstanding n
number_put _ o = o

abbrev pub number_heard : Option TransportFrame → Number → Number
number_heard (Some (Ack k)) (Outstanding n) = if k == n then Next (next_number n) else Outstanding n
number_heard _ o = o

abbrev pub number : ℕ → List Moment → Number
number device [] = Next 0
number device (m ∷ l) = number_heard (heard_from device m.what) (number_put (put_to device m.what) (number device l))

-- ---- what ends a session: the loss of the channel, a T_Disconnect of either end, and a T_ACK of a number that is neither expected nor ignored

abbrev pub is_disconnect : Option TransportFrame → Bool
is_disconnect (Some Disconnect) = true
is_disconnect _ = false

-- its own number is expected where one is outstanding, and the number before is ignored
abbrev pub is_wrong : ℕ → Number → Bool
is_wrong k (Next n) = not (next_number k == n)
is_wrong k (Outstanding n) = not (k == n) && not (next_number k == n)

abbrev pub closes_by : Option TransportFrame → Number → Bool
closes_by (Some Disconnect) o = true
closes_by (Some (Ack k)) o = is_wrong k o
closes_by _ o = false

abbrev pub is_loss : Deed → Bool
is_loss Loses = true
is_loss _ = false

-- of the session's moments before this one
abbrev pub ends_session : ℕ → Moment → List Moment → Bool
ends_session device m s = is_loss m.what || is_disconnect (put_to device m.what) || closes_by (heard_from device m.what) (number device s)

-- ---- what came of the T_Connect of a stretch: its confirmation, and what came after that up to the end of the session, after which nothing counts

pub data Course : Type 0 where
  Unconfirmed : Course
  WithError : Course
  InSession : List Moment → Course
  Left : List Moment → Course

abbrev pub course_from : Option Bool → Course
course_from None = Unconfirmed
course_from (Some true) = WithError
course_from (Some false) = InSession []

abbrev pub course_after : ℕ → Moment → Course → Course
course_after device m Unconfirmed = if is_loss m.what then Left [] else course_from (confirmation_in m.what)
course_after device m WithError = WithError
course_after device m (InSession s) = if ends_session device m s then Left (m ∷ s) else InSession (m ∷ s)
course_after device m (Left s) = Left s

abbrev pub course : ℕ → List Moment → Course
course device [] = Unconfirmed
course device (m ∷ l) = course_after device m (course device l)

-- the moments of the session, the one that ended it with them, the newest first
abbrev pub session : Course → List Moment
session Unconfirmed = []
session WithError = []
session (InSession s) = s
session (Left s) = s

-- ---- in a session: how many of the client's services were acknowledged; the answers accepted; the services put

abbrev pub is_acknowledged : Option TransportFrame → Number → Bool
is_acknowledged (Some (Ack k)) (Outstanding n) = k == n
is_acknowledged _ o = false

abbrev pub acknowledged : ℕ → List Moment → ℕ
acknowledged device [] = 0
acknowledged device (m ∷ l) = if is_acknowledged (heard_from device m.what) (number device l) then suc (acknowledged device l) else acknowledged device l

-- an answer is accepted where it has the expected number, which begins at 0; the newest first
abbrev pub answer_expected : Option TransportFrame → ℕ → List (List ℕ) → List (List ℕ)
answer_expected (Some (Numbered n apdu)) count answers = if n == count % 16 then apdu ∷ answers else answers
answer_expected _ count answers = answers

abbrev pub answers : ℕ → List Moment → List (List ℕ)
answers device [] = []
answers device (m ∷ l) = answer_expected (heard_from device m.what) (length (answers device l)) (answers device l)

-- the services put, each once; the newest first
abbrev pub service_put : Option TransportFrame → Number → List (List ℕ) → List (List ℕ)
service_put (Some (Numbered n apdu)) (Next k) services = apdu ∷ services
service_put _ o services = services

abbrev pub services : ℕ → List Moment → List (List ℕ)
services device [] = []
services device (m ∷ l) = service_put (put_to device m.what) (number device l) (services device l)
