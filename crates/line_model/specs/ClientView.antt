-- What the client sees of the line, as the record shows it: what came of each endpoint that it had, which requests it put in the channel that
-- it got there, and which requests of the gateway were delivered in it. The channel of an endpoint is that of the first connect response
-- which was got there after the connect request was sent there, where its status is 0 and fewer than 10,000 ms had passed since; no other
-- response opens one. It lasts until it is lost.
use Rattle.std.specs.Prelude.{ℕ, List, [], ◌∷◌, Bool, false, not, ◌&&◌, ◌||◌, ◌==◌, if◌then◌else◌, Option, Some, None}
use Rattle.std.specs.List.{filter_map}
use Rattle.knx_model.specs.declared.address.IndAddr.{IndAddr}
use Rattle.knx_model.specs.declared.frames.cemi.Ldata.{Ldata}
use Rattle.knx_model.specs.declared.frames.ip.IpFrame.{IpFrame}
use Rattle.knx_model.specs.declared.frames.ip.IpFrame.TheVariants.{ConnectResponse}
use Rattle.knx_model.specs.declared.script.GroupService.{GroupService}
use Rattle.knx_model.specs.ApduReading.{service_in}
use Rattle.knx_model.specs.Connection.{has_passed}
use Rattle.knx_model.specs.DeviceFrames.{group_service}
use Rattle.line_model.specs.declared.group.Indication.{Indication}
use Rattle.line_model.specs.Reading.{ldata_in, is_ind, is_connect_request, tunnel_told, RequestFrame, request_in}
use Rattle.line_model.specs.Record.{Entry, put_in, got_in, is_renewal, is_poll}
use Rattle.line_model.specs.ChannelLost.{answer_wait, delivers, expected, is_new_request, last_frame, is_confirmation, is_confirmation_of, is_lost}

-- ---- what came of an endpoint

pub data ClientChannel : Type 0 where
  Fresh : ClientChannel  -- no connect request was sent there
  Sought : ℕ → ClientChannel  -- one was sent at this time
  RefusedBy : ℕ → ClientChannel  -- the first response had this status
  Unanswered : ClientChannel  -- 10,000 ms passed without a response
  Open : ℕ → List Entry → ClientChannel  -- the channel with this number is open; its entries from the connect response on, the newest first
  Lost : ℕ → ClientChannel  -- the channel with this number was lost

-- ---- the same, entry by entry

abbrev pub after_fresh : Entry → ClientChannel
after_fresh x = if is_connect_request (put_in x.what) then Sought x.now else Fresh

abbrev pub answered : ℕ → ℕ → Entry → ClientChannel
answered channel status x = if status == 0 then Open channel (x ∷ []) else RefusedBy status

abbrev pub sought_got : ℕ → Entry → Option IpFrame → ClientChannel
sought_got since x (Some (ConnectResponse channel status tunnel)) = answered channel status x
sought_got since x _ = Sought since

-- the time of the entry counts before what was got in it
abbrev pub after_sought : ℕ → Entry → ClientChannel
after_sought since x = if is_poll x.what && has_passed answer_wait since x.now then Unanswered else sought_got since x (got_in x.what)

abbrev pub goes_on : ClientChannel → Entry → ClientChannel
goes_on Fresh x = after_fresh x
goes_on (Sought since) x = after_sought since x
goes_on (RefusedBy status) x = RefusedBy status
goes_on Unanswered x = Unanswered
goes_on (Open c l) x = if is_lost c l x then Lost c else Open c (x ∷ l)
goes_on (Lost c) x = Lost c

unfoldable pub after_entry : ClientChannel → Entry → ClientChannel
after_entry ch x = if is_renewal x.what then Fresh else goes_on ch x

-- of the present endpoint
abbrev pub channel : List Entry → ClientChannel
channel [] = Fresh
channel (x ∷ r) = after_entry (channel r) x

-- ---- what an entry put or took in the open channel

pub data Deed : Type 0 where
  Puts : List ℕ → Deed  -- a request with these cEMI octets was sent for the first time
  Takes : List ℕ → Deed  -- a request of the gateway with these was delivered
  Loses : Deed  -- the channel was lost
  Nothing : Deed

abbrev pub deed_of : (List ℕ → Deed) → Bool → Option RequestFrame → Deed
deed_of does test None = Nothing
deed_of does test (Some request) = if test then does request.cemi else Nothing

abbrev pub or_takes : Deed → Deed → Deed
or_takes Nothing takes = takes
or_takes puts takes = puts

abbrev pub deed_in : ℕ → List Entry → Entry → Deed
deed_in c l x =
    or_takes (deed_of Puts (is_new_request c l x) (request_in (put_in x.what)))
    (deed_of Takes (delivers c (expected c l) (request_in (got_in x.what))) (request_in (got_in x.what)))

unfoldable pub traffic : ClientChannel → Entry → Deed
traffic (Open c l) x = if is_lost c l x then Loses else deed_in c l x
traffic _ x = Nothing

-- ---- the same, as far as it counts: a confirmation that isn't that of the request put last is nothing, and so is an indication to one device
-- whose destination isn't the tunnel's own address

-- the tunnel's own address: the one that the channel's connect response told
abbrev pub own_address : List Entry → Option IndAddr
own_address [] = None
own_address (x ∷ []) = tunnel_told (got_in x.what)
own_address (x ∷ y ∷ l) = own_address (y ∷ l)

abbrev pub is_to : Option IndAddr → Ldata → Bool
is_to None frame = false
is_to (Some own) frame = frame.destination == own.raw

abbrev pub is_stray : Option IndAddr → Option Ldata → Bool
is_stray own None = false
is_stray own (Some frame) = is_ind frame.code && not frame.group && not (is_to own frame)

abbrev pub counts : Option IndAddr → Option Ldata → Option Ldata → Bool
counts own last taken = not (is_stray own taken) && (not (is_confirmation taken) || is_confirmation_of last taken)

abbrev pub as_counted : Option IndAddr → Option Ldata → Deed → Deed
as_counted own last (Puts frame) = Puts frame
as_counted own last (Takes frame) = if counts own last (ldata_in frame) then Takes frame else Nothing
as_counted own last Loses = Loses
as_counted own last Nothing = Nothing

unfoldable pub deed : ClientChannel → Entry → Deed
deed (Open c l) x = if is_lost c l x then Loses else as_counted (own_address l) (last_frame c l) (deed_in c l x)
deed _ x = Nothing

-- ---- each endpoint's channel, what was put in it and what was taken in it, all the newest first; endpoints are numbered from 0

pub record View : Type 0 where
  pub number : Option ℕ  -- of the channel that came up there
  pub puts : List (List ℕ)
  pub takes : List (List ℕ)

abbrev pub unused : View
unused = record { number = None; puts = []; takes = [] }

abbrev pub and_puts : Deed → List (List ℕ) → List (List ℕ)
and_puts (Puts frame) puts = frame ∷ puts
and_puts _ puts = puts

abbrev pub and_takes : Deed → List (List ℕ) → List (List ℕ)
and_takes (Takes frame) takes = frame ∷ takes
and_takes _ takes = takes

abbrev pub or_number : ClientChannel → Option ℕ → Option ℕ
or_number (Open c l) number = Some c
or_number _ number = number

abbrev pub view_after : View → ClientChannel → Deed → View
view_after v after what = record { number = or_number after v.number; puts = and_puts what v.puts; takes = and_takes what v.takes }

abbrev pub first_view_after : List View → ClientChannel → Deed → List View
first_view_after [] after what = []
first_view_after (v ∷ views) after what = view_after v after what ∷ views

-- that of the present endpoint first
abbrev pub views : List Entry → List View
views [] = unused ∷ []
views (x ∷ r) = if is_renewal x.what then unused ∷ views r else first_view_after (views r) (channel (x ∷ r)) (traffic (channel r) x)

-- ---- all that was taken, one channel after another; the newest first

abbrev pub all_taken : List Entry → List (List ℕ)
all_taken [] = []
all_taken (x ∷ r) = and_takes (deed (channel r) x) (all_taken r)

-- ---- group indications: an L_Data.ind to a group whose TPDU reads as a group read, write or response

abbrev pub indication_with : Ldata → Option GroupService → Option Indication
indication_with frame None = None
indication_with frame (Some service) = Some (record { from = record { raw = frame.source }; group = record { raw = frame.destination }; service = service })

abbrev pub indication_of : Option Ldata → Option Indication
indication_of None = None
indication_of (Some frame) = if is_ind frame.code && frame.group then indication_with frame (group_service (service_in frame.tpdu)) else None

abbrev pub group_indication : List ℕ → Option Indication
group_indication frame = indication_of (ldata_in frame)

-- those that were taken, the newest first
abbrev pub indications : List Entry → List Indication
indications r = filter_map group_indication (all_taken r)
