-- The state of a tunnel that is calm, by what is under way in it.
use Rattle.std.proofs.Common.{◌≡◌, ℕ, ◌+◌, ◌≤◌, ◌⊎◌, List, [], ◌∷◌, ◌++◌, length, Bool, true, false, Option, Some, None, refl, sym, ◌∙◌}
use Rattle.knx_model.specs.declared.address.IndAddr.{IndAddr}
use Rattle.knx_model.specs.declared.frames.cemi.Ldata.{Ldata}
use Rattle.knx_model.specs.declared.frames.ip.IpFrame.{IpFrame}
use Rattle.knx_model.specs.declared.frames.ip.IpFrame.TheVariants.{TunnellingAck}
use Rattle.knx_model.specs.Cemi.{Written as cemi_octets}
use Rattle.line_model.specs.Reading.{datagram_in, ldata_in, is_req}
use Rattle.line_model.specs.Network.{Sent}
use Rattle.line_model.specs.Gateway.{Request, Channel, next_number}
use Rattle.line_model.specs.Tunnel.{Tunnel}
use Rattle.line_model.specs.Record.{Entry}
use Rattle.line_model.specs.ChannelLost.{is_confirmation, is_confirmation_of}
use Rattle.line_model.specs.ClientView.{ClientChannel, Fresh, Sought, Open, own_address, is_stray, Deed, Puts, Takes, Loses, Nothing, channel}
use Rattle.line_model.specs.Renews.{has_renewed, owed, to_last_poll, to_poll_before}
use Rattle.line_model.specs.Sendings.{end_got}
use Rattle.line_model.specs.LinkStory.{newest_time}
use Rattle.calm_law.proofs.Ways.{Way}
use Rattle.calm_law.proofs.Tokens.{Rise, Fall, Made, Ups, Downs, risen, fallen, read_down}
use Rattle.calm_law.proofs.Seen.{Seen, Up}

-- ---- where each thing is

-- the channel: none; its request is under way; its response is; open, with the request for its end under way or not
pub data Door : Type 0 where
  Shut : Door
  Knocked : Door
  Replied : Door
  Ajar : Bool → Door

-- the client's request: on its way; its frame waits for the bus; neither. With true its acknowledgement is under way
pub data Stage : Type 0 where
  Rising : List ℕ → Ldata → Stage
  Riding : Ldata → Bool → Stage
  Past : Bool → Stage

-- the gateway's request: none, on its way, to be acknowledged, its acknowledgement on its way
pub data Under : Type 0 where
  Free : Under
  Coming : Ldata → Under
  Owed : Ldata → Under
  Back : Ldata → Under

-- the heartbeat: none, on its way, its answer on its way
pub data Pulse : Type 0 where
  Calm : Pulse
  Beating : Pulse
  Echo : Pulse

-- what else the ends know
pub record Nums : Type 0 where
  pub own : ℕ  -- the number of the client's request
  pub put : ℕ  -- that of the gateway's
  pub heard : ℕ  -- when the gateway got something last
  pub beat : ℕ  -- when the client sent its last heartbeat
  pub acked : Option ℕ  -- when its last request was acknowledged
  pub confirmed : Bool  -- and whether it was confirmed
  pub last : Option Ldata  -- its frame

-- ---- what is under way

abbrev pub opened : Door → Bool
opened Shut = false
opened Knocked = false
opened Replied = true
opened (Ajar leaves) = true

abbrev pub asks_at : Door → List ℕ
asks_at Shut = []
asks_at Knocked = 0 ∷ []
asks_at Replied = []
asks_at (Ajar leaves) = []

abbrev pub leaves_at : Door → List ℕ
leaves_at Shut = []
leaves_at Knocked = []
leaves_at Replied = []
leaves_at (Ajar true) = 0 ∷ []
leaves_at (Ajar false) = []

abbrev pub mades_at : Door → List ℕ
mades_at Shut = []
mades_at Knocked = []
mades_at Replied = 0 ∷ []
mades_at (Ajar leaves) = []

abbrev pub tells_at : ℕ → Stage → List (ℕ × List ℕ)
tells_at n (Rising cemi f) = (n, cemi) ∷ []
tells_at n (Riding f b) = []
tells_at n (Past b) = []

abbrev pub ack_if : ℕ → Bool → List ℕ
ack_if n true = n ∷ []
ack_if n false = []

abbrev pub acks_at : ℕ → Stage → List ℕ
acks_at n (Rising cemi f) = []
acks_at n (Riding f b) = ack_if n b
acks_at n (Past b) = ack_if n b

abbrev pub notes_at : ℕ → Under → List (ℕ × List ℕ)
notes_at o Free = []
notes_at o (Coming y) = (o, cemi_octets y) ∷ []
notes_at o (Owed y) = []
notes_at o (Back y) = []

abbrev pub receipts_at : ℕ → Under → List ℕ
receipts_at o Free = []
receipts_at o (Coming y) = []
receipts_at o (Owed y) = []
receipts_at o (Back y) = o ∷ []

abbrev pub beats_at : Pulse → List ℕ
beats_at Calm = []
beats_at Beating = 0 ∷ []
beats_at Echo = []

abbrev pub alives_at : Pulse → List ℕ
alives_at Calm = []
alives_at Beating = []
alives_at Echo = 0 ∷ []

-- ---- the gateway

abbrev pub next_if : ℕ → Bool → ℕ
next_if n true = next_number n
next_if n false = n

abbrev pub expected_at : ℕ → Stage → ℕ
expected_at n (Rising cemi f) = n
expected_at n (Riding f b) = next_if n b
expected_at n (Past b) = next_if n b

abbrev pub request_at : Ldata → ℕ → Option Request
request_at y now = Some (record { frame = cemi_octets y; repeated = false; sent = now })

abbrev pub out_at : Under → ℕ → Option Request
out_at Free now = None
out_at (Coming y) now = request_at y now
out_at (Owed y) now = request_at y now
out_at (Back y) now = request_at y now

abbrev pub bus_at : Stage → List Ldata
bus_at (Rising cemi f) = []
bus_at (Riding f b) = f ∷ []
bus_at (Past b) = []

abbrev pub the_channel : Stage → Under → Nums → ℕ → Channel
the_channel stage under m now = record { endpoint = 1; number = 1; expected = expected_at m.own stage; own = m.put; outstanding = out_at under now; heard = m.heard }

abbrev pub channel_at : Door → Channel → Option Channel
channel_at Shut c = None
channel_at Knocked c = None
channel_at Replied c = Some c
channel_at (Ajar leaves) c = Some c

abbrev pub makers_at : Door → List ℕ
makers_at Shut = []
makers_at Knocked = []
makers_at Replied = 1 ∷ []
makers_at (Ajar leaves) = 1 ∷ []

-- ---- the client

abbrev pub sent_if : Bool → ℕ → List ℕ
sent_if true now = now ∷ []
sent_if false now = []

abbrev pub sent_at : Stage → ℕ → List ℕ
sent_at (Rising cemi f) now = now ∷ []
sent_at (Riding f b) now = sent_if b now
sent_at (Past b) now = sent_if b now

abbrev pub taken_at : ℕ → Under → ℕ
taken_at o Free = o
taken_at o (Coming y) = o
taken_at o (Owed y) = next_number o
taken_at o (Back y) = next_number o

abbrev pub owed_at : ℕ → Under → Option IpFrame
owed_at o Free = None
owed_at o (Coming y) = None
owed_at o (Owed y) = Some (TunnellingAck 1 o 0)
owed_at o (Back y) = None

abbrev pub beating_at : Pulse → ℕ → List ℕ
beating_at Calm now = []
beating_at Beating now = now ∷ []
beating_at Echo now = now ∷ []

abbrev pub seen_at : Stage → Under → Pulse → Nums → ℕ → Seen
seen_at stage under pulse m now =
    record { own = record { number = m.own; sent = sent_at stage now }; acked = m.acked; confirmed = m.confirmed; last = m.last; expected = taken_at m.put under; beats = beating_at pulse now; beat = m.beat }

-- ---- confirmations: as many as are awaited

abbrev pub is_con_frame : Ldata → Bool
is_con_frame y = is_confirmation (ldata_in (cemi_octets y))

abbrev pub one_if : Bool → ℕ
one_if true = 1
one_if false = 0

abbrev pub cons_in : List Ldata → ℕ
cons_in [] = 0
cons_in (y ∷ l) = one_if (is_con_frame y) + cons_in l

abbrev pub con_under : Under → ℕ
con_under Free = 0
con_under (Coming y) = one_if (is_con_frame y)
con_under (Owed y) = 0
con_under (Back y) = 0

abbrev pub flies : Stage → ℕ
flies (Rising cemi f) = 1
flies (Riding f b) = 1
flies (Past b) = 0

abbrev pub awaited : Bool → ℕ
awaited true = 0
awaited false = 1

-- the frame put last is the one that isn't over the bus yet, and each confirmation on its way is its own
abbrev pub IsLast : Option Ldata → Stage → Type 0
IsLast last (Rising cemi f) = last ≡ Some f
IsLast last (Riding f b) = last ≡ Some f
IsLast last (Past b) = Unit {0}

abbrev pub IsItsOwn : Option Ldata → Ldata → Type 0
IsItsOwn last y = is_con_frame y ≡ true → is_confirmation_of last (ldata_in (cemi_octets y)) ≡ true

abbrev pub AreItsOwn : Option Ldata → List Ldata → Type 0
AreItsOwn last [] = Unit {0}
AreItsOwn last (y ∷ l) = IsItsOwn last y × AreItsOwn last l

-- ---- what rides on the tunnel: the client's frame that isn't over the bus yet, and the frames on their way to the client, the oldest first

abbrev pub flies_of : Stage → Option Ldata
flies_of (Rising cemi f) = Some f
flies_of (Riding f b) = Some f
flies_of (Past b) = None

abbrev pub queue_of : Under → List Ldata → List Ldata
queue_of Free waiting = waiting
queue_of (Coming y) waiting = y ∷ waiting
queue_of (Owed y) waiting = waiting
queue_of (Back y) waiting = waiting

-- what holds of both before an entry of the client's record holds of both after it
abbrev pub Steps : (Option Ldata → List Ldata → Type 0) → (Option Ldata → List Ldata → Type 0) → Deed → Type 0
Steps E F (Puts octets) = (f : Ldata) (q : List Ldata) → ldata_in octets ≡ Some f → cons_in q ≡ 0 → E None q → F (Some f) q
Steps E F (Takes octets) = (fly : Option Ldata) (y : Ldata) (q : List Ldata) → cemi_octets y ≡ octets → E fly (y ∷ q) → F fly q
Steps E F Loses = Unit {0}
Steps E F Nothing = (fly : Option Ldata) (q : List Ldata) → E fly q → F fly q

-- the gateway's request with these octets isn't acknowledged
abbrev pub RequestHas : Option Request → List ℕ → Type 0
RequestHas None octets = ⊥
RequestHas (Some r) octets = r.frame ≡ octets

abbrev pub OutHas : Option Channel → List ℕ → Type 0
OutHas None octets = ⊥
OutHas (Some c) octets = RequestHas c.outstanding octets

-- an indication to another device than the tunnel is taken from what rides, and is nothing
abbrev pub Strays : (Option Ldata → List Ldata → Type 0) → (Option Ldata → List Ldata → Type 0) → ClientChannel → Option Channel → Type 0
Strays E F ch out = (l : List Entry) (y : Ldata) → ch ≡ Open 1 l → OutHas out (cemi_octets y) → is_stray (own_address l) (ldata_in (cemi_octets y)) ≡ true → (fly : Option Ldata) (q : List Ldata) → E fly (y ∷ q) → F fly q

-- or there is none
abbrev pub NoStrays : ClientChannel → Option Channel → Type 0
NoStrays ch out = (l : List Entry) (cemi : List ℕ) → ch ≡ Open 1 l → OutHas out cemi → is_stray (own_address l) (ldata_in cemi) ≡ false

pub none_strays : (E F : Option Ldata → List Ldata → Type 0) (ch : ClientChannel) (out : Option Channel) → NoStrays ch out → Strays E F ch out
none_strays E F ch out none = λ l y is has stray fly q h. absurd (let z : false ≡ true = sym (none l (cemi_octets y) is has) ∙ stray in cc)

-- what a request of the gateway can carry
pub record Fits (y : Ldata) : Type 0 where
  pub some : 1 ≤ length (cemi_octets y)
  pub short : length (cemi_octets y) ≤ 290

abbrev pub AllFit : List Ldata → Type 0
AllFit [] = Unit {0}
AllFit (y ∷ l) = Fits y × AllFit l

-- ---- times

abbrev pub longest_silence : ℕ
longest_silence = 61000

-- the client's record ends now, and its last two polls are near
pub record Paced (r : List Entry) (now : ℕ) : Type 0 where
  pub newest : newest_time r ≡ now
  pub last : newest_time (to_last_poll r) ≡ now
  pub before : now ≤ newest_time (to_poll_before r) + 100

abbrev pub BeatIs : Pulse → ℕ → ℕ → ℕ → Type 0
BeatIs Calm beat heard now = beat ≤ heard
BeatIs Beating beat heard now = beat ≡ now
BeatIs Echo beat heard now = (beat ≡ now) × (beat ≤ heard)

-- ---- the door

abbrev pub RenewedSo : List Entry → ℕ → Type 0
RenewedSo r present = ((has_renewed r ≡ false) × (present ≡ 0)) ⊎ ((has_renewed r ≡ true) × (present ≡ 1))

-- the response is the oldest that is under way
pub record Opens (downs : List Fall) : Type 0 where
  pub tunnel : Option IndAddr
  pub younger : List Fall
  pub is : downs ≡ younger ++ Made tunnel ∷ []

-- before the channel is up nothing goes on
pub record Early (stage : Stage) (pulse : Pulse) (m : Nums) (now : ℕ) : Type 0 where
  pub stage_is : stage ≡ Past false
  pub pulse_is : pulse ≡ Calm
  pub own_is : m.own ≡ 0
  pub put_is : m.put ≡ 0
  pub acked_is : m.acked ≡ None
  pub confirmed_is : m.confirmed ≡ true
  pub last_is : m.last ≡ None
  pub heard_is : m.heard ≡ now

abbrev pub IsFree : Under → Type 0
IsFree Free = Unit {0}
IsFree (Coming y) = ⊥
IsFree (Owed y) = ⊥
IsFree (Back y) = ⊥

abbrev pub IsUnseen : Under → Type 0
IsUnseen Free = Unit {0}
IsUnseen (Coming y) = Unit {0}
IsUnseen (Owed y) = ⊥
IsUnseen (Back y) = ⊥

pub record Sought1 (r : List Entry) (present now : ℕ) : Type 0 where
  pub is : channel r ≡ Sought now
  pub renewed : has_renewed r ≡ true
  pub at : present ≡ 1

abbrev pub DoorIs : Door → Stage → Under → Pulse → Nums → List Entry → ℕ → List Fall → ℕ → Type 0
DoorIs Shut stage under pulse m r present downs now = (channel r ≡ Fresh) × RenewedSo r present × Early stage pulse m now × IsFree under
DoorIs Knocked stage under pulse m r present downs now = Sought1 r present now × Early stage pulse m now × IsFree under
DoorIs Replied stage under pulse m r present downs now = Sought1 r present now × Early stage pulse m now × IsUnseen under × Opens downs
DoorIs (Ajar leaves) stage under pulse m r present downs now = Up leaves r present (seen_at stage under pulse m now)

-- ---- the tunnel

abbrev pub ReadsAs : Stage → Type 0
ReadsAs (Rising cemi f) = (ldata_in cemi ≡ Some f) × (is_req f.code ≡ true)
ReadsAs (Riding f b) = (cemi : List ℕ) × (ldata_in cemi ≡ Some f)
ReadsAs (Past b) = Unit {0}

abbrev pub tunnel_at : Door → Stage → Under → Nums → ℕ → List Sent → List Sent → IndAddr → List Ldata → List (ℕ × List ℕ) → List (ℕ × List ℕ) → ℕ → Tunnel
tunnel_at door stage under m present up down me waiting acted puts now =
    record {
      present = present;
      network = record { up = up; down = down };
      gateway = record { tunnel = me; channel = channel_at door (the_channel stage under m now); makers = makers_at door; bus = bus_at stage; waiting = waiting; acted = acted; puts = puts };
      now = now;
    }

-- all of it, but that the gateway may still have to put its next frame
pub record Goes (E : Option Ldata → List Ldata → Type 0) (door : Door) (stage : Stage) (under : Under) (pulse : Pulse) (m : Nums) (ups : List Rise) (downs : List Fall) (r : List Entry) (present : ℕ) (up down : List Sent) (waiting : List Ldata) (now : ℕ) : Type 0 where
  pub rising : Way Rise datagram_in risen ups up
  pub falling : Way Fall read_down fallen downs down
  pub ups_are : Ups (asks_at door) (tells_at m.own stage) (receipts_at m.put under) (beats_at pulse) (leaves_at door) ups
  pub downs_are : Downs (mades_at door) (acks_at m.own stage) (notes_at m.put under) (alives_at pulse) [] downs
  pub door_is : DoorIs door stage under pulse m r present downs now
  pub owed_is : owed r ≡ owed_at m.put under
  pub end_is : end_got r ≡ None
  pub reads : ReadsAs stage
  pub counts : awaited m.confirmed ≡ flies stage + (con_under under + cons_in waiting)
  pub own : IsLast m.last stage × AreItsOwn m.last (queue_of under waiting)
  pub acked : (m.confirmed ≡ true) ⊎ ((m.acked ≡ None) ⊎ (m.acked ≡ Some now))
  pub fits : AllFit waiting
  pub heard : now ≤ m.heard + longest_silence
  pub since : m.heard ≤ now
  pub beat : BeatIs pulse m.beat m.heard now
  pub pace : Paced r now
  pub rides : E (flies_of stage) (queue_of under waiting)

abbrev pub IsPut : Door → Under → List Ldata → Type 0
IsPut Shut under waiting = Unit {0}
IsPut Knocked under waiting = Unit {0}
IsPut Replied Free waiting = waiting ≡ []
IsPut Replied under waiting = Unit {0}
IsPut (Ajar leaves) Free waiting = waiting ≡ []
IsPut (Ajar leaves) under waiting = Unit {0}

pub record Going (E : Option Ldata → List Ldata → Type 0) (r : List Entry) (t : Tunnel) : Type 0 where
  pub door : Door
  pub stage : Stage
  pub under : Under
  pub pulse : Pulse
  pub m : Nums
  pub ups : List Rise
  pub downs : List Fall
  pub waiting : List Ldata
  pub acted : List (ℕ × List ℕ)
  pub puts : List (ℕ × List ℕ)
  pub up : List Sent
  pub down : List Sent
  pub me : IndAddr
  pub present : ℕ
  pub now : ℕ
  pub is : t ≡ tunnel_at door stage under m present up down me waiting acted puts now
  pub goes : Goes E door stage under pulse m ups downs r present up down waiting now

pub record Lives (E : Option Ldata → List Ldata → Type 0) (r : List Entry) (t : Tunnel) : Type 0 where
  pub going : Going E r t
  pub put : IsPut going.door going.under going.waiting

pub going : (E : Option Ldata → List Ldata → Type 0) (door : Door) (stage : Stage) (under : Under) (pulse : Pulse) (m : Nums) (ups : List Rise) (downs : List Fall) (r : List Entry) (present : ℕ) (up down : List Sent) (me : IndAddr) (waiting : List Ldata) (acted puts : List (ℕ × List ℕ)) (now : ℕ)
    → Goes E door stage under pulse m ups downs r present up down waiting now → Going E r (tunnel_at door stage under m present up down me waiting acted puts now)
going E door stage under pulse m ups downs r present up down me waiting acted puts now h =
    record { door = door; stage = stage; under = under; pulse = pulse; m = m; ups = ups; downs = downs; waiting = waiting; acted = acted; puts = puts; up = up; down = down; me = me; present = present; now = now; is = refl; goes = h }

pub lives : (E : Option Ldata → List Ldata → Type 0) (door : Door) (stage : Stage) (under : Under) (pulse : Pulse) (m : Nums) (ups : List Rise) (downs : List Fall) (r : List Entry) (present : ℕ) (up down : List Sent) (me : IndAddr) (waiting : List Ldata) (acted puts : List (ℕ × List ℕ)) (now : ℕ)
    → Goes E door stage under pulse m ups downs r present up down waiting now → IsPut door under waiting → Lives E r (tunnel_at door stage under m present up down me waiting acted puts now)
unfolding going
lives E door stage under pulse m ups downs r present up down me waiting acted puts now h put = record { going = going E door stage under pulse m ups downs r present up down me waiting acted puts now h; put = put }

-- what rides may be said otherwise
pub rides_over : (E F : Option Ldata → List Ldata → Type 0) (r : List Entry) (t : Tunnel) → ((fly : Option Ldata) (q : List Ldata) → E fly q → F fly q) → Going E r t → Going F r t
rides_over E F r t to g =
    let h = g.goes in
    record {
      door = g.door;
      stage = g.stage;
      under = g.under;
      pulse = g.pulse;
      m = g.m;
      ups = g.ups;
      downs = g.downs;
      waiting = g.waiting;
      acted = g.acted;
      puts = g.puts;
      up = g.up;
      down = g.down;
      me = g.me;
      present = g.present;
      now = g.now;
      is = g.is;
      goes = record {
        rising = h.rising;
        falling = h.falling;
        ups_are = h.ups_are;
        downs_are = h.downs_are;
        door_is = h.door_is;
        owed_is = h.owed_is;
        end_is = h.end_is;
        reads = h.reads;
        counts = h.counts;
        own = h.own;
        acked = h.acked;
        fits = h.fits;
        heard = h.heard;
        since = h.since;
        beat = h.beat;
        pace = h.pace;
        rides = to (flies_of g.stage) (queue_of g.under g.waiting) h.rides;
      };
    }

pub lives_over : (E F : Option Ldata → List Ldata → Type 0) (r : List Entry) (t : Tunnel) → ((fly : Option Ldata) (q : List Ldata) → E fly q → F fly q) → Lives E r t → Lives F r t
unfolding rides_over
lives_over E F r t to l = record { going = rides_over E F r t to l.going; put = l.put }

-- what rides on it
pub record Ridden (E : Option Ldata → List Ldata → Type 0) : Type 0 where
  pub fly : Option Ldata
  pub queue : List Ldata
  pub so : E fly queue

pub ridden : (E : Option Ldata → List Ldata → Type 0) (r : List Entry) (t : Tunnel) → Lives E r t → Ridden E
ridden E r t l = record { fly = flies_of l.going.stage; queue = queue_of l.going.under l.going.waiting; so = l.going.goes.rides }
