-- How a run of a session with one device follows the run of the line: what the gateway put and the client hasn't taken, the channel that the client
-- got last, the frame that is in flight, and what of all this the session sees.
use Rattle.std.proofs.Common.{◌≡◌, ◌≢◌, ℕ, ◌<◌, ◌≤◌, ◌⊎◌, List, [], ◌∷◌, ◌++◌, Bool, true, false, Option, Some, None, if◌then◌else◌}
use Rattle.knx_model.specs.declared.address.IndAddr.{IndAddr}
use Rattle.knx_model.specs.declared.frames.cemi.Ldata.{Ldata}
use Rattle.knx_model.specs.Cemi.{Written as cemi_octets}
use Rattle.knx_model.specs.DeviceState.{DeviceState}
use Rattle.knx_model.specs.DeviceFrames.{own_frame}
use Rattle.line_model.specs.ActedOnce.{Has, in_channel, IsChannelOf}
use Rattle.line_model.specs.ChannelLost.{confirmed, last_frame}
use Rattle.line_model.specs.ClientView.{ClientChannel, Fresh, Sought, RefusedBy, Unanswered, Open, Lost, View, channel, views}
use Rattle.line_model.specs.Gateway.{Channel, Gateway, number_of, newest_place}
use Rattle.line_model.specs.Reading.{ldata_in, is_req, is_con}
use Rattle.line_model.specs.Record.{Entry}
use Rattle.line_model.specs.World.{World, me, now, on_bus}
use Rattle.session_law.specs.World.{Client, World as SessionWorld}
use Rattle.session_law.specs.Events as event
use Rattle.session_law.specs.Events.{Event as SessionEvent, replay, IsLegal}
use Rattle.tunnel_law.proofs.Inside.{Every}
use Rattle.line_law.proofs.Queue.{Items, is_its, is_by, messages, cons, puts_of, back}

-- ---- the frames of devices are their own

abbrev pub IsOwn : Ldata → Type 0
IsOwn f = f ≡ own_frame (record { raw = f.source }) f.group f.destination f.tpdu

abbrev pub IsFrameOf : ℕ → Ldata → Type 0
IsFrameOf b f = (f.source ≡ b) × IsOwn f

pub record IsOwned (b : ℕ) (d : DeviceState) : Type 0 where
  pub named : d.address.raw ≡ b
  pub frames : Every (IsFrameOf b) d.unsent

abbrev pub OwnIf : Option Ldata → Type 0
OwnIf None = Unit {0}
OwnIf (Some f) = IsOwn f

pub record Owned (w : World) : Type 0 where
  pub devices : (b : ℕ) (d : DeviceState) → w.devices b ≡ Some d → IsOwned b d
  pub echo : OwnIf w.echo

-- what is on its way to the client is a device's frame, or a confirmation that is read as it was written
abbrev pub IsTold : Ldata → Type 0
IsTold f = IsOwn f ⊎ ((is_con f.code ≡ true) × (ldata_in (cemi_octets f) ≡ Some f))

-- ---- the frame in flight

pub data Stage : Type 0 where
  Waits : Stage  -- the gateway didn't act on it
  OnBus : Stage  -- it waits for the bus
  Told : Stage  -- its confirmation is on its way
  Gone : Stage  -- its channel is closed at the gateway, and nothing is left of it

pub data Flight : Type 0 where
  Landed : Flight  -- the frame put last is confirmed, or none was put
  Flies : Ldata → Stage → Flight

abbrev pub NotServing : ℕ → Gateway → Type 0
NotServing base g = (g.channel ≡ None) ⊎ (newest_place g.makers ≢ base)

pub record Serves (base : ℕ) (g : Gateway) : Type 0 where
  pub place : newest_place g.makers ≡ base
  pub c : Channel
  pub is_up : g.channel ≡ Some c

abbrev pub StageIs : ℕ → Gateway → List Ldata → List (List ℕ) → List (List ℕ) → Ldata → Stage → Type 0
StageIs base g queue puts before f Waits = (in_channel base g.acted ≡ before) × (g.bus ≡ []) × (cons queue ≡ [])
StageIs base g queue puts before f OnBus = (in_channel base g.acted ≡ puts) × (g.bus ≡ f ∷ []) × (cons queue ≡ [])
StageIs base g queue puts before f Told = (in_channel base g.acted ≡ puts) × (g.bus ≡ []) × (con : Ldata) × (cons queue ≡ con ∷ []) × (con.group ≡ f.group) × (con.destination ≡ f.destination) × (con.tpdu ≡ f.tpdu)
StageIs base g queue puts before f Gone = NotServing base g × (g.bus ≡ []) × (cons queue ≡ [])

pub record FliesSo (base : ℕ) (g : Gateway) (queue : List Ldata) (puts : List (List ℕ)) (f : Ldata) (stage : Stage) : Type 0 where
  pub octets : List ℕ
  pub before : List (List ℕ)
  pub newest : puts ≡ octets ∷ before
  pub reads : ldata_in octets ≡ Some f
  pub request : is_req f.code ≡ true
  pub stage_is : StageIs base g queue puts before f stage

abbrev pub FlightIs : ℕ → Gateway → List Ldata → List (List ℕ) → Flight → Type 0
FlightIs base g queue puts Landed = (in_channel base g.acted ≡ puts) × (g.bus ≡ []) × (cons queue ≡ [])
FlightIs base g queue puts (Flies f stage) = FliesSo base g queue puts f stage

-- ---- the channel that the client got last: its place, its endpoint and its view, and the frame in flight

pub data Last : Type 0 where
  Never : Last
  Since : ℕ → ℕ → View → Flight → Last

abbrev pub IsOut : ClientChannel → Type 0
IsOut (Open c l) = ⊥
IsOut (Lost c) = ⊥
IsOut _ = Unit {0}

-- a frame that isn't confirmed is in flight, and that in flight is the one put last
abbrev pub OpenIs : Bool → Option Ldata → Flight → Type 0
OpenIs confirmed last Landed = Unit {0}
OpenIs confirmed last (Flies f stage) = (confirmed ≡ false) × (last ≡ Some f)

-- an endpoint at which no channel came up yet is later, and so is each of its channels
abbrev pub IsLater : ℕ → ℕ → ℕ → List ℕ → Type 0
IsLater base e present makers = (e < present) × ((k : ℕ) → Has makers k present → base < k)

abbrev pub ChannelIs : ℕ → ℕ → ℕ → List ℕ → Flight → ClientChannel → Type 0
ChannelIs base e present makers flight Fresh = IsLater base e present makers
ChannelIs base e present makers flight (Sought since) = IsLater base e present makers
ChannelIs base e present makers flight (RefusedBy status) = IsLater base e present makers
ChannelIs base e present makers flight Unanswered = IsLater base e present makers
ChannelIs base e present makers flight (Open c l) = (e ≡ present) × (c ≡ number_of base) × OpenIs (confirmed c l) (last_frame c l) flight
ChannelIs base e present makers flight (Lost c) = e ≡ present

abbrev pub ConAt : ℕ → ℕ × Ldata → Type 0
ConAt base x = is_con x.1.code ≡ true → x.0 ≡ base

abbrev pub IsLow : ℕ → ℕ × Ldata → Type 0
IsLow base x = base ≤ x.0

pub record JoinedIs (base e : ℕ) (v : View) (flight : Flight) (g : Gateway) (present : ℕ) (r : List Entry) (items : Items) (older : List (ℕ × List ℕ)) : Type 0 where
  pub made : Has g.makers base e
  pub view : Has (views r) e v
  pub number : v.number ≡ Some (number_of base)
  pub late : (k : ℕ) (other : View) → IsChannelOf g r k other → k ≤ base
  pub low : Every (IsLow base) items
  pub taken : in_channel base older ≡ v.takes
  pub olds : Every (λ (x : ℕ × List ℕ). x.0 ≤ base) older
  pub channel_is : ChannelIs base e present g.makers flight (channel r)
  pub con_items : Every (ConAt base) items
  pub serving : Serves base g ⊎ ((cons g.waiting ≡ []) × (g.bus ≡ []))
  pub flight_is : FlightIs base g (back items g.waiting) v.puts flight

pub record NeverIs (g : Gateway) (r : List Entry) (items : Items) (older : List (ℕ × List ℕ)) : Type 0 where
  pub none : (k : ℕ) (other : View) → ¬ IsChannelOf g r k other
  pub out : IsOut (channel r)
  pub bus : g.bus ≡ []
  pub quiet : cons (back items g.waiting) ≡ []
  pub empty : older ≡ []

abbrev pub LastIs : Last → Gateway → ℕ → List Entry → Items → List (ℕ × List ℕ) → Type 0
LastIs Never g present r items older = NeverIs g r items older
LastIs (Since base e v flight) g present r items older = JoinedIs base e v flight g present r items older

-- ---- the tunnel's two ends, as sessions need them

-- places never fall
abbrev pub IsSorted : Items → Type 0
IsSorted [] = Unit {0}
IsSorted (x ∷ l) = Every (λ (y : ℕ × Ldata). y.0 ≤ x.0) l × IsSorted l

pub record Pipe (g : Gateway) (present : ℕ) (r : List Entry) (items : Items) (older : List (ℕ × List ℕ)) (last : Last) : Type 0 where
  pub puts_are : g.puts ≡ puts_of items ++ older
  pub sorted : IsSorted items
  pub newest : Every (λ (x : ℕ × Ldata). x.0 ≤ newest_place g.makers) items
  pub frames : Every IsTold (back items g.waiting)
  pub last_is : LastIs last g present r items older

-- ---- the session

abbrev pub echo_of : ℕ → Option Ldata → Option Ldata
echo_of a None = None
echo_of a (Some f) = if is_by a f then Some f else None

pub record DeviceSide (a : ℕ) (w : World) (s : SessionWorld) : Type 0 where
  pub device : w.devices a ≡ Some s.device
  pub same_me : s.me ≡ me w
  pub same_now : s.now ≡ now w
  pub echo : s.echo ≡ echo_of a w.echo

-- the client's frame for the device that has still to go over the bus
abbrev pub FlyFor : ℕ → IndAddr → Last → Option Ldata → Type 0
FlyFor a address (Since base e v (Flies f Waits)) flying = is_its a f ≡ true → flying ≡ Some (on_bus address f)
FlyFor a address (Since base e v (Flies f OnBus)) flying = is_its a f ≡ true → flying ≡ Some (on_bus address f)
FlyFor a address _ flying = Unit {0}

abbrev pub InFlight : ℕ → Last → Type 0
InFlight a (Since base e v (Flies f stage)) = is_its a f ≡ true
InFlight a _ = ⊥

-- where a frame of the client isn't confirmed, it is that in flight
abbrev pub PendFor : ℕ → Last → Client → Type 0
PendFor a last c = c.joined ≡ true → c.pending ≡ true → InFlight a last

abbrev pub is_open : ClientChannel → Bool
is_open (Open c l) = true
is_open _ = false

pub record CoupledBy (a : ℕ) (w : World) (r : List Entry) (s : SessionWorld) (items : Items) (older : List (ℕ × List ℕ)) (last : Last) : Type 0 where
  pub side : DeviceSide a w s
  pub pipe : Pipe w.tunnel.gateway w.tunnel.present r items older last
  pub coming : s.coming ≡ messages a (back items w.tunnel.gateway.waiting)
  pub flying : FlyFor a (me w) last s.flying
  pub pending : PendFor a last s.client
  pub joined : s.client.joined ≡ is_open (channel r)

pub record Coupled (a : ℕ) (w : World) (r : List Entry) (s : SessionWorld) : Type 0 where
  pub items : Items
  pub older : List (ℕ × List ℕ)
  pub last : Last
  pub by : CoupledBy a w r s items older last

-- the events of the bus, in which the session's client does nothing
abbrev pub IsBus : SessionEvent → Type 0
IsBus event.Connects = ⊥
IsBus (event.Asks apdu) = ⊥
IsBus event.Waits = ⊥
IsBus event.Replies = ⊥
IsBus event.Leaves = ⊥
IsBus event.Takes = ⊥
IsBus event.Loses = ⊥
IsBus (event.Joins n) = ⊥
IsBus _ = Unit {0}

abbrev pub AreBus : List SessionEvent → Type 0
AreBus [] = Unit {0}
AreBus (e ∷ more) = IsBus e × AreBus more

-- so many more events of the session follow an event of the line
pub record Goes (a : ℕ) (w : World) (r : List Entry) (s : SessionWorld) : Type 0 where
  pub more : List SessionEvent
  pub legal : IsLegal s more
  pub silent : AreBus more
  pub coupled : Coupled a w r (replay s more)
