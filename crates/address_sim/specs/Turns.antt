-- What the calls of a run do to it: nothing, or one event more, for which there is room.
use Rattle.std.specs.Prelude.{◌≡◌, ℕ, ◌+◌, ◌^◌, ◌<◌, ◌≤◌, Bool, true, false, List, [], length, Option, Some, None, slice_get}
use Rattle.line_model.specs.Deliveries.{next_up, next_down}
use Rattle.line_model.specs.Gateway.{gateway_expired, Nothing}
use Rattle.line_model.specs.LinkStory.{Polls}
use Rattle.line_model.specs.Network.{OfSent}
use Rattle.line_model.specs.Record.{Got, Quiet}
use Rattle.line_model.specs.Tunnel.{Commissions}
use Rattle.address_world.specs.AddressWorld.{AddressWorld, AddressEvent, Send, Renew, Down, Pass}
use Rattle.address_world.specs.AddressLegal.{MayHappen}
use Rattle.address_world.specs.AddressStory.{record_of}
use Rattle.address_sim.specs.declared.poll.Settled.{Settled}
use Rattle.address_sim.specs.declared.poll.Settled.TheVariants as settled
use Rattle.address_sim.specs.declared.run.Beginning.{Beginning}
use Rattle.address_law.specs.Calm.{AllSent}
use Rattle.address_sim.specs.Follows.{IsInPlace}
use Rattle.address_sim.specs.Told.{Begun, RunNow, happened, start, story, time, world as world_of}

abbrev pub begun_of : Beginning → Begun
begun_of b = record { tunnel = b.tunnel; units = b.units; losses = b.losses }

-- a run, and for how many more events there is room
pub record RunState : Type 0 where
  pub begun : Begun
  pub events : List AddressEvent
  pub room : ℕ

abbrev pub seen : RunState → RunNow
seen r = record { begun = r.begun; events = r.events }

abbrev pub world : RunState → AddressWorld
world r = world_of (seen r)

abbrev pub now : RunState → ℕ
now r = (world r).tunnel.now

-- ---- one event more

abbrev pub Stays : RunState → RunState → Type 0
Stays old new = seen new ≡ seen old

abbrev pub Went : RunState → AddressEvent → RunState → Type 0
Went old e new = seen new ≡ happened (seen old) e

-- it may happen now, and it is the one that the text wants
pub record IsRight (r : RunState) (e : AddressEvent) : Type 0 where
  pub may : MayHappen (world r) e
  pub next : IsInPlace r.begun.losses (start (seen r)) r.events e

pub record Happens (old : RunState) (e : AddressEvent) (new : RunState) : Type 0 where
  pub went : Went old e new
  pub right : IsRight old e

-- ---- room

pub record HasRoom (more : ℕ) (r : RunState) : Type 0 where
  pub room : more ≤ r.room
  pub few : length r.events + more < 2 ^ 63

-- room for so many events more than there is afterwards
abbrev pub Spends : ℕ → RunState → RunState → Type 0
Spends spent old new = (more : ℕ) → HasRoom (more + spent) old → HasRoom more new

-- ---- what the client doesn't do nor get, and takes no time: nothing of it is in the record

abbrev pub is_unseen : AddressEvent → Bool
is_unseen (Send octets) = false
is_unseen Renew = false
is_unseen (Down age) = false
is_unseen (Pass ms) = false
is_unseen _ = true

-- one such event, or none
pub record GoesUnseen (old new : RunState) : Type 0 where
  pub event : AddressEvent
  pub happens : Happens old event new
  pub unseen : is_unseen event ≡ true

-- ---- where nothing goes to the gateway, over the bus or from a unit

pub record IsQuiet (w : AddressWorld) : Type 0 where
  pub up : next_up w.tunnel ≡ None
  pub bus : w.tunnel.gateway.bus ≡ []
  pub units : AllSent w.units

-- nor to the client
abbrev pub NothingComes : AddressWorld → Type 0
NothingComes w = next_down Commissions w.tunnel ≡ None

abbrev pub NothingDue : AddressWorld → Type 0
NothingDue w = gateway_expired w.tunnel.gateway w.tunnel.now ≡ Nothing

-- nothing but time can go on
pub record IsCalm (w : AddressWorld) : Type 0 where
  pub quiet : IsQuiet w
  pub comes : NothingComes w
  pub due : NothingDue w

-- ---- what the client gets

pub record Gets (octets : List ℕ) (old new : RunState) : Type 0 where
  pub age : ℕ
  pub happens : Happens old (Down age) new
  pub got : OfSent (λ s. s.octets ≡ octets) (slice_get (world old).tunnel.network.down age)
  pub short : length octets ≤ 300

-- ---- the record

-- what happened can't be seen in the record, and took no time
pub record SameRecord (old new : RunNow) : Type 0 where
  pub begun : new.begun ≡ old.begun
  pub entries : record_of (start new) new.events ≡ record_of (start old) old.events
  pub time : time new ≡ time old

-- what the client got within the wait, if anything
abbrev pub EndedSo : Option (List ℕ) → ℕ → RunNow → RunNow → Type 0
EndedSo (Some octets) wait old new = (length octets ≤ 300) × Polls (Got octets) wait (time new) (story old) (story new)
EndedSo None wait old new = Polls Quiet wait (time new) (story old) (story new)

-- where all that can happen at once has happened: the client got something within any wait, or nothing but time can go on
abbrev pub SettledSo : Settled → RunNow → RunNow → Type 0
SettledSo (settled.Got octets) old new = (wait : ℕ) → EndedSo (Some octets) wait old new
SettledSo settled.Quiet old new = SameRecord old new × IsCalm (world_of new)
