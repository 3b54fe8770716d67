-- What a link tells of itself: nothing, as a socket; its record alone; or its start and its events, off which the record is read. And what a
-- sending, a new endpoint and a poll may do to that. A sending adds itself; a poll adds legal events that are not the client's, and then the
-- datagram that is got, or a quiet wait, at whose end nothing but time can go on. A call that fails may have added its own sending, or legal events
-- without a datagram. Where a link tells something, its clock is read in polls alone, and never runs back: a sending has the time that was told
-- before it. With an exact clock, as that of events is, a quiet poll lasts just its wait and no poll lasts longer; with one that runs a poll lasts as
-- long as it likes.
use Rattle.std.specs.Prelude.{◌≡◌, ℕ, ◌+◌, ◌<◌, ◌≤◌, ◌⊎◌, nat_lt, Bool, true, false, List, [], ◌∷◌, ◌++◌, length, Option, Some, None}
use Rattle.line_model.specs.Tunnel.{Commissions}
use Rattle.line_model.specs.World.{World, Event, Send, From, Renew, Down, Pass, now, replay}
use Rattle.line_model.specs.Legal.{MayHappen}
use Rattle.line_model.specs.Fresh.{IsFresh, Settled}
use Rattle.line_model.specs.Record.{Item, Put, Renewed, Got, Quiet, Entry, entry, item_at, record_of, Placed, placed, counted}

pub data Clock : Type 0 where
  Exact : Clock
  Running : Clock

pub data Story : Type 0 where
  Untold : Story
  Recorded : Clock → List Entry → Story
  Full : World → List Event → Story

abbrev pub clock_of : Story → Clock
clock_of Untold = Running
clock_of (Recorded clock r) = clock
clock_of (Full start events) = Exact

-- ---- what it says of record and places, where it tells them

abbrev pub record_in : Story → Option (List Entry)
record_in Untold = None
record_in (Recorded clock r) = Some r
record_in (Full start events) = Some (record_of start events)

abbrev pub places_in : Story → Option (List Placed)
places_in Untold = None
places_in (Recorded clock r) = Some (counted r)
places_in (Full start events) = Some (placed start events)

-- ---- its time and its place: how many events there were or, where the record alone is told, how many entries

abbrev pub newest_time : List Entry → ℕ
newest_time [] = 0
newest_time (x ∷ r) = x.now

-- both exactly: a link that tells something fails before either is greater than a number of 64 bits
abbrev pub IsTime : ℕ → Story → Type 0
IsTime time Untold = Unit {0}
IsTime time (Recorded clock r) = time ≡ newest_time r
IsTime time (Full start events) = time ≡ now (replay start events)

abbrev pub IsPlace : ℕ → Story → Type 0
IsPlace place Untold = Unit {0}
IsPlace place (Recorded clock r) = place ≡ length r
IsPlace place (Full start events) = place ≡ length events

-- nothing was done on it, and its world is fresh
abbrev pub IsNewLink : Story → Type 0
IsNewLink Untold = Unit {0}
IsNewLink (Recorded clock r) = r ≡ []
IsNewLink (Full start events) = (events ≡ []) × IsFresh start

-- ---- a sending and a new endpoint: one entry, with the time that was told before

abbrev pub Adds : Item → Event → Story → Story → Type 0
Adds what e before Untold = before ≡ Untold
Adds what e before (Recorded clock r) = (older : List Entry) × (before ≡ Recorded clock older) × (r ≡ entry what (newest_time older) ∷ older)
Adds what e before (Full start events) = (older : List Event) × (before ≡ Full start older) × (events ≡ e ∷ older)

abbrev pub Sends : List ℕ → Story → Story → Type 0
Sends octets before after = Adds (Put octets) (Send octets) before after

abbrev pub Renews : Story → Story → Type 0
Renews before after = Adds Renewed Renew before after

abbrev pub SendsOrNot : List ℕ → Story → Story → Type 0
SendsOrNot octets before after = Sends octets before after ⊎ (after ≡ before)

abbrev pub RenewsOrNot : Story → Story → Type 0
RenewsOrNot before after = Renews before after ⊎ (after ≡ before)

-- ---- a poll, by events

-- what may happen on its own: all but what the client does and gets. Where time passes it is some time, so that of the waits in one poll each
-- ends later than the one before
abbrev pub is_foreign : Event → Bool
is_foreign (Send octets) = false
is_foreign (From endpoint octets) = false
is_foreign Renew = false
is_foreign (Down age) = false
is_foreign (Pass ms) = nat_lt 0 ms
is_foreign _ = true

pub data GoesOn (start : World) (before : List Event) : List Event → Type 0 where
  Same : GoesOn start before before
  More : {events : List Event} (e : Event) → is_foreign e ≡ true → MayHappen Commissions (replay start events) e → GoesOn start before events → GoesOn start before (e ∷ events)

-- the last event brings the datagram, within the wait; or time passes, until the wait is over
abbrev pub EndsSo : Item → ℕ → ℕ → ℕ → Event → Type 0
EndsSo (Got octets) wait since until (Down age) = until ≤ since + wait
EndsSo Quiet wait since until (Pass ms) = until ≡ since + wait
EndsSo what wait since until e = ⊥

-- what is due when a quiet poll ends was done in it
abbrev pub EndsSettled : Item → World → Type 0
EndsSettled Quiet w = Settled Commissions w
EndsSettled what w = Unit {0}

pub record PollsFull (what : Item) (wait : ℕ) (start : World) (before after : List Event) : Type 0 where
  pub events : List Event
  pub foreign : GoesOn start before events
  pub last : Event
  pub legal : MayHappen Commissions (replay start events) last
  pub brings : item_at (replay start events) last ≡ Some what
  pub all : after ≡ last ∷ events
  pub ends : EndsSo what wait (now (replay start before)) (now (replay start after)) last
  pub settled : EndsSettled what (replay start after)

-- ---- a poll, by the record

abbrev pub last_wait : ℕ → List Entry → ℕ
last_wait since [] = since
last_wait since (x ∷ waits) = x.now

-- waits into which something fell, each of which ends later than the one before
abbrev pub AreWaits : ℕ → List Entry → Type 0
AreWaits since [] = Unit {0}
AreWaits since (x ∷ waits) = (x.what ≡ Quiet) × (last_wait since waits < x.now) × AreWaits since waits

-- with an exact clock: a datagram comes within the wait, and a quiet poll ends with it
abbrev pub EndsAt : Item → ℕ → ℕ → ℕ → Type 0
EndsAt Quiet wait since until = until ≡ since + wait
EndsAt what wait since until = until ≤ since + wait

-- with one that runs it ends at any time, and is one entry
abbrev pub EndsBy : Clock → Item → ℕ → ℕ → ℕ → List Entry → Type 0
EndsBy Exact what wait since until waits = EndsAt what wait since until
EndsBy Running what wait since until waits = waits ≡ []

pub record PollsRecord (clock : Clock) (what : Item) (wait until : ℕ) (before after : List Entry) : Type 0 where
  pub waits : List Entry
  pub are : AreWaits (newest_time before) waits
  pub later : last_wait (newest_time before) waits ≤ until
  pub ends : EndsBy clock what wait (newest_time before) until waits
  pub all : after ≡ entry what until ∷ (waits ++ before)

-- ---- a poll

abbrev pub Polls : Item → ℕ → ℕ → Story → Story → Type 0
Polls what wait until before Untold = before ≡ Untold
Polls what wait until before (Recorded clock r) = (older : List Entry) × (before ≡ Recorded clock older) × PollsRecord clock what wait until older r
Polls what wait until before (Full start events) = (older : List Event) × (before ≡ Full start older) × PollsFull what wait start older events

-- one that fails: legal events may have come within the wait, and no datagram
pub record FailsFull (wait : ℕ) (start : World) (before after : List Event) : Type 0 where
  pub foreign : GoesOn start before after
  pub in_time : now (replay start after) ≤ now (replay start before) + wait

abbrev pub PollsNothing : ℕ → Story → Story → Type 0
PollsNothing wait before Untold = before ≡ Untold
PollsNothing wait before (Recorded clock r) = before ≡ Recorded clock r
PollsNothing wait before (Full start events) = (older : List Event) × (before ≡ Full start older) × FailsFull wait start older events
