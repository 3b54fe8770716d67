-- What a call adds to the places of its link's story, where that tells them: which entries, and what each of them put, took or lost. The newest
-- first. And when a poll is prompt.
use Rattle.std.specs.Prelude.{◌≡◌, ◌≢◌, ℕ, ◌<◌, ◌≤◌, ◌⊎◌, Bool, true, false, List, [], ◌∷◌, ◌++◌, length, Option, Some, None, Result, Ok, Err}
use Rattle.std.specs.List.{AllByRecursion, list_any}
use Rattle.knx_model.specs.declared.frames.cemi.Ldata.{Ldata}
use Rattle.line_model.specs.declared.fault.HubFault.{HubFault}
use Rattle.line_model.specs.Reading.{ldata_in}
use Rattle.line_model.specs.Record.{Quiet, Entry, Placed, entries, is_got, is_poll}
use Rattle.line_model.specs.LinkStory.{Story, Untold, Recorded, Full, places_in, newest_time}
use Rattle.line_model.specs.ClientView.{channel, Puts, Takes, Loses, Nothing, deed}
use Rattle.line_model.specs.Closing.{asks_to_end, is_open}
use Rattle.line_model.specs.Dropped.{is_dropped}
use Rattle.line_model.specs.Faults.{opens}
use Rattle.line_model.specs.Moments.{Moment, moments}
use Rattle.line_model.specs.Signs.{Every}
use Rattle.line_model.specs.Renews.{is_left, is_late, PollsPromptly}
use Rattle.line_model.specs.Asks.{HasPlace, moment_of}
use Rattle.tunnel_link.specs.Alone.{Each}
use Rattle.tunnel_link.specs.declared.came.Came.{Came}
use Rattle.tunnel_link.specs.declared.came.Loss.{Loss}
use Rattle.tunnel_link.specs.declared.came.Loss.TheVariants.{Stays, Ended, Told}
use Rattle.tunnel_link.specs.declared.came.What.{What}
use Rattle.tunnel_link.specs.declared.came.What.TheVariants as came
use Rattle.tunnel_link.specs.declared.known.Known.{Known}
use Rattle.tunnel_link.specs.Rights.{WhileFits}

-- ---- the place of a story that tells it: how many events there were or, where the record alone is told, how many entries

abbrev pub place_of : Story → ℕ
place_of Untold = 0
place_of (Recorded clock r) = length r
place_of (Full start events) = length events

-- ---- the places added to the old ones

abbrev pub moments_on : List Placed → List Placed → List Moment
moments_on old [] = []
moments_on old (p ∷ added) = moment_of (added ++ old) p ∷ moments_on old added

-- each lies above the place before the call, and not above that after it
pub record Added (before after : ℕ) (old added new : List Placed) : Type 0 where
  pub grow : new ≡ added ++ old
  pub entries_grow : entries new ≡ entries added ++ entries old
  pub moments_grow : moments new ≡ moments_on old added ++ moments old
  pub above : AllByRecursion (λ (p : Placed). before < p.at) added
  pub upto : AllByRecursion (λ (p : Placed). p.at ≤ after) added

-- from the old ones to those of this story, and of what was added P holds
pub record Grows (P : List Placed → List Placed → Type 0) (before after : ℕ) (old : List Placed) (story : Story) : Type 0 where
  pub new : List Placed
  pub told : places_in story ≡ Some new
  pub added : List Placed
  pub grown : Added before after old added new
  pub is : P old added

abbrev pub Growing : (List Placed → List Placed → Type 0) → Story → Story → Type 0
Growing P s t = (old : List Placed) → places_in s ≡ Some old → Grows P (place_of s) (place_of t) old t

-- ---- what the moments are

abbrev pub IsNothing : Moment → Type 0
IsNothing m = m.what ≡ Nothing

abbrev pub PutsNone : Moment → Type 0
PutsNone m = (octets : List ℕ) → m.what ≢ Puts octets

-- one of them is P, and the others are nothing
pub record One (P : Moment → Type 0) (l : List Moment) : Type 0 where
  pub newer : List Moment
  pub m : Moment
  pub older : List Moment
  pub all : l ≡ newer ++ m ∷ older
  pub is : P m
  pub newer_nothing : Every IsNothing newer
  pub older_nothing : Every IsNothing older

abbrev pub AllNothing : List Placed → List Placed → Type 0
AllNothing old added = Every IsNothing (moments_on old added)

-- ---- a new endpoint and its connect request

abbrev pub SeeksSo : Result Bool HubFault → List Placed → List Placed → Type 0
SeeksSo (Ok true) old added = (list_any (λ (p : Placed). is_poll p.what.what) added ≡ false) × (added ≢ [])
SeeksSo (Ok false) old added = (added ≡ []) × (is_left (channel (entries old)) ≡ false)
SeeksSo (Err fault) old added = Unit {0}

pub record Seeks (result : Result Bool HubFault) (old added : List Placed) : Type 0 where
  pub nothing : AllNothing old added
  pub so : SeeksSo result old added

-- ---- a request: at this place, which is the newest, and at the time that was told before, where the place in flight was free

abbrev pub PutsIt : List ℕ → ℕ → List Placed → List Placed → Type 0
PutsIt cemi at old added = moments_on old added ≡ record { what = Puts cemi; now = newest_time (entries old); at = at } ∷ []

abbrev pub PutsOne : {X : Type 0} → Result X HubFault → List ℕ → ℕ → List Placed → List Placed → Type 0
PutsOne (Ok x) cemi at old added = HasPlace (channel (entries old)) → PutsIt cemi at old added
PutsOne (Err fault) cemi at old added = HasPlace (channel (entries old)) → (added ≡ []) ⊎ PutsIt cemi at old added

-- ---- the end of the channel: asked for exactly where one is open

abbrev pub asks_end : List Placed → Bool
asks_end added = list_any (λ (p : Placed). asks_to_end p.what) added

abbrev pub LeavesSo : Result Bool HubFault → List Placed → List Placed → Type 0
LeavesSo (Ok asked) old added = (asked ≡ is_open (channel (entries old))) × (asks_end added ≡ asked) × (list_any (λ (p : Placed). is_poll p.what.what) added ≡ false) × (asked ≡ false → added ≡ [])
LeavesSo (Err fault) old added = Unit {0}

pub record Leaves (result : Result Bool HubFault) (old added : List Placed) : Type 0 where
  pub nothing : AllNothing old added
  pub so : LeavesSo result old added

-- ---- what is due: where nothing was sent nothing is late

pub record ActsSo (acted : Bool) (old added : List Placed) : Type 0 where
  pub unsent : acted ≡ false → (added ≡ []) × (is_late (channel (entries old)) (newest_time (entries old)) ≡ false)
  pub sent : acted ≡ true → added ≢ []
  pub only_sends : list_any (λ (p : Placed). is_poll p.what.what) added ≡ false
  pub asks_no_end : asks_end added ≡ false

-- of one of them, the request again or a heartbeat: where there is none nothing is late
pub record DuesOne (old added : List Placed) : Type 0 where
  pub nothing : AllNothing old added
  pub only_sends : list_any (λ (p : Placed). is_poll p.what.what) added ≡ false
  pub asks_no_end : asks_end added ≡ false
  pub some : added ≢ []

pub record DuesNone (old added : List Placed) : Type 0 where
  pub none : added ≡ []
  pub in_time : is_late (channel (entries old)) (newest_time (entries old)) ≡ false

abbrev pub Dues : Result Bool HubFault → List Placed → List Placed → Type 0
Dues (Ok true) old added = DuesOne old added
Dues (Ok false) old added = DuesNone old added
Dues (Err fault) old added = AllNothing old added

abbrev pub Acts : Result Bool HubFault → List Placed → List Placed → Type 0
Acts (Ok acted) old added = AllNothing old added × ActsSo acted old added
Acts (Err fault) old added = AllNothing old added

-- ---- a poll

-- what it got, by the entry and those before it
pub record IsFrame (frame : Ldata) (r : List Entry) (x : Entry) : Type 0 where
  pub octets : List ℕ
  pub taken : deed (channel r) x ≡ Takes octets
  pub reads : ldata_in octets ≡ Some frame

pub record IsDatagram (is_dropped_one : Bool) (r : List Entry) (x : Entry) : Type 0 where
  pub got : is_got x.what ≡ true
  pub drops : is_dropped r x ≡ is_dropped_one

abbrev pub GotSo : What → List Entry → Entry → Type 0
GotSo came.Quiet r x = x.what ≡ Quiet
GotSo came.Dropped r x = IsDatagram true r x × (opens (channel r) (channel (x ∷ r)) x ≡ None)
GotSo came.Tunnel r x = IsDatagram false r x × (opens (channel r) (channel (x ∷ r)) x ≡ None)
GotSo (came.Up tunnel) r x = IsDatagram false r x × (opens (channel r) (channel (x ∷ r)) x ≡ Some tunnel)
GotSo (came.Frame frame) r x = IsDatagram false r x × (opens (channel r) (channel (x ∷ r)) x ≡ None) × IsFrame frame r x

-- the frame was taken at this time
pub record TakesAt (frame : Ldata) (now : ℕ) (m : Moment) : Type 0 where
  pub octets : List ℕ
  pub takes : m.what ≡ Takes octets
  pub reads : ldata_in octets ≡ Some frame
  pub then : m.now ≡ now

abbrev pub OrLoses : Loss → List Moment → Type 0
OrLoses Stays l = Every IsNothing l
OrLoses Ended l = One (λ (m : Moment). m.what ≡ Loses) l
OrLoses Told l = One (λ (m : Moment). m.what ≡ Loses) l

-- a request was taken whose cEMI octets don't read
pub record TakesUnread (m : Moment) : Type 0 where
  pub octets : List ℕ
  pub takes : m.what ≡ Takes octets
  pub unread : ldata_in octets ≡ None

abbrev pub DoesSo : What → Loss → ℕ → List Moment → Type 0
DoesSo came.Quiet loss now l = OrLoses loss l
DoesSo came.Dropped loss now l = OrLoses loss l ⊎ (One TakesUnread l × (loss ≡ Stays))
DoesSo came.Tunnel loss now l = OrLoses loss l
DoesSo (came.Up tunnel) loss now l = OrLoses loss l × (loss ≡ Stays)
DoesSo (came.Frame frame) loss now l = One (TakesAt frame now) l × (loss ≡ Stays)

abbrev pub is_told : Loss → Bool
is_told Stays = false
is_told Ended = false
is_told Told = true

abbrev pub is_any : List Placed → Bool
is_any [] = false
is_any (p ∷ added) = true

-- the waits into which something fell, then what it got or the quiet wait, and at most one datagram that is sent
pub record Brings (came : Came) (old added : List Placed) : Type 0 where
  pub waits : List Placed
  pub last : Placed
  pub sent : List Placed
  pub parts : added ≡ sent ++ (last ∷ waits)
  pub quiet : AllByRecursion (λ (p : Placed). p.what.what ≡ Quiet) waits
  pub at_end : last.what.now ≡ newest_time (entries (added ++ old))
  pub polls : is_poll last.what.what ≡ true
  pub got : GotSo came.what (entries (waits ++ old)) last.what
  pub sends : list_any (λ (p : Placed). is_poll p.what.what) sent ≡ false
  pub tells : asks_end sent ≡ is_told came.loss
  pub answered : came.sent ≡ is_any sent
  pub does : DoesSo came.what came.loss (newest_time (entries (added ++ old))) (moments_on old added)

-- where it failed: nothing is put, and one thing at most is taken or lost
abbrev pub AtMostOne : List Moment → Type 0
AtMostOne l = Every IsNothing l ⊎ One PutsNone l

pub record Fails (old added : List Placed) : Type 0 where
  pub puts_none : Every PutsNone (moments_on old added)
  pub at_most_one : AtMostOne (moments_on old added)

abbrev pub PollAdds : Result Came HubFault → List Placed → List Placed → Type 0
PollAdds (Ok came) old added = Brings came old added
PollAdds (Err fault) old added = Fails old added

-- ---- promptness: each poll that was added was prompt

abbrev pub AllPrompt : List Placed → List Placed → Type 0
AllPrompt old added = Each PollsPromptly old added

-- nothing is late by the newest time
abbrev pub HasActed : Known → Story → Type 0
HasActed k story = WhileFits (λ r. is_late (channel r) (newest_time r) ≡ false) k story

-- nor is a new endpoint to be taken
pub record Ready (k : Known) (story : Story) : Type 0 where
  pub acted : HasActed k story
  pub sought : WhileFits (λ r. is_left (channel r) ≡ false) k story

-- ---- a deadline: before it nothing is late

abbrev pub IsBefore : ℕ → Option ℕ → Type 0
IsBefore t None = Unit {0}
IsBefore t (Some time) = t < time

abbrev pub TimelyBefore : Option ℕ → List Entry → Type 0
TimelyBefore deadline r = (t : ℕ) → newest_time r ≤ t → IsBefore t deadline → is_late (channel r) t ≡ false
