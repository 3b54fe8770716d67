-- How a hub closes, by the record: how far its closing is after a call, what each answer of a closing says, and when the closing is over.
use Rattle.std.specs.Prelude.{◌≡◌, ◌↔◌, ℕ, Bool, true, false, not, ◌&&◌, ◌||◌, min, List, [], ◌∷◌, Option, Some, None, if◌then◌else◌}
use Rattle.std.specs.List.{list_any}
use Rattle.line_model.specs.Record.{Entry, entries, is_poll}
use Rattle.line_model.specs.LinkStory.{Story, newest_time}
use Rattle.line_model.specs.ClientView.{channel}
use Rattle.line_model.specs.Closing as line
use Rattle.tunnel_link.specs.declared.came.Loss.{Loss}
use Rattle.tunnel_link.specs.Adds.{is_told}
use Rattle.tunnel_link.specs.Rights.{WhereTold}
use Rattle.hub_work.specs.declared.closing.Closing.{Closing}
use Rattle.hub_core.specs.declared.answers.Finished.{Finished}
use Rattle.hub_core.specs.declared.answers.Finished.TheVariants as end
use Rattle.hub_work.specs.Closes.{closing_of, after_datagram, GoesOnAs}
use Rattle.hub_core.specs.Pumps.{AddsSo}

-- ---- how far it is

-- a hub's count of datagrams stands still at the end of its type
abbrev pub capped : line.Closing → line.Closing
capped (line.Listening since n) = line.Listening since (min n 4294967295)
capped (line.Leaving since n) = line.Leaving since (min n 4294967295)

abbrev pub HasCome : Option Closing → line.Closing → Type 0
HasCome None s = ⊥
HasCome (Some c) s = closing_of c ≡ capped s

-- after these entries, the newest first, where it was so before them
abbrev pub resumed : line.Closing → List Entry → line.Closing
resumed s [] = s
resumed s (x ∷ l) = line.after_entry x (resumed s l)

-- it asked to end the channel, or told of its loss
abbrev pub has_asked : Option Closing → Bool
has_asked None = false
has_asked (Some c) = not (line.is_listening (closing_of c))

-- ---- what a call does to it: once it has begun it goes on with what the call added

abbrev pub Resumes : Option Closing → Option Closing → List Entry → List Entry → Type 0
Resumes old new before added = (s : line.Closing) → HasCome old s → HasCome new (resumed s added)

-- a step of the closing begins it where it hasn't begun, with what that step adds
abbrev pub Closes : Option Closing → Option Closing → List Entry → List Entry → Type 0
Closes None new before added = HasCome new (line.closing (newest_time before) added)
Closes (Some c) new before added = Resumes (Some c) new before added

-- after a poll, by what became of the channel in it
abbrev pub after_poll : Bool → Loss → ℕ → line.Closing → line.Closing
after_poll got loss now s = if is_told loss then line.Leaving now 0 else (if got then after_datagram now s else s)

abbrev pub ClosesBy : Bool → Loss → ℕ → Option Closing → Option Closing → Type 0
ClosesBy got loss now old new = GoesOnAs (after_poll got loss now) old new

-- ---- whether it is over

abbrev pub IsOver : Option Closing → List Entry → Type 0
IsOver None r = ⊥
IsOver (Some c) r = line.is_over (channel r) (closing_of c) (newest_time r) ≡ true

abbrev pub OverExactly : Bool → Option Closing → Story → Type 0
OverExactly over closing story = WhereTold (λ places. (over ≡ true) ↔ IsOver closing (entries places)) story

-- the listening is over: the channel is to be asked to end
abbrev pub HasListened : Option Closing → ℕ → Type 0
HasListened None now = ⊥
HasListened (Some c) now = (line.is_listening (closing_of c) && line.has_waited (closing_of c) now) ≡ true

abbrev pub AsksNow : Option Closing → Story → Type 0
AsksNow closing story = WhereTold (λ places. HasListened closing (newest_time (entries places))) story

-- it has begun and hasn't waited enough yet
abbrev pub HasntWaited : Option Closing → ℕ → Type 0
HasntWaited None now = ⊥
HasntWaited (Some c) now = line.has_waited (closing_of c) now ≡ false

abbrev pub WaitsNow : Option Closing → Story → Type 0
WaitsNow closing story = WhereTold (λ places. HasntWaited closing (newest_time (entries places))) story

-- where it asked to end the channel it hasn't waited enough for the answer
abbrev pub MayAwait : Option Closing → ℕ → Type 0
MayAwait None now = Unit {0}
MayAwait (Some c) now = (not (line.is_listening (closing_of c)) && line.has_waited (closing_of c) now) ≡ false

abbrev pub MayAwaitNow : Option Closing → Story → Type 0
MayAwaitNow closing story = WhereTold (λ places. MayAwait closing (newest_time (entries places))) story

-- ---- the answers of a step of the closing: over exactly where it is over and no group telegram was heard

abbrev pub FinishesSo : Bool → Finished → Type 0
FinishesSo over (end.Heard heard) = Unit {0}
FinishesSo over end.Over = over ≡ true
FinishesSo over end.Going = over ≡ false

abbrev pub EndsAs : Finished → Option Closing → Story → Type 0
EndsAs (end.Heard heard) closing story = Unit {0}
EndsAs end.Over closing story = WhereTold (λ places. IsOver closing (entries places)) story
EndsAs end.Going closing story = WhereTold (λ places. ¬ IsOver closing (entries places)) story

-- and going only where the call polled, or asked to end the channel
abbrev pub has_done : List Entry → Bool
has_done added = list_any (λ (x : Entry). is_poll x.what || line.asks_to_end x) added

abbrev pub HasDone : List Entry → List Entry → Type 0
HasDone before added = has_done added ≡ true

abbrev pub GoesSo : Finished → Story → Story → Type 0
GoesSo (end.Heard heard) s t = Unit {0}
GoesSo end.Over s t = Unit {0}
GoesSo end.Going s t = AddsSo HasDone s t
