-- What the answer of a pump says, by the record before it and after it, where the link tells them; and what each of its three calls adds.
use Rattle.std.specs.Prelude.{◌≡◌, ◌⊎◌, Bool, true, false, not, ◌&&◌, List, [], Some}
use Rattle.line_model.specs.Record.{Entry, Placed, entries}
use Rattle.line_model.specs.LinkStory.{Story, places_in, newest_time}
use Rattle.line_model.specs.ClientView.{channel}
use Rattle.line_model.specs.Pumped.{Adds, sends_nothing, drops_all, IsNothing, IsMoved, HasHeard}
use Rattle.line_model.specs.Renews.{is_left, is_late}
use Rattle.hub_core.specs.declared.answers.Pumped.{Pumped}
use Rattle.hub_core.specs.declared.answers.Pumped.TheVariants as pump

-- ---- of the record before a call, and of what it added

abbrev pub AddsSo : (List Entry → List Entry → Type 0) → Story → Story → Type 0
AddsSo P s t = (old new : List Placed) → places_in s ≡ Some old → places_in t ≡ Some new → (added : List Entry) × Adds (entries old) (entries new) added × P (entries old) added

-- ---- the answer, where the closing has begun or not

abbrev pub Says : Bool → Pumped → List Entry → List Entry → Type 0
Says closing pump.Nothing before added = IsNothing closing before added
Says closing pump.Moved before added = IsMoved closing before added
Says closing (pump.Heard heard) before added = HasHeard before added heard

abbrev pub PumpsSo : Bool → Pumped → Story → Story → Type 0
PumpsSo closing pumped s t = AddsSo (Says closing pumped) s t

-- ---- what is due, and a new endpoint: whether something was done, and where nothing was, there was no cause

pub record Does (is_due : List Entry → Bool) (did : Bool) (before added : List Entry) : Type 0 where
  pub sends : did ≡ true → sends_nothing added ≡ false
  pub nothing : did ≡ false → added ≡ []
  pub got_nothing : drops_all before added ≡ true
  pub no_cause : did ≡ false → is_due before ≡ false

abbrev pub is_late_now : List Entry → Bool
is_late_now before = is_late (channel before) (newest_time before)

-- once the closing has begun none is taken
abbrev pub is_left_now : Bool → List Entry → Bool
is_left_now closing before = not closing && is_left (channel before)

-- ---- a poll

abbrev pub Moves : Bool → List Entry → List Entry → Type 0
Moves moved before added = (sends_nothing added && drops_all before added) ≡ not moved

-- ---- how it answers: by whether it did something before its poll, and whether the poll moved something

abbrev pub AnswersSo : Bool → Bool → Pumped → Type 0
AnswersSo did moved pump.Nothing = (did ≡ false) × (moved ≡ false)
AnswersSo did moved pump.Moved = (did ≡ true) ⊎ (moved ≡ true)
AnswersSo did moved (pump.Heard heard) = Unit {0}
