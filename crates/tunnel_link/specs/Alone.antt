-- What the entries that a call adds leave alone, each by itself: the open channel, which isn't asked to end, and other channels, of which none is
-- sought.
use Rattle.std.specs.Prelude.{◌≡◌, true, false, List, [], ◌∷◌, ◌++◌}
use Rattle.line_model.specs.Reading.{is_connect_request}
use Rattle.line_model.specs.Record.{Entry, Placed, entries, put_in, is_renewal}
use Rattle.line_model.specs.ClientView.{channel}
use Rattle.line_model.specs.LinkStory.{newest_time}
use Rattle.line_model.specs.Closing.{asks_to_end, is_open}

-- P of each entry that was added, and of the record before it
abbrev pub Each : (List Entry → Entry → Type 0) → List Placed → List Placed → Type 0
Each P old [] = Unit {0}
Each P old (p ∷ added) = P (entries (added ++ old)) p.what × Each P old added

abbrev pub EndsNone : List Entry → Entry → Type 0
EndsNone r x = asks_to_end x ≡ true → is_open (channel r) ≡ false

-- no connect request is sent, and no new endpoint taken
pub record SeeksNone (r : List Entry) (x : Entry) : Type 0 where
  pub connects_not : is_connect_request (put_in x.what) ≡ false
  pub renews_not : is_renewal x.what ≡ false

pub record LeavesAlone (r : List Entry) (x : Entry) : Type 0 where
  pub ends_none : EndsNone r x
  pub seeks_none : SeeksNone r x

-- nothing, or one entry at the time that was told before, which seeks none
pub data SendsOnce (old : List Placed) : List Placed → Type 0 where
  Nothing : SendsOnce old []
  Once : (p : Placed) → p.what.now ≡ newest_time (entries old) → SeeksNone (entries old) p.what → SendsOnce old (p ∷ [])
