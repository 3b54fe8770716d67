-- How much of what came waits for the workers' turns, by the place of each, from 0: what comes adds one, and a turn takes one thing in.
use Rattle.std.specs.Prelude.{◌≡◌, ◌≢◌, ℕ, ◌+◌, ◌-◌, ◌≤◌, ◌⊎◌, Bool, true, false, is_some, List, [], ◌∷◌, Option, Some, None}
use Rattle.line_model.specs.ClientView.{Deed, Puts, Takes, Loses, Nothing}
use Rattle.line_model.specs.Moments.{Moment}
use Rattle.hub_work.specs.declared.crew.Held.{Held}
use Rattle.hub_work.specs.Books.{held_at}
use Rattle.hub_work.specs.Closes.{counted}

abbrev pub waiting_in : Option Held → ℕ
waiting_in None = 0
waiting_in (Some held) = held.came

abbrev pub waiting_at : List (Option Held) → ℕ → ℕ
waiting_at crew place = waiting_in (held_at crew place)

-- for each worker at most so much more
abbrev pub RisesBy : ℕ → List (Option Held) → List (Option Held) → Type 0
RisesBy n old new = (place : ℕ) → waiting_at new place ≤ waiting_at old place + n

-- the worker at a place holds a job
abbrev pub holds_at : List (Option Held) → ℕ → Bool
holds_at crew place = is_some (held_at crew place)

-- one more where something came; the count stands still at its type's end
abbrev pub after_coming : Bool → ℕ → ℕ
after_coming true n = counted n
after_coming false n = n

-- one more for each worker at whose place this holds, and for no other
abbrev pub RisesWhere : (ℕ → Bool) → List (Option Held) → List (Option Held) → Type 0
RisesWhere came old new = (place : ℕ) → waiting_at new place ≡ after_coming (came place) (waiting_at old place)

-- for each worker as before, or one more
abbrev pub OneEach : List (Option Held) → List (Option Held) → Type 0
OneEach old new = (place : ℕ) → (waiting_at new place ≡ waiting_at old place) ⊎ (waiting_at new place ≡ counted (waiting_at old place))

-- one less for the worker, from 1, where something waits for it
pub record TakesOneIn (worker : ℕ) (old new : List (Option Held)) : Type 0 where
  pub here : waiting_at new (worker - 1) ≡ waiting_at old (worker - 1) - 1
  pub others : (other : ℕ) → other ≢ worker - 1 → waiting_at new other ≡ waiting_at old other

-- ---- what comes: how many of the moments took something or lost the channel

abbrev pub comes : Deed → ℕ
comes (Puts octets) = 0
comes (Takes octets) = 1
comes Loses = 1
comes Nothing = 0

abbrev pub all_that_came : List Moment → ℕ
all_that_came [] = 0
all_that_came (m ∷ l) = comes m.what + all_that_came l
