-- The two ends of a router, as their holders see them (this project's own). The feed knows what was pushed, the ear what was popped, and an ear that has taken the feed in
-- knows both.
use Rattle.std.specs.Prelude.{◌≡◌, ℕ, ◌+◌, ◌≤◌, List, [], ◌∷◌, ◌++◌, length, Option, Some, None, IfSome}
use mathlib.Core.List.{IsPrefix}
use Rattle.atomic_table.specs.Seated.{TableId}
use Rattle.line_model.specs.declared.group.Indication.{Indication}

-- which router's feed it is, what was pushed, and how many of them had been popped by the last push that went in
pub record Feeding : Type 0 where
  pub router : TableId
  pub put : List Indication
  pub popped : ℕ

-- which router's ear it is, what was popped, and once it has the feed, all that was pushed
pub record Hearing : Type 0 where
  pub router : TableId
  pub got : List Indication
  pub pushed : Option (List Indication)

abbrev pub first_feed : TableId → Feeding
first_feed router = record { router = router; put = []; popped = 0 }

abbrev pub first_ear : TableId → Hearing
first_ear router = record { router = router; got = []; pushed = None }

abbrev pub with_pushed : Indication → ℕ → Feeding → Feeding
with_pushed heard popped feed = record feed { put = feed.put ++ heard ∷ []; popped = popped }

abbrev pub with_popped : Indication → Hearing → Hearing
with_popped heard ear = record ear { got = ear.got ++ heard ∷ [] }

abbrev pub with_feed : Feeding → Hearing → Hearing
with_feed feed ear = record ear { pushed = Some feed.put }

-- so many waited: some number had been popped, no fewer than by the last push, and just so many had not
abbrev pub WereWaiting : ℕ → Feeding → Type 0
WereWaiting n feed = (popped : ℕ) × (feed.popped ≤ popped) × (popped + n ≡ length feed.put)

-- what was popped is the beginning of what was pushed
abbrev pub IsInOrder : Hearing → Type 0
IsInOrder ear = IfSome ear.pushed (λ put. IsPrefix ear.got put)

-- what was popped is all that was pushed
abbrev pub HasHeardAll : Hearing → Type 0
HasHeardAll ear = IfSome ear.pushed (λ put. ear.got ≡ put)
