-- What becomes of what is heard on its way to the report: it is put behind what was heard before or, where no place is left, counted as missed; the
-- first 4,096 always have a place. A count is a number of 64 bits that stands still at its greatest.
use Rattle.std.specs.Prelude.{◌≡◌, ◌⊎◌, ℕ, ◌+◌, ◌≤◌, min, ◌^◌, ◌-◌, List, [], ◌∷◌, ◌++◌, length, Some}
use Rattle.line_model.specs.declared.group.Indication.{Indication}
use Rattle.telegram_router.specs.Ends.{Hearing, HasHeardAll}
use Rattle.line_model.specs.declared.outside.fault_counts.FaultCounts.{FaultCounts}
use Rattle.line_model.specs.Lines.{Script}
use Rattle.line_model.specs.LinkStory.{Story}
use Rattle.hub_core.specs.Hears.{HearsSo}
use Rattle.hub_core.specs.Seen.{Seen}
use Rattle.hub_core.specs.Since.{Since}

-- one more was heard: it is behind the others, or is missed, where there were 4,096
abbrev pub KeepsOrMisses : Indication → List Indication → List Indication → ℕ → ℕ → Type 0
KeepsOrMisses one old new missed_before missed =
    ((new ≡ old ++ one ∷ []) × (missed ≡ missed_before))
    ⊎ ((4096 ≤ length old) × (new ≡ old) × (missed ≡ min (missed_before + 1) (2 ^ 64 - 1)))

-- each of these is missed
abbrev pub CountsAll : List Indication → ℕ → ℕ → Type 0
CountsAll rest missed_before missed = ((rest ≡ []) × (missed ≡ missed_before)) ⊎ (missed ≡ min (missed_before + length rest) (2 ^ 64 - 1))

-- all that was left in the queue was taken out of it, and each is missed
pub record MissesAll (old new : Hearing) (missed_before missed : ℕ) : Type 0 where
  pub rest : List Indication
  pub got : new.got ≡ old.got ++ rest
  pub pushed : new.pushed ≡ old.pushed
  pub all : HasHeardAll new
  pub counted : CountsAll rest missed_before missed

-- these are the first of all, 4,096 of them at least or all, and the rest are missed
pub record KeepsFirst (kept all : List Indication) (missed_before missed : ℕ) : Type 0 where
  pub rest : List Indication
  pub parts : all ≡ kept ++ rest
  pub first : (rest ≡ []) ⊎ (4096 ≤ length kept)
  pub counted : CountsAll rest missed_before missed

-- a hub of which no more has changed than how many it counts as missed
pub record SameButMissed {L : Type 0} (old new : Seen L) : Type 0 where
  pub link : new.link ≡ old.link
  pub jobs : new.jobs ≡ old.jobs
  pub devices : new.devices ≡ old.devices
  pub crew : new.crew ≡ old.crew
  pub turns : new.turns ≡ old.turns
  pub log : new.log ≡ old.log
  pub fault : new.fault ≡ old.fault
  pub closing : new.closing ≡ old.closing

-- a hub that goes on, whatever it counts as missed
abbrev pub GoesOnFrom : {L : Type 0} → (L → Story) → (L → Script) → (L → FaultCounts) → Seen L → Seen L → Type 0
GoesOnFrom story_of script_of faults_of old new = Since story_of script_of faults_of old (record new { missed = old.missed })

-- a call took one group indication
abbrev pub HearsOne : Story → Story → Type 0
HearsOne s t = (one : Indication) × HearsSo (Some one) s t
