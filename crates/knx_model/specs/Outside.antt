-- The outside: what files and sinks promise. A count is a number of 64 bits that stands still at its greatest.
use Rattle.std.specs.Prelude.{◌≡◌, ℕ, ◌+◌, ◌-◌, ◌^◌, ◌<◌, ◌⊎◌, min, List, ◌++◌, length, ◌≤◌, take, Option, Some, None, Result, Ok, Err}
use Rattle.knx_model.specs.declared.outside.files.FileFault.{FileFault}
use Rattle.knx_model.specs.declared.outside.files.FileFault.TheVariants.{NotThere, Failed, NoMemory}

-- ---- counts

abbrev pub greatest_count : ℕ
greatest_count = 2 ^ 64 - 1

abbrev pub one_more : ℕ → ℕ
one_more count = min (count + 1) greatest_count

-- a count rose in a call, or stands at its greatest
abbrev pub Rose : ℕ → ℕ → Type 0
Rose old new = (old < new) ⊎ (new ≡ greatest_count)

-- ---- files

-- what files tell of a name: nothing, that no file has it, or what its file holds
pub data FileContent : Type 0 where
  Untold : FileContent
  Absent : FileContent
  Holds : List ℕ → FileContent

-- what files tell: of each name what its file holds, and how many reads of it failed; and how many reads there were
pub record FilesNow : Type 0 where
  pub file : List ℕ → FileContent
  pub faults : List ℕ → ℕ
  pub reads : ℕ

-- What a read of at most `limit` octets may answer: the front of the file that is told, or that it isn't there just where it is absent.
-- Where nothing is told, at most so many octets are read.
abbrev pub MayRead : FileContent → ℕ → Result (List ℕ) FileFault → Type 0
MayRead Untold limit (Ok octets) = length octets ≤ limit
MayRead Untold limit (Err why) = Unit {0}
MayRead Absent limit (Ok octets) = ⊥
MayRead Absent limit (Err NotThere) = Unit {0}
MayRead Absent limit (Err Failed) = ⊥
MayRead Absent limit (Err (NoMemory want)) = Unit {0}
MayRead (Holds content) limit (Ok octets) = octets ≡ take limit content
MayRead (Holds content) limit (Err NotThere) = ⊥
MayRead (Holds content) limit (Err Failed) = Unit {0}
MayRead (Holds content) limit (Err (NoMemory want)) = Unit {0}

-- ---- a sink

-- what a sink tells: how many writes failed, how many writes there were, and all that was taken, where it tells that
pub record SinkNow : Type 0 where
  pub faults : ℕ
  pub writes : ℕ
  pub taken : Option (List ℕ)

-- these octets were written behind all that was written before, where a sink tells it
abbrev pub Wrote : List ℕ → Option (List ℕ) → Option (List ℕ) → Type 0
Wrote octets None after = after ≡ None
Wrote octets (Some before) after = after ≡ Some (before ++ octets)

-- the same of some front of these octets
abbrev pub WroteFront : List ℕ → Option (List ℕ) → Option (List ℕ) → Type 0
WroteFront octets before after = (n : ℕ) × Wrote (take n octets) before after

-- ---- a text that grows

-- a text was appended; where memory was wanting, nothing has changed
abbrev pub Appends : {A E : Type 0} → List ℕ → List ℕ → List ℕ → Result A E → Type 0
Appends text old new (Ok done) = new ≡ old ++ text
Appends text old new (Err why) = new ≡ old
