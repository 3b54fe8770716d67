-- What a call reads: the files of its words in the order catalogue, NEW or P, OLD, SCRIPT, up to the first read that is refused.
use Rattle.std.specs.Prelude.{ℕ, Bool, Err, List, None, Ok, Option, Some, unwrap_or, ◌≡◌, ◌≢◌, ◌∷◌, true, false, []}
use Rattle.knx_model.specs.Outside.{FileContent, MayRead, Rose}
use Rattle.knx_model.specs.declared.outside.files.FileFault.{FileFault}
use Rattle.call_parts.specs.declared.input.Reading.{Reading}
use Rattle.call_words.specs.declared.stop.Stop.{Stop}
use Rattle.call_parts.specs.declared.input.Reading.TheVariants as read
use Rattle.call_words.specs.declared.stop.Stop.TheVariants as stop
use Rattle.knx_model.specs.declared.outside.files.FileFault.TheVariants as fault

-- a text is read up to one octet more than it may have
abbrev pub limit : ℕ
limit = 4194305

-- ---- what came of a file

-- the reading goes on behind a file: its read wasn't refused, nor one before it
abbrev pub goes_on : Reading → Bool
goes_on read.Unnamed = true
goes_on read.Unread = false
goes_on (read.Whole octets) = true
goes_on (read.Fault why) = false

-- a file whose turn comes is read where it is named, and answers what is told of it; a file whose turn doesn't come isn't read
abbrev pub IsRead : (List ℕ → FileContent) → Bool → Option (List ℕ) → Reading → Type 0
IsRead file turn name read.Unread = turn ≡ false
IsRead file turn name read.Unnamed = (turn ≡ true) × (name ≡ None)
IsRead file turn None (read.Whole octets) = ⊥
IsRead file turn None (read.Fault why) = ⊥
IsRead file turn (Some name) (read.Whole octets) = (turn ≡ true) × MayRead (file name) limit (Ok octets)
IsRead file turn (Some name) (read.Fault why) = (turn ≡ true) × MayRead (file name) limit (Err why)

-- ---- the counts of faults

-- the file whose read failed, if it did
abbrev pub failed : Option (List ℕ) → Reading → Option (List ℕ)
failed (Some name) (read.Fault fault.Failed) = Some name
failed name reading = None

-- the first of some, if there is one
abbrev pub first_some : {A : Type 0} → List (Option A) → Option A
first_some [] = None
first_some (None ∷ others) = first_some others
first_some (Some x ∷ others) = Some x

-- the count of the one file rose, where there is one, and no other has changed
abbrev pub OnlyRose : Option (List ℕ) → (List ℕ → ℕ) → (List ℕ → ℕ) → Type 0
OnlyRose None before after = (other : List ℕ) → after other ≡ before other
OnlyRose (Some name) before after = Rose (before name) (after name) × ((other : List ℕ) → other ≢ name → after other ≡ before other)

-- ---- what was read, and why the call stops where a read was refused

-- the octets of a file; none where it wasn't read
abbrev pub octets_of : Reading → List ℕ
octets_of read.Unnamed = []
octets_of read.Unread = []
octets_of (read.Whole octets) = octets
octets_of (read.Fault why) = []

abbrev pub fault_told : List ℕ → FileFault → Stop
fault_told name fault.NotThere = stop.NotThere name
fault_told name fault.Failed = stop.ReadFailed name
fault_told name (fault.NoMemory want) = stop.NoMemory want

-- a read that was refused is told by the file's own name
abbrev pub fault_in : Option (List ℕ) → Reading → Option Stop
fault_in name (read.Fault why) = Some (fault_told (unwrap_or name []) why)
fault_in name reading = None
