-- A fault is counted with the file of its name, and with no other.
use Rattle.std.proofs.Common.{◌≡◌, ◌≢◌, ℕ, ◌+◌, ◌<◌, Bool, true, false, List, [], ◌∷◌, ◌++◌, length, get_or, set, take, drop, bytes_eq, refl, sym, ap, ◌∙◌, arith}
use Rattle.std.specs.Prelude.{if◌then◌else◌}
use Rattle.std.proofs.lemmas.List.{take-append-drop, take-set, drop-set, drop_more}
use Rattle.std.proofs.lemmas.Slice.Eq.{bytes_eq-Decides}
use Rattle.knx_model.specs.declared.outside.memory.MemoryFile.{MemoryFile}
use Rattle.knx_model.specs.Memory.{content_of, faults_of, with_fault}
use Rattle.knx_model.specs.Outside.{FileContent, Absent, Holds, Rose, one_more}

-- ---- the loop

set_at : (files : List MemoryFile) (i : ℕ) (file : MemoryFile) → i < length files → set files i file ≡ take i files ++ (file ∷ drop (i + 1) files)
set_at files i file below = sym (take-append-drop i (set files i file)) ∙ rw (take-set files i file, drop-set files i file below) refl

at_name : (b : Bool) (name : List ℕ) (file : MemoryFile) (files : List MemoryFile) → b ≡ true → bytes_eq file.name name ≡ b → with_fault name (file ∷ files) ≡ record file { faults = one_more file.faults } ∷ files
at_name b name file files e same = rw (same, e) refl

pub counted_at : (files old : List MemoryFile) (i : ℕ) (name : List ℕ) (file changed : MemoryFile) → i < length files → get_or files i file ≡ file → bytes_eq file.name name ≡ true → changed ≡ record file { faults = one_more file.faults }
    → files ≡ old → with_fault name files ≡ take i files ++ with_fault name (drop i files) → set files i changed ≡ with_fault name old
counted_at files old i name file changed below is same change unchanged front =
    let rest : drop i files ≡ file ∷ drop (i + 1) files = drop_more files i file below ∙ ap (λ (f : MemoryFile). f ∷ drop (i + 1) files) is in
    let here : with_fault name (drop i files) ≡ changed ∷ drop (i + 1) files = rw (rest, at_name true name file (drop (i + 1) files) refl same, change) refl in
    set_at files i changed below ∙ (ap (λ (l : List MemoryFile). take i files ++ l) (sym here) ∙ (sym front ∙ ap (with_fault name) unchanged))

-- ---- what is told of the files then

content_step : (b : Bool) (name other : List ℕ) (file : MemoryFile) (files : List MemoryFile) → content_of (with_fault name files) other ≡ content_of files other
    → content_of (if b then record file { faults = one_more file.faults } ∷ files else file ∷ with_fault name files) other ≡ content_of (file ∷ files) other
content_step true name other file files same = refl
content_step false name other file files same = ap (λ (c : FileContent). if bytes_eq file.name other then Holds file.content else c) same

pub content-with_fault : (files : List MemoryFile) (name other : List ℕ) → content_of (with_fault name files) other ≡ content_of files other
content-with_fault [] name other = refl
content-with_fault (file ∷ files) name other = content_step (bytes_eq file.name name) name other file files (content-with_fault files name other)

differs : (b : Bool) (one name other : List ℕ) → bytes_eq one other ≡ b → bytes_eq one name ≡ true → other ≢ name → b ≡ false
differs true one name other is same apart = absurd (apart (sym ((bytes_eq-Decides one other).0 is) ∙ (bytes_eq-Decides one name).0 same))
differs false one name other is same apart = refl

other_step : (b : Bool) (name other : List ℕ) (file : MemoryFile) (files : List MemoryFile) → bytes_eq file.name name ≡ b → other ≢ name → faults_of (with_fault name files) other ≡ faults_of files other
    → faults_of (if b then record file { faults = one_more file.faults } ∷ files else file ∷ with_fault name files) other ≡ faults_of (file ∷ files) other
other_step true name other file files is apart same = rw (differs (bytes_eq file.name other) file.name name other refl is apart) refl
other_step false name other file files is apart same = ap (λ (n : ℕ). if bytes_eq file.name other then file.faults else n) same

pub faults-with_fault_other : (files : List MemoryFile) (name other : List ℕ) → other ≢ name → faults_of (with_fault name files) other ≡ faults_of files other
faults-with_fault_other [] name other apart = refl
faults-with_fault_other (file ∷ files) name other apart = other_step (bytes_eq file.name name) name other file files refl apart (faults-with_fault_other files name other apart)

rose_step : (b : Bool) (name : List ℕ) (file : MemoryFile) (files : List MemoryFile) → bytes_eq file.name name ≡ b → (content_of files name ≢ Absent → Rose (faults_of files name) (faults_of (with_fault name files) name))
    → (if b then Holds file.content else content_of files name) ≢ Absent
    → Rose (if b then file.faults else faults_of files name) (faults_of (if b then record file { faults = one_more file.faults } ∷ files else file ∷ with_fault name files) name)
rose_step true name file files is rose there = rw is (one_rose file.faults)
  where
    one_rose : (n : ℕ) → Rose n (one_more n)
    one_rose n = grind arith
rose_step false name file files is rose there = rw is (rose there)

-- the count of a file that is there rises
pub faults-with_fault : (files : List MemoryFile) (name : List ℕ) → content_of files name ≢ Absent → Rose (faults_of files name) (faults_of (with_fault name files) name)
faults-with_fault [] name there = absurd (there refl)
faults-with_fault (file ∷ files) name there = rose_step (bytes_eq file.name name) name file files refl (faults-with_fault files name) there

-- ---- the same of files that a fault was counted with

pub rose_in : (files new : List MemoryFile) (name content : List ℕ) → new ≡ with_fault name files → content_of files name ≡ Holds content → Rose (faults_of files name) (faults_of new name)
rose_in files new name content is there = rw is (faults-with_fault files name (λ absent. let h : Holds content ≡ Absent = sym there ∙ absent in cc))

pub others_in : (files new : List MemoryFile) (name other : List ℕ) → new ≡ with_fault name files → other ≢ name → faults_of new other ≡ faults_of files other
others_in files new name other is apart = rw is (faults-with_fault_other files name other apart)

pub told_in : (files new : List MemoryFile) (name other : List ℕ) → new ≡ with_fault name files → content_of new other ≡ content_of files other
told_in files new name other is = rw is (content-with_fault files name other)
