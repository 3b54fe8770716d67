-- Files in memory.
use Rattle.std.specs.Prelude.{ℕ, bytes_eq, List, [], ◌∷◌, if◌then◌else◌}
use Rattle.knx_model.specs.declared.outside.memory.MemoryFile.{MemoryFile}
use Rattle.knx_model.specs.Outside.{FileContent, Absent, Holds, one_more}

-- the first file of a name
abbrev pub content_of : List MemoryFile → List ℕ → FileContent
content_of [] name = Absent
content_of (file ∷ files) name = if bytes_eq file.name name then Holds file.content else content_of files name

-- how many reads of it failed
abbrev pub faults_of : List MemoryFile → List ℕ → ℕ
faults_of [] name = 0
faults_of (file ∷ files) name = if bytes_eq file.name name then file.faults else faults_of files name

-- one more read of it failed
abbrev pub with_fault : List ℕ → List MemoryFile → List MemoryFile
with_fault name [] = []
with_fault name (file ∷ files) = if bytes_eq file.name name then record file { faults = one_more file.faults } ∷ files else file ∷ with_fault name files
