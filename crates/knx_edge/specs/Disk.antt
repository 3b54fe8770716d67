-- What files on disk answer: which fault an error of the system is, and how often reads of a name failed.
use Rattle.std.specs.Prelude.{ℕ, List, bytes_eq}
use Rattle.std.specs.List.{count_by}
use Rattle.std.specs.declared.io.ErrorKind.{ErrorKind}
use Rattle.std.specs.declared.io.ErrorKind.TheVariants.{NotFound, NotADirectory, OutOfMemory}
use Rattle.knx_model.specs.declared.outside.files.FileFault.{FileFault}
use Rattle.knx_model.specs.declared.outside.files.FileFault.TheVariants.{NotThere, Failed, NoMemory}

-- No file is there, or a part of its path is no folder: it isn't there. Memory is told as itself. All else is a read that failed.
abbrev pub fault_of : ErrorKind → FileFault
fault_of NotFound = NotThere
fault_of NotADirectory = NotThere
fault_of OutOfMemory = NoMemory tt
fault_of _ = Failed

-- how often a name stands among those of the reads that failed
abbrev pub faults_of : List (List ℕ) → List ℕ → ℕ
faults_of failed name = count_by (λ other. bytes_eq other name) failed
