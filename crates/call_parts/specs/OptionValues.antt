-- The values behind the fronts of options and jobs.
use Rattle.std.specs.Prelude.{ℕ, Bool, List, None, Option, Some, nat_lt, ◌++◌, ◌∷◌, length, true, false, [], option_and_then, if◌then◌else◌}
use Rattle.call_words.specs.declared.job_word.JobKind.{JobKind}
use Rattle.call_words.specs.declared.job_word.JobWord.{JobWord}
use Rattle.knx_model.specs.Addresses.{ind_value, ◌>>=◌}
use Rattle.knx_model.specs.Numbers.{number_value, up_to}
use Rattle.call_parts.specs.Host.{unless_zero}

-- a number from 1 on, up to this one
abbrev pub from_1_to : ℕ → List ℕ → Option ℕ
from_1_to most word = option_and_then unless_zero (up_to most (number_value word))

-- a value that was read, where none stands yet; none for a value that doesn't read
abbrev pub once : {A : Type 0} → Option A → Option A → Option (Option A)
once None (Some value) = Some (Some value)
once None None = None
once (Some before) value = None

-- a word with nothing behind it, where it doesn't stand yet; none with something behind it
abbrev pub alone : Bool → List ℕ → Option Bool
alone false [] = Some true
alone false (octet ∷ more) = None
alone true rest = None

-- at most 8 downloaders work at once, and 4 where the words name no number
abbrev pub most_workers : ℕ
most_workers = 8

abbrev pub usual_workers : ℕ
usual_workers = 4

-- the words name at most 1,024 jobs
abbrev pub most_jobs : ℕ
most_jobs = 1024

-- these jobs and one more, of the device that has the address
abbrev pub with_job : JobKind → List JobWord → List ℕ → Option (List JobWord)
with_job kind jobs address = ind_value address >>= λ device. if nat_lt (length jobs) most_jobs then Some (jobs ++ record { device = device; kind = kind } ∷ []) else None
