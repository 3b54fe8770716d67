-- Options and jobs: what stands behind the names of a command's files, in any order. A row for each front reads its value to the options that the words so far
-- say with one word more.
use Rattle.std.specs.Prelude.{ℕ, List, None, Option, Some, ◌∷◌, codes, false, [], unwrap_or}
use Rattle.std.specs.Option.{option_map}
use Rattle.call_words.specs.declared.job_word.JobKind.TheVariants as kind
use Rattle.call_parts.specs.Fronts.{Row, read_all}
use Rattle.call_parts.specs.OptionValues.{alone, from_1_to, most_workers, once, usual_workers, with_job}
use Rattle.call_parts.specs.declared.options.SimOptions.{SimOptions}

abbrev pub workers_of : SimOptions → ℕ
workers_of options = unwrap_or options.workers usual_workers

-- ---- the tables

abbrev pub no_options : SimOptions
no_options = record { catalogue = None; log = false; quiet = false; workers = None; jobs = [] }

-- the options of a command of one project
abbrev pub project_rows : SimOptions → List (Row SimOptions)
project_rows options = record { front = codes "catalogue="; reads = λ name. option_map (λ c. record options { catalogue = c }) (once options.catalogue (Some name)) } ∷ []

-- the options and the jobs of a run
abbrev pub run_rows : SimOptions → List (Row SimOptions)
run_rows options =
    record { front = codes "catalogue="; reads = λ name. option_map (λ c. record options { catalogue = c }) (once options.catalogue (Some name)) }
    ∷ record { front = codes "log"; reads = λ rest. option_map (λ is. record options { log = is }) (alone options.log rest) }
    ∷ record { front = codes "quiet"; reads = λ rest. option_map (λ is. record options { quiet = is }) (alone options.quiet rest) }
    ∷ record { front = codes "workers="; reads = λ number. option_map (λ w. record options { workers = w }) (once options.workers (from_1_to most_workers number)) }
    ∷ record { front = codes "load:"; reads = λ address. option_map (λ js. record options { jobs = js }) (with_job kind.Load options.jobs address) }
    ∷ record { front = codes "check:"; reads = λ address. option_map (λ js. record options { jobs = js }) (with_job kind.Check options.jobs address) }
    ∷ []

-- ---- what words say

abbrev pub project_options : List (List ℕ) → Option SimOptions
project_options words = read_all project_rows words no_options

abbrev pub sim_options : List (List ℕ) → Option SimOptions
sim_options words = read_all run_rows words no_options
