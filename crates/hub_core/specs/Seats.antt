-- How many workers a log is of.
use Rattle.std.specs.Prelude.{ℕ, ◌≤◌, List}
use Rattle.std.specs.List.{AllByRecursion}
use Rattle.line_model.specs.declared.log.LogEntry.{LogEntry}

-- each entry is made by one of so many workers, from 1, or by the group thread
abbrev pub IsOfWorkers : ℕ → List LogEntry → Type 0
IsOfWorkers workers log = AllByRecursion (λ (e : LogEntry). e.worker ≤ workers) log
