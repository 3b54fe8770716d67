-- What contracts see of a log as it is written: its entries, the newest first, and for how many more there is room.
use Rattle.std.specs.Prelude.{ℕ, List, [], ◌∷◌, Option, Some, None}
use Rattle.line_model.specs.declared.log.LogEntry.{LogEntry}

pub record Written : Type 0 where
  pub entries : List LogEntry
  pub room : ℕ

abbrev pub newest : List LogEntry → Option LogEntry
newest [] = None
newest (e ∷ log) = Some e
