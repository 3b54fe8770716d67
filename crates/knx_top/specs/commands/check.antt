-- `check P`: how many devices, objects and links there are.
use Rattle.std.specs.Prelude.{ℕ, List, ◌≡◌}
use Rattle.knx_model.specs.Meaning.{Installation}
use Rattle.call_words.specs.ReportText.{counts_line}
use Rattle.knx_model.specs.Counts.{counts_of}

-- `check`: how many devices, objects and links there are
abbrev pub IsCountsText : Installation → List ℕ → Type 0
IsCountsText i text = text ≡ counts_line (counts_of i)
