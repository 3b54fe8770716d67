-- The text of a report, computed.
use Rattle.std.proofs.Common.{◌≡◌, true, [], ◌∷◌, refl}
use Rattle.std.specs.Fmt.{digits}
use Rattle.call_words.specs.Printed.{line_report_text}
use Rattle.call_words.specs.Example.{report, job_words, shown, printed}

pub prints : line_report_text report job_words 3 (shown ∷ []) true ≡ printed
unfolding line_report_text digits
prints = refl
