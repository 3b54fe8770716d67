use Rattle.calm_law.proofs.time_passes_where_nothing_is_awaited_on_the_line.Goals as goal
use Rattle.calm_law.proofs.OnLine.{idly_on_line, kept_on_line}
use Rattle.calm_law.proofs.ShortFrames.{are_short}

pub returns-clause-idle : goal.returns-clause-idle
returns-clause-idle c = λ start events first legal calm values renews sends acknowledges paces puts.
    idly_on_line start events first legal calm (are_short start events first values calm) (record { renews = renews; sends = sends; acknowledges = acknowledges; paces = paces; puts = puts })

pub returns-clause-kept : goal.returns-clause-kept
returns-clause-kept c = λ start events first legal calm values renews sends acknowledges paces puts.
    kept_on_line start events first legal calm (are_short start events first values calm) (record { renews = renews; sends = sends; acknowledges = acknowledges; paces = paces; puts = puts })
