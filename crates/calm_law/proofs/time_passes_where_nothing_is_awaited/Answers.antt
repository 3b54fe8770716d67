use Rattle.calm_law.proofs.time_passes_where_nothing_is_awaited.Goals as goal
use Rattle.calm_law.proofs.Law.{idly, kept}

pub returns-clause-idle : goal.returns-clause-idle
returns-clause-idle c = λ me events legal calm renews sends acknowledges paces puts. idly me events legal calm (record { renews = renews; sends = sends; acknowledges = acknowledges; paces = paces; puts = puts })

pub returns-clause-kept : goal.returns-clause-kept
returns-clause-kept c = λ me events legal calm renews sends acknowledges paces puts. kept me events legal calm (record { renews = renews; sends = sends; acknowledges = acknowledges; paces = paces; puts = puts })
