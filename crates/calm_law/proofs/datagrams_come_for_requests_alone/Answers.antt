use Rattle.calm_law.proofs.OnLine.{come_on_line}
use Rattle.calm_law.proofs.ShortFrames.{are_short}
use Rattle.calm_law.proofs.datagrams_come_for_requests_alone.Goals as goal

pub returns : goal.returns
returns c = λ start events first legal calm values renews sends acknowledges paces puts.
    come_on_line start events first legal calm (are_short start events first values calm) (record { renews = renews; sends = sends; acknowledges = acknowledges; paces = paces; puts = puts })
