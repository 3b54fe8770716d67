use Rattle.std.proofs.Common.{sym, ◌∙◌}
use Rattle.hub_work.proofs.Lines.{found_elsewhere}
use Rattle.hub_work.proofs.work.Work.elsewhere.Goals as goal

pub returns : goal.returns
returns c = λ jobs of. c.first_elsewhere.ensures ∙ found_elsewhere jobs _ c.args.tunnel (of ∙ sym c.devices.ensures)
