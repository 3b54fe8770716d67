use Rattle.std.proofs.Common.{◌∙◌}
use Rattle.call_parts.specs.Options.{workers_of}
use Rattle.knx_top.proofs.DialledRuns.{taken_back, told_over}
use Rattle.knx_top.proofs.commands.download.run.Goals as goal

pub returns-clause-told : goal.returns-clause-told
returns-clause-told g c = rw c.hang.ensures.told
    (told_over (workers_of c.args.options.now) c.args.plans _ _ _ c.commission-line.result.1 c.new.ensures c.requires.good (rw (c.count.ensures.value ∙ c.workers.ensures) at c.commission-line.ensures.commissioned.tells) c.commission-line.ensures.tries)

pub returns-clause-counts : goal.returns-clause-counts
returns-clause-counts g c = taken_back g.D.L.Link.story g.D.L.Link.faults c.args.line c.commission-line.result.0 c.commission-line.result.1 c.requires.sound c.requires.new (g.D.Dialer.now c.args.dial.now) (g.D.Dialer.now c.hang.new.self) c.hang.ensures.told c.hang.ensures.counts c.commission-line.ensures.commissioned.counts

pub returns-clause-watched : goal.returns-clause-watched
returns-clause-watched g c = c.commission-line.ensures.watched
