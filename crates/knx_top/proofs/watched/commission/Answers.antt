use Rattle.knx_top.proofs.Watches.{tells_by}
use Rattle.knx_top.proofs.watched.commission.Goals as goal

pub returns-clause-watched : goal.returns-clause-watched
returns-clause-watched g c = tells_by g.W.Watcher.watch c.args.run.quiet _ _ _ _ _ _ _ _ _ c.taken-watcher.ensures.told c.taken-watcher.ensures.quiet c.given_back.ensures.told c.given_back.ensures.quiet c.commission-link.ensures.watched
