use Rattle.hub_work.proofs.NextTelegram.{telegram_follows}
use Rattle.hub_work.proofs.work.Work.telegram_put.Goals as goal

pub returns-clause-follows : goal.returns-clause-follows
returns-clause-follows c = telegram_follows c.of_a_downloader.ensures c.args.self.now c.put.new.self c.put.ensures
