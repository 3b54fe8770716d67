use Rattle.hub_work.proofs.GroupWaits.{holds_back}
use Rattle.hub_work.proofs.NextTelegram.{some_telegram}
use Rattle.hub_work.proofs.Unfinished.{all_over, has_unfinished}
use Rattle.hub_work.proofs.work.Work.telegram.Goals as goal

pub returns-clause-right : goal.returns-clause-right
returns-clause-right c = some_telegram c.args.self.now c.request.result c.request.ensures.next c.request.ensures.in_time (λ jobs at books of none. all_over c.args.self.now jobs at books of none)

pub returns-clause-held : goal.returns-clause-held
returns-clause-held c = holds_back c.args.self.now c.request.result _ (has_unfinished c.args.self.now) c.request.ensures.in_time c.request.ensures.none
