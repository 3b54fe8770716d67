use Rattle.std.proofs.Common.{ap}
use Rattle.shared_hub.proofs.Missing.{keeps_all}
use Rattle.shared_hub.proofs.listener.Listener.close.Goals as goal

pub returns-clause-heard : goal.returns-clause-heard
returns-clause-heard g c = keeps_all c.args.feed.put c.collect.new.self c.join.new.ear c.collect.new.ear c.miss_all.new.ear _ _ (ap (λ h. h.pushed) c.join.ensures.joined) c.collect.ensures.pushed c.collect.ensures.all c.collect.ensures.stops c.miss_all.ensures.missed
