use Rattle.std.proofs.Common.{rules}
use Rattle.telegram_router.proofs.Relays.{merges, learns}
use Rattle.telegram_router.proofs.router.Router.join.Goals as goal

pub absorb-requires-clause-rule : goal.absorb-requires-clause-rule
absorb-requires-clause-rule c = merges _ _ _ _ _ (search rules) (search rules)

pub learn_as-requires-clause-rule : goal.learn_as-requires-clause-rule
learn_as-requires-clause-rule c = learns _ _ _
