use Rattle.std.proofs.Common.{rules}
use Rattle.telegram_router.proofs.Relays.{gets, learns}
use Rattle.telegram_router.proofs.router.Router.pop.Goals as goal

pub pop_as-requires-clause-rule : goal.pop_as-requires-clause-rule
pop_as-requires-clause-rule g c = (gets _ _ _ (search rules), learns _ _ _)
