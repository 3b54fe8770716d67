use Rattle.std.proofs.Common.{rules}
use Rattle.telegram_router.proofs.Relays.{sends, learns}
use Rattle.telegram_router.proofs.router.Router.push.Goals as goal

pub push_as-requires-clause-rule : goal.push_as-requires-clause-rule
push_as-requires-clause-rule g c = (sends _ _ _ _ _ (search rules) (search rules), learns _ _ _)
