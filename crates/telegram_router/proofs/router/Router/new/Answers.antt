use Rattle.std.proofs.Common.{rules}
use Rattle.telegram_router.proofs.Relays.{begins, forks}
use Rattle.telegram_router.proofs.router.Router.new.Goals as goal

pub ruled-requires-clause-rule : goal.ruled-requires-clause-rule
ruled-requires-clause-rule c = begins _

pub another-ear-requires-clause-rule : goal.another-ear-requires-clause-rule
another-ear-requires-clause-rule c = forks _ _ _ (search rules) (search rules)
