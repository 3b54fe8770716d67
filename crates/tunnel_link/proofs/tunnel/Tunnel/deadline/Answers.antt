use Rattle.std.proofs.Common.{◌≡◌, ℕ, Option, sym, subst}
use Rattle.line_model.specs.Record.{entries}
use Rattle.tunnel_link.specs.Adds.{TimelyBefore}
use Rattle.tunnel_link.specs.Kept.{next_due}
use Rattle.tunnel_link.proofs.Deadlines.{timely_before}
use Rattle.tunnel_link.proofs.tunnel.Tunnel.deadline.Goals as goal

pub returns-clause-told : goal.returns-clause-told
returns-clause-told g c =
    let same : (c.nearer.result ≡ next_due c.self.inside.known) = (cc) in
    rw (← c.self.view_is) (λ calm places p. subst (λ (d : Option ℕ). TimelyBefore d (entries places)) (sym same) (timely_before c.self.inside.known (entries places) ((c.self.invariant.kept places p).fits calm)))
