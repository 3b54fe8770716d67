use Rattle.std.proofs.Common.{ℕ, ◌-◌, ◌∙◌, ap, Some, None, if◌then◌else◌}
use Rattle.std.specs.Prelude.{nat_lt}
use Rattle.network_sim.specs.Window.{Window, kept_age}
use Rattle.network_sim.proofs.Ages.{age_kept}
use Rattle.network_sim.proofs.sender.Sendings.age_of.Goals as goal

pub returns-clause-simulates : goal.returns-clause-simulates
returns-clause-simulates c = λ sent same tells.
    c.kept_age.ensures
    ∙ ap (λ (n : ℕ). if nat_lt (c.self.inside.count - c.args.number) n then Some (c.self.inside.count - c.args.number) else None) c.len.ensures.len
    ∙ ap (λ (w : Window). kept_age w c.args.number) c.self.view_is
    ∙ age_kept sent c.args.self.now c.args.number same tells
