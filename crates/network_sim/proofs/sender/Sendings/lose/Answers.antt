use Rattle.std.proofs.Common.{◌∙◌, sym}
use Rattle.line_model.specs.Network.{gone}
use Rattle.network_sim.proofs.Windows.{lost_one, changed_is, still_kept_lost}
use Rattle.network_sim.proofs.sender.Sendings.lose.Goals as goal

pub invariant_of-self : goal.invariant_of-self
invariant_of-self c =
    still_kept_lost c.self.inside.kept c.lose_at.new.kept c.args.age c.self.inside.waiting c.up_to_oldest_waiting-self-inside.result c.self.invariant c.lose_at.ensures
    c.up_to_oldest_waiting-self-inside.ensures.few c.up_to_oldest_waiting-self-inside.ensures.none_older

pub returns-clause-simulates : goal.returns-clause-simulates
returns-clause-simulates c = λ sent same.
    lost_one sent c.args.age _ (same ∙ sym c.self.view_is)
    ∙ changed_is c.args.age gone c.self.inside.kept.items c.self.inside.count c.self.inside.kept.capacity c.lose_at.new.kept c.lose_at.ensures
