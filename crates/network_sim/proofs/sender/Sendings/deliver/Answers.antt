use Rattle.std.proofs.Common.{◌∙◌, sym}
use Rattle.line_model.specs.Network.{once_more}
use Rattle.network_sim.proofs.Windows.{delivered_one, changed_is, still_kept_delivered}
use Rattle.network_sim.proofs.sender.Sendings.deliver.Goals as goal

pub invariant_of-self : goal.invariant_of-self
invariant_of-self c =
    still_kept_delivered c.self.inside.kept c.deliver_at.new.kept c.args.age c.self.inside.waiting c.up_to_oldest_waiting-self-inside.result c.self.invariant c.deliver_at.ensures
    c.up_to_oldest_waiting-self-inside.ensures.few c.up_to_oldest_waiting-self-inside.ensures.none_older

pub returns-clause-simulates : goal.returns-clause-simulates
returns-clause-simulates c = λ sent same.
    delivered_one sent c.args.age _ (same ∙ sym c.self.view_is)
    ∙ changed_is c.args.age once_more c.self.inside.kept.items c.self.inside.count c.self.inside.kept.capacity c.deliver_at.new.kept c.deliver_at.ensures
