use Rattle.std.proofs.Common.{◌∷◌, ◌∙◌, sym, ap, take}
use Rattle.circular_buffer.specs.Buffer.{buffer}
use Rattle.line_model.specs.Network.{Sent, new_datagram}
use Rattle.network_sim.proofs.Windows.{sent_one, sent_is}
use Rattle.network_sim.proofs.sender.Sendings.push.Goals as goal

pub returns-clause-simulates : goal.returns-clause-simulates
returns-clause-simulates c = λ sent same.
    sent_one sent (new_datagram c.args.octets.now c.args.endpoint c.args.made) _ (same ∙ sym c.self.view_is)
    ∙ sent_is _ c.self.inside.kept.items c.self.inside.count c.saturating_add-self-inside.result c.self.inside.kept.capacity c.push_front.new.self
    c.self.invariant.0 c.saturating_add-self-inside.ensures
    (c.push_front.ensures.items ∙ ap (λ (s : Sent). buffer (take c.self.inside.kept.capacity (s ∷ c.self.inside.kept.items)) c.self.inside.kept.capacity) c.new.ensures)
