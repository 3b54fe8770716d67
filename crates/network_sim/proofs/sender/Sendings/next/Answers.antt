use Rattle.std.proofs.Common.{◌≡◌, ◌∙◌, sym, ap}
use Rattle.line_model.specs.Deliveries.{oldest}
use Rattle.network_sim.specs.Arriving.{passes}
use Rattle.network_sim.specs.Window.{Window}
use Rattle.network_sim.proofs.Deliveries.{next_is, oldest_kept}
use Rattle.network_sim.proofs.sender.Sendings.next.Goals as goal

-- none waits from the place on that is remembered
next_kept : (c : goal.After-oldest_first) → c.oldest_first.result ≡ oldest (passes c.args.reach c.args.made) 0 c.args.self.now.kept
next_kept c =
    next_is c.args.reach c.args.made c.self.inside.kept.items c.self.inside.waiting (record { few = c.self.invariant.1; none = c.self.invariant.3 }) c.oldest_first.result
    c.oldest_first.ensures.found c.oldest_first.ensures.none_older c.oldest_first.ensures.none
    ∙ ap (λ (w : Window). oldest (passes c.args.reach c.args.made) 0 w.kept) c.self.view_is

pub returns-clause-value : goal.returns-clause-value
returns-clause-value c = next_kept c

pub returns-clause-simulates : goal.returns-clause-simulates
returns-clause-simulates c = λ sent same. next_kept c ∙ sym (oldest_kept c.args.reach c.args.made sent c.args.self.now same)
