use Rattle.std.proofs.Common.{◌∙◌, ap}
use Rattle.std.specs.Prelude.{slice_get}
use Rattle.network_sim.specs.Window.{Window}
use Rattle.network_sim.proofs.Windows.{got_kept, none_kept}
use Rattle.network_sim.proofs.sender.Sendings.get.Goals as goal

pub returns-clause-simulates : goal.returns-clause-simulates
returns-clause-simulates c = λ sent same young.
    c.get.ensures ∙ ap (λ (w : Window). slice_get w.kept c.args.age) c.self.view_is ∙ got_kept sent c.args.age c.args.self.now same young

pub returns-clause-older : goal.returns-clause-older
returns-clause-older c = λ old. c.get.ensures ∙ none_kept c.self.inside.kept.items c.args.age c.self.invariant.1 old
