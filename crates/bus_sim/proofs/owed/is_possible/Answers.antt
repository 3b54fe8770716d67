use Rattle.std.proofs.Common.{ap, sym, ◌∙◌}
use Rattle.line_model.specs.Owed.{is_possible}
use Rattle.bus_sim.specs.Begun.{mode_of}
use Rattle.bus_sim.specs.Owing.{meant}
use Rattle.bus_sim.proofs.Owings.{can_tell}
use Rattle.bus_sim.specs.declared.owed.Owed.{Owed}
use Rattle.bus_sim.proofs.owed.is_possible.Goals as goal

pub returns-in-DeliverAgain : goal.returns-in-DeliverAgain
returns-in-DeliverAgain c = λ w is counted. c.is_some.ensures ∙ c.again_up.ensures.possible w is (can_tell _ w.tunnel.network.up counted.up) ∙ sym (ap (λ (o : Owed). is_possible (mode_of c.args.clients) w (meant o)) c.in-DeliverAgain.is)

pub returns-in-ReachAgain : goal.returns-in-ReachAgain
returns-in-ReachAgain c = λ w is counted. c.is_some-in-ReachAgain.ensures ∙ c.again_down.ensures.possible w is (can_tell _ w.tunnel.network.down counted.down) ∙ sym (ap (λ (o : Owed). is_possible (mode_of c.args.clients) w (meant o)) c.in-ReachAgain.is)
