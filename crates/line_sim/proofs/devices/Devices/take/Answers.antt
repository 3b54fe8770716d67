use Rattle.std.proofs.Common.{option_to_list, sym, ◌∙◌}
use Rattle.std.proofs.lemmas.Result.{on_ok_weaker}
use Rattle.line_sim.proofs.Coming.{among_one, comes_to_it, comes_to_none}
use Rattle.line_sim.proofs.devices.Devices.take.Goals as goal

pub returns-then-eq-clause-next : goal.returns-then-eq-clause-next
returns-then-eq-clause-next c =
    comes_to_none c.args.self.now c.args.now (option_to_list c.args.without) c.args.frame.now c.names.ensures c.if-frame.false (among_one c.args.without c.args.frame.now.destination ∙ sym c.eq.ensures ∙ c.if-eq.true)

pub returns-clause-next : goal.returns-clause-next
returns-clause-next c =
    on_ok_weaker c.take_alone.result (comes_to_it c.args.self.now c.take_alone.new.self c.args.now (option_to_list c.args.without) c.args.frame.now c.names.ensures c.if-frame.false
    (among_one c.args.without c.args.frame.now.destination ∙ sym c.eq.ensures ∙ c.if-eq.false)) c.take_alone.ensures.next
