use Rattle.std.proofs.Common.{subst, ◌∙◌}
use Rattle.call_parts.specs.Given.{EndsAs}
use Rattle.knx_top.proofs.Calls.Assigns.{given_sim}
use Rattle.knx_top.proofs.commands.assign.give_on.Goals as goal

pub returns-in-Ok : goal.returns-in-Ok
returns-in-Ok g c = λ text b. (
  c.assign-bus.result.1,
  given_sim c.args.wanted text c.args.bus _ c.assign-bus.result.1 b c.what_stays_is_all_that_it_began_with.ensures c.a_bus_that_loses_nothing_is_calm.ensures c.a_text_without_losses_loses_nothing.ensures c.assign-bus.ensures.script c.keeps.ensures.fresh c.keeps.ensures.legal c.keeps.ensures.follows
      c.assign-bus.ensures.units c.assign-bus.ensures.determined c.requires.sound c.keeps.ensures.faults c.assign-bus.ensures.ends c.assign-bus.ensures.channel c.assign-bus.ensures.puts c.assign-bus.ensures.counts,
  subst (λ us. EndsAs c.args.wanted us c.assign-bus.result.1 c.of.result) (c.in-Ok.ensures ∙ c.units-now.ensures) c.of.ensures,
)

pub returns-in-Err : goal.returns-in-Err
returns-in-Err g c = λ text b. (
  c.assign-bus.result.1,
  given_sim c.args.wanted text c.args.bus _ c.assign-bus.result.1 b c.what_stays_is_all_that_it_began_with.ensures c.a_bus_that_loses_nothing_is_calm.ensures c.a_text_without_losses_loses_nothing.ensures c.assign-bus.ensures.script c.keeps.ensures.fresh c.keeps.ensures.legal c.keeps.ensures.follows
      c.assign-bus.ensures.units c.assign-bus.ensures.determined c.requires.sound c.keeps.ensures.faults c.assign-bus.ensures.ends c.assign-bus.ensures.channel c.assign-bus.ensures.puts c.assign-bus.ensures.counts,
  tt,
)
