use Rattle.std.proofs.Common.{arith}
use Rattle.call_parts.specs.Ending.{report_in}
use Rattle.knx_top.proofs.Present.{devices_there}
use Rattle.knx_top.proofs.Watches.{sim_tested}
use Rattle.knx_top.specs.commands.sim.{sim_words_of}
use Rattle.knx_top.proofs.Calls.Sims.{decided_run, decided_stop, of_order}
use Rattle.knx_top.proofs.commands.sim.run.commission.Goals as goal

pub run-requires-clause-new : goal.run-requires-clause-new
run-requires-clause-new g c = λ κs within. of_order _ _ _ c.in-Ok.ensures.ok (λ commission is. is.line.nothing)

pub run-requires-clause-one : goal.run-requires-clause-one
run-requires-clause-one g c = λ κs within. of_order _ _ _ c.in-Ok.ensures.ok (λ commission is. is.line.one)

pub run-requires-clause-sound : goal.run-requires-clause-sound
run-requires-clause-sound g c = λ κs within. of_order _ _ _ c.in-Ok.ensures.ok (λ commission is. is.sound)

pub run-requires-clause-few : goal.run-requires-clause-few
run-requires-clause-few g c = λ κs within. of_order _ _ _ c.in-Ok.ensures.ok (λ commission is. omega (arith, is.prepared.few))

pub run-requires-clause-good : goal.run-requires-clause-good
run-requires-clause-good g c = λ κs within. of_order _ _ _ c.in-Ok.ensures.ok (λ commission is. is.prepared.good)

pub run-requires-clause-few_turns : goal.run-requires-clause-few_turns
run-requires-clause-few_turns g c = λ κs within. of_order _ _ _ c.in-Ok.ensures.ok (λ commission is. omega (arith, is.prepared.few_turns))

pub run-requires-clause-sendable : goal.run-requires-clause-sendable
run-requires-clause-sendable g c = λ κs within. of_order _ _ _ c.in-Ok.ensures.ok (λ commission is. is.prepared.sendable)

pub run-requires-clause-devices : goal.run-requires-clause-devices
run-requires-clause-devices g c = λ κs within. of_order _ _ _ c.in-Ok.ensures.ok (λ commission is. devices_there commission _ is)

pub returns-in-Ok-clause-comes : goal.returns-in-Ok-clause-comes
returns-in-Ok-clause-comes g c = decided_run (sim_words_of c.args.names.now) c.args.texts.now _ _ _ _ c.in-Ok.ensures.ok c.run.ensures.runs

pub returns-in-Err-clause-comes : goal.returns-in-Err-clause-comes
returns-in-Err-clause-comes g c = decided_stop _ _ _ c.in-Err.ensures.err

pub returns-in-Ok-clause-watched : goal.returns-in-Ok-clause-watched
returns-in-Ok-clause-watched g c = sim_tested (sim_words_of c.args.names.now) c.args.texts.now c.in-Ok.order _ _ c.in-Ok.ensures.ok (report_in c.run.result) c.run.ensures.watched
