use Rattle.knx_top.specs.commands.assign.{assign_sim_words_of}
use Rattle.knx_top.proofs.Calls.Assigns.{runs_assign_sim}
use Rattle.knx_top.proofs.commands.assign.call_sim.Goals as goal

pub returns-clause-told : goal.returns-clause-told
returns-clause-told g c = runs_assign_sim (assign_sim_words_of c.args.names) c.read_named-reading.result _ _ _ _ c.judge_and_give.result c.read_named-reading.ensures.read c.read_named-reading.ensures.counts c.judge_and_give.ensures
