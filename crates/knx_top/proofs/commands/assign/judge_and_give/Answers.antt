use Rattle.knx_top.specs.commands.assign.{assign_sim_words_of, judged_units}
use Rattle.knx_top.proofs.Calls.Assigns.{begun_new, gives_or, units_unread}
use Rattle.knx_top.proofs.commands.assign.judge_and_give.Goals as goal

pub give_on-requires-clause-new : goal.give_on-requires-clause-new
give_on-requires-clause-new g c = (begun_new c.args.names.wanted (judged_units (assign_sim_words_of c.args.names) c.args.reading.now) _ c.in-Ok.ensures.ok).0

pub give_on-requires-clause-sound : goal.give_on-requires-clause-sound
give_on-requires-clause-sound g c = (begun_new c.args.names.wanted (judged_units (assign_sim_words_of c.args.names) c.args.reading.now) _ c.in-Ok.ensures.ok).1

pub returns-in-Ok : goal.returns-in-Ok
returns-in-Ok g c = gives_or c.args.names.wanted (judged_units (assign_sim_words_of c.args.names) c.args.reading.now) _ _ _ _ c.in-Ok.ensures.ok c.give_on.ensures

pub returns-in-Err : goal.returns-in-Err
returns-in-Err g c = units_unread c.args.names.wanted (judged_units (assign_sim_words_of c.args.names) c.args.reading.now) _ _ c.in-Err.ensures.err
