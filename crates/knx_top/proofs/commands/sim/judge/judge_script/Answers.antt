use Rattle.knx_top.proofs.Ordered.{strange_ends}
use Rattle.knx_top.proofs.commands.sim.judge.judge_script.Goals as goal

pub judge_jobs-requires-clause-begins : goal.judge_jobs-requires-clause-begins
judge_jobs-requires-clause-begins g c κs within = c.in-Ok.ensures.begun

pub judge_jobs-requires-clause-sound : goal.judge_jobs-requires-clause-sound
judge_jobs-requires-clause-sound g c κs within = c.in-Ok.ensures.sound

pub returns-in-Ok-clause-ok : goal.returns-in-Ok-clause-ok
returns-in-Ok-clause-ok g c = c.judge_jobs.ensures.ok

pub returns-in-Ok-clause-err : goal.returns-in-Ok-clause-err
returns-in-Ok-clause-err g c = c.judge_jobs.ensures.err

pub returns-in-Err-clause-err : goal.returns-in-Err-clause-err
returns-in-Err-clause-err g c = strange_ends c.args.options.now c.args.new.now c.args.old.now c.args.script.now.lines c.in-Err.why c.in-Err.ensures.refused
