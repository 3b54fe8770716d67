use Rattle.std.proofs.Common.{sym, ◌∙◌}
use Rattle.knx_top.proofs.Ordered.{unknown_ends, ordered}
use Rattle.knx_top.proofs.commands.sim.judge.judge_jobs.Goals as goal

pub returns-then-not-are_known-clause-err : goal.returns-then-not-are_known-clause-err
returns-then-not-are_known-clause-err g c = λ _. rw c.unknown_job.ensures
    (unknown_ends c.args.options.now c.args.new.now c.args.old.now c.args.script.now.lines c.as_slice-named.result.now c.args.line c.requires.begins c.as_slice-named.ensures.value (sym c.are_known.ensures ∙ c.if-not-are_known.true))

pub returns-clause-ok : goal.returns-clause-ok
returns-clause-ok g c =
    ordered c.args.options.now c.args.new.now c.args.old.now c.args.script.now.lines c.as_slice-named.result.now c.args.line c.in_ok-order.order c.requires.begins c.as_slice-named.ensures.value (sym c.are_known.ensures ∙ c.if-not-are_known.false) c.requires.sound c.in_ok-order.ensures.line c.in_ok-order.ensures.prepared
