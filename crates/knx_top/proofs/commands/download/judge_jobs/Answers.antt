use Rattle.std.proofs.Common.{sym, ◌∙◌}
use Rattle.knx_top.specs.commands.download.{download_words_of}
use Rattle.knx_top.proofs.Calls.Downloads.{known_ready, unknown_stops}
use Rattle.knx_top.proofs.commands.download.judge_jobs.Goals as goal

pub returns-then-not-are_known-clause-err : goal.returns-then-not-are_known-clause-err
returns-then-not-are_known-clause-err g c = λ _. rw c.unknown_job.ensures
    (unknown_stops (download_words_of c.args.names.now) c.args.project.now c.as_slice-named.result.now c.as_slice-named.ensures.value (sym c.are_known.ensures ∙ c.if-not-are_known.true))

pub returns-clause-ok : goal.returns-clause-ok
returns-clause-ok g c =
    known_ready (download_words_of c.args.names.now) c.args.project.now c.as_slice-named.result.now c.in_ok-ready.ready c.as_slice-named.ensures.value (sym c.are_known.ensures ∙ c.if-not-are_known.false) c.in_ok-ready.ensures
