use Rattle.call_parts.specs.Ending.{report_in}
use Rattle.knx_top.specs.commands.download.{download_words_of}
use Rattle.knx_top.proofs.Watches.{download_tested}
use Rattle.knx_top.proofs.Calls.Downloads.{dialled_run, dialled_stop, of_ready}
use Rattle.knx_top.proofs.commands.download.download.Goals as goal

pub dial_and_run-requires-clause-few : goal.dial_and_run-requires-clause-few
dial_and_run-requires-clause-few g c = λ κs within. of_ready _ _ _ c.in-Ok.ensures.ok (λ d is. is.prepared.few)

pub dial_and_run-requires-clause-good : goal.dial_and_run-requires-clause-good
dial_and_run-requires-clause-good g c = λ κs within. of_ready _ _ _ c.in-Ok.ensures.ok (λ d is. is.prepared.good)

pub returns-in-Ok-clause-dials : goal.returns-in-Ok-clause-dials
returns-in-Ok-clause-dials g c = dialled_run (download_words_of c.args.names.now) c.args.texts.now _ _ _ _ c.in-Ok.ensures.ok c.dial_and_run.ensures.dials

pub returns-in-Err-clause-dials : goal.returns-in-Err-clause-dials
returns-in-Err-clause-dials g c = dialled_stop _ _ _ c.in-Err.ensures.err

pub returns-in-Ok-clause-watched : goal.returns-in-Ok-clause-watched
returns-in-Ok-clause-watched g c = download_tested (download_words_of c.args.names.now) c.args.texts.now c.in-Ok.ready _ _ c.in-Ok.ensures.ok (report_in c.dial_and_run.result) c.dial_and_run.ensures.watched
