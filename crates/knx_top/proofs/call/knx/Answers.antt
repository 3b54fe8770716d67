use Rattle.std.proofs.Common.{Some, ap, refl, sym, ◌∙◌}
use Rattle.line_model.specs.Watched.{watch_in}
use Rattle.knx_top.specs.commands.{command_of}
use Rattle.knx_top.proofs.Calls.{no_run_of, written}
use Rattle.knx_top.proofs.Spelled.{asks_is}
use Rattle.knx_top.proofs.Watches.{watches_of}
use Rattle.knx_top.proofs.call.knx.Goals as goal

-- ---- a command

pub returns-in-Some-clause-does : goal.returns-in-Some-clause-does
returns-in-Some-clause-does g c =
    λ command asks. rw (sym (c.in-Some.ensures ∙ asks_is _ command asks), c.report.ensures) (written (command_of c.in-Some.command) _ _ c.run-end.result _ c.run-end.ensures.does c.tell_end-status.ensures.told)

pub returns-in-Some-clause-undialled : goal.returns-in-Some-clause-undialled
returns-in-Some-clause-undialled g c = λ command asks. rw (sym (c.in-Some.ensures ∙ asks_is _ command asks)) c.run-end.ensures.undialled

pub returns-in-Some-clause-units : goal.returns-in-Some-clause-units
returns-in-Some-clause-units g c = λ command asks. rw (sym (c.in-Some.ensures ∙ asks_is _ command asks)) c.run-end.ensures.units

pub returns-in-Some-clause-reads : goal.returns-in-Some-clause-reads
returns-in-Some-clause-reads g c = λ command asks. rw (sym (c.in-Some.ensures ∙ asks_is _ command asks)) c.run-end.ensures.reads

pub returns-in-Some-clause-watched : goal.returns-in-Some-clause-watched
returns-in-Some-clause-watched g c = λ command asks. rw (sym (c.in-Some.ensures ∙ asks_is _ command asks), c.report.ensures)
    (watches_of (Some (command_of c.in-Some.command)) (g.F.Files.now c.args.files.now).file _ _ _ (no_run_of (Some (command_of c.in-Some.command)) _ _ _ c.run-end.ensures.does)
    (λ none. ap (watch_in g.W.Watcher.watch) (c.run-end.ensures.unwatched none)) c.run-end.ensures.watched)

-- ---- other words

pub returns-in-None-clause-does : goal.returns-in-None-clause-does
returns-in-None-clause-does g c = λ command asks. rw (sym (c.in-None.ensures ∙ asks_is _ command asks)) (c.tell.ensures.told, (λ _. refl), record { line = refl; report = refl })
