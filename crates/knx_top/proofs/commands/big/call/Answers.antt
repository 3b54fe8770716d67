use Rattle.std.proofs.Common.{Bool, [], refl, sym, ap, subst}
use Rattle.line_model.specs.Watched.{watch_in}
use Rattle.call_parts.specs.Ending.{report_in}
use Rattle.call_parts.specs.declared.options.SimOptions.{SimOptions}
use Rattle.call_parts.specs.Options.{no_options}
use Rattle.knx_top.specs.Watched.{TellsOfJobs, TellsWatcher, WhereRun}
use Rattle.knx_top.proofs.Watches.{devices_in, made_so, tells_summed}
use Rattle.knx_model.specs.Counts.{counts_of}
use Rattle.knx_top.proofs.Present.{devices_there}
use Rattle.knx_top.proofs.Calls.Bigs.{order_made, runs_made, stops_wanting}
use Rattle.knx_top.specs.commands.big.{commission_made, made}
use Rattle.call_parts.specs.declared.ending.End.TheVariants.{Stops}
use Rattle.knx_top.proofs.commands.big.call.Goals as goal

pub run-end-requires-clause-devices : goal.run-end-requires-clause-devices
run-end-requires-clause-devices g c κs within =
    let words = c.args.numbers.now in
    devices_there (commission_made words) c.in-Ok.order (order_made words c.in-Ok.order (c.each_project_is_checked.ensures.checked words.devices words.start [] c.judge.ensures.few).sound c.in-Ok.ensures.ok)

pub returns-in-Ok-clause-told : goal.returns-in-Ok-clause-told
returns-in-Ok-clause-told g c =
    let words = c.args.numbers.now in
    let is = order_made words c.in-Ok.order (c.each_project_is_checked.ensures.checked words.devices words.start [] c.judge.ensures.few).sound c.in-Ok.ensures.ok in
    runs_made words c.args.sim.now _ c.in-Ok.counts c.run-end.result c.summed.result c.in-Ok.ensures.counts c.summed.ensures (c.run-end.ensures.runs (commission_made words) is (sym c.none.ensures)) refl

pub returns-in-Err-clause-told : goal.returns-in-Err-clause-told
returns-in-Err-clause-told g c =
    let words = c.args.numbers.now in
    runs_made words c.args.sim.now _ (counts_of (made words)) (Stops c.in-Err.why) (Stops c.in-Err.why) refl refl
    (stops_wanting words c.in-Err.why c.args.sim.now (c.each_project_is_checked.ensures.checked words.devices words.start [] c.judge.ensures.few).sound c.in-Err.ensures.err) refl

pub returns-in-Ok-clause-watched : goal.returns-in-Ok-clause-watched
returns-in-Ok-clause-watched g c =
    let words = c.args.numbers.now in
    let old = watch_in g.W.Watcher.watch c.args.watch.now in
    let new = watch_in g.W.Watcher.watch c.run-end.new.watch in
    tells_summed (TellsOfJobs no_options (made words)) _ _ c.in-Ok.counts c.run-end.result c.summed.result c.summed.ensures
    (made_so words c.in-Ok.order old new (order_made words c.in-Ok.order (c.each_project_is_checked.ensures.checked words.devices words.start [] c.judge.ensures.few).sound c.in-Ok.ensures.ok) (report_in c.run-end.result)
    (subst (λ (quiet : Bool). WhereRun (TellsWatcher (devices_in c.in-Ok.order.plans) quiet) (report_in c.run-end.result) old new) (ap (λ (o : SimOptions). o.quiet) c.none.ensures) c.run-end.ensures.watched))
