use Rattle.std.proofs.Common.{ℕ, Bool, List, All, Option, Some, length, map, sym, ap, ◌∙◌, subst}
use Rattle.std.specs.Prelude.{IsSome}
use Rattle.bus_sim.specs.RunNow.{world}
use Rattle.knx_model.specs.declared.address.IndAddr.{IndAddr}
use Rattle.knx_model.specs.declared.config.Image.{Image}
use Rattle.line_model.specs.declared.group.GroupTurn.{GroupTurn}
use Rattle.line_model.specs.Log.{Job}
use Rattle.call_parts.specs.Jobs.{seen_job}
use Rattle.call_parts.specs.declared.options.SimOptions.{SimOptions}
use Rattle.call_parts.specs.Options.{workers_of}
use Rattle.hub_core.specs.Commissioned.{log_of}
use Rattle.knx_top.specs.Ran.{FaultsOfLine}
use Rattle.bus_sim.proofs.New.{new_line}
use Rattle.knx_top.proofs.Undisturbed.{Laws}
use Rattle.knx_top.proofs.Driven.{counts_on_line, driven, jobs_seen, still_one}
use Rattle.knx_top.proofs.Shows.{fault_so, runs_so, still_there}
use Rattle.knx_top.specs.commands.sim.{ShowsRun}
use Rattle.knx_top.specs.Watched.{TellsWatcher}
use Rattle.knx_top.proofs.Watches.{devices_in, tells_shown}
use Rattle.knx_top.proofs.commands.sim.run.run.Goals as goal

pub commission-line-requires-clause-new : goal.commission-line-requires-clause-new
commission-line-requires-clause-new g c = λ κs within. new_line c.args.order.line c.requires.new c.keeps.ensures.fresh

pub end_of_run-requires : goal.end_of_run-requires
end_of_run-requires g c =
    let jobs : List Job = map seen_job c.args.order.plans in
    subst (λ (devices : List (IndAddr × Option Image)). All (λ (d : IndAddr × Option Image). IsSome ((world c.commission-line.result.0.run).devices d.0.raw)) devices) (sym c.as_slice.ensures)
    (still_there jobs c.args.order.line.run c.commission-line.result.0.run (log_of c.commission-line.result.1) c.args.order.devices c.requires.one c.requires.new c.commission-line.ensures.commissioned.grows
    (c.commission-line.ensures.commissioned.tells.right jobs (jobs_seen c.args.order.plans) c.requires.good) c.requires.devices)

pub returns-clause-runs : goal.returns-clause-runs
returns-clause-runs g c = λ commission is options.
    let line = c.commission-line.result.0 in
    let report = c.commission-line.result.1 in
    let counts : FaultsOfLine (Some report) line = counts_on_line report c.args.order.line line c.requires.sound c.requires.new (still_one c.args.order.line.run line.run c.requires.one c.commission-line.ensures.commissioned.grows) c.keeps-2.ensures.faults
    c.commission-line.ensures.commissioned.counts in
    let workers : ℕ = c.count.result in
    let log : Bool = c.args.options.now.log in
    let laws : Laws = record {
      calm = c.undisturbing_scripts_are_calm.ensures;
      prompt = c.nothing_fails_on_a_calm_line.ensures.prompt;
      refuses = c.nothing_fails_on_a_calm_line.ensures.refuses;
      ended = c.nothing_fails_on_a_calm_line.ensures.ended;
      reached = c.nothing_fails_on_a_calm_line.ensures.reached;
      told = c.the_gateway_tells_its_own_address.ensures;
      checks = c.each_check_is_exact.ensures;
      unread = c.nothing_fails_on_a_calm_line.ensures.unread;
      load_costs = c.plans_cost_by_their_lists.ensures.loads;
      check_costs = c.plans_cost_by_their_lists.ensures.checks;
    } in
    runs_so commission c.args.sim.now line report c.args.order.jobs c.len-turn_count.result c.args.order.devices log c.end_of_run.result
    (driven laws commission c.args.order workers c.args.order.turns line (length line.run.events) report is (c.count.ensures.value ∙ c.workers.ensures ∙ ap (λ (o : SimOptions). workers_of o) (sym options) ∙ sym is.workers) (is.prepared.turns ∙ sym is.turns) c.requires.one c.commission-line.ensures.commissioned.grows c.commission-line.ensures.commissioned.script c.keeps-2.ensures.fresh c.keeps-2.ensures.legal c.keeps-2.ensures.follows c.requires.good c.commission-line.ensures.commissioned.tells
    c.commission-line.ensures.tries counts)
    is.prepared.devices (c.len-turn_count.ensures ∙ ap (λ (ts : List GroupTurn). length ts) (is.prepared.turns ∙ sym is.turns)) (ap (λ (o : SimOptions). o.log) (sym options))
    (subst (λ (devices : List (IndAddr × Option Image)). ShowsRun line.run report c.args.order.jobs c.len-turn_count.result devices log c.end_of_run.result) c.as_slice.ensures c.end_of_run.ensures)

pub returns-clause-link : goal.returns-clause-link
returns-clause-link g c =
    let line = c.commission-line.result.0 in
    let report = c.commission-line.result.1 in
    let counts : FaultsOfLine (Some report) line = counts_on_line report c.args.order.line line c.requires.sound c.requires.new (still_one c.args.order.line.run line.run c.requires.one c.commission-line.ensures.commissioned.grows) c.keeps-2.ensures.faults
    c.commission-line.ensures.commissioned.counts in
    fault_so line.run report c.args.order.jobs c.len-turn_count.result c.as_slice.result.now c.args.options.now.log c.end_of_run.result line c.end_of_run.ensures counts

pub returns-clause-watched : goal.returns-clause-watched
returns-clause-watched g c = tells_shown c.commission-line.result.0.run c.commission-line.result.1 c.args.order.jobs c.len-turn_count.result c.as_slice.result.now c.args.options.now.log (TellsWatcher (devices_in c.args.order.plans) c.args.options.now.quiet) _ _ c.end_of_run.result c.end_of_run.ensures c.commission-line.ensures.watched
