use Rattle.std.proofs.Common.{◌∙◌}
use Rattle.call_parts.specs.Names.{address_of}
use Rattle.knx_top.proofs.DialledRuns.{reached, to_address}
use Rattle.knx_top.proofs.commands.download.dial_and_run.Goals as goal

pub returns-in-Ok-clause-dials : goal.returns-in-Ok-clause-dials
returns-in-Ok-clause-dials g c = λ d is same options. rw c.new.ensures
    (reached d c.args.ready (address_of c.args.names.now.at) c.args.names.now.options _ _ _ _ c.run-report.result is same options c.in-Ok.ensures.tells c.run-report.ensures.given (c.run-report.ensures.dials ∙ c.in-Ok.ensures.dials) c.run-report.ensures.told c.in-Ok.ensures.counts c.run-report.ensures.counts)

pub returns-in-Err-clause-dials : goal.returns-in-Err-clause-dials
returns-in-Err-clause-dials g c = λ d is same options. record {
  given = to_address d.at (address_of c.args.names.now.at) _ same c.in-Err.ensures.tells;
  once = c.in-Err.ensures.dials;
  counts = c.in-Err.ensures.counts;
  link_back = c.in-Err.ensures.link_stays;
  port_back = c.in-Err.ensures.port_stays;
}
