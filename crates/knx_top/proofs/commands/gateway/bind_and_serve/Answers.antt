use Rattle.std.proofs.Common.{◌∙◌, refl}
use Rattle.call_parts.specs.Names.{address_of}
use Rattle.knx_top.proofs.DialledRuns.{to_address}
use Rattle.knx_top.proofs.ServedRuns.{bound}
use Rattle.knx_top.proofs.commands.gateway.bind_and_serve.Goals as goal

pub returns-in-Ok : goal.returns-in-Ok
returns-in-Ok g c = λ s is at most.
    bound s (address_of c.args.names.at) _ _ _ _ _ _ at c.in-Ok.ensures.counts c.in-Ok.ensures.tells c.serve.ensures.given (c.serve.ensures.dials ∙ c.in-Ok.ensures.dials) (c.serve.ensures.serving s is at most)

pub returns-in-Err : goal.returns-in-Err
returns-in-Err g c = λ s is at most. (
  record {
    given = to_address s.at (address_of c.args.names.at) _ at c.in-Err.ensures.tells;
    once = c.in-Err.ensures.dials;
    counts = c.in-Err.ensures.counts;
    link_back = c.in-Err.ensures.link_stays;
    port_back = c.in-Err.ensures.port_stays;
  },
  refl,
)
