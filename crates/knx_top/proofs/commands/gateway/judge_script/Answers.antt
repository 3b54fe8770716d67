use Rattle.knx_top.specs.commands.gateway.{gateway_words_of}
use Rattle.knx_top.proofs.Calls.Gateways.{line_for}
use Rattle.knx_top.proofs.commands.gateway.judge_script.Goals as goal

pub returns-clause-ok : goal.returns-clause-ok
returns-clause-ok g c = line_for (gateway_words_of c.args.names) c.args.old.now c.args.script.now.lines (record { line = c.in_ok-line.line; tunnel = c.tunnel_address-tunnel.result }) c.in_ok-line.ensures.begun c.in_ok-line.ensures.sound c.tunnel_address-tunnel.ensures
