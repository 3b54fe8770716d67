use Rattle.knx_top.specs.commands.gateway.{gateway_words_of}
use Rattle.knx_top.proofs.Calls.Gateways.{begins_no_run, runs_gateway}
use Rattle.knx_top.proofs.commands.gateway.call.Goals as goal

pub returns-clause-told : goal.returns-clause-told
returns-clause-told g c =
    runs_gateway (gateway_words_of c.args.names) _ _ _ _ _ _ c.read_gateway_texts-texts.result c.gateway.result c.read_gateway_texts-texts.ensures.read c.read_gateway_texts-texts.ensures.counts c.gateway.ensures

pub returns-clause-no_run : goal.returns-clause-no_run
returns-clause-no_run g c = begins_no_run _ _ _ _ _ _ c.gateway.ensures
