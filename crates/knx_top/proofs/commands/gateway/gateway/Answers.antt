use Rattle.knx_top.specs.commands.gateway.{gateway_words_of}
use Rattle.knx_top.proofs.Calls.Gateways.{gateway_stop, of_line, served_line}
use Rattle.knx_top.proofs.commands.gateway.gateway.Goals as goal

pub bind_and_serve-requires-clause-sound : goal.bind_and_serve-requires-clause-sound
bind_and_serve-requires-clause-sound g c = λ κs within. of_line _ _ _ c.in-Ok.ensures.ok (λ s is. is.sound)

pub returns-in-Ok : goal.returns-in-Ok
returns-in-Ok g c = served_line (gateway_words_of c.args.names) c.args.texts.now _ _ _ _ _ _ c.in-Ok.ensures.ok c.bind_and_serve.ensures

pub returns-in-Err : goal.returns-in-Err
returns-in-Err g c = gateway_stop _ _ _ _ c.in-Err.ensures.err
