use Rattle.knx_top.proofs.DialsTold.{gateway_is_told}
use Rattle.knx_top.proofs.commands.gateway.valid_input_is_told.Goals as goal

pub returns : goal.returns
returns c = λ words files files' before after line line' out out' ending valid still t. gateway_is_told words files files' before after line line' out out' ending valid still t
