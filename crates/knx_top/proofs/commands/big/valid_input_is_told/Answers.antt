use Rattle.knx_top.proofs.RunsTold.{made_told}
use Rattle.knx_top.proofs.commands.big.valid_input_is_told.Goals as goal

pub returns : goal.returns
returns c = made_told
