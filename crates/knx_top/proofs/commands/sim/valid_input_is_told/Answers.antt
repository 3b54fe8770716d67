use Rattle.knx_top.proofs.RunsTold.{script_told}
use Rattle.knx_top.proofs.commands.sim.valid_input_is_told.Goals as goal

pub returns : goal.returns
returns c = λ words files files' before after out out' ending valid still t. script_told words files files' before after out out' ending valid still t
