use Rattle.knx_top.proofs.DialsTold.{download_is_told}
use Rattle.knx_top.proofs.commands.download.valid_input_is_told.Goals as goal

pub returns : goal.returns
returns c = λ words files files' before after report out out' ending valid still t. download_is_told words files files' before after report out out' ending valid still t
