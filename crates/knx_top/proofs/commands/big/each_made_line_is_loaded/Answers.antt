use Rattle.knx_top.proofs.MadeRuns.{made_loaded}
use Rattle.knx_top.proofs.RunsTold.{made_told}
use Rattle.knx_top.proofs.commands.big.each_made_line_is_loaded.Goals as goal

pub returns : goal.returns
returns c =
    λ devices from words before after out out' ending read still early t. made_loaded devices from words after out out' ending read early (made_told words before after out out' ending still t)
