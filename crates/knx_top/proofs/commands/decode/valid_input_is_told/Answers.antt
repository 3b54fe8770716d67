use Rattle.knx_top.proofs.Completeness.{decoded}
use Rattle.knx_top.proofs.commands.decode.valid_input_is_told.Goals as goal

pub returns : goal.returns
returns c = decoded
