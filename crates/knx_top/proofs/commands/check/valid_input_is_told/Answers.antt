use Rattle.knx_top.proofs.Completeness.{complete}
use Rattle.knx_top.specs.commands.check.{IsCountsText}
use Rattle.knx_top.proofs.commands.check.valid_input_is_told.Goals as goal

pub returns : goal.returns
returns c = complete IsCountsText
