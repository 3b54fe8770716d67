use Rattle.knx_top.proofs.Completeness.{complete}
use Rattle.knx_top.specs.commands.tables.{IsTablesText}
use Rattle.knx_top.proofs.commands.tables.valid_input_is_told.Goals as goal

pub returns : goal.returns
returns c = complete IsTablesText
