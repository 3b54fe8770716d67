use Rattle.knx_top.proofs.Completeness.{complete}
use Rattle.knx_top.specs.commands.migrate.{IsMigratedText}
use Rattle.knx_top.proofs.commands.migrate.valid_input_is_told.Goals as goal

pub returns : goal.returns
returns c = complete IsMigratedText
