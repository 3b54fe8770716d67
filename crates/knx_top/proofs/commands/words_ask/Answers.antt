use Rattle.knx_top.proofs.Spelled.{asks_just}
use Rattle.knx_top.proofs.commands.words_ask.Goals as goal

pub returns : goal.returns
returns c = asks_just
