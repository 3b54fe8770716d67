use Rattle.knx_model.proofs.Spells.{group_to, group_from}
use Rattle.knx_model.proofs.words.address.group_spelled.Goals as goal

pub returns : goal.returns
returns c = λ word g. (group_to word g, group_from word g)
