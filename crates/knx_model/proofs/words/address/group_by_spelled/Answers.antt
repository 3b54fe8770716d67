use Rattle.knx_model.proofs.SpelledGroups.{group_by_to, group_by_from}
use Rattle.knx_model.proofs.words.address.group_by_spelled.Goals as goal

pub returns : goal.returns
returns c = λ version word g. (group_by_to version word g, group_by_from version word g)
