use Rattle.knx_model.proofs.SpelledNames.{name_to, name_from}
use Rattle.knx_model.proofs.words.name.name_spelled.Goals as goal

pub returns : goal.returns
returns c = λ word. (name_to word, name_from word)
