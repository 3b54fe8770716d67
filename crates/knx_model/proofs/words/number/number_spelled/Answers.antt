use Rattle.knx_model.proofs.SpelledNumbers.{number_to, number_from}
use Rattle.knx_model.proofs.words.number.number_spelled.Goals as goal

pub returns : goal.returns
returns c = λ word n. (number_to word n, number_from word n)
