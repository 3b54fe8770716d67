use Rattle.knx_model.proofs.SpelledNumbers.{size_to, size_from}
use Rattle.knx_model.proofs.words.size.size_spelled.Goals as goal

pub returns : goal.returns
returns c = λ word n. (size_to word n, size_from word n)
