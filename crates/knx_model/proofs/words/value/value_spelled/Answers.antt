use Rattle.knx_model.proofs.SpelledValues.{value_to, value_from}
use Rattle.knx_model.proofs.words.value.value_spelled.Goals as goal

pub returns : goal.returns
returns c = λ word value. (value_to word value, value_from word value)
