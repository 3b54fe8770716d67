use Rattle.knx_model.proofs.SpelledFlags.{flags_to, flags_from}
use Rattle.knx_model.proofs.words.flags.flags_spelled.Goals as goal

pub returns : goal.returns
returns c = λ word octet. (flags_to word octet, flags_from word octet)
