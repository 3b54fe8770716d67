use Rattle.address_text.proofs.Spelling.{read_is_spelled, spelled_is_read}
use Rattle.address_text.proofs.laws.line_spelled.Goals as goal

pub returns : goal.returns
returns c = λ ws what. (read_is_spelled ws what, spelled_is_read ws what)
