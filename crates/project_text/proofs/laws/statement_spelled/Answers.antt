use Rattle.project_text.proofs.Spelling.{read_is_spelled, spelled_is_read}
use Rattle.project_text.proofs.laws.statement_spelled.Goals as goal

pub returns : goal.returns
returns c = λ version is_first ws what. (read_is_spelled version is_first ws what, spelled_is_read version is_first ws what)
