use Rattle.project_text.proofs.FirstLine.{version_2_to, version_2_from}
use Rattle.project_text.proofs.laws.version_by_first_line.Goals as goal

pub returns : goal.returns
returns c = λ octets. (version_2_to octets, version_2_from octets)
