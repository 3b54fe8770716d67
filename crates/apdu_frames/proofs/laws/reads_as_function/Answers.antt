use Rattle.apdu_frames.proofs.Function.{tpdu_in_from, tpdu_in_to}
use Rattle.apdu_frames.proofs.laws.reads_as_function.Goals as goal

pub returns : goal.returns
returns c = λ octets frame. (tpdu_in_to octets frame, tpdu_in_from octets frame)
