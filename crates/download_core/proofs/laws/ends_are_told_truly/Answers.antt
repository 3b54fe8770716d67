use Rattle.download_core.proofs.Exactly.{ends_truly}
use Rattle.download_core.proofs.laws.ends_are_told_truly.Goals as goal

pub returns : goal.returns
returns c = ends_truly
