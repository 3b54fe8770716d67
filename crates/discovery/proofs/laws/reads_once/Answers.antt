use Rattle.discovery.proofs.Once.{reads_once}
use Rattle.discovery.proofs.laws.reads_once.Goals as goal

pub returns : goal.returns
returns c = reads_once
