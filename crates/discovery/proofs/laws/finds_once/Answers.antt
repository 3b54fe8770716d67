use Rattle.discovery.proofs.Adding.{finds_once}
use Rattle.discovery.proofs.laws.finds_once.Goals as goal

pub returns : goal.returns
returns c = finds_once
