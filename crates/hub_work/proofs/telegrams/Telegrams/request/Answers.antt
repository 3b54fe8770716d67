use Rattle.hub_work.specs.Requests.{IsTurnInRange}
use Rattle.hub_work.proofs.Ranges.{all_in}
use Rattle.hub_work.proofs.telegrams.Telegrams.request.Goals as goal

pub to_group-requires : goal.to_group-requires
to_group-requires c = all_in IsTurnInRange c.as_slice-turns.result.now _ _ _ c.as_slice-turns.ensures c.self.invariant.0 c.if-place-turns.false c.index-turns-place.is
