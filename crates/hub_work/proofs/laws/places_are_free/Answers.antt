use Rattle.hub_work.proofs.Places.{place_is_free}
use Rattle.hub_work.proofs.laws.places_are_free.Goals as goal

pub returns : goal.returns
returns c = place_is_free
