use Rattle.device_tables.proofs.Counting.{none_held}
use Rattle.device_tables.proofs.objects.Objects.none.Goals as goal

pub returns : goal.returns
returns c = none_held 256
