use Rattle.device_sim.proofs.Taken.{kept_is}
use Rattle.device_sim.proofs.Leaving.{unwritten, memory_write, load_write}
use Rattle.device_sim.proofs.laws.writes_are_told.Goals as goal

pub returns : goal.returns
returns c = record { none = unwritten; kept = kept_is; memory = memory_write; load = load_write }
