use Rattle.device_sim.proofs.Leaving.{group_stays}
use Rattle.device_sim.proofs.laws.group_telegrams_load_nothing.Goals as goal

pub returns : goal.returns
returns c = record {
  kept = λ d frame now h. (group_stays d frame now h).kept;
  power = λ d frame now h. (group_stays d frame now h).power;
  connection = λ d frame now h. (group_stays d frame now h).connection;
}
