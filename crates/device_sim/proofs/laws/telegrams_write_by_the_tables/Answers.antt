use Rattle.device_sim.proofs.Telegrams.{telegram_value, nothing_written, not_running}
use Rattle.device_sim.proofs.laws.telegrams_write_by_the_tables.Goals as goal

pub returns : goal.returns
returns c = record {
  value = λ d frame now image service o t lt. telegram_value d frame now image service o t.taken t.group t.runs_it t.carries lt;
  none = λ d frame now image service value t v device h. nothing_written d frame now image service value t.taken t.group t.runs_it t.carries v device.slots h;
  stopped = not_running;
}
