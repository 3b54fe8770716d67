use Rattle.device_sim.proofs.Telegrams.{read_unanswered, read_answered}
use Rattle.device_sim.proofs.laws.reads_are_answered_by_the_tables.Goals as goal

pub returns : goal.returns
returns c = record {
  none = λ d frame now image t a. read_unanswered d frame now image t.taken t.group t.runs_it t.carries a;
  answered = λ d frame now image o value t a v. read_answered d frame now image o value t.taken t.group t.runs_it t.carries a v;
}
