use Rattle.std.proofs.Common.{sym, ap, ◌∙◌}
use Rattle.std.specs.Prelude.{nat_lt}
use Rattle.knx_model.specs.Device.{all_loaded, written_front}
use Rattle.knx_model.specs.DeviceState.{DeviceState}
use Rattle.device_sim.specs.Effects.{meant}
use Rattle.device_sim.proofs.Capacities.{cut_capacities}
use Rattle.device_sim.proofs.WhileLoaded.{torn_indexed}
use Rattle.device_sim.proofs.device.Device.tear.Goals as goal

pub index_tables-requires-clause-capacities : goal.index_tables-requires-clause-capacities
index_tables-requires-clause-capacities c =
    cut_capacities c.self.inside.kept c.take_torn.new.self (meant c.args.effect.now) (nat_lt 0 c.args.k) (written_front (meant c.args.effect.now) c.args.k) c.take_torn.ensures c.self.invariant.0

pub index_tables-requires-clause-before : goal.index_tables-requires-clause-before
index_tables-requires-clause-before c = λ ran.
    torn_indexed c.self.inside.kept c.take_torn.new.self (meant c.args.effect.now) (nat_lt 0 c.args.k) (written_front (meant c.args.effect.now) c.args.k) c.self.inside.index c.take_torn.ensures c.self.invariant.1 (ap (λ (d : DeviceState). all_loaded d.kept) c.self.view_is ∙ sym c.runs-ran.ensures ∙ ran)

pub invariant_of-self : goal.invariant_of-self
invariant_of-self c = (
  cut_capacities c.self.inside.kept c.take_torn.new.self (meant c.args.effect.now) (nat_lt 0 c.args.k) (written_front (meant c.args.effect.now) c.args.k) c.take_torn.ensures c.self.invariant.0,
  c.index_tables.ensures,
)
