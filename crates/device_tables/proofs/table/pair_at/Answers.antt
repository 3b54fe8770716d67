use Rattle.std.proofs.Common.{sym, ◌∙◌, arith}
use Rattle.knx_model.specs.Acts.{numbers}
use Rattle.device_tables.proofs.Numbers.{first_pair_is}
use Rattle.device_tables.proofs.table.pair_at.Goals as goal

pub returns-clause-pair : goal.returns-clause-pair
returns-clause-pair c =
    sym (first_pair_is (numbers c.args.assoc.now) c.in_ok-count.count c.args.at c.in_ok-place.place c.in_ok-object.object (sym c.number_at.ensures ∙ c.in_ok-count.was) (omega arith) (sym c.number_at-2.ensures ∙ c.in_ok-place.was) (sym c.number_at-3.ensures ∙ c.in_ok-object.was))
