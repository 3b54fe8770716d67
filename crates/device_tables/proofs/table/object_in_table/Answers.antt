use Rattle.std.proofs.Common.{◌≡◌, sym, ◌∙◌, arith}
use Rattle.device_tables.proofs.ObjectTable.{object_is}
use Rattle.device_tables.proofs.table.object_in_table.Goals as goal

pub returns : goal.returns
returns c =
    let same : c.from-at.result ≡ c.args.object = c.from-at.ensures in
    rw same (sym (object_is c.args.objs.now c.in_ok-count.count c.args.object (sym c.number_at.ensures ∙ c.in_ok-count.was) (omega arith) (omega arith) (omega arith) (omega arith)))
