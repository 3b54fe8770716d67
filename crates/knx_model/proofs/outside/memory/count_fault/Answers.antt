use Rattle.std.proofs.Common.{◌≡◌, true, sym, bytes_eq, arith}
use Rattle.knx_model.proofs.Faults.{counted_at}
use Rattle.knx_model.proofs.outside.memory.count_fault.Goals as goal

pub returns-then-eq : goal.returns-then-eq
returns-then-eq c =
    let same : bytes_eq c.file-item.result.name c.args.name.now ≡ true = cc in
    counted_at c.loop-file.files c.args.files.now c.loop-file.file-index c.args.name.now c.file-item.result _ (omega arith) (sym c.file-item.is) same (cc) c.loop-file.invariant.same c.loop-file.invariant.front
