use Rattle.std.proofs.Common.{◌≡◌, [], length, All}
use Rattle.knx_model.specs.declared.address.IndAddr.{IndAddr}
use Rattle.table_compiler.specs.Drafts.{IsDraft}
use Rattle.table_compiler.proofs.drafts.no_lines.Given as goal

abbrev pub invariant-loop-device : goal.invariant-loop-device
invariant-loop-device l = record { whole : length l.drafts.items ≡ l._device-index; empty : All (λ draft. (device : IndAddr) → IsDraft device draft []) l.drafts.items }
