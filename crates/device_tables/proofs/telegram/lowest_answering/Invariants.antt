use Rattle.std.proofs.Common.{◌≡◌, ℕ, ◌<◌, ◌≤◌, false}
use Rattle.knx_model.specs.Acts.{may_answer, object_in_table}
use Rattle.device_tables.specs.Objects.{holds}
use Rattle.device_tables.proofs.telegram.lowest_answering.Given as goal

-- no object up to here may answer
abbrev pub invariant-loop-object : goal.invariant-loop-object
invariant-loop-object l = (o : ℕ) → 1 ≤ o → o < l.object → may_answer (holds l.linked) (object_in_table l.objs) o ≡ false
