use Rattle.std.proofs.Common.{◌≡◌, ℕ, ◌&&◌, ltb}
use Rattle.knx_model.specs.Acts.{writes, object_in_table}
use Rattle.device_tables.specs.Objects.{holds}
use Rattle.device_tables.proofs.telegram.written.Given as goal

-- the objects up to here that take the value
abbrev pub invariant-loop-object : goal.invariant-loop-object
invariant-loop-object l = (o : ℕ) → holds l.written o ≡ (ltb o l.object && writes (holds l.linked) (object_in_table l.objs) l.service o)
