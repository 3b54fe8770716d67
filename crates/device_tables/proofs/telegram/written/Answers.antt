use Rattle.std.proofs.Common.{◌≡◌, ◌∙◌, sym, true, false}
use Rattle.knx_model.specs.Acts.{writes, object_in_table}
use Rattle.device_tables.specs.Objects.{holds}
use Rattle.device_tables.proofs.Counting.{with_one, without_one}
use Rattle.device_tables.proofs.telegram.written.Goals as goal
use Rattle.device_tables.proofs.telegram.written.Goals.{then-is_written, else-is_written}

pub loop-object-preserved : goal.loop-object-preserved
loop-object-preserved c = λ o. elim c.if-is_written.branch [
  | then-is_written w ↦
      let yes : writes (holds c.args.linked.now) (object_in_table c.args.objs.now) c.args.service.now c.loop-object.object ≡ true = sym c.is_written.ensures ∙ w.if-is_written.true in
      rw w.written-is (w.insert.ensures o ∙ rw (c.loop-object.invariant o) (with_one (writes (holds c.args.linked.now) (object_in_table c.args.objs.now) c.args.service.now) c.loop-object.object o yes))
  | else-is_written w ↦
      let no : writes (holds c.args.linked.now) (object_in_table c.args.objs.now) c.args.service.now c.loop-object.object ≡ false = sym c.is_written.ensures ∙ w.if-is_written.false in
      rw w.written-is (c.loop-object.invariant o ∙ without_one (writes (holds c.args.linked.now) (object_in_table c.args.objs.now) c.args.service.now) c.loop-object.object o no)
]
