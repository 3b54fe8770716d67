use Rattle.std.proofs.Common.{◌≡◌, inl, inr, ◌∙◌, sym, false, arith}
use Rattle.std.proofs.lemmas.Bool.{cases_eq}
use Rattle.knx_model.specs.Acts.{may_answer, object_in_table}
use Rattle.device_tables.specs.Objects.{holds}
use Rattle.device_tables.proofs.Counting.{lowest, no_lowest}
use Rattle.device_tables.proofs.telegram.lowest_answering.Goals as goal

pub returns-then-is_answering : goal.returns-then-is_answering
returns-then-is_answering c =
    sym (lowest (may_answer (holds c.args.linked.now) (object_in_table c.args.objs.now)) c.loop-object.object (omega arith) (omega arith) c.loop-object.invariant (sym c.is_answering.ensures ∙ c.if-is_answering.true))

pub returns-else-is_answering : goal.returns-else-is_answering
returns-else-is_answering c =
    let last : c.loop-object.object ≡ 255 = omega arith in
    let no : may_answer (holds c.args.linked.now) (object_in_table c.args.objs.now) 255 ≡ false = rw last at (sym c.is_answering.ensures ∙ c.if-is_answering.false) in
    sym (no_lowest (may_answer (holds c.args.linked.now) (object_in_table c.args.objs.now)) (λ o from to. elim (cases_eq o 255) [
      | inl same ↦ rw same no
      | inr apart ↦ c.loop-object.invariant o from (omega arith)
    ]))
