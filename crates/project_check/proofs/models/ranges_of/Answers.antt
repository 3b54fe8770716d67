use Rattle.std.proofs.Common.{◌<◌, length, take, ap, ◌∙◌}
use Rattle.std.proofs.lemmas.List.{take_more}
use Rattle.std.specs.Option.{option_or}
use Rattle.project_check.specs.Knowing.{range_at}
use Rattle.project_check.proofs.Indexed.{range_more}
use Rattle.project_check.proofs.models.ranges_of.Goals as goal

pub loop-field-preserved : goal.loop-field-preserved
loop-field-preserved c = λ name.
    let fs = c.args.parameters.now in
    let i = c.loop-field.field-index in
    let f = c.field-item.result in
    let lt : i < length fs = c.loop-field-test.true in
    rw (take_more fs i f lt, ← c.field-item.is, range_more (take i fs) f name) (c.in_ok-add_range.ensures name ∙ ap (λ r. option_or r (range_at name f)) (c.loop-field.invariant name))
