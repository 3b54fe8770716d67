use Rattle.std.proofs.Common.{◌≡◌, true, false, not, sym, ◌∙◌, arith}
use Rattle.std.specs.List.{list_any}
use Rattle.catalogue.specs.Catalogue.{judged, shares_bit}
use Rattle.catalogue.proofs.fields.next_field.Goals as goal

pub returns-then-take_field-clause-gives : goal.returns-then-take_field-clause-gives
unfolding judged
returns-then-take_field-clause-gives c earlier taken =
    let apart : true ≡ not (list_any (shares_bit c.in-Ok.field) earlier) = sym c.if-take_field.true ∙ c.take_field.ensures.free c.args.params earlier taken in
    rw (c.in-Ok.ensures.ok) (grind (arith, apart))

pub returns-then-take_field-clause-takes : goal.returns-then-take_field-clause-takes
returns-then-take_field-clause-takes c earlier taken = c.take_field.ensures.taken c.args.params earlier taken c.if-take_field.true

pub returns-else-take_field-clause-gives : goal.returns-else-take_field-clause-gives
unfolding judged
returns-else-take_field-clause-gives c earlier taken ne =
    let shared : false ≡ not (list_any (shares_bit c.in-Ok.field) earlier) = sym c.if-take_field.false ∙ c.take_field.ensures.free c.args.params earlier taken in
    rw (c.in-Ok.ensures.ok, c.overlap.ensures ne) (grind (arith, shared, c.in-Ok.ensures.ok))
