use Rattle.std.proofs.Common.{◌∙◌, ap, arith, map}
use Rattle.std.specs.List.{range_with_len}
use Rattle.knx_model.specs.Meaning.{object_of, objects_of, greatest}
use Rattle.table_compiler.proofs.Compiled.{if_ok}
use Rattle.table_compiler.proofs.ObjectLists.{made}
use Rattle.table_compiler.proofs.objects.objects_of.Goals as goal

pub returns-clause-objects : goal.returns-clause-objects
unfolding objects_of
returns-clause-objects c =
    let table = c.table_of-table in
    let part = made c.deref.result.now table.result c.from-most.result table.ensures.whole table.ensures.each (omega (arith, c.greatest.type_inv, c.from-most.ensures)) in
    if_ok c.from_slice.result (λ found items device ss is.
    let objects = c.deref.ensures.value ∙ c.in_ok-objects.ensures device ss is in
    let most = c.from-most.ensures ∙ c.greatest.ensures ∙ ap greatest (c.deref-2.ensures.value ∙ c.in_ok-objects.ensures device ss is) in
    items ∙ part ∙ (λ i. map (object_of (objects i)) (range_with_len 1 (most i)))) c.from_slice.ensures.items
