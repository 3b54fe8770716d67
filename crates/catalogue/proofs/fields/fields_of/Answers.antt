use Rattle.std.proofs.Common.{◌≡◌, length, drop, ◌++◌, ◌∷◌, [], refl, sym, ◌∙◌, arith}
use Rattle.std.proofs.lemmas.List.{take_at}
use Rattle.std.specs.Vec.Iter.{into_iter_items}
use Rattle.catalogue.specs.Catalogue.{fields_after}
use Rattle.catalogue.specs.Taken.{Takes}
use Rattle.catalogue.proofs.fields.fields_of.Goals as goal

pub loop-stated-preserved : goal.loop-stated-preserved
loop-stated-preserved c =
    let old = c.loop-stated.taken in
    let new = c.next_field.new.taken in
    let takes : Takes c.as_mut_slice.result.now c.args.params c.loop-stated.fields = rw c.as_mut_slice.ensures.value c.loop-stated.invariant.taken in
    let same : length new ≡ old.len = grind (arith, c.next_field.auto.taken, c.as_mut_slice.ensures.value, c.as_mut_slice.ensures.len, c.loop-stated.taken.ok) in
    let next : fields_after c.args.model.now c.args.params c.loop-stated.fields (into_iter_items c.loop-stated.stated-iterator) ≡ fields_after c.args.model.now c.args.params (c.loop-stated.fields ++ c.in_ok-field.field ∷ []) (into_iter_items c.next.new.self) =
    rw (c.in-Some.ensures.steps.0, c.in_ok-field.ensures.gives c.loop-stated.fields takes) refl in
    record {
      taken = rw (take_at new (drop (length new) old.items) old.len same, c.in_ok-push.ensures.ok) (c.in_ok-field.ensures.takes c.loop-stated.fields takes);
      rest = rw c.in_ok-push.ensures.ok (sym next ∙ c.loop-stated.invariant.rest);
    }
