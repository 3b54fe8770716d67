use Rattle.std.proofs.Common.{◌≡◌, []}
use Rattle.std.specs.Vec.Iter.{into_iter_items}
use Rattle.catalogue.specs.Catalogue.{fields_after}
use Rattle.catalogue.specs.Taken.{Takes}
use Rattle.catalogue.proofs.fields.fields_of.Given as goal

-- the bits of the fields so far are taken, and the parameters that are left follow on them
abbrev pub invariant-loop-stated : goal.invariant-loop-stated
invariant-loop-stated l = record {
  taken : Takes l.taken.items l.params l.fields;
  rest : fields_after l.model l.params l.fields (into_iter_items l.stated-iterator) ≡ fields_after l.model l.params [] l.fn.parameters;
}
