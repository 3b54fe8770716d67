use Rattle.std.proofs.Common.{◌<◌, None, length, get_or, take, ap, refl, ◌∙◌}
use Rattle.std.proofs.lemmas.List.{take_more, get_or-replicate}
use Rattle.std.specs.Option.{option_or}
use Rattle.knx_model.specs.declared.catalogue.model.ModelObject.{ModelObject}
use Rattle.project_check.specs.Knowing.{code_at}
use Rattle.project_check.proofs.Indexed.{size_more}
use Rattle.project_check.proofs.models.sizes_of.Goals as goal

pub loop-object-init : goal.loop-object-init
loop-object-init c = record { whole = refl; each = λ n lt. get_or-replicate 256 n None None lt }

pub loop-object-preserved : goal.loop-object-preserved
loop-object-preserved c = record {
  whole = c.add_size.ensures.whole;
  each = λ n small.
      let os = c.args.objects.now in
      let i = c.loop-object.object-index in
      let none : ModelObject = record { n = 0; size = 0; flags = 0 } in
      let lt : i < length os = c.loop-object-test.true in
      rw (take_more os i none lt, size_more (take i os) (get_or os i none) n) (c.add_size.ensures.each n small ∙ ap (λ r. option_or r (code_at n (get_or os i none))) (c.loop-object.invariant.each n small));
}
