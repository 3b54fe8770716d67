use Rattle.std.proofs.Common.{length, map, ap, arith}
use Rattle.std.proofs.lemmas.List.Sorted.{length_permutation}
use Rattle.table_compiler.proofs.GroupPlaces.{listed}
use Rattle.table_compiler.proofs.Lengths.{length-address_list, length-association_list, length-object_list}
use Rattle.table_compiler.specs.Order.{pair_of}
use Rattle.table_compiler.proofs.Pairs.{AreGroups, each_pair, pairs_ascend}
use Rattle.table_compiler.proofs.tables.image_of.Goals as goal

pub association_table-requires-clause-listed : goal.association_table-requires-clause-listed
association_table-requires-clause-listed c = rw (c.as_slice-groups.ensures.value, c.as_slice.ensures.value) (listed c.args.links.now _ _ (λ g h. (c.in_ok-groups.ensures.exactly g).1 h) c.in_ok-order.ensures.same)

pub association_table-requires-clause-few_links : goal.association_table-requires-clause-few_links
association_table-requires-clause-few_links c = omega (arith, ap length c.as_slice.ensures.value, length_permutation _ _ c.in_ok-order.ensures.same)

pub returns-clause-stands : goal.returns-clause-stands
returns-clause-stands c = λ config links objects parameters.
    let groups = c.in_ok-groups.groups.items in
    let are : AreGroups groups config.links = rw links (record { ascend = c.in_ok-groups.ensures.ascending; listed = λ g h. (c.in_ok-groups.ensures.exactly g).1 h }) in
    record {
      groups = c.in_ok-groups.groups.items;
      exactly = rw links c.in_ok-groups.ensures.exactly;
      groups_ascend = c.in_ok-groups.ensures.ascending;
      addresses = rw c.as_slice-groups.ensures.value at c.in_ok-addr.ensures;
      pairs = map (pair_of groups) c.in_ok-order.order.items;
      each_pair = each_pair groups config.links c.in_ok-order.order.items are (rw links c.in_ok-order.ensures.same);
      pairs_ascend = pairs_ascend groups config.links c.in_ok-order.order.items are (rw links c.requires.once) (rw links c.in_ok-order.ensures.same) c.in_ok-order.ensures.ascending;
      associations = rw (c.as_slice-groups.ensures.value, c.as_slice.ensures.value) at c.in_ok-assoc.ensures;
      objects = rw objects c.in_ok-objs.ensures;
      parameters = parameters;
    }

pub returns-clause-fits : goal.returns-clause-fits
returns-clause-fits c = record {
  addr = omega (arith, ap length c.in_ok-addr.ensures, length-address_list c.as_slice-groups.result.now, ap length c.as_slice-groups.ensures.value, c.in_ok-groups.ensures.few, c.requires.few_links);
  assoc = omega (arith, ap length c.in_ok-assoc.ensures, length-association_list c.as_slice-groups.result.now c.as_slice.result.now, ap length c.as_slice.ensures.value, length_permutation _ _ c.in_ok-order.ensures.same, c.requires.few_links);
  objs = omega (arith, ap length c.in_ok-objs.ensures, length-object_list c.args.objects.now, c.requires.few_objects);
  params = c.requires.few_params;
}
