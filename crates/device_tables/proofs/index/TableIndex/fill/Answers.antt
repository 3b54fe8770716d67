use Rattle.std.proofs.Common.{◌∙◌, arith}
use Rattle.std.proofs.lemmas.List.Filters.{dedup_is}
use Rattle.device_tables.proofs.Sorting.{pair_eq, ascend, same_pairs}
use Rattle.device_tables.proofs.index.TableIndex.fill.Goals as goal

pub invariant_of-self : goal.invariant_of-self
invariant_of-self c = (
  rw (dedup_is pair_eq c.sort_unstable.new.self.items c.dedup.new.self.items c.dedup.ensures.filtered) (ascend c.sort_unstable.new.self.items c.sort_unstable.ensures.sorted),
  omega (arith, c.dedup.ensures.capacity, c.sort_unstable.ensures.capacity, c.collect.ensures.capacity, c.clear.ensures.capacity, c.self.invariant.1),
)

pub returns : goal.returns
returns c = record {
  ascending = rw (dedup_is pair_eq c.sort_unstable.new.self.items c.dedup.new.self.items c.dedup.ensures.filtered) (ascend c.sort_unstable.new.self.items c.sort_unstable.ensures.sorted);
  exactly = λ group object. rw (dedup_is pair_eq c.sort_unstable.new.self.items c.dedup.new.self.items c.dedup.ensures.filtered) (same_pairs c.collect.new.index.items c.sort_unstable.new.self.items group object c.sort_unstable.ensures.permutation) ∙ c.collect.ensures.exactly group object;
}
