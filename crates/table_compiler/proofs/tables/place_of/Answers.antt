use Rattle.std.proofs.Common.{◌≡◌, ◌+◌, ◌∙◌, ap, sym, get_or, ltb, arith, rules, tests}
use Rattle.std.proofs.lemmas.List.{get_or_default}
use Rattle.std.proofs.lemmas.List.Sorted.{IsPartitionPoint-from_clause}
use Rattle.table_compiler.proofs.GroupPlaces.{place_is, parted, before_is}
use Rattle.table_compiler.proofs.tables.place_of.Goals as goal

here : (c : goal.After-partition_point-before) → get_or c.args.groups.now c.requires.listed.0 0 ≡ c.args.raw
here c = get_or_default c.args.groups.now c.requires.listed.0 0 c.args.raw c.requires.listed.1 ∙ c.requires.listed.2

found : (c : goal.After-partition_point-before) → c.partition_point-before.result ≡ c.requires.listed.0
found c = before_is c.args.groups.now c.args.raw c.partition_point-before.result c.requires.listed.0 c.requires.ascending
    (IsPartitionPoint-from_clause (λ y. ltb y c.args.raw) c.args.groups.now c.partition_point-before.result c.partition_point-before.ensures.partitioned (parted c.args.groups.now c.args.raw c.requires.ascending) (λ a r f k. search (rules, tests)))
    c.partition_point-before.ensures.bound c.requires.listed.1 (here c)

pub overflow_cast-result : goal.overflow_cast-result
overflow_cast-result c = omega (arith, found c, c.requires.listed.1, c.requires.few)

pub overflow_add-result : goal.overflow_add-result
overflow_add-result c = omega (arith, found c, c.requires.listed.1, c.requires.few)

pub returns : goal.returns
returns c = ap (λ n. n + 1) (found c ∙ sym (place_is c.args.groups.now c.args.raw c.requires.listed.0 c.requires.ascending c.requires.listed.1 (here c)))
