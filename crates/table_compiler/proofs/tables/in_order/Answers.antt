use Rattle.std.proofs.Common.{rules}
use Rattle.std.specs.Prelude.{IsPermutation}
use Rattle.std.proofs.lemmas.List.Sorted.{answers_always}
use Rattle.table_compiler.proofs.Order.{key_of, ascend}
use Rattle.table_compiler.proofs.tables.in_order.Goals as goal

pub returns-clause-ascending : goal.returns-clause-ascending
returns-clause-ascending c =
    let moved : IsPermutation c.args.links.now c.sort_unstable_by_key.new.self.items = search rules in
    ascend c.args.links.now c.sort_unstable_by_key.new.self.items c.requires.links c.requires.once moved (c.sort_unstable_by_key.ensures.sorted key_of (answers_always _ _ _ (λ f a r g h. search rules)))
