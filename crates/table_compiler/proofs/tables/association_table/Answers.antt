use Rattle.std.proofs.Common.{◌≡◌, ◌∙◌, ◌++◌, ap, length, take, List, arith}
use Rattle.std.specs.List.{flat_map}
use Rattle.std.proofs.lemmas.List.{take_all}
use Rattle.knx_model.specs.declared.config.LinkSpec.{LinkSpec}
use Rattle.knx_model.specs.Tables.{two, pair}
use Rattle.table_compiler.specs.Order.{pair_of}
use Rattle.table_compiler.proofs.Lengths.{pairs_of}
use Rattle.table_compiler.proofs.tables.association_table.Goals as goal

pub returns : goal.returns
returns c =
    let groups = c.args.groups.now in
    let order = c.args.order.now in
    let all : take c.loop-link.link-index order ≡ order = take_all c.loop-link.link-index order (omega (arith, c.loop-link-test.false)) in
    c.from_vec.ensures ∙ c.loop-link.invariant ∙ ap (λ (ls : List LinkSpec). two (length order) ++ flat_map (λ l. pair (pair_of groups l)) ls) all ∙ pairs_of groups order
