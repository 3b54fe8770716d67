use Rattle.std.proofs.Common.{◌≡◌, ◌+◌, ◌-◌, length, sym, refl, ap, ◌∙◌, subst, arith}
use Rattle.std.specs.Option.{IsSome}
use Rattle.std.proofs.lemmas.Option.{same_Some}
use Rattle.knx_gen.specs.Generated.{group_name, group_names}
use Rattle.knx_gen.proofs.Names.{length_names, named}
use Rattle.knx_gen.proofs.group_names.GroupNames.name_of.Goals as goal

pub bounds-names-from : goal.bounds-names-from
bounds-names-from c =
    let all : c.as_slice-names.result.now ≡ group_names 2003 = c.as_slice-names.ensures ∙ c.self.invariant in
    omega (arith, ap length all, length_names 2003, c.from.ensures, c.requires.from_1, c.requires.to_2003)

pub unwrap-requires : goal.unwrap-requires
unwrap-requires c =
    let all : c.as_slice-names.result.now ≡ group_names 2003 = c.as_slice-names.ensures ∙ c.self.invariant in
    let at : 1 + (c.from.result - 1) ≡ c.args.raw = omega (arith, c.from.ensures, c.requires.from_1) in
    subst IsSome (sym (named c.as_slice-names.result.now (c.from.result - 1) c.args.raw c.index-names-from.result c.as_slice.result.now c.of.result all at c.requires.to_2003 c.index-names-from.is c.as_slice.ensures c.of.ensures)) refl

pub returns : goal.returns
returns c =
    let all : c.as_slice-names.result.now ≡ group_names 2003 = c.as_slice-names.ensures ∙ c.self.invariant in
    let at : 1 + (c.from.result - 1) ≡ c.args.raw = omega (arith, c.from.ensures, c.requires.from_1) in
    same_Some c.unwrap.result (group_name c.args.raw)
    (sym c.unwrap.ensures ∙ named c.as_slice-names.result.now (c.from.result - 1) c.args.raw c.index-names-from.result c.as_slice.result.now c.of.result all at c.requires.to_2003 c.index-names-from.is c.as_slice.ensures c.of.ensures)
