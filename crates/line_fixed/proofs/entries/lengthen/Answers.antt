use Rattle.std.proofs.Common.{◌≡◌, ◌-◌, ◌<◌, suc, length, arith, slice_index_or}
use Rattle.std.specs.Vec.{vec_len}
use Rattle.line_fixed.specs.Entries.{whole}
use Rattle.std.proofs.lemmas.Grind.{common_steps}
use Rattle.line_fixed.proofs.Wholes.{Last, last_of, more_fits, lengthened}
use Rattle.line_fixed.proofs.entries.lengthen.Goals as goal

pub overflow_add-newest : goal.overflow_add-newest
overflow_add-newest c =
    let at = length c.args.stretches.now.items - 1 in
    let counted : suc at ≡ length c.args.stretches.now.items = grind (arith, common_steps) in
    let item : c.in-Some.newest.now ≡ slice_index_or c.args.stretches.now.items at c.in-Some.newest.now = grind (arith, common_steps) in
    let last : Last c.args.stretches.now.items c.in-Some.newest.now at = last_of _ _ _ counted item in
    let fits : c.in-Some.newest.now.more < length (whole c.args.stretches.now.items) = more_fits _ _ _ last in
    omega (arith, fits, c.requires)

pub returns-in-Some : goal.returns-in-Some
returns-in-Some c =
    let at = length c.args.stretches.now.items - 1 in
    let counted : suc at ≡ length c.args.stretches.now.items = grind (arith, common_steps) in
    let item : c.in-Some.newest.now ≡ slice_index_or c.args.stretches.now.items at c.in-Some.newest.now = grind (arith, common_steps) in
    let last : Last c.args.stretches.now.items c.in-Some.newest.now at = last_of _ _ _ counted item in
    let len : vec_len c.args.stretches.now ≡ length c.args.stretches.now.items = grind (arith, common_steps) in
    rw (len, last.got) (lengthened _ _ _ last)
