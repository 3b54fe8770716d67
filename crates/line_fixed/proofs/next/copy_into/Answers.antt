use Rattle.std.proofs.Common.{◌≡◌, ◌≤◌, rules, length, min, arith, length-take, ap, ◌∙◌}
use Rattle.line_fixed.proofs.next.copy_into.Goals as goal

pub slice_bounds-copy_from_slice-end : goal.slice_bounds-copy_from_slice-end
slice_bounds-copy_from_slice-end c =
    let len : length c.front-cut.result.now ≡ min 512 (length c.args.octets.now) = ap length c.front-cut.ensures ∙ length-take 512 c.args.octets.now in
    let fits : length c.front-cut.result.now ≤ 512 = omega (arith, len) in
    search rules

pub returns-clause-len : goal.returns-clause-len
returns-clause-len c = ap length c.front-cut.ensures ∙ length-take 512 c.args.octets.now
