use Rattle.std.proofs.Common.{◌++◌, sym, ap, ◌∙◌}
use Rattle.project_check.specs.Links.{lines_of}
use Rattle.project_check.proofs.Placed.{lines_to}
use Rattle.project_check.proofs.links.link_lines.Goals as goal

pub loop-place-preserved : goal.loop-place-preserved
loop-place-preserved c =
    let ss = c.args.statements.now in
    let i = c.loop-place.place in
    let s = c.index-statements-place.result in
    c.in_ok-add_line.ensures ∙ ap (λ ls. ls ++ lines_of i s.what) c.loop-place.invariant ∙ sym (lines_to ss i s c.loop-place-test.true c.index-statements-place.is)
