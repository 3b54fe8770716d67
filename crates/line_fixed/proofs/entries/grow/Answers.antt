use Rattle.std.proofs.Common.{◌≡◌, [], ◌∷◌, ◌++◌, ◌∙◌, ap, arith}
use Rattle.std.proofs.lemmas.Grind.{common_steps}
use Rattle.line_fixed.specs.declared.item.Stretch.{Stretch}
use Rattle.line_fixed.specs.Entries.{whole}
use Rattle.line_fixed.proofs.Wholes.{whole_newest}
use Rattle.line_fixed.proofs.entries.grow.Goals as goal

pub returns : goal.returns
returns c =
    let newest : Stretch = record { what = c.args.what; now = c.args.now; more = 0 } in
    let grown : c.push.new.self.items ≡ c.args.stretches.now.items ++ newest ∷ [] = grind (arith, common_steps) in
    ap whole grown ∙ whole_newest c.args.stretches.now.items newest
