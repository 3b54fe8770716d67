use Rattle.std.proofs.Common.{◌≡◌, [], ◌∷◌, ◌++◌, ◌∙◌, ap, arith}
use Rattle.std.proofs.lemmas.Grind.{common_steps}
use Rattle.line_fixed.specs.PortItems.{told, newest_first}
use Rattle.line_fixed.proofs.NewestFirst.{added}
use Rattle.line_fixed.proofs.port_items.PortItems.add.Goals as goal

pub returns : goal.returns
returns c =
    let grown : c.push.new.self.items ≡ c.self.inside.items.items ++ c.args.item ∷ [] = grind (arith, common_steps) in
    ap newest_first grown ∙ added c.self.inside.items.items c.args.item ∙ ap (λ items. told c.args.item ∷ items) c.self.view_is
