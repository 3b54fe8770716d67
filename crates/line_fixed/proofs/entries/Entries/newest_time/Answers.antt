use Rattle.std.proofs.Common.{◌≡◌, ◌-◌, suc, length, ap, ◌∙◌, arith, slice_index_or}
use Rattle.std.proofs.lemmas.Grind.{common_steps}
use Rattle.line_model.specs.LinkStory.{newest_time}
use Rattle.line_fixed.proofs.Wholes.{Last, last_of, newest_time_is}
use Rattle.line_fixed.proofs.entries.Entries.newest_time.Goals as goal

pub returns-in-Some : goal.returns-in-Some
returns-in-Some c =
    let at = length c.self.inside.stretches.items - 1 in
    let counted : suc at ≡ length c.self.inside.stretches.items = grind (arith, common_steps) in
    let item : c.in-Some.newest.now ≡ slice_index_or c.self.inside.stretches.items at c.in-Some.newest.now = grind (arith, common_steps) in
    let last : Last c.self.inside.stretches.items c.in-Some.newest.now at = last_of _ _ _ counted item in
    newest_time_is _ _ _ last ∙ ap newest_time c.self.view_is
