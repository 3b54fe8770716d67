use Rattle.std.proofs.Common.{◌≡◌, ◌∷◌, arith}
use Rattle.std.specs.Prelude.{slice_get, ◌+◌}
use Rattle.std.proofs.lemmas.Grind.{common_steps}
use Rattle.line_model.specs.LinkStory.{newest_time}
use Rattle.line_fixed.specs.Fixed.{brought, lasts, next_of, Answers}
use Rattle.line_fixed.proofs.Answered.{polled_so}
use Rattle.line_fixed.proofs.link.FixedLink.wait.Goals as goal

pub returns-clause-polled : goal.returns-clause-polled
returns-clause-polled c =
    let link = c.args.self.now in
    let next = next_of link.gives link.last link.answered in
    let answer : Answers c.in_ok-item.polled c.brought.new.into next = grind (arith, common_steps) in
    let is : c.add.new.self ≡ brought next (newest_time link.entries + lasts (slice_get link.lasting link.answered) next c.args.wait_ms) ∷ link.entries = grind (arith, common_steps) in
    let kept : c.begin.new.self.lasting ≡ link.lasting = grind (arith, common_steps) in
    rw (is, kept) (polled_so _ _ next c.args.wait_ms link.lasting link.answered link.entries answer)
