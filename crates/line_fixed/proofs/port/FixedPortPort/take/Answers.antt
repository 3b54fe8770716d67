use Rattle.std.proofs.Common.{◌≡◌, ◌∷◌, arith}
use Rattle.std.proofs.lemmas.Grind.{common_steps}
use Rattle.std.specs.Prelude.{slice_get}
use Rattle.line_fixed.specs.Fixed.{took, AnswersPort}
use Rattle.line_fixed.proofs.Answered.{taken_so}
use Rattle.line_fixed.proofs.port.FixedPortPort.take.Goals as goal

pub returns-clause-taken : goal.returns-clause-taken
returns-clause-taken c =
    let port = c.args.self.now in
    let next = slice_get port.gives port.answered in
    let answer : AnswersPort c.in_ok-item.polled c.taken.new.into next = grind (arith, common_steps) in
    let is : c.add.new.self ≡ took next c.args.wait_ms ∷ port.items = grind (arith, common_steps) in
    rw is (taken_so _ _ next c.args.wait_ms port.items answer)
