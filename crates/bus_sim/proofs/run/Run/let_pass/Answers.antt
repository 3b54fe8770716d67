use Rattle.bus_sim.proofs.Resting.{ends_settled, passes_so, some_time, untrue}
use Rattle.bus_sim.proofs.run.Run.let_pass.Goals as goal

pub returns-then-is_over-clause-turns : goal.returns-then-is_over-clause-turns
returns-then-is_over-clause-turns c =
    let over = c.is_over.ensures.0 c.if-is_over.true in
    passes_so c.args.self.now c.pass.new.self c.still_for-ms.result c.args.left over.0 c.requires.settled c.in_ok-pass.ensures.went c.still_for-ms.ensures.right.may
    (ends_settled c.args.self.now c.pass.new.self c.still_for-ms.result c.keeps.ensures c.requires.settled c.in_ok-pass.ensures.went over.1)

pub returns-else-is_over-clause-turns : goal.returns-else-is_over-clause-turns
returns-else-is_over-clause-turns c = (
  some_time c.args.self.now c.pass.new.self c.still_for-ms.result c.keeps.ensures c.requires.settled c.in_ok-pass.ensures.went c.args.left c.still_for-ms.ensures.few c.still_for-ms.ensures.some
      (λ over. untrue c.is_over.result c.if-is_over.false (c.is_over.ensures.1 over)),
  c.still_for-ms.ensures.few,
  record { settled = c.requires.settled; went = c.in_ok-pass.ensures.went; may = c.still_for-ms.ensures.right.may },
)
