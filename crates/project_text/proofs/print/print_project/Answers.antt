use Rattle.std.proofs.Common.{◌≡◌, ◌≤◌, ap, length, Ok, arith}
use Rattle.std.proofs.lemmas.Result.{IfOk-weaker}
use Rattle.knx_model.specs.Statements.{reading}
use Rattle.project_text.specs.Printing.{printed, renumbered_from}
use Rattle.project_text.proofs.Again.{reading_again}
use Rattle.project_text.proofs.print.print_project.Goals as goal

pub returns-clause-again : goal.returns-clause-again
returns-clause-again c = IfOk-weaker c.print_all.result (λ text. text ≡ printed c.as_slice.result.now)
    (λ text. length text ≤ 4194304 → reading text ≡ Ok (renumbered_from 1 c.args.project.now.statements))
    (λ text is short.
    let same = rw c.as_slice.ensures at is in
    rw same (reading_again c.args.project.now.statements c.args.project.now.spelled (omega (arith, ap length same))))
    c.print_all.ensures
