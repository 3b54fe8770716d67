use Rattle.std.proofs.Common.{◌≡◌, Err, arith}
use Rattle.std.proofs.lemmas.Grind.{common_steps}
use Rattle.line_fixed.proofs.Stories.{polls_nothing}
use Rattle.line_fixed.proofs.failing.FailingLinkLink.poll.Goals as goal

pub returns-in_err-begin-clause-polled : goal.returns-in_err-begin-clause-polled
returns-in_err-begin-clause-polled g c =
    let same : c.begin.new.self.link ≡ c.args.self.now.link = grind (arith, common_steps) in
    let failed : c.from_residual.result ≡ Err c.in_err-begin.field-0.0 = grind (arith, common_steps) in
    rw (failed, same) (polls_nothing c.args.wait_ms (g.L.Link.story c.args.self.now.link))
