use Rattle.std.proofs.Common.{◌+◌, ◌-◌, ◌/◌, Ok, ap, ◌∙◌, arith}
use Rattle.std.proofs.lemmas.Result.{IfOk-at_ok, IfOk-weaker}
use Rattle.project_check.specs.Parts.{IsFirstBetween}
use Rattle.project_check.proofs.Judged.{found_first, found_later}
use Rattle.project_check.proofs.parts.+halves.Goals as goal

pub returns-in-Some : goal.returns-in-Some
returns-in-Some g t c =
    let from = c.args.from in
    let to = c.args.to in
    let middle = from + (to - from) / 2 in
    let known = g.J.Judge.known c.args.judge.now in
    let ss = g.J.Judge.text c.args.judge.now in
    let first = IfOk-at_ok (IsFirstBetween known ss from middle) {r = c.join-found.result.0} (c.in_ok-refused.was ∙ ap Ok c.in-Some.is) c.join-found.ensures.first in
    found_first known ss from middle to c.in-Some.refused (omega arith) (omega (arith, c.requires)) c.requires.1 first

pub returns-in-None : goal.returns-in-None
returns-in-None g t c =
    let from = c.args.from in
    let to = c.args.to in
    let middle = from + (to - from) / 2 in
    let known = g.J.Judge.known c.args.judge.now in
    let ss = g.J.Judge.text c.args.judge.now in
    let first = IfOk-at_ok (IsFirstBetween known ss from middle) {r = c.join-found.result.0} (c.in_ok-refused.was ∙ ap Ok c.in-None.is) c.join-found.ensures.first in
    IfOk-weaker c.join-found.result.1 (IsFirstBetween known ss middle to) (IsFirstBetween known ss from to) (found_later known ss from middle to (omega arith) (omega (arith, c.requires)) c.requires.1 first) c.join-found.ensures.second
