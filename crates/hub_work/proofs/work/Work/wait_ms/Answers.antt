use Rattle.std.proofs.Common.{◌≡◌, ◌≤◌, ◌+◌, ℕ, Option, Some, length, sym, subst, arith}
use Rattle.line_model.specs.Waiting.{longest_poll, LastsUntil}
use Rattle.hub_work.proofs.Lasting.{LooksSoFar, none_so_far, one_more, looks_all, waits_all}
use Rattle.hub_work.proofs.PollsRight.{lasts_once_sent, polls_rightly}
use Rattle.hub_work.proofs.work.Work.wait_ms.Goals as goal

pub loop-place-init : goal.loop-place-init
loop-place-init c =
    none_so_far c.args.self.now c.args.now c.args.has_place c.until-wait.result (subst (λ (d : Option ℕ). LastsUntil longest_poll (λ t. d ≡ Some t) c.args.now c.until-wait.result) c.closing_deadline.ensures c.until-wait.ensures)

pub loop-place-preserved : goal.loop-place-preserved
loop-place-preserved c =
    subst (LooksSoFar c.args.self.now c.args.now c.args.has_place (c.loop-place.place + 1)) (sym c.min-wait.ensures) (one_more c.args.self.now c.args.now c.args.has_place c.loop-place.place c.loop-place.wait c.wait_of.result c.loop-place.invariant c.wait_of.ensures)

pub returns-clause-looks : goal.returns-clause-looks
returns-clause-looks c =
    let all : length c.args.self.now.crew ≤ c.loop-place.place = (let end = c.len-place-end.ensures in let test = c.loop-place-test.false in omega (arith, end, test)) in
    looks_all c.args.self.now c.args.now c.args.has_place c.loop-place.place c.loop-place.wait all c.loop-place.invariant

pub returns-clause-waits : goal.returns-clause-waits
returns-clause-waits c =
    let all : length c.args.self.now.crew ≤ c.loop-place.place = (let end = c.len-place-end.ensures in let test = c.loop-place-test.false in omega (arith, end, test)) in
    waits_all c.args.self.now c.args.now c.args.has_place c.loop-place.place c.loop-place.wait all c.loop-place.invariant

pub returns-clause-rightly : goal.returns-clause-rightly
returns-clause-rightly c =
    let all : length c.args.self.now.crew ≤ c.loop-place.place = (let end = c.len-place-end.ensures in let test = c.loop-place-test.false in omega (arith, end, test)) in
    polls_rightly c.of_a_downloader.ensures c.args.self.now c.args.now c.args.has_place c.loop-place.wait (looks_all c.args.self.now c.args.now c.args.has_place c.loop-place.place c.loop-place.wait all c.loop-place.invariant)
    (waits_all c.args.self.now c.args.now c.args.has_place c.loop-place.place c.loop-place.wait all c.loop-place.invariant)

pub returns-clause-sent : goal.returns-clause-sent
returns-clause-sent c =
    let all : length c.args.self.now.crew ≤ c.loop-place.place = (let end = c.len-place-end.ensures in let test = c.loop-place-test.false in omega (arith, end, test)) in
    lasts_once_sent c.of_a_downloader.ensures c.args.self.now c.args.now c.args.has_place c.loop-place.wait (looks_all c.args.self.now c.args.now c.args.has_place c.loop-place.place c.loop-place.wait all c.loop-place.invariant)
