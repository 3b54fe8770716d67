use Rattle.std.proofs.Common.{◌≡◌, ◌≤◌, length, sym, ◌∙◌, arith}
use Rattle.hub_work.proofs.Lasting.{none_busy_yet, none_busy_more, none_busy_at_all}
use Rattle.hub_work.proofs.PollsRight.{is_busy_rightly, is_idle_rightly}
use Rattle.hub_work.proofs.work.Work.is_busy.Goals as goal

pub loop-place-init : goal.loop-place-init
loop-place-init c = none_busy_yet c.args.self.now c.args.now c.args.has_place

pub loop-place-preserved : goal.loop-place-preserved
loop-place-preserved c = none_busy_more c.args.self.now c.args.now c.args.has_place c.loop-place.place c.loop-place.invariant (sym c.is_busy_at.ensures ∙ c.if-is_busy_at.false)

pub returns-then-is_busy_at : goal.returns-then-is_busy_at
returns-then-is_busy_at c = record { rightly = is_busy_rightly c.of_a_downloader.ensures c.args.self.now c.args.now c.args.has_place c.loop-place.place (sym c.is_busy_at.ensures ∙ c.if-is_busy_at.true) }

pub returns : goal.returns
returns c =
    let all : length c.args.self.now.crew ≤ c.loop-place.place = (let end = c.len-place-end.ensures in let test = c.loop-place-test.false in omega (arith, end, test)) in
    record { rightly = is_idle_rightly c.of_a_downloader.ensures c.args.self.now c.args.now c.args.has_place (none_busy_at_all c.args.self.now c.args.now c.args.has_place c.loop-place.place all c.loop-place.invariant) }
