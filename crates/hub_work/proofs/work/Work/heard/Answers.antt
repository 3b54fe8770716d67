use Rattle.std.proofs.Common.{refl}
use Rattle.download_core.specs.Attempt.{DownloaderState}
use Rattle.download_core.specs.Calls.{taken}
use Rattle.hub_work.proofs.Heard.{heard_by_worker, heard_by_none}
use Rattle.hub_work.proofs.Moments.{changed_books}
use Rattle.hub_work.specs.CameFor.{ForNobody}
use Rattle.hub_work.proofs.CameFor.{for_holder, not_of_none}
use Rattle.hub_work.proofs.work.Work.heard.Goals as goal

pub returns-in-Some-at-clause-books : goal.returns-in-Some-at-clause-books
returns-in-Some-at-clause-books c =
    changed_books c.args.self.now c.take.new.self c.came_at.new.self c.args.self.now.sender (λ (s : DownloaderState). taken s c.as_slice.result.now c.args.now) c.in-Some-at.held.job (λ s. refl) c.take.ensures c.came_at.ensures.held

pub returns-in-Some-at-clause-follows : goal.returns-in-Some-at-clause-follows
returns-in-Some-at-clause-follows c =
    heard_by_worker c.of_a_downloader.ensures c.args.self.now c.args.frame.now c.as_slice.result.now c.args.now c.as_slice.ensures.value c.take.new.self c.came_at.new.self c.in-Some.place c.in-Some-at.held c.in-Some-at.ensures c.in-Some.ensures.found c.take.ensures c.came_at.ensures.held

pub returns-in_default-clause-follows : goal.returns-in_default-clause-follows
returns-in_default-clause-follows c = heard_by_none c.of_a_downloader.ensures c.args.self.now c.args.frame.now c.args.frame.now.tpdu c.args.now refl (c.of_device.ensures.none c.in_default.is)

pub returns-in-Some-at-clause-came : goal.returns-in-Some-at-clause-came
returns-in-Some-at-clause-came c = for_holder _ _ _ c.in-Some.place c.in-Some-at.held c.in-Some-at.ensures c.in-Some.ensures.found c.came_at.ensures.came

pub returns-in_default-clause-came : goal.returns-in_default-clause-came
returns-in_default-clause-came c = ForNobody (c.of_device.ensures.none c.in_default.is) refl

pub returns-in_default-at-clause-came : goal.returns-in_default-at-clause-came
returns-in_default-at-clause-came c = absurd (not_of_none _ _ c.in_default-at.ensures c.in-Some.ensures.found)
