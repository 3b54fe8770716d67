use Rattle.std.proofs.Common.{refl, subst}
use Rattle.download_core.specs.Attempt.{DownloaderState}
use Rattle.download_core.specs.Calls.{confirmed}
use Rattle.hub_work.proofs.Moments.{changed_books}
use Rattle.hub_work.proofs.Confirmed.{confirmed_of_nobody, confirmed_of_group, confirmed_of_worker, confirmed_of_none}
use Rattle.hub_work.specs.declared.work.Sender.{Sender}
use Rattle.hub_work.specs.CameFor.{IsConfirmed}
use Rattle.hub_work.proofs.CameFor.{of_nobody, of_group, of_none}
use Rattle.hub_work.proofs.work.Work.confirmed.Goals as goal

pub returns-in-Nobody-clause-follows : goal.returns-in-Nobody-clause-follows
returns-in-Nobody-clause-follows c = confirmed_of_nobody c.of_a_downloader.ensures c.args.self.now c.replace.new.dest c.args.error c.args.now c.in-Nobody.ensures.after c.in-Nobody.ensures.value

pub returns-in-GroupThread-clause-follows : goal.returns-in-GroupThread-clause-follows
returns-in-GroupThread-clause-follows c = confirmed_of_group c.of_a_downloader.ensures c.args.self.now c.replace.new.dest c.args.error c.args.now c.in-GroupThread.ensures.after c.confirmed.new.self c.confirmed.ensures c.in-GroupThread.ensures.value

pub returns-in-Some-clause-books : goal.returns-in-Some-clause-books
returns-in-Some-clause-books c = changed_books c.args.self.now c.confirmed-in-Some.new.self c.came.new.self c.replace.new.dest (λ (x : DownloaderState). confirmed x c.args.error c.args.now) c.in-Some.held.job (λ x. refl) c.confirmed-in-Some.ensures c.came.ensures.held

pub returns-in-Some-clause-follows : goal.returns-in-Some-clause-follows
returns-in-Some-clause-follows c =
    confirmed_of_worker c.of_a_downloader.ensures c.args.self.now c.replace.new.dest c.args.error c.args.now c.in-Worker.ensures.after c.confirmed-in-Some.new.self c.came.new.self c.in-Worker.worker c.in-Some.held c.in-Worker.ensures.value c.in-Some.ensures.from_1
    (c.in-Some.ensures.place c.in-Some.ensures.from_1) c.confirmed-in-Some.ensures c.came.ensures.held

pub returns-in_default-clause-follows : goal.returns-in_default-clause-follows
returns-in_default-clause-follows c = confirmed_of_none c.of_a_downloader.ensures c.args.self.now c.replace.new.dest c.args.error c.args.now c.in-Worker.ensures.after c.in-Worker.worker c.in-Worker.ensures.value c.in_default.ensures.place

pub returns-in-Nobody-clause-came : goal.returns-in-Nobody-clause-came
returns-in-Nobody-clause-came c = of_nobody c.args.self.now.sender c.args.self.now.crew c.in-Nobody.ensures.value

pub returns-in-GroupThread-clause-came : goal.returns-in-GroupThread-clause-came
returns-in-GroupThread-clause-came c = of_group c.args.self.now.sender c.args.self.now.crew c.in-GroupThread.ensures.value

pub returns-in-Some-clause-came : goal.returns-in-Some-clause-came
returns-in-Some-clause-came c = subst (λ (s : Sender). IsConfirmed s c.args.self.now.crew c.came.new.self) c.in-Worker.ensures.value c.came.ensures.came

pub returns-in_default-clause-came : goal.returns-in_default-clause-came
returns-in_default-clause-came c = of_none c.args.self.now.sender c.args.self.now.crew c.in-Worker.worker c.in-Worker.ensures.value c.in_default.ensures.place
