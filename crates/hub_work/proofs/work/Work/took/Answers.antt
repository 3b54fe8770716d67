use Rattle.std.proofs.Common.{refl, ap, false, ◌-◌, ◌∙◌, List, length, Option}
use Rattle.std.proofs.lemmas.List.{length-set}
use Rattle.hub_work.specs.declared.crew.Held.{Held}
use Rattle.hub_work.proofs.Rooms.{room_to_take}
use Rattle.hub_work.proofs.Works.{taking_holds, taking_untaken}
use Rattle.hub_work.proofs.KeptBooks.{take_books}
use Rattle.hub_work.proofs.Logs.{took_follows}
use Rattle.hub_work.proofs.Came.{puts_none, none_waits}
use Rattle.hub_work.proofs.work.Work.took.Goals as goal

pub add-requires : goal.add-requires
add-requires c = room_to_take c.args.self.now c.args.at c.args.worker c.args.job c.requires.taking

pub device_of-device-requires : goal.device_of-device-requires
device_of-device-requires c = taking_holds c.args.self.now c.args.at c.args.worker c.args.job c.requires.taking

pub returns-clause-books : goal.returns-clause-books
returns-clause-books c =
    take_books c.args.self.now (record c.args.self.now { journal = c.add.new.self; crew = c.takes.new.self }) c.args.at c.args.worker c.args.job
    (record { job = c.args.job; device = c.device_of-device.result; begun = false; came = 0 }) refl c.requires.taking c.requires.worker c.requires.within c.requires.empty refl refl refl c.takes.ensures c.add.ensures.added c.add.ensures.room

pub returns-clause-run : goal.returns-clause-run
returns-clause-run c = record {
  devices = refl;
  tasks_are = refl;
  closing = refl;
  turns = refl;
  workers = ap (λ (crew : List (Option Held)). length crew) c.takes.ensures ∙ length-set c.args.self.now.crew (c.args.worker - 1) _;
}

pub returns-clause-follows : goal.returns-clause-follows
returns-clause-follows c =
    took_follows c.of_a_downloader.ensures c.args.self.now c.add.new.self c.takes.new.self c.args.at c.args.worker c.args.job
    (record { job = c.args.job; device = c.device_of-device.result; begun = false; came = 0 }) c.add.ensures.added c.takes.ensures refl refl c.requires.worker c.requires.within c.requires.empty c.device_of-device.ensures
    (taking_untaken c.args.self.now c.args.at c.args.worker c.args.job c.requires.taking)

pub returns-clause-came : goal.returns-clause-came
returns-clause-came c = puts_none c.args.self.now.crew c.takes.new.self c.args.worker _ c.takes.ensures refl (none_waits c.args.self.now.crew _ c.requires.empty)
