use Rattle.std.proofs.Common.{refl, ap, sym, subst, map, ◌≤◌, ◌+◌, ◌-◌, ◌∙◌, List, length, Option, None}
use Rattle.std.proofs.lemmas.List.{length-set}
use Rattle.hub_work.specs.declared.crew.Held.{Held}
use Rattle.hub_work.specs.Downloaders.{states, task_of_state}
use Rattle.hub_work.proofs.Works.{holder_holds}
use Rattle.hub_work.proofs.KeptBooks.{room_for_end, end_books}
use Rattle.hub_work.proofs.Logs.{end_follows}
use Rattle.hub_work.specs.Came.{TakesOneIn}
use Rattle.hub_work.proofs.Came.{puts_none, holder_waits}
use Rattle.hub_work.proofs.work.Work.tells_end.Goals as goal

pub add-requires : goal.add-requires
add-requires c = room_for_end c.args.self.now c.args.at c.args.worker c.args.held c.requires.books c.requires.worker c.requires.holder

pub finish-requires : goal.finish-requires
finish-requires c = holder_holds c.args.self.now c.args.worker c.args.held c.requires.books.live c.requires.worker c.requires.holder

pub returns-clause-books : goal.returns-clause-books
returns-clause-books c =
    end_books c.args.self.now c.forget.new.self c.args.at c.args.worker c.args.held c.args.what c.requires.books c.requires.worker c.requires.holder c.requires.what
    (c.forget.ensures.reservation ∙ c.finish.ensures) c.forget.ensures.telegrams c.forget.ensures.unfinished (c.forget.ensures.crew ∙ c.ends.ensures) (ap (λ j. j.entries) c.forget.ensures.journal ∙ c.add.ensures.added)
    (subst (λ j. c.args.self.now.journal.room ≤ j.room + 1) (sym c.forget.ensures.journal) c.add.ensures.room)

pub returns-clause-follows : goal.returns-clause-follows
returns-clause-follows c =
    end_follows c.args.self.now c.forget.new.self c.args.at c.args.worker c.args.held c.args.what (ap (λ r. r.devices) (c.forget.ensures.reservation ∙ c.finish.ensures)) c.forget.ensures.downloaders c.forget.ensures.telegrams
    (ap (λ j. j.entries) c.forget.ensures.journal ∙ c.add.ensures.added) (c.forget.ensures.crew ∙ c.ends.ensures) c.forget.ensures.sender c.requires.worker c.requires.holder c.requires.what

pub returns-clause-run : goal.returns-clause-run
returns-clause-run c = record {
  devices = ap (λ r. r.devices) (c.forget.ensures.reservation ∙ c.finish.ensures);
  tasks_are = ap (λ d. map task_of_state (states d)) c.forget.ensures.downloaders;
  turns = ap (λ t. t.turns) c.forget.ensures.telegrams;
  closing = c.forget.ensures.closing;
  workers = ap (λ (crew : List (Option Held)). length crew) (c.forget.ensures.crew ∙ c.ends.ensures) ∙ length-set c.args.self.now.crew (c.args.worker - 1) None;
}

pub returns-clause-came : goal.returns-clause-came
returns-clause-came c =
    subst (TakesOneIn c.args.worker c.args.self.now.crew) (sym c.forget.ensures.crew)
    (puts_none c.args.self.now.crew c.ends.new.self c.args.worker _ c.ends.ensures refl (holder_waits c.args.self.now.crew _ c.args.held c.requires.holder c.requires.taken_in))
