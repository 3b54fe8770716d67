use Rattle.std.proofs.Common.{refl, subst}
use Rattle.hub_work.specs.declared.answers.Turned.TheVariants as answer
use Rattle.hub_work.proofs.OneTurn.{counted_follows}
use Rattle.hub_work.proofs.Crews.{same_jobs_held, same_length}
use Rattle.hub_work.proofs.KeptBooks.{same_keeps}
use Rattle.hub_work.specs.declared.work.turn.Turn.TheVariants as turn
use Rattle.hub_work.specs.Turns.{TurnSuits}
use Rattle.hub_work.proofs.Waits.{none_taken_in, one_taken_in, nothing_taken_in, nothing_held, something_came, all_taken, moved_isnt_wait, holder_isnt_done, is_some_number, none_came}
use Rattle.hub_work.proofs.work.Work.turn.Goals as goal

pub returns-in-None-clause-placed : goal.returns-in-None-clause-placed
returns-in-None-clause-placed c = c.takes_job.ensures.placed c.args.has_place

pub returns-in-None-clause-follows : goal.returns-in-None-clause-follows
returns-in-None-clause-follows c = c.takes_job.ensures.follows c.args.now

pub returns-in-Some-clause-books : goal.returns-in-Some-clause-books
returns-in-Some-clause-books c =
    same_keeps c.args.at c.args.self.now (record c.args.self.now { crew = c.takes_in.new.self })
    (record { reservation = refl; turns = refl; told = refl; held = same_jobs_held c.args.self.now.crew c.takes_in.new.self c.takes_in.ensures.held; journal = refl; unfinished = refl; tasks_are = refl; closing = refl }) c.requires.books

pub returns-in-Some-clause-run : goal.returns-in-Some-clause-run
returns-in-Some-clause-run c = record { devices = refl; tasks_are = refl; closing = refl; turns = refl; workers = same_length c.args.self.now.crew c.takes_in.new.self c.takes_in.ensures.held }

pub returns-in-Some-2-clause-finished : goal.returns-in-Some-2-clause-finished
returns-in-Some-2-clause-finished c = λ no_more. absurd (holder_isnt_done c.works.result c.in-Some.held c.works.ensures.suits no_more)

pub returns-in-Some-clause-follows : goal.returns-in-Some-clause-follows
returns-in-Some-clause-follows c = counted_follows c.args.now c.args.at c.args.self.now c.takes_in.new.self answer.Moved c.takes_in.ensures.held

pub returns-in-None-clause-waits : goal.returns-in-None-clause-waits
returns-in-None-clause-waits c = nothing_held c.args.self.now c.args.worker c.args.now c.args.at c.args.has_place c.takes_job.result (c.in-None.ensures.place c.requires.worker)

pub returns-in-Some-clause-waits : goal.returns-in-Some-clause-waits
returns-in-Some-clause-waits c =
    something_came c.args.self.now c.args.worker c.args.now c.args.at c.args.has_place c.in-Some.held (turn.Did answer.Moved) (c.in-Some.ensures.place c.requires.worker) (is_some_number c.in-Some.held.came c.if-held-gt0.true) moved_isnt_wait

pub returns-in-Some-2-clause-waits : goal.returns-in-Some-2-clause-waits
returns-in-Some-2-clause-waits c =
    all_taken c.args.self.now c.args.worker c.args.now c.args.at c.args.has_place c.in-Some.held c.works.result (c.in-Some.ensures.place c.requires.worker) (none_came c.in-Some.held.came c.if-held-gt0.false) c.works.ensures.waits

pub returns-in-None-clause-suits : goal.returns-in-None-clause-suits
returns-in-None-clause-suits c = subst (TurnSuits c.takes_job.result) (c.in-None.ensures.place c.requires.worker) c.takes_job.ensures.suits

pub returns-in-Some-clause-suits : goal.returns-in-Some-clause-suits
returns-in-Some-clause-suits c = subst (TurnSuits (turn.Did answer.Moved)) (c.in-Some.ensures.place c.requires.worker) tt

pub returns-in-Some-2-clause-suits : goal.returns-in-Some-2-clause-suits
returns-in-Some-2-clause-suits c = subst (TurnSuits c.works.result) (c.in-Some.ensures.place c.requires.worker) c.works.ensures.suits

pub returns-in-None-clause-takes_in : goal.returns-in-None-clause-takes_in
returns-in-None-clause-takes_in c = none_taken_in c.args.self.now.crew _ c.takes_job.result (c.in-None.ensures.place c.requires.worker) c.takes_job.ensures.suits

pub returns-in-Some-clause-takes_in : goal.returns-in-Some-clause-takes_in
returns-in-Some-clause-takes_in c = one_taken_in c.args.self.now.crew _ c.in-Some.held (c.in-Some.ensures.place c.requires.worker) c.if-held-gt0.true

pub returns-in-Some-2-clause-takes_in : goal.returns-in-Some-2-clause-takes_in
returns-in-Some-2-clause-takes_in c = nothing_taken_in c.args.self.now.crew _ c.in-Some.held c.works.result (c.in-Some.ensures.place c.requires.worker) c.if-held-gt0.false c.works.ensures.takes_none_in
