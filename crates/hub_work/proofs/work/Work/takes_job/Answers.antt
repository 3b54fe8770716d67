use Rattle.std.proofs.Common.{ap, refl, ◌∙◌}
use Rattle.hub_work.specs.declared.answers.Turned.TheVariants as answer
use Rattle.hub_work.proofs.OneTurn.{taken_follows}
use Rattle.hub_work.proofs.Came.{takes_none, none_waits}
use Rattle.hub_work.proofs.Unfinished.{finished}
use Rattle.hub_work.proofs.Waits.{took_isnt_no_more}
use Rattle.hub_work.proofs.work.Work.takes_job.Goals as goal

pub returns-in-Job-clause-follows : goal.returns-in-Job-clause-follows
returns-in-Job-clause-follows c = λ now. taken_follows now c.args.at c.args.self.now c.took.new.self c.take.new.self (answer.Took c.in-Job.job) c.took.result c.took.ensures.took (ap (λ r. r.devices) c.in-Job.ensures.after) c.took.ensures.follows

pub returns-in-Job-clause-finished : goal.returns-in-Job-clause-finished
returns-in-Job-clause-finished c = λ no_more. absurd (took_isnt_no_more c.took.result c.in-Job.job c.took.ensures.took no_more)

pub returns-in-NoMore-clause-finished : goal.returns-in-NoMore-clause-finished
returns-in-NoMore-clause-finished c = λ no_more jobs of.
    finished c.args.self.now jobs c.args.at c.args.worker c.requires.books (of ∙ ap (λ r. r.devices) c.in-NoMore.ensures.after) c.requires.worker c.requires.empty (c.in-NoMore.ensures.no_more.0 refl)

pub returns-in-Later-clause-came : goal.returns-in-Later-clause-came
returns-in-Later-clause-came c = takes_none c.args.self.now.crew c.args.worker (none_waits c.args.self.now.crew _ c.requires.empty)

pub returns-in-NoMore-clause-came : goal.returns-in-NoMore-clause-came
returns-in-NoMore-clause-came c = takes_none c.args.self.now.crew c.args.worker (none_waits c.args.self.now.crew _ c.requires.empty)
